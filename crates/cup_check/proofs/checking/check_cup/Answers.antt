-- What the reading of the part comes to, by the number of the line at which it stops; and what an
-- accepted part says is true by the law.
use Rattle.std.proofs.Common.{◌∙◌, Err, length, subst, sym}
use Rattle.std.proofs.lemmas.List.{length-map}
use Rattle.kept_lines.specs.LineLists.{NumberedLine}
use Rattle.cert_check.specs.declared.stop.CheckStop.{CheckStop}
use Rattle.cert_check.proofs.GoesLemmas.{all_shown_ends, halts_within, stop_checks}
use Rattle.cup_sheet.specs.Cups.{clubs_together}
use Rattle.cup_grammar.specs.CupReports.{cup_grammar, cup_token_of, cup_tokens_of}
use Rattle.cup_grammar.specs.CupReports.{part_of_cup_ask}
use Rattle.cup_grammar.specs.inside.CupRowTruths.{SaysTrulyInCup}
use Rattle.cup_check.specs.inside.CupCheckCalls.{ChecksCup}
use Rattle.cup_check.specs.inside.CupGoes.{CupReportView}
use Rattle.cup_check.proofs.checking.check_cup.Goals as goal

pub returns-in-Ok : goal.returns-in-Ok
returns-in-Ok c =
    let judged : CupReportView = record {
      basis = record {
        cup = c.args.cup.now;
        seasons = c.args.seasons.now;
        epoch = c.args.epoch;
      };
      tokens = cup_tokens_of c.args.lines.now;
    } in
    let found = c.in-Ok.found in
    let whole = all_shown_ends cup_grammar judged c.args.from (part_of_cup_ask c.args.cup.now)
    found (c.in-Ok.ensures {u = tt}) in (
      whole,
      c.from.ensures ∙ c.clubs.ensures,
      c.accepted_cup_parts_are_true.ensures judged.basis c.args.lines.now c.args.from found.next
          found.unsettled c.requires.cup c.requires.seasons c.recall_results.ensures whole,
    )

pub by_number-requires : goal.by_number-requires
by_number-requires c =
    let judged : CupReportView = record {
      basis = record {
        cup = c.args.cup.now;
        seasons = c.args.seasons.now;
        epoch = c.args.epoch;
      };
      tokens = cup_tokens_of c.args.lines.now;
    } in
    halts_within cup_grammar judged c.args.from (part_of_cup_ask c.args.cup.now)
    (length c.args.lines.now) c.in-Err.stop
    (length-map c.args.lines.now (λ (it : NumberedLine). cup_token_of it.text))
    (c.in-Err.ensures {u = tt})

pub returns-in-Err : goal.returns-in-Err
returns-in-Err c =
    let judged : CupReportView = record {
      basis = record {
        cup = c.args.cup.now;
        seasons = c.args.seasons.now;
        epoch = c.args.epoch;
      };
      tokens = cup_tokens_of c.args.lines.now;
    } in
    let cup = c.args.cup.now in
    let lines = c.args.lines.now in
    let Checks : CheckStop → Type 0 = λ it. ChecksCup judged.basis lines c.args.from (Err it) in
    subst Checks (sym c.by_number.ensures)
    (stop_checks cup_grammar judged c.args.from (part_of_cup_ask cup) lines
    (clubs_together cup.groups) (SaysTrulyInCup judged.basis lines c.args.from) c.in-Err.stop
    (length-map lines (λ (it : NumberedLine). cup_token_of it.text))
    (c.in-Err.ensures {u = tt}))
