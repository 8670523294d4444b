use Rattle.std.proofs.Common.{◌*◌, Err, length, subst, sym}
use Rattle.std.proofs.lemmas.List.{length-map}
use Rattle.cert_check.specs.declared.stop.CheckStop.{CheckStop}
use Rattle.line_tokens.specs.Tokens.{token_of}
use Rattle.kept_lines.specs.LineLists.{NumberedLine}
use Rattle.line_tokens.specs.Tokens.{tokens_of}
use Rattle.cert_check.specs.Machine.{part_of_ask, report_grammar}
use Rattle.cert_check.specs.inside.Calls.{ChecksPart, ReportView, SaysTruly}
use Rattle.cert_check.specs.Machine.{basis_of}
use Rattle.cert_check.proofs.GoesLemmas.{all_shown_ends, halts_within, stop_checks}
use Rattle.cert_check.proofs.TruthLemmas.{told_truly}
use Rattle.cert_check.proofs.checking.check.Goals as goal

pub returns-in-Ok : goal.returns-in-Ok
returns-in-Ok c =
    let judged : ReportView = record {
      basis = basis_of c.args.asked.kind c.args.sheet.now c.args.season.now
          c.args.asked.epoch;
      tokens = tokens_of c.args.lines.now;
    } in
    let whole = all_shown_ends report_grammar judged c.args.from (part_of_ask c.args.sheet.now)
    c.in-Ok.found c.in-Ok.ensures in (
      whole,
      c.row_count.ensures,
      told_truly judged.basis c.args.lines.now c.args.from
          c.in-Ok.found.next c.in-Ok.found.unsettled whole,
    )

pub by_number-requires : goal.by_number-requires
by_number-requires c =
    let judged : ReportView = record {
      basis = basis_of c.args.asked.kind c.args.sheet.now c.args.season.now
          c.args.asked.epoch;
      tokens = tokens_of c.args.lines.now;
    } in
    halts_within report_grammar judged c.args.from (part_of_ask c.args.sheet.now)
    (length c.args.lines.now) c.in-Err.stop
    (length-map c.args.lines.now (λ (it : NumberedLine). token_of it.text)) c.in-Err.ensures

pub returns-in-Err : goal.returns-in-Err
returns-in-Err c =
    let judged : ReportView = record {
      basis = basis_of c.args.asked.kind c.args.sheet.now c.args.season.now
          c.args.asked.epoch;
      tokens = tokens_of c.args.lines.now;
    } in
    let sheet = c.args.sheet.now in
    let lines = c.args.lines.now in
    let Checks : CheckStop → Type 0 = λ it. ChecksPart judged.basis lines c.args.from (Err it) in
    subst Checks (sym c.by_number.ensures)
    (stop_checks report_grammar judged c.args.from (part_of_ask sheet) lines
    (length sheet.lines * length sheet.clubs) (SaysTruly judged.basis lines c.args.from)
    c.in-Err.stop (length-map lines (λ (it : NumberedLine). token_of it.text)) c.in-Err.ensures)
