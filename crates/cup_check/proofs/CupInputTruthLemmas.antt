-- An input whose report on a cup is accepted has one that tells the truth.
use Rattle.std.proofs.Common.{◌≡◌, ℕ, List, [], ◌∷◌, ◌++◌, Option, None, Some, map, drop}
use Rattle.std.proofs.Common.{Result, Ok, Err, refl, sym, ap, subst, ◌∙◌, true, arith, length}
use Rattle.std.specs.Prelude.{filter, option_map}
use Rattle.std.proofs.lemmas.List.{drop-map, get_or_append_left, length-append}
use Rattle.std.proofs.lemmas.List.Elements.{All-nil}
use Rattle.league_core.specs.declared.sheet.Sheet.{Sheet}
use Rattle.league_core.specs.declared.season.Event.{Event}
use Rattle.league_core.specs.game.Results.{Results}
use Rattle.league_core.specs.game.Seasons.{AreEventsOf, IsEventOf, season_after, unplayed_season}
use Rattle.league_core.proofs.TableLemmas.{season_after-push}
use Rattle.port_core.specs.Contents.{Contents}
use Rattle.result_log.specs.declared.entry.Entry.{Entry}
use Rattle.result_log.specs.declared.entry.Entry.TheVariants.{Change, Ask, Proofs, End}
use Rattle.result_log.specs.Feeds.{feed_of}
use Rattle.result_log.specs.inside.FeedParts.{events_after}
use Rattle.result_log.proofs.FeedLemmas.{feed_of-log}
use Rattle.kept_lines.specs.LineLists.{NumberedLine, numbered}
use Rattle.line_tokens.specs.Tokens.{counts, token_of}
use Rattle.cert_check.specs.LineGrammars.{Ending, whole_at, bad_line, no_proof, short}
use Rattle.cert_check.specs.declared.outcome.CheckOutcome.{CheckOutcome}
use Rattle.cert_check.specs.declared.outcome.CheckOutcome.TheVariants.{Accepted}
use Rattle.cert_check.specs.Outcomes.{ReportProgressView, first_progress, outcome_of_stop}
use Rattle.cert_check.specs.Outcomes.{progress_with}
use Rattle.cert_check.proofs.OutcomeLemmas.{accepted_lines, left-none, stop_accepts_nothing}
use Rattle.cup_sheet.specs.declared.cup.Cup.{Cup}
use Rattle.cup_sheet.specs.CupReadings.{CupStop}
use Rattle.fixture_sheet.specs.declared.fault.ReadingStop.TheVariants as cup_stop
use Rattle.cup_sheet.specs.Cups.{AreSeasonsOf, IsCup}
use Rattle.cup_sheet.specs.CupFeeds.{joint_sheet, results_by_group}
use Rattle.cup_sheet.specs.CupReadings.{cup_reading_of}
use Rattle.cup_laws.specs.inside.CupTruths.{AreCupResults}
use Rattle.cup_feed.proofs.FeedLawLemmas.{results_each, seasons_each}
use Rattle.cup_grammar.specs.inside.CupRowTruths.{AcceptedCupPartsAreTrue}
use Rattle.cup_check.specs.declared.outcome.CupOutcome.TheVariants.{Judged}
use Rattle.cup_check.specs.CupOutcomes.{CupReportInput, cup_basis, cup_outcome_by}
use Rattle.cup_check.specs.CupOutcomes.{cup_outcome_from, cup_outcome_of, cup_part_there}
use Rattle.cup_check.specs.CupOutcomes.{cup_progress_after, outcome_after_cup, outcome_of_cup}
use Rattle.cup_check.specs.CupOutcomes.{judged_cup_lines}
use Rattle.cup_check.specs.inside.CupReportTruths.{CupPartsTellTruly, HasTrueCupReport}

-- events before others are events of the sheet if all are
pub events_before : (sheet : Sheet) (log : List Event) (entries : List Entry)
    → AreEventsOf sheet (events_after log entries) → AreEventsOf sheet log
events_before sheet log [] are = are
events_before sheet log (Change event ∷ entries) are =
    let all = events_before sheet (log ++ event ∷ []) entries are in
    λ k d inside.
    subst (IsEventOf (unplayed_season (length sheet.clubs) (length sheet.fixtures)))
    (get_or_append_left log (event ∷ []) d k inside)
    (all k d (omega (arith, inside, length-append log (event ∷ []))))
events_before sheet log (Ask ∷ entries) are = events_before sheet log entries are
events_before sheet log (Proofs ∷ entries) are = events_before sheet log entries are
events_before sheet log (End ∷ entries) are = events_before sheet log entries are

module _ (truths : AcceptedCupPartsAreTrue) (report : CupReportInput)
    (is_cup : IsCup report.cup) where
  -- a report that is accepted tells the truth, when these events came so far
  truly_from : (log : List Event) (entries : List Entry) (standing : ReportProgressView)
      (rows unsettled : ℕ)
      → AreEventsOf (joint_sheet report.cup) (events_after log entries)
      → standing.season ≡ season_after (joint_sheet report.cup) log
      → cup_outcome_from report entries standing ≡ Accepted rows unsettled
      → CupPartsTellTruly report entries standing
  truly_from log [] standing rows unsettled are season is =
      ap (filter counts)
      (drop-map (λ (l : NumberedLine). token_of l.text) standing.at report.lines)
      ∙ left-none standing (drop standing.at report.lines) rows unsettled is
  truly_from log (Change event ∷ entries) standing rows unsettled are season is =
      truly_from (log ++ event ∷ []) entries (progress_with standing (Change event)) rows
      unsettled are
      (ap (λ (s : Results). Rattle.league_core.specs.game.Seasons.event_applied s event) season
      ∙ sym (season_after-push (joint_sheet report.cup) log event)) is
  truly_from log (Ask ∷ entries) standing rows unsettled are season is =
      by_ending (cup_part_there report standing) refl
      (λ next same. truly_from log entries next rows unsettled are (same ∙ season)) is
    where
      by_ending : (ending : Ending) → cup_part_there report standing ≡ ending
          → ((next : ReportProgressView) → next.season ≡ standing.season
          → cup_outcome_from report entries next ≡ Accepted rows unsettled
          → CupPartsTellTruly report entries next)
          → cup_outcome_by report standing ending (cup_outcome_from report entries)
          ≡ Accepted rows unsettled
          → CupPartsTellTruly report (Ask ∷ entries) standing
      by_ending (whole_at next more) whole onward is =
          let cut = ap (results_by_group report.cup.groups) season in (
            next,
            more,
            truths (cup_basis report.cup standing.season standing.epoch) report.lines standing.at
                next more is_cup
                (subst (AreSeasonsOf report.cup.groups) (sym cut) (seasons_each report.cup log))
                (subst AreCupResults (sym cut) (results_each report.cup log
                (events_before (joint_sheet report.cup) log entries are)))
                whole,
            onward (cup_progress_after report.cup standing next more) refl is,
          )
      by_ending (bad_line at) whole onward is = absurd cc
      by_ending (no_proof at) whole onward is = absurd cc
      by_ending short whole onward is = absurd cc
  truly_from log (Proofs ∷ entries) standing rows unsettled are season is =
      truly_from log entries standing rows unsettled are season is
  truly_from log (End ∷ entries) standing rows unsettled are season is =
      truly_from log entries standing rows unsettled are season is

-- a feed and a report that are accepted behind the sheet of a cup
pub accepted_behind : AcceptedCupPartsAreTrue → (cup : Cup) (behind : Contents)
    (rows unsettled : ℕ) → IsCup cup
    → outcome_after_cup cup behind ≡ Some (Accepted rows unsettled) → HasTrueCupReport cup behind
accepted_behind truths cup behind rows unsettled is_cup is =
    let sheet = joint_sheet cup in
    let feed = feed_of sheet true behind [] in
    let told = accepted_lines (judged_cup_lines cup feed.entries) feed.rest feed.close rows
    unsettled is in
    let report : CupReportInput =
    record { cup = cup; lines = map numbered feed.rest.lines; end = told.end } in
    let log = feed_of-log sheet true behind []
    (All-nil (IsEventOf (unplayed_season (length sheet.clubs) (length sheet.fixtures))))
    (omega arith) in
    record {
      feed = feed;
      end = told.end;
      is_feed = refl;
      closed = told.closed;
      whole = told.whole;
      tells = truly_from truths report is_cup [] feed.entries (first_progress sheet) rows
          unsettled log.0 refl told.accepted;
    }

-- the sheet of a cup, and a report on it that tells the truth if the cup may be played
pub record HasTrueCup (contents : Contents) : Type 0 where
  pub cup : Cup
  pub behind : Contents
  pub is_cup : cup_reading_of contents None ≡ record { gives = Ok cup; rest = behind }
  pub has_report : IsCup cup → HasTrueCupReport cup behind

-- what is judged of a cup as accepted
judged_so : (found : Option CheckOutcome) (rows unsettled : ℕ)
    → option_map Judged found ≡ Some (Judged (Accepted rows unsettled))
    → found ≡ Some (Accepted rows unsettled)
judged_so None rows unsettled is = absurd cc
judged_so (Some outcome) rows unsettled is = cc

-- an input whose report is accepted has one that tells the truth
pub accepted_cup_tells_truly : AcceptedCupPartsAreTrue → (contents : Contents)
    (rows unsettled : ℕ) → cup_outcome_of contents ≡ Some (Judged (Accepted rows unsettled))
    → HasTrueCup contents
accepted_cup_tells_truly truths contents rows unsettled is =
    by_gives (cup_reading_of contents None).gives refl is
  where
    by_gives : (gives : Result Cup CupStop) → (cup_reading_of contents None).gives ≡ gives
        → outcome_of_cup (cup_reading_of contents None).rest gives
        ≡ Some (Judged (Accepted rows unsettled))
        → HasTrueCup contents
    by_gives (Ok cup) read is =
        let behind = (cup_reading_of contents None).rest in
        record {
          cup = cup;
          behind = behind;
          is_cup = ap (λ (g : Result Cup CupStop). record { gives = g; rest = behind }) read;
          has_report = λ is_cup. accepted_behind truths cup behind rows unsettled is_cup
              (judged_so (outcome_after_cup cup behind) rows unsettled is);
        }
    by_gives (Err (cup_stop.Fault number fault)) read is = absurd cc
    by_gives (Err (cup_stop.Read stop)) read is =
        absurd (stop_accepts_nothing stop rows unsettled
        (judged_so (outcome_of_stop stop) rows unsettled is))
    by_gives (Err cup_stop.OutOfMemory) read is = absurd cc
