-- The answers of all asks of a feed, as the report behind it: it is read as they were written, and
-- accepted.
use Rattle.std.proofs.Common.{◌≡◌, ◌≤◌, ℕ, ◌+◌, List, [], ◌∷◌, ◌++◌, length, map, drop, Some}
use Rattle.std.proofs.Common.{refl, sym, ap, subst, ◌∙◌, arith}
use Rattle.std.specs.List.{flat_map}
use Rattle.std.proofs.lemmas.List.{drop-drop, drop-map, length_push}
use Rattle.std.proofs.lemmas.Grind.{flat_map-append}
use Rattle.std.proofs.Math.Seq.{drop-append_seam}
use Rattle.league_core.specs.declared.season.Event.{Event}
use Rattle.league_core.specs.game.Limits.{most_events}
use Rattle.league_core.specs.game.Results.{Results}
use Rattle.league_core.specs.game.Seasons.{AreEventsOf, epoch_of, event_applied, season_after}
use Rattle.league_core.specs.game.Seasons.{unplayed_season}
use Rattle.league_core.proofs.TableLemmas.{season_after-push}
use Rattle.port_core.specs.Lines.{lines_of}
use Rattle.port_core.specs.Contents.{contents_from}
use Rattle.result_log.specs.declared.entry.Entry.{Entry}
use Rattle.result_log.specs.declared.entry.Entry.TheVariants.{Change, Ask, Proofs, End}
use Rattle.result_log.specs.Feeds.{count_with, season_with}
use Rattle.result_log.specs.inside.FeedParts.{events_after}
use Rattle.kept_lines.specs.LineLists.{NumberedLine, numbered}
use Rattle.cert_check.specs.LineGrammars.{Ending, whole_at}
use Rattle.cert_check.specs.declared.outcome.CheckOutcome.TheVariants.{Accepted}
use Rattle.cert_check.specs.Outcomes.{ReportProgressView, first_progress, outcome_at_end}
use Rattle.cert_check.specs.Outcomes.{progress_with}
use Rattle.cup_sheet.specs.declared.cup.Cup.{Cup}
use Rattle.cup_sheet.specs.Cups.{AreSeasonsOf, IsCup, clubs_together}
use Rattle.cup_sheet.specs.CupFeeds.{joint_sheet, results_by_group}
use Rattle.cup_laws.specs.inside.CupTruths.{AreCupResults}
use Rattle.cup_feed.proofs.FeedLawLemmas.{results_each, seasons_each}
use Rattle.cup_grammar.specs.declared.token.CupToken.{CupToken}
use Rattle.cup_grammar.specs.CupReports.{cup_ending_of, cup_token_of, cup_tokens_of}
use Rattle.cup_grammar.specs.CupReports.{part_of_cup_ask}
use Rattle.cup_check.specs.CupOutcomes.{CupReportInput, cup_basis, cup_outcome_by}
use Rattle.cup_check.specs.CupOutcomes.{cup_outcome_from, cup_progress_after}
use Rattle.cup_check.proofs.CupInputTruthLemmas.{events_before}
use Rattle.report_laws.specs.inside.WrittenCupReports.{AreCupAnswers, rows_in_answers}
use Rattle.report_laws.specs.inside.WrittenCupReports.{WrittenCupReportsAreAccepted}
use Rattle.report_laws.specs.inside.WrittenCupReports.{unsettled_in_answer}
use Rattle.report_laws.specs.inside.WrittenCupReports.{unsettled_in_answers}
use Rattle.report_laws.proofs.CupBodyLemmas.{HaveCupBodies, bodies-append, cup_written}
use Rattle.report_laws.proofs.LinesBackLemmas.{cup_written_back}
use Rattle.report_laws.proofs.AnswerBackLemmas.{cup_answer_read}

-- ---- parts that are read as whole

-- the lines are those of each ask among these entries, each of which are read as whole, with so
-- many unsettled clubs
abbrev pub ArePartsRead : Cup → List Entry → Results → ℕ → List CupToken → ℕ → Type 0
ArePartsRead cup [] season epoch tokens unsettled = (tokens ≡ []) × (unsettled ≡ 0)
ArePartsRead cup (Change event ∷ entries) season epoch tokens unsettled =
    ArePartsRead cup entries (season_with season (Change event))
    (count_with epoch (Change event)) tokens unsettled
ArePartsRead cup (Ask ∷ entries) season epoch tokens unsettled =
    (part : List CupToken) × (own : ℕ) × (later : List CupToken) × (others : ℕ)
    × ((rest : List CupToken) (at : ℕ)
    → cup_ending_of (cup_basis cup season epoch) (part ++ rest) (part_of_cup_ask cup) at 0
    ≡ whole_at (at + length part) own)
    × (tokens ≡ part ++ later) × (unsettled ≡ own + others)
    × ArePartsRead cup entries season epoch later others
ArePartsRead cup (Proofs ∷ entries) season epoch tokens unsettled =
    ArePartsRead cup entries season epoch tokens unsettled
ArePartsRead cup (End ∷ entries) season epoch tokens unsettled =
    ArePartsRead cup entries season epoch tokens unsettled

-- what no line is made of is no line
none_of : (lines : List NumberedLine) → cup_tokens_of lines ≡ [] → lines ≡ []
none_of [] none = refl
none_of (line ∷ lines) none = absurd cc

drop_twice : (n k : ℕ) (tokens : List CupToken) → drop (k + n) tokens ≡ drop n (drop k tokens)
drop_twice n k tokens = sym (drop-drop n k tokens)

grouped : (a b c : ℕ) → (a + b) + c ≡ a + (b + c)
grouped a b c = omega arith

-- a report of such parts is accepted
parts_from : (report : CupReportInput) (entries : List Entry) (standing : ReportProgressView)
    (tokens : List CupToken) (unsettled : ℕ)
    → drop standing.at (cup_tokens_of report.lines) ≡ tokens
    → ArePartsRead report.cup entries standing.season standing.epoch tokens unsettled
    → cup_outcome_from report entries standing
    ≡ Accepted (standing.rows + rows_in_answers report.cup entries)
    (standing.unsettled + unsettled)
parts_from report [] standing tokens unsettled left told =
    ap (outcome_at_end standing)
    (none_of (drop standing.at report.lines)
    (sym (drop-map (λ (l : NumberedLine). cup_token_of l.text) standing.at report.lines)
    ∙ left ∙ told.0))
    ∙ (λ i. Accepted (rows i) (counts i))
  where
    rows : standing.rows ≡ standing.rows + 0
    rows = omega arith

    counts : standing.unsettled ≡ standing.unsettled + unsettled
    counts = omega (arith, told.1)
parts_from report (Change event ∷ entries) standing tokens unsettled left told =
    parts_from report entries (progress_with standing (Change event)) tokens unsettled left told
parts_from report (Ask ∷ entries) standing tokens unsettled left told =
    let part = told.0 in
    let each = clubs_together report.cup.groups in
    let basis = cup_basis report.cup standing.season standing.epoch in
    let next = cup_progress_after report.cup standing (standing.at + length part) told.1 in
    ap (λ (ending : Ending). cup_outcome_by report standing ending
    (cup_outcome_from report entries))
    (ap (λ lines. cup_ending_of basis lines (part_of_cup_ask report.cup) standing.at 0)
    (left ∙ told.5) ∙ told.4 told.2 standing.at)
    ∙ parts_from report entries next told.2 told.3
    (drop_twice (length part) standing.at (cup_tokens_of report.lines)
    ∙ ap (drop (length part)) (left ∙ told.5) ∙ drop-append_seam part told.2)
    told.7
    ∙ ap (λ (n : ℕ). Accepted n ((standing.unsettled + told.1) + told.3))
    (grouped standing.rows each (rows_in_answers report.cup entries))
    ∙ ap (λ (n : ℕ). Accepted (standing.rows + (each + rows_in_answers report.cup entries)) n)
    (grouped standing.unsettled told.1 told.3
    ∙ ap (λ (n : ℕ). standing.unsettled + n) (sym told.6))
parts_from report (Proofs ∷ entries) standing tokens unsettled left told =
    parts_from report entries standing tokens unsettled left told
parts_from report (End ∷ entries) standing tokens unsettled left told =
    parts_from report entries standing tokens unsettled left told

-- ---- answers as such parts

-- events before others are no more than all
events_grow : (log : List Event) (entries : List Entry)
    → epoch_of log ≤ epoch_of (events_after log entries)
events_grow log [] = omega arith
events_grow log (Change event ∷ entries) =
    omega (arith, length_push log event, events_grow (log ++ event ∷ []) entries)
events_grow log (Ask ∷ entries) = events_grow log entries
events_grow log (Proofs ∷ entries) = events_grow log entries
events_grow log (End ∷ entries) = events_grow log entries

-- a text as the lines of such parts
pub record CupReportRead (cup : Cup) (entries : List Entry) (season : Results) (epoch : ℕ)
    (text : List ℕ) (unsettled : ℕ) : Type 0 where
  pub tokens : List CupToken
  pub parts : ArePartsRead cup entries season epoch tokens unsettled
  pub bytes : text ≡ flat_map cup_written tokens
  pub bodies : HaveCupBodies tokens

module _ (cup : Cup) (is_cup : IsCup cup) where
  pub answers_read : (log : List Event) (entries : List Entry) (season : Results) (epoch : ℕ)
      (text : List ℕ) → AreEventsOf (joint_sheet cup) (events_after log entries)
      → epoch_of (events_after log entries) ≤ most_events
      → season ≡ season_after (joint_sheet cup) log → epoch ≡ epoch_of log
      → (told : AreCupAnswers cup entries season epoch text)
      → CupReportRead cup entries season epoch text
      (unsettled_in_answers cup entries season epoch text told)
  answers_read log [] season epoch text are few of_log count told = record {
    tokens = [];
    parts = (refl, refl);
    bytes = told;
    bodies = tt;
  }
  answers_read log (Change event ∷ entries) season epoch text are few of_log count told =
      let found = answers_read (log ++ event ∷ []) entries (event_applied season event) (epoch + 1)
      text are few
      (ap (λ (s : Results). event_applied s event) of_log
      ∙ sym (season_after-push (joint_sheet cup) log event))
      (omega (arith, count, length_push log event)) told in
      record {
        tokens = found.tokens;
        parts = found.parts;
        bytes = found.bytes;
        bodies = found.bodies;
      }
  answers_read log (Ask ∷ entries) season epoch text are few of_log count told =
      let cut = ap (results_by_group cup.groups) of_log in
      let answer = cup_answer_read (cup_basis cup season epoch) told.0 is_cup
      (subst (AreSeasonsOf cup.groups) (sym cut) (seasons_each cup log))
      (subst AreCupResults (sym cut)
      (results_each cup log (events_before (joint_sheet cup) log entries are)))
      (omega (arith, few, count, events_grow log entries)) told.3 in
      let behind = answers_read log entries season epoch told.1 are few of_log count told.4 in
      record {
        tokens = answer.tokens ++ behind.tokens;
        parts = (
          answer.tokens,
          unsettled_in_answer cup (results_by_group cup.groups season) epoch told.0 told.3,
          behind.tokens,
          unsettled_in_answers cup entries season epoch told.1 told.4,
          answer.whole,
          refl,
          refl,
          behind.parts,
        );
        bytes = told.2 ∙ ap (λ front. front ++ told.1) answer.bytes
            ∙ ap (λ back. flat_map cup_written answer.tokens ++ back) behind.bytes
            ∙ sym (flat_map-append cup_written answer.tokens behind.tokens);
        bodies = bodies-append answer.tokens behind.tokens answer.bodies behind.bodies;
      }
  answers_read log (Proofs ∷ entries) season epoch text are few of_log count told =
      let found = answers_read log entries season epoch text are few of_log count told in
      record {
        tokens = found.tokens;
        parts = found.parts;
        bytes = found.bytes;
        bodies = found.bodies;
      }
  answers_read log (End ∷ entries) season epoch text are few of_log count told =
      let found = answers_read log entries season epoch text are few of_log count told in
      record {
        tokens = found.tokens;
        parts = found.parts;
        bytes = found.bytes;
        bodies = found.bodies;
      }

-- ---- the report

pub written_cup_reports : WrittenCupReportsAreAccepted
written_cup_reports cup entries text position lines end is_cup are few told behind read =
    let unplayed = unplayed_season (length (joint_sheet cup).clubs)
    (length (joint_sheet cup).fixtures) in
    let unsettled = unsettled_in_answers cup entries unplayed 0 text told in
    let found = answers_read cup is_cup [] entries unplayed 0 text are few refl refl told in
    let report : CupReportInput =
    record { cup = cup; lines = map numbered lines; end = end } in
    let tokens = cup_written_back found.tokens position lines end found.bodies behind
    (ap (λ bytes. contents_from position (lines_of bytes)) (sym found.bytes) ∙ read) in
    ap Some
    (parts_from report entries (first_progress (joint_sheet cup)) found.tokens unsettled tokens
    found.parts
    ∙ ap (λ (n : ℕ). Accepted n (0 + unsettled)) (nothing (rows_in_answers cup entries))
    ∙ ap (λ (n : ℕ). Accepted (rows_in_answers cup entries) n) (nothing unsettled))
  where
    nothing : (n : ℕ) → 0 + n ≡ n
    nothing n = omega arith
