-- What the mode `groups` with proofs writes for the asks of a feed, as the report behind that feed:
-- it is accepted, with a row for each club at each ask, and as many unsettled ones as it has.
use Rattle.std.specs.Prelude.{◌≡◌, ◌≢◌, ◌≤◌, ℕ, ◌+◌, true, List, [], ◌∷◌, ◌++◌, length, Ok, Some}
use Rattle.std.specs.List.{range_with_len}
use Rattle.league_core.specs.game.Limits.{most_events}
use Rattle.league_core.specs.game.Results.{Results}
use Rattle.league_core.specs.game.Seasons.{AreEventsOf, epoch_of, unplayed_season}
use Rattle.port_core.specs.Lines.{lines_of}
use Rattle.port_core.specs.Contents.{Position, contents_from}
use Rattle.result_log.specs.declared.entry.Entry.{Entry}
use Rattle.result_log.specs.declared.entry.Entry.TheVariants.{Change, Ask, Proofs, End}
use Rattle.result_log.specs.Feeds.{count_with, season_with}
use Rattle.result_log.specs.inside.FeedParts.{events_after}
use Rattle.answer_rows.specs.Parts.{IsMadeOf}
use Rattle.cert_check.specs.declared.outcome.CheckOutcome.TheVariants.{Accepted}
use Rattle.cup_sheet.specs.declared.cup.Cup.{Cup}
use Rattle.cup_sheet.specs.Cups.{IsCup, clubs_together}
use Rattle.cup_sheet.specs.CupFeeds.{joint_sheet, results_by_group}
use Rattle.cup_answers.specs.CupTexts.{IsCupItemText, IsGroupsText}
use Rattle.cup_check.specs.CupOutcomes.{outcome_of_cup_report}
use Rattle.report_laws.specs.inside.AcceptedAnswers.{unsettled_one}

-- ---- how many clubs are unsettled

-- how many of these clubs are, in a text made of an item for each
abbrev pub unsettled_clubs : (cup : Cup) (seasons : List Results) (clubs : List ℕ)
    (text : List ℕ) → IsMadeOf (IsCupItemText true cup seasons) clubs text → ℕ
unsettled_clubs cup seasons [] text made = 0
unsettled_clubs cup seasons (club ∷ clubs) text made =
    unsettled_one made.3.0 + unsettled_clubs cup seasons clubs made.1 made.4

-- how many of an answer are
abbrev pub unsettled_in_answer : (cup : Cup) (seasons : List Results) (epoch : ℕ)
    (text : List ℕ) → IsGroupsText true cup seasons epoch text → ℕ
unsettled_in_answer cup seasons epoch text told =
    unsettled_clubs cup seasons (range_with_len 0 (clubs_together cup.groups)) told.0 told.1

-- ---- the answers of a feed

-- the text is the answers of the asks among these entries, in their order, each of the groups'
-- seasons and the number of events at its ask
abbrev pub AreCupAnswers : Cup → List Entry → Results → ℕ → List ℕ → Type 0
AreCupAnswers cup [] season epoch text = text ≡ []
AreCupAnswers cup (Change event ∷ entries) season epoch text =
    AreCupAnswers cup entries (season_with season (Change event))
    (count_with epoch (Change event)) text
AreCupAnswers cup (Ask ∷ entries) season epoch text =
    (answer : List ℕ) × (later : List ℕ) × (text ≡ answer ++ later)
    × IsGroupsText true cup (results_by_group cup.groups season) epoch answer
    × AreCupAnswers cup entries season epoch later
AreCupAnswers cup (Proofs ∷ entries) season epoch text =
    AreCupAnswers cup entries season epoch text
AreCupAnswers cup (End ∷ entries) season epoch text = AreCupAnswers cup entries season epoch text

-- how many clubs they leave unsettled
abbrev pub unsettled_in_answers : (cup : Cup) (entries : List Entry) (season : Results) (epoch : ℕ)
    (text : List ℕ) → AreCupAnswers cup entries season epoch text → ℕ
unsettled_in_answers cup [] season epoch text told = 0
unsettled_in_answers cup (Change event ∷ entries) season epoch text told =
    unsettled_in_answers cup entries (season_with season (Change event))
    (count_with epoch (Change event)) text told
unsettled_in_answers cup (Ask ∷ entries) season epoch text told =
    unsettled_in_answer cup (results_by_group cup.groups season) epoch told.0 told.3
    + unsettled_in_answers cup entries season epoch told.1 told.4
unsettled_in_answers cup (Proofs ∷ entries) season epoch text told =
    unsettled_in_answers cup entries season epoch text told
unsettled_in_answers cup (End ∷ entries) season epoch text told =
    unsettled_in_answers cup entries season epoch text told

-- how many rows of clubs they have
abbrev pub rows_in_answers : Cup → List Entry → ℕ
rows_in_answers cup [] = 0
rows_in_answers cup (Change event ∷ entries) = rows_in_answers cup entries
rows_in_answers cup (Ask ∷ entries) = clubs_together cup.groups + rows_in_answers cup entries
rows_in_answers cup (Proofs ∷ entries) = rows_in_answers cup entries
rows_in_answers cup (End ∷ entries) = rows_in_answers cup entries

-- if an input has the sheet of a cup, a feed and the record `proofs`, and after them the bytes of
-- the answers of all asks of that feed, and is read to its end, the report is accepted, with a row
-- for each club at each ask and with as many unsettled ones as the answers have
abbrev pub WrittenCupReportsAreAccepted : Type 0
WrittenCupReportsAreAccepted =
    (cup : Cup) (entries : List Entry) (text : List ℕ) (position : Position)
    (lines : List (ℕ × List ℕ)) (end : ℕ) → IsCup cup
    → AreEventsOf (joint_sheet cup) (events_after [] entries)
    → epoch_of (events_after [] entries) ≤ most_events
    → (told : AreCupAnswers cup entries
    (unplayed_season (length (joint_sheet cup).clubs) (length (joint_sheet cup).fixtures)) 0 text)
    → position.lines ≢ 0
    → contents_from position (lines_of text) ≡ record { lines = lines; ending = Ok end }
    → outcome_of_cup_report cup entries lines (Ok end)
    ≡ Some (Accepted (rows_in_answers cup entries)
    (unsettled_in_answers cup entries
    (unplayed_season (length (joint_sheet cup).clubs) (length (joint_sheet cup).fixtures)) 0 text
    told))
