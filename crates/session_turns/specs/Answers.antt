-- The answer of an ask, by the mode.
use Rattle.std.specs.Prelude.{◌≡◌, ℕ, Bool, List, [], ◌++◌, Option, None, Some}
use Rattle.league_core.specs.declared.sheet.Sheet.{Sheet}
use Rattle.league_core.specs.game.Results.{Results}
use Rattle.league_core.specs.search.Trees.{Tree}
use Rattle.answer_rows.specs.Items.{answer_rows}
use Rattle.answer_rows.specs.Parts.{IsMadeOf}
use Rattle.answer_rows.specs.Rows.{ask_row}
use Rattle.answer_rows.specs.Tables.{IsTableText}
use Rattle.answer_rows.specs.declared.bound.ClubScores.{ClubScores}
use Rattle.answer_rows.specs.ScoreTexts.{text_of_scores}
use Rattle.qual_scores.specs.AllScores.{AreScoresOf}
use Rattle.what_if.specs.WhenTexts.{IsWhenText}
use Rattle.pool_save.specs.SavedAnswers.{IsItemText}
use Rattle.decide_run.specs.DecidedTexts.{IsDecidedText}
use Rattle.command_words.specs.declared.command.Mode.{Mode}
use Rattle.command_words.specs.declared.command.Mode.TheVariants.{Verdicts, Table, Scores, WhatIf}
use Rattle.command_words.specs.declared.command.Mode.TheVariants.{Save, Resume, Decide, Check}
use Rattle.command_words.specs.declared.command.Mode.TheVariants.{Groups, GroupsCheck, Sample}
use Rattle.session_turns.specs.Plays.{Played}

-- the verdicts of a season after so many events: the row of the ask, then an item for each
-- line and club in the sheet's order, with proofs or without, as it may stand where these trees
-- were saved
abbrev pub IsVerdictsText : Bool → Sheet → Results → ℕ → Option (List (Option Tree)) → List ℕ
    → Type 0
IsVerdictsText proofs sheet season epoch saved text =
    (items : List ℕ) × (text ≡ ask_row epoch ++ items)
    × IsMadeOf (IsItemText proofs sheet season saved) (answer_rows sheet) items

-- the text of the season's numbers, for each line and club in the sheet's order
abbrev pub IsScoresText : Sheet → Results → ℕ → List ℕ → Type 0
IsScoresText sheet season epoch text =
    (scores : List ClubScores) × AreScoresOf sheet season scores
    × (text ≡ text_of_scores sheet epoch scores)

-- the text of what is asked about, if something is: an ask about no fixture has none
abbrev pub IsWhatIfText : Sheet → Results → ℕ → Option ℕ → List ℕ → Type 0
IsWhatIfText sheet season epoch None text = text ≡ []
IsWhatIfText sheet season epoch (Some fixture) text = IsWhenText sheet season epoch fixture text

-- the text answers an ask, from what was played there; in the modes that answer no ask it is empty
abbrev pub IsAnswerTo : Mode → Played → List ℕ → Type 0
IsAnswerTo (Verdicts proofs) played text =
    IsVerdictsText proofs played.sheet played.season played.epoch None text
IsAnswerTo Table played text = IsTableText played.sheet played.season played.epoch text
IsAnswerTo Scores played text = IsScoresText played.sheet played.season played.epoch text
IsAnswerTo WhatIf played text =
    IsWhatIfText played.sheet played.season played.epoch played.about text
IsAnswerTo Save played text = text ≡ []
IsAnswerTo (Resume proofs) played text =
    IsVerdictsText proofs played.sheet played.season played.epoch played.saved text
IsAnswerTo (Decide proofs) played text =
    IsDecidedText proofs played.sheet played.season played.epoch text
IsAnswerTo (Check wide) played text = text ≡ []
IsAnswerTo (Groups proofs) played text = text ≡ []
IsAnswerTo GroupsCheck played text = text ≡ []
IsAnswerTo (Sample seed) played text = text ≡ []
