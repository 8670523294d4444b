-- That a cup's seasons have an answer, however hard it is to find: each side of each club can be
-- shown or refuted, and so each club has a word that is true and lines for it. Each statement is
-- the contract of a function of src/laws.rt that does nothing.
use Rattle.std.specs.Prelude.{◌⊎◌, ◌<◌, ℕ, Bool, List}
use Rattle.league_core.specs.declared.question.Claim.{Claim}
use Rattle.league_core.specs.game.Results.{Results}
use Rattle.cup_sheet.specs.declared.cup.Cup.{Cup}
use Rattle.cup_sheet.specs.Cups.{IsCup, AreSeasonsOf, clubs_together}
use Rattle.cup_sheet.specs.CupAnswers.{HasCupExample}
use Rattle.cup_laws.specs.inside.CupTruths.{AreCupResults}
use Rattle.cup_text.specs.declared.cup_line.CupLine.{CupLine}
use Rattle.cup_text.specs.CupItems.{IsRefutedAtTurn}
use Rattle.cup_answers.specs.CupTexts.{ShowsInCup}
use Rattle.answer_rows.specs.declared.word.Word.{Word}

-- each side of each club has a joint finish that shows it, or lines that refute it
abbrev pub SidesAreDecided : Type 0
SidesAreDecided =
    (cup : Cup) (seasons : List Results) (claim : Claim) (club : ℕ) → IsCup cup
    → AreSeasonsOf cup.groups seasons → AreCupResults seasons → club < clubs_together cup.groups
    → HasCupExample cup seasons claim club
    ⊎ ((lines : List CupLine) × IsRefutedAtTurn cup seasons claim club lines)

-- each club has a word and lines that may stand for it in an answer, with proofs or without
abbrev pub ClubsHaveItems : Type 0
ClubsHaveItems =
    (proofs : Bool) (cup : Cup) (seasons : List Results) (club : ℕ) → IsCup cup
    → AreSeasonsOf cup.groups seasons → AreCupResults seasons → club < clubs_together cup.groups
    → (word : Word) × (lines : List CupLine) × ShowsInCup proofs cup seasons club word lines
