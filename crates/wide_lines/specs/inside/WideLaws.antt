-- Laws of wide trees: what a refutation shows, that trees without near leaves are wide trees, and
-- that lines of trees are in the ranges of their forms.
use Rattle.std.specs.Prelude.{◌<◌, ℕ, IsTrue, List, length, map}
use Rattle.std.specs.List.{list_all}
use Rattle.league_core.specs.declared.sheet.Sheet.{Sheet}
use Rattle.league_core.specs.declared.question.Question.{Question}
use Rattle.league_core.specs.game.Results.{Results}
use Rattle.league_core.specs.game.Verdicts.{HasNoExample}
use Rattle.cert_text.specs.declared.proof_line.ProofLine.{ProofLine}
use Rattle.cert_text.specs.TreeLines.{ShowsRefuted, ShowsSpent}
use Rattle.wide_lines.specs.declared.wide_line.WideLine.{WideLine}
use Rattle.wide_lines.specs.declared.wide_line.WideLine.TheVariants.{Plain}
use Rattle.wide_lines.specs.WideTrees.{WideTree}
use Rattle.wide_lines.specs.WideTreeLines.{IsWideRefutation, ShowsWideRefuted, ShowsWideSpent}
use Rattle.wide_lines.specs.WideTexts.{is_wide_in_range}

-- a question with a refuted wide tree has no example
abbrev pub WideRefutationsAreSound : Type 0
WideRefutationsAreSound =
    (sheet : Sheet) (season : Results) (question : Question) (tree : WideTree)
    → question.club < length sheet.clubs → IsWideRefutation sheet season question tree
    → HasNoExample sheet season question

-- a refutation without near leaves is a wide one
abbrev pub RefutationsAreWide : Type 0
RefutationsAreWide =
    (sheet : Sheet) (season : Results) (question : Question) (lines : List ProofLine)
    → ShowsRefuted sheet season question lines
    → ShowsWideRefuted sheet season question (map (λ shown. Plain shown) lines)

-- so is a tree on which the budget was spent
abbrev pub SpentTreesAreWide : Type 0
SpentTreesAreWide =
    (sheet : Sheet) (season : Results) (question : Question) (budget : ℕ) (lines : List ProofLine)
    → ShowsSpent sheet season question budget lines
    → ShowsWideSpent sheet season question budget (map (λ shown. Plain shown) lines)

-- the lines of a wide refutation are in range
abbrev pub WideRefutationsAreInRange : Type 0
WideRefutationsAreInRange =
    (sheet : Sheet) (season : Results) (question : Question) (lines : List WideLine)
    → ShowsWideRefuted sheet season question lines → IsTrue (list_all is_wide_in_range lines)

-- so are those of a wide tree on which a budget was spent
abbrev pub WideSpentTreesAreInRange : Type 0
WideSpentTreesAreInRange =
    (sheet : Sheet) (season : Results) (question : Question) (budget : ℕ) (lines : List WideLine)
    → ShowsWideSpent sheet season question budget lines
    → IsTrue (list_all is_wide_in_range lines)
