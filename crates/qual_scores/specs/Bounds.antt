-- What an answer says of the two numbers: the number itself; that there is none; or a range in
-- which it lies if there is one, with the tree on which the budget of a window question was spent.
use Rattle.std.specs.Prelude.{◌≡◌, ℕ, ℤ, ◌≤ℤ◌, IsTrue, List}
use Rattle.std.specs.List.{list_all}
use Rattle.league_core.specs.declared.sheet.Sheet.{Sheet}
use Rattle.league_core.specs.declared.question.Claim.{Claim}
use Rattle.league_core.specs.declared.question.Claim.TheVariants.{Inside, Outside}
use Rattle.league_core.specs.declared.question.Question.{Question}
use Rattle.league_core.specs.game.Results.{Results}
use Rattle.league_core.specs.search.Trees.{Tree}
use Rattle.cert_text.specs.declared.proof_line.ProofLine.{ProofLine}
use Rattle.cert_text.specs.Ranges.{is_in_range}
use Rattle.cert_text.specs.TreeLines.{IsFairSpentTree, marked_lines, with_window_head}
use Rattle.answer_rows.specs.NewTrees.{is_all_new}
use Rattle.answer_rows.specs.declared.bound.Bound.{Bound}
use Rattle.answer_rows.specs.declared.bound.Bound.TheVariants.{Known, None, Between}
use Rattle.answer_rows.specs.declared.bound.Score2.{Score2}
use Rattle.qual_scores.specs.declared.point_range.PointRange.{PointRange}
use Rattle.qual_scores.specs.Scores.{IsLeastOf, HasNoPossibleScore}
use Rattle.qual_scores.specs.Bisections.{HoldsOfPoints, ShowsRange, window_question}

-- the lines show that the budget was spent on the question in the present epoch: its head, which
-- names the window, and a tree on which it was spent fairly, all of it new
abbrev pub ShowsWindowSpent : Sheet → Results → Question → List ProofLine → Type 0
ShowsWindowSpent sheet season question lines =
    (tree : Tree) × IsFairSpentTree sheet season question sheet.budget tree
    × IsTrue (is_all_new tree)
    × (lines ≡ with_window_head question (marked_lines tree))

-- a range on the way to the number, with the spent tree of the window question that shows it; the
-- number, if there is one, lies there
pub record IsShownBetween (sheet : Sheet) (season : Results) (club line : ℕ) (claim : Claim)
    (range : PointRange) (lines : List ProofLine) : Type 0 where
  pub asked : ℤ
  pub shows : ShowsRange sheet season club line claim range asked
  pub spent : ShowsWindowSpent sheet season (window_question club line claim asked) lines
  pub in_range : IsTrue (list_all is_in_range lines)
  pub lies_there : (number : ℤ) → IsLeastOf (HoldsOfPoints sheet season club line claim) number
      → (range.low ≤ℤ number) × (number ≤ℤ range.high)

-- of the guaranteed score it is never said that there is none
abbrev pub IsNoneRight : Sheet → Results → ℕ → ℕ → Claim → Type 0
IsNoneRight sheet season club line Inside = HasNoPossibleScore sheet season club line
IsNoneRight sheet season club line Outside = ⊥

-- what is said of a number is right: for `Inside` the possible score, for `Outside` the guaranteed
-- one
abbrev pub IsRightBound : Sheet → Results → ℕ → ℕ → Claim → Bound → Type 0
IsRightBound sheet season club line claim (Known number) =
    IsLeastOf (HoldsOfPoints sheet season club line claim) number
IsRightBound sheet season club line claim None = IsNoneRight sheet season club line claim
IsRightBound sheet season club line claim (Between low high spent) =
    IsShownBetween sheet season club line claim (record { low = low; high = high }) spent.items

-- both numbers of a club and a line
pub record AreRightScores (sheet : Sheet) (season : Results) (club line : ℕ) (scores : Score2)
    : Type 0 where
  pub possible : IsRightBound sheet season club line Inside scores.pqs
  pub guaranteed : IsRightBound sheet season club line Outside scores.gqs
