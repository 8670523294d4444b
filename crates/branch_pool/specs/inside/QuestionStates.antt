-- What happens to one question alone: a leaf is lent, or worked on in its place; and what a
-- question needs for it, and to be carried over a change.
use Rattle.std.specs.Prelude.{◌≡◌, ◌<◌, ◌≤◌, ◌+◌, ◌^◌, ℕ, zero, suc, true, List, [], ◌∷◌, length}
use Rattle.std.specs.Prelude.{Option, Some, None}
use Rattle.league_core.specs.declared.sheet.Sheet.{Sheet}
use Rattle.league_core.specs.declared.question.Question.{Question}
use Rattle.league_core.specs.declared.zone.Zone.{Zone}
use Rattle.league_core.specs.declared.zone.Literal.{Literal}
use Rattle.league_core.specs.search.Trees.{Tree, open_leaf, has_open, node_count}
use Rattle.league_core.specs.inside.Lending.{lent_count, lent_zones, put, times_lent}
use Rattle.reason_core.specs.declared.finding.Finding.{Finding}
use Rattle.reason_core.specs.inside.Findings.{IsTrueFinding}
use Rattle.league_core.specs.game.Results.{Results}
use Rattle.tree_arena.specs.inside.Calls.{AreTestsOf, IsFirstLent, most_nodes}
use Rattle.tree_reuse.specs.Retargets.{retargeted}
use Rattle.branch_pool.specs.declared.question_state.QuestionState.{QuestionState}
use Rattle.branch_pool.specs.declared.question_state.Loan.{Loan}
use Rattle.branch_pool.specs.inside.Steps.{seat_lent, seat_after}

-- the first leaf that was open is lent under the number, and both zones are its zone
pub record LendsSeat (number : ℕ) (old new : QuestionState) (zone other : Zone) : Type 0 where
  pub is : new ≡ seat_lent new.tree old
  pub leaf : put number open_leaf new.tree ≡ old.tree
  pub lent : lent_zones number [] new.tree ≡ zone.literals ∷ []
  pub first : IsFirstLent number new.tree
  pub same : other ≡ zone

-- its tests are of the sheet, and so is its club
pub record MayBeCarried (sheet : Sheet) (seat : QuestionState) : Type 0 where
  pub club : seat.question.club < length sheet.clubs
  pub tests : AreTestsOf sheet seat.tree

-- its tree is one open leaf
abbrev pub IsUncut : QuestionState → Type 0
IsUncut seat = seat.tree ≡ open_leaf

-- what a season leaves of a tree, if that is to be made: one open leaf stays as it is
abbrev pub tree_left : Sheet → Results → Question → Tree → Option Tree
tree_left sheet season question open_leaf = None
tree_left sheet season question tree = Some (retargeted sheet season question tree)

-- its tree for another season, if that is to be made
abbrev pub tree_for : Sheet → Results → QuestionState → Option Tree
tree_for sheet season seat = tree_left sheet season seat.question seat.tree

-- what a question needs so that a leaf of it may be lent under a number
pub record MayLend (number : ℕ) (seat : QuestionState) : Type 0 where
  pub some : has_open seat.tree ≡ true
  pub free : times_lent number seat.tree ≡ 0
  pub few : node_count seat.tree + lent_count seat.tree ≤ most_nodes
  pub fits : seat.lent + 1 < 2 ^ 32
  pub units_fit : seat.units + 1 < 2 ^ 32

-- the first open leaf of a question was worked on, and what was found there is true
pub record WorksSeat (sheet : Sheet) (season : Results) (number : ℕ) (old new : QuestionState)
    : Type 0 where
  pub tree : Tree
  pub zone : List Literal
  pub finding : Finding
  pub leaf : put number open_leaf tree ≡ old.tree
  pub lent : lent_zones number [] tree ≡ zone ∷ []
  pub first : IsFirstLent number tree
  pub found : IsTrueFinding sheet season old.question zone finding
  pub is : new ≡ seat_after number (Some finding) (seat_lent tree old)

-- the loans with a place for a free number, and nothing there
abbrev pub with_slot : List (Option Loan) → ℕ → List (Option Loan)
with_slot [] number = None ∷ []
with_slot (first ∷ loans) zero = None ∷ loans
with_slot (first ∷ loans) (suc number) = first ∷ with_slot loans number
