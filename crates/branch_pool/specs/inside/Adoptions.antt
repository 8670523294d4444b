-- A list of trees that somebody kept is adopted: each question goes on from the one at its place.
use Rattle.std.specs.Prelude.{◌≡◌, ◌<◌, ◌≤◌, ℕ, List, [], ◌∷◌, length, Option, Some, None, IfSome}
use Rattle.std.specs.List.{slice_get}
use Rattle.league_core.specs.declared.sheet.Sheet.{Sheet}
use Rattle.league_core.specs.game.Results.{Results}
use Rattle.league_core.specs.search.Trees.{Tree}
use Rattle.tree_reuse.specs.Asked.{IsAskedTree}
use Rattle.branch_pool.specs.declared.question_state.QuestionState.{QuestionState}
use Rattle.branch_pool.specs.inside.States.{PoolView, out_count}
use Rattle.branch_pool.specs.inside.Steps.{seat_adopted}

-- a question with what its season leaves of a tree, if there is one, or else as it was
abbrev pub seat_adopted_if : Sheet → Results → Option Tree → QuestionState → QuestionState
seat_adopted_if sheet season None seat = seat
seat_adopted_if sheet season (Some tree) seat = seat_adopted sheet season tree seat

-- each question with what its season leaves of the tree at its place, if there is one; a question
-- past the end of the list is as it was
abbrev pub seats_adopted : Sheet → Results → List QuestionState → List (Option Tree)
    → List QuestionState
seats_adopted sheet season seats [] = seats
seats_adopted sheet season [] (tree ∷ trees) = []
seats_adopted sheet season (seat ∷ seats) (tree ∷ trees) =
    seat_adopted_if sheet season tree seat ∷ seats_adopted sheet season seats trees

-- the pool with these questions; all else is as before
abbrev pub pool_adopted : PoolView → List (Option Tree) → PoolView
pool_adopted pool trees =
    record pool { seats = seats_adopted pool.sheet pool.season pool.seats trees }

-- what is asked of a list of trees that are adopted: no number is out, there are no more of them
-- than questions, and the tests of each are such as the trees of the question at its place may ask
pub record MayAdoptAll (pool : PoolView) (trees : List (Option Tree)) : Type 0 where
  pub home : out_count pool.loans ≡ 0
  pub few : length trees ≤ length pool.questions
  pub asked : (place : ℕ) (tree : Tree) → slice_get trees place ≡ Some (Some tree)
      → IfSome (slice_get pool.questions place) (λ question. IsAskedTree pool.sheet question tree)

-- a question that a tree may be adopted for: its club is one of the sheet, and its trees may ask
-- the tree's tests
pub record MayBeAdopted (sheet : Sheet) (tree : Tree) (seat : QuestionState) : Type 0 where
  pub club : seat.question.club < length sheet.clubs
  pub asked : IsAskedTree sheet seat.question tree

-- there are no more trees than questions, and the question at the place of each is one for it
pub record AreAdoptable (sheet : Sheet) (seats : List QuestionState) (trees : List (Option Tree))
    : Type 0 where
  pub few : length trees ≤ length seats
  pub each : (place : ℕ) (tree : Tree) → slice_get trees place ≡ Some (Some tree)
      → IfSome (slice_get seats place) (MayBeAdopted sheet tree)
