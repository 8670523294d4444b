-- A pool as it stands: a sheet and questions about it, what has been reported of the season, and
-- for each question a tree whose leaves are worked on, one piece after another.
use Rattle.std.specs.Prelude.{ℕ, zero, suc, ◌+◌, Bool, true, ◌&&◌, nat_lt}
use Rattle.std.specs.Prelude.{is_some}
use Rattle.std.specs.Prelude.{is_none, List, [], ◌∷◌, length, map, Option, Some, None}
use Rattle.std.specs.Prelude.{slice_index_or, count_by}
use Rattle.std.specs.List.{list_any}
use Rattle.league_core.specs.declared.sheet.Sheet.{Sheet}
use Rattle.league_core.specs.declared.season.Event.{Event}
use Rattle.league_core.specs.declared.question.Question.{Question}
use Rattle.league_core.specs.game.Results.{Results}
use Rattle.league_core.specs.game.Seasons.{epoch_of, unplayed_season}
use Rattle.league_core.specs.search.Trees.{open_leaf, has_open}
use Rattle.branch_pool.specs.declared.question_state.QuestionState.{QuestionState}
use Rattle.branch_pool.specs.declared.question_state.Loan.{Loan}

-- the sheet; the questions; the season that was reported, and the events that made it; for each
-- question what is kept of it; under each number what is out; whether more events may come
pub record PoolView : Type 0 where
  pub sheet : Sheet
  pub questions : List Question
  pub season : Results
  pub log : List Event
  pub seats : List QuestionState
  pub loans : List (Option Loan)
  pub is_open : Bool

-- the most questions of a pool
abbrev pub most_questions : ℕ
most_questions = 65536

-- the present epoch: how many events have been reported
abbrev pub present_epoch : PoolView → ℕ
present_epoch pool = epoch_of pool.log

-- a question without work: one open leaf, no unit and no example
abbrev pub new_seat : Question → QuestionState
new_seat question =
    record { question = question; tree = open_leaf; units = 0; lent = 0; example = None }

-- the pool of a sheet and questions at its beginning: nothing is played, nothing is out, and events
-- may come
abbrev pub pool_begun : Sheet → List Question → PoolView
pool_begun sheet questions = record {
  sheet = sheet;
  questions = questions;
  season = unplayed_season (length sheet.clubs) (length sheet.fixtures);
  log = [];
  seats = map new_seat questions;
  loans = [];
  is_open = true;
}

-- there is work for the question: it has no example, a leaf is open, and its units and its lent
-- leaves together are fewer than the budget
abbrev pub is_workable : Sheet → QuestionState → Bool
is_workable sheet seat =
    is_none seat.example && has_open seat.tree && nat_lt (seat.units + seat.lent) sheet.budget

-- there is work for one of the questions
abbrev pub has_work : PoolView → Bool
has_work pool = list_any (is_workable pool.sheet) pool.seats

-- what is out under a number
abbrev pub loan_at : List (Option Loan) → ℕ → Option Loan
loan_at loans number = slice_index_or loans number None

-- the least number under which nothing is out
abbrev pub free_number : List (Option Loan) → ℕ
free_number [] = 0
free_number (None ∷ loans) = 0
free_number (Some loan ∷ loans) = suc (free_number loans)

-- how many numbers are out
abbrev pub out_count : List (Option Loan) → ℕ
out_count loans = count_by is_some loans

-- the loans with one more, under a number that is free
abbrev pub with_loan : List (Option Loan) → ℕ → Loan → List (Option Loan)
with_loan [] number loan = Some loan ∷ []
with_loan (first ∷ loans) zero loan = Some loan ∷ loans
with_loan (first ∷ loans) (suc number) loan = first ∷ with_loan loans number loan
