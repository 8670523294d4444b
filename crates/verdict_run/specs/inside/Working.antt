-- Work on a pool by one thread, a turn after another, and when the work is done: what is known of a
-- question whose work is done.
use Rattle.std.specs.Prelude.{◌≡◌, ◌≢◌, ◌≤◌, ℕ, ◌*◌, ◌^◌, Bool, ◌||◌, ◌==◌}
use Rattle.std.specs.Prelude.{IsTrue}
use Rattle.std.specs.Prelude.{length, is_some, All, Some}
use Rattle.league_core.specs.declared.sheet.Sheet.{Sheet}
use Rattle.league_core.specs.game.Results.{Results}
use Rattle.league_core.specs.inside.FinishList.{ways_to_finish}
use Rattle.league_core.specs.search.Trees.{is_refuted}
use Rattle.branch_pool.specs.declared.question_state.QuestionState.{QuestionState}
use Rattle.branch_pool.specs.declared.ticket.Answer.TheVariants.{NotYet}
use Rattle.branch_pool.specs.inside.States.{PoolView, out_count}
use Rattle.branch_pool.specs.inside.Calls.{pool_answer}
use Rattle.branch_pool.specs.inside.Runs.{WorksNext}
use Rattle.answer_rows.specs.NewTrees.{is_all_new}

-- the pool after any number of turns
pub data WorksTo : PoolView → PoolView → Type 0 where
  no_turn : (pool : PoolView) → WorksTo pool pool
  one_turn_more : (old between new : PoolView) → WorksTo old between → WorksNext between new
      → WorksTo old new

-- nothing but what is known of the questions, and what is out, has changed
pub record IsSameLeague (old new : PoolView) : Type 0 where
  pub sheet : new.sheet ≡ old.sheet
  pub questions : new.questions ≡ old.questions
  pub season : new.season ≡ old.season
  pub log : new.log ≡ old.log
  pub is_open : new.is_open ≡ old.is_open

-- the work on each question is done: none is answered by `NotYet`
abbrev pub AreSettled : PoolView → Type 0
AreSettled pool = (place : ℕ) → pool_answer pool place ≢ Some NotYet

-- the work on a question is done: an example is kept, or each leaf of its tree is refuted, or its
-- budget is used up
abbrev pub is_settled : Sheet → QuestionState → Bool
is_settled sheet seat =
    is_some seat.example || is_refuted seat.tree || (seat.units == sheet.budget)

-- it is known whether the question has an example
abbrev pub is_known : QuestionState → Bool
is_known seat = is_some seat.example || is_refuted seat.tree

-- this is known of each question
abbrev pub AreDecided : PoolView → Type 0
AreDecided pool = All (λ (seat : QuestionState). IsTrue (is_known seat)) pool.seats

-- each split and each refuted leaf of each question's tree is marked new
abbrev pub AreAllNew : PoolView → Type 0
AreAllNew pool = All (λ (seat : QuestionState). IsTrue (is_all_new seat.tree)) pool.seats

-- a budget that is never used up: the number of the season's finishes, doubled for each club
abbrev pub IsEnough : Sheet → Results → Type 0
IsEnough sheet season =
    2 ^ length sheet.clubs * ways_to_finish sheet.goal_limit season.scores ≤ sheet.budget

-- the work on a pool of which no number was out is finished: turns alone were made, until there was
-- nothing left to work on
pub record FinishesWork (old new : PoolView) : Type 0 where
  pub work : WorksTo old new
  pub same : IsSameLeague old new
  pub home : out_count new.loans ≡ 0
  pub settled : AreSettled new
  pub enough : IsEnough new.sheet new.season → AreDecided new
