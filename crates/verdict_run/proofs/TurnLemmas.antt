-- Lists of a pool's steps put behind each other, and the steps that turns of work are.
use Rattle.std.proofs.Common.{◌≡◌, List, [], ◌∷◌, ◌++◌, refl, sym, ap, ◌∙◌, subst}
use Rattle.branch_pool.specs.declared.ticket.Gave.TheVariants.{Kept}
use Rattle.branch_pool.specs.inside.States.{PoolView}
use Rattle.branch_pool.specs.inside.Runs.{take_step, give_step, Move, AreSteps, pool_after}
use Rattle.branch_pool.specs.inside.Runs.{AreAllWork, ComesByWork, WorksNext}
use Rattle.verdict_run.specs.inside.Working.{WorksTo, no_turn, one_turn_more}

-- ---- one list behind another

-- steps, and then steps from where they lead
steps_behind : (pool : PoolView) (first next : List Move) → AreSteps pool first
    → AreSteps (pool_after pool first) next → AreSteps pool (first ++ next)
steps_behind pool [] next steps more = more
steps_behind pool (move ∷ first) next steps more =
    (steps.0, steps_behind move.after first next steps.1 more)

-- all of both are work
work_behind : (first next : List Move) → AreAllWork first → AreAllWork next
    → AreAllWork (first ++ next)
work_behind [] next work more = more
work_behind (move ∷ first) next work more = (work.0, work_behind first next work.1 more)

-- they lead to where the second leads from where the first leads
pool_after-append : (pool : PoolView) (first next : List Move)
    → pool_after pool (first ++ next) ≡ pool_after (pool_after pool first) next
pool_after-append pool [] next = refl
pool_after-append pool (move ∷ first) next = pool_after-append move.after first next

-- work, and then work from there
work_goes_on : (old between new : PoolView) → ComesByWork old between → ComesByWork between new
    → ComesByWork old new
work_goes_on old between new first next = record {
  moves = first.moves ++ next.moves;
  steps = (let P : PoolView → Type 0 = λ pool. AreSteps pool next.moves in
      steps_behind old first.moves next.moves first.steps (subst P (sym first.reaches) next.steps));
  work = work_behind first.moves next.moves first.work next.work;
  reaches = pool_after-append old first.moves next.moves
      ∙ ap (λ pool. pool_after pool next.moves) first.reaches ∙ next.reaches;
}

-- ---- turns

-- a turn is a take, and then a give that is kept
turn_is_work : (old new : PoolView) → WorksNext old new → ComesByWork old new
turn_is_work old new turn = record {
  moves = record { step = take_step turn.ticket; after = turn.between }
      ∷ (record { step = give_step turn.ticket turn.done Kept; after = new } ∷ []);
  steps = (turn.taken.takes, ((turn.given, turn.kept), tt));
  work = (refl, (refl, tt));
  reaches = refl;
}

-- so are any number of turns
pub turns_are_work : (old new : PoolView) → WorksTo old new → ComesByWork old new
turns_are_work old new (no_turn pool) =
    record { moves = []; steps = tt; work = tt; reaches = refl }
turns_are_work old new (one_turn_more first between last before turn) =
    work_goes_on first between last (turns_are_work first between before)
    (turn_is_work between last turn)
