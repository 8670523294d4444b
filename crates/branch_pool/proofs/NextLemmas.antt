-- Which question comes next, found in one walk: none that is untouched stands before the first
-- that has work.
use Rattle.std.proofs.Common.{◌≡◌, ℕ, ◌+◌, false, ◌&&◌, ◌==◌, drop, Some, None, ap, ◌∙◌}
use Rattle.std.specs.Prelude.{position}
use Rattle.std.specs.Option.{option_or, option_map}
use Rattle.league_core.specs.declared.sheet.Sheet.{Sheet}
use Rattle.branch_pool.specs.declared.question_state.QuestionState.{QuestionState}
use Rattle.branch_pool.specs.inside.States.{PoolView, is_workable}
use Rattle.branch_pool.specs.inside.Calls.{next_place, is_untouched}
use Rattle.league_core.proofs.plain.Places.{narrower_from, none_narrower}

-- an untouched question has work
untouched_is_workable : (sheet : Sheet) (seat : QuestionState) → is_workable sheet seat ≡ false
    → is_untouched sheet seat ≡ false
untouched_is_workable sheet seat none = ap (λ works. works && (seat.lent == 0)) none

-- the question that comes next, where the first with work is known
pub next_from : (pool : PoolView) (first : ℕ)
    → position (is_workable pool.sheet) pool.seats ≡ Some first
    → next_place pool ≡ option_or (option_map (λ more. first + more)
    (position (is_untouched pool.sheet) (drop first pool.seats))) (Some first)
next_from pool first at =
    ap (λ untouched. option_or untouched (position (is_workable pool.sheet) pool.seats))
    (narrower_from (is_workable pool.sheet) (is_untouched pool.sheet) pool.seats first
    (untouched_is_workable pool.sheet) at)
    ∙ ap (option_or (option_map (λ more. first + more)
    (position (is_untouched pool.sheet) (drop first pool.seats)))) at

-- where no question has work none comes next
pub next_none : (pool : PoolView) → position (is_workable pool.sheet) pool.seats ≡ None
    → next_place pool ≡ None
next_none pool none =
    ap (λ untouched. option_or untouched (position (is_workable pool.sheet) pool.seats))
    (none_narrower (is_workable pool.sheet) (is_untouched pool.sheet) pool.seats
    (untouched_is_workable pool.sheet) none)
    ∙ none
