use Rattle.branch_pool.proofs.FromLemmas.{work_from_start}
use Rattle.branch_pool.proofs.StepLemmas.{begun_sound}
use Rattle.branch_pool.proofs.pool.Pool.begin.Goals as goal

pub invariant_of-result : goal.invariant_of-result
invariant_of-result c =
    let sound = begun_sound c.args.sheet c.args.questions.items c.requires.limits
    c.requires.of_sheet
    c.requires.few in (
      rw (
        c.in_ok-season.ensures,
        c.len.ensures,
        c.len-2.ensures,
        c.in_ok-seats.ensures,
        c.as_slice.ensures.value,
        c.new.ensures.items,
        c.new-2.ensures,
      ) sound,
      work_from_start _ _,
    )
