use Rattle.std.proofs.Common.{◌+◌, ◌*◌, None, get_or, ap, arith}
use Rattle.league_core.specs.inside.FinishList.{ways_to_end, ways_to_finish}
use Rattle.reference_programs.proofs.WaysLemmas.{ways_to_finish-take_more, ways_to_finish-take-le}
use Rattle.reference_programs.proofs.counting.finish_count.Goals as goal

pub returns-then-is_over : goal.returns-then-is_over
returns-then-is_over c = λ few.
    let limit = c.args.sheet.now.goal_limit in
    let items = c.scores-played-items.result.now in
    let i = c.loop-played.played-index in
    let more = ways_to_finish-take_more limit items i (omega arith) in
    let counted = ap (λ n. n * ways_to_end limit (get_or items i None)) c.loop-played.invariant.0 in
    let ways = ap (λ n. c.loop-played.count * n) c.ways_to_end-count.ensures.value in
    let whole = ways_to_finish-take-le limit items (i + 1) in
    let same = ap (ways_to_finish limit) c.scores-played-items.ensures.scores in
    omega arith

pub loop-played-preserved : goal.loop-played-preserved
loop-played-preserved c =
    let limit = c.args.sheet.now.goal_limit in
    let items = c.scores-played-items.result.now in
    let i = c.loop-played.played-index in
    let more = ways_to_finish-take_more limit items i (omega arith) in
    let counted = ap (λ n. n * ways_to_end limit (get_or items i None)) c.loop-played.invariant.0 in
    let ways = ap (λ n. c.loop-played.count * n) c.ways_to_end-count.ensures.value in
    (omega arith, omega arith)
