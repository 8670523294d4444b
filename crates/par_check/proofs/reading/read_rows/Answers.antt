use Rattle.std.proofs.Common.{◌<◌, ◌+◌, ◌≡◌, ℕ, [], ◌∷◌, drop, length, get_or, sym, subst, arith}
use Rattle.cert_check.specs.ExpectedItems.{ask_row}
use Rattle.cert_check.specs.Machine.{part_of_ask}
use Rattle.cert_check.specs.inside.Calls.{Reaches}
use Rattle.par_check.proofs.PlaceLemmas.{goes_far, row_on, row_stops}
use Rattle.par_check.proofs.reading.read_rows.Goals as goal

pub and-reached-requires : goal.and-reached-requires
and-reached-requires c =
    let judged = c.args.report.now in
    let due = get_or (part_of_ask judged.basis.sheet) c.loop-at.at ask_row in
    omega (
      arith,
      c.loop-at.invariant.far,
      goes_far judged (due ∷ []) c.loop-at.reached.next c.in-Ok.found c.in-Ok.ensures,
      c.in-Ok.ensures.0,
      c.requires.few,
    )

pub returns-in-Err : goal.returns-in-Err
returns-in-Err c =
    let within : c.loop-at.at < length (part_of_ask c.args.report.now.basis.sheet) =
    omega (arith, c.loop-at-test.true, c.requires.within) in
    row_stops c.args.report.now c.args.row c.loop-at.at c.args.from c.loop-at.reached.next
    c.loop-at.reached.unsettled c.in-Err.stop within c.loop-at.invariant.reaches c.in-Err.ensures

pub loop-at-preserved : goal.loop-at-preserved
loop-at-preserved c =
    let judged = c.args.report.now in
    let part = part_of_ask judged.basis.sheet in
    let at = c.loop-at.at in
    let reached = c.loop-at.reached in
    let found = c.in-Ok.found in
    let within : at < length part = omega (arith, c.loop-at-test.true, c.requires.within) in
    let on = row_on judged c.args.row at c.args.from reached.next reached.unsettled found within
    c.loop-at.invariant.reaches c.in-Ok.ensures in
    let A : ℕ → Type 0 = λ it. Reaches judged c.args.from (drop c.args.row part) it
    (drop (at + 1) part) (reached.unsettled + found.unsettled) in
    let B : ℕ → Type 0 = λ it. Reaches judged c.args.from (drop c.args.row part)
    c.and-reached.result.next (drop (at + 1) part) it in
    let due = get_or part at ask_row in
    record {
      reaches = subst B (sym c.and-reached.ensures.unsettled)
          (subst A (sym c.and-reached.ensures.next) on);
      far = omega (
        arith,
        c.loop-at.invariant.far,
        goes_far judged (due ∷ []) reached.next found c.in-Ok.ensures,
        c.and-reached.ensures.next,
        c.and-reached.ensures.unsettled,
      );
      room = omega (arith, c.in-Ok.ensures.0, c.and-reached.ensures.next);
      below = omega (arith, c.loop-at-test.true);
    }

pub returns : goal.returns
returns c =
    let judged = c.args.report.now in
    let part = part_of_ask judged.basis.sheet in
    let reached = c.loop-at.reached in
    let all : c.loop-at.at ≡ c.args.until =
    omega (arith, c.loop-at-test.false, c.loop-at.invariant.below) in
    let P : ℕ → Type 0 = λ it. Reaches judged c.args.from (drop c.args.row part) reached.next
    (drop it part) reached.unsettled in (
      c.loop-at.invariant.room,
      c.loop-at.invariant.far,
      subst P all c.loop-at.invariant.reaches,
    )
