use Rattle.std.proofs.Common.{◌≤◌, ℕ, ap, sym, ◌∙◌, subst, get_or, arith}
use Rattle.std.proofs.lemmas.Result.{on_ok_weaker}
use Rattle.verdict_run.proofs.ReportedLemmas.{deduction_reported, deduction_none}
use Rattle.verdict_run.proofs.ReportedLemmas.{reported_deductions}
use Rattle.verdict_run.proofs.ReportedLemmas.{deduction_within}
use Rattle.verdict_run.proofs.reporting.report_deduction.Goals as goal

pub returns-then-points-eq0-clause-reported : goal.returns-then-points-eq0-clause-reported
returns-then-points-eq0-clause-reported c =
    deduction_none c.args.season.now c.args.club c.args.pool.now c.requires.in_range
    (ap (λ points. get_or points c.args.club 0) (sym c.deductions.ensures.deductions)
    ∙ c.if-points-eq0.true) c.requires.reported

pub change_with_room-requires-clause-may_be : goal.change_with_room-requires-clause-may_be
change_with_room-requires-clause-may_be c =
    let whole = c.args.season.now in
    let same = reported_deductions whole c.args.club 0 c.args.pool.now c.requires.reported in
    let inside = c.requires.in_range in
    let few = deduction_within whole c.args.club c.deductions.ensures.within inside in
    let P : ℕ → Type 0 = λ points. points ≤ 99 in (
      omega (arith, same, inside),
      subst P (ap (λ points. get_or points c.args.club 0) (sym c.deductions.ensures.deductions))
          few,
    )

pub returns-clause-reported : goal.returns-clause-reported
returns-clause-reported c =
    on_ok_weaker c.change_with_room.result
    (deduction_reported c.args.season.now c.args.club _ c.args.pool.now _ c.requires.in_range
    (ap
    (λ points. get_or points c.args.club 0) c.deductions.ensures.deductions) c.requires.reported)
    c.change_with_room.ensures.ok
