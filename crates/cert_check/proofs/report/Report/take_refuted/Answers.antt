use Rattle.std.proofs.Common.{◌≡◌, true, false, sym, ◌∙◌, subst, refl}
use Rattle.wide_lines.specs.WideReasons.{has_wide_reason}
use Rattle.cert_check.specs.ExpectedItems.{may_refute}
use Rattle.league_core.specs.inside.Pending.{pending_of}
use Rattle.cert_check.specs.inside.Calls.{ReportView}
use Rattle.cert_check.proofs.CallLemmas.{reason_unproved}
use Rattle.cert_check.proofs.report.Report.take_refuted.Goals as goal

pub returns-then-not-has_reason-clause-says : goal.returns-then-not-has_reason-clause-says
returns-then-not-has_reason-clause-says c =
    let basis = c.args.self.now.basis in
    let question = c.args.wanted.question in
    let path = c.args.walk.now.path.zone in
    let P : ReportView
    → Type 0 = λ it. may_refute it.basis.kind it.basis.sheet question c.args.reason ≡ true in
    let fits = subst P c.self.view_is (sym c.may_refute.ensures ∙ c.if-not-may_refute.false) in
    let said = c.has_reason.ensures in
    let no = c.if-not-has_reason.true in
    let off : has_wide_reason basis.sheet basis.season question path c.args.reason ≡ false = cc in (
      refl,
      reason_unproved basis c.args.wanted.kind question path (pending_of path)
          c.args.walk.now.tally c.args.reason c.args.fresh fits off,
    )
