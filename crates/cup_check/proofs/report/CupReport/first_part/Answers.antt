-- Where a tree comes first, either part may come behind it.
use Rattle.std.proofs.Common.{◌≡◌, ◌+◌, [], ◌∷◌, ◌∙◌, Some, Err, subst, sym}
use Rattle.std.proofs.lemmas.Result.{err_from_is_err_and}
use Rattle.league_core.specs.declared.question.Claim.TheVariants.{Inside, Outside}
use Rattle.cert_check.specs.LineGrammars.{Next}
use Rattle.cert_check.proofs.GoesLemmas.{first_halts}
use Rattle.cup_grammar.specs.CupDues.{CupDue, one_part, spent_head, whole_joint_finish}
use Rattle.cup_grammar.specs.CupReports.{cup_grammar}
use Rattle.cup_check.specs.declared.claimed_side.ClaimedSide.{ClaimedSide}
use Rattle.cup_check.specs.inside.CupGoes.{GoesInCup, HaltsInCup}
use Rattle.cup_check.specs.inside.CupSideCalls.{TakesNextInCup, claim_of_line}
use Rattle.cup_check.proofs.CupReachLemmas.{head_of_first, parts_as_spent, spent_before}
use Rattle.cup_check.proofs.CupReachLemmas.{spent_stops}
use Rattle.cup_check.proofs.report.CupReport.first_part.Goals as goal

pub returns-in_err-behind-in-Some-Inside : goal.returns-in_err-behind-in-Some-Inside
returns-in_err-behind-in-Some-Inside c =
    let judged = c.args.self.now in
    let shown = c.args.line.now in
    let stop = c.in_err-behind-in-Some-Inside.field-0.0 in
    let due = whole_joint_finish judged.basis Inside c.args.club in
    let Takes : Next CupDue → Type 0 =
    λ next. TakesNextInCup judged next c.args.at (Err stop) in
    let Halts : ClaimedSide → Type 0 = λ it. HaltsInCup judged (c.args.at + 1)
    (whole_joint_finish judged.basis it.claim it.club) stop in
    let is : claim_of_line shown ≡ Some Inside = cc in
    let gone = err_from_is_err_and c.from_residual.result c.from_residual.ensures.1 in
    rw (gone.1, gone.2)
    (subst Takes (sym (head_of_first judged.basis c.args.club shown is))
    (first_halts cup_grammar judged (c.args.at + 1) due (spent_head ∷ []) stop
    (subst Halts c.inside_of.ensures c.in_err-behind-in-Some-Inside.ensures)))

pub returns-in_err-behind-in-None : goal.returns-in_err-behind-in-None
returns-in_err-behind-in-None c =
    let judged = c.args.self.now in
    let shown = c.args.line.now in
    let stop = c.in_err-behind-in-None.field-0.0 in
    let Takes : Next CupDue → Type 0 =
    λ next. TakesNextInCup judged next c.args.at (Err stop) in
    let left = c.from_residual-in_err-behind-in-None in
    let gone = err_from_is_err_and left.result left.ensures.1 in
    rw (gone.1, gone.2)
    (subst Takes
    (parts_as_spent judged.basis c.args.club shown (sym c.claim_of.ensures ∙ c.in-None.is))
    (spent_stops judged shown c.args.at (one_part Outside c.args.club ∷ []) stop
    c.in_err-behind-in-None.ensures))

pub returns-in_ok-behind-in-None : goal.returns-in_ok-behind-in-None
returns-in_ok-behind-in-None c =
    let judged = c.args.self.now in
    let shown = c.args.line.now in
    let behind = c.in_ok-behind-in-None.behind in
    let Takes : Next CupDue → Type 0 =
    λ next. TakesNextInCup judged next c.args.at c.one_part.result in
    let Goes : ClaimedSide → Type 0 =
    λ it. GoesInCup judged behind (one_part it.claim it.club) c.one_part.result in
    subst Takes
    (parts_as_spent judged.basis c.args.club shown (sym c.claim_of.ensures ∙ c.in-None.is))
    (spent_before judged shown c.args.at behind (one_part Outside c.args.club) c.one_part.result
    c.in_ok-behind-in-None.ensures (subst Goes c.outside_of.ensures c.one_part.ensures))
