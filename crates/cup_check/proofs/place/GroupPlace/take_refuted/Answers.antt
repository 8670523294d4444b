-- A leaf whose reason does not hold.
use Rattle.std.proofs.Common.{◌∙◌, refl, sym}
use Rattle.league_core.specs.inside.Pending.{pending_of}
use Rattle.cup_groups.specs.inside.KindQuestions.{group_question_of}
use Rattle.cup_check.proofs.GroupTreeLemmas.{group_reason_unproved}
use Rattle.cup_check.proofs.place.GroupPlace.take_refuted.Goals as goal

pub returns-then-not-has_reason-clause-says : goal.returns-then-not-has_reason-clause-says
returns-then-not-has_reason-clause-says c =
    let question = group_question_of c.args.wanted.question in
    let path = c.args.walk.now.path.zone in (
      refl,
      group_reason_unproved c.args.wanted.kind c.args.self.now question path (pending_of path)
          c.args.walk.now.tally c.args.reason c.args.fresh
          (sym c.may_refute.ensures ∙ c.if-not-may_refute.false)
          (sym c.has_reason.ensures ∙ c.if-not-has_reason.true),
    )
