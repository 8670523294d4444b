use Rattle.std.proofs.Common.{◌≡◌, Bool, length, sym, ◌∙◌, ap, subst, to_z, of_z, w32, arith}
use Rattle.std.proofs.lemmas.Int.{ints}
use Rattle.near_laws.specs.Fits.{leaves_points}
use Rattle.near_bound.specs.inside.FitEnds.{IsClubSoFar}
use Rattle.near_bound.specs.inside.Points.{range_of_ends, ends_listed}
use Rattle.near_bound.proofs.AbleClubLemmas.{lacking_not_able}
use Rattle.near_bound.proofs.FitEndLemmas.{at_last}
use Rattle.near_bound.proofs.RangeFitLemmas.{outside_not_able}
use Rattle.near_bound.proofs.tie.Tie.is_able_by.Goals as goal

pub returns-then-not-has_in_range : goal.returns-then-not-has_in_range
returns-then-not-has_in_range c = λ zone is.
    sym (outside_not_able c.args.self.now zone c.args.club is c.requires.in_range
    (sym c.has_in_range.ensures ∙ c.if-not-has_in_range.true))

pub returns-then-has : goal.returns-then-has
returns-then-has c = λ zone is.
    let tie = c.args.self.now in
    let count = length tie.left.now.sheet.now.fixtures in
    sym (lacking_not_able tie zone c.args.club
    (subst (λ (b : Bool). IsClubSoFar tie zone c.args.club count
    (ends_listed c.args.all.now.ends c.args.club) b) (sym c.has.ensures ∙ c.if-has.true)
    (c.requires.walked zone is c.args.club c.requires.in_range
    (sym c.has_in_range.ensures ∙ c.if-not-has_in_range.false))))

pub returns : goal.returns
returns c = λ zone is.
    let tie = c.args.self.now in
    let count = length tie.left.now.sheet.now.fixtures in
    let ends = ends_listed c.args.all.now.ends c.args.club in
    let points_is : to_z w32 (of_z w32 tie.points) ≡ tie.points =
    omega (arith, ints, c.requires.tie.points.0, c.requires.tie.points.1) in
    c.has-2.ensures
    ∙ ap (leaves_points (range_of_ends ends)) points_is
    ∙ sym (at_last tie zone c.args.club ends c.requires.tie is
    (subst (λ (b : Bool). IsClubSoFar tie zone c.args.club count ends b)
    (sym c.has.ensures ∙ c.if-has.false)
    (c.requires.walked zone is c.args.club c.requires.in_range
    (sym c.has_in_range.ensures ∙ c.if-not-has_in_range.false))))
