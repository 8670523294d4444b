-- The zone has a finish, so the reason is what the club's own points say.
use mir.Syntax.{w32}
use mir.Val.{to_z, of_z}
use lib.Signed.{lt_z}
use Rattle.std.proofs.Common.{◌≡◌, [], ◌∷◌, sym, ap, ◌∙◌, arith}
use Rattle.std.proofs.lemmas.Int.{ints}
use Rattle.league_core.specs.search.Options.{has_finish}
use Rattle.league_core.specs.search.PointRanges.{least_points_of, most_points_of}
use Rattle.league_core.specs.search.Reasons.{has_reason}
use Rattle.tie_bound.proofs.GivenLemmas.{said_first, said_second}
use Rattle.tie_bound.proofs.given.window_reason.Goals as goal

pub returns-then-high-question : goal.returns-then-high-question
unfolding has_reason
returns-then-high-question c =
    let box = c.args.zone_box.now in
    let question = c.args.question.now in
    let most = most_points_of box.sheet box.season box.zone (question.club ∷ []) in
    let least = least_points_of box.sheet box.season box.zone (question.club ∷ []) in
    let at_most : to_z w32 (of_z w32 c.high.result) ≡ most =
    omega (arith, ints, c.high.ensures.value, c.high.ensures.within) in
    let low : to_z w32 (of_z w32 question.low) ≡ question.low = omega (arith, ints) in
    let says : lt_z (to_z w32 (of_z w32 c.high.result)) (to_z w32 (of_z w32 question.low))
    ≡ lt_z most question.low =
    ap (λ a. lt_z a (to_z w32 (of_z w32 question.low))) at_most ∙ ap (lt_z most) low in
    says ∙ said_first (has_finish box.sheet box.season box.zone) (lt_z most question.low)
    (lt_z question.high least) c.requires.has_finish (sym says ∙ c.if-high-question.true)

pub returns-else-high-question : goal.returns-else-high-question
unfolding has_reason
returns-else-high-question c =
    let box = c.args.zone_box.now in
    let question = c.args.question.now in
    let most = most_points_of box.sheet box.season box.zone (question.club ∷ []) in
    let least = least_points_of box.sheet box.season box.zone (question.club ∷ []) in
    let at_most : to_z w32 (of_z w32 c.high.result) ≡ most =
    omega (arith, ints, c.high.ensures.value, c.high.ensures.within) in
    let at_least : to_z w32 (of_z w32 c.low.result) ≡ least =
    omega (arith, ints, c.low.ensures.value, c.low.ensures.within) in
    let low : to_z w32 (of_z w32 question.low) ≡ question.low = omega (arith, ints) in
    let high : to_z w32 (of_z w32 question.high) ≡ question.high = omega (arith, ints) in
    let first : lt_z (to_z w32 (of_z w32 c.high.result)) (to_z w32 (of_z w32 question.low))
    ≡ lt_z most question.low =
    ap (λ a. lt_z a (to_z w32 (of_z w32 question.low))) at_most ∙ ap (lt_z most) low in
    let second : lt_z (to_z w32 (of_z w32 question.high)) (to_z w32 (of_z w32 c.low.result))
    ≡ lt_z question.high least =
    ap (λ a. lt_z a (to_z w32 (of_z w32 c.low.result))) high
    ∙ ap (lt_z question.high) at_least in
    second ∙ said_second (has_finish box.sheet box.season box.zone) (lt_z most question.low)
    (lt_z question.high least) c.requires.has_finish (sym first ∙ c.if-high-question.false)
