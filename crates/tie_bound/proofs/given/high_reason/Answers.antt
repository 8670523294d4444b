-- The zone has a finish, so the reason is what it says of the clubs.
use mir.Syntax.{w32, w64}
use mir.Val.{to_z, of_z}
use lib.Signed.{lt_z}
use Rattle.std.proofs.Common.{◌≡◌, ◌&&◌, sym, ap, ◌∙◌, arith}
use Rattle.std.specs.List.{list_all}
use Rattle.std.proofs.lemmas.Int.{ints}
use Rattle.league_core.specs.game.ClubSets.{clubs_in}
use Rattle.league_core.specs.search.Zones.{marked_before}
use Rattle.league_core.specs.search.Options.{has_finish}
use Rattle.league_core.specs.search.PointRanges.{most_points_of, own_least}
use Rattle.league_core.specs.search.Reasons.{has_reason, has_member, times}
use Rattle.tie_bound.proofs.GivenLemmas.{said_of, unsaid_of}
use Rattle.tie_bound.proofs.given.high_reason.Goals as goal

pub returns-then-are_some_of : goal.returns-then-are_some_of
unfolding has_reason
returns-then-are_some_of c =
    let box = c.args.zone_box.now in
    let clubs = clubs_in c.args.clubs in
    let least = own_least box.sheet box.season c.args.question.now box.zone in
    let most = most_points_of box.sheet box.season box.zone clubs in
    let own : to_z w32 (of_z w32 c.own_least.result) ≡ least =
    omega (arith, ints, c.own_least.type_inv, c.own_least.ensures.value) in
    let together : c.times.result ≡ times clubs least = c.times.ensures ∙ ap (times clubs) own in
    let left : to_z w64 (of_z w64 c.times.result) ≡ times clubs least =
    omega (arith, ints, c.times.type_inv, together) in
    let right : to_z w64 (of_z w64 c.from.result) ≡ most =
    omega (arith, ints, c.from.ensures, c.high_points.type_inv, c.high_points.ensures.most) in
    ap (λ a. lt_z a (to_z w64 (of_z w64 c.times.result))) right
    ∙ ap (lt_z most) left
    ∙ said_of (has_finish box.sheet box.season box.zone)
    (has_member clubs && list_all (marked_before box.zone) clubs) (lt_z most (times clubs least))
    c.requires.has_finish
    (sym (c.are_some_of.ensures (marked_before box.zone) c.before-2.ensures)
    ∙ c.if-are_some_of.true)

pub returns-else-are_some_of : goal.returns-else-are_some_of
unfolding has_reason
returns-else-are_some_of c =
    let box = c.args.zone_box.now in
    let clubs = clubs_in c.args.clubs in
    let least = own_least box.sheet box.season c.args.question.now box.zone in
    let most = most_points_of box.sheet box.season box.zone clubs in
    let is = c.are_some_of.ensures (marked_before box.zone) c.before-2.ensures in
    is ∙ unsaid_of (has_finish box.sheet box.season box.zone)
    (has_member clubs && list_all (marked_before box.zone) clubs) (lt_z most (times clubs least))
    c.requires.has_finish (sym is ∙ c.if-are_some_of.false)
