-- The zone has a finish, so the reason is what it says of the clubs.
use mir.Syntax.{w32, w64}
use mir.Val.{to_z, of_z}
use lib.Signed.{lt_z}
use Rattle.std.proofs.Common.{◌≡◌, ◌&&◌, sym, ap, ◌∙◌, arith}
use Rattle.std.specs.List.{list_all}
use Rattle.std.proofs.lemmas.Int.{ints}
use Rattle.league_core.specs.game.ClubSets.{clubs_in}
use Rattle.league_core.specs.search.Zones.{marked_after}
use Rattle.league_core.specs.search.Options.{has_finish}
use Rattle.league_core.specs.search.PointRanges.{least_points_of, own_most}
use Rattle.league_core.specs.search.Reasons.{has_reason, has_member, times}
use Rattle.tie_bound.proofs.GivenLemmas.{said_of, unsaid_of}
use Rattle.tie_bound.proofs.given.low_reason.Goals as goal

pub returns-then-are_some_of : goal.returns-then-are_some_of
unfolding has_reason
returns-then-are_some_of c =
    let box = c.args.zone_box.now in
    let clubs = clubs_in c.args.clubs in
    let most = own_most box.sheet box.season c.args.question.now box.zone in
    let least = least_points_of box.sheet box.season box.zone clubs in
    let own : to_z w32 (of_z w32 c.own_most.result) ≡ most =
    omega (arith, ints, c.own_most.type_inv, c.own_most.ensures.value) in
    let together : c.times.result ≡ times clubs most = c.times.ensures ∙ ap (times clubs) own in
    let left : to_z w64 (of_z w64 c.times.result) ≡ times clubs most =
    omega (arith, ints, c.times.type_inv, together) in
    let right : to_z w64 (of_z w64 c.from.result) ≡ least =
    omega (arith, ints, c.from.ensures, c.low_points.type_inv, c.low_points.ensures.least) in
    ap (λ a. lt_z a (to_z w64 (of_z w64 c.from.result))) left
    ∙ ap (lt_z (times clubs most)) right
    ∙ said_of (has_finish box.sheet box.season box.zone)
    (has_member clubs && list_all (marked_after box.zone) clubs) (lt_z (times clubs most) least)
    c.requires.has_finish
    (sym (c.are_some_of.ensures (marked_after box.zone) c.after.ensures)
    ∙ c.if-are_some_of.true)

pub returns-else-are_some_of : goal.returns-else-are_some_of
unfolding has_reason
returns-else-are_some_of c =
    let box = c.args.zone_box.now in
    let clubs = clubs_in c.args.clubs in
    let most = own_most box.sheet box.season c.args.question.now box.zone in
    let least = least_points_of box.sheet box.season box.zone clubs in
    let is = c.are_some_of.ensures (marked_after box.zone) c.after.ensures in
    is ∙ unsaid_of (has_finish box.sheet box.season box.zone)
    (has_member clubs && list_all (marked_after box.zone) clubs) (lt_z (times clubs most) least)
    c.requires.has_finish (sym is ∙ c.if-are_some_of.false)
