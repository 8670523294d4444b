-- A pair of the set has its clubs below 32, and its surplus goes to the home club.
use mir.Syntax.{w64}
use mir.Val.{to_z, of_z}
use Rattle.std.proofs.Common.{◌≡◌, true, sym, ◌∙◌, arith}
use Rattle.std.proofs.lemmas.Int.{ints}
use Rattle.flow_bound.specs.inside.Parts.{side_of}
use Rattle.flow_bound.proofs.PartLemmas.{home_credited, IsClubTable-surplus}
use Rattle.flow_bound.proofs.SetLemmas.{side_of-lt}
use Rattle.flow_bound.proofs.network.credit_home.Goals as goal

pub credit-requires-clause-in_range : goal.credit-requires-clause-in_range
credit-requires-clause-in_range c =
    side_of-lt c.args.set c.args.pair.home (sym c.has.ensures ∙ c.if-not-has.false)

pub returns-clause-sums : goal.returns-clause-sums
returns-clause-sums c side =
    let home : side_of c.args.set c.args.pair.home ≡ true = sym c.has.ensures ∙ c.if-not-has.false
    in
    let away : side_of c.args.set c.args.pair.away ≡ true = sym c.has-else-not-has.ensures ∙
    c.if-not-has-2.false in
    home_credited c.args.table.now c.credit.new.table c.args.pair (to_z w64 (of_z w64
    c.from.result))
    (side_of c.args.set) side c.requires.sized.2.long home away
    (side_of-lt c.args.set c.args.pair.home home) (omega (arith, ints, c.from.ensures))
    c.credit.ensures

pub returns-clause-sized : goal.returns-clause-sized
returns-clause-sized c credits is =
    IsClubTable-surplus credits c.args.table.now c.credit.new.table c.args.pair.home
    c.args.pair.surplus (to_z w64 (of_z w64 c.from.result)) is
    (side_of-lt c.args.set c.args.pair.home (sym c.has.ensures ∙ c.if-not-has.false))
    c.requires.small (omega (arith, ints, c.from.ensures)) c.credit.ensures
