-- The pair has its clubs in the set, so below 32, and its surplus goes to both.
use mir.Syntax.{w64}
use mir.Val.{to_z, of_z}
use Rattle.std.proofs.Common.{◌≡◌, ◌+◌, ℕ, cond, ap, subst, arith}
use Rattle.std.proofs.lemmas.Bool.{and_parts}
use Rattle.std.proofs.lemmas.Int.{ints}
use Rattle.flow_bound.specs.declared.tally.Pair.{Pair}
use Rattle.flow_bound.specs.inside.Network.{has_away_in, has_home_in}
use Rattle.flow_bound.specs.inside.Parts.{IsClubTable, side_of}
use Rattle.flow_bound.proofs.PartLemmas.{home_credited, away_credited, IsClubTable-surplus}
use Rattle.flow_bound.proofs.SetLemmas.{side_of-lt}
use Rattle.flow_bound.proofs.peel.credit_match.Goals as goal

pub credit-requires-clause-in_range : goal.credit-requires-clause-in_range
credit-requires-clause-in_range c =
    let pair = c.in-Some.pair in
    side_of-lt c.args.set pair.home
    (and_parts (side_of c.args.set pair.home) (side_of c.args.set pair.away) c.in-Some.ensures.1).0

pub credit-requires-in-Some-clause-in_range : goal.credit-requires-in-Some-clause-in_range
credit-requires-in-Some-clause-in_range c =
    let pair = c.in-Some.pair in
    side_of-lt c.args.set pair.away
    (and_parts (side_of c.args.set pair.home) (side_of c.args.set pair.away) c.in-Some.ensures.1).1

pub returns-in-Some-clause-sums : goal.returns-in-Some-clause-sums
returns-in-Some-clause-sums c side =
    let pair = c.in-Some.pair in
    let part = side_of c.args.set in
    let both = and_parts (part pair.home) (part pair.away) c.in-Some.ensures.1 in
    let small = c.in-Some.ensures.3 in
    let first = home_credited c.args.table.now c.credit.new.table pair (to_z w64 (of_z w64
    c.from-surplus.result)) part
    side c.requires.sized.2.long both.0 both.1 (side_of-lt c.args.set pair.home both.0)
    (omega (arith, ints, small, c.from-surplus.ensures)) c.credit.ensures in
    let second = away_credited c.credit.new.table c.credit-in-Some.new.table pair
    (to_z w64 (of_z w64 c.from-surplus.result))
    part side c.credit.array_long both.0 both.1 (side_of-lt c.args.set pair.away both.1)
    (omega (arith, ints, small, c.from-surplus.ensures)) c.credit-in-Some.ensures in
    let at_home = ap (λ (p : Pair). cond (has_home_in part side p) p.surplus 0)
    c.in-Some.ensures.0 in
    let at_away = ap (λ (p : Pair). cond (has_away_in part side p) p.surplus 0)
    c.in-Some.ensures.0 in
    omega (arith, ints, first, second, at_home, at_away)

pub returns-in-Some-clause-sized : goal.returns-in-Some-clause-sized
returns-in-Some-clause-sized c credits is =
    let pair = c.in-Some.pair in
    let part = side_of c.args.set in
    let both = and_parts (part pair.home) (part pair.away) c.in-Some.ensures.1 in
    let small = c.in-Some.ensures.3 in
    let first = IsClubTable-surplus credits c.args.table.now c.credit.new.table pair.home
    pair.surplus
    (to_z w64 (of_z w64 c.from-surplus.result)) is (side_of-lt c.args.set pair.home both.0) small
    (omega (arith, ints, small, c.from-surplus.ensures)) c.credit.ensures in
    let next : credits + 1 + 1 ≡ credits + 2 = omega arith in
    subst (λ (n : ℕ). IsClubTable n c.credit-in-Some.new.table) next
    (IsClubTable-surplus
    (credits + 1) c.credit.new.table c.credit-in-Some.new.table pair.away pair.surplus
    (to_z w64 (of_z w64 c.from-surplus.result)) first (side_of-lt c.args.set pair.away both.1)
    small
    (omega (arith, ints, small, c.from-surplus.ensures)) c.credit-in-Some.ensures)
