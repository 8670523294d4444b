use Rattle.std.proofs.Common.{ℤ, List, sym, subst}
use Rattle.league_core.specs.declared.question.Claim.{Claim}
use Rattle.club_keys.specs.inside.KeyEnds.{key_parts}
use Rattle.runners_up.specs.inside.SidesAtKeys.{IsSideAtKey}
use Rattle.cup_sides.specs.declared.cup_side.CupSide.{CupSide}
use Rattle.cup_sides.specs.inside.CupSides.{IsSideOfSeat}
use Rattle.cup_sides.proofs.CupSideLemmas.{found_side, key_spent}
use Rattle.cup_sides.proofs.by_key.side_by_key.Goals as goal

pub returns-in_ok-side-in-Found : goal.returns-in_ok-side-in-Found
returns-in_ok-side-in-Found c =
    let cup = c.args.cup.now in
    let seasons = c.args.seasons.now in
    let seat = c.args.seat.now in
    let claim = c.args.claim in
    let key = c.in-Found.key in
    let side = c.in_ok-side-in-Found.side in
    let sought = c.sought_at-sought.result in
    let known = rw c.in-Found.is at c.in_ok-key.ensures in
    let at_key : IsSideAtKey cup seasons seat claim (key_parts key) side =
    subst (λ (it : List ℤ). IsSideAtKey cup seasons seat claim it side)
    c.sought_at-sought.ensures.key
    (subst (λ (it : Claim). IsSideAtKey cup seasons seat it (key_parts sought.key) side)
    c.sought_at-sought.ensures.claim c.in_ok-side-in-Found.ensures) in
    subst (λ (it : CupSide). IsSideOfSeat cup seasons claim seat it) (sym c.whole_side.ensures)
    (found_side cup seasons claim seat key c.in-Found.example c.args.place c.in-Found.nodes known.0
    known.1 c.requires.cup known.2 c.requires.place known.3 side at_key)

pub returns-in-Spent : goal.returns-in-Spent
returns-in-Spent c =
    λ club at.
    let known = rw c.in-Spent.is at c.in_ok-key.ensures in
    key_spent c.args.cup.now c.args.seasons.now c.args.claim club c.args.seat.now known.0
    known.1 at known.2
    (record { question = c.in-Spent.question; nodes = c.in-Spent.nodes }) known.3
