use Rattle.std.proofs.Common.{◌<◌, length, arith}
use Rattle.cup_sheet.specs.CupLimits.{direct_places}
use Rattle.cup_sheet.specs.Qualifying.{has_better}
use Rattle.cup_finish.specs.inside.Contenders.{group_state}
use Rattle.cup_finish.proofs.QualifyingLemmas.{no_rival, rival_found}
use Rattle.cup_finish.proofs.better.has_better.Goals as goal

pub returns-then-is_better : goal.returns-then-is_better
returns-then-is_better c = λ mine own is.
    let group = group_state c.args.first c.args.sheet.now c.args.season.now in
    let club = c.loop-club.club in
    let below : club < length c.args.sheet.now.clubs = omega arith in
    rival_found c.args.lots.now group mine own club (length c.args.sheet.now.clubs)
    c.in_ok-place.place c.is_better.result
    (has_better direct_places c.args.lots.now mine own group) below
    (c.loop-club.invariant mine own is) c.in_ok-place.ensures
    (c.is_better.ensures group club mine own c.contender_of-rival.ensures is) c.if-is_better.true

pub loop-club-preserved : goal.loop-club-preserved
loop-club-preserved c = λ mine own is.
    let group = group_state c.args.first c.args.sheet.now c.args.season.now in
    let club = c.loop-club.club in
    let below : club < length c.args.sheet.now.clubs = omega arith in
    no_rival c.args.lots.now group mine own club (length c.args.sheet.now.clubs)
    c.in_ok-place.place c.is_better.result
    (has_better direct_places c.args.lots.now mine own group) below
    (c.loop-club.invariant mine own is) c.in_ok-place.ensures
    (c.is_better.ensures group club mine own c.contender_of-rival.ensures is) c.if-is_better.false
