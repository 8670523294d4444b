-- Each round drops clubs that are no loss, and the last none.
use Rattle.std.proofs.Common.{◌≢◌, length, take, sym, ◌∙◌, arith}
use Rattle.std.specs.Prelude.{int_lt, pos}
use Rattle.std.proofs.lemmas.Bool.{and_parts, false≢true}
use Rattle.league_core.specs.game.ClubSets.{clubs_in}
use Rattle.league_core.proofs.ClubCountLemmas.{few_below}
use Rattle.flow_bound.specs.inside.Fixtures.{pairs_in}
use Rattle.flow_bound.specs.inside.Parts.{IsPartOf, entry, side_of}
use Rattle.flow_bound.proofs.MeetingLemmas.{reach_is}
use Rattle.flow_bound.proofs.PeelLemmas.{EachAdds-empty, EachAdds-kept, KeepsExcess-all}
use Rattle.flow_bound.proofs.PeelLemmas.{KeepsExcess-next}
use Rattle.flow_bound.proofs.SetLemmas.{length-part, no_club_left, no_club_of_none, side_of-lt}
use Rattle.flow_bound.proofs.SetLemmas.{whole_is_part}
use Rattle.flow_bound.proofs.peel.peel.Goals as goal

pub loop-round-init : goal.loop-round-init
loop-round-init c = record {
  keeps = KeepsExcess-all c.args.alone.now (pairs_in c.args.cut c.args.zone_box.now)
      (side_of c.args.marked);
  few = omega (arith, few_below 32 c.args.marked.bits (omega arith));
}

pub loop-round-preserved : goal.loop-round-preserved
loop-round-preserved c =
    let part : IsPartOf (side_of c.positive-next.result) (side_of c.loop-round.rest) =
    λ club among. (and_parts (side_of c.loop-round.rest club)
    (int_lt (pos 0) (entry c.upper_bounds.result club))
    (sym (c.positive-next.ensures club) ∙ among)).0 in
    let apart : length (clubs_in c.positive-next.result) ≢ length (clubs_in c.loop-round.rest) =
    λ same. false≢true (sym c.if-are_as_many.false ∙ c.are_as_many.ensures.1 same) in
    record {
      keeps = KeepsExcess-next c.args.alone.now c.upper_bounds.result
          (pairs_in c.args.cut c.args.zone_box.now) (side_of c.args.marked)
          (side_of c.loop-round.rest) (side_of c.positive-next.result)
          c.loop-round.invariant.keeps
          (reach_is c.args.cut c.args.zone_box.now c.args.alone.now
          c.upper_bounds.result (take c.hold_meetings-count.result c.hold_meetings-count.new.held)
          (side_of c.args.marked) (side_of c.loop-round.rest) c.loop-round.invariant.keeps.part
          c.hold_meetings-count.ensures.sums c.upper_bounds.ensures)
          c.positive-next.ensures;
      few = omega (
        arith,
        apart,
        length-part c.positive-next.result c.loop-round.rest part,
        c.loop-round.invariant.few,
      );
    }

pub returns-then-is_empty-clause-kept : goal.returns-then-is_empty-clause-kept
returns-then-is_empty-clause-kept c =
    KeepsExcess-next c.args.alone.now c.upper_bounds.result
    (pairs_in c.args.cut c.args.zone_box.now) (side_of c.args.marked)
    (side_of c.loop-round.rest) (side_of c.positive-next.result)
    c.loop-round.invariant.keeps
    (reach_is c.args.cut c.args.zone_box.now c.args.alone.now
    c.upper_bounds.result (take c.hold_meetings-count.result c.hold_meetings-count.new.held)
    (side_of c.args.marked) (side_of c.loop-round.rest) c.loop-round.invariant.keeps.part
    c.hold_meetings-count.ensures.sums c.upper_bounds.ensures)
    c.positive-next.ensures

pub returns-then-is_empty-clause-needed : goal.returns-then-is_empty-clause-needed
returns-then-is_empty-clause-needed c =
    EachAdds-empty c.args.alone.now (pairs_in c.args.cut c.args.zone_box.now)
    (side_of c.positive-next.result)
    (no_club_left c.positive-next.result (c.is_empty.ensures.0 c.if-is_empty.true))

pub returns-then-are_as_many-clause-kept : goal.returns-then-are_as_many-clause-kept
returns-then-are_as_many-clause-kept c = c.loop-round.invariant.keeps

pub returns-then-are_as_many-clause-needed : goal.returns-then-are_as_many-clause-needed
returns-then-are_as_many-clause-needed c =
    let part : IsPartOf (side_of c.positive-next.result) (side_of c.loop-round.rest) =
    λ club among. (and_parts (side_of c.loop-round.rest club)
    (int_lt (pos 0) (entry c.upper_bounds.result club))
    (sym (c.positive-next.ensures club) ∙ among)).0 in
    EachAdds-kept c.args.alone.now c.upper_bounds.result (pairs_in c.args.cut c.args.zone_box.now)
    (side_of c.loop-round.rest) (side_of c.positive-next.result)
    (reach_is c.args.cut c.args.zone_box.now c.args.alone.now
    c.upper_bounds.result (take c.hold_meetings-count.result c.hold_meetings-count.new.held)
    (side_of c.args.marked) (side_of c.loop-round.rest) c.loop-round.invariant.keeps.part
    c.hold_meetings-count.ensures.sums c.upper_bounds.ensures)
    c.positive-next.ensures (side_of-lt c.loop-round.rest)
    (whole_is_part c.positive-next.result c.loop-round.rest part
    (c.are_as_many.ensures.0 c.if-are_as_many.true))

pub returns-clause-kept : goal.returns-clause-kept
returns-clause-kept c = c.loop-round.invariant.keeps

pub returns-clause-needed : goal.returns-clause-needed
returns-clause-needed c =
    EachAdds-empty c.args.alone.now (pairs_in c.args.cut c.args.zone_box.now)
    (side_of c.loop-round.rest)
    (no_club_of_none (clubs_in c.loop-round.rest)
    (omega (arith, c.loop-round.invariant.few, c.loop-round-test.false)))
