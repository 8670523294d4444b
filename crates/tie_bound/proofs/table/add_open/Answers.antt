use Rattle.std.proofs.Common.{◌<◌, ◌≤◌, ◌+◌, ◌*◌, length, refl, ap, ◌∙◌, arith}
use Rattle.league_core.specs.game.Sums.{worth_among}
use Rattle.league_core.specs.game.ClubSets.{clubs_in}
use Rattle.score_box.specs.inside.Unplayed.{unplayed_in}
use Rattle.score_box.proofs.SplitLemmas.{keeps_played}
use Rattle.tie_bound.specs.inside.Sums.{sums_at}
use Rattle.tie_bound.specs.inside.Boxes.{options_in_box}
use Rattle.tie_bound.proofs.BoxLemmas.{length-options}
use Rattle.tie_bound.proofs.TableLemmas.{wider}
use Rattle.tie_bound.proofs.RowLemmas.{open_none, open_all, open_few}
use Rattle.tie_bound.proofs.OpenLemmas.{up_to_next, with_next}
use Rattle.tie_bound.proofs.table.add_open.Goals as goal

pub loop-place-init : goal.loop-place-init
loop-place-init c =
    let box = c.args.zone_box.now in
    let next = c.next_open_among-place.ensures in
    record {
      within = next.within;
      counts = next.found;
      sums = λ club.
          up_to_next box c.args.group 0 c.next_open_among-place.result club
          (sums_at c.args.table.now club) next.from next.within next.before
          (open_none (worth_among (clubs_in c.args.group)) box.sheet.fixtures box.season.scores
          (options_in_box box) (unplayed_in box.season.scores) club (sums_at c.args.table.now club)
          (c.requires.rows club));
    }

pub add_open_match-requires-clause-room : goal.add_open_match-requires-clause-room
add_open_match-requires-clause-room c club =
    let few = open_few c.args.zone_box.now.season.scores c.unplayed-end.result.now
    c.unplayed-end.ensures in
    wider (5000000 + 255 * c.loop-place.place) 10000000 (sums_at c.loop-place.table club) (omega (
      arith,
      few,
      c.loop-place-test.true,
      c.fixtures_of-fixtures.ensures.many,
      ap length c.fixtures_of-fixtures.ensures.fixtures,
      c.fixtures_of-fixtures.ensures.limits.most_fixtures,
    )) (c.loop-place.invariant.sums club).near

pub loop-place-preserved : goal.loop-place-preserved
loop-place-preserved c =
    let box = c.args.zone_box.now in
    let place = c.loop-place.place in
    let next = c.next_open_among-place-in-loop-place.ensures in
    let within : place < length (unplayed_in box.season.scores) = omega (
      arith,
      c.loop-place-test.true,
      ap length c.unplayed-end.ensures,
    ) in
    record {
      within = next.within;
      counts = next.found;
      sums = λ club.
          up_to_next box c.args.group (place + 1) c.next_open_among-place-in-loop-place.result club
          (sums_at c.add_open_match.new.table club) next.from next.within next.before
          (with_next box c.args.group place club (sums_at c.loop-place.table club)
          (sums_at c.add_open_match.new.table club) within (c.loop-place.invariant.counts within)
          (c.loop-place.invariant.sums club) (c.add_open_match.ensures club));
    }

pub returns : goal.returns
returns c =
    let box = c.args.zone_box.now in
    let many = c.fixtures_of-fixtures.ensures.many
    ∙ ap length c.fixtures_of-fixtures.ensures.fixtures in
    let past : length (unplayed_in box.season.scores) ≤ c.loop-place.place = omega (
      arith,
      c.loop-place-test.false,
      ap length c.unplayed-end.ensures,
    ) in
    let few = open_few box.season.scores c.unplayed-end.result.now c.unplayed-end.ensures in
    record {
      each = λ club measure.
          open_all (worth_among (clubs_in c.args.group)) box.sheet.fixtures box.season.scores
          (options_in_box box) (unplayed_in box.season.scores) c.loop-place.place club
          (sums_at c.loop-place.table club) measure refl past many (length-options box ∙ many)
          (keeps_played box.sheet box.season box.zone c.requires.has_finish)
          (c.loop-place.invariant.sums club);
      near = λ club.
          wider (5000000 + 255 * c.loop-place.place) 6000000 (sums_at c.loop-place.table club)
          (omega (
            arith,
            few,
            c.loop-place.invariant.within,
            ap length c.unplayed-end.ensures,
            many,
            c.fixtures_of-fixtures.ensures.limits.most_fixtures,
            ap length c.fixtures_of-fixtures.ensures.fixtures,
          )) (c.loop-place.invariant.sums club).near;
    }
