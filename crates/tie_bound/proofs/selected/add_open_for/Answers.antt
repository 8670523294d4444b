use Rattle.std.proofs.Common.{◌≡◌, ℕ, ◌<◌, ◌≤◌, ◌+◌, ◌*◌, length, refl, subst, ap, ◌∙◌, arith}
use Rattle.league_core.specs.game.Sums.{worth_to}
use Rattle.score_box.specs.inside.Unplayed.{unplayed_in}
use Rattle.score_box.proofs.SplitLemmas.{keeps_played}
use Rattle.tie_bound.specs.inside.Sums.{sums_at, AreNear}
use Rattle.tie_bound.specs.inside.Boxes.{options_in_box}
use Rattle.tie_bound.proofs.BoxLemmas.{length-options}
use Rattle.tie_bound.proofs.TableLemmas.{wider}
use Rattle.tie_bound.proofs.RowLemmas.{open_none, open_more, open_all, open_few}
use Rattle.tie_bound.proofs.selected.add_open_for.Goals as goal

pub loop-place-init : goal.loop-place-init
loop-place-init c =
    let box = c.args.zone_box.now in
    record {
      sums = λ club wanted.
          open_none worth_to box.sheet.fixtures box.season.scores (options_in_box box)
          (unplayed_in box.season.scores) club (sums_at c.args.table.now club)
          (c.requires.rows club wanted);
      near = c.requires.near;
    }

pub add_unless_among-requires-clause-in_range : goal.add_unless_among-requires-clause-in_range
add_unless_among-requires-clause-in_range c =
    omega (
      arith,
      c.loop-place-test.true,
      ap length c.unplayed-place-end.ensures,
    )

pub add_unless_among-requires-clause-room : goal.add_unless_among-requires-clause-room
add_unless_among-requires-clause-room c club =
    let few = open_few c.args.zone_box.now.season.scores c.unplayed-place-end.result.now
    c.unplayed-place-end.ensures in
    wider (5000000 + 255 * c.loop-place.place) 10000000 (sums_at c.loop-place.table club) (omega (
      arith,
      few,
      c.loop-place-test.true,
      c.fixtures_of-fixtures.ensures.many,
      ap length c.fixtures_of-fixtures.ensures.fixtures,
      c.fixtures_of-fixtures.ensures.limits.most_fixtures,
    )) (c.loop-place.invariant.near club)

pub loop-place-preserved : goal.loop-place-preserved
loop-place-preserved c =
    let box = c.args.zone_box.now in
    let place = c.loop-place.place in
    let within : place < length (unplayed_in box.season.scores) = omega (
      arith,
      c.loop-place-test.true,
      ap length c.unplayed-place-end.ensures,
    ) in
    let bound : 5000000 + 255 * place + 255 ≡ 5000000 + 255 * (place + 1) = omega arith in
    record {
      sums = λ club wanted.
          open_more worth_to box.sheet.fixtures box.season.scores (options_in_box box)
          (unplayed_in box.season.scores) place club (sums_at c.loop-place.table club)
          (sums_at c.add_unless_among.new.table club) within
          (c.loop-place.invariant.sums club wanted)
          ((c.add_unless_among.ensures club).0 wanted);
      near = λ club.
          subst (λ (n : ℕ). AreNear n (sums_at c.add_unless_among.new.table club)) bound
          ((c.add_unless_among.ensures club).1 (5000000 + 255 * place)
          (c.loop-place.invariant.near club));
    }

pub returns : goal.returns
returns c = λ club wanted measure.
    let box = c.args.zone_box.now in
    let many = c.fixtures_of-fixtures.ensures.many
    ∙ ap length c.fixtures_of-fixtures.ensures.fixtures in
    let past : length (unplayed_in box.season.scores) ≤ c.loop-place.place = omega (
      arith,
      c.loop-place-test.false,
      ap length c.unplayed-place-end.ensures,
    ) in
    open_all worth_to box.sheet.fixtures box.season.scores (options_in_box box)
    (unplayed_in box.season.scores) c.loop-place.place club (sums_at c.loop-place.table club)
    measure refl past many (length-options box ∙ many)
    (keeps_played box.sheet box.season box.zone c.requires.has_finish)
    (c.loop-place.invariant.sums club wanted)
