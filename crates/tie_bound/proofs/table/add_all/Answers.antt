use Rattle.std.proofs.Common.{◌<◌, ◌≤◌, ◌*◌, [], length, get_or, subst, sym, ap, ◌∙◌, arith}
use Rattle.league_core.specs.game.Sums.{worth_among}
use Rattle.league_core.specs.game.ClubSets.{clubs_in}
use Rattle.league_core.specs.search.Options.{has_one_outcome}
use Rattle.league_core.specs.search.PointRanges.{range_from}
use Rattle.tie_criteria.specs.inside.Measures.{worth_of}
use Rattle.tie_bound.specs.declared.sums.Sums.{Sums}
use Rattle.tie_bound.specs.inside.Sums.{sums_at}
use Rattle.tie_bound.specs.inside.Boxes.{options_in_box}
use Rattle.tie_bound.proofs.BoxLemmas.{length-options}
use Rattle.score_box.proofs.OutcomeLemmas.{one_outcome_of}
use Rattle.tie_bound.proofs.TableLemmas.{wider}
use Rattle.tie_bound.proofs.SoFarLemmas.{IsSoFar, so_far_none, so_far_more, so_far_all}
use Rattle.tie_bound.proofs.table.add_all.Goals as goal
use Rattle.league_core.proofs.plain.Lists.{list_all-at}

pub loop-i-init : goal.loop-i-init
loop-i-init c = λ club.
    let P : Sums → Type 0 = λ s. IsSoFar c.fixtures_of-fixtures.result.now
    (options_in_box c.args.zone_box.now) (worth_among (clubs_in c.args.group)) 0 club s in
    subst P (sym (c.requires.none club))
    (so_far_none c.fixtures_of-fixtures.result.now (options_in_box c.args.zone_box.now)
    (worth_among (clubs_in c.args.group)) club)

pub cell-requires : goal.cell-requires
cell-requires c = omega (arith, c.fixtures_of-fixtures.ensures.many)

pub add_if_counted-requires-clause-one : goal.add_if_counted-requires-clause-one
add_if_counted-requires-clause-one c =
    let options = options_in_box c.args.zone_box.now in
    let i = c.loop-i.i in
    let within : i < length options = omega
    (arith, c.fixtures_of-fixtures.ensures.many, length-options c.args.zone_box.now) in
    one_outcome_of c.cell.result.now (get_or options i []) c.cell.ensures
    (list_all-at has_one_outcome options i [] within c.requires.outcomes)

pub add_if_counted-requires-clause-room : goal.add_if_counted-requires-clause-room
add_if_counted-requires-clause-room c = λ club.
    let few : length c.fixtures_of-fixtures.result.now ≤ 600 = omega (
      arith,
      ap length c.fixtures_of-fixtures.ensures.fixtures,
      c.fixtures_of-fixtures.ensures.limits.most_fixtures,
    ) in
    wider (255 * c.loop-i.i) 10000000 (sums_at c.loop-i.table club) (omega arith)
    (c.loop-i.invariant club).near

pub loop-i-preserved : goal.loop-i-preserved
loop-i-preserved c = λ club.
    let options = options_in_box c.args.zone_box.now in
    let i = c.loop-i.i in
    let within : i < length options = omega
    (arith, c.fixtures_of-fixtures.ensures.many, length-options c.args.zone_box.now) in
    so_far_more c.fixtures_of-fixtures.result.now options (worth_among (clubs_in c.args.group)) i
    club (record { home = 0; away = 0 }) (sums_at c.loop-i.table club)
    (sums_at c.add_if_counted.new.table club) (omega arith) within (c.loop-i.invariant club)
    (c.add_if_counted.ensures (get_or options i []) c.cell.ensures club)

pub returns : goal.returns
returns c =
    let options = options_in_box c.args.zone_box.now in
    let value = worth_among (clubs_in c.args.group) in
    let few : length c.fixtures_of-fixtures.result.now ≤ 600 = omega (
      arith,
      ap length c.fixtures_of-fixtures.ensures.fixtures,
      c.fixtures_of-fixtures.ensures.limits.most_fixtures,
    ) in
    record {
      each = λ club measure.
          so_far_all c.fixtures_of-fixtures.result.now options value c.loop-i.i club
          (sums_at c.loop-i.table club) measure c.loop-i-test.false (c.loop-i.invariant club)
          ∙ ap (λ matches. range_from (value (worth_of measure) club) matches options)
          c.fixtures_of-fixtures.ensures.fixtures;
      near = λ club. wider (255 * c.loop-i.i) 6000000 (sums_at c.loop-i.table club) (omega arith)
          (c.loop-i.invariant club).near;
    }
