use Rattle.std.proofs.Common.{◌<◌, ◌≢◌, ◌*◌, ◌∷◌, [], List, get_or, length, refl}
use Rattle.std.proofs.Common.{sym, ap, ◌∙◌, subst, arith}
use Rattle.league_core.specs.declared.sheet.Fixture.{Fixture}
use Rattle.league_core.specs.search.Options.{options_in}
use Rattle.league_core.specs.search.PointRanges.{added, range_of, range_from, points_together}
use Rattle.league_core.proofs.RangeLemmas.{none-added}
use Rattle.league_core.proofs.FixtureLemmas.{fixture_of_sheet}
use Rattle.near_bound.specs.declared.points.PointEnds.{PointEnds}
use Rattle.near_bound.specs.inside.Points.{range_of_ends, ends_listed}
use Rattle.near_bound.proofs.AllEndsLemmas.{nothing_listed, nothing_within, more_within}
use Rattle.near_bound.proofs.AllEndsLemmas.{wider_within}
use Rattle.near_bound.proofs.PointLemmas.{points_more, all_points}
use Rattle.near_bound.proofs.all_ends.all_won.Goals as goal

pub loop-i-init : goal.loop-i-init
loop-i-init c =
    let left = c.args.left.now in record {
      long = refl;
      near = λ club. nothing_within club;
      sums = λ zone stands club.
          let whole = range_from (points_together (club ∷ [])) left.sheet.now.fixtures
          (options_in left.sheet.now left.season.now zone) in
          ap (λ (e : PointEnds). added (range_of_ends e) whole) (nothing_listed club)
          ∙ none-added whole;
    }

pub add_match-requires : goal.add_match-requires
add_match-requires c =
    let left = c.args.left.now in
    let limits = c.requires.left.league.limits in
    let same = ap (length {A = Fixture}) c.as_slice-fixtures.ensures in
    let d : Fixture = record { home = 0; away = 0 } in
    let sides = subst (λ (fs : List Fixture). ((get_or fs c.loop-i.i d).home < 24)
    × ((get_or fs c.loop-i.i d).away < 24)
    × ((get_or fs c.loop-i.i d).home ≢ (get_or fs c.loop-i.i d).away))
    (sym c.as_slice-fixtures.ensures)
    (fixture_of_sheet left.sheet.now c.loop-i.i d limits (omega (arith, same))) in record {
      home = omega (arith, sides.0);
      away = omega (arith, sides.1);
      apart = sides.2;
      near = λ club.
          wider_within (3 * c.loop-i.i) 100000 (ends_listed c.loop-i.won club)
          (omega (arith, limits.most_fixtures, same)) (c.loop-i.invariant.near club);
    }

pub loop-i-preserved : goal.loop-i-preserved
loop-i-preserved c =
    let left = c.args.left.now in
    let same = ap (length {A = Fixture}) c.as_slice-fixtures.ensures in
    let many = c.requires.left.many in
    let d : Fixture = record { home = 0; away = 0 } in
    let new = c.add_match.new.won in record {
      long = c.type_inv.won;
      near = λ club.
          let at = c.add_match.ensures club in
          more_within c.loop-i.i (ends_listed c.loop-i.won club) at.0 (ends_listed new club)
          (c.loop-i.invariant.near club) at.1.within at.2;
      sums = λ zone stands club.
          let at = c.add_match.ensures club in
          let options = options_in left.sheet.now left.season.now zone in
          points_more (points_together (club ∷ [])) left.sheet.now.fixtures options c.loop-i.i
          (ends_listed c.loop-i.won club) at.0 (ends_listed new club) d (omega (arith, same))
          (omega (arith, same, many, stands.matches.many))
          (c.loop-i.invariant.sums zone stands club)
          (at.1.range (get_or options c.loop-i.i [])
          (stands.matches.each c.loop-i.i _ (omega (arith, same, many)))
          ∙ ap (λ (fs : List Fixture). range_of (points_together (club ∷ [])
          (get_or fs c.loop-i.i d)) (get_or options c.loop-i.i [])) c.as_slice-fixtures.ensures)
          at.2.least at.2.most;
    }

pub returns : goal.returns
returns c =
    let left = c.args.left.now in
    let same = ap (length {A = Fixture}) c.as_slice-fixtures.ensures in
    let few = c.requires.left.league.limits.most_fixtures in record {
      near = λ club.
          wider_within (3 * c.loop-i.i) 1800 (ends_listed c.loop-i.won club)
          (omega (arith, few, same)) (c.loop-i.invariant.near club);
      range = λ zone stands club.
          all_points (points_together (club ∷ [])) left.sheet.now.fixtures
          (options_in left.sheet.now left.season.now zone) c.loop-i.i
          (ends_listed c.loop-i.won club) (omega (arith, same))
          (c.loop-i.invariant.sums zone stands club);
    }
