-- The sets are those of the matches that are not played.
use Rattle.std.proofs.Common.{List, ℕ, subst, arith}
use Rattle.score_box.specs.inside.OpenSides.{AreSidesOf}
use Rattle.score_box.specs.inside.Unplayed.{open_match, unplayed_in}
use Rattle.score_box.specs.inside.ZoneBoxViews.{ZoneBoxView}
use Rattle.score_box.proofs.zone_box.ZoneBox.next_open_among.Goals as goal

-- the sets of the box
sides_are : (c : goal.After-next_among)
    → AreSidesOf c.args.self.now.sheet.fixtures (unplayed_in c.args.self.now.season.scores)
    c.self.inside.open_matches.sides.items
sides_are c =
    let box = c.self.inside in
    let sides = box.open_matches.sides.items in
    let Have : ZoneBoxView → Type 0 = λ v. AreSidesOf v.sheet.fixtures
    (unplayed_in v.season.scores) sides in
    let Over : List ℕ → Type 0 = λ numbers. AreSidesOf box.sheet.now.fixtures numbers sides in
    subst Have c.self.view_is
    (subst Over c.self.invariant.open_fixtures c.self.invariant.open_sides)

pub returns : goal.returns
returns c =
    let now = c.args.self.now in
    let are = sides_are c in
    let next = c.next_among.ensures in
    let match : ℕ → _ = open_match now.sheet.fixtures now.season.scores in
    record {
      from = next.from;
      within = omega (arith, next.within, are.many);
      before = λ place low below. next.before place low below (match place)
          (λ d. are.each place d (omega (arith, below, next.within, are.many)));
      found = λ below. next.found (omega (arith, below, are.many)) (match c.next_among.result)
          (λ d. are.each c.next_among.result d below);
    }
