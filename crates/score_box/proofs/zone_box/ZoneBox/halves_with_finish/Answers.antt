-- No fixture is without an option exactly when each has one, and that of the test has what is left.
use Rattle.std.proofs.Common.{◌≡◌, ◌&&◌, ℕ, Bool, true, false, List, length, subst, sym, ap}
use Rattle.std.proofs.Common.{◌∙◌, ◌==◌, arith}
use Rattle.std.proofs.lemmas.Bool.{ne_eqb}
use Rattle.league_core.specs.search.Zones.{is_test_of, with_test}
use Rattle.league_core.specs.declared.sheet.Sheet.{Sheet}
use Rattle.league_core.specs.declared.zone.Literal.{Literal}
use Rattle.league_core.specs.declared.zone.Test.{Test}
use Rattle.league_core.specs.game.Results.{Results}
use Rattle.league_core.specs.search.Options.{options_in, has_option, has_finish}
use Rattle.league_core.proofs.plain.Counts.{all_counted}
use Rattle.score_box.specs.declared.cell.Cell.{Cell}
use Rattle.std.specs.List.{All}
use Rattle.score_box.specs.inside.Cells.{IsExactCell}
use Rattle.score_box.specs.inside.Boxes.{AreCellsOf}
use Rattle.score_box.specs.inside.Ends.{empty_in}
use Rattle.score_box.specs.inside.ZoneBoxViews.{ZoneBoxView}
use Rattle.score_box.proofs.BoxLemmas.{cells_of_season, test_below}
use Rattle.score_box.proofs.zone_box.ZoneBox.halves_with_finish.Goals as goal

pub halves_left-left-requires-clause-in_range : goal.halves_left-left-requires-clause-in_range
halves_left-left-requires-clause-in_range c =
    let box = c.self.inside in
    let is : is_test_of box.sheet.now c.args.test ≡ true =
    ap (λ (s : ZoneBoxView). is_test_of s.sheet c.args.test) c.self.view_is ∙ c.requires in
    let many : length box.sheet.now.fixtures ≡ length c.deref.result.now =
    sym c.self.invariant.league.of_sheet.scores
    ∙ sym (cells_of_season box.sheet.now box.season.now box.zone.items box.cells.items
    c.self.invariant.options)
    ∙ sym (ap length c.deref.ensures.value) in
    test_below box.sheet.now (length c.deref.result.now) c.args.test many
    (omega (arith, c.self.invariant.league.limits.most_clubs)) is

pub halves_left-left-requires-clause-exact : goal.halves_left-left-requires-clause-exact
halves_left-left-requires-clause-exact c =
    let Exact : List Cell → Type 0 = λ cells. All IsExactCell cells in
    subst Exact (sym c.deref.ensures.value) c.self.invariant.options.exact

-- no fixture is without an option exactly when the zone has a finish
none_empty : (sheet : Sheet) (season : Results) (zone : List Literal) (empty : ℕ)
    → empty ≡ empty_in (options_in sheet season zone)
    → (empty == 0) ≡ has_finish sheet season zone
unfolding has_finish
none_empty sheet season zone empty is =
    ap (λ n. n == 0) is ∙ all_counted has_option (options_in sheet season zone)

-- if one is without, no half has a finish
half_is : (sheet : Sheet) (season : Results) (zone : List Literal) (test : Test) (holds : Bool)
    (empty : ℕ) (left : Bool) → empty ≡ empty_in (options_in sheet season zone)
    → (has_finish sheet season zone && left) ≡ has_finish sheet season (with_test zone test holds)
    → ((empty == 0) && left) ≡ has_finish sheet season (with_test zone test holds)
half_is sheet season zone test holds empty left is leaves =
    ap (λ b. b && left) (none_empty sheet season zone empty is) ∙ leaves

pub returns-then-self-eq0-clause-yes : goal.returns-then-self-eq0-clause-yes
returns-then-self-eq0-clause-yes c =
    let box = c.self.inside in
    let left = c.halves_left-left.result.yes in
    let Cells : List Cell → Type 0 = λ cells. AreCellsOf cells
    (options_in box.sheet.now box.season.now box.zone.items) in
    let At : ZoneBoxView → Type 0 = λ v. left
    ≡ has_finish v.sheet v.season (with_test v.zone c.args.test true) in
    subst At c.self.view_is
    (ap (λ b. b && left) (sym (ap (λ n. n == 0) c.if-self-eq0.true))
    ∙ half_is box.sheet.now box.season.now box.zone.items c.args.test true box.ends.empty left
    c.self.invariant.ends_are.empty
    (c.halves_left-left.ensures box.sheet.now box.season.now box.zone.items
    (subst Cells (sym c.deref.ensures.value) c.self.invariant.options)).yes)

pub returns-then-self-eq0-clause-no : goal.returns-then-self-eq0-clause-no
returns-then-self-eq0-clause-no c =
    let box = c.self.inside in
    let left = c.halves_left-left.result.no in
    let Cells : List Cell → Type 0 = λ cells. AreCellsOf cells
    (options_in box.sheet.now box.season.now box.zone.items) in
    let At : ZoneBoxView → Type 0 = λ v. left
    ≡ has_finish v.sheet v.season (with_test v.zone c.args.test false) in
    subst At c.self.view_is
    (ap (λ b. b && left) (sym (ap (λ n. n == 0) c.if-self-eq0.true))
    ∙ half_is box.sheet.now box.season.now box.zone.items c.args.test false box.ends.empty left
    c.self.invariant.ends_are.empty
    (c.halves_left-left.ensures box.sheet.now box.season.now box.zone.items
    (subst Cells (sym c.deref.ensures.value) c.self.invariant.options)).no)

pub returns-else-self-eq0-clause-yes : goal.returns-else-self-eq0-clause-yes
returns-else-self-eq0-clause-yes c =
    let box = c.self.inside in
    let left = c.halves_left-left.result.yes in
    let Cells : List Cell → Type 0 = λ cells. AreCellsOf cells
    (options_in box.sheet.now box.season.now box.zone.items) in
    let At : ZoneBoxView → Type 0 = λ v. false
    ≡ has_finish v.sheet v.season (with_test v.zone c.args.test true) in
    subst At c.self.view_is
    (sym (ap (λ b. b && left) (ne_eqb box.ends.empty 0 c.if-self-eq0.false))
    ∙ half_is box.sheet.now box.season.now box.zone.items c.args.test true box.ends.empty left
    c.self.invariant.ends_are.empty
    (c.halves_left-left.ensures box.sheet.now box.season.now box.zone.items
    (subst Cells (sym c.deref.ensures.value) c.self.invariant.options)).yes)

pub returns-else-self-eq0-clause-no : goal.returns-else-self-eq0-clause-no
returns-else-self-eq0-clause-no c =
    let box = c.self.inside in
    let left = c.halves_left-left.result.no in
    let Cells : List Cell → Type 0 = λ cells. AreCellsOf cells
    (options_in box.sheet.now box.season.now box.zone.items) in
    let At : ZoneBoxView → Type 0 = λ v. false
    ≡ has_finish v.sheet v.season (with_test v.zone c.args.test false) in
    subst At c.self.view_is
    (sym (ap (λ b. b && left) (ne_eqb box.ends.empty 0 c.if-self-eq0.false))
    ∙ half_is box.sheet.now box.season.now box.zone.items c.args.test false box.ends.empty left
    c.self.invariant.ends_are.empty
    (c.halves_left-left.ensures box.sheet.now box.season.now box.zone.items
    (subst Cells (sym c.deref.ensures.value) c.self.invariant.options)).no)
