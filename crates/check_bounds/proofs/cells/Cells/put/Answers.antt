-- One domain, its extremes and the points of its two clubs change together.
use Rattle.std.proofs.Common.{◌≡◌, ◌<◌, List, length, get_or, [], subst, sym, ◌∙◌, arith}
use Rattle.std.proofs.lemmas.List.{get_or_default}
use Rattle.league_core.specs.declared.sheet.Fixture.{Fixture}
use Rattle.league_core.specs.declared.season.Score.{Score}
use Rattle.league_core.specs.game.Sums.{match_points, worth_to}
use Rattle.league_core.specs.search.PointRanges.{added, range_of}
use Rattle.check_bounds.specs.inside.IntRanges.{as_sum_range, range_at}
use Rattle.check_bounds.specs.inside.Cells.{CellsView}
use Rattle.check_bounds.proofs.WonLemmas.{won_near, won_exchanged}
use Rattle.check_bounds.specs.inside.OpenCounts.{AreExchanged, IsAmong}
use Rattle.check_bounds.proofs.OpenCountLemmas.{is_among}
use Rattle.check_bounds.proofs.CellLemmas.{cells_set}
use Rattle.check_bounds.proofs.cells.Cells.put.Goals as goal

abbrev none : Fixture
none = record { home = 0; away = 0 }

pub exchange_match-requires-clause-near : goal.exchange_match-requires-clause-near
exchange_match-requires-clause-near c =
    let cells = c.self.inside in
    won_near cells.sheet.now cells.corners.items cells.won c.self.invariant.played.few
    c.self.invariant.won

pub exchanged-self-inside-requires : goal.exchanged-self-inside-requires
exchanged-self-inside-requires c =
    let cells = c.self.inside in
    let place = c.args.fixture in
    let Inside : CellsView → Type 0 = λ kept. place < length kept.scopes in
    let inside : place < length cells.scopes.items = subst Inside (sym c.self.view_is) c.requires in
    let there : place < length cells.corners.items =
    omega (arith, inside, c.self.invariant.fit.many) in
    let Was : List Score → Type 0 = λ old. IsAmong old cells.loose in
    subst Was (sym (c.index-2.ensures ∙ get_or_default cells.corners.items place _ [] there))
    (is_among cells.corners.items cells.loose place there
    (omega (arith, c.self.invariant.played.many, c.self.invariant.played.few))
    c.self.invariant.loose)

pub invariant_of-self : goal.invariant_of-self
invariant_of-self c =
    let cells = c.self.inside in
    let sheet = cells.sheet.now in
    let place = c.args.fixture in
    let Inside : CellsView → Type 0 = λ kept. place < length kept.scopes in
    let inside : place < length cells.scopes.items = subst Inside (sym c.self.view_is) c.requires in
    let there : place < length cells.corners.items =
    omega (arith, inside, c.self.invariant.fit.many) in
    let here : place < length sheet.fixtures =
    omega (arith, there, c.self.invariant.played.many) in
    let Was : List Score → Type 0 = λ old. AreExchanged cells.loose old c.of-corners.result
    c.exchanged-self-inside.result in
    cells_set sheet cells.scopes.items cells.corners.items cells.won c.exchange_match.new.won
    cells.loose c.exchanged-self-inside.result place
    c.args.scope c.of-corners.result inside c.self.invariant c.of-corners.ensures
    (won_exchanged sheet cells.corners.items cells.won c.exchange_match.new.won place
    c.of-corners.result none here there c.self.invariant.won
    (λ club.
    let Says : List Fixture → List Score → Type 0 = λ fixtures old.
    let gives = range_of (worth_to match_points club (get_or fixtures place none)) in
    added (as_sum_range (range_at c.exchange_match.new.won club)) (gives old)
    ≡ added (as_sum_range (range_at cells.won club)) (gives c.of-corners.result) in
    let Old : List Score → Type 0 = λ old. Says sheet.fixtures old in
    let Over : List Fixture → Type 0 = λ fixtures. Says fixtures c.index.result.now in
    subst Old (c.index.ensures ∙ get_or_default cells.corners.items place _ [] there)
    (subst Over c.as_slice.ensures (c.exchange_match.ensures club))))
    (subst Was (c.index-2.ensures ∙ get_or_default cells.corners.items place _ [] there)
    c.exchanged-self-inside.ensures)
