-- A step more: its test is of the sheet, and what it kept leads back.
use Rattle.std.proofs.Common.{◌≡◌, ◌∷◌, ◌++◌, [], List, subst, sym, ap, ◌∙◌, true}
use Rattle.league_core.specs.declared.sheet.Sheet.{Sheet}
use Rattle.league_core.specs.search.Zones.{is_test_of}
use Rattle.check_bounds.specs.declared.step.Step.{Step}
use Rattle.check_bounds.specs.inside.Trails.{TrailView, IsTrail}
use Rattle.check_bounds.proofs.TrailLemmas.{within_trail, leads_on}
use Rattle.check_bounds.proofs.trail.Trail.go.Goals as goal

pub cut_by-cut-requires : goal.cut_by-cut-requires
cut_by-cut-requires c =
    let way = c.self.inside in
    let test = c.args.literal.test in
    let Of : TrailView → Type 0 = λ place. is_test_of place.sheet test ≡ true in
    (within_trail way.cells.sheet way.season.now way.cells.scopes way.marks way.steps.items test
    c.self.invariant (subst Of (sym c.self.view_is) c.requires)).0

pub invariant_of-self-2 : goal.invariant_of-self-2
invariant_of-self-2 c =
    let way = c.self.inside in
    let test = c.args.literal.test in
    let new = c.cut_by-cut.new.cells in
    let cut = c.cut_by-cut.result in
    let marks = c.with-self-inside.result in
    let step : Step = record { literal = c.args.literal; cut = cut; marks = way.marks } in
    let Steps : List Step → Type 0 =
    λ steps. IsTrail new.sheet way.season.now new.scopes marks steps in
    let Of : Sheet → Type 0 =
    λ sheet. IsTrail sheet way.season.now new.scopes marks (way.steps.items ++ step ∷ []) in
    let longer : c.push_reserved.new.self.items ≡ way.steps.items ++ step ∷ [] =
    c.push_reserved.ensures.items
    ∙ ap (λ steps. steps ++ step ∷ []) c.in_ok-reserve.ensures.items in
    subst Steps (sym longer)
    (subst Of (sym c.cut_by-cut.ensures.sheet)
    (leads_on way.cells.sheet way.season.now way.cells.scopes new.scopes marks way.steps.items step
    c.self.invariant c.cut_by-cut.ensures.cut c.cut_by-cut.ensures.within
    c.cut_by-cut.ensures.back c.with-self-inside.ensures))
