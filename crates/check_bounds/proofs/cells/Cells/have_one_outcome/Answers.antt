-- None is counted exactly when all pass.
use Rattle.std.proofs.Common.{◌≡◌, ◌==◌, ap, subst, ◌∙◌}
use Rattle.std.specs.List.{list_all}
use Rattle.league_core.specs.search.Options.{has_one_outcome}
use Rattle.check_bounds.specs.inside.Cells.{CellsView}
use Rattle.check_bounds.proofs.OpenCountLemmas.{failing-none}
use Rattle.check_bounds.proofs.cells.Cells.have_one_outcome.Goals as goal

pub returns : goal.returns
returns c =
    let cells = c.self.inside in
    let Says : CellsView → Type 0 = λ kept. (cells.loose.undecided == 0)
    ≡ list_all has_one_outcome kept.corners in
    subst Says c.self.view_is
    (ap (λ n. n == 0) c.self.invariant.loose.undecided
    ∙ failing-none has_one_outcome cells.corners.items)
