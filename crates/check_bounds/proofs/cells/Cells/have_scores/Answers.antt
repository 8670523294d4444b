-- None is counted exactly when all pass.
use Rattle.std.proofs.Common.{◌≡◌, ◌==◌, ap, subst, ◌∙◌}
use Rattle.std.specs.List.{list_all}
use Rattle.league_core.specs.search.Options.{has_option}
use Rattle.check_bounds.specs.inside.Cells.{CellsView}
use Rattle.check_bounds.proofs.OpenCountLemmas.{failing-none}
use Rattle.check_bounds.proofs.cells.Cells.have_scores.Goals as goal

pub returns-clause-value : goal.returns-clause-value
returns-clause-value c =
    let cells = c.self.inside in
    let Says : CellsView → Type 0 = λ kept. (cells.loose.without_score == 0)
    ≡ list_all has_option kept.corners in
    subst Says c.self.view_is
    (ap (λ n. n == 0) c.self.invariant.loose.without_score
    ∙ failing-none has_option cells.corners.items)
