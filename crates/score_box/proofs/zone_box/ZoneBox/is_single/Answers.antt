-- Each cell has one score exactly when each fixture has one option.
use Rattle.std.proofs.Common.{List, subst, sym}
use Rattle.std.specs.List.{All}
use Rattle.league_core.specs.search.Options.{options_in}
use Rattle.score_box.specs.declared.cell.Cell.{Cell}
use Rattle.score_box.specs.inside.Cells.{HasOneScore}
use Rattle.score_box.specs.inside.Boxes.{AreCellsOf}
use Rattle.score_box.specs.inside.ZoneBoxViews.{ZoneBoxView}
use Rattle.score_box.proofs.BoxLemmas.{is_single-is}
use Rattle.score_box.proofs.zone_box.ZoneBox.is_single.Goals as goal

pub returns : goal.returns
returns c =
    let now = c.args.self.now in
    let cells = c.self.inside.cells.items in
    let Have : ZoneBoxView → Type 0 = λ v. AreCellsOf cells (options_in v.sheet v.season v.zone) in
    let One_in_each : List Cell → Type 0 = λ xs. All HasOneScore xs in
    is_single-is now.sheet now.season now.zone cells c.have_one_score.result
    (subst Have c.self.view_is c.self.invariant.options)
    (λ e. subst One_in_each c.deref.ensures.value (c.have_one_score.ensures.0 e))
    (λ all. c.have_one_score.ensures.1 (subst One_in_each (sym c.deref.ensures.value) all))
