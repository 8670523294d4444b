-- In a group of all clubs each match counts.
use Rattle.std.proofs.Common.{◌≡◌, true, length, subst, ◌∙◌}
use Rattle.std.specs.List.{list_all}
use Rattle.league_core.specs.declared.sheet.Sheet.{Sheet}
use Rattle.league_core.specs.game.Sheets.{is_fixture}
use Rattle.league_core.specs.game.ClubSets.{clubs_in}
use Rattle.league_core.proofs.RangeLemmas.{range_from-among_all}
use Rattle.tie_criteria.specs.inside.Measures.{worth_of}
use Rattle.tie_bound.specs.inside.Boxes.{options_in_box}
use Rattle.tie_bound.proofs.RowLemmas.{rows_of_all}
use Rattle.tie_bound.proofs.table.add_all_open.Goals as goal

pub add_open-requires-clause-rows : goal.add_open-requires-clause-rows
add_open-requires-clause-rows c =
    let box = c.args.zone_box.now in
    let Are : Sheet → Type 0 = λ s. list_all (is_fixture (length s.clubs)) s.fixtures ≡ true in
    rows_of_all (clubs_in c.args.all) (length box.sheet.clubs) box.sheet.fixtures
    box.season.scores c.args.table.now c.requires.all
    (subst Are c.sheet-sheet.ensures.sheet c.sheet-sheet.ensures.limits.fixtures)
    c.requires.rows

pub returns : goal.returns
returns c =
    let box = c.args.zone_box.now in
    let Are : Sheet → Type 0 = λ s. list_all (is_fixture (length s.clubs)) s.fixtures ≡ true in
    let fixtures = subst Are c.sheet-sheet.ensures.sheet
    c.sheet-sheet.ensures.limits.fixtures in
    record {
      each = λ club measure.
          c.add_open.ensures.each club measure
          ∙ range_from-among_all (clubs_in c.args.all) (length box.sheet.clubs)
          (worth_of measure) club box.sheet.fixtures (options_in_box box) c.requires.all fixtures;
      near = c.add_open.ensures.near;
    }
