-- The literal is of a fixture, whose cell it cuts, or of none.
use Rattle.std.proofs.Common.{◌<◌, ◌&&◌, List, [], ◌∷◌, ◌++◌, length, get_or, subst, sym}
use Rattle.std.proofs.Common.{ap, ◌∙◌, arith}
use Rattle.std.proofs.lemmas.List.{get_or_default}
use Rattle.league_core.specs.declared.season.Score.{Score}
use Rattle.league_core.specs.search.Zones.{is_as_said, passes}
use Rattle.league_core.specs.search.Options.{options_from}
use Rattle.league_core.proofs.OptionLemmas.{length-options_from}
use Rattle.score_box.specs.declared.cell.Cell.{Cell}
use Rattle.score_box.specs.inside.Cells.{allows}
use Rattle.score_box.specs.inside.Boxes.{AreCellsOf}
use Rattle.score_box.specs.inside.Ends.{AreEnds}
use Rattle.score_box.proofs.BoxLemmas.{takes_cut, takes_mark}
use Rattle.score_box.proofs.PathLemmas.{one_more, options_same, cell_set}
use Rattle.score_box.proofs.zone_box.path.take_one.Goals as goal

pub slice_copy_out-cell : goal.slice_copy_out-cell
slice_copy_out-cell c = c.in-Some.ensures.some.2 (length c.args.cells.now) c.requires.in_range

pub cut_exact-requires-clause-exact : goal.cut_exact-requires-clause-exact
cut_exact-requires-clause-exact c =
    c.requires.ends.1.exact c.in-Some.fixture _
    (c.in-Some.ensures.some.2 (length c.args.cells.now) c.requires.in_range)

pub replace-requires-clause-in_range : goal.replace-requires-clause-in_range
replace-requires-clause-in_range c =
    c.in-Some.ensures.some.2 (length c.args.cells.now) c.requires.in_range

pub returns-in-Some : goal.returns-in-Some
returns-in-Some c limit zone scores are ends_are =
    let cells = c.args.cells.now in
    let literal = c.args.literal.now in
    let f = c.in-Some.fixture in
    let on = c.in-Some.ensures.some.1 in
    let within : f < length cells = c.in-Some.ensures.some.2 (length cells) c.requires.in_range in
    let inside : f < length scores = omega (
      arith,
      are.many,
      length-options_from limit zone 0 scores,
    ) in
    let old = options_from limit zone 0 scores in
    let new = options_from limit (zone ++ literal ∷ []) 0 scores in
    let cut = takes_cut cells f c.cut_exact.new.self literal within on
    (λ d score.
    c.cut_exact.ensures.scores score
    ∙ ap (λ cell. allows cell score && is_as_said literal.yes (passes literal.test score))
    (get_or_default cells f _ d within)) c.cut_exact.ensures.exact limit zone scores are in
    let Cells : List Cell → Type 0 = λ cs. AreCellsOf cs new in
    let Ends_of : List (List Score) → Type 0 = λ o. AreEnds c.args.fixtures.now o
    c.replace.new.ends in (
      subst Cells (sym c.replace.ensures.cells) cut,
      subst Ends_of (one_more limit zone literal scores f inside on)
          (c.replace.ensures.ends old (get_or new f []) are ends_are
          (cell_set cells f c.cut_exact.new.self new within cut)),
    )

pub returns-in-None : goal.returns-in-None
returns-in-None c limit zone scores are ends_are =
    let Ends_of : List (List Score) → Type 0 = λ o. AreEnds c.args.fixtures.now o c.args.ends.now
    in (
      takes_mark c.args.cells.now c.args.literal.now c.in-None.ensures.none limit zone scores are,
      subst Ends_of (sym (options_same limit zone c.args.literal.now scores
          c.in-None.ensures.none)) ends_are,
    )
