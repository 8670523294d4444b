-- The literal is of a fixture, which has its cell from before, or of none.
use Rattle.std.proofs.Common.{◌<◌, List, [], ◌∷◌, ◌++◌, length, get_or}
use Rattle.std.proofs.Common.{refl, sym, ◌∙◌, arith, subst}
use Rattle.std.proofs.lemmas.Bool.{eq-eqb}
use Rattle.league_core.specs.declared.season.Score.{Score}
use Rattle.league_core.specs.search.Options.{options_from}
use Rattle.league_core.proofs.OptionLemmas.{length-options_from}
use Rattle.score_box.specs.declared.cell.Cell.{Cell}
use Rattle.score_box.specs.inside.Boxes.{AreCellsOf}
use Rattle.score_box.specs.inside.Ends.{AreEnds}
use Rattle.score_box.proofs.PathLemmas.{gives_cell, gives_mark, one_less, options_same, cell_set}
use Rattle.score_box.proofs.zone_box.path.give_back.Goals as goal

pub replace-requires-clause-in_range : goal.replace-requires-clause-in_range
replace-requires-clause-in_range c =
    c.in-Some.ensures.some.2 (length c.args.cells.now) c.requires.in_range

pub replace-requires-clause-exact : goal.replace-requires-clause-exact
replace-requires-clause-exact c =
    let f = c.in-Some.fixture in
    c.requires.exact f (c.in-Some.ensures.some.1 f ∙ eq-eqb f f refl)

pub returns-in-Some : goal.returns-in-Some
returns-in-Some c limit zone scores before are ends_are =
    let last = c.args.last.now in
    let cells = c.args.cells.now in
    let f = c.in-Some.fixture in
    let on = c.in-Some.ensures.some.1 in
    let within : f < length cells = c.in-Some.ensures.some.2 (length cells) c.requires.in_range in
    let below : f < length scores = omega (
      arith,
      are.many,
      length-options_from limit (zone ++ last ∷ []) 0 scores,
    ) in
    let old = options_from limit (zone ++ last ∷ []) 0 scores in
    let new = options_from limit zone 0 scores in
    let given = gives_cell limit zone last scores cells f c.args.cell on below
    (before f (on f ∙ eq-eqb f f refl)).0 (before f (on f ∙ eq-eqb f f refl)).1 are in
    let Cells : List Cell → Type 0 = λ cs. AreCellsOf cs new in
    let Ends_of : List (List Score) → Type 0 = λ o. AreEnds c.args.fixtures.now o
    c.replace.new.ends in (
      subst Cells (sym c.replace.ensures.cells) given,
      subst Ends_of (one_less limit zone last scores f below on)
          (c.replace.ensures.ends old (get_or new f []) are ends_are
          (cell_set cells f c.args.cell new within given)),
    )

pub returns-in-None : goal.returns-in-None
returns-in-None c limit zone scores before are ends_are =
    let last = c.args.last.now in
    let Ends_of : List (List Score) → Type 0 = λ o. AreEnds c.args.fixtures.now o c.args.ends.now
    in (
      gives_mark limit zone last scores c.args.cells.now c.in-None.ensures.none are,
      subst Ends_of (options_same limit zone last scores c.in-None.ensures.none) ends_are,
    )
