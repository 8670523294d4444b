-- The literal is on one fixture, or on none.
use Rattle.std.proofs.Common.{length, get_or, sym, ap, ◌∙◌}
use Rattle.std.proofs.lemmas.Bool.{eqb-true, false≢true}
use Rattle.std.proofs.lemmas.List.{get_or_default}
use Rattle.score_box.proofs.trail.cell_on.Goals as goal

pub bounds-cells-fixture : goal.bounds-cells-fixture
bounds-cells-fixture c = c.in-Some.ensures.some.2 (length c.args.cells.now) c.requires

pub returns-in-Some : goal.returns-in-Some
returns-in-Some c number d on =
    let f = c.in-Some.fixture in
    let cells = c.args.cells.now in
    let same = eqb-true f number (sym (c.in-Some.ensures.some.1 number) ∙ on) in
    let within = c.in-Some.ensures.some.2 (length cells) c.requires in
    get_or_default cells f _ d within ∙ ap (λ n. get_or cells n d) same

pub returns-in-None : goal.returns-in-None
returns-in-None c number d on =
    absurd (false≢true (sym (c.in-None.ensures.none number) ∙ on))
