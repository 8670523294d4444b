-- The literal is of a fixture, which has a score left or none, or of none.
use Rattle.std.proofs.Common.{◌<◌, ◌&&◌, not, length, sym, ap, ◌∙◌}
use Rattle.std.proofs.Math.Bool.{and-true}
use Rattle.std.proofs.lemmas.Bool.{false≢true, false_from_ne_true}
use Rattle.std.proofs.lemmas.List.{get_or_default}
use Rattle.league_core.specs.search.Zones.{is_as_said, passes}
use Rattle.league_core.specs.search.Options.{has_finish}
use Rattle.score_box.specs.inside.Cells.{allows}
use Rattle.score_box.proofs.BoxLemmas.{takes_cut, takes_mark, finish_cut, finish_same}
use Rattle.score_box.proofs.LeftLemmas.{none_left, left_none}
use Rattle.score_box.proofs.zone_box.halves.leaves_score.Goals as goal

pub bounds-cells-fixture : goal.bounds-cells-fixture
bounds-cells-fixture c = c.in-Some.ensures.some.2 (length c.args.cells.now) c.requires.in_range

pub cut_exact-requires-clause-exact : goal.cut_exact-requires-clause-exact
cut_exact-requires-clause-exact c =
    c.requires.exact c.in-Some.fixture _
    (c.in-Some.ensures.some.2 (length c.args.cells.now) c.requires.in_range)

pub returns-in-Some : goal.returns-in-Some
returns-in-Some c sheet season zone are =
    let cells = c.args.cells.now in
    let literal = c.args.literal.now in
    let f = c.in-Some.fixture in
    let on = c.in-Some.ensures.some.1 in
    let within : f < length cells = c.in-Some.ensures.some.2 (length cells) c.requires.in_range in
    let cell = c.cut_exact.new.self in
    finish_cut sheet season zone literal cells f cell (not c.are_none.result) within are
    (takes_cut cells f cell literal within on
    (λ d score.
    c.cut_exact.ensures.scores score
    ∙ ap (λ it. allows it score && is_as_said literal.yes (passes literal.test score))
    (get_or_default cells f _ d within))
    c.cut_exact.ensures.exact sheet.goal_limit zone season.scores are)
    (λ d empty score.
    c.cut_exact.ensures.scores score
    ∙ ap (λ b. b && is_as_said literal.yes (passes literal.test score))
    (ap (λ it. allows it score) (get_or_default cells f _ d within) ∙ empty score))
    (λ some empty.
    false≢true (sym (ap not (c.are_none.ensures ∙ left_none cell c.left.result c.left.ensures
    empty)) ∙ some))
    (λ is_some.
    ap not (false_from_ne_true c.are_none.result
    (λ none. is_some (none_left cell c.left.result c.left.ensures
    (sym c.are_none.ensures ∙ none)))))

pub returns-in-None : goal.returns-in-None
returns-in-None c sheet season zone are =
    and-true (has_finish sheet season zone)
    ∙ finish_same sheet season zone c.args.literal.now c.args.cells.now are
    (takes_mark c.args.cells.now c.args.literal.now c.in-None.ensures.none sheet.goal_limit zone
    season.scores are)
