use Rattle.std.proofs.Common.{◌∙◌, take, get_or, refl}
use Rattle.std.specs.List.{list_all}
use Rattle.std.proofs.lemmas.Bool.{and_from}
use Rattle.std.proofs.lemmas.List.Folds.{list_all_more}
use Rattle.league_core.specs.search.Zones.{is_literal_true}
use Rattle.what_if.proofs.literals.are_true.Goals as goal

pub loop-literal-preserved : goal.loop-literal-preserved
loop-literal-preserved c = λ sheet club lots.
    let holds = is_literal_true sheet club c.args.season.now lots in
    list_all_more holds c.args.literals.now c.loop-literal.literal-index _ c.loop-literal-test.true
    ∙ and_from (list_all holds (take c.loop-literal.literal-index c.args.literals.now))
    (holds (get_or c.args.literals.now c.loop-literal.literal-index _))
    (c.loop-literal.invariant sheet club lots)
    (c.if-not-is_true.ensures refl sheet club lots)
