-- What is asked of the table is a question of it.
use Rattle.cup_check.proofs.GroupTreeLemmas.{after_asked, place_asked}
use Rattle.cup_check.proofs.place.GroupPlace.has_reason.Goals as goal
use Rattle.cup_sheet.specs.declared.question.GroupKind.TheVariants.{SecondLess}

pub holds-requires-clause-question : goal.holds-requires-clause-question
holds-requires-clause-question c =
    place_asked c.args.self.now c.args.question.now.kind c.args.question.now.club c.place.result
    c.recall_place.ensures c.requires.in_range c.place.ensures.value

pub holds-requires-then-not-is_place-clause-question
    : goal.holds-requires-then-not-is_place-clause-question
holds-requires-then-not-is_place-clause-question c =
    place_asked c.args.self.now SecondLess c.args.question.now.club c.reach.result
    c.recall_place.ensures c.requires.in_range c.reach.ensures.value

pub holds-requires-then-not-is_place-2-clause-question
    : goal.holds-requires-then-not-is_place-2-clause-question
holds-requires-then-not-is_place-2-clause-question c =
    after_asked c.args.self.now c.args.question.now.club c.after.result
    c.recall_place.ensures c.requires.in_range c.after.ensures.value
