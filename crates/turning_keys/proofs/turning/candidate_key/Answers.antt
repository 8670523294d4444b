use Rattle.std.proofs.Common.{inl}
use Rattle.turning_keys.proofs.FindLemmas.{key_found, example_at_key}
use Rattle.turning_keys.proofs.EndLemmas.{spent_on_the_way}
use Rattle.turning_keys.proofs.turning.candidate_key.Goals as goal

pub last_question-requires-clause-turning : goal.last_question-requires-clause-turning
last_question-requires-clause-turning c =
    let found = rw c.in-None.is at c.in_ok-spent.ensures in
    inl (key_found c.args.sheet.now c.args.season.now c.args.sought.claim c.args.sought.club
    c.requires.league.limits c.scores-scores.ensures.within c.requires.in_range
    c.find_key.new.reached found.0 found.1)

pub last_question-requires-clause-example : goal.last_question-requires-clause-example
last_question-requires-clause-example c =
    let found = rw c.in-None.is at c.in_ok-spent.ensures in
    example_at_key c.args.sheet.now c.args.season.now c.args.sought.claim c.args.sought.club
    c.requires.league.limits c.scores-scores.ensures.within c.requires.in_range
    c.find_key.new.reached found.0 found.1

pub returns-in-Some : goal.returns-in-Some
returns-in-Some c =
    let found = rw c.in-Some.is at c.in_ok-spent.ensures in
    spent_on_the_way c.args.sheet.now c.args.season.now c.args.sought.claim c.args.sought.club
    c.requires.in_range c.args.first.example c.requires.reached.near.candidate c.in-Some.spent
    found
