use Rattle.club_keys.specs.inside.KeyEnds.{key_parts}
use Rattle.runners_up.specs.inside.GroupsAsked.{IsAskedUpTo}
use Rattle.runners_up.proofs.others.ask_group.Given as goal

-- what the clubs so far came to
abbrev pub invariant-loop-club : goal.invariant-loop-club
invariant-loop-club l =
    IsAskedUpTo l.sheet l.season l.claim (key_parts l.key) l.club l.asked.trees.items l.asked.spent
