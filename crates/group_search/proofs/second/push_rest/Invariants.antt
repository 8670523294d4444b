use Rattle.std.proofs.Common.{◌≡◌, ◌++◌, filter}
use Rattle.std.specs.List.{range_with_len}
use Rattle.group_search.specs.inside.SecondLots.{is_neither}
use Rattle.group_search.proofs.second.push_rest.Given as goal

-- of the clubs that were passed all but the two are added
abbrev pub invariant-loop-other : goal.invariant-loop-other
invariant-loop-other l =
    l.order.items ≡ l.initial.order.items
    ++ filter (is_neither l.first l.club) (range_with_len 0 l.other)
