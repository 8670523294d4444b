use Rattle.std.proofs.Common.{◌≡◌, take}
use Rattle.rule_tests.proofs.keys.ends_along.Given as goal

-- the way of the literals so far
abbrev pub invariant-loop-literal : goal.invariant-loop-literal
invariant-loop-literal g l =
    l.way ≡ record {
      sheet = l.sample.sheet;
      season = l.sample.season;
      zone = take l.literal-index l.zone;
    }
