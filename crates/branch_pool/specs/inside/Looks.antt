-- What a look at an example shows.
use Rattle.std.specs.Prelude.{List, ℕ, Option, Some, None}
use Rattle.std.specs.Borrow.{Bor}
use Rattle.league_core.specs.game.Results.{Results}
use Rattle.tree_arena.specs.declared.example.Example.{Example}

-- the example that two borrowed parts are of
abbrev pub seen_example : Option (Bor Results × Bor (List ℕ)) → Option Example
seen_example None = None
seen_example (Some parts) = Some (record { finish = parts.0.now; lots = parts.1.now })
