-- The word of an epoch: one number of 64 bits for a list of events. Its upper half says how many
-- events there were, its lower half which was the last. The codes are this project's choice.
use Rattle.std.specs.Prelude.{ℕ, ◌+◌, ◌*◌, List, [], ◌∷◌}
use Rattle.league_core.specs.declared.season.Event.{Event}
use Rattle.league_core.specs.declared.season.Event.TheVariants.{Set, Clear, Deduct}
use Rattle.league_core.specs.game.Seasons.{epoch_of}

-- a number for each event, never 0: the results of a fixture below 8,000,000, annulments below
-- 9,000,000, and then the deductions
abbrev pub code_of : Event → ℕ
code_of (Set fixture score) = 1 + fixture * 10000 + score.home * 100 + score.away
code_of (Clear fixture) = 8000000 + fixture
code_of (Deduct club points) = 9000000 + club * 100 + points

-- the code of the last event, or 0 if there is none
abbrev pub last_code : List Event → ℕ
last_code [] = 0
last_code (event ∷ []) = code_of event
last_code (event ∷ next ∷ later) = last_code (next ∷ later)

-- the word: the epoch in the upper 32 bits, the last event's code in the lower 32
abbrev pub pack_of : List Event → ℕ
pack_of log = epoch_of log * 4294967296 + last_code log
