-- All finishes of a season in one list, and how many they are: what is played stays, and what is
-- not may end with each score up to the goal limit.
use Rattle.std.specs.Prelude.{ℕ, ◌+◌, ◌*◌, List, [], ◌∷◌, map, Option, Some, None}
use Rattle.std.specs.List.{flat_map}
use Rattle.league_core.specs.declared.season.Score.{Score}
use Rattle.league_core.specs.search.Options.{endings}

-- how a fixture may end: with its score if it was played, else with each score within the limit
abbrev pub ends_of : ℕ → Option Score → List (Option Score)
ends_of limit played = map Some (endings limit played)

-- the ends of the later fixtures after each way in which the first may end
abbrev pub with_first : ℕ → Option Score → List (Option Score) → List (List (Option Score))
with_first limit played later = map (λ ended. ended ∷ later) (ends_of limit played)

-- the scores of all finishes of a season with these scores
abbrev pub finishes_of : ℕ → List (Option Score) → List (List (Option Score))
finishes_of limit [] = [] ∷ []
finishes_of limit (played ∷ season) = flat_map (with_first limit played) (finishes_of limit season)

-- in how many ways a fixture may end: in one if it was played, else each side in one more than the
-- limit
abbrev pub ways_to_end : ℕ → Option Score → ℕ
ways_to_end limit None = (limit + 1) * (limit + 1)
ways_to_end limit (Some played) = 1

-- the product of these numbers
abbrev pub ways_to_finish : ℕ → List (Option Score) → ℕ
ways_to_finish limit [] = 1
ways_to_finish limit (played ∷ season) = ways_to_end limit played * ways_to_finish limit season

-- where a score stands among those within the limit
abbrev pub score_number : ℕ → Score → ℕ
score_number limit score = score.home * (limit + 1) + score.away

-- where an end stands among the ends of a fixture: 0 if it was played, which leaves one end, and 0
-- also if it is left open, which is no end
abbrev pub end_number : ℕ → Option Score → Option Score → ℕ
end_number limit None None = 0
end_number limit None (Some ended) = score_number limit ended
end_number limit (Some played) ended = 0

-- where a finish stands in the list of all
abbrev pub number_of : ℕ → List (Option Score) → List (Option Score) → ℕ
number_of limit [] finish = 0
number_of limit (played ∷ season) [] = 0
number_of limit (played ∷ season) (ended ∷ finish) =
    number_of limit season finish * ways_to_end limit played + end_number limit played ended
