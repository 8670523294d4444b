-- The league that a number gives: twelve clubs play a double round, all but the last three rounds
-- are played, and the number gives the scores. Which league this is, is this project's own choice.
use Rattle.std.specs.Prelude.{ℕ, zero, suc, ◌+◌, ◌-◌, ◌*◌, ◌/◌, ◌%◌, ◌^◌, Bool, ◌==◌, List}
use Rattle.std.specs.Prelude.{[], ◌∷◌, map, codes, if◌then◌else◌}
use Rattle.std.specs.List.{range_with_len}
use Rattle.league_core.specs.declared.sheet.Sheet.{Sheet}
use Rattle.league_core.specs.declared.sheet.Club.{Club}
use Rattle.league_core.specs.declared.sheet.Fixture.{Fixture}
use Rattle.league_core.specs.declared.sheet.Order.TheVariants.{HeadFirst}
use Rattle.league_core.specs.declared.season.Event.{Event}
use Rattle.league_core.specs.declared.season.Event.TheVariants.{Set}

-- ---- the clubs

-- a digit as a letter
abbrev pub digit : ℕ → ℕ
digit number = 48 + number

-- T01 to T12, for the clubs from 0 on
abbrev pub sample_name : ℕ → List ℕ
sample_name club = 84 ∷ digit ((club + 1) / 10) ∷ digit ((club + 1) % 10) ∷ []

-- a club's rank is its number, from 1
unfoldable pub sample_club : ℕ → Club
sample_club club = record { name = sample_name club; rank = club + 1 }

-- ---- the rounds: six matches each, eleven rounds and then the same with sides exchanged

-- the first of a pair: each club but the last one stays in its turn
abbrev pub first_of : ℕ → ℕ → ℕ
first_of turn pair = (turn + pair) % 11

-- the second of a pair: the last club in the first pair of a round
abbrev pub second_of : ℕ → ℕ → ℕ
second_of turn pair = if pair == 0 then 11 else (turn + 11 - pair) % 11

-- the first of a pair is at home in the even rounds of the first half, and in the second half if it
-- was away in the first
abbrev pub is_first_at_home : ℕ → ℕ → Bool
is_first_at_home half turn = (half + turn) % 2 == 0

-- the match of a pair in a turn of a half
abbrev pub match_of : ℕ → ℕ → ℕ → Fixture
match_of half turn pair =
    if is_first_at_home half turn
    then record { home = first_of turn pair; away = second_of turn pair }
    else record { home = second_of turn pair; away = first_of turn pair }

-- the fixture of a number from 0: six a round, and sixty-six a half
unfoldable pub sample_fixture : ℕ → Fixture
sample_fixture number = match_of (number / 66) (number / 6 % 11) (number % 6)

-- ---- the sheet

-- lines 1, 4 and 9; at most five goals a side in a match that is open; a budget of 200
unfoldable pub sample_sheet : Sheet
sample_sheet = record {
  name = codes "Sample";
  clubs = map sample_club (range_with_len 0 12);
  fixtures = map sample_fixture (range_with_len 0 132);
  lines = 1 ∷ 4 ∷ 9 ∷ [];
  goal_limit = 5;
  budget = 200;
  order = HeadFirst;
}

-- ---- the scores

-- one number is drawn
unfoldable pub next_state : ℕ → ℕ
next_state state = (6364136223846793005 * state + 1442695040888963407) % 2 ^ 64

-- what is drawn, 0 to 3
unfoldable pub drawn_from : ℕ → ℕ
drawn_from state = state / 2 ^ 33 % 4

-- the state after so many draws from a seed
unfoldable pub state_after : ℕ → ℕ → ℕ
state_after seed zero = seed
state_after seed (suc draws) = next_state (state_after seed draws)

-- the number of a draw, counted from 1
abbrev pub drawn : ℕ → ℕ → ℕ
drawn seed draws = drawn_from (state_after seed draws)

-- the result of a fixture: the home side's goals are drawn first, then the away side's
unfoldable pub sample_event : ℕ → ℕ → Event
sample_event seed fixture =
    Set fixture (record {
      home = drawn seed (2 * fixture + 1);
      away = drawn seed (2 * fixture + 2);
    })

-- the results of the first nineteen rounds
unfoldable pub sample_events : ℕ → List Event
sample_events seed = map (sample_event seed) (range_with_len 0 114)
