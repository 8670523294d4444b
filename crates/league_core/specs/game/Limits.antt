-- How much a league may hold. That the constants of src/limits.rt are these numbers is the contract
-- of a function there.
use Rattle.std.specs.Prelude.{ℕ, ℤ, pos, neg_ℤ}

-- the fewest clubs of a sheet
abbrev pub least_clubs : ℕ
least_clubs = 2

-- the most clubs of a sheet
abbrev pub most_clubs : ℕ
most_clubs = 24

-- the most fixtures of a sheet
abbrev pub most_fixtures : ℕ
most_fixtures = 600

-- the most lines of a sheet
abbrev pub most_lines : ℕ
most_lines = 4

-- the greatest fixed rank
abbrev pub most_rank : ℕ
most_rank = 999

-- the greatest goal limit for a side of an unplayed match
abbrev pub most_goal_limit : ℕ
most_goal_limit = 20

-- the greatest node budget
abbrev pub most_budget : ℕ
most_budget = 50000

-- the most bytes of a name
abbrev pub most_name_bytes : ℕ
most_name_bytes = 40

-- the most goals of a side in a played match
abbrev pub most_goals : ℕ
most_goals = 99

-- the most points taken off a club
abbrev pub most_deduction : ℕ
most_deduction = 99

-- the least points of a club: no match points, less the greatest deduction
abbrev pub least_points : ℤ
least_points = neg_ℤ (pos 99)

-- the most points of a club: three of each fixture
abbrev pub most_points : ℤ
most_points = pos 1800

-- the most events of a feed
abbrev pub most_events : ℕ
most_events = 100000

-- the most finishes of a season that are walked one by one
abbrev pub most_finishes : ℕ
most_finishes = 10000

-- the clubs that a set may name are those below this number
abbrev pub set_width : ℕ
set_width = 32
