-- How much a cup may hold, and how many places of a group qualify by themselves.
use Rattle.std.specs.Prelude.{ℕ}

-- the fewest groups of a cup
abbrev pub least_groups : ℕ
least_groups = 2

-- the most groups of a cup
abbrev pub most_groups : ℕ
most_groups = 12

-- the fewest clubs of a group
abbrev pub least_group_clubs : ℕ
least_group_clubs = 3

-- the most clubs of a group
abbrev pub most_group_clubs : ℕ
most_group_clubs = 6

-- the most fixtures of a group
abbrev pub most_group_fixtures : ℕ
most_group_fixtures = 60

-- the most clubs of a cup: twelve groups of six
abbrev pub most_cup_clubs : ℕ
most_cup_clubs = 72

-- the most fixtures of a cup: twelve groups of sixty
abbrev pub most_cup_fixtures : ℕ
most_cup_fixtures = 720

-- so many places of each group qualify by themselves: the first alone. The club at the place after
-- them is its group's candidate, compared with those of the other groups
abbrev pub direct_places : ℕ
direct_places = 1
