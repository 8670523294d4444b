-- Which proof lines have a form: the ranges of their numbers, whatever the sheet and the question.
-- They are the greatest that a league may have. What names a fixture or a club has its bound as an
-- argument: how many of them lines may name.
use Rattle.std.specs.Prelude.{ℕ, ◌-◌, ℤ, Bool, true, ◌&&◌, nat_lt, nat_le, int_le}
use Rattle.std.specs.List.{list_all}
use Rattle.league_core.specs.declared.club_set.ClubSet.{ClubSet}
use Rattle.league_core.specs.declared.zone.Test.{Test}
use Rattle.league_core.specs.declared.zone.Test.TheVariants.{Home, Draw, HomeMost, AwayMost, Rival}
use Rattle.league_core.specs.declared.zone.Reason.{Reason}
use Rattle.league_core.specs.declared.zone.Reason.TheVariants.{Count, Window, Low, High, Tie}
use Rattle.league_core.specs.game.Limits.{most_clubs, most_fixtures, most_goals, least_points}
use Rattle.league_core.specs.game.Limits.{most_points}
use Rattle.league_core.specs.game.Results.{is_score}
use Rattle.league_core.specs.game.ClubSets.{clubs_in}
use Rattle.league_core.specs.search.Reasons.{has_member}
use Rattle.cert_text.specs.declared.proof_line.ProofLine.{ProofLine}
use Rattle.cert_text.specs.declared.proof_line.ProofLine.TheVariants as line

-- the number is one of so many, from 0 on
abbrev pub is_one_of : ℕ → ℕ → Bool
is_one_of most number = nat_lt number most

-- a fixture that a sheet may have
abbrev pub is_fixture_number : ℕ → Bool
is_fixture_number fixture = nat_lt fixture most_fixtures

-- a club that a sheet may have
abbrev pub is_club_number : ℕ → Bool
is_club_number club = nat_lt club most_clubs

-- the greatest bound on the goals of a side that a score of at most 99 can miss
abbrev pub most_goal_bound : ℕ
most_goal_bound = most_goals - 1

-- a bound on goals that a score can miss
abbrev pub is_goal_bound : ℕ → Bool
is_goal_bound most = nat_le most most_goal_bound

-- points that a club can have
abbrev pub are_points : ℤ → Bool
are_points points = int_le least_points points && int_le points most_points

-- the numbers of a test are such as one of so many fixtures, one of so many clubs and a bound on
-- goals have
abbrev pub is_test_below : ℕ → ℕ → Test → Bool
is_test_below fixtures clubs (Home fixture) = is_one_of fixtures fixture
is_test_below fixtures clubs (Draw fixture) = is_one_of fixtures fixture
is_test_below fixtures clubs (HomeMost fixture most) =
    is_one_of fixtures fixture && is_goal_bound most
is_test_below fixtures clubs (AwayMost fixture most) =
    is_one_of fixtures fixture && is_goal_bound most
is_test_below fixtures clubs (Rival club) = is_one_of clubs club

-- those of a league
abbrev pub is_test_in_range : Test → Bool
is_test_in_range test = is_test_below most_fixtures most_clubs test

-- a set with a member, of numbers of clubs alone
abbrev pub is_set_in_range : ClubSet → Bool
is_set_in_range set = has_member (clubs_in set) && list_all is_club_number (clubs_in set)

-- the set of a cut is such as a cut has
abbrev pub is_reason_in_range : Reason → Bool
is_reason_in_range Count = true
is_reason_in_range Window = true
is_reason_in_range (Low set) = is_set_in_range set
is_reason_in_range (High set) = is_set_in_range set
is_reason_in_range Tie = true

-- the line's numbers are such as its form has; lots need not name each club
abbrev pub is_in_range : ProofLine → Bool
is_in_range (line.Tree claim) = true
is_in_range (line.Spent claim) = true
is_in_range (line.SpentWindow claim low high) = are_points low && are_points high
is_in_range (line.Split test) = is_test_in_range test
is_in_range (line.NewSplit test) = is_test_in_range test
is_in_range (line.Leaf reason) = is_reason_in_range reason
is_in_range (line.NewLeaf reason) = is_reason_in_range reason
is_in_range line.OpenLeaf = true
is_in_range (line.Finish claim) = true
is_in_range (line.Score fixture score) = is_fixture_number fixture && is_score score
is_in_range (line.Lots lots) = list_all is_club_number lots.list
