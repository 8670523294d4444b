-- Where a club stands in a group of clubs: which of them come before it, and which are level with
-- it.
use Rattle.std.specs.Prelude.{◌≡◌, ℕ, ℤ, Bool, ◌&&◌, if◌then◌else◌, List}
use Rattle.std.specs.declared.cmp.Ordering.{Ordering}
use Rattle.std.specs.Ordering.{is_lt, is_eq}
use Rattle.league_core.specs.declared.sheet.Sheet.{Sheet}
use Rattle.league_core.specs.game.Results.{Results}
use Rattle.league_core.specs.game.Sums.{has_club, points_of}
use Rattle.league_core.specs.game.HeadToHead.{greater_first}
use Rattle.league_core.specs.game.Ahead.{by_overall, lead_in}
use Rattle.league_core.specs.game.ClubSets.{clubs_in}
use Rattle.score_box.specs.inside.Ends.{end_at}
use Rattle.example_finish.specs.declared.standing.Standing.{Standing}

-- of the group, those that come before the club in the order, and those that are level with it
pub record IsStandingOf (order : ℕ → ℕ → Ordering) (group : List ℕ) (club : ℕ)
    (standing : Standing) : Type 0 where
  pub ahead : (other : ℕ) → has_club (clubs_in standing.ahead) other
      ≡ (has_club group other && is_lt (order other club))
  pub level : (other : ℕ) → has_club (clubs_in standing.level) other
      ≡ (has_club group other && is_eq (order other club))

-- Less if the one club has more points
abbrev pub by_points_in : Sheet → Results → ℕ → ℕ → Ordering
by_points_in sheet season club other =
    greater_first (points_of sheet season club) (points_of sheet season other)

-- Less if the one club has the greater number at its place
abbrev pub by_number_in : List ℤ → ℕ → ℕ → Ordering
by_number_in numbers club other = greater_first (end_at numbers club) (end_at numbers other)

-- what decides among clubs that the record in a group leaves level: the sums over all matches if
-- they are the whole group, else who leads among them
abbrev pub next_after : Bool → Sheet → Results → List ℕ → ℕ → ℕ → Ordering
next_after whole sheet season level club other =
    if whole then by_overall sheet season club other else lead_in sheet season level club other
