-- What matches add up to for a club: points by the three-point rule, goal difference, goals, away
-- goals, wins, away wins. Each is added over the played matches of a set of fixtures.
use Rattle.std.specs.Prelude.{ℕ, ℤ, pos, ◌+ℤ◌, ◌-ℤ◌, Bool, true, false, ◌&&◌, ◌==◌, nat_lt}
use Rattle.std.specs.Prelude.{if◌then◌else◌, slice_index, List, [], ◌∷◌, Option, Some, None}
use Rattle.std.specs.List.{list_any}
use Rattle.league_core.specs.declared.sheet.Sheet.{Sheet}
use Rattle.league_core.specs.declared.sheet.Fixture.{Fixture}
use Rattle.league_core.specs.declared.season.Score.{Score}
use Rattle.league_core.specs.game.Results.{Results}

-- what one match is worth to a side, by the goals it scored, those it let in, and whether it was
-- away
abbrev pub Worth : Type 0
Worth = ℕ → ℕ → Bool → ℤ

-- three points for a win, one for a draw, none for a defeat
abbrev pub match_points : Worth
match_points scored conceded away =
    if nat_lt conceded scored then pos 3 else if scored == conceded then pos 1 else pos 0

-- goals scored less goals let in
abbrev pub goal_difference : Worth
goal_difference scored conceded away = pos scored -ℤ pos conceded

-- goals scored
abbrev pub goals : Worth
goals scored conceded away = pos scored

-- goals scored away from home
abbrev pub away_goals : Worth
away_goals scored conceded away = if away then pos scored else pos 0

-- a win counts one
abbrev pub wins : Worth
wins scored conceded away = if nat_lt conceded scored then pos 1 else pos 0

-- a win away from home counts one
abbrev pub away_wins : Worth
away_wins scored conceded away = if away && nat_lt conceded scored then pos 1 else pos 0

-- what a match of two different clubs is worth to a club: nothing if it does not play in it
abbrev pub worth_to : Worth → ℕ → Fixture → Score → ℤ
worth_to worth club match score =
    if match.home == club then worth score.home score.away false
    else if match.away == club then worth score.away score.home true
    else pos 0

-- the list has the club
abbrev pub has_club : List ℕ → ℕ → Bool
has_club group club = list_any (λ member. member == club) group

-- what a match is worth to a club within a group: nothing if an end is outside it
abbrev pub worth_among : List ℕ → Worth → ℕ → Fixture → Score → ℤ
worth_among group worth club match score =
    if has_club group match.home && has_club group match.away
    then worth_to worth club match score else pos 0

-- an unplayed match is worth nothing
abbrev pub if_played : (Fixture → Score → ℤ) → Fixture → Option Score → ℤ
if_played value match None = pos 0
if_played value match (Some score) = value match score

-- the worth of all matches together; a match without an entry, or an entry without a match, adds
-- none
abbrev pub sum_over : (Fixture → Score → ℤ) → List Fixture → List (Option Score) → ℤ
sum_over value [] scores = pos 0
sum_over value (match ∷ matches) [] = pos 0
sum_over value (match ∷ matches) (score ∷ scores) =
    if_played value match score +ℤ sum_over value matches scores

-- a club's sum over all matches
abbrev pub sum_of : Worth → Sheet → Results → ℕ → ℤ
sum_of worth sheet season club = sum_over (worth_to worth club) sheet.fixtures season.scores

-- a club's sum over the matches of a group
abbrev pub sum_among : List ℕ → Worth → Sheet → Results → ℕ → ℤ
sum_among group worth sheet season club =
    sum_over (worth_among group worth club) sheet.fixtures season.scores

-- a club's points: those of all its matches, less what is taken off; 0 is taken off a number that
-- is no club's
abbrev pub points_of : Sheet → Results → ℕ → ℤ
points_of sheet season club =
    sum_of match_points sheet season club -ℤ pos (slice_index season.deductions club)
