-- The way to a zone, literal by literal: each step keeps what it changed, so that going back along
-- the way costs as little as going on.
use Rattle.std.specs.Prelude.{◌≡◌, ℕ, ◌<◌, true, false, List, [], ◌∷◌, ◌++◌, length, reverse, set}
use Rattle.std.specs.Prelude.{Option, Some, None}
use Rattle.league_core.specs.declared.sheet.Sheet.{Sheet}
use Rattle.league_core.specs.declared.season.Score.{Score}
use Rattle.league_core.specs.declared.zone.Literal.{Literal}
use Rattle.league_core.specs.game.Results.{Results}
use Rattle.league_core.specs.game.Seasons.{IsLeague}
use Rattle.league_core.specs.game.Sums.{has_club}
use Rattle.league_core.specs.game.ClubSets.{clubs_in}
use Rattle.league_core.specs.search.Options.{options_from}
use Rattle.check_bounds.specs.declared.score_domain.ScoreDomain.{ScoreDomain}
use Rattle.check_bounds.specs.declared.step.Cut.{Cut}
use Rattle.check_bounds.specs.declared.step.Marks.{Marks}
use Rattle.check_bounds.specs.declared.step.Step.{Step}
use Rattle.check_bounds.specs.inside.Zones.{AreScoreDomainsOf, marked_as}

-- a zone, and the season in which it lies
pub record TrailView : Type 0 where
  pub sheet : Sheet
  pub season : Results
  pub zone : List Literal

-- the whole season: no literal is asked for
abbrev pub root_of : Sheet → Results → TrailView
root_of sheet season = record { sheet = sheet; season = season; zone = [] }

-- one literal more
abbrev pub farther : TrailView → Literal → TrailView
farther place literal = record place { zone = place.zone ++ literal ∷ [] }

-- the domains as they were before a step that kept this
abbrev pub undone : List ScoreDomain → Option Cut → List ScoreDomain
undone scopes None = scopes
undone scopes (Some cut) = set scopes cut.fixture cut.kept

-- what is kept is of one of so many fixtures
abbrev pub IsCutWithin : ℕ → Option Cut → Type 0
IsCutWithin fixtures None = Unit {0}
IsCutWithin fixtures (Some cut) = cut.fixture < fixtures

-- the literals of steps, of which the last one stands first
abbrev pub literals_up : List Step → List Literal
literals_up [] = []
literals_up (step ∷ up) = literals_up up ++ step.literal ∷ []

-- the literals of steps in their order
abbrev pub zone_of : List Step → List Literal
zone_of steps = literals_up (reverse steps)

-- the sets are the rivals that the zone marks, each way
pub record AreMarks (marks : Marks) (zone : List Literal) : Type 0 where
  pub before : (rival : ℕ) → has_club (clubs_in marks.before) rival ≡ marked_as true zone rival
  pub after : (rival : ℕ) → has_club (clubs_in marks.after) rival ≡ marked_as false zone rival

-- domains and marks are those of a zone
pub record AreOfZone (limit : ℕ) (scores : List (Option Score)) (zone : List Literal)
    (scopes : List ScoreDomain) (marks : Marks) : Type 0 where
  pub fixtures : AreScoreDomainsOf scopes (options_from limit zone 0 scores)
  pub rivals : AreMarks marks zone

-- domains and marks are those of the steps, of which the last one stands first; without the last
-- step, and with what it kept, they are those of the steps before it
abbrev pub LeadTo : ℕ → List (Option Score) → List Step → List ScoreDomain → Marks → Type 0
LeadTo limit scores [] scopes marks = AreOfZone limit scores [] scopes marks
LeadTo limit scores (step ∷ up) scopes marks =
    AreOfZone limit scores (literals_up (step ∷ up)) scopes marks
    × IsCutWithin (length scopes) step.cut
    × LeadTo limit scores up (undone scopes step.cut) step.marks

-- a way in a season of the sheet
pub record IsTrail (sheet : Sheet) (season : Results) (scopes : List ScoreDomain) (marks : Marks)
    (steps : List Step) : Type 0 where
  pub league : IsLeague sheet season
  pub leads : LeadTo sheet.goal_limit season.scores (reverse steps) scopes marks
