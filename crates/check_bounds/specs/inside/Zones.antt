-- What a zone leaves of each fixture, as domains and as extremes, and the rivals that it marks.
use Rattle.std.specs.Prelude.{◌≡◌, ℕ, ◌<◌, Bool, ◌&&◌, List, [], ◌∷◌, ◌++◌, length, Option}
use Rattle.std.specs.Prelude.{slice_index_or}
use Rattle.std.specs.List.{list_any}
use Rattle.league_core.specs.declared.season.Score.{Score}
use Rattle.league_core.specs.declared.zone.Test.{Test}
use Rattle.league_core.specs.declared.zone.Test.TheVariants.{Home, Draw, HomeMost, AwayMost, Rival}
use Rattle.league_core.specs.declared.zone.Literal.{Literal}
use Rattle.league_core.specs.search.Zones.{is_of_rival, is_as_said}
use Rattle.league_core.specs.search.Options.{options_from}
use Rattle.check_bounds.specs.declared.score_domain.ScoreDomain.{ScoreDomain}
use Rattle.check_bounds.specs.inside.ScoreDomains.{IsScoreDomainOf}
use Rattle.check_bounds.specs.inside.ExtremeScores.{AreExtremesOf}

-- one domain for each fixture, which has the fixture's options
pub record AreScoreDomainsOf (scopes : List ScoreDomain) (options : List (List Score)) : Type 0
  where
    pub many : length scopes ≡ length options
    pub each : (k : ℕ) (d : ScoreDomain) → k < length scopes
        → IsScoreDomainOf (slice_index_or scopes k d) (slice_index_or options k [])

-- one list of extremes for each fixture, between which the fixture's options lie
pub record AreAllExtremesOf (corners options : List (List Score)) : Type 0 where
  pub many : length corners ≡ length options
  pub each : (k : ℕ) → k < length corners
      → AreExtremesOf (slice_index_or corners k []) (slice_index_or options k [])

-- the test is of one of so many fixtures, or of a club that a set can have
abbrev pub IsTestWithin : ℕ → Test → Type 0
IsTestWithin fixtures (Home fixture) = fixture < fixtures
IsTestWithin fixtures (Draw fixture) = fixture < fixtures
IsTestWithin fixtures (HomeMost fixture most) = fixture < fixtures
IsTestWithin fixtures (AwayMost fixture most) = fixture < fixtures
IsTestWithin fixtures (Rival club) = club < 32

-- domains of a zone become those of the zone with one literal more
abbrev pub CutsBy : List ScoreDomain → List ScoreDomain → Literal → Type 0
CutsBy old new literal =
    (limit : ℕ) (zone : List Literal) (scores : List (Option Score))
    → AreScoreDomainsOf old (options_from limit zone 0 scores)
    → AreScoreDomainsOf new (options_from limit (zone ++ literal ∷ []) 0 scores)

-- the literal says of the rival that it ranks before the club, or with false that it does not
abbrev pub is_mark : Bool → ℕ → Literal → Bool
is_mark said rival literal = is_of_rival rival literal.test && is_as_said said literal.yes

-- the zone marks the rival so
abbrev pub marked_as : Bool → List Literal → ℕ → Bool
marked_as said zone rival = list_any (is_mark said rival) zone
