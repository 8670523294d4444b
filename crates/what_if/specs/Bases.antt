-- The zones in which it is known how one match ends, by the word for its outcome; and bases, which
-- say something of scores alone. That verdicts are asked for in such zones is this project's own
-- choice.
use Rattle.std.specs.Prelude.{ℕ, Bool, ◌&&◌, List}
use Rattle.std.specs.List.{list_all}
use Rattle.league_core.specs.declared.sheet.Sheet.{Sheet}
use Rattle.league_core.specs.declared.zone.Literal.{Literal}
use Rattle.league_core.specs.search.Zones.{is_of_score, is_test_of}
use Rattle.league_core.specs.search.OutcomeZones.{home_win_zone, draw_zone, away_win_zone}
use Rattle.what_if.specs.declared.outcome.Outcome.{Outcome}
use Rattle.what_if.specs.declared.outcome.Outcome.TheVariants.{Home, Draw, Away}

-- the match ends so: the home side wins it; it is drawn; or neither is so, and the away side wins
abbrev pub base_of : ℕ → Outcome → List Literal
base_of fixture Home = home_win_zone fixture
base_of fixture Draw = draw_zone fixture
base_of fixture Away = away_win_zone fixture

-- a literal on the score of one of the sheet's fixtures
abbrev pub is_on_a_score : Sheet → Literal → Bool
is_on_a_score sheet literal = is_of_score literal.test && is_test_of sheet literal.test

-- a base asks something of scores of the sheet's fixtures, and nothing of rivals
abbrev pub is_base_of : Sheet → List Literal → Bool
is_base_of sheet zone = list_all (is_on_a_score sheet) zone
