-- Literals and zones: parts of what may still happen, cut out by tests of scores and of who ranks
-- before the club of a question. How a season is split this way is this project's own choice.
use Rattle.std.specs.Prelude.{ℕ, Bool, true, false, not, ◌&&◌, ◌||◌, ◌==◌, nat_lt, nat_le, IsTrue}
use Rattle.std.specs.Prelude.{List, [], ◌∷◌, ◌++◌, length, Option, Some, None, slice_index_or}
use Rattle.std.specs.Prelude.{filter}
use Rattle.std.specs.List.{list_all, list_any, range_with_len}
use Rattle.league_core.specs.declared.sheet.Sheet.{Sheet}
use Rattle.league_core.specs.declared.season.Score.{Score}
use Rattle.league_core.specs.declared.question.Question.{Question}
use Rattle.league_core.specs.declared.zone.Test.{Test}
use Rattle.league_core.specs.declared.zone.Test.TheVariants.{Home, Draw, HomeMost, AwayMost, Rival}
use Rattle.league_core.specs.declared.zone.Literal.{Literal}
use Rattle.league_core.specs.game.Results.{Results}
use Rattle.league_core.specs.game.Finishes.{IsFinishOf}
use Rattle.league_core.specs.game.Ranking.{ranks_before, are_lots}

-- of so many clubs all but the one, in the order of their numbers
abbrev pub others_of : ℕ → ℕ → List ℕ
others_of clubs club = filter (λ other. not (other == club)) (range_with_len 0 clubs)

-- the goals of a score are as the test asks; a test of a rival asks nothing of them
abbrev pub passes : Test → Score → Bool
passes (Home fixture) score = nat_lt score.away score.home
passes (Draw fixture) score = score.home == score.away
passes (HomeMost fixture most) score = nat_le score.home most
passes (AwayMost fixture most) score = nat_le score.away most
passes (Rival club) score = true

-- the test looks at the score of this fixture
abbrev pub is_on : ℕ → Test → Bool
is_on number (Home fixture) = fixture == number
is_on number (Draw fixture) = fixture == number
is_on number (HomeMost fixture most) = fixture == number
is_on number (AwayMost fixture most) = fixture == number
is_on number (Rival club) = false

-- the test looks at a score
abbrev pub is_of_score : Test → Bool
is_of_score (Home fixture) = true
is_of_score (Draw fixture) = true
is_of_score (HomeMost fixture most) = true
is_of_score (AwayMost fixture most) = true
is_of_score (Rival club) = false

-- the test asks whether this rival ranks before the club
abbrev pub is_of_rival : ℕ → Test → Bool
is_of_rival rival (Home fixture) = false
is_of_rival rival (Draw fixture) = false
is_of_rival rival (HomeMost fixture most) = false
is_of_rival rival (AwayMost fixture most) = false
is_of_rival rival (Rival club) = club == rival

-- a fixture that has a score, and the score passes
abbrev pub has_passed : Test → Option Score → Bool
has_passed test None = false
has_passed test (Some score) = passes test score

-- the test is true at a finish with lots, if the question is of this club
abbrev pub is_test_true : Sheet → ℕ → Results → List ℕ → Test → Bool
is_test_true sheet club finish lots (Home fixture) =
    has_passed (Home fixture) (slice_index_or finish.scores fixture None)
is_test_true sheet club finish lots (Draw fixture) =
    has_passed (Draw fixture) (slice_index_or finish.scores fixture None)
is_test_true sheet club finish lots (HomeMost fixture most) =
    has_passed (HomeMost fixture most) (slice_index_or finish.scores fixture None)
is_test_true sheet club finish lots (AwayMost fixture most) =
    has_passed (AwayMost fixture most) (slice_index_or finish.scores fixture None)
is_test_true sheet club finish lots (Rival rival) = ranks_before sheet finish lots rival club

-- with yes the test has to be true, with no it has to be false
abbrev pub is_as_said : Bool → Bool → Bool
is_as_said true passed = passed
is_as_said false passed = not passed

-- the literal is true at a finish with lots
abbrev pub is_literal_true : Sheet → ℕ → Results → List ℕ → Literal → Bool
is_literal_true sheet club finish lots literal =
    is_as_said literal.yes (is_test_true sheet club finish lots literal.test)

-- each literal of the zone is true there
abbrev pub are_literals_true : Sheet → ℕ → Results → List ℕ → List Literal → Bool
are_literals_true sheet club finish lots zone =
    list_all (is_literal_true sheet club finish lots) zone

-- a finish of the season and lots of all clubs are in the zone, for a question of this club
pub record IsMember (sheet : Sheet) (season : Results) (club : ℕ) (zone : List Literal)
    (finish : Results) (lots : List ℕ) : Type 0 where
  pub is_finish : IsFinishOf sheet season finish
  pub is_drawn : IsTrue (are_lots (length sheet.clubs) lots)
  pub literals : IsTrue (are_literals_true sheet club finish lots zone)

-- all clubs but the question's own
abbrev pub rivals_of : Sheet → ℕ → List ℕ
rivals_of sheet club = others_of (length sheet.clubs) club

-- the zone has a yes literal of the rival: it ranks before the club
abbrev pub marked_before : List Literal → ℕ → Bool
marked_before zone rival =
    list_any (λ literal. is_of_rival rival literal.test && literal.yes) zone

-- the zone has a no literal of the rival: it does not
abbrev pub marked_after : List Literal → ℕ → Bool
marked_after zone rival =
    list_any (λ literal. is_of_rival rival literal.test && not literal.yes) zone

-- the zone says something of the rival
abbrev pub is_marked : List Literal → ℕ → Bool
is_marked zone rival = marked_before zone rival || marked_after zone rival

-- the zone with one literal more, at its end
abbrev pub with_test : List Literal → Test → Bool → List Literal
with_test zone test holds = zone ++ record { test = test; yes = holds } ∷ []

-- a test of one of the sheet's fixtures or clubs
abbrev pub is_test_of : Sheet → Test → Bool
is_test_of sheet (Home fixture) = nat_lt fixture (length sheet.fixtures)
is_test_of sheet (Draw fixture) = nat_lt fixture (length sheet.fixtures)
is_test_of sheet (HomeMost fixture most) = nat_lt fixture (length sheet.fixtures)
is_test_of sheet (AwayMost fixture most) = nat_lt fixture (length sheet.fixtures)
is_test_of sheet (Rival club) = nat_lt club (length sheet.clubs)

-- the zone names fixtures and clubs of the sheet alone
abbrev pub is_zone_of : Sheet → List Literal → Bool
is_zone_of sheet zone = list_all (λ literal. is_test_of sheet literal.test) zone

-- a zone for a question: it names fixtures and clubs of the sheet alone, and not the question's
-- club
pub record IsZoneFor (sheet : Sheet) (question : Question) (zone : List Literal) : Type 0 where
  pub of_sheet : IsTrue (is_zone_of sheet zone)
  pub of_rivals : IsTrue (not (is_marked zone question.club))
