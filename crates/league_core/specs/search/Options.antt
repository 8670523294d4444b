-- The options of a fixture in a zone: the scores with which it may still end there. Literals of
-- rivals take none of them away.
use Rattle.std.specs.Prelude.{◌≡◌, ℕ, suc, ◌+◌, Bool, true, false, not, ◌&&◌, ◌||◌, ◌==◌, nat_lt}
use Rattle.std.specs.Prelude.{IsTrue, List, [], ◌∷◌, map, filter, Option, Some, None}
use Rattle.std.specs.List.{list_all, list_any, flat_map, range_with_len}
use Rattle.league_core.specs.declared.sheet.Sheet.{Sheet}
use Rattle.league_core.specs.declared.season.Score.{Score}
use Rattle.league_core.specs.declared.zone.Literal.{Literal}
use Rattle.league_core.specs.game.Results.{Results}
use Rattle.league_core.specs.game.Finishes.{same_score}
use Rattle.league_core.specs.search.Zones.{passes, is_on, is_as_said}

-- goals of the home side against goals of the away side
abbrev pub score_of : ℕ → ℕ → Score
score_of home away = record { home = home; away = away }

-- all scores with at most so many goals a side
abbrev pub scores_up_to : ℕ → List Score
scores_up_to limit =
    let goals = range_with_len 0 (limit + 1) in
    flat_map (λ home. map (score_of home) goals) goals

-- the scores with which a fixture may end: its own if it was played, all up to the limit otherwise
abbrev pub endings : ℕ → Option Score → List Score
endings limit None = scores_up_to limit
endings limit (Some played) = played ∷ []

-- if the literal is of this fixture, the score makes it true
abbrev pub meets_literal : ℕ → Score → Literal → Bool
meets_literal fixture score literal =
    not (is_on fixture literal.test) || is_as_said literal.yes (passes literal.test score)

-- the score makes all of the zone's literals on this fixture true
abbrev pub meets : List Literal → ℕ → Score → Bool
meets zone fixture score = list_all (meets_literal fixture score) zone

-- the scores with which the fixture may end, and which make the zone's literals on it true
abbrev pub options_of : ℕ → List Literal → ℕ → Option Score → List Score
options_of limit zone fixture played = filter (meets zone fixture) (endings limit played)

-- the options of the fixtures from this number on
abbrev pub options_from : ℕ → List Literal → ℕ → List (Option Score) → List (List Score)
options_from limit zone fixture [] = []
options_from limit zone fixture (played ∷ season) =
    options_of limit zone fixture played ∷ options_from limit zone (suc fixture) season

-- the options of each fixture in a zone of the season, in the order of the sheet
abbrev pub options_in : Sheet → Results → List Literal → List (List Score)
options_in sheet season zone = options_from sheet.goal_limit zone 0 season.scores

-- a score is one of the options
abbrev pub has_score : List Score → Score → Bool
has_score options score = list_any (same_score score) options

-- a fixture ends with one of its options
abbrev pub takes_option : List Score → Option Score → Bool
takes_option options None = false
takes_option options (Some score) = has_score options score

-- each fixture ends with one of its options, and no other fixture ends
abbrev pub take_options : List (List Score) → List (Option Score) → Bool
take_options [] [] = true
take_options [] (ended ∷ finish) = false
take_options (options ∷ more) [] = false
take_options (options ∷ more) (ended ∷ finish) =
    takes_option options ended && take_options more finish

-- a finish in the box of a zone: each of its scores is an option there, whatever the zone's marks
-- say
pub record IsInBox (sheet : Sheet) (season : Results) (zone : List Literal)
    (finish : Results) : Type 0 where
  pub deductions : finish.deductions ≡ season.deductions
  pub scores : IsTrue (take_options (options_in sheet season zone) finish.scores)

-- some score is left
abbrev pub has_option : List Score → Bool
has_option [] = false
has_option (score ∷ options) = true

-- the zone has a finish: no fixture is without an option; marks do not count here
unfoldable pub has_finish : Sheet → Results → List Literal → Bool
has_finish sheet season zone = list_all has_option (options_in sheet season zone)

-- one score alone is left
abbrev pub has_one_score : List Score → Bool
has_one_score [] = false
has_one_score (score ∷ options) = list_all (same_score score) options

-- each fixture has one score left
unfoldable pub is_single : Sheet → Results → List Literal → Bool
is_single sheet season zone = list_all has_one_score (options_in sheet season zone)

-- the home side wins
abbrev pub is_home_win : Score → Bool
is_home_win score = nat_lt score.away score.home

-- the match is drawn
abbrev pub is_draw : Score → Bool
is_draw score = score.home == score.away

-- the away side wins
abbrev pub is_away_win : Score → Bool
is_away_win score = nat_lt score.home score.away

-- both scores are home wins, or draws, or away wins
abbrev pub same_outcome : Score → Score → Bool
same_outcome score other =
    (is_home_win score && is_home_win other) || (is_draw score && is_draw other)
    || (is_away_win score && is_away_win other)

-- the options that are left have one outcome; so have none at all
abbrev pub has_one_outcome : List Score → Bool
has_one_outcome [] = true
has_one_outcome (score ∷ options) = list_all (same_outcome score) options
