-- The outcome of a score.
use Rattle.std.specs.Prelude.{◌≡◌, true, Option, Some, None}
use Rattle.league_core.specs.declared.season.Score.{Score}
use Rattle.league_core.specs.search.Options.{is_home_win, is_draw, is_away_win}
use Rattle.example_finish.specs.declared.outcome.Outcome.{Outcome}
use Rattle.example_finish.specs.declared.outcome.Outcome.TheVariants.{HomeWin, Draw, AwayWin}

-- the score has this outcome
abbrev pub IsOutcomeOf : Outcome → Score → Type 0
IsOutcomeOf HomeWin score = is_home_win score ≡ true
IsOutcomeOf Draw score = is_draw score ≡ true
IsOutcomeOf AwayWin score = is_away_win score ≡ true

-- there is a score, and it has this outcome
abbrev pub HasOutcome : Option Score → Outcome → Type 0
HasOutcome None outcome = ⊥
HasOutcome (Some score) outcome = IsOutcomeOf outcome score
