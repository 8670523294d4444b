-- What the three outcomes of one match say together: each statement is the contract of a function
-- of src/outcome_laws.rt that does nothing. They hold of any number of a fixture: of a match that
-- was played, two of the three zones have no members.
use Rattle.std.specs.Prelude.{◌↔◌, ◌⊎◌, ℕ}
use Rattle.league_core.specs.declared.sheet.Sheet.{Sheet}
use Rattle.league_core.specs.declared.question.Question.{Question}
use Rattle.league_core.specs.game.Results.{Results}
use Rattle.league_core.specs.game.Verdicts.{HasExample, HasNoExample, IsClinched, IsLost}
use Rattle.league_core.specs.search.GivenVerdicts.{HasExampleIn, HoldsNowhereIn, IsClinchedGiven}
use Rattle.league_core.specs.search.GivenVerdicts.{IsLostGiven}
use Rattle.league_core.specs.search.OutcomeZones.{home_win_zone, draw_zone, away_win_zone}

-- a question has no example exactly when it has none whichever way the match ends
abbrev pub OutcomesRefute : Type 0
OutcomesRefute =
    (sheet : Sheet) (season : Results) (question : Question) (fixture : ℕ)
    → HasNoExample sheet season question
    ↔ (HoldsNowhereIn sheet season question (home_win_zone fixture)
    × HoldsNowhereIn sheet season question (draw_zone fixture)
    × HoldsNowhereIn sheet season question (away_win_zone fixture))

-- it has an example exactly when it has one with one of the three outcomes
abbrev pub OutcomesShow : Type 0
OutcomesShow =
    (sheet : Sheet) (season : Results) (question : Question) (fixture : ℕ)
    → HasExample sheet season question
    ↔ (HasExampleIn sheet season question (home_win_zone fixture)
    ⊎ HasExampleIn sheet season question (draw_zone fixture)
    ⊎ HasExampleIn sheet season question (away_win_zone fixture))

-- a club has clinched a line exactly when it has whichever way the match ends
abbrev pub ClinchedByOutcomes : Type 0
ClinchedByOutcomes =
    (sheet : Sheet) (season : Results) (club line fixture : ℕ)
    → IsClinched sheet season club line
    ↔ (IsClinchedGiven sheet season (home_win_zone fixture) club line
    × IsClinchedGiven sheet season (draw_zone fixture) club line
    × IsClinchedGiven sheet season (away_win_zone fixture) club line)

-- and has lost it exactly when it has whichever way the match ends
abbrev pub LostByOutcomes : Type 0
LostByOutcomes =
    (sheet : Sheet) (season : Results) (club line fixture : ℕ)
    → IsLost sheet season club line
    ↔ (IsLostGiven sheet season (home_win_zone fixture) club line
    × IsLostGiven sheet season (draw_zone fixture) club line
    × IsLostGiven sheet season (away_win_zone fixture) club line)
