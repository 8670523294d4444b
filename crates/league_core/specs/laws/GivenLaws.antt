-- What holds of verdicts given a zone by the definitions alone: each statement is the contract of a
-- function of src/given_laws.rt that does nothing.
use Rattle.std.specs.Prelude.{◌↔◌, ℕ, List, []}
use Rattle.league_core.specs.declared.sheet.Sheet.{Sheet}
use Rattle.league_core.specs.declared.question.Question.{Question}
use Rattle.league_core.specs.declared.zone.Literal.{Literal}
use Rattle.league_core.specs.game.Results.{Results}
use Rattle.league_core.specs.game.Verdicts.{HasNoExample, IsClinched, IsLost, IsPossible}
use Rattle.league_core.specs.search.GivenVerdicts.{IsExampleIn, HoldsNowhereIn, IsClinchedGiven}
use Rattle.league_core.specs.search.GivenVerdicts.{IsLostGiven, IsPossibleGiven}

-- if no literal is asked for, a club has clinched a line exactly when it has in the season
abbrev pub ClinchedGivenNothing : Type 0
ClinchedGivenNothing =
    (sheet : Sheet) (season : Results) (club line : ℕ)
    → IsClinchedGiven sheet season [] club line ↔ IsClinched sheet season club line

-- it has lost it exactly when it has in the season
abbrev pub LostGivenNothing : Type 0
LostGivenNothing =
    (sheet : Sheet) (season : Results) (club line : ℕ)
    → IsLostGiven sheet season [] club line ↔ IsLost sheet season club line

-- and it is possible exactly when it is in the season
abbrev pub PossibleGivenNothing : Type 0
PossibleGivenNothing =
    (sheet : Sheet) (season : Results) (club line : ℕ)
    → IsPossibleGiven sheet season [] club line ↔ IsPossible sheet season club line

-- a question holds nowhere in a zone exactly when none of its examples is a member of the zone
abbrev pub NowhereIsWithoutExample : Type 0
NowhereIsWithoutExample =
    (sheet : Sheet) (season : Results) (question : Question) (zone : List Literal)
    → HoldsNowhereIn sheet season question zone
    ↔ ((finish : Results) (lots : List ℕ)
    → ¬ IsExampleIn sheet season question zone finish lots)

-- a question that has no example in the season holds nowhere in any zone: what is clinched or lost
-- stays so, whatever becomes known
abbrev pub SettledVerdictsStay : Type 0
SettledVerdictsStay =
    (sheet : Sheet) (season : Results) (question : Question) (zone : List Literal)
    → HasNoExample sheet season question → HoldsNowhereIn sheet season question zone

-- what is possible given a zone is possible in the season
abbrev pub PossibleGivenIsPossible : Type 0
PossibleGivenIsPossible =
    (sheet : Sheet) (season : Results) (zone : List Literal) (club line : ℕ)
    → IsPossibleGiven sheet season zone club line → IsPossible sheet season club line
