-- What is known of questions in the season, before anything is asked of a match, and what is found
-- below a base beside the search.
use Rattle.std.specs.Prelude.{ℕ, All, IsTrue, List, [], Option, IfSome}
use Rattle.league_core.specs.declared.sheet.Sheet.{Sheet}
use Rattle.league_core.specs.declared.question.Question.{Question}
use Rattle.league_core.specs.declared.zone.Literal.{Literal}
use Rattle.league_core.specs.game.Finishes.{IsFinishOf}
use Rattle.league_core.specs.game.Results.{Results}
use Rattle.league_core.specs.game.Questions.{IsExample}
use Rattle.league_core.specs.search.GivenVerdicts.{HoldsNowhereIn, IsExampleIn}
use Rattle.league_core.specs.search.Zones.{are_literals_true}
use Rattle.tree_arena.specs.declared.example.Example.{Example}
use Rattle.what_if.specs.declared.season_part.InSeason.{InSeason}
use Rattle.what_if.specs.declared.season_part.InSeason.TheVariants.{Nowhere, Met, Open}
use Rattle.what_if.specs.declared.season_part.SeasonPart.{SeasonPart}

-- what is known of a question in the season is true of it
abbrev pub IsInSeason : Sheet → Results → Question → InSeason → Type 0
IsInSeason sheet season question Nowhere = HoldsNowhereIn sheet season question []
IsInSeason sheet season question (Met example) =
    IsExample sheet season question example.finish example.lots
IsInSeason sheet season question Open = Unit {0}

-- it is true of the question that it stands beside
abbrev pub IsTruePart : Sheet → Results → SeasonPart → Type 0
IsTruePart sheet season part = IsInSeason sheet season part.question part.known

-- each of them is
abbrev pub AreTrueParts : Sheet → Results → List SeasonPart → Type 0
AreTrueParts sheet season parts = All (IsTruePart sheet season) parts

-- what is found is an example of the question that is a member of the base
abbrev pub IsFoundBelow : Sheet → Results → Question → List Literal → Option Example → Type 0
IsFoundBelow sheet season question base found =
    IfSome found (λ example.
    IsExampleIn sheet season question base example.finish example.lots)

-- a finish of the season at which the literals of the base are true, whatever the lots
abbrev pub IsMemberAnyhow : Sheet → Results → List Literal → Results → Type 0
IsMemberAnyhow sheet season base finish =
    IsFinishOf sheet season finish
    × ((club : ℕ) (lots : List ℕ) → IsTrue (are_literals_true sheet club finish lots base))
