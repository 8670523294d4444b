-- Verdicts given a zone: what the definition of a verdict says of those finishes of a season that
-- lie in the zone, as if it were known of some matches how they end. It speaks of every such finish
-- and of every drawing of lots. In a zone without members each line is both clinched and lost. That
-- verdicts are given in a zone is this project's own choice.
use Rattle.std.specs.Prelude.{ℕ, IsTrue, List}
use Rattle.league_core.specs.declared.sheet.Sheet.{Sheet}
use Rattle.league_core.specs.declared.question.Claim.TheVariants.{Inside, Outside}
use Rattle.league_core.specs.declared.question.Question.{Question}
use Rattle.league_core.specs.declared.zone.Literal.{Literal}
use Rattle.league_core.specs.game.Results.{Results}
use Rattle.league_core.specs.game.Questions.{holds_at, IsExample, full_question}
use Rattle.league_core.specs.search.Zones.{IsMember}

-- an example of the question that is a member of the zone
pub record IsExampleIn (sheet : Sheet) (season : Results) (question : Question)
    (zone : List Literal) (finish : Results) (lots : List ℕ) : Type 0 where
  pub example : IsExample sheet season question finish lots
  pub member : IsMember sheet season question.club zone finish lots

-- some member of the zone shows it
abbrev pub HasExampleIn : Sheet → Results → Question → List Literal → Type 0
HasExampleIn sheet season question zone =
    (finish : Results) × (lots : List ℕ) × IsExampleIn sheet season question zone finish lots

-- the question holds at no member of the zone
abbrev pub HoldsNowhereIn : Sheet → Results → Question → List Literal → Type 0
HoldsNowhereIn sheet season question zone =
    (finish : Results) (lots : List ℕ) → IsMember sheet season question.club zone finish lots
    → ¬ IsTrue (holds_at sheet question finish lots)

-- no member of the zone leaves the club outside the line
abbrev pub IsClinchedGiven : Sheet → Results → List Literal → ℕ → ℕ → Type 0
IsClinchedGiven sheet season zone club line =
    HoldsNowhereIn sheet season (full_question club line Outside) zone

-- no member of the zone takes the club inside the line
abbrev pub IsLostGiven : Sheet → Results → List Literal → ℕ → ℕ → Type 0
IsLostGiven sheet season zone club line =
    HoldsNowhereIn sheet season (full_question club line Inside) zone

-- some member of the zone takes the club inside the line, and some leaves it outside
abbrev pub IsPossibleGiven : Sheet → Results → List Literal → ℕ → ℕ → Type 0
IsPossibleGiven sheet season zone club line =
    HasExampleIn sheet season (full_question club line Inside) zone
    × HasExampleIn sheet season (full_question club line Outside) zone
