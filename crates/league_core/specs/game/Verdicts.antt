-- The verdict of a season for a club and a line, from scratch: it speaks of every finish and every
-- drawing of lots, and of nothing else.
use Rattle.std.specs.Prelude.{ℕ, List}
use Rattle.league_core.specs.declared.sheet.Sheet.{Sheet}
use Rattle.league_core.specs.declared.question.Claim.TheVariants.{Inside, Outside}
use Rattle.league_core.specs.declared.question.Question.{Question}
use Rattle.league_core.specs.game.Results.{Results}
use Rattle.league_core.specs.game.Questions.{IsExample, full_question}

-- some finish and some lots show it
abbrev pub HasExample : Sheet → Results → Question → Type 0
HasExample sheet season question =
    (finish : Results) × (lots : List ℕ) × IsExample sheet season question finish lots

-- no finish shows it, whatever the lots
abbrev pub HasNoExample : Sheet → Results → Question → Type 0
HasNoExample sheet season question =
    (finish : Results) (lots : List ℕ) → ¬ IsExample sheet season question finish lots

-- no finish leaves the club outside the line, whatever the lots
abbrev pub IsClinched : Sheet → Results → ℕ → ℕ → Type 0
IsClinched sheet season club line = HasNoExample sheet season (full_question club line Outside)

-- no finish takes the club inside the line, whatever the lots
abbrev pub IsLost : Sheet → Results → ℕ → ℕ → Type 0
IsLost sheet season club line = HasNoExample sheet season (full_question club line Inside)

-- some finish and lots take the club inside the line, and some leave it outside
abbrev pub IsPossible : Sheet → Results → ℕ → ℕ → Type 0
IsPossible sheet season club line =
    HasExample sheet season (full_question club line Inside)
    × HasExample sheet season (full_question club line Outside)
