-- What a search for a turning key asks.
use Rattle.std.specs.Prelude.{ℕ, ℤ, List}
use Rattle.league_core.specs.declared.question.Claim.{Claim}
use Rattle.cup_sheet.specs.GroupQuestions.{GroupQuestion}
use Rattle.cup_sheet.specs.KeyBounds.{halving_kind, nearer_kind}

-- whether the club can be the candidate with a key no farther out than this
abbrev pub halving_question : Claim → ℕ → List ℤ → GroupQuestion
halving_question claim club key =
    record { kind = halving_kind claim; club = club; key = key }

-- whether it can be with a key that is farther in
abbrev pub nearer_question : Claim → ℕ → List ℤ → GroupQuestion
nearer_question claim club key = record { kind = nearer_kind claim; club = club; key = key }
