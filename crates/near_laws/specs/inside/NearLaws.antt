-- What the near reason says of the members of a zone, by its definition alone: each statement is
-- the contract of a function of src/laws.rt that does nothing.
use Rattle.std.specs.Prelude.{ℕ, ◌<◌, IsTrue, List, length}
use Rattle.league_core.specs.declared.sheet.Sheet.{Sheet}
use Rattle.league_core.specs.declared.question.Question.{Question}
use Rattle.league_core.specs.declared.zone.Literal.{Literal}
use Rattle.league_core.specs.game.Results.{Results}
use Rattle.league_core.specs.game.Questions.{holds_at}
use Rattle.league_core.specs.search.Zones.{IsMember}
use Rattle.near_laws.specs.Near.{has_near_reason}

-- if the near reason holds, the question holds at no member of the zone, whatever the lots
abbrev pub NearReasonsAreSound : Type 0
NearReasonsAreSound =
    (sheet : Sheet) (season : Results) (question : Question) (zone : List Literal) (rival : ℕ)
    (finish : Results) (lots : List ℕ) → question.club < length sheet.clubs
    → IsTrue (has_near_reason sheet season question zone rival)
    → IsMember sheet season question.club zone finish lots
    → ¬ IsTrue (holds_at sheet question finish lots)
