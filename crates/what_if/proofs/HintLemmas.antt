-- What is found by walks over the season, and what is known of the season, below a base.
use Rattle.std.proofs.Common.{◌≡◌, ℕ, true, List, []}
use Rattle.league_core.specs.declared.sheet.Sheet.{Sheet}
use Rattle.league_core.specs.declared.question.Question.{Question}
use Rattle.league_core.specs.declared.zone.Literal.{Literal}
use Rattle.league_core.specs.game.Results.{Results}
use Rattle.league_core.specs.game.Questions.{IsExample}
use Rattle.league_core.specs.search.Zones.{are_literals_true}
use Rattle.league_core.specs.search.GivenVerdicts.{HoldsNowhereIn, IsExampleIn}
use Rattle.league_core.proofs.GivenLemmas.{none_at_root, none_anywhere}
use Rattle.what_if.specs.inside.SeasonParts.{IsMemberAnyhow}

-- an example of another season, where it is a finish of this one that makes the literals true
pub found_below : (sheet : Sheet) (season start : Results) (question : Question)
    (base : List Literal) (finish : Results) (lots : List ℕ)
    → IsExample sheet start question finish lots → IsMemberAnyhow sheet season base finish
    → IsExampleIn sheet season question base finish lots
found_below sheet season start question base finish lots example member = record {
  example = record {
    is_finish = member.0;
    is_drawn = example.is_drawn;
    holds = example.holds;
  };
  member = record {
    is_finish = member.0;
    is_drawn = example.is_drawn;
    literals = member.1 question.club lots;
  };
}

-- an example of the season that makes the literals true
pub example_below : (sheet : Sheet) (season : Results) (question : Question)
    (base : List Literal) (finish : Results) (lots : List ℕ)
    → IsExample sheet season question finish lots
    → are_literals_true sheet question.club finish lots base ≡ true
    → IsExampleIn sheet season question base finish lots
example_below sheet season question base finish lots example literals = record {
  example = example;
  member = record {
    is_finish = example.is_finish;
    is_drawn = example.is_drawn;
    literals = literals;
  };
}

-- what holds nowhere in the season holds nowhere in a base
pub nowhere_below : (sheet : Sheet) (season : Results) (question : Question)
    (base : List Literal) → HoldsNowhereIn sheet season question []
    → HoldsNowhereIn sheet season question base
nowhere_below sheet season question base nowhere =
    none_anywhere sheet season question base (none_at_root sheet season question nowhere)
