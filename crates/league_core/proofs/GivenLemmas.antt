-- Verdicts given a zone: if no literal is asked for they are those of the season, and no zone has
-- an example that the season has not.
use Rattle.std.proofs.Common.{ℕ, List, [], refl}
use Rattle.std.specs.Prelude.{◌↔◌}
use Rattle.league_core.specs.declared.sheet.Sheet.{Sheet}
use Rattle.league_core.specs.declared.question.Claim.TheVariants.{Inside, Outside}
use Rattle.league_core.specs.declared.question.Question.{Question}
use Rattle.league_core.specs.declared.zone.Literal.{Literal}
use Rattle.league_core.specs.game.Results.{Results}
use Rattle.league_core.specs.game.Questions.{full_question}
use Rattle.league_core.specs.game.Verdicts.{HasExample, HasNoExample, IsClinched, IsLost}
use Rattle.league_core.specs.game.Verdicts.{IsPossible}
use Rattle.league_core.specs.search.GivenVerdicts.{IsExampleIn, HasExampleIn, HoldsNowhereIn}
use Rattle.league_core.specs.search.GivenVerdicts.{IsClinchedGiven, IsLostGiven, IsPossibleGiven}

-- a question that holds nowhere in the zone without a literal has no example
pub none_at_root : (sheet : Sheet) (season : Results) (question : Question)
    → HoldsNowhereIn sheet season question [] → HasNoExample sheet season question
none_at_root sheet season question nowhere finish lots example =
    nowhere finish lots
    (record { is_finish = example.is_finish; is_drawn = example.is_drawn; literals = refl })
    example.holds

-- a question that has no example holds nowhere in any zone
pub none_anywhere : (sheet : Sheet) (season : Results) (question : Question) (zone : List Literal)
    → HasNoExample sheet season question → HoldsNowhereIn sheet season question zone
none_anywhere sheet season question zone none finish lots member holds =
    none finish lots
    (record { is_finish = member.is_finish; is_drawn = member.is_drawn; holds = holds })

-- a question holds nowhere in a zone exactly when no member of the zone is an example
pub nowhere_without_example : (sheet : Sheet) (season : Results) (question : Question)
    (zone : List Literal) → HoldsNowhereIn sheet season question zone
    ↔ ((finish : Results) (lots : List ℕ)
    → IsExampleIn sheet season question zone finish lots → ⊥)
nowhere_without_example sheet season question zone = (
  λ nowhere finish lots shown. nowhere finish lots shown.member shown.example.holds,
  λ none finish lots member holds.
      none finish lots
      (record {
        example = record {
          is_finish = member.is_finish;
          is_drawn = member.is_drawn;
          holds = holds;
        };
        member = member;
      }),
)

-- an example in a zone is one in the season
pub some_anywhere : (sheet : Sheet) (season : Results) (question : Question) (zone : List Literal)
    → HasExampleIn sheet season question zone → HasExample sheet season question
some_anywhere sheet season question zone has = (has.0, has.1, has.2.example)

-- an example in the season is a member of the zone without a literal
some_at_root : (sheet : Sheet) (season : Results) (question : Question)
    → HasExample sheet season question → HasExampleIn sheet season question []
some_at_root sheet season question has = (
  has.0,
  has.1,
  record {
    example = has.2;
    member = record {
      is_finish = has.2.is_finish;
      is_drawn = has.2.is_drawn;
      literals = refl;
    };
  },
)

pub clinched_at_root : (sheet : Sheet) (season : Results) (club line : ℕ)
    → IsClinchedGiven sheet season [] club line ↔ IsClinched sheet season club line
clinched_at_root sheet season club line = (
  none_at_root sheet season (full_question club line Outside),
  none_anywhere sheet season (full_question club line Outside) [],
)

pub lost_at_root : (sheet : Sheet) (season : Results) (club line : ℕ)
    → IsLostGiven sheet season [] club line ↔ IsLost sheet season club line
lost_at_root sheet season club line = (
  none_at_root sheet season (full_question club line Inside),
  none_anywhere sheet season (full_question club line Inside) [],
)

-- what is possible given a zone is possible in the season
pub possible_anywhere : (sheet : Sheet) (season : Results) (zone : List Literal) (club line : ℕ)
    → IsPossibleGiven sheet season zone club line → IsPossible sheet season club line
possible_anywhere sheet season zone club line both = (
  some_anywhere sheet season (full_question club line Inside) zone both.0,
  some_anywhere sheet season (full_question club line Outside) zone both.1,
)

pub possible_at_root : (sheet : Sheet) (season : Results) (club line : ℕ)
    → IsPossibleGiven sheet season [] club line ↔ IsPossible sheet season club line
possible_at_root sheet season club line = (
  possible_anywhere sheet season [] club line,
  λ both. (
    some_at_root sheet season (full_question club line Inside) both.0,
    some_at_root sheet season (full_question club line Outside) both.1,
  ),
)
