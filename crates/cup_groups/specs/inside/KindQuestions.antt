-- A question about a club of a group, as the code keeps it.
use Rattle.std.specs.Prelude.{ℤ, List, []}
use Rattle.club_keys.specs.inside.KeyEnds.{key_parts}
use Rattle.cup_sheet.specs.declared.question.GroupKind.{GroupKind}
use Rattle.cup_sheet.specs.declared.question.GroupKind.TheVariants.{Top, Below, SecondLess}
use Rattle.cup_sheet.specs.declared.question.GroupKind.TheVariants.{SecondAtLeast, SecondMore}
use Rattle.cup_sheet.specs.declared.question.GroupKind.TheVariants.{SecondAtMost}
use Rattle.cup_sheet.specs.GroupQuestions.{GroupQuestion}
use Rattle.cup_groups.specs.declared.question.KindQuestion.{KindQuestion}

-- the key that is asked about; a kind about the place alone has none
abbrev pub asked_key : GroupKind → List ℤ → List ℤ
asked_key Top key = []
asked_key Below key = []
asked_key SecondLess key = key
asked_key SecondAtLeast key = key
asked_key SecondMore key = key
asked_key SecondAtMost key = key

-- what is asked
abbrev pub group_question_of : KindQuestion → GroupQuestion
group_question_of asked = record {
  kind = asked.kind;
  club = asked.club;
  key = asked_key asked.kind (key_parts asked.key);
}
