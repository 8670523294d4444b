-- The tests of the way stay those of the question.
use Rattle.std.proofs.Common.{◌≡◌, ◌∙◌, true, subst, sym}
use Rattle.league_core.specs.declared.sheet.Sheet.{Sheet}
use Rattle.league_core.specs.search.Zones.{is_zone_of}
use Rattle.cup_groups.specs.inside.KindQuestions.{group_question_of}
use Rattle.cup_grammar.specs.PlacedGroups.{is_group_test}
use Rattle.cup_check.proofs.GroupTreeLemmas.{zone_of_way}
use Rattle.cup_check.proofs.place.GroupPlace.leave.Goals as goal

pub next_half-requires : goal.next_half-requires
next_half-requires c =
    let path = c.args.walk.now.path in
    let Of : Sheet → Type 0 = λ sheet. is_zone_of sheet path.zone ≡ true in
    subst Of (sym c.requires.path.inside.sheet)
    (zone_of_way c.args.self.now c.args.wanted path c.requires.path)

pub returns-then-branch-clause-path : goal.returns-then-branch-clause-path
returns-then-branch-clause-path c =
    let next = c.in_ok-next_half.ensures in
    record {
      inside = record {
        sheet = next.same.sheet ∙ c.requires.path.inside.sheet;
        season = next.same.season ∙ c.requires.path.inside.season;
      };
      tests = next.tests (is_group_test c.args.self.now (group_question_of c.args.wanted.question))
          c.requires.path.tests;
    }

pub returns-then-is_tally_whole-clause-path : goal.returns-then-is_tally_whole-clause-path
returns-then-is_tally_whole-clause-path c =
    let next = c.in_ok-next_half.ensures in
    record {
      inside = record {
        sheet = next.same.sheet ∙ c.requires.path.inside.sheet;
        season = next.same.season ∙ c.requires.path.inside.season;
      };
      tests = next.tests (is_group_test c.args.self.now (group_question_of c.args.wanted.question))
          c.requires.path.tests;
    }
