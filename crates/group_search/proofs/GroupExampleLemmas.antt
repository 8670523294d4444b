-- Examples of a question about a group, beside those of what it asks of a place.
use Rattle.std.proofs.Common.{◌≡◌, ◌≢◌, ℕ, ◌+◌, true, false, not, ◌==◌, nat_lt, nat_le}
use Rattle.std.proofs.Common.{ℤ, List, length, refl, arith}
use Rattle.std.proofs.lemmas.Bool.{false≢true, true≢false, and_parts, and_from, eq-eqb, eqb-true}
use Rattle.std.proofs.lemmas.Bool.{ltb-true, lt-ltb, le-leb, lt-leb, leb-false, not-true}
use Rattle.std.proofs.lemmas.Bool.{not_from_false}
use Rattle.league_core.specs.declared.sheet.Sheet.{Sheet}
use Rattle.league_core.specs.declared.question.Claim.TheVariants.{Inside, Outside}
use Rattle.league_core.specs.declared.question.Question.{Question}
use Rattle.league_core.specs.declared.zone.Literal.{Literal}
use Rattle.league_core.specs.game.Results.{Results, are_results}
use Rattle.league_core.specs.game.Seasons.{IsLeague, IsSeasonOf}
use Rattle.league_core.specs.game.Sheets.{IsWithinLimits}
use Rattle.league_core.specs.game.Sums.{points_of}
use Rattle.league_core.specs.game.Finishes.{IsFinishOf}
use Rattle.league_core.specs.game.Ranking.{are_lots, place_of}
use Rattle.league_core.specs.game.Questions.{IsExample, holds_at, is_in_window}
use Rattle.league_core.specs.search.Keys.{key_of}
use Rattle.league_core.specs.search.Options.{has_finish}
use Rattle.league_core.specs.search.Proposals.{proposed_finish}
use Rattle.league_core.proofs.FinishLemmas.{finish_is_of}
use Rattle.league_core.proofs.OneVerdictLemmas.{finish_example}
use Rattle.league_core.proofs.ProposalLemmas.{proposed_is_finish}
use Rattle.branch_rules.specs.inside.Found.{is_proposed_example}
use Rattle.branch_rules.proofs.FoundLemmas.{proposed_in_vain}
use Rattle.cup_sheet.specs.declared.question.GroupKind.{GroupKind}
use Rattle.cup_sheet.specs.declared.question.GroupKind.TheVariants.{Top, Below, SecondLess}
use Rattle.cup_sheet.specs.declared.question.GroupKind.TheVariants.{SecondAtLeast, SecondMore}
use Rattle.cup_sheet.specs.declared.question.GroupKind.TheVariants.{SecondAtMost}
use Rattle.cup_sheet.specs.CupLimits.{direct_places}
use Rattle.cup_sheet.specs.GroupQuestions.{GroupQuestion, IsGroupExample, is_place_asked}
use Rattle.cup_sheet.specs.GroupQuestions.{is_key_on_side, is_of_place, holds_in_group}
use Rattle.cup_sheet.specs.GroupQuestions.{place_question, direct_question}
use Rattle.cup_sheet.specs.GroupQuestions.{below_question}
use Rattle.cup_sheet.specs.GroupTrees.{proposed_in_group}
use Rattle.group_search.specs.inside.GroupLooks.{IsVainInGroup}

-- ---- places and sides of a line

-- below a line is outside it
below_is_outside : (place line : ℕ) → nat_lt line place ≡ true → not (nat_le place line) ≡ true
below_is_outside place line below =
    not_from_false (nat_le place line)
    (lt-leb place line (omega (arith, ltb-true line place below)))

outside_is_below : (place line : ℕ) → not (nat_le place line) ≡ true → nat_lt line place ≡ true
outside_is_below place line outside =
    lt-ltb line place
    (omega (arith, leb-false place line (not-true (nat_le place line) outside)))

at_line_is_inside : (place line : ℕ) → (place == line) ≡ true → nat_le place line ≡ true
at_line_is_inside place line same = le-leb place line (omega (arith, eqb-true place line same))

-- a candidate is at the place after the direct ones
pub place_of_candidate : (direct : ℕ) (kind : GroupKind) (place : ℕ) → is_of_place kind ≡ false
    → is_place_asked direct kind place ≡ true → place ≡ direct + 1
place_of_candidate direct Top place other asked = absurd (true≢false other)
place_of_candidate direct Below place other asked = absurd (true≢false other)
place_of_candidate direct SecondLess place other asked = eqb-true place (direct + 1) asked
place_of_candidate direct SecondAtLeast place other asked = eqb-true place (direct + 1) asked
place_of_candidate direct SecondMore place other asked = eqb-true place (direct + 1) asked
place_of_candidate direct SecondAtMost place other asked = eqb-true place (direct + 1) asked

candidate_is_asked : (direct : ℕ) (kind : GroupKind) (place : ℕ) → is_of_place kind ≡ false
    → place ≡ direct + 1 → is_place_asked direct kind place ≡ true
candidate_is_asked direct Top place other at = absurd (true≢false other)
candidate_is_asked direct Below place other at = absurd (true≢false other)
candidate_is_asked direct SecondLess place other at = eq-eqb place (direct + 1) at
candidate_is_asked direct SecondAtLeast place other at = eq-eqb place (direct + 1) at
candidate_is_asked direct SecondMore place other at = eq-eqb place (direct + 1) at
candidate_is_asked direct SecondAtMost place other at = eq-eqb place (direct + 1) at

-- the question of the table is about the same club
pub place_question-club : (direct : ℕ) (kind : GroupKind) (club : ℕ)
    → (place_question direct kind club).club ≡ club
place_question-club direct Top club = refl
place_question-club direct Below club = refl
place_question-club direct SecondLess club = refl
place_question-club direct SecondAtLeast club = refl
place_question-club direct SecondMore club = refl
place_question-club direct SecondAtMost club = refl

-- ---- examples

-- what holds of the place
place_part : (direct : ℕ) (sheet : Sheet) (question : GroupQuestion) (finish : Results)
    (lots : List ℕ) → holds_in_group direct sheet question finish lots ≡ true
    → is_place_asked direct question.kind (place_of sheet finish lots question.club) ≡ true
place_part direct sheet question finish lots holds =
    (and_parts (is_place_asked direct question.kind (place_of sheet finish lots question.club))
    (is_key_on_side question.kind question.key (key_of sheet finish question.club)) holds).0

module _ (direct : ℕ) (sheet : Sheet) (season finish : Results) (lots : List ℕ) where
  place_is_example : (kind : GroupKind) (club : ℕ) → IsWithinLimits sheet
      → are_results season ≡ true → IsFinishOf sheet season finish
      → are_lots (length sheet.clubs) lots ≡ true
      → is_place_asked direct kind (place_of sheet finish lots club) ≡ true
      → IsExample sheet season (place_question direct kind club) finish lots
  place_is_example Top club limits results is drawn asked =
      finish_example sheet season finish lots club direct Inside limits results is drawn asked
  place_is_example Below club limits results is drawn asked =
      finish_example sheet season finish lots club (direct + 1) Outside limits results is drawn
      (below_is_outside (place_of sheet finish lots club) (direct + 1) asked)
  place_is_example SecondLess club limits results is drawn asked =
      finish_example sheet season finish lots club (direct + 1) Inside limits results is drawn
      (at_line_is_inside (place_of sheet finish lots club) (direct + 1) asked)
  place_is_example SecondAtLeast club limits results is drawn asked =
      finish_example sheet season finish lots club (direct + 1) Inside limits results is drawn
      (at_line_is_inside (place_of sheet finish lots club) (direct + 1) asked)
  place_is_example SecondMore club limits results is drawn asked =
      finish_example sheet season finish lots club (direct + 1) Inside limits results is drawn
      (at_line_is_inside (place_of sheet finish lots club) (direct + 1) asked)
  place_is_example SecondAtMost club limits results is drawn asked =
      finish_example sheet season finish lots club (direct + 1) Inside limits results is drawn
      (at_line_is_inside (place_of sheet finish lots club) (direct + 1) asked)

  -- an example of the question is one of what it asks of the place
  pub group_is_example : (question : GroupQuestion) → IsWithinLimits sheet
      → are_results season ≡ true → IsGroupExample direct sheet season question finish lots
      → IsExample sheet season (place_question direct question.kind question.club) finish lots
  group_is_example question limits results example =
      place_is_example question.kind question.club limits results example.is_finish
      example.is_drawn (place_part direct sheet question finish lots example.holds)

  place_holds : (kind : GroupKind) (club : ℕ) (bound : List ℤ) → is_of_place kind ≡ true
      → holds_at sheet (place_question direct kind club) finish lots ≡ true
      → holds_in_group direct sheet (record { kind = kind; club = club; key = bound }) finish lots
      ≡ true
  place_holds Top club bound of_place holds =
      and_from (nat_le (place_of sheet finish lots club) direct) true
      (and_parts (is_in_window (direct_question direct club) (points_of sheet finish club))
      (nat_le (place_of sheet finish lots club) direct) holds).1 refl
  place_holds Below club bound of_place holds =
      and_from (nat_lt (direct + 1) (place_of sheet finish lots club)) true
      (outside_is_below (place_of sheet finish lots club) (direct + 1)
      (and_parts (is_in_window (below_question direct club) (points_of sheet finish club))
      (not (nat_le (place_of sheet finish lots club) (direct + 1))) holds).1) refl
  place_holds SecondLess club bound of_place holds = absurd (false≢true of_place)
  place_holds SecondAtLeast club bound of_place holds = absurd (false≢true of_place)
  place_holds SecondMore club bound of_place holds = absurd (false≢true of_place)
  place_holds SecondAtMost club bound of_place holds = absurd (false≢true of_place)

  -- of a kind about the place alone, also the other way round
  pub place_is_group_example : (question : GroupQuestion) → is_of_place question.kind ≡ true
      → IsExample sheet season (place_question direct question.kind question.club) finish lots
      → IsGroupExample direct sheet season question finish lots
  place_is_group_example question of_place example = record {
    is_finish = example.is_finish;
    is_drawn = example.is_drawn;
    holds = place_holds question.kind question.club question.key of_place example.holds;
  }

  -- of any other kind, an example is a finish with the club as the candidate and its key on the
  -- side that is asked for
  pub candidate_example : (question : GroupQuestion) → is_of_place question.kind ≡ false
      → IsFinishOf sheet season finish → are_lots (length sheet.clubs) lots ≡ true
      → place_of sheet finish lots question.club ≡ direct + 1
      → is_key_on_side question.kind question.key (key_of sheet finish question.club) ≡ true
      → IsGroupExample direct sheet season question finish lots
  candidate_example question of_candidate is drawn at on_side = record {
    is_finish = is;
    is_drawn = drawn;
    holds = and_from
        (is_place_asked direct question.kind (place_of sheet finish lots question.club))
        (is_key_on_side question.kind question.key (key_of sheet finish question.club))
        (candidate_is_asked direct question.kind (place_of sheet finish lots question.club)
        of_candidate at)
        on_side;
  }

-- ---- no example

module _ (sheet : Sheet) (season : Results) (question : GroupQuestion) (zone : List Literal) where
  -- if the proposed finish is no example of what is asked of the place, it is none
  pub vain_by_place : IsWithinLimits sheet → are_results season ≡ true
      → is_proposed_example sheet season
      (place_question direct_places question.kind question.club) zone ≡ false
      → IsVainInGroup sheet season question zone
  vain_by_place limits results never = λ lots example.
      proposed_in_vain sheet season (place_question direct_places question.kind question.club)
      zone never lots
      (group_is_example direct_places sheet season
      (proposed_in_group direct_places sheet season question zone) lots question limits results
      example)

  -- nor if no lots leave the club there as the candidate
  pub vain_by_lots : is_of_place question.kind ≡ false
      → ((lots : List ℕ) → are_lots (length sheet.clubs) lots ≡ true
      → place_of sheet (proposed_in_group direct_places sheet season question zone) lots
      question.club ≢ direct_places + 1)
      → IsVainInGroup sheet season question zone
  vain_by_lots of_candidate none = λ lots example.
      let proposed = proposed_in_group direct_places sheet season question zone in
      none lots example.is_drawn
      (place_of_candidate direct_places question.kind (place_of sheet proposed lots question.club)
      of_candidate (place_part direct_places sheet question proposed lots example.holds))

-- a sheet with the proposed finish as its season
pub proposed_league : (sheet : Sheet) (season : Results) (question : Question)
    (zone : List Literal) → IsWithinLimits sheet → IsSeasonOf sheet season
    → has_finish sheet season zone ≡ true
    → IsLeague sheet (proposed_finish sheet season question zone)
proposed_league sheet season question zone limits of_sheet some = record {
  limits = limits;
  of_sheet = finish_is_of sheet season (proposed_finish sheet season question zone) of_sheet
      (proposed_is_finish sheet season question zone of_sheet some);
}
