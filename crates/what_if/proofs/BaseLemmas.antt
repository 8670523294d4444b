-- Bases: each is a zone for any question, and a finish in the box of a base makes its literals
-- true.
use Rattle.std.proofs.Common.{◌≡◌, ℕ, zero, suc, ◌+◌, ◌<◌, true, false, not, ◌&&◌, ◌||◌, nat_lt}
use Rattle.std.proofs.Common.{List, [], ◌∷◌, ◌++◌, length, get_or, Option, Some, None, refl, sym}
use Rattle.std.proofs.Common.{ap, ◌∙◌, arith}
use Rattle.std.proofs.lemmas.Bool.{false≢true, and_parts, and_from, eq-eqb, ltb-true, lt-ltb}
use Rattle.league_core.specs.declared.sheet.Sheet.{Sheet}
use Rattle.league_core.specs.declared.season.Score.{Score}
use Rattle.league_core.specs.declared.question.Question.{Question}
use Rattle.league_core.specs.declared.zone.Test.{Test}
use Rattle.league_core.specs.declared.zone.Test.TheVariants.{Home, Draw, HomeMost, AwayMost, Rival}
use Rattle.league_core.specs.declared.zone.Literal.{Literal}
use Rattle.league_core.specs.game.Results.{Results}
use Rattle.league_core.specs.game.Seasons.{IsSeasonOf}
use Rattle.league_core.specs.game.Finishes.{may_end}
use Rattle.league_core.specs.search.Zones.{passes, is_on, is_of_score, is_of_rival, has_passed}
use Rattle.league_core.specs.search.Zones.{is_as_said, is_test_true, is_literal_true}
use Rattle.league_core.specs.search.Zones.{are_literals_true, is_test_of, marked_before}
use Rattle.league_core.specs.search.Zones.{marked_after, IsZoneFor}
use Rattle.league_core.specs.search.Options.{meets_literal, meets, options_of, options_from}
use Rattle.league_core.specs.search.Options.{take_options, IsInBox, has_finish, has_score}
use Rattle.league_core.specs.search.Proposals.{proposed_finish}
use Rattle.league_core.proofs.OptionLemmas.{has_score-options_of}
use Rattle.league_core.proofs.ProposalLemmas.{proposed_in_box}
use Rattle.cert_text.proofs.TreeRangeLemmas.{is_rival_in_range, are_rivals_in_range}
use Rattle.answer_laws.proofs.BoxPrefixLemmas.{box_prefix}
use Rattle.what_if.specs.declared.outcome.Outcome.{Outcome}
use Rattle.what_if.specs.declared.outcome.Outcome.TheVariants as outcome
use Rattle.what_if.specs.Bases.{base_of, is_on_a_score, is_base_of}
use Rattle.league_core.proofs.plain.Lists.{list_all-weaker}

-- ---- the outcomes of a match

fixture_named : (sheet : Sheet) (fixture : ℕ) → fixture < length sheet.fixtures
    → nat_lt fixture (length sheet.fixtures) ≡ true
fixture_named sheet fixture within = lt-ltb fixture (length sheet.fixtures) within

-- each of them is a base
pub outcome_is_base : (sheet : Sheet) (fixture : ℕ) (how : Outcome)
    → fixture < length sheet.fixtures → is_base_of sheet (base_of fixture how) ≡ true
outcome_is_base sheet fixture outcome.Home within =
    and_from (nat_lt fixture (length sheet.fixtures)) true (fixture_named sheet fixture within) refl
outcome_is_base sheet fixture outcome.Draw within =
    and_from (nat_lt fixture (length sheet.fixtures)) true (fixture_named sheet fixture within) refl
outcome_is_base sheet fixture outcome.Away within =
    let there = fixture_named sheet fixture within in
    and_from (nat_lt fixture (length sheet.fixtures))
    (nat_lt fixture (length sheet.fixtures) && true) there
    (and_from (nat_lt fixture (length sheet.fixtures)) true there refl)

-- ---- a base is a zone for each question

-- what is on a score marks no rival
no_mark : (rival : ℕ) (test : Test) → is_of_score test ≡ true → is_of_rival rival test ≡ false
no_mark rival (Home fixture) is = refl
no_mark rival (Draw fixture) is = refl
no_mark rival (HomeMost fixture most) is = refl
no_mark rival (AwayMost fixture most) is = refl
no_mark rival (Rival club) is = absurd (false≢true is)

none_marked : (sheet : Sheet) (base : List Literal) (rival : ℕ) → is_base_of sheet base ≡ true
    → (marked_before base rival ≡ false) × (marked_after base rival ≡ false)
none_marked sheet [] rival of_base = (refl, refl)
none_marked sheet (literal ∷ base) rival of_base =
    let parts = and_parts (is_on_a_score sheet literal) (is_base_of sheet base) of_base in
    let on = (and_parts (is_of_score literal.test) (is_test_of sheet literal.test) parts.0).0 in
    let other = no_mark rival literal.test on in
    let rest = none_marked sheet base rival parts.1 in (
      ap (λ b. (b && literal.yes) || marked_before base rival) other ∙ rest.0,
      ap (λ b. (b && not literal.yes) || marked_after base rival) other ∙ rest.1,
    )

pub base_for : (sheet : Sheet) (question : Question) (base : List Literal)
    → is_base_of sheet base ≡ true → IsZoneFor sheet question base
base_for sheet question base of_base =
    let none = none_marked sheet base question.club of_base in
    record {
      of_sheet = list_all-weaker (is_on_a_score sheet) (λ literal. is_test_of sheet literal.test)
          base (λ literal both. (and_parts (is_of_score literal.test)
          (is_test_of sheet literal.test) both).1) of_base;
      of_rivals = ap (λ b. not (b || marked_after base question.club)) none.0
          ∙ ap not none.1;
    }

-- and names no rival at all
unnamed : (test : Test) → is_of_score test ≡ true → is_rival_in_range test ≡ true
unnamed (Home fixture) is = refl
unnamed (Draw fixture) is = refl
unnamed (HomeMost fixture most) is = refl
unnamed (AwayMost fixture most) is = refl
unnamed (Rival club) is = absurd (false≢true is)

pub no_rival_named : (sheet : Sheet) (base : List Literal) → is_base_of sheet base ≡ true
    → are_rivals_in_range base ≡ true
no_rival_named sheet base of_base =
    list_all-weaker (is_on_a_score sheet) (λ literal. is_rival_in_range literal.test) base
    (λ literal both. unnamed literal.test
    (and_parts (is_of_score literal.test) (is_test_of sheet literal.test) both).0) of_base

-- ---- a finish in the box makes the literals true

-- the score that a fixture takes meets the zone
record Takes (zone : List Literal) (scores : List (Option Score)) (fixture k : ℕ) : Type 0 where
  score : Score
  at : get_or scores k None ≡ Some score
  met : meets zone fixture score ≡ true

takes_at : (limit : ℕ) (zone : List Literal) (fixture : ℕ) (season scores : List (Option Score))
    (k : ℕ) → take_options (options_from limit zone fixture season) scores ≡ true
    → k < length season → Takes zone scores (fixture + k) k
takes_at limit zone fixture [] scores k takes within = absurd (omega (arith, within))
takes_at limit zone fixture (played ∷ season) [] k takes within = absurd (false≢true takes)
takes_at limit zone fixture (played ∷ season) (None ∷ scores) k takes within = absurd
    (false≢true takes)
takes_at limit zone fixture (played ∷ season) (Some score ∷ scores) zero takes within =
    let first = (and_parts (has_score (options_of limit zone fixture played) score)
    (take_options (options_from limit zone (suc fixture) season) scores) takes).0 in
    let same : fixture ≡ fixture + 0 = omega arith in
    record {
      score = score;
      at = refl;
      met = ap (λ f. meets zone f score) (sym same)
          ∙ (and_parts (meets zone fixture score) (may_end limit played (Some score))
          (sym (has_score-options_of limit zone fixture played score) ∙ first)).0;
    }
takes_at limit zone fixture (played ∷ season) (Some score ∷ scores) (suc k) takes within =
    let rest = (and_parts (has_score (options_of limit zone fixture played) score)
    (take_options (options_from limit zone (suc fixture) season) scores) takes).1 in
    let deeper = takes_at limit zone (suc fixture) season scores k rest (omega (arith, within)) in
    let same : suc fixture + k ≡ fixture + suc k = omega arith in
    record {
      score = deeper.score;
      at = deeper.at;
      met = ap (λ f. meets zone f deeper.score) (sym same) ∙ deeper.met;
    }

-- a literal on a fixture is true where the fixture's score meets it
literal_true : (sheet : Sheet) (club : ℕ) (finish : Results) (lots : List ℕ) (literal : Literal)
    → is_on_a_score sheet literal ≡ true
    → ((fixture : ℕ) → fixture < length sheet.fixtures
    → (score : Score) × (get_or finish.scores fixture None ≡ Some score)
    × (meets_literal fixture score literal ≡ true))
    → is_literal_true sheet club finish lots literal ≡ true
literal_true sheet club finish lots literal on_score met = by_test literal.test refl
  where
    -- for a test of this fixture
    of_fixture : (test : Test) (fixture : ℕ) → literal.test ≡ test → is_on fixture test ≡ true
        → (is_test_true sheet club finish lots test
        ≡ has_passed test (get_or finish.scores fixture None))
        → nat_lt fixture (length sheet.fixtures) ≡ true
        → is_literal_true sheet club finish lots literal ≡ true
    of_fixture test fixture is on truth within =
        let found = met fixture (ltb-true fixture (length sheet.fixtures) within) in
        let said_so : is_as_said literal.yes (passes test found.0) ≡ true =
        ap (λ b. not b || is_as_said literal.yes (passes test found.0)) (sym on)
        ∙ ap (λ t. not (is_on fixture t) || is_as_said literal.yes (passes t found.0)) (sym is)
        ∙ found.2 in
        ap (λ t. is_as_said literal.yes (is_test_true sheet club finish lots t)) is
        ∙ ap (is_as_said literal.yes) truth
        ∙ ap (λ ended. is_as_said literal.yes (has_passed test ended)) found.1
        ∙ said_so

    named : (test : Test) → literal.test ≡ test → is_test_of sheet test ≡ true
    named test is =
        ap (is_test_of sheet) (sym is)
        ∙ (and_parts (is_of_score literal.test) (is_test_of sheet literal.test) on_score).1

    by_test : (test : Test) → literal.test ≡ test
        → is_literal_true sheet club finish lots literal ≡ true
    by_test (Home fixture) is =
        of_fixture (Home fixture) fixture is (eq-eqb fixture fixture refl) refl
        (named (Home fixture) is)
    by_test (Draw fixture) is =
        of_fixture (Draw fixture) fixture is (eq-eqb fixture fixture refl) refl
        (named (Draw fixture) is)
    by_test (HomeMost fixture most) is =
        of_fixture (HomeMost fixture most) fixture is (eq-eqb fixture fixture refl) refl
        (named (HomeMost fixture most) is)
    by_test (AwayMost fixture most) is =
        of_fixture (AwayMost fixture most) fixture is (eq-eqb fixture fixture refl) refl
        (named (AwayMost fixture most) is)
    by_test (Rival rival) is =
        absurd (false≢true (ap is_of_score (sym is)
        ∙ (and_parts (is_of_score literal.test) (is_test_of sheet literal.test) on_score).0))

-- each literal of a part of the base
literals_true : (sheet : Sheet) (club : ℕ) (finish : Results) (lots : List ℕ)
    (part : List Literal) → is_base_of sheet part ≡ true
    → ((fixture : ℕ) → fixture < length sheet.fixtures
    → (score : Score) × (get_or finish.scores fixture None ≡ Some score)
    × (meets part fixture score ≡ true))
    → are_literals_true sheet club finish lots part ≡ true
literals_true sheet club finish lots [] of_base met = refl
literals_true sheet club finish lots (literal ∷ part) of_base met =
    let parts = and_parts (is_on_a_score sheet literal) (is_base_of sheet part) of_base in
    and_from (is_literal_true sheet club finish lots literal)
    (are_literals_true sheet club finish lots part)
    (literal_true sheet club finish lots literal parts.0
    (λ fixture within. let found = met fixture within in (
      found.0,
      found.1,
      (and_parts (meets_literal fixture found.0 literal) (meets part fixture found.0) found.2).0,
    )))
    (literals_true sheet club finish lots part parts.1
    (λ fixture within. let found = met fixture within in (
      found.0,
      found.1,
      (and_parts (meets_literal fixture found.0 literal) (meets part fixture found.0) found.2).1,
    )))

pub base_member : (sheet : Sheet) (season : Results) (club : ℕ) (base : List Literal)
    (finish : Results) (lots : List ℕ) → IsSeasonOf sheet season
    → is_base_of sheet base ≡ true → IsInBox sheet season base finish
    → are_literals_true sheet club finish lots base ≡ true
base_member sheet season club base finish lots of_sheet of_base box =
    literals_true sheet club finish lots base of_base
    (λ fixture within.
    let many = of_sheet.scores in
    let found = takes_at sheet.goal_limit base 0 season.scores finish.scores fixture box.scores
    (omega (arith, within, many)) in
    let same : 0 + fixture ≡ fixture = omega arith in
    (found.score, found.at, ap (λ f. meets base f found.score) (sym same) ∙ found.met))

-- so does the finish that is proposed below the base
pub proposed_member : (sheet : Sheet) (season : Results) (question : Question)
    (base way : List Literal) (lots : List ℕ) → IsSeasonOf sheet season
    → is_base_of sheet base ≡ true → has_finish sheet season (base ++ way) ≡ true
    → are_literals_true sheet question.club (proposed_finish sheet season question (base ++ way))
    lots base ≡ true
proposed_member sheet season question base way lots of_sheet of_base some =
    base_member sheet season question.club base
    (proposed_finish sheet season question (base ++ way)) lots of_sheet of_base
    (box_prefix sheet season base way (proposed_finish sheet season question (base ++ way))
    (proposed_in_box sheet season question (base ++ way) of_sheet some))
