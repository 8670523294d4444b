-- When a test of a score splits a zone properly: if some options of its fixture pass it, and some
-- do not.
use Rattle.std.proofs.Common.{◌≡◌, ◌<◌, ℕ, Bool, true, false, not, ◌==◌, List, [], inl, inr, length}
use Rattle.std.proofs.Common.{get_or, refl, ap, subst, ◌∙◌, arith}
use Rattle.std.proofs.lemmas.Bool.{and_from, or_left, or_right, lt-ltb, ne_eqb, cases_eq}
use Rattle.league_core.specs.declared.sheet.Sheet.{Sheet}
use Rattle.league_core.specs.declared.season.Score.{Score}
use Rattle.league_core.specs.declared.question.Question.{Question}
use Rattle.league_core.specs.declared.zone.Test.{Test}
use Rattle.league_core.specs.declared.zone.Test.TheVariants.{Home, Draw, HomeMost, AwayMost}
use Rattle.league_core.specs.declared.zone.Literal.{Literal}
use Rattle.league_core.specs.game.Results.{Results}
use Rattle.league_core.specs.game.Seasons.{IsSeasonOf}
use Rattle.league_core.specs.search.Zones.{passes, is_on, is_as_said, with_test}
use Rattle.league_core.specs.search.Options.{meets_literal, options_in, has_score, has_option}
use Rattle.league_core.specs.search.Options.{has_finish}
use Rattle.league_core.specs.search.Splits.{have_both_finish, is_proper}
use Rattle.league_core.proofs.OptionLemmas.{length-options_from}
use Rattle.league_core.proofs.OptionTestLemmas.{has_option-some, first_shown}
use Rattle.league_core.proofs.LiteralLemmas.{options_at-with}
use Rattle.branch_rules.specs.inside.Choices.{IsDivided}
use Rattle.league_core.proofs.plain.Lists.{list_all-at, all_from}

-- the half of a zone in which a score's test is as said has a finish, if some option of its fixture
-- is as said
half_has : (sheet : Sheet) (season : Results) (zone : List Literal) (test : Test) (holds : Bool)
    (fixture : ℕ) (score : Score) → ((k : ℕ) → is_on k test ≡ (fixture == k))
    → has_finish sheet season zone ≡ true
    → has_score (get_or (options_in sheet season zone) fixture []) score ≡ true
    → is_as_said holds (passes test score) ≡ true
    → has_finish sheet season (with_test zone test holds) ≡ true
unfolding has_finish
half_has sheet season zone test holds fixture score on some is passed =
    let literal : Literal = record { test = test; yes = holds } in
    let half = with_test zone test holds in
    let long = length-options_from sheet.goal_limit half 0 season.scores in
    let long_before = length-options_from sheet.goal_limit zone 0 season.scores in
    let stays : (k : ℕ) (s : Score) → k < length season.scores
    → has_score (get_or (options_in sheet season zone) k []) s ≡ true
    → meets_literal k s literal ≡ true
    → has_option (get_or (options_in sheet season half) k []) ≡ true =
    λ k s within old meets.
    has_option-some (get_or (options_in sheet season half) k []) s
    (options_at-with sheet.goal_limit zone literal season.scores k s within
    ∙ and_from _ _ old meets) in
    all_from has_option (options_in sheet season half) [] (λ k below.
    let within : k < length season.scores = omega (arith, long) in
    elim (cases_eq fixture k) as
    (λ _. has_option (get_or (options_in sheet season half) k []) ≡ true) [
      | inl same ↦
          stays k score within
          (subst (λ (n : ℕ). has_score (get_or (options_in sheet season zone) n []) score ≡ true)
          same is)
          (or_right (not (is_on k test)) (is_as_said holds (passes test score)) passed)
      | inr other ↦
          let one = first_shown (get_or (options_in sheet season zone) k [])
          (list_all-at has_option (options_in sheet season zone) k []
          (omega (arith, long_before)) some) in
          stays k one.0 within one.1
          (or_left (not (is_on k test)) (is_as_said holds (passes test one.0))
          (ap not (on k ∙ ne_eqb fixture k other)))
    ])

-- so both halves have one, if some option passes and some does not
both_have : (sheet : Sheet) (season : Results) (zone : List Literal) (test : Test) (fixture : ℕ)
    → ((k : ℕ) → is_on k test ≡ (fixture == k)) → has_finish sheet season zone ≡ true
    → IsDivided (has_score (get_or (options_in sheet season zone) fixture [])) (passes test)
    → have_both_finish sheet season zone test ≡ true
both_have sheet season zone test fixture on some parts =
    and_from (has_finish sheet season (with_test zone test true))
    (has_finish sheet season (with_test zone test false))
    (half_has sheet season zone test true fixture parts.one on some parts.has_one parts.passed)
    (half_has sheet season zone test false fixture parts.other on some parts.has_other
    (ap not parts.failed))

-- such a test is a proper split
pub home_is_proper : (sheet : Sheet) (season : Results) (question : Question) (zone : List Literal)
    (fixture : ℕ) → IsSeasonOf sheet season → has_finish sheet season zone ≡ true
    → fixture < length season.scores
    → IsDivided (has_score (get_or (options_in sheet season zone) fixture [])) (passes (Home
    fixture))
    → is_proper sheet season question zone (Home fixture) ≡ true
home_is_proper sheet season question zone fixture of_sheet some within parts =
    and_from _ _ (lt-ltb fixture (length sheet.fixtures) (omega (arith, of_sheet.scores)))
    (both_have sheet season zone (Home fixture) fixture (λ k. refl) some parts)

pub draw_is_proper : (sheet : Sheet) (season : Results) (question : Question) (zone : List Literal)
    (fixture : ℕ) → IsSeasonOf sheet season → has_finish sheet season zone ≡ true
    → fixture < length season.scores
    → IsDivided (has_score (get_or (options_in sheet season zone) fixture [])) (passes (Draw
    fixture))
    → is_proper sheet season question zone (Draw fixture) ≡ true
draw_is_proper sheet season question zone fixture of_sheet some within parts =
    and_from _ _ (lt-ltb fixture (length sheet.fixtures) (omega (arith, of_sheet.scores)))
    (both_have sheet season zone (Draw fixture) fixture (λ k. refl) some parts)

pub home_most_is_proper : (sheet : Sheet) (season : Results) (question : Question)
    (zone : List Literal) (fixture most : ℕ) → IsSeasonOf sheet season
    → has_finish sheet season zone ≡ true → fixture < length season.scores
    → IsDivided (has_score (get_or (options_in sheet season zone) fixture []))
    (passes (HomeMost fixture most))
    → is_proper sheet season question zone (HomeMost fixture most) ≡ true
home_most_is_proper sheet season question zone fixture most of_sheet some within parts =
    and_from _ _ (lt-ltb fixture (length sheet.fixtures) (omega (arith, of_sheet.scores)))
    (both_have sheet season zone (HomeMost fixture most) fixture (λ k. refl) some parts)

pub away_most_is_proper : (sheet : Sheet) (season : Results) (question : Question)
    (zone : List Literal) (fixture most : ℕ) → IsSeasonOf sheet season
    → has_finish sheet season zone ≡ true → fixture < length season.scores
    → IsDivided (has_score (get_or (options_in sheet season zone) fixture []))
    (passes (AwayMost fixture most))
    → is_proper sheet season question zone (AwayMost fixture most) ≡ true
away_most_is_proper sheet season question zone fixture most of_sheet some within parts =
    and_from _ _ (lt-ltb fixture (length sheet.fixtures) (omega (arith, of_sheet.scores)))
    (both_have sheet season zone (AwayMost fixture most) fixture (λ k. refl) some parts)
