-- How many finishes a zone has: what a test of a score takes of them, and that a test of a rival
-- takes none.
use Rattle.std.proofs.Common.{◌≡◌, ℕ, suc, ◌+◌, ◌*◌, ◌<◌, ◌≤◌, Bool, true, false, not, ◌&&◌, ◌||◌}
use Rattle.std.proofs.Common.{◌==◌, nat_lt, List, [], ◌∷◌, length, filter, Option, Some, None, refl}
use Rattle.std.proofs.Common.{ap, ◌∙◌, inl, inr, arith}
use Rattle.std.specs.List.{list_all}
use Rattle.std.proofs.lemmas.Nat.{mul-le}
use Rattle.std.proofs.lemmas.Bool.{false≢true, eq-eqb, ne_eqb, cases_eq, ltb-true}
use Rattle.std.proofs.lemmas.List.Sums.{length-filter}
use Rattle.league_core.specs.declared.sheet.Sheet.{Sheet}
use Rattle.league_core.specs.declared.season.Score.{Score}
use Rattle.league_core.specs.declared.question.Question.{Question}
use Rattle.league_core.specs.declared.zone.Test.{Test}
use Rattle.league_core.specs.declared.zone.Test.TheVariants.{Home, Draw, HomeMost, AwayMost, Rival}
use Rattle.league_core.specs.declared.zone.Literal.{Literal}
use Rattle.league_core.specs.game.Results.{Results}
use Rattle.league_core.specs.game.Seasons.{IsSeasonOf}
use Rattle.league_core.specs.inside.FinishList.{ways_to_end, ways_to_finish}
use Rattle.league_core.specs.search.Zones.{passes, is_on, is_of_score, with_test}
use Rattle.league_core.specs.search.Options.{endings, meets_literal, meets, options_of}
use Rattle.league_core.specs.search.Options.{options_from, options_in, has_option, has_finish}
use Rattle.league_core.specs.search.Splits.{is_proper}
use Rattle.league_core.proofs.FinishListLemmas.{length-scores_up_to}
use Rattle.reason_laws.specs.inside.Weights.{choices, finishes_in}
use Rattle.league_core.proofs.HalfLemmas.{list_all-with, options_of-off, options_from-off}
use Rattle.reason_laws.proofs.HalfMarkLemmas.{proper_names}
use Rattle.league_core.proofs.plain.Counts.{count_by-parts}
use Rattle.league_core.proofs.plain.Filters.{filter-true}
use Rattle.league_core.proofs.plain.Numbers.{divided, kept_divided}

-- if each fixture has an option there is a choice
choices_some : (options : List (List Score)) → list_all has_option options ≡ true
    → 1 ≤ choices options
choices_some [] all = omega arith
choices_some ([] ∷ more) all = absurd (false≢true all)
choices_some ((score ∷ options) ∷ more) all =
    let rest = choices_some more all in
    let product = mul-le 1 1 (length (score ∷ options)) (choices more) (omega arith) rest in
    omega arith

-- a zone with a finish has one
pub finishes_some : (sheet : Sheet) (season : Results) (zone : List Literal)
    → has_finish sheet season zone ≡ true → 1 ≤ finishes_in sheet season zone
unfolding has_finish
finishes_some sheet season zone some = choices_some (options_in sheet season zone) some

-- the scores that pass a test and those that do not are together all of them
length-parts : (counted taken left test : Score → Bool)
    → ((x : Score) → taken x ≡ (counted x && test x))
    → ((x : Score) → left x ≡ (counted x && not (test x))) → (xs : List Score)
    → length (filter taken xs) + length (filter left xs) ≡ length (filter counted xs)
length-parts counted taken left test is_taken is_left xs =
    omega (
      arith,
      length-filter taken xs,
      length-filter left xs,
      length-filter counted xs,
      count_by-parts counted taken left test is_taken is_left xs,
    )

-- a literal on the fixture divides its options among the halves
options_of-on : (limit : ℕ) (zone : List Literal) (test : Test) (fixture : ℕ)
    (played : Option Score) → is_on fixture test ≡ true
    → length (options_of limit (with_test zone test true) fixture played)
    + length (options_of limit (with_test zone test false) fixture played)
    ≡ length (options_of limit zone fixture played)
options_of-on limit zone test fixture played on =
    length-parts (meets zone fixture) (meets (with_test zone test true) fixture)
    (meets (with_test zone test false) fixture) (passes test)
    (λ score. list_all-with (meets_literal fixture score) zone test true
    ∙ ap (λ b. meets zone fixture score && (not b || passes test score)) on)
    (λ score. list_all-with (meets_literal fixture score) zone test false
    ∙ ap (λ b. meets zone fixture score && (not b || not (passes test score))) on)
    (endings limit played)

-- a test on one of the fixtures divides the choices
choices_divided : (limit : ℕ) (zone : List Literal) (test : Test) (tested : ℕ)
    → ((i : ℕ) → is_on i test ≡ (tested == i)) → (season : List (Option Score)) (fixture : ℕ)
    → fixture ≤ tested → tested < fixture + length season
    → choices (options_from limit (with_test zone test true) fixture season)
    + choices (options_from limit (with_test zone test false) fixture season)
    ≡ choices (options_from limit zone fixture season)
choices_divided limit zone test tested at [] fixture from within = absurd (omega arith)
choices_divided limit zone test tested at (played ∷ season) fixture from within =
    let options = λ (holds : Bool). options_of limit (with_test zone test holds) fixture played in
    let more = λ (holds : Bool). options_from limit (with_test zone test holds)
    (suc fixture) season in
    elim (cases_eq tested fixture) as (λ _. length (options true) * choices (more true)
    + length (options false) * choices (more false)
    ≡ length (options_of limit zone fixture played) * choices
    (options_from limit zone (suc fixture) season)) [
      | inl same ↦
          let later : (i : ℕ) → suc fixture ≤ i → is_on i test ≡ false = λ i behind. at i
          ∙ ne_eqb tested i (λ e. absurd (omega arith)) in
          divided (length (options true)) (length (options false))
          (length (options_of limit zone fixture played)) (choices (more true))
          (choices (more false)) (choices (options_from limit zone (suc fixture) season))
          (options_of-on limit zone test fixture played (at fixture ∙ eq-eqb tested fixture same))
          (ap choices (options_from-off limit zone test true season (suc fixture) later))
          (ap choices (options_from-off limit zone test false season (suc fixture) later))
      | inr other ↦
          let off : is_on fixture test ≡ false = at fixture ∙ ne_eqb tested fixture other in
          kept_divided (length (options true)) (length (options false))
          (length (options_of limit zone fixture played)) (choices (more true))
          (choices (more false)) (choices (options_from limit zone (suc fixture) season))
          (ap length (options_of-off limit zone test true fixture played off))
          (ap length (options_of-off limit zone test false fixture played off))
          (choices_divided limit zone test tested at season (suc fixture)
          (after tested fixture from other) (omega arith))
    ]
  where
    after : (m n : ℕ) → n ≤ m → (m ≡ n → ⊥) → suc n ≤ m
    after m n le other = omega arith

-- a test on a fixture of the sheet divides the finishes
divided_at : (sheet : Sheet) (season : Results) (zone : List Literal) (test : Test) (tested : ℕ)
    → ((i : ℕ) → is_on i test ≡ (tested == i)) → IsSeasonOf sheet season
    → nat_lt tested (length sheet.fixtures) ≡ true
    → finishes_in sheet season (with_test zone test true)
    + finishes_in sheet season (with_test zone test false) ≡ finishes_in sheet season zone
divided_at sheet season zone test tested at is_season named =
    let within = ltb-true tested (length sheet.fixtures) named in
    let entries = is_season.scores in
    choices_divided sheet.goal_limit zone test tested at season.scores 0 (omega arith) (omega arith)

pub finishes_divided : (sheet : Sheet) (season : Results) (question : Question)
    (zone : List Literal) (test : Test) → IsSeasonOf sheet season → is_of_score test ≡ true
    → is_proper sheet season question zone test ≡ true
    → finishes_in sheet season (with_test zone test true)
    + finishes_in sheet season (with_test zone test false) ≡ finishes_in sheet season zone
finishes_divided sheet season question zone (Home fixture) is_season of_score proper =
    divided_at sheet season zone (Home fixture) fixture (λ i. refl) is_season
    (proper_names sheet season question zone (Home fixture) proper).0
finishes_divided sheet season question zone (Draw fixture) is_season of_score proper =
    divided_at sheet season zone (Draw fixture) fixture (λ i. refl) is_season
    (proper_names sheet season question zone (Draw fixture) proper).0
finishes_divided sheet season question zone (HomeMost fixture most) is_season of_score proper =
    divided_at sheet season zone (HomeMost fixture most) fixture (λ i. refl) is_season
    (proper_names sheet season question zone (HomeMost fixture most) proper).0
finishes_divided sheet season question zone (AwayMost fixture most) is_season of_score proper =
    divided_at sheet season zone (AwayMost fixture most) fixture (λ i. refl) is_season
    (proper_names sheet season question zone (AwayMost fixture most) proper).0
finishes_divided sheet season question zone (Rival club) is_season of_score proper =
    absurd (false≢true of_score)

-- a fixture has as many endings as there are ways to end it
length-endings : (limit : ℕ) (played : Option Score)
    → length (endings limit played) ≡ ways_to_end limit played
length-endings limit None = length-scores_up_to limit
length-endings limit (Some played) = refl

-- without a literal each fixture has all its ends
choices-all : (limit : ℕ) (season : List (Option Score)) (fixture : ℕ)
    → choices (options_from limit [] fixture season) ≡ ways_to_finish limit season
choices-all limit [] fixture = refl
choices-all limit (played ∷ season) fixture =
    ap (λ n. n * choices (options_from limit [] (suc fixture) season))
    (ap length (filter-true (endings limit played)) ∙ length-endings limit played)
    ∙ ap (λ n. ways_to_end limit played * n) (choices-all limit season (suc fixture))

pub root_finishes : (sheet : Sheet) (season : Results)
    → finishes_in sheet season [] ≡ ways_to_finish sheet.goal_limit season.scores
root_finishes sheet season = choices-all sheet.goal_limit season.scores 0
