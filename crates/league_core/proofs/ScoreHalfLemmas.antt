-- A test of a score divides a zone that has a finish: one of the halves at least has a finish.
use Rattle.std.proofs.Common.{◌≡◌, ℕ, suc, ◌≤◌, Bool, true, false, not, ◌&&◌, ◌||◌, ◌==◌}
use Rattle.std.proofs.Common.{List, [], ◌∷◌, filter, Option, refl, ap}
use Rattle.std.proofs.Common.{◌∙◌, inl, inr, arith}
use Rattle.std.specs.List.{list_all}
use Rattle.std.proofs.lemmas.Bool.{false≢true, and_parts, and_from, or_left, or_right, eq-eqb}
use Rattle.std.proofs.lemmas.Bool.{ne_eqb, cases_eq, cases_Bool}
use Rattle.league_core.specs.declared.sheet.Sheet.{Sheet}
use Rattle.league_core.specs.declared.season.Score.{Score}
use Rattle.league_core.specs.declared.zone.Test.{Test}
use Rattle.league_core.specs.declared.zone.Test.TheVariants.{Home, Draw, HomeMost, AwayMost, Rival}
use Rattle.league_core.specs.declared.zone.Literal.{Literal}
use Rattle.league_core.specs.game.Results.{Results}
use Rattle.league_core.specs.search.Zones.{passes, is_on, is_of_score, with_test}
use Rattle.league_core.specs.search.Options.{endings, meets_literal, meets, options_of}
use Rattle.league_core.specs.search.Options.{options_from, has_option, has_finish}
use Rattle.league_core.proofs.HalfLemmas.{list_all-with, options_of-off, options_from-off}

-- of options that are left, some pass a test or some do not
some_passes : (kept taken left test : Score → Bool) → ((x : Score) → taken x ≡ (kept x && test x))
    → ((x : Score) → left x ≡ (kept x && not (test x))) → (xs : List Score)
    → has_option (filter kept xs) ≡ true
    → (has_option (filter taken xs) || has_option (filter left xs)) ≡ true
some_passes kept taken left test is_taken is_left [] some = absurd (false≢true some)
some_passes kept taken left test is_taken is_left (x ∷ xs) some =
    elim (cases_Bool (kept x)) as (λ _.
    (has_option (filter taken (x ∷ xs)) || has_option (filter left (x ∷ xs))) ≡ true) [
      | inl keeps ↦
          elim (cases_Bool (test x)) as (λ _.
          (has_option (filter taken (x ∷ xs)) || has_option (filter left (x ∷ xs))) ≡ true) [
            | inl passed ↦
                let takes : taken x ≡ true = is_taken x ∙ and_from (kept x) (test x) keeps passed in
                or_left (has_option (filter taken (x ∷ xs))) (has_option (filter left (x ∷ xs)))
                (rw takes refl)
            | inr failed ↦
                let leaves : left x ≡ true = is_left x ∙ and_from (kept x) (not (test x)) keeps
                (ap not failed) in
                or_right (has_option (filter taken (x ∷ xs))) (has_option (filter left (x ∷ xs)))
                (rw leaves refl)
          ]
      | inr drops ↦
          let takes : taken x ≡ false = is_taken x ∙ ap (λ b. b && test x) drops in
          let leaves : left x ≡ false = is_left x ∙ ap (λ b. b && not (test x)) drops in
          rw (takes, leaves)
          (some_passes kept taken left test is_taken is_left xs (rw drops at some))
    ]

-- a test on a fixture leaves it an option in one half at least
options_of-on : (limit : ℕ) (zone : List Literal) (test : Test) (fixture : ℕ)
    (played : Option Score) → is_on fixture test ≡ true
    → has_option (options_of limit zone fixture played) ≡ true
    → (has_option (options_of limit (with_test zone test true) fixture played)
    || has_option (options_of limit (with_test zone test false) fixture played)) ≡ true
options_of-on limit zone test fixture played on some =
    some_passes (meets zone fixture) (meets (with_test zone test true) fixture)
    (meets (with_test zone test false) fixture) (passes test)
    (λ score. list_all-with (meets_literal fixture score) zone test true
    ∙ ap (λ b. meets zone fixture score && (not b || passes test score)) on)
    (λ score. list_all-with (meets_literal fixture score) zone test false
    ∙ ap (λ b. meets zone fixture score && (not b || not (passes test score))) on)
    (endings limit played) some

-- a test on one fixture leaves all fixtures an option in one half at least
one_half : (limit : ℕ) (zone : List Literal) (test : Test) (tested : ℕ)
    → ((i : ℕ) → is_on i test ≡ (tested == i)) → (season : List (Option Score)) (fixture : ℕ)
    → list_all has_option (options_from limit zone fixture season) ≡ true
    → (list_all has_option (options_from limit (with_test zone test true) fixture season)
    || list_all has_option (options_from limit (with_test zone test false) fixture season)) ≡ true
one_half limit zone test tested at [] fixture some = refl
one_half limit zone test tested at (played ∷ season) fixture some =
    let here = λ (holds : Bool). has_option
    (options_of limit (with_test zone test holds) fixture played) in
    let more = λ (holds : Bool). list_all has_option
    (options_from limit (with_test zone test holds) (suc fixture) season) in
    let parts = and_parts (has_option (options_of limit zone fixture played))
    (list_all has_option (options_from limit zone (suc fixture) season)) some in
    elim (cases_eq tested fixture) as (λ _.
    ((here true && more true) || (here false && more false)) ≡ true) [
      | inl same ↦
          let later : (i : ℕ) → suc fixture ≤ i → is_on i test ≡ false = λ i behind. at i
          ∙ ne_eqb tested i (λ e. absurd (omega arith)) in
          let stays = λ (holds : Bool). ap (list_all has_option)
          (options_from-off limit zone test holds season (suc fixture) later) ∙ parts.1 in
          on_first (here true) (here false) (more true) (more false)
          (options_of-on limit zone test fixture played
          (at fixture ∙ eq-eqb tested fixture same) parts.0) (stays true) (stays false)
      | inr other ↦
          let off : is_on fixture test ≡ false = at fixture ∙ ne_eqb tested fixture other in
          let stays = λ (holds : Bool). ap has_option
          (options_of-off limit zone test holds fixture played off) ∙ parts.0 in
          on_rest (here true) (here false) (more true) (more false) (stays true) (stays false)
          (one_half limit zone test tested at season (suc fixture) parts.1)
    ]
  where
    on_first : (a b c d : Bool) → (a || b) ≡ true → c ≡ true → d ≡ true
        → ((a && c) || (b && d)) ≡ true
    on_first true b true d some first second = refl
    on_first true b false d some first second = absurd (false≢true first)
    on_first false true c true some first second = or_right (false && c) true refl
    on_first false true c false some first second = absurd (false≢true second)
    on_first false false c d some first second = absurd (false≢true some)

    on_rest : (a b c d : Bool) → a ≡ true → b ≡ true → (c || d) ≡ true
        → ((a && c) || (b && d)) ≡ true
    on_rest true true c d first second some = some
    on_rest true false c d first second some = absurd (false≢true second)
    on_rest false b c d first second some = absurd (false≢true first)

-- if a zone has a finish, one of its halves by the score of a fixture has one
pub score_has_finish : (sheet : Sheet) (season : Results) (zone : List Literal) (test : Test)
    → is_of_score test ≡ true → has_finish sheet season zone ≡ true
    → (has_finish sheet season (with_test zone test true)
    || has_finish sheet season (with_test zone test false)) ≡ true
unfolding has_finish
score_has_finish sheet season zone (Home fixture) of_score some =
    one_half sheet.goal_limit zone (Home fixture) fixture (λ i. refl) season.scores 0 some
score_has_finish sheet season zone (Draw fixture) of_score some =
    one_half sheet.goal_limit zone (Draw fixture) fixture (λ i. refl) season.scores 0 some
score_has_finish sheet season zone (HomeMost fixture most) of_score some =
    one_half sheet.goal_limit zone (HomeMost fixture most) fixture (λ i. refl) season.scores 0 some
score_has_finish sheet season zone (AwayMost fixture most) of_score some =
    one_half sheet.goal_limit zone (AwayMost fixture most) fixture (λ i. refl) season.scores 0 some
score_has_finish sheet season zone (Rival club) of_score some = absurd (false≢true of_score)
