-- Lists of options that are tested: that a list has an option, and that one of its options passes.
use Rattle.std.proofs.Common.{◌≡◌, Bool, true, List, [], ◌∷◌, refl, sym, ap, ◌∙◌, inl, inr}
use Rattle.std.specs.List.{list_any}
use Rattle.std.proofs.lemmas.Bool.{false≢true, or_cases, or_left, or_right}
use Rattle.league_core.specs.declared.season.Score.{Score}
use Rattle.league_core.specs.game.Finishes.{same_score}
use Rattle.league_core.specs.search.Options.{has_score, has_option}
use Rattle.league_core.proofs.OptionLemmas.{same_score-true, has_score-first}

-- an option shows that there is one
pub has_option-some : (options : List Score) (score : Score) → has_score options score ≡ true
    → has_option options ≡ true
has_option-some [] score is = absurd (false≢true is)
has_option-some (first ∷ options) score is = refl

-- if there is an option, there is one to show
pub first_shown : (options : List Score) → has_option options ≡ true
    → (score : Score) × (has_score options score ≡ true)
first_shown [] some = absurd (false≢true some)
first_shown (first ∷ options) some = (first, has_score-first first options)

-- an option that passes shows that one does
pub any_shows : (test : Score → Bool) (options : List Score) (score : Score)
    → has_score options score ≡ true → test score ≡ true → list_any test options ≡ true
any_shows test [] score is passed = absurd (false≢true is)
any_shows test (first ∷ options) score is passed =
    elim (or_cases (same_score score first) (has_score options score) is) as
    (λ _. list_any test (first ∷ options) ≡ true) [
      | inl same ↦
          or_left (test first) (list_any test options)
          (ap test (sym (same_score-true score first same)) ∙ passed)
      | inr later ↦
          or_right (test first) (list_any test options) (any_shows test options score later passed)
    ]

-- if one passes, there is one that does
pub any_gives : (test : Score → Bool) (options : List Score) → list_any test options ≡ true
    → (score : Score) × (has_score options score ≡ true) × (test score ≡ true)
any_gives test [] some = absurd (false≢true some)
any_gives test (first ∷ options) some =
    elim (or_cases (test first) (list_any test options) some) as
    (λ _. (score : Score) × (has_score (first ∷ options) score ≡ true) × (test score ≡ true)) [
      | inl here ↦ (first, has_score-first first options, here)
      | inr later ↦
          let one = any_gives test options later in
          (one.0, or_right (same_score one.0 first) (has_score options one.0) one.1, one.2)
    ]
