-- Finishes in the box of a zone: a zone in which each fixture has one option has one of them.
use Rattle.std.proofs.Common.{◌≡◌, true, List, [], ◌∷◌, Option, Some, None, refl, sym, ap}
use Rattle.std.proofs.Common.{◌∙◌}
use Rattle.std.specs.List.{list_all}
use Rattle.std.proofs.lemmas.Bool.{false≢true, and_parts, and_from}
use Rattle.league_core.specs.declared.sheet.Sheet.{Sheet}
use Rattle.league_core.specs.declared.season.Score.{Score}
use Rattle.league_core.specs.declared.zone.Literal.{Literal}
use Rattle.league_core.specs.game.Results.{Results}
use Rattle.league_core.specs.game.Finishes.{same_score}
use Rattle.league_core.specs.search.Options.{has_score, options_in, has_one_score, is_single}
use Rattle.league_core.specs.search.Options.{take_options, IsInBox}
use Rattle.league_core.proofs.OptionLemmas.{has_score-first, same_score-true}
use Rattle.reason_laws.proofs.FixedLemmas.{all_alike}

-- the first option of each fixture, and none if none is left
abbrev first_scores : List (List Score) → List (Option Score)
first_scores [] = []
first_scores ([] ∷ more) = None ∷ first_scores more
first_scores ((score ∷ options) ∷ more) = Some score ∷ first_scores more

-- if each fixture has one option, they are options
first_taken : (options : List (List Score)) → list_all has_one_score options ≡ true
    → take_options options (first_scores options) ≡ true
first_taken [] one = refl
first_taken ([] ∷ more) one = absurd (false≢true one)
first_taken ((score ∷ options) ∷ more) one =
    and_from (has_score (score ∷ options) score) (take_options more (first_scores more))
    (has_score-first score options)
    (first_taken more
    (and_parts (has_one_score (score ∷ options)) (list_all has_one_score more) one).1)

-- and no others are
first_alone : (options : List (List Score)) (scores : List (Option Score))
    → list_all has_one_score options ≡ true → take_options options scores ≡ true
    → scores ≡ first_scores options
first_alone [] [] one takes = refl
first_alone [] (ended ∷ scores) one takes = absurd (false≢true takes)
first_alone (options ∷ more) [] one takes = absurd (false≢true takes)
first_alone ([] ∷ more) (ended ∷ scores) one takes = absurd (false≢true one)
first_alone ((first ∷ options) ∷ more) (None ∷ scores) one takes = absurd (false≢true takes)
first_alone ((first ∷ options) ∷ more) (Some score ∷ scores) one takes =
    let each = and_parts (has_one_score (first ∷ options)) (list_all has_one_score more) one in
    let taken = and_parts (has_score (first ∷ options) score) (take_options more scores) takes in
    let same : first ≡ score = all_alike (λ (s : Score). s) same_score first options
    (same_score-true first) each.0 score taken.0 in
    ap (λ s. Some s ∷ scores) (sym same)
    ∙ ap (λ rest. Some first ∷ rest) (first_alone more scores each.1 taken.1)

-- so its box has one finish
pub single_finish : (sheet : Sheet) (season : Results) (zone : List Literal)
    → is_single sheet season zone ≡ true → (finish : Results) × IsInBox sheet season zone finish
    × ((other : Results) → IsInBox sheet season zone other → other ≡ finish)
unfolding is_single
single_finish sheet season zone single = (
  record { scores = first_scores (options_in sheet season zone); deductions = season.deductions },
  record { deductions = refl; scores = first_taken (options_in sheet season zone) single },
  λ other box. joined other box.deductions
      (first_alone (options_in sheet season zone) other.scores single box.scores),
)
  where
    joined : (other : Results) → other.deductions ≡ season.deductions
        → other.scores ≡ first_scores (options_in sheet season zone)
        → other ≡ record {
          scores = first_scores
              (options_in sheet season zone);
          deductions = season.deductions;
        }
    joined other deductions scores = λ i. record { scores = scores i; deductions = deductions i }
