-- From which place on a question may have work.
use Rattle.std.proofs.Common.{◌≡◌, ℕ, ◌+◌, ◌<◌, ◌≤◌, Bool, true, false, List, [], ◌∷◌, length, drop}
use Rattle.std.proofs.Common.{Some, None, refl, sym, ap, ◌∙◌, arith, set}
use Rattle.std.specs.Prelude.{position}
use Rattle.std.specs.List.{slice_get}
use Rattle.std.specs.Option.{option_map}
use Rattle.std.proofs.lemmas.Bool.{both_ways}
use Rattle.std.proofs.lemmas.List.{length-set}
use Rattle.std.proofs.lemmas.List.Folds.{list_any_at}
use Rattle.std.proofs.lemmas.List.Quantifiers.{position-Some}
use Rattle.std.proofs.lemmas.Option.{none-some, get_or_from_slice_get}
use Rattle.league_core.specs.declared.sheet.Sheet.{Sheet}
use Rattle.branch_pool.specs.declared.question_state.QuestionState.{QuestionState}
use Rattle.branch_pool.specs.inside.States.{is_workable}
use Rattle.branch_pool.specs.inside.Views.{HasWorkFrom}
use Rattle.league_core.proofs.plain.Slots.{slice_get-set_other}
use Rattle.league_core.proofs.plain.Places.{none_passes, skipped_from}

-- nothing is said of the first place
pub work_from_start : (sheet : Sheet) (seats : List QuestionState) → HasWorkFrom sheet seats 0
work_from_start sheet seats = record {
  within = omega arith;
  none = λ earlier seat before found. absurd (omega (arith, before));
}

-- one question was changed, and the place is not after it
pub work_from_set : (sheet : Sheet) (seats : List QuestionState) (from place earliest : ℕ)
    (seat : QuestionState)
    → HasWorkFrom sheet seats from → earliest ≤ from → earliest ≤ place
    → HasWorkFrom sheet (set seats place seat) earliest
work_from_set sheet seats from place earliest seat kept one other =
    let long = length-set seats place seat in
    let within = kept.within in
    record {
      within = omega (arith, long, within, one);
      none = λ earlier old before found. kept.none earlier old (omega (arith, before, one))
          (sym (slice_get-set_other seats place earlier seat
          (λ same. omega (arith, same, before, other))) ∙ found);
    }

-- no question has work
pub work_from_end : (sheet : Sheet) (seats : List QuestionState)
    → position (is_workable sheet) seats ≡ None → HasWorkFrom sheet seats (length seats)
work_from_end sheet seats none = record {
  within = omega arith;
  none = λ earlier seat before found. fails earlier seat before found (is_workable sheet seat) refl;
}
  where
    fails : (place : ℕ) (seat : QuestionState) → place < length seats
        → slice_get seats place ≡ Some seat
        → (b : Bool) → is_workable sheet seat ≡ b → is_workable sheet seat ≡ false
    fails place seat within found false is = is
    fails place seat within found true is =
        absurd (both_ways _ (none_passes (is_workable sheet) seats none)
        (list_any_at (is_workable sheet) seats place seat within
        (ap (is_workable sheet) (get_or_from_slice_get seats place seat seat found) ∙ is)))

-- the first question that has work
pub work_from_first : (sheet : Sheet) (seats : List QuestionState) (first : ℕ)
    → position (is_workable sheet) seats ≡ Some first → HasWorkFrom sheet seats first
work_from_first sheet [] first at = absurd (none-some first at)
work_from_first sheet (seat ∷ seats) first at =
    let facts = position-Some (is_workable sheet) (seat ∷ seats) first seat at in
    let inside = facts.0 in
    record {
      within = omega (arith, inside);
      none = λ earlier old before found.
          ap (is_workable sheet) (sym (get_or_from_slice_get (seat ∷ seats) earlier old seat found))
          ∙ facts.2 earlier before;
    }

-- the first question that has work is looked for from there on
pub first_from : (sheet : Sheet) (seats : List QuestionState) (from : ℕ)
    → HasWorkFrom sheet seats from
    → position (is_workable sheet) seats
    ≡ option_map (λ more. from + more) (position (is_workable sheet) (drop from seats))
first_from sheet seats from kept =
    skipped_from (is_workable sheet) seats from kept.within kept.none
