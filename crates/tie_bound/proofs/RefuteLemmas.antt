-- More clubs that are above or below refute no less.
use Rattle.std.proofs.Common.{◌≡◌, ℕ, ◌-◌, ◌≤◌, Bool, true, false, not, ◌&&◌, ◌||◌, cond, nat_lt}
use Rattle.std.proofs.Common.{◌==◌, List, [], ◌∷◌, length, count_by, refl, sym, ap, ◌∙◌, arith}
use Rattle.std.specs.List.{list_any}
use Rattle.std.proofs.lemmas.Bool.{false≢true, eq-eqb, or_right, and_parts, and_from, lt-ltb}
use Rattle.std.proofs.lemmas.Bool.{false_from_ne_true}
use Rattle.std.proofs.lemmas.List.Sums.{sum_by-cons}
use Rattle.league_core.specs.declared.question.Claim.{Claim}
use Rattle.league_core.specs.declared.question.Claim.TheVariants.{Inside, Outside}
use Rattle.league_core.specs.declared.question.Question.{Question}
use Rattle.league_core.specs.declared.sure.Sure.{Sure}
use Rattle.league_core.specs.declared.sure.Sure.TheVariants.{Above, Below, Level, Unknown}
use Rattle.league_core.specs.game.Sums.{has_club}
use Rattle.league_core.specs.search.Zones.{rivals_of, marked_before, marked_after}
use Rattle.league_core.specs.search.Reasons.{too_many, is_surely_above, is_surely_below}
use Rattle.league_core.specs.search.SureOrder.{sure_then, sure_by_points, sure_order, is_above}
use Rattle.league_core.specs.search.SureOrder.{is_below}
use Rattle.score_box.specs.inside.ZoneBoxViews.{ZoneBoxView}
use Rattle.tie_bound.specs.declared.answer_sets.Answers.{Answers}
use Rattle.tie_bound.specs.inside.Boxes.{options_in_box}
use Rattle.tie_bound.specs.inside.Answers.{answer_at, AreByPoints}
use Rattle.tie_bound.specs.inside.Rivals.{are_too_many_with, is_wrong_with, refutes_with}
use Rattle.tie_bound.specs.inside.Rivals.{refutes_surely}
use Rattle.tie_bound.proofs.RivalLemmas.{rival_below}
use Rattle.league_core.proofs.plain.TruthValues.{one_if-le, same_tests, and_more, or_both, or_more}
use Rattle.league_core.proofs.plain.Numbers.{le_more}

-- a test that passes wherever another does
abbrev Passes : List ℕ → (ℕ → Bool) → (ℕ → Bool) → Type 0
Passes clubs test more = (x : ℕ) → has_club clubs x ≡ true → test x ≡ true → more x ≡ true

passes_later : (club : ℕ) (clubs : List ℕ) (test more : ℕ → Bool) → Passes (club ∷ clubs) test more
    → Passes clubs test more
passes_later club clubs test more passes x has =
    passes x (or_right (club == x) (has_club clubs x) has)

passes_first : (club : ℕ) (clubs : List ℕ) (test more : ℕ → Bool) → Passes (club ∷ clubs) test more
    → test club ≡ true → more club ≡ true
passes_first club clubs test more passes =
    passes club (ap (λ b. b || has_club clubs club) (eq-eqb club club refl))

count_more : (test more : ℕ → Bool) (clubs : List ℕ) → Passes clubs test more
    → count_by test clubs ≤ count_by more clubs
count_more test more [] passes = omega arith
count_more test more (club ∷ clubs) passes =
    let rest = count_more test more clubs (passes_later club clubs test more passes) in
    let here = one_if-le (test club) (more club)
    (passes_first club clubs test more passes) in
    let few = sum_by-cons (λ (x : ℕ). cond (test x) 1 0) club clubs in
    let many = sum_by-cons (λ (x : ℕ). cond (more x) 1 0) club clubs in
    omega arith

any_more : (test more : ℕ → Bool) (clubs : List ℕ) → Passes clubs test more
    → list_any test clubs ≡ true → list_any more clubs ≡ true
any_more test more [] passes some = some
any_more test more (club ∷ clubs) passes some =
    or_both (test club) (list_any test clubs) (more club) (list_any more clubs)
    (passes_first club clubs test more passes)
    (any_more test more clubs (passes_later club clubs test more passes)) some

pub refutes_more : (box : ZoneBoxView) (question : Question)
    (above below above_too below_too : ℕ → Bool)
    → ((x : ℕ) → has_club (rivals_of box.sheet question.club) x ≡ true → above x ≡ true →
    above_too x ≡ true)
    → ((x : ℕ) → has_club (rivals_of box.sheet question.club) x ≡ true → below x ≡ true →
    below_too x ≡ true)
    → refutes_with box question above below ≡ true
    → refutes_with box question above_too below_too ≡ true
refutes_more box question above below above_too below_too more_above more_below =
    or_both (are_too_many_with box question above below)
    (list_any (is_wrong_with box above below) rivals)
    (are_too_many_with box question above_too below_too)
    (list_any (is_wrong_with box above_too below_too) rivals)
    (by_claim question.claim)
    (any_more (is_wrong_with box above below) (is_wrong_with box above_too below_too) rivals
    (λ x has.
    or_both (marked_after box.zone x && above x) (marked_before box.zone x && below x)
    (marked_after box.zone x && above_too x) (marked_before box.zone x && below_too x)
    (and_more (marked_after box.zone x) (above x) (above_too x)
    (more_above x has))
    (and_more (marked_before box.zone x) (below x) (below_too x)
    (more_below x has))))
  where
    rivals : List ℕ
    rivals = rivals_of box.sheet question.club

    front : (ℕ → Bool) → ℕ → Bool
    front test rival = marked_before box.zone rival || test rival

    back : (ℕ → Bool) → ℕ → Bool
    back test rival = marked_after box.zone rival || test rival

    by_claim : (claim : Claim)
        → too_many box.sheet question (front above) (back below) claim ≡ true
        → too_many box.sheet question (front above_too) (back below_too) claim ≡ true
    by_claim Inside =
        le_more question.line (count_by (front above) rivals)
        (count_by (front above_too) rivals)
        (count_more (front above) (front above_too) rivals
        (λ x has. or_more (marked_before box.zone x) (above x) (above_too x)
        (more_above x has)))
    by_claim Outside =
        le_more (length box.sheet.clubs - question.line) (count_by (back below) rivals)
        (count_by (back below_too) rivals)
        (count_more (back below) (back below_too) rivals
        (λ x has. or_more (marked_after box.zone x) (below x) (below_too x)
        (more_below x has)))

pub refutes_same : (box : ZoneBoxView) (question : Question)
    (above below above_too below_too : ℕ → Bool)
    → ((x : ℕ) → has_club (rivals_of box.sheet question.club) x ≡ true → above x ≡ above_too x)
    → ((x : ℕ) → has_club (rivals_of box.sheet question.club) x ≡ true → below x ≡ below_too x)
    → refutes_with box question above below ≡ refutes_with box question above_too below_too
refutes_same box question above below above_too below_too same_above same_below =
    same_tests (refutes_with box question above below)
    (refutes_with box question above_too below_too)
    (refutes_more box question above below above_too below_too
    (λ x within is. sym (same_above x within) ∙ is)
    (λ x within is. sym (same_below x within) ∙ is))
    (refutes_more box question above_too below_too above below
    (λ x within is. same_above x within ∙ is)
    (λ x within is. same_below x within ∙ is))

-- ---- points come first

above_first : (first next : Sure) → is_above first ≡ true → is_above (sure_then first next) ≡ true
above_first Above next is = refl
above_first Below next is = absurd (false≢true is)
above_first Level next is = absurd (false≢true is)
above_first Unknown next is = absurd (false≢true is)

below_first : (first next : Sure) → is_below first ≡ true → is_below (sure_then first next) ≡ true
below_first Above next is = absurd (false≢true is)
below_first Below next is = refl
below_first Level next is = absurd (false≢true is)
below_first Unknown next is = absurd (false≢true is)

not_below : (first next : Sure) → is_above (sure_then first next) ≡ true → is_below first ≡ false
not_below Above next is = refl
not_below Below next is = absurd (false≢true is)
not_below Level next is = refl
not_below Unknown next is = refl

not_above : (first next : Sure) → is_below (sure_then first next) ≡ true → is_above first ≡ false
not_above Above next is = absurd (false≢true is)
not_above Below next is = refl
not_above Level next is = refl
not_above Unknown next is = refl

-- the clubs that points put above and below, from the answers by points
pub above_by_points : (box : ZoneBoxView) (club : ℕ) (answers : Answers)
    → AreByPoints box club answers
    → (x : ℕ) → is_above (answer_at answers x) ≡ (nat_lt x (length box.sheet.clubs)
    && is_above (sure_by_points box.sheet box.season (options_in_box box) x club))
above_by_points box club answers by_points x =
    ap is_above (by_points x)
    ∙ at (nat_lt x (length box.sheet.clubs))
    (sure_by_points box.sheet box.season (options_in_box box) x club)
  where
    at : (low : Bool) (answer : Sure)
        → is_above (cond low answer Unknown) ≡ (low && is_above answer)
    at true answer = refl
    at false answer = refl

pub below_by_points : (box : ZoneBoxView) (club : ℕ) (answers : Answers)
    → AreByPoints box club answers
    → (x : ℕ) → is_below (answer_at answers x) ≡ (nat_lt x (length box.sheet.clubs)
    && is_below (sure_by_points box.sheet box.season (options_in_box box) x club))
below_by_points box club answers by_points x =
    ap is_below (by_points x)
    ∙ at (nat_lt x (length box.sheet.clubs))
    (sure_by_points box.sheet box.season (options_in_box box) x club)
  where
    at : (low : Bool) (answer : Sure)
        → is_below (cond low answer Unknown) ≡ (low && is_below answer)
    at true answer = refl
    at false answer = refl

-- points that put a club above or below are not overruled
pub refuted_by_points : (box : ZoneBoxView) (question : Question) (above below : ℕ → Bool)
    → ((x : ℕ) → above x ≡ (nat_lt x (length box.sheet.clubs) && is_above (sure_by_points box.sheet
    box.season (options_in_box box) x question.club)))
    → ((x : ℕ) → below x ≡ (nat_lt x (length box.sheet.clubs) && is_below (sure_by_points box.sheet
    box.season (options_in_box box) x question.club)))
    → refutes_with box question above below ≡ true → true ≡ refutes_surely box question
unfolding sure_order
refuted_by_points box question above below above_is below_is refuted =
    sym (refutes_more box question above below
    (is_surely_above box.sheet box.season question box.zone)
    (is_surely_below box.sheet box.season question box.zone)
    (λ x within is. above_first
    (sure_by_points box.sheet box.season (options_in_box box) x question.club) _
    (and_parts (nat_lt x (length box.sheet.clubs)) _ (sym (above_is x) ∙ is)).1)
    (λ x within is. below_first
    (sure_by_points box.sheet box.season (options_in_box box) x question.club) _
    (and_parts (nat_lt x (length box.sheet.clubs)) _ (sym (below_is x) ∙ is)).1)
    refuted)

-- and if all that points leave open would not refute, nothing does
pub open_by_points : (box : ZoneBoxView) (question : Question)
    (above below most_above most_below : ℕ
    → Bool)
    → ((x : ℕ) → above x ≡ (nat_lt x (length box.sheet.clubs) && is_above (sure_by_points box.sheet
    box.season (options_in_box box) x question.club)))
    → ((x : ℕ) → below x ≡ (nat_lt x (length box.sheet.clubs) && is_below (sure_by_points box.sheet
    box.season (options_in_box box) x question.club)))
    → ((x : ℕ) → most_above x ≡ (nat_lt x (length box.sheet.clubs) && not (below x)))
    → ((x : ℕ) → most_below x ≡ (nat_lt x (length box.sheet.clubs) && not (above x)))
    → refutes_with box question most_above most_below ≡ false
    → false ≡ refutes_surely box question
unfolding sure_order
open_by_points box question above below most_above most_below above_is below_is most_above_is
    most_below_is open_still =
    sym (false_from_ne_true (refutes_surely box question) (λ refuted.
    false≢true (sym open_still
    ∙ refutes_more box question (is_surely_above box.sheet box.season question box.zone)
    (is_surely_below box.sheet box.season question box.zone) most_above most_below
    (λ x within is.
    most_above_is x
    ∙ and_from (nat_lt x (length box.sheet.clubs)) (not (below x))
    (lt-ltb x _ (rival_below box.sheet question.club x within))
    (ap not (below_is x ∙ ap (λ b. nat_lt x (length box.sheet.clubs) && b) (not_below
    (sure_by_points box.sheet box.season (options_in_box box) x question.club) _ is)
    ∙ and_false (nat_lt x (length box.sheet.clubs)))))
    (λ x within is.
    most_below_is x
    ∙ and_from (nat_lt x (length box.sheet.clubs)) (not (above x))
    (lt-ltb x _ (rival_below box.sheet question.club x within))
    (ap not (above_is x ∙ ap (λ b. nat_lt x (length box.sheet.clubs) && b) (not_above
    (sure_by_points box.sheet box.season (options_in_box box) x question.club) _ is)
    ∙ and_false (nat_lt x (length box.sheet.clubs)))))
    refuted)))
  where
    and_false : (b : Bool) → (b && false) ≡ false
    and_false true = refl
    and_false false = refl
