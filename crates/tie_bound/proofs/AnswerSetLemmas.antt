-- Answers as three sets: how they change with the sets.
use Rattle.std.proofs.Common.{◌≡◌, ℕ, Bool, true, false, not, ◌&&◌, ◌||◌, ◌==◌, cond, []}
use Rattle.std.proofs.Common.{List, refl, sym, ap, ◌∙◌, arith}
use Rattle.std.proofs.lemmas.Bool.{eqb-true}
use Rattle.league_core.specs.declared.sure.Sure.{Sure}
use Rattle.league_core.specs.declared.sure.Sure.TheVariants.{Above, Below, Level, Unknown}
use Rattle.league_core.specs.game.Sums.{has_club}
use Rattle.league_core.specs.game.ClubSets.{clubs_in}
use Rattle.league_core.specs.search.SureOrder.{sure_then, is_above, is_below, is_level}
use Rattle.tie_bound.specs.declared.answer_sets.Answers.{Answers}
use Rattle.tie_bound.specs.inside.Answers.{in_sets, answer_at, is_answer, IsStepIn}

-- the answer of a club, from which of the sets have it
pub answer_is : (answers : Answers) (club : ℕ) (above below level : Bool)
    → has_club (clubs_in answers.above) club ≡ above
    → has_club (clubs_in answers.below) club ≡ below
    → has_club (clubs_in answers.level) club ≡ level
    → answer_at answers club ≡ in_sets above below level
unfolding answer_at
answer_is answers club above below level in_above in_below in_level =
    ap (λ b. in_sets b (has_club (clubs_in answers.below) club)
    (has_club (clubs_in answers.level) club)) in_above
    ∙ ap (λ b. in_sets above b (has_club (clubs_in answers.level) club)) in_below
    ∙ ap (in_sets above below) in_level

-- in none of the sets
pub none_of : (above below level : Bool) → above ≡ false → below ≡ false → level ≡ false
    → in_sets above below level ≡ Unknown
none_of above below level no_above no_below no_level = rw (no_above, no_below, no_level) refl

pub open_answers : (answers : Answers) → clubs_in answers.above ≡ [] → clubs_in answers.below ≡ []
    → clubs_in answers.level ≡ [] → (club : ℕ) → answer_at answers club ≡ Unknown
unfolding answer_at
open_answers answers above below level club =
    none_of (has_club (clubs_in answers.above) club) (has_club (clubs_in answers.below) club)
    (has_club (clubs_in answers.level) club) (ap (λ xs. has_club xs club) above)
    (ap (λ xs. has_club xs club) below) (ap (λ xs. has_club xs club) level)

-- with the answer of one club more
with_one : (here above below level : Bool) (answer : Sure)
    → (here ≡ true → in_sets above below level ≡ Unknown)
    → in_sets (above || (is_answer Above answer && here))
    (below || (is_answer Below answer && here)) (level || (is_answer Level answer && here))
    ≡ cond here answer (in_sets above below level)
with_one true true below level answer nothing = absurd (above_is (nothing refl))
  where
    above_is : Above ≡ Unknown → ⊥
    above_is same = absurd (cc)
with_one true false true level answer nothing = absurd (below_is (nothing refl))
  where
    below_is : Below ≡ Unknown → ⊥
    below_is same = absurd (cc)
with_one true false false true answer nothing = absurd (level_is (nothing refl))
  where
    level_is : Level ≡ Unknown → ⊥
    level_is same = absurd (cc)
with_one true false false false Above nothing = refl
with_one true false false false Below nothing = refl
with_one true false false false Level nothing = refl
with_one true false false false Unknown nothing = refl
with_one false above below level answer nothing =
    ap (λ b. in_sets b (below || (is_answer Below answer && false))
    (level || (is_answer Level answer && false))) (stays above (is_answer Above answer))
    ∙ ap (λ b. in_sets above b (level || (is_answer Level answer && false)))
    (stays below (is_answer Below answer))
    ∙ ap (in_sets above below) (stays level (is_answer Level answer))
  where
    stays : (b c : Bool) → (b || (c && false)) ≡ b
    stays true c = refl
    stays false true = refl
    stays false false = refl

pub answers_with : (old new : Answers) (club : ℕ) (answer : Sure) (above below level : Bool)
    → answer_at old club ≡ Unknown → above ≡ is_answer Above answer
    → below ≡ is_answer Below answer → level ≡ is_answer Level answer
    → ((x : ℕ) → has_club (clubs_in new.above) x
    ≡ (has_club (clubs_in old.above) x || (above && (club == x))))
    → ((x : ℕ) → has_club (clubs_in new.below) x
    ≡ (has_club (clubs_in old.below) x || (below && (club == x))))
    → ((x : ℕ) → has_club (clubs_in new.level) x
    ≡ (has_club (clubs_in old.level) x || (level && (club == x))))
    → (x : ℕ) → answer_at new x ≡ cond (club == x) answer (answer_at old x)
unfolding answer_at
answers_with old new club answer above below level nothing above_is below_is level_is in_above
    in_below in_level x =
    ap (λ b. in_sets b (has_club (clubs_in new.below) x) (has_club (clubs_in new.level) x))
    (in_above x ∙ ap (λ b. has_club (clubs_in old.above) x || (b && (club == x))) above_is)
    ∙ ap (λ b. in_sets (has_club (clubs_in old.above) x
    || (is_answer Above answer && (club == x))) b (has_club (clubs_in new.level) x))
    (in_below x ∙ ap (λ b. has_club (clubs_in old.below) x || (b && (club == x))) below_is)
    ∙ ap (in_sets (has_club (clubs_in old.above) x || (is_answer Above answer && (club == x)))
    (has_club (clubs_in old.below) x || (is_answer Below answer && (club == x))))
    (in_level x ∙ ap (λ b. has_club (clubs_in old.level) x || (b && (club == x))) level_is)
    ∙ with_one (club == x) (has_club (clubs_in old.above) x) (has_club (clubs_in old.below) x)
    (has_club (clubs_in old.level) x) answer
    (λ same. ap (λ k. in_sets (has_club (clubs_in old.above) k)
    (has_club (clubs_in old.below) k) (has_club (clubs_in old.level) k))
    (sym (eqb-true club x same)) ∙ nothing)

-- what is said next counts in the group, if nothing is decided so far
then_one : (above below level inside next_above next_below next_level : Bool)
    → (let open_ = (level && not (above || below)) && inside in
    in_sets (above || (open_ && next_above)) (below || (open_ && next_below))
    ((level && not open_) || (open_ && next_level)))
    ≡ cond inside (sure_then (in_sets above below level)
    (in_sets next_above next_below next_level)) (in_sets above below level)
then_one above below level inside next_above next_below next_level = grind (arith)

pub answers_then : (old next new : Answers) (group : List ℕ) (open_ : ℕ → Bool)
    → ((x : ℕ) → open_ x ≡ ((has_club (clubs_in old.level) x
    && not (has_club (clubs_in old.above) x || has_club (clubs_in old.below) x))
    && has_club group x))
    → ((x : ℕ) → has_club (clubs_in new.above) x
    ≡ (has_club (clubs_in old.above) x || (open_ x && has_club (clubs_in next.above) x)))
    → ((x : ℕ) → has_club (clubs_in new.below) x
    ≡ (has_club (clubs_in old.below) x || (open_ x && has_club (clubs_in next.below) x)))
    → ((x : ℕ) → has_club (clubs_in new.level) x
    ≡ ((has_club (clubs_in old.level) x && not (open_ x))
    || (open_ x && has_club (clubs_in next.level) x)))
    → IsStepIn group (answer_at next) old new
unfolding answer_at
answers_then old next new group open_ open_is in_above in_below in_level = record {
  inside = λ x has. at x
      ∙ ap (λ b. cond b (sure_then (was x) (said x)) (was x)) has;
  outside = λ x out. at x
      ∙ ap (λ b. cond b (sure_then (was x) (said x)) (was x)) out;
}
  where
    was : ℕ → Sure
    was x = in_sets (has_club (clubs_in old.above) x) (has_club (clubs_in old.below) x)
        (has_club (clubs_in old.level) x)

    said : ℕ → Sure
    said x = in_sets (has_club (clubs_in next.above) x) (has_club (clubs_in next.below) x)
        (has_club (clubs_in next.level) x)

    at : (x : ℕ) → in_sets (has_club (clubs_in new.above) x) (has_club (clubs_in new.below) x)
        (has_club (clubs_in new.level) x)
        ≡ cond (has_club group x) (sure_then (was x) (said x)) (was x)
    at x =
        ap (λ b. in_sets b (has_club (clubs_in new.below) x) (has_club (clubs_in new.level) x))
        (in_above x
        ∙ ap (λ b. has_club (clubs_in old.above) x || (b && has_club (clubs_in next.above) x))
        (open_is x))
        ∙ ap (λ b. in_sets (has_club (clubs_in old.above) x
        || (((has_club (clubs_in old.level) x
        && not (has_club (clubs_in old.above) x || has_club (clubs_in old.below) x))
        && has_club group x) && has_club (clubs_in next.above) x)) b
        (has_club (clubs_in new.level) x))
        (in_below x
        ∙ ap (λ b. has_club (clubs_in old.below) x || (b && has_club (clubs_in next.below) x))
        (open_is x))
        ∙ ap (in_sets (has_club (clubs_in old.above) x
        || (((has_club (clubs_in old.level) x
        && not (has_club (clubs_in old.above) x || has_club (clubs_in old.below) x))
        && has_club group x) && has_club (clubs_in next.above) x))
        (has_club (clubs_in old.below) x
        || (((has_club (clubs_in old.level) x
        && not (has_club (clubs_in old.above) x || has_club (clubs_in old.below) x))
        && has_club group x) && has_club (clubs_in next.below) x)))
        (in_level x
        ∙ ap (λ b. (has_club (clubs_in old.level) x && not b)
        || (b && has_club (clubs_in next.level) x)) (open_is x))
        ∙ then_one (has_club (clubs_in old.above) x) (has_club (clubs_in old.below) x)
        (has_club (clubs_in old.level) x) (has_club group x) (has_club (clubs_in next.above) x)
        (has_club (clubs_in next.below) x) (has_club (clubs_in next.level) x)

-- ---- the sets of each answer

pub above_of : (answers : Answers) (x : ℕ)
    → has_club (clubs_in answers.above) x ≡ is_above (answer_at answers x)
unfolding answer_at
above_of answers x = at (has_club (clubs_in answers.above) x)
    (has_club (clubs_in answers.below) x) (has_club (clubs_in answers.level) x)
  where
    at : (a b l : Bool) → a ≡ is_above (in_sets a b l)
    at true b l = refl
    at false true l = refl
    at false false true = refl
    at false false false = refl

pub below_of : (answers : Answers) (x : ℕ)
    → (has_club (clubs_in answers.below) x && not (has_club (clubs_in answers.above) x))
    ≡ is_below (answer_at answers x)
unfolding answer_at
below_of answers x = at (has_club (clubs_in answers.above) x)
    (has_club (clubs_in answers.below) x) (has_club (clubs_in answers.level) x)
  where
    at : (a b l : Bool) → (b && not a) ≡ is_below (in_sets a b l)
    at true true l = refl
    at true false l = refl
    at false true l = refl
    at false false true = refl
    at false false false = refl

pub level_of : (answers : Answers) (x : ℕ) (low : Bool)
    → ((has_club (clubs_in answers.level) x && not (has_club (clubs_in answers.above) x
    || has_club (clubs_in answers.below) x)) && low)
    ≡ (low && is_level (answer_at answers x))
unfolding answer_at
level_of answers x low = at (has_club (clubs_in answers.above) x)
    (has_club (clubs_in answers.below) x) (has_club (clubs_in answers.level) x) low
  where
    at : (a b l low : Bool) → ((l && not (a || b)) && low) ≡ (low && is_level (in_sets a b l))
    at a b l low = grind (arith)
