-- How often the head-to-head record is taken at most is no part of the meaning: as many times as
-- the group has clubs are enough, and so lead and standing meet the recursion that they stand for.
use Rattle.std.proofs.Common.{◌≡◌, ◌≢◌, ℕ, zero, suc, ◌≤◌, Bool, true, false, ◌==◌, cond, List, []}
use Rattle.std.proofs.Common.{◌∷◌, length, Ordering, is_eq, refl, sym, ◌∙◌, ap, subst, arith}
use Rattle.std.proofs.lemmas.Bool.{false≢true, eqb-true, eqb-false}
use Rattle.std.proofs.lemmas.Cmp.{tied_itself}
use Rattle.std.proofs.lemmas.List.Sums.{length-filter, count_by-le-length}
use Rattle.std.proofs.lemmas.Map.Views.{any-filter_same}
use Rattle.std.specs.Ordering.{ordering_then}
use Rattle.league_core.specs.declared.sheet.Sheet.{Sheet}
use Rattle.league_core.specs.declared.sheet.Order.{Order}
use Rattle.league_core.specs.declared.sheet.Order.TheVariants.{HeadFirst, OverallFirst}
use Rattle.league_core.specs.game.Results.{Results}
use Rattle.league_core.specs.game.Sums.{has_club, sum_of, goal_difference, goals}
use Rattle.league_core.specs.game.HeadToHead.{greater_first, by_head_to_head, are_level_in}
use Rattle.league_core.specs.game.HeadToHead.{level_with}
use Rattle.league_core.specs.game.Ahead.{by_overall, lead_within, lead_in, by_first_sums}
use Rattle.league_core.specs.game.Ahead.{are_level_overall, level_overall, standing_by}
use Rattle.league_core.specs.laws.StandingLaws.{lead_by_the_rule, standing_by_the_rule}
use Rattle.league_core.proofs.StandingLemmas.{by_head_to_head_total, by_first_sums_total}
use Rattle.league_core.proofs.plain.Orderings.{then_agree, then-two}

-- the clubs level with one are no more than the group
pub level_with-le : (sheet : Sheet) (season : Results) (group : List ℕ) (club : ℕ)
    → length (level_with sheet season group club) ≤ length group
level_with-le sheet season group club =
    let level = are_level_in sheet season group club in
    omega (arith, length-filter level group, count_by-le-length level group)

-- a club of the group is level with itself
pub level_with-itself : (sheet : Sheet) (season : Results) (group : List ℕ) (club : ℕ)
    → has_club group club ≡ true → has_club (level_with sheet season group club) club ≡ true
level_with-itself sheet season group club has =
    any-filter_same (λ member. member == club) (are_level_in sheet season group club) true
    (λ k same. subst (λ (x : ℕ). are_level_in sheet season group club x ≡ true)
    (sym (eqb-true k club same))
    (ap is_eq (tied_itself (by_head_to_head_total sheet season group) club))) group
    ∙ has

no_club : (group : List ℕ) (club : ℕ) → has_club group club ≡ true → length group ≤ 0 → ⊥
no_club [] club has none = false≢true has
no_club (member ∷ group) club has none = omega arith

-- the standing that is met next: here if the group is whole, else further on
abbrev chosen : Bool → Ordering → Ordering → Ordering
chosen whole here further = elim whole [ true ↦ here | false ↦ further ]

same_choice : (whole : Bool) (here further other : Ordering) → (whole ≡ false → further ≡ other)
    → chosen whole here further ≡ chosen whole here other
same_choice true here further other h = refl
same_choice false here further other h = h refl

as_if : (whole : Bool) (here further : Ordering)
    → chosen whole here further ≡ cond whole here further
as_if true here further = refl
as_if false here further = refl

-- two numbers of times that are both enough give one lead
pub lead_within-enough : (times more : ℕ) (sheet : Sheet) (season : Results) (group : List ℕ)
    (club other : ℕ) → has_club group club ≡ true → length group ≤ times → length group ≤ more
    → lead_within times sheet season group club other
    ≡ lead_within more sheet season group club other
lead_within-enough zero more sheet season group club other has low high = absurd
    (no_club group club has low)
lead_within-enough (suc times) zero sheet season group club other has low high = absurd
    (no_club group club has high)
lead_within-enough (suc times) (suc more) sheet season group club other has low high =
    let level = level_with sheet season group club in
    then_agree (by_head_to_head sheet season group club other) _ _
    (λ _. same_choice (length level == length group) (by_overall sheet season club other)
    (lead_within times sheet season level club other)
    (lead_within more sheet season level club other)
    (λ smaller.
    let fewer : length level ≢ length group = eqb-false (length level) (length group) smaller in
    let within : length level ≤ length group = level_with-le sheet season group club in
    lead_within-enough times more sheet season level club other
    (level_with-itself sheet season group club has) (omega arith) (omega arith)))

-- so the lead is the one by the rule
pub lead_in-again : (sheet : Sheet) (season : Results) (group : List ℕ) (club other : ℕ)
    → has_club group club ≡ true → lead_in sheet season group club other
    ≡ lead_by_the_rule sheet season group club other
lead_in-again sheet season group club other has =
    let level = level_with sheet season group club in
    let within : length level ≤ length group = level_with-le sheet season group club in
    lead_within-enough (length group) (suc (length group)) sheet season group club other has
    (omega arith) (omega arith)
    ∙ then_agree (by_head_to_head sheet season group club other) _ _
    (λ _. same_choice (length level == length group) (by_overall sheet season club other)
    (lead_within (length group) sheet season level club other)
    (lead_in sheet season level club other)
    (λ _. lead_within-enough (length group) (length level) sheet season level club other
    (level_with-itself sheet season group club has) within (omega arith))
    ∙ as_if (length level == length group) (by_overall sheet season club other)
    (lead_in sheet season level club other))

-- a club of the group shares its difference and goals with itself
pub level_overall-itself : (sheet : Sheet) (season : Results) (group : List ℕ) (club : ℕ)
    → has_club group club ≡ true → has_club (level_overall sheet season group club) club ≡ true
level_overall-itself sheet season group club has =
    any-filter_same (λ member. member == club) (are_level_overall sheet season club) true
    (λ k same. subst (λ (x : ℕ). are_level_overall sheet season club x ≡ true)
    (sym (eqb-true k club same))
    (ap is_eq (tied_itself (by_first_sums_total sheet season) club))) group
    ∙ has

-- and the standing is the one by the rule, for either order
pub standing_by-again : (order : Order) (sheet : Sheet) (season : Results) (group : List ℕ)
    (club other : ℕ) → has_club group club ≡ true → standing_by order sheet season group club other
    ≡ standing_by_the_rule order sheet season group club other
standing_by-again HeadFirst sheet season group club other has =
    lead_in-again sheet season group club other has
standing_by-again OverallFirst sheet season group club other has =
    let level = level_overall sheet season group club in
    ap (ordering_then (by_first_sums sheet season club other))
    (lead_in-again sheet season level club other
    (level_overall-itself sheet season group club has))
    ∙ then-two
    (greater_first (sum_of goal_difference sheet season club)
    (sum_of goal_difference sheet season other))
    (greater_first (sum_of goals sheet season club) (sum_of goals sheet season other))
    (lead_by_the_rule sheet season level club other)
