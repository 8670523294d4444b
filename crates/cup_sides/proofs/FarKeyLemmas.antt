-- At the key that is beyond all no group has a candidate on the far side: each part of a key is
-- within that number, and the part of the fixed rank is not that number.
use Rattle.std.proofs.Common.{◌≡◌, ℕ, zero, suc, ◌<◌, ℤ, pos, ◌-ℤ◌, ◌≤◌, ◌==◌, true}
use Rattle.std.proofs.Common.{List, [], ◌∷◌, length, replicate, refl, sym, ap, subst}
use Rattle.std.proofs.Common.{inl, inr, Some, arith}
use Rattle.std.specs.Prelude.{All, slice_get, IsTrue}
use Rattle.std.proofs.lemmas.Bool.{and_parts}
use Rattle.std.proofs.lemmas.Int.{ints}
use Rattle.std.proofs.lemmas.Option.{none-some, same_Some, slice_get_within, get_or_from_slice_get}
use Rattle.league_core.specs.declared.sheet.Sheet.{Sheet}
use Rattle.league_core.specs.declared.question.Claim.{Claim}
use Rattle.league_core.specs.declared.question.Claim.TheVariants.{Inside, Outside}
use Rattle.league_core.specs.game.Ahead.{rank_of}
use Rattle.league_core.specs.game.Ranking.{place_of}
use Rattle.league_core.specs.game.Results.{Results, are_results}
use Rattle.league_core.specs.game.Sheets.{IsWithinLimits}
use Rattle.league_core.specs.inside.Extents.{IsNearZero}
use Rattle.league_core.specs.search.Keys.{key_of, is_key_from, rank_part}
use Rattle.tree_arena.specs.declared.example.Example.{Example}
use Rattle.cup_sheet.specs.declared.cup.Cup.{Cup}
use Rattle.cup_sheet.specs.CupAnswers.{shown_groups}
use Rattle.cup_sheet.specs.CupLimits.{direct_places}
use Rattle.cup_sheet.specs.Cups.{IsCup, IsGroup}
use Rattle.cup_sheet.specs.GroupQuestions.{holds_in_group}
use Rattle.cup_sheet.specs.KeyBounds.{far_key, far_part, others_kind, IsBeyond}
use Rattle.cup_laws.specs.inside.CupTruths.{AreCupResults}
use Rattle.turning_keys.proofs.FartherLemmas.{IsFartherIn, IsNoFartherIn, to_parts}
use Rattle.turning_keys.specs.inside.TurningLaws.{AreWithinFar}
use Rattle.turning_keys.proofs.KeyBoundLemmas.{key_within, rank_within}
use Rattle.runners_up.specs.declared.survey.GroupSurvey.{GroupSurvey}
use Rattle.runners_up.specs.inside.GroupSurveys.{IsSurveyed}
use Rattle.runners_up.specs.inside.JointEnds.{AreGroupEnds, IsGroupEnd, HasFarCandidate}
use Rattle.runners_up.specs.inside.JointEnds.{IsShownGroup}

-- ---- keys

-- no number within it is farther out
none_farther : (claim : Claim) (part : ℤ) → IsNearZero 100000 part
    → IsFartherIn claim (far_part claim) part → ⊥
none_farther Outside part near farther = omega (arith, ints, near.1, farther)
none_farther Inside part near farther = omega (arith, ints, near.0, farther)

-- a key within it that is no farther in than the key beyond all is that key
same_as_far : (claim : Claim) (count : ℕ) (key : List ℤ) → AreWithinFar key
    → IsNoFartherIn claim (replicate count (far_part claim)) key
    → key ≡ replicate count (far_part claim)
same_as_far claim zero [] near is = refl
same_as_far claim zero (part ∷ parts) near is = absurd is
same_as_far claim (suc count) [] near is = absurd is
same_as_far claim (suc count) (part ∷ parts) near is =
    elim is as (λ _. part ∷ parts ≡ far_part claim ∷ replicate count (far_part claim)) [
      | inl farther ↦ absurd (none_farther claim part near.0 farther)
      | inr both ↦ let rest = same_as_far claim count parts near.1 both.1 in
          (λ i. sym both.0 i ∷ rest i)
    ]

-- the part of the fixed rank is not so far out
rank_not_far : (claim : Claim) (rank : ℕ) → rank ≤ 999 → (pos 1000 -ℤ pos rank) ≡ far_part claim
    → ⊥
rank_not_far Outside rank few same = omega (arith, ints, same)
rank_not_far Inside rank few same = omega (arith, ints, few, same)

-- ---- clubs

-- a candidate on the far side has a key beyond the bound
far_is_beyond : (claim : Claim) (sheet : Sheet) (bound : List ℤ) (other : ℕ) (finish : Results)
    (lots : List ℕ) → IsTrue (holds_in_group direct_places sheet
    (record { kind = others_kind claim; club = other; key = bound }) finish lots)
    → IsBeyond claim bound (key_of sheet finish other)
far_is_beyond Outside sheet bound other finish lots holds =
    (and_parts (place_of sheet finish lots other == 2)
    (is_key_from bound (key_of sheet finish other)) holds).1
far_is_beyond Inside sheet bound other finish lots holds =
    (and_parts (place_of sheet finish lots other == 2)
    (is_key_from (key_of sheet finish other) bound) holds).1

-- no group ends with one on the far side of the key beyond all
none_far : (claim : Claim) (sheet : Sheet) (season : Results) (end : Example)
    → IsWithinLimits sheet → are_results season ≡ true → IsGroupEnd sheet season end
    → HasFarCandidate claim (far_key claim) sheet end → ⊥
none_far claim sheet season end limits results is far =
    let other = far.0 in
    let key = key_of sheet end.finish other in
    let same : key ≡ far_key claim = same_as_far claim 7 key
    (key_within sheet season end.finish other limits results is.is_finish)
    (to_parts claim (far_key claim) key refl
    (far_is_beyond claim sheet (far_key claim) other end.finish end.lots far.2)) in
    rank_not_far claim (rank_of sheet other) (rank_within sheet.clubs other limits.clubs)
    (same_Some (rank_part sheet other) (far_part claim)
    (ap (λ (it : List ℤ). slice_get it 6) same))

-- ---- groups

-- a group with its end has its season
end_at : (groups : List Sheet) (seasons : List Results) (ends : List Example) (number : ℕ)
    (sheet : Sheet) (end : Example) → AreGroupEnds groups seasons ends
    → slice_get groups number ≡ Some sheet → slice_get ends number ≡ Some end
    → (season : Results) × (slice_get seasons number ≡ Some season)
    × IsGroupEnd sheet season end
end_at [] seasons ends number sheet end each there ends_there = absurd (none-some sheet there)
end_at (group ∷ groups) [] ends number sheet end each there ends_there = absurd each
end_at (group ∷ groups) (own ∷ seasons) [] number sheet end each there ends_there = absurd each
end_at (group ∷ groups) (own ∷ seasons) (one ∷ ends) zero sheet end each there ends_there = (
  own,
  refl,
  subst (λ (it : Example). IsGroupEnd sheet own it) (same_Some one end ends_there)
      (subst (λ (it : Sheet). IsGroupEnd it own one) (same_Some group sheet there) each.0),
)
end_at (group ∷ groups) (own ∷ seasons) (one ∷ ends) (suc number) sheet end each there
    ends_there = end_at groups seasons ends number sheet end each.1 there ends_there

-- what holds of each holds of one that is there
one_of_all : {X : Type 0} (P : X → Type 0) (xs : List X) (k : ℕ) (x : X) → All P xs
    → slice_get xs k ≡ Some x → P x
one_of_all P xs k x all there =
    subst P (get_or_from_slice_get xs k x x there) (all k x (slice_get_within xs k x there))

-- a list of what nothing is has none
none_listed : {X : Type 0} (P : X → Type 0) → ((x : X) → P x → ⊥) → (xs : List X) → All P xs
    → length xs ≡ 0
none_listed P none [] all = refl
none_listed P none (x ∷ xs) all = absurd (none x (all 0 x (omega arith)))

-- so no group is shown at that key
pub none_shown : (cup : Cup) (seasons : List Results) (claim : Claim) (key : List ℤ) (mine : ℕ)
    (before : List Example) (count : ℕ) (survey : GroupSurvey) → IsCup cup
    → AreCupResults seasons → key ≡ far_key claim
    → IsSurveyed cup seasons claim key mine before count survey
    → length survey.shown.items ≡ 0
none_shown cup seasons claim key mine before count survey is_cup results far is =
    none_listed (IsShownGroup cup survey.ends.items claim mine key)
    (λ number shown.
    let end = end_at cup.groups seasons survey.ends.items number shown.0 shown.1 is.each
    shown.2 shown.3 in
    let group = one_of_all (IsGroup is_cup.groups.0 is_cup.groups.1) cup.groups number shown.0
    is_cup.groups.2 shown.2 in
    none_far claim shown.0 end.0 shown.1 group.limits
    (one_of_all (λ (it : Results). IsTrue (are_results it)) seasons number end.0 results
    end.1) end.2
    (subst (λ (it : List ℤ). HasFarCandidate claim it shown.0 shown.1) far shown.5))
    survey.shown.items is.shown

-- ---- how many are shown

-- none is too few
pub none_is_few : (cup : Cup) (claim : Claim) (shown : ℕ) → IsCup cup → shown ≡ 0
    → shown < shown_groups cup claim
none_is_few cup Outside shown is_cup none = omega (arith, is_cup.least_quota, none)
none_is_few cup Inside shown is_cup none = omega (arith, is_cup.most_quota, none)
