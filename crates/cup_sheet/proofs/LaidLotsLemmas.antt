-- Groups one after another: what a group has of a part of each.
use Rattle.std.proofs.Common.{◌≡◌, ◌≤◌, ◌⊎◌, inl, inr, ℕ, ◌+◌, true, false}
use Rattle.std.proofs.Common.{List, [], ◌∷◌, ◌++◌, filter, map, refl, ap, ◌∙◌, arith, subst}
use Rattle.std.proofs.Common.{append_assoc, append-nil, nat_lt}
use Rattle.std.specs.List.{list_all}
use Rattle.std.proofs.lemmas.Bool.{and_parts}
use Rattle.std.proofs.lemmas.Bool.Decides.{nat_tests}
use Rattle.std.proofs.lemmas.List.Elements.{filter-append}
use Rattle.cup_sheet.specs.JointFinishes.{ClubBlock, is_in_block, number_in_cup}
use Rattle.cup_sheet.specs.LotLaws.{GroupLots, own_lots, part_of_each, AreLaid}
use Rattle.cup_sheet.proofs.CupLotsLemmas.{lots_below}

-- the group has each of its clubs
own_club : (group : ClubBlock) (club : ℕ) → nat_lt club group.count ≡ true
    → is_in_block group (number_in_cup group club) ≡ true
own_club group club below = grind (arith, nat_tests, below)

-- no group has a club of another that ends before it, or begins after it
other_club : (group other : ClubBlock) (club : ℕ)
    → (other.first + other.count ≤ group.first) ⊎ (group.first + group.count ≤ other.first)
    → nat_lt club other.count ≡ true → is_in_block group (number_in_cup other club) ≡ false
other_club group other club (inl apart) below = grind (arith, nat_tests, below)
other_club group other club (inr apart) below = grind (arith, nat_tests, below)

-- of its own clubs a group keeps all
own_kept : (group : ClubBlock) (clubs : List ℕ)
    → list_all (λ club. nat_lt club group.count) clubs ≡ true
    → filter (is_in_block group) (map (number_in_cup group) clubs) ≡ map (number_in_cup group) clubs
own_kept group [] below = refl
own_kept group (club ∷ clubs) below =
    let parts = and_parts (nat_lt club group.count)
    (list_all (λ it. nat_lt it group.count) clubs) below in
    rw (own_club group club parts.0, own_kept group clubs parts.1) refl

-- of another's clubs it keeps none
other_dropped : (group other : ClubBlock) (clubs : List ℕ)
    → (other.first + other.count ≤ group.first) ⊎ (group.first + group.count ≤ other.first)
    → list_all (λ club. nat_lt club other.count) clubs ≡ true
    → filter (is_in_block group) (map (number_in_cup other) clubs) ≡ []
other_dropped group other [] apart below = refl
other_dropped group other (club ∷ clubs) apart below =
    let parts = and_parts (nat_lt club other.count)
    (list_all (λ it. nat_lt it other.count) clubs) below in
    rw (other_club group other club apart parts.0, other_dropped group other clubs apart parts.1)
    refl

-- a part of the lots of each group
abbrev pub IsPart : (GroupLots → List ℕ) → Type 0
IsPart part = (it : GroupLots)
    → list_all (λ club. nat_lt club it.block.count) (own_lots it) ≡ true
    → list_all (λ club. nat_lt club it.block.count) (part it) ≡ true

-- a group keeps nothing of those after it
later_dropped : (part : GroupLots → List ℕ) → IsPart part → (group : ClubBlock) (from : ℕ)
    (groups : List GroupLots) → group.first + group.count ≤ from → AreLaid from groups
    → filter (is_in_block group) (part_of_each part groups) ≡ []
later_dropped part is group from [] ends laid = refl
later_dropped part is group from (it ∷ later) ends laid =
    let below = is it (lots_below it.block.count (own_lots it) laid.1) in
    filter-append (is_in_block group) (map (number_in_cup it.block) (part it))
    (part_of_each part later)
    ∙ ap (λ front. front ++ filter (is_in_block group) (part_of_each part later))
    (other_dropped group it.block (part it) (inr (omega (arith, laid.0))) below)
    ∙ later_dropped part is group (from + it.block.count) later (omega arith) laid.2

-- each group keeps of a list its part
abbrev pub AllKept : (GroupLots → List ℕ) → List ℕ → List GroupLots → Type 0
AllKept part clubs [] = Unit {0}
AllKept part clubs (it ∷ later) =
    (filter (is_in_block it.block) clubs ≡ map (number_in_cup it.block) (part it))
    × AllKept part clubs later

-- after clubs of earlier groups
kept_after : (part : GroupLots → List ℕ) → IsPart part → (from : ℕ) (groups : List GroupLots)
    (front : List ℕ) → AreLaid from groups
    → ((group : ClubBlock) → from ≤ group.first → filter (is_in_block group) front ≡ [])
    → AllKept part (front ++ part_of_each part groups) groups
kept_after part is from [] front laid earlier = tt
kept_after part is from (it ∷ later) front laid earlier =
    let own = map (number_in_cup it.block) (part it) in
    let rest = part_of_each part later in
    let below = is it (lots_below it.block.count (own_lots it) laid.1) in
    let P : List ℕ → Type 0 = λ clubs. AllKept part clubs later in (
      filter-append (is_in_block it.block) front (own ++ rest)
          ∙ ap (λ kept. kept ++ filter (is_in_block it.block) (own ++ rest))
          (earlier it.block (omega (arith, laid.0)))
          ∙ filter-append (is_in_block it.block) own rest
          ∙ ap (λ kept. kept ++ filter (is_in_block it.block) rest)
          (own_kept it.block (part it) below)
          ∙ ap (λ kept. own ++ kept) (later_dropped part is it.block (from + it.block.count) later
          (omega (arith, laid.0)) laid.2)
          ∙ append-nil own,
      subst P (append_assoc front own rest) (kept_after part is (from + it.block.count) later
          (front ++ own) laid.2 (λ group begins.
          filter-append (is_in_block group) front own
          ∙ ap (λ kept. kept ++ filter (is_in_block group) own) (earlier group (omega arith))
          ∙ other_dropped group it.block (part it) (inl (omega (arith, laid.0))) below)),
    )

-- each group keeps of all parts its own
pub all_kept : (part : GroupLots → List ℕ) → IsPart part → (groups : List GroupLots)
    → AreLaid 0 groups → AllKept part (part_of_each part groups) groups
all_kept part is groups laid = kept_after part is 0 groups [] laid (λ group begins. refl)
