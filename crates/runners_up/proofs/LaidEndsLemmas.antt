-- Ends of the groups one after another: the state of each, and what it has of the lots.
use Rattle.std.proofs.Common.{◌≡◌, ◌<◌, ◌≤◌, ℕ, zero, suc, ◌+◌, ◌-◌, true, false, ◌==◌}
use Rattle.std.proofs.Common.{List, [], ◌∷◌, ◌++◌, length, map, filter, Some, refl, sym, ap}
use Rattle.std.proofs.Common.{◌∙◌, subst, arith, nat_lt, append-nil, inl, inr, ◌||◌}
use Rattle.std.specs.Prelude.{slice_get, All}
use Rattle.std.specs.List.{list_all}
use Rattle.std.proofs.lemmas.Bool.{false≢true, and_parts, or_left, or_right, or_cases, eq-eqb}
use Rattle.std.proofs.lemmas.Bool.{eqb-true, ltb-true, ltb-false, cases_Bool}
use Rattle.std.proofs.lemmas.Bool.Decides.{nat_tests}
use Rattle.std.proofs.lemmas.List.{length-append, length-map}
use Rattle.std.proofs.lemmas.List.Elements.{filter-append}
use Rattle.std.proofs.lemmas.Option.{none-some, same_Some}
use Rattle.league_core.specs.declared.sheet.Sheet.{Sheet}
use Rattle.league_core.specs.game.Results.{Results}
use Rattle.league_core.specs.game.Sums.{has_club}
use Rattle.league_core.specs.game.Ranking.{are_lots}
use Rattle.league_core.proofs.ClubLemmas.{has_club-append}
use Rattle.league_core.proofs.RankingLemmas.{lots_have}
use Rattle.tree_arena.specs.declared.example.Example.{Example}
use Rattle.cup_sheet.specs.Cups.{IsGroup, clubs_together}
use Rattle.cup_sheet.specs.JointFinishes.{ClubBlock, is_in_block, number_in_cup, GroupState}
use Rattle.cup_sheet.specs.JointFinishes.{states_from, AreFinishesOf}
use Rattle.cup_sheet.proofs.CupLotsLemmas.{as_many_lots, lots_below}
use Rattle.runners_up.specs.inside.JointEnds.{AreGroupEnds, group_finishes, lots_from}
use Rattle.cup_groups.specs.GroupStarts.{clubs_before}
use Rattle.runners_up.specs.inside.JointEnds.{IsGroupEnd}

-- ---- the state of each group

-- a group with its end, after so many clubs
abbrev pub state_with : ℕ → Sheet → Example → GroupState
state_with first sheet end = record {
  block = record { first = first; count = length sheet.clubs };
  sheet = sheet;
  results = end.finish;
}

-- a group with its end stands in its place
pub state_there : (first : ℕ) (groups : List Sheet) (ends : List Example) (number : ℕ)
    (sheet : Sheet) (end : Example) → slice_get groups number ≡ Some sheet
    → slice_get ends number ≡ Some end
    → slice_get (states_from first groups (group_finishes ends)) number
    ≡ Some (state_with (first + clubs_before groups number) sheet end)
state_there first [] ends number sheet end there ends_there = absurd (none-some sheet there)
state_there first (group ∷ groups) [] number sheet end there ends_there =
    absurd (none-some end ends_there)
state_there first (group ∷ groups) (one ∷ ends) zero sheet end there ends_there =
    let same = same_Some group sheet there in
    let same_end = same_Some one end ends_there in
    let at : first ≡ first + 0 = omega arith in
    (λ i. Some (state_with (at i) (same i) (same_end i)))
state_there first (group ∷ groups) (one ∷ ends) (suc number) sheet end there ends_there =
    let at : (first + length group.clubs) + clubs_before groups number
    ≡ first + (length group.clubs + clubs_before groups number) = omega arith in
    state_there (first + length group.clubs) groups ends number sheet end there ends_there
    ∙ ap (λ (n : ℕ). Some (state_with n sheet end)) at

-- the ends have finishes of the groups
pub ends_finish : (groups : List Sheet) (seasons : List Results) (ends : List Example)
    → AreGroupEnds groups seasons ends → AreFinishesOf groups seasons (group_finishes ends)
ends_finish [] [] [] each = tt
ends_finish [] [] (end ∷ ends) each = absurd each
ends_finish [] (season ∷ seasons) ends each = absurd each
ends_finish (group ∷ groups) [] ends each = absurd each
ends_finish (group ∷ groups) (season ∷ seasons) [] each = absurd each
ends_finish (group ∷ groups) (season ∷ seasons) (end ∷ ends) each =
    (each.0.is_finish, ends_finish groups seasons ends each.1)

-- as many lots as clubs
drawn_count : (sheet : Sheet) (season : Results) (end : Example) → IsGroupEnd sheet season end
    → length end.lots ≡ length sheet.clubs
drawn_count sheet season end is = as_many_lots (length sheet.clubs) end.lots is.is_drawn

-- a later group with a club begins after an earlier one
pub before_rises : (goal_limit budget : ℕ) (groups : List Sheet) (one other : ℕ)
    → All (IsGroup goal_limit budget) groups → one < other → other < length groups
    → clubs_before groups one < clubs_before groups other
before_rises goal_limit budget [] one other are less inside = absurd (omega (arith, inside))
before_rises goal_limit budget (group ∷ groups) one zero are less inside =
    absurd (omega (arith, less))
before_rises goal_limit budget (group ∷ groups) zero (suc other) are less inside =
    let least = (are 0 group (omega arith)).least_clubs in
    omega (arith, least)
before_rises goal_limit budget (group ∷ groups) (suc one) (suc other) are less inside =
    let rest = before_rises goal_limit budget groups one other
    (λ k d below. are (suc k) d (omega (arith, below))) (omega (arith, less))
    (omega (arith, inside)) in
    omega (arith, rest)

-- ---- what a group has of the lots

-- of its own clubs it keeps all
own_stay : (block : ClubBlock) (clubs : List ℕ)
    → list_all (λ club. nat_lt club block.count) clubs ≡ true
    → filter (is_in_block block) (map (number_in_cup block) clubs) ≡ map (number_in_cup block) clubs
own_stay block [] below = refl
own_stay block (club ∷ clubs) below =
    let parts = and_parts (nat_lt club block.count)
    (list_all (λ it. nat_lt it block.count) clubs) below in
    let here : is_in_block block (number_in_cup block club) ≡ true =
    grind (arith, nat_tests, parts.0) in
    rw (here, own_stay block clubs parts.1) refl

-- of clubs that begin after it none
beyond_go : (block : ClubBlock) (first : ℕ) (clubs : List ℕ)
    → block.first + block.count ≤ first
    → filter (is_in_block block) (map (λ (club : ℕ). first + club) clubs) ≡ []
beyond_go block first [] ends = refl
beyond_go block first (club ∷ clubs) ends =
    let here : is_in_block block (first + club) ≡ false = grind (arith, nat_tests, ends) in
    rw (here, beyond_go block first clubs ends) refl

-- of clubs that end before it none
earlier_go : (block : ClubBlock) (first count : ℕ) (clubs : List ℕ) → first + count ≤ block.first
    → list_all (λ club. nat_lt club count) clubs ≡ true
    → filter (is_in_block block) (map (λ (club : ℕ). first + club) clubs) ≡ []
earlier_go block first count [] begins below = refl
earlier_go block first count (club ∷ clubs) begins below =
    let parts = and_parts (nat_lt club count) (list_all (λ it. nat_lt it count) clubs) below in
    let here : is_in_block block (first + club) ≡ false =
    grind (arith, nat_tests, begins, parts.0) in
    rw (here, earlier_go block first count clubs begins parts.1) refl

-- of groups that begin after it nothing
later_go : (block : ClubBlock) (first : ℕ) (ends : List Example)
    → block.first + block.count ≤ first → filter (is_in_block block) (lots_from first ends) ≡ []
later_go block first [] after = refl
later_go block first (end ∷ ends) after =
    filter-append (is_in_block block) (map (λ (club : ℕ). first + club) end.lots)
    (lots_from (first + length end.lots) ends)
    ∙ ap (λ front. front ++ filter (is_in_block block) (lots_from (first + length end.lots) ends))
    (beyond_go block first end.lots after)
    ∙ later_go block (first + length end.lots) ends (omega (arith, after))

-- a group keeps its own lots
pub group_keeps : (first : ℕ) (groups : List Sheet) (seasons : List Results) (ends : List Example)
    → AreGroupEnds groups seasons ends → (number : ℕ) (sheet : Sheet) (end : Example)
    → slice_get groups number ≡ Some sheet → slice_get ends number ≡ Some end
    → (block : ClubBlock) → block.first ≡ first + clubs_before groups number
    → block.count ≡ length sheet.clubs
    → filter (is_in_block block) (lots_from first ends) ≡ map (number_in_cup block) end.lots
group_keeps first [] seasons ends each number sheet end there ends_there block at wide =
    absurd (none-some sheet there)
group_keeps first (group ∷ groups) [] ends each number sheet end there ends_there block at wide =
    absurd each
group_keeps first (group ∷ groups) (season ∷ seasons) [] each number sheet end there ends_there
    block at wide =
    absurd each
group_keeps first (group ∷ groups) (season ∷ seasons) (one ∷ ends) each zero sheet end there
    ends_there block at wide =
    let p = is_in_block block in
    let same = same_Some group sheet there in
    let same_end = same_Some one end ends_there in
    let width : length group.clubs ≡ block.count =
    ap (λ (it : Sheet). length it.clubs) same ∙ sym wide in
    let begin : first ≡ block.first = omega (arith, at) in
    let many : length one.lots ≡ block.count = drawn_count group season one each.0 ∙ width in
    let below : list_all (λ club. nat_lt club block.count) one.lots ≡ true =
    subst (λ (n : ℕ). list_all (λ club. nat_lt club n) one.lots ≡ true) width
    (lots_below (length group.clubs) one.lots each.0.is_drawn) in
    let rest = lots_from (first + length one.lots) ends in
    filter-append p (map (λ (club : ℕ). first + club) one.lots) rest
    ∙ ap (λ back. filter p (map (λ (club : ℕ). first + club) one.lots) ++ back)
    (later_go block (first + length one.lots) ends (omega (arith, many, at)))
    ∙ append-nil (filter p (map (λ (club : ℕ). first + club) one.lots))
    ∙ ap (λ (n : ℕ). filter p (map (λ (club : ℕ). n + club) one.lots)) begin
    ∙ own_stay block one.lots below
    ∙ ap (λ (it : Example). map (number_in_cup block) it.lots) same_end
group_keeps first (group ∷ groups) (season ∷ seasons) (one ∷ ends) each (suc number) sheet end there
    ends_there block at wide =
    let p = is_in_block block in
    let many = drawn_count group season one each.0 in
    let front = map (λ (club : ℕ). first + club) one.lots in
    let rest = lots_from (first + length one.lots) ends in
    filter-append p front rest
    ∙ ap (λ start. start ++ filter p rest)
    (earlier_go block first (length group.clubs) one.lots (omega (arith, at))
    (lots_below (length group.clubs) one.lots each.0.is_drawn))
    ∙ group_keeps (first + length one.lots) groups seasons ends each.1 number sheet end there
    ends_there block (omega (arith, at, many)) wide

-- ---- all of the lots

-- there are as many as clubs
pub lots_count : (first : ℕ) (groups : List Sheet) (seasons : List Results) (ends : List Example)
    → AreGroupEnds groups seasons ends → length (lots_from first ends) ≡ clubs_together groups
lots_count first [] [] [] each = refl
lots_count first [] [] (end ∷ ends) each = absurd each
lots_count first [] (season ∷ seasons) ends each = absurd each
lots_count first (group ∷ groups) [] ends each = absurd each
lots_count first (group ∷ groups) (season ∷ seasons) [] each = absurd each
lots_count first (group ∷ groups) (season ∷ seasons) (end ∷ ends) each =
    omega (
      arith,
      length-append (map (λ (club : ℕ). first + club) end.lots)
          (lots_from (first + length end.lots) ends),
      length-map end.lots (λ (club : ℕ). first + club),
      drawn_count group season end each.0,
      lots_count (first + length end.lots) groups seasons ends each.1,
    )

-- what a list has, its image has
image_has : (f : ℕ → ℕ) (clubs : List ℕ) (club : ℕ) → has_club clubs club ≡ true
    → has_club (map f clubs) (f club) ≡ true
image_has f [] club has = absurd (false≢true has)
image_has f (first ∷ clubs) club has =
    elim (or_cases (first == club) (has_club clubs club) has) [
      | inl same ↦ or_left (f first == f club) (has_club (map f clubs) (f club))
          (eq-eqb (f first) (f club) (ap f (eqb-true first club same)))
      | inr later ↦ or_right (f first == f club) (has_club (map f clubs) (f club))
          (image_has f clubs club later)
    ]

-- each club is among them
pub lots_have_all : (first : ℕ) (groups : List Sheet) (seasons : List Results)
    (ends : List Example) → AreGroupEnds groups seasons ends → (club : ℕ) → first ≤ club
    → club < first + clubs_together groups → has_club (lots_from first ends) club ≡ true
lots_have_all first [] seasons ends each club low high = absurd (omega (arith, low, high))
lots_have_all first (group ∷ groups) [] ends each club low high = absurd each
lots_have_all first (group ∷ groups) (season ∷ seasons) [] each club low high = absurd each
lots_have_all first (group ∷ groups) (season ∷ seasons) (end ∷ ends) each club low high =
    let many = drawn_count group season end each.0 in
    let front = map (λ (it : ℕ). first + it) end.lots in
    let rest = lots_from (first + length end.lots) ends in
    has_club-append front rest club
    ∙ elim (cases_Bool (nat_lt club (first + length group.clubs))) as
    (λ _. (has_club front club || has_club rest club) ≡ true) [
      | inl inside ↦ let own : ℕ = club - first in
          let number : first + own ≡ club = omega (arith, low) in
          let below = ltb-true club (first + length group.clubs) inside in
          or_left (has_club front club) (has_club rest club)
          (subst (λ (n : ℕ). has_club front n ≡ true) number
          (image_has (λ (it : ℕ). first + it) end.lots own
          (lots_have (length group.clubs) end.lots own each.0.is_drawn
          (omega (arith, low, below)))))
      | inr outside ↦ let beyond = ltb-false club (first + length group.clubs) outside in
          or_right (has_club front club) (has_club rest club)
          (lots_have_all (first + length end.lots) groups seasons ends each.1 club
          (omega (arith, beyond, many)) (omega (arith, high, many)))
    ]

-- the lots of a group's end are lots of its clubs
pub end_drawn : (groups : List Sheet) (seasons : List Results) (ends : List Example)
    → AreGroupEnds groups seasons ends → (number : ℕ) (sheet : Sheet) (end : Example)
    → slice_get groups number ≡ Some sheet → slice_get ends number ≡ Some end
    → are_lots (length sheet.clubs) end.lots ≡ true
end_drawn [] seasons ends each number sheet end there ends_there = absurd (none-some sheet there)
end_drawn (group ∷ groups) [] ends each number sheet end there ends_there = absurd each
end_drawn (group ∷ groups) (season ∷ seasons) [] each number sheet end there ends_there =
    absurd each
end_drawn (group ∷ groups) (season ∷ seasons) (one ∷ ends) each zero sheet end there ends_there =
    let same = same_Some group sheet there in
    let same_end = same_Some one end ends_there in
    let here : are_lots (length group.clubs) one.lots ≡ true = each.0.is_drawn in
    (λ i. are_lots (length (sym same i).clubs) (sym same_end i).lots) ∙ here
end_drawn (group ∷ groups) (season ∷ seasons) (one ∷ ends) each (suc number) sheet end there
    ends_there =
    end_drawn groups seasons ends each.1 number sheet end there ends_there
