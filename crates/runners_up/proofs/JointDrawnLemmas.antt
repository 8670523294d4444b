-- Ends of the groups put together: the groups stand apart, each has its own lots, and the club is
-- drawn after all others, or before them.
use Rattle.std.proofs.Common.{◌≡◌, ◌⊎◌, ◌<◌, ◌≤◌, inl, inr, ℕ, zero, suc, ◌+◌, true, false, not}
use Rattle.std.proofs.Common.{◌==◌, List, [], ◌∷◌, length, map, filter, nat_lt, Some, refl, ap, ◌∙◌}
use Rattle.std.proofs.Common.{arith}
use Rattle.std.specs.Prelude.{slice_get}
use Rattle.std.proofs.lemmas.Bool.{cases_Bool, ltb-true}
use Rattle.std.proofs.lemmas.Bool.Decides.{nat_tests}
use Rattle.std.proofs.lemmas.Option.{none-some, same_Some, slice_get_within}
use Rattle.league_core.specs.declared.sheet.Sheet.{Sheet}
use Rattle.league_core.specs.declared.question.Claim.{Claim}
use Rattle.league_core.specs.declared.question.Claim.TheVariants.{Inside, Outside}
use Rattle.league_core.specs.game.Results.{Results}
use Rattle.league_core.specs.game.Sums.{has_club}
use Rattle.league_core.specs.game.Ranking.{lot_of}
use Rattle.tree_arena.specs.declared.example.Example.{Example}
use Rattle.cup_sheet.specs.declared.cup.Cup.{Cup}
use Rattle.cup_sheet.specs.Cups.{IsCup, clubs_together}
use Rattle.cup_sheet.specs.JointFinishes.{ClubBlock, GroupState, is_in_block, number_in_cup}
use Rattle.cup_sheet.specs.JointFinishes.{lots_within, states_of}
use Rattle.cup_laws.proofs.GroupEndLemmas.{one_group}
use Rattle.runners_up.specs.inside.JointEnds.{AreGroupEnds, group_finishes, block_of}
use Rattle.cup_groups.specs.GroupStarts.{clubs_before}
use Rattle.runners_up.specs.inside.JointEnds.{lots_from, is_drawn_early, joint_lots, IsClubAt}
use Rattle.runners_up.proofs.LaidEndsLemmas.{state_with, state_there, before_rises, group_keeps}
use Rattle.runners_up.proofs.LaidEndsLemmas.{lots_have_all}
use Rattle.runners_up.proofs.JointLotsLemmas.{side_stays, sides_in_turn, own_within}

-- what is given of the ends and of the club
pub record Given (cup : Cup) (seasons : List Results) (ends : List Example) (club mine own : ℕ)
    (sheet : Sheet) (end : Example) : Type 0 where
  pub is_cup : IsCup cup
  pub each : AreGroupEnds cup.groups seasons ends
  pub at : IsClubAt cup club mine own sheet
  pub ends_at : slice_get ends mine ≡ Some end

-- ---- the groups

-- the clubs of a group are clubs of the cup
within_cup : (groups : List Sheet) (number : ℕ) (sheet : Sheet)
    → slice_get groups number ≡ Some sheet
    → clubs_before groups number + length sheet.clubs ≤ clubs_together groups
within_cup [] number sheet there = absurd (none-some sheet there)
within_cup (group ∷ groups) zero sheet there =
    let same = ap (λ (it : Sheet). length it.clubs) (same_Some group sheet there) in
    omega (arith, same)
within_cup (group ∷ groups) (suc number) sheet there =
    let rest = within_cup groups number sheet there in
    omega (arith, rest)

-- the state of a group by its number
pub state_at_number : (cup : Cup) (ends : List Example) (number : ℕ) (sheet : Sheet) (end : Example)
    → slice_get cup.groups number ≡ Some sheet → slice_get ends number ≡ Some end
    → slice_get (states_of cup (group_finishes ends)) number
    ≡ Some (state_with (clubs_before cup.groups number) sheet end)
state_at_number cup ends number sheet end there ends_there =
    let at : 0 + clubs_before cup.groups number ≡ clubs_before cup.groups number = omega arith in
    state_there 0 cup.groups ends number sheet end there ends_there
    ∙ ap (λ (n : ℕ). Some (state_with n sheet end)) at

-- no two groups begin at one number
pub not_one_start : (cup : Cup) (one other : ℕ) (sheet other_sheet : Sheet) → IsCup cup
    → slice_get cup.groups one ≡ Some sheet → slice_get cup.groups other ≡ Some other_sheet
    → not (one == other) ≡ true → clubs_before cup.groups one ≡ clubs_before cup.groups other → ⊥
not_one_start cup one other sheet other_sheet is_cup there other_there differ same =
    let are = is_cup.groups.2 in
    let inside = slice_get_within cup.groups one sheet there in
    let other_inside = slice_get_within cup.groups other other_sheet other_there in
    elim (cases_Bool (nat_lt one other)) as (λ _. ⊥) [
      | inl less ↦ let rises = before_rises is_cup.groups.0 is_cup.groups.1 cup.groups one other are
          (ltb-true one other less) other_inside in
          omega (arith, same, rises)
      | inr not_less ↦ let rises = before_rises is_cup.groups.0 is_cup.groups.1 cup.groups other one
          are (above one other not_less differ) inside in
          omega (arith, same, rises)
    ]
  where
    above : (a b : ℕ) → nat_lt a b ≡ false → not (a == b) ≡ true → b < a
    above a b not_less differ = grind (arith, nat_tests, not_less, differ)

-- another group: one that is there, with its end
pub record Other (cup : Cup) (ends : List Example) (mine number : ℕ) (sheet : Sheet) (end : Example)
    : Type 0 where
  pub there : slice_get cup.groups number ≡ Some sheet
  pub ends_there : slice_get ends number ≡ Some end
  pub differ : not (number == mine) ≡ true

-- it shares no club with the club's group
apart : (cup : Cup) (seasons : List Results) (ends : List Example) (club mine own : ℕ)
    (sheet : Sheet) (end : Example) → Given cup seasons ends club mine own sheet end
    → (number : ℕ) (other_sheet : Sheet) (other_end : Example)
    → Other cup ends mine number other_sheet other_end → (x : ℕ)
    → is_in_block (block_of cup.groups number other_sheet) x ≡ true
    → is_in_block (block_of cup.groups mine sheet) x ≡ false
apart cup seasons ends club mine own sheet end given number other_sheet other_end other x inside =
    elim (cases_Bool (is_in_block (block_of cup.groups mine sheet) x)) as
    (λ _. is_in_block (block_of cup.groups mine sheet) x ≡ false) [
      | inl both ↦ let same = one_group 0 x cup.groups (group_finishes ends) number mine
          (state_with (clubs_before cup.groups number) other_sheet other_end)
          (state_with (clubs_before cup.groups mine) sheet end)
          (state_at_number cup ends number other_sheet other_end other.there other.ends_there)
          (state_at_number cup ends mine sheet end given.at.there given.ends_at) inside both in
          absurd (not_one_start cup number mine other_sheet sheet given.is_cup other.there
          given.at.there other.differ (ap (λ (it : GroupState). it.block.first) same))
      | inr none ↦ none
    ]

-- ---- the lots

-- what a group has of the lots of all
keeps : (cup : Cup) (seasons : List Results) (ends : List Example) (number : ℕ) (sheet : Sheet)
    (end : Example) → AreGroupEnds cup.groups seasons ends
    → slice_get cup.groups number ≡ Some sheet → slice_get ends number ≡ Some end
    → filter (is_in_block (block_of cup.groups number sheet)) (lots_from 0 ends)
    ≡ map (number_in_cup (block_of cup.groups number sheet)) end.lots
keeps cup seasons ends number sheet end each there ends_there =
    let at : clubs_before cup.groups number ≡ 0 + clubs_before cup.groups number = omega arith in
    group_keeps 0 cup.groups seasons ends each number sheet end there ends_there
    (block_of cup.groups number sheet) at refl

-- within the club's group the lots of the cup are its own
pub own_lots_within : (cup : Cup) (seasons : List Results) (ends : List Example) (claim : Claim)
    (club mine own : ℕ) (sheet : Sheet) (end : Example)
    → Given cup seasons ends club mine own sheet end
    → lots_within (block_of cup.groups mine sheet)
    (joint_lots claim (block_of cup.groups mine sheet) ends) ≡ end.lots
own_lots_within cup seasons ends claim club mine own sheet end given =
    let block = block_of cup.groups mine sheet in
    own_within block (joint_lots claim block ends) end.lots
    (side_stays (is_in_block block) (is_drawn_early claim block) (lots_from 0 ends)
    (side claim block)
    ∙ keeps cup seasons ends mine sheet end given.each given.at.there given.ends_at)
  where
    side : (claim : Claim) (block : ClubBlock)
        → ((x : ℕ) → is_in_block block x ≡ true → is_drawn_early claim block x ≡ true)
        ⊎ ((x : ℕ) → is_in_block block x ≡ true → is_drawn_early claim block x ≡ false)
    side Inside block = inl (λ x inside. inside)
    side Outside block = inr (λ x inside. ap not inside)

-- within another group too
pub other_lots_within : (cup : Cup) (seasons : List Results) (ends : List Example) (claim : Claim)
    (club mine own : ℕ) (sheet : Sheet) (end : Example)
    → Given cup seasons ends club mine own sheet end
    → (number : ℕ) (other_sheet : Sheet) (other_end : Example)
    → Other cup ends mine number other_sheet other_end
    → lots_within (block_of cup.groups number other_sheet)
    (joint_lots claim (block_of cup.groups mine sheet) ends) ≡ other_end.lots
other_lots_within cup seasons ends claim club mine own sheet end given number other_sheet other_end
    other =
    let block = block_of cup.groups mine sheet in
    let other_block = block_of cup.groups number other_sheet in
    own_within other_block (joint_lots claim block ends) other_end.lots
    (side_stays (is_in_block other_block) (is_drawn_early claim block) (lots_from 0 ends)
    (side claim block other_block
    (apart cup seasons ends club mine own sheet end given number other_sheet other_end other))
    ∙ keeps cup seasons ends number other_sheet other_end given.each other.there other.ends_there)
  where
    side : (claim : Claim) (block other : ClubBlock)
        → ((x : ℕ) → is_in_block other x ≡ true → is_in_block block x ≡ false)
        → ((x : ℕ) → is_in_block other x ≡ true → is_drawn_early claim block x ≡ true)
        ⊎ ((x : ℕ) → is_in_block other x ≡ true → is_drawn_early claim block x ≡ false)
    side Inside block other none = inr none
    side Outside block other none = inl (λ x inside. ap not (none x inside))

-- the clubs of a group are in its block
pub in_block : (first count own : ℕ) → own < count
    → is_in_block (record { first = first; count = count }) (first + own) ≡ true
in_block first count own inside = grind (arith, nat_tests, inside)

-- they are among the lots
lots_have_own : (cup : Cup) (seasons : List Results) (ends : List Example) (number own : ℕ)
    (sheet : Sheet) → AreGroupEnds cup.groups seasons ends
    → slice_get cup.groups number ≡ Some sheet → own < length sheet.clubs
    → has_club (lots_from 0 ends) (clubs_before cup.groups number + own) ≡ true
lots_have_own cup seasons ends number own sheet each there inside =
    let fits = within_cup cup.groups number sheet there in
    lots_have_all 0 cup.groups seasons ends each (clubs_before cup.groups number + own)
    (omega arith) (omega (arith, fits, inside))

-- for missing the club is drawn after those of another group
pub drawn_last : (cup : Cup) (seasons : List Results) (ends : List Example) (club mine own : ℕ)
    (sheet : Sheet) (end : Example) → Given cup seasons ends club mine own sheet end
    → (number : ℕ) (other_sheet : Sheet) (other_end : Example)
    → Other cup ends mine number other_sheet other_end → (x : ℕ) → x < length other_sheet.clubs
    → lot_of (joint_lots Outside (block_of cup.groups mine sheet) ends)
    (clubs_before cup.groups number + x)
    < lot_of (joint_lots Outside (block_of cup.groups mine sheet) ends)
    (clubs_before cup.groups mine + own)
drawn_last cup seasons ends club mine own sheet end given number other_sheet other_end other x
    inside =
    let block = block_of cup.groups mine sheet in
    let first = clubs_before cup.groups number in
    sides_in_turn (is_drawn_early Outside block) (lots_from 0 ends) (first + x)
    (clubs_before cup.groups mine + own)
    (lots_have_own cup seasons ends number x other_sheet given.each other.there inside)
    (ap not (apart cup seasons ends club mine own sheet end given number other_sheet other_end other
    (first + x) (in_block first (length other_sheet.clubs) x inside)))
    (ap not (in_block (clubs_before cup.groups mine) (length sheet.clubs) own given.at.inside))

-- for qualifying it is drawn before them
pub drawn_first : (cup : Cup) (seasons : List Results) (ends : List Example) (club mine own : ℕ)
    (sheet : Sheet) (end : Example) → Given cup seasons ends club mine own sheet end
    → (number : ℕ) (other_sheet : Sheet) (other_end : Example)
    → Other cup ends mine number other_sheet other_end → (x : ℕ) → x < length other_sheet.clubs
    → lot_of (joint_lots Inside (block_of cup.groups mine sheet) ends)
    (clubs_before cup.groups mine + own)
    < lot_of (joint_lots Inside (block_of cup.groups mine sheet) ends)
    (clubs_before cup.groups number + x)
drawn_first cup seasons ends club mine own sheet end given number other_sheet other_end other x
    inside =
    let block = block_of cup.groups mine sheet in
    let first = clubs_before cup.groups number in
    sides_in_turn (is_drawn_early Inside block) (lots_from 0 ends)
    (clubs_before cup.groups mine + own) (first + x)
    (lots_have_own cup seasons ends mine own sheet given.each given.at.there given.at.inside)
    (in_block (clubs_before cup.groups mine) (length sheet.clubs) own given.at.inside)
    (apart cup seasons ends club mine own sheet end given number other_sheet other_end other
    (first + x) (in_block first (length other_sheet.clubs) x inside))
