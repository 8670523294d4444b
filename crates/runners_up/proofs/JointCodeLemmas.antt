-- Groups one by one: the lots with those of one more; and the joint finish.
use Rattle.std.proofs.Common.{◌≡◌, ◌<◌, ◌≤◌, ℕ, zero, suc, ◌+◌, List, [], ◌∷◌, ◌++◌, length, map}
use Rattle.std.proofs.Common.{take}
use Rattle.std.proofs.Common.{sym, ap, ◌∙◌, subst, arith, append_assoc, append-nil}
use Rattle.std.proofs.Common.{slice_index_or, true, nat_lt, Some, ◌*◌}
use Rattle.std.specs.Prelude.{All, slice_get}
use Rattle.std.specs.List.{list_all}
use Rattle.std.proofs.lemmas.Bool.{and_parts, ltb-true}
use Rattle.std.proofs.lemmas.List.{length-append, length-map}
use Rattle.std.proofs.lemmas.Option.{same_Some}
use Rattle.league_core.specs.declared.sheet.Sheet.{Sheet}
use Rattle.league_core.specs.declared.question.Claim.{Claim}
use Rattle.league_core.specs.game.Results.{Results}
use Rattle.league_core.specs.game.Ranking.{are_lots}
use Rattle.tree_arena.specs.declared.example.Example.{Example}
use Rattle.cup_sheet.specs.declared.cup.Cup.{Cup}
use Rattle.cup_sheet.specs.CupAnswers.{IsCupExample}
use Rattle.cup_sheet.specs.Cups.{IsCup, IsGroup, clubs_together}
use Rattle.cup_sheet.specs.JointFinishes.{ClubBlock}
use Rattle.cup_sheet.proofs.CupLotsLemmas.{as_many_lots, lots_below}
use Rattle.cup_groups.specs.declared.seat.ClubSeat.{ClubSeat}
use Rattle.cup_groups.specs.inside.ClubSeats.{seat_block, IsSeatOf}
use Rattle.runners_up.specs.inside.JointEnds.{AreGroupEnds, group_finishes, block_of}
use Rattle.runners_up.specs.inside.JointEnds.{lots_from, is_drawn_early, joint_lots, IsSideShown}
use Rattle.runners_up.proofs.JointLotsLemmas.{sides_are_lots}
use Rattle.runners_up.proofs.JointShownLemmas.{ends_show}
use Rattle.runners_up.proofs.LaidEndsLemmas.{lots_count, lots_have_all}

-- ---- lots with those of one group more

lots_next : (first : ℕ) (ends : List Example) (k : ℕ) (d : Example) → k < length ends
    → lots_from first (take (suc k) ends)
    ≡ lots_from first (take k ends)
    ++ map (λ (club : ℕ). (first + length (lots_from first (take k ends))) + club)
    (slice_index_or ends k d).lots
lots_next first [] k d inside = absurd (omega (arith, inside))
lots_next first (end ∷ ends) zero d inside =
    let at : first ≡ first + 0 = omega arith in
    append-nil (map (λ (club : ℕ). first + club) end.lots)
    ∙ ap (λ (n : ℕ). map (λ (club : ℕ). n + club) end.lots) at
lots_next first (end ∷ ends) (suc k) d inside =
    let front = map (λ (club : ℕ). first + club) end.lots in
    let next = first + length end.lots in
    let so_far = lots_from next (take k ends) in
    let own = (slice_index_or ends k d).lots in
    let at : next + length so_far ≡ first + length (front ++ so_far) = omega (
      arith,
      length-append front so_far,
      length-map end.lots (λ (club : ℕ). first + club),
    ) in
    ap (λ it. front ++ it) (lots_next next ends k d (omega (arith, inside)))
    ∙ sym (append_assoc front so_far (map (λ (club : ℕ). (next + length so_far) + club) own))
    ∙ ap (λ (n : ℕ). (front ++ so_far) ++ map (λ (club : ℕ). n + club) own) at

pub lots_from-next : (ends : List Example) (k : ℕ) (d : Example) → k < length ends
    → lots_from 0 (take (k + 1) ends)
    ≡ lots_from 0 (take k ends)
    ++ map (λ (club : ℕ). length (lots_from 0 (take k ends)) + club) (slice_index_or ends k d).lots
lots_from-next ends k d inside =
    let next : k + 1 ≡ suc k = omega arith in
    let at : 0 + length (lots_from 0 (take k ends)) ≡ length (lots_from 0 (take k ends)) =
    omega arith in
    ap (λ (n : ℕ). lots_from 0 (take n ends)) next ∙ lots_next 0 ends k d inside
    ∙ ap (λ (n : ℕ). lots_from 0 (take k ends)
    ++ map (λ (club : ℕ). n + club) (slice_index_or ends k d).lots) at

-- the first groups have no more lots than all
few_lots : (first : ℕ) (ends : List Example) (k : ℕ)
    → length (lots_from first (take k ends)) ≤ length (lots_from first ends)
few_lots first [] zero = omega arith
few_lots first [] (suc k) = omega arith
few_lots first (end ∷ ends) zero = omega arith
few_lots first (end ∷ ends) (suc k) =
    let front = map (λ (club : ℕ). first + club) end.lots in
    let next = first + length end.lots in
    omega (
      arith,
      few_lots next ends k,
      length-append front (lots_from next (take k ends)),
      length-append front (lots_from next ends),
    )

pub lots_so_far : (ends : List Example) (k : ℕ)
    → length (lots_from 0 (take k ends)) ≤ length (lots_from 0 ends)
lots_so_far ends k = few_lots 0 ends k

-- an element of a list of numbers below a count is below it
below_at : (count : ℕ) (xs : List ℕ) → list_all (λ x. nat_lt x count) xs ≡ true → (k d : ℕ)
    → k < length xs → slice_index_or xs k d < count
below_at count [] below k d inside = absurd (omega (arith, inside))
below_at count (x ∷ xs) below zero d inside =
    ltb-true x count (and_parts (nat_lt x count) (list_all (λ it. nat_lt it count) xs) below).0
below_at count (x ∷ xs) below (suc k) d inside =
    below_at count xs (and_parts (nat_lt x count) (list_all (λ it. nat_lt it count) xs) below).1 k d
    (omega (arith, inside))

-- the lots of the next group have room
pub lots_room : (ends : List Example) (k : ℕ) (item : Example) (order lots : List ℕ)
    → k < length ends → order ≡ lots_from 0 (take k ends)
    → lots ≡ (slice_index_or ends k item).lots → are_lots (length lots) lots ≡ true
    → length (lots_from 0 ends) < 256
    → All (λ (club : ℕ). length order + club < 256) lots
lots_room ends k item order lots inside order_is lots_is drawn few place d within =
    let own = (slice_index_or ends k item).lots in
    let so_far = lots_from 0 (take k ends) in
    let moved = map (λ (club : ℕ). length so_far + club) own in
    omega (
      arith,
      few,
      below_at (length lots) lots (lots_below (length lots) lots drawn) place d within,
      ap length order_is,
      ap length lots_is,
      lots_so_far ends (k + 1),
      ap length (lots_from-next ends k item inside),
      length-append so_far moved,
      length-map own (λ (club : ℕ). length so_far + club),
    )

-- they are added
pub lots_step : (ends : List Example) (k : ℕ) (item : Example) (order lots new : List ℕ)
    → k < length ends → order ≡ lots_from 0 (take k ends)
    → lots ≡ (slice_index_or ends k item).lots
    → new ≡ order ++ map (λ (club : ℕ). length order + club) lots
    → new ≡ lots_from 0 (take (k + 1) ends)
lots_step ends k item order lots new inside order_is lots_is is =
    is ∙ (λ i. order_is i ++ map (λ (club : ℕ). length (order_is i) + club) (lots_is i))
    ∙ sym (lots_from-next ends k item inside)

-- ---- the joint finish

-- a cup has few clubs
few_clubs : (goal_limit budget : ℕ) (groups : List Sheet) → All (IsGroup goal_limit budget) groups
    → clubs_together groups ≤ length groups * 6
few_clubs goal_limit budget [] are = omega arith
few_clubs goal_limit budget (group ∷ groups) are =
    let most = (are 0 group (omega arith)).most_clubs in
    let rest = few_clubs goal_limit budget groups
    (λ k d below. are (suc k) d (omega (arith, below))) in
    omega (arith, most, rest)

-- so has it lots
pub few_lots_in_all : (cup : Cup) (seasons : List Results) (ends : List Example) → IsCup cup
    → AreGroupEnds cup.groups seasons ends → length (lots_from 0 ends) < 256
few_lots_in_all cup seasons ends is_cup each =
    let most = is_cup.most_groups in
    let few = few_clubs is_cup.groups.0 is_cup.groups.1 cup.groups is_cup.groups.2 in
    omega (arith, most, few, lots_count 0 cup.groups seasons ends each)

-- the joint lots are lots of as many clubs as they are
pub joint_drawn : (cup : Cup) (seasons : List Results) (ends : List Example) (claim : Claim)
    (block : ClubBlock) (order : List ℕ) → AreGroupEnds cup.groups seasons ends
    → order ≡ joint_lots claim block ends → are_lots (length order) order ≡ true
joint_drawn cup seasons ends claim block order each is =
    let all = clubs_together cup.groups in
    let drawn : are_lots all order ≡ true = ap (are_lots all) is
    ∙ sides_are_lots (is_drawn_early claim block) all (lots_from 0 ends)
    (lots_count 0 cup.groups seasons ends each)
    (λ it inside. lots_have_all 0 cup.groups seasons ends each it (omega arith)
    (omega (arith, inside))) in
    ap (λ (n : ℕ). are_lots n order) (as_many_lots all order drawn) ∙ drawn

-- it shows of the club what the ends show
pub joint_shows : (cup : Cup) (seasons : List Results) (ends : List Example) (claim : Claim)
    (club : ℕ) (seat : ClubSeat) (sheet : Sheet) (end : Example) (same : List Example)
    (order : List ℕ) → IsCup cup → same ≡ ends → order ≡ joint_lots claim (seat_block seat) ends
    → AreGroupEnds cup.groups seasons ends → IsSeatOf cup club seat
    → slice_get cup.groups seat.group ≡ Some sheet → slice_get ends seat.group ≡ Some end
    → IsSideShown cup ends claim seat.group seat.own sheet end
    → IsCupExample cup seasons claim club (group_finishes same) order
joint_shows cup seasons ends claim club seat sheet end same order is_cup ends_are order_is each at
    there ends_there shown =
    let group : at.seat_in.sheet ≡ sheet =
    same_Some at.seat_in.sheet sheet (sym at.seat_in.there ∙ there) in
    let count : seat.count ≡ length sheet.clubs =
    at.seat_in.count ∙ ap (λ (it : Sheet). length it.clubs) group in
    let block : seat_block seat ≡ block_of cup.groups seat.group sheet =
    (λ i. record { first = at.seat_in.first i; count = count i }) in
    let lots : order ≡ joint_lots claim (block_of cup.groups seat.group sheet) ends =
    order_is ∙ ap (λ (it : ClubBlock). joint_lots claim it ends) block in
    let example = ends_show cup seasons ends claim club seat.group seat.own sheet end is_cup each
    (record {
      there = there;
      inside = omega (arith, at.seat_in.inside, count);
      number = omega (arith, at.number, at.seat_in.first);
    }) ends_there shown in
    subst (λ (drawn : List ℕ). IsCupExample cup seasons claim club (group_finishes same) drawn)
    (sym lots)
    (subst (λ (all : List Example). IsCupExample cup seasons claim club (group_finishes all)
    (joint_lots claim (block_of cup.groups seat.group sheet) ends)) (sym ends_are) example)
