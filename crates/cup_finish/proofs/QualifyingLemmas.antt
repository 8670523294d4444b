-- Who qualifies, group by group: what is before a club, and how many candidates are.
use Rattle.std.proofs.Common.{◌≡◌, ◌∙◌, ◌<◌, ◌≢◌, ℕ, suc, ◌+◌, ◌-◌, Bool, true, false, ◌&&◌}
use Rattle.std.proofs.Common.{◌||◌, ◌==◌, cond, List, ◌∷◌, length, drop, ap, arith, count_by}
use Rattle.std.proofs.Common.{nat_cmp, is_lt, refl, sym}
use Rattle.std.proofs.lemmas.Bool.{eq-eqb, ne_eqb}
use Rattle.std.specs.List.{list_any, range_with_len}
use Rattle.std.specs.Ordering.{ordering_then}
use Rattle.league_core.specs.declared.sheet.Sheet.{Sheet}
use Rattle.league_core.specs.game.HeadToHead.{by_first_difference}
use Rattle.league_core.specs.game.Ranking.{lot_of}
use Rattle.league_core.specs.game.Results.{Results}
use Rattle.league_core.specs.search.Keys.{key_of}
use Rattle.league_core.proofs.plain.Counts.{count_by-cons}
use Rattle.club_keys.specs.inside.KeyEnds.{key_parts}
use Rattle.cup_sheet.specs.CupLimits.{direct_places}
use Rattle.cup_sheet.specs.JointFinishes.{GroupState, is_in_block, number_in_cup, number_in_group}
use Rattle.cup_sheet.specs.JointFinishes.{states_from}
use Rattle.cup_sheet.specs.Qualifying.{is_before_across, is_candidate, other_groups}
use Rattle.cup_sheet.specs.Qualifying.{place_in_group}
use Rattle.cup_finish.specs.declared.contender.Contender.{Contender}
use Rattle.cup_finish.specs.inside.Contenders.{IsContender, group_state}
use Rattle.cup_finish.proofs.GroupWalkLemmas.{IsNextGroup, later_apart}

-- contenders are before each other as their clubs are
pub before-contenders : (lots : List ℕ) (mine : GroupState) (own : ℕ) (group : GroupState)
    (rival : ℕ) (one other : Contender) → IsContender mine own one
    → IsContender group rival other
    → is_lt (ordering_then (by_first_difference (key_parts one.key) (key_parts other.key))
    (nat_cmp (lot_of lots one.club) (lot_of lots other.club)))
    ≡ is_before_across lots mine own group rival
before-contenders lots mine own group rival one other is is_other =
    let key = key_of mine.sheet mine.results own in
    let rival_key = key_of group.sheet group.results rival in
    ap (λ it. is_lt (ordering_then (by_first_difference it (key_parts other.key))
    (nat_cmp (lot_of lots one.club) (lot_of lots other.club)))) is.key
    ∙ ap (λ it. is_lt (ordering_then (by_first_difference key it)
    (nat_cmp (lot_of lots one.club) (lot_of lots other.club)))) is_other.key
    ∙ ap (λ n. is_lt (ordering_then (by_first_difference key rival_key)
    (nat_cmp (lot_of lots n) (lot_of lots other.club)))) is.club
    ∙ ap (λ n. is_lt (ordering_then (by_first_difference key rival_key)
    (nat_cmp (lot_of lots (number_in_cup mine.block own)) (lot_of lots n)))) is_other.club

-- a club of a group is its candidate, and before a club of another
abbrev pub is_better_rival : List ℕ → GroupState → GroupState → ℕ → ℕ → Bool
is_better_rival lots group mine own other =
    is_candidate direct_places lots group other && is_before_across lots group other mine own

-- the clubs from a number on: that club, and those after it
any-left : (test : ℕ → Bool) (club clubs : ℕ) → club < clubs
    → list_any test (range_with_len club (clubs - club))
    ≡ (test club || list_any test (range_with_len (club + 1) (clubs - (club + 1))))
any-left test club clubs below =
    let more : clubs - club ≡ suc (clubs - (club + 1)) = omega arith in
    ap (λ n. list_any test (range_with_len club n)) more

-- what is known of the next club, at its place in the group
rival_is : (lots : List ℕ) (group mine : GroupState) (own club place : ℕ) (better : Bool)
    → place ≡ place_in_group lots group club
    → better ≡ (place == direct_places + 1 && is_before_across lots group club mine own)
    → better ≡ is_better_rival lots group mine own club
rival_is lots group mine own club place better place_is is =
    is ∙ ap (λ n. n == direct_places + 1 && is_before_across lots group club mine own) place_is

-- it is such a rival
pub rival_found : (lots : List ℕ) (group mine : GroupState) (own club clubs place : ℕ)
    (better any : Bool) → club < clubs
    → any ≡ list_any (is_better_rival lots group mine own) (range_with_len club (clubs - club))
    → place ≡ place_in_group lots group club
    → better ≡ (place == direct_places + 1 && is_before_across lots group club mine own)
    → better ≡ true → true ≡ any
rival_found lots group mine own club clubs place better any below so_far place_is is passes =
    let test = is_better_rival lots group mine own in
    let here : test club ≡ true = sym (rival_is lots group mine own club place better place_is is)
    ∙ passes in
    sym (so_far ∙ any-left test club clubs below
    ∙ ap (λ b. b || list_any test (range_with_len (club + 1) (clubs - (club + 1)))) here)

-- it is none
pub no_rival : (lots : List ℕ) (group mine : GroupState) (own club clubs place : ℕ)
    (better any : Bool) → club < clubs
    → any ≡ list_any (is_better_rival lots group mine own) (range_with_len club (clubs - club))
    → place ≡ place_in_group lots group club
    → better ≡ (place == direct_places + 1 && is_before_across lots group club mine own)
    → better ≡ false
    → any ≡ list_any (is_better_rival lots group mine own)
    (range_with_len (club + 1) (clubs - (club + 1)))
no_rival lots group mine own club clubs place better any below so_far place_is is fails =
    let test = is_better_rival lots group mine own in
    let here : test club ≡ false = sym (rival_is lots group mine own club place better place_is is)
    ∙ fails in
    so_far ∙ any-left test club clubs below
    ∙ ap (λ b. b || list_any test (range_with_len (club + 1) (clubs - (club + 1)))) here

-- ---- how many groups have one

-- how many of the groups from a number on pass, the one with this first club left out
abbrev pub others_from : (GroupState → Bool) → GroupState → ℕ → ℕ → List Sheet → List Results → ℕ
others_from test mine first k groups results =
    count_by test (other_groups mine (states_from first (drop k groups) (drop k results)))

-- a group that is another one counts if it passes, and the others of those that are left
pub counted_other : (test : GroupState → Bool) (mine : GroupState)
    (better more all first count k : ℕ) (groups : List Sheet) (results : List Results)
    (sheet : Sheet) (own : Results) (passes : Bool) → IsNextGroup first k groups results sheet own
    → count ≡ length sheet.clubs → first ≢ mine.block.first
    → passes ≡ test (group_state first sheet own) → more ≡ cond {A = ℕ} passes 1 0
    → better + others_from test mine first k groups results ≡ all
    → better + more + others_from test mine (first + count) (k + 1) groups results ≡ all
counted_other test mine better more all first count k groups results sheet own passes next count_is
    other is more_is so_far =
    let group = group_state first sheet own in
    let later = states_from (first + length sheet.clubs) (drop (k + 1) groups)
    (drop (k + 1) results) in
    let apart : (first == mine.block.first) ≡ false = ne_eqb first mine.block.first other in
    let here : count_by test (other_groups mine (group ∷ later))
    ≡ cond {A = ℕ} (test group) 1 0 + count_by test (other_groups mine later) =
    rw apart (count_by-cons test group (other_groups mine later)) in
    omega (
      arith,
      so_far,
      ap (λ it. count_by test (other_groups mine it)) next.states,
      here,
      more_is ∙ ap (λ b. cond {A = ℕ} b 1 0) is,
      ap (λ n. others_from test mine (first + n) (k + 1) groups results) count_is,
    )

-- the group itself does not
pub counted_own : (test : GroupState → Bool) (mine : GroupState) (better all first count k : ℕ)
    (groups : List Sheet) (results : List Results) (sheet : Sheet) (own : Results)
    → IsNextGroup first k groups results sheet own → count ≡ length sheet.clubs
    → first ≡ mine.block.first
    → better + others_from test mine first k groups results ≡ all
    → better + others_from test mine (first + count) (k + 1) groups results ≡ all
counted_own test mine better all first count k groups results sheet own next count_is same so_far =
    let group = group_state first sheet own in
    let later = states_from (first + length sheet.clubs) (drop (k + 1) groups)
    (drop (k + 1) results) in
    let is : (first == mine.block.first) ≡ true = eq-eqb first mine.block.first same in
    let here : count_by test (other_groups mine (group ∷ later))
    ≡ count_by test (other_groups mine later) = rw is refl in
    omega (
      arith,
      so_far,
      ap (λ it. count_by test (other_groups mine it)) next.states,
      here,
      ap (λ n. others_from test mine (first + n) (k + 1) groups results) count_is,
    )

-- ---- the group of the club

-- one of the groups from a number on has the club, and answers so for it
abbrev pub answered_from : (GroupState → ℕ → Bool) → ℕ → ℕ → ℕ → List Sheet → List Results → Bool
answered_from answers club first k groups results =
    list_any (λ mine. is_in_block mine.block club
    && answers mine (number_in_group mine.block club))
    (states_from first (drop k groups) (drop k results))

-- the next group has it
pub answered_here : (answers : GroupState → ℕ → Bool) (club first k : ℕ) (groups : List Sheet)
    (results : List Results) (sheet : Sheet) (own : Results) (all : Bool)
    → IsNextGroup first k groups results sheet own → club < first + length sheet.clubs
    → is_in_block (group_state first sheet own).block club ≡ true
    → all ≡ answered_from answers club first k groups results
    → answers (group_state first sheet own) (club - first) ≡ all
answered_here answers club first k groups results sheet own all next below inside so_far =
    let group = group_state first sheet own in
    let passes : GroupState → Bool = λ mine. is_in_block mine.block club
    && answers mine (number_in_group mine.block club) in
    let later = states_from (first + length sheet.clubs) (drop (k + 1) groups)
    (drop (k + 1) results) in
    sym (so_far
    ∙ ap (list_any passes) next.states
    ∙ ap (λ b. (b && answers group (club - first)) || list_any passes later) inside
    ∙ ap (λ b. answers group (club - first) || b)
    (later_apart (λ mine. answers mine (number_in_group mine.block club)) club
    (first + length sheet.clubs) (drop (k + 1) groups) (drop (k + 1) results) below)
    ∙ alone (answers group (club - first)))
  where
    alone : (b : Bool) → (b || false) ≡ b
    alone true = refl
    alone false = refl

-- it does not, so a later one does
pub answered_later : (answers : GroupState → ℕ → Bool) (club first count k : ℕ)
    (groups : List Sheet) (results : List Results) (sheet : Sheet) (own : Results) (all : Bool)
    → IsNextGroup first k groups results sheet own → count ≡ length sheet.clubs
    → is_in_block (group_state first sheet own).block club ≡ false
    → all ≡ answered_from answers club first k groups results
    → all ≡ answered_from answers club (first + count) (k + 1) groups results
answered_later answers club first count k groups results sheet own all next count_is outside
    so_far =
    let group = group_state first sheet own in
    let passes : GroupState → Bool = λ mine. is_in_block mine.block club
    && answers mine (number_in_group mine.block club) in
    let later = states_from (first + length sheet.clubs) (drop (k + 1) groups)
    (drop (k + 1) results) in
    so_far
    ∙ ap (list_any passes) next.states
    ∙ ap (λ b. (b && answers group (club - first)) || list_any passes later) outside
    ∙ ap (λ n. answered_from answers club (first + n) (k + 1) groups results) (sym count_is)
