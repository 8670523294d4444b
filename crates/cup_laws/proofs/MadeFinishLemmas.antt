-- A joint finish that is made of an end of the club's own group and of candidates of others.
use Rattle.std.proofs.Common.{◌≡◌, ◌<◌, inl, inr, ℕ, ◌+◌, ℤ, Bool, true}
use Rattle.std.proofs.Common.{false, not, ◌==◌, List, length}
use Rattle.std.proofs.Common.{nat_le, nat_lt, Some, refl, sym, ap, ◌∙◌, subst, arith}
use Rattle.std.proofs.Common.{slice_index_or, Less, Greater}
use Rattle.std.specs.Prelude.{slice_get, All, unwrap_or, IsTrue}
use Rattle.std.specs.Ordering.{nat_cmp}
use Rattle.std.proofs.lemmas.Bool.{false≢true, and_from, cases_Bool, eq-eqb, eqb-true}
use Rattle.std.proofs.lemmas.Bool.{le-leb, lt-ltb}
use Rattle.std.proofs.lemmas.List.Sorted.{list_any-IsPermutation}
use Rattle.league_core.specs.game.Results.{Results}
use Rattle.league_core.specs.game.Sums.{has_club}
use Rattle.league_core.specs.game.Ranking.{lot_of}
use Rattle.league_core.proofs.plain.Orderings.{nat_cmp-less, nat_cmp-greater}
use Rattle.cup_sheet.specs.declared.cup.Cup.{Cup}
use Rattle.cup_sheet.specs.declared.question.GroupKind.{GroupKind}
use Rattle.cup_sheet.specs.CupLimits.{direct_places}
use Rattle.cup_sheet.specs.Cups.{IsCup, AreSeasonsOf, clubs_together}
use Rattle.cup_sheet.specs.JointFinishes.{ClubBlock, GroupState, is_in_block, number_in_cup}
use Rattle.cup_sheet.specs.JointFinishes.{lots_within, states_of, IsJointFinish}
use Rattle.cup_sheet.specs.GroupQuestions.{holds_in_group}
use Rattle.cup_sheet.specs.LotLaws.{own_lots, candidates_of, joined_lots}
use Rattle.cup_sheet.specs.CupAnswers.{AreRising}
use Rattle.cup_laws.specs.inside.CupTruths.{AreCupResults}
use Rattle.cup_laws.specs.inside.GroupWays.{CanHaveCandidate}
use Rattle.cup_laws.specs.inside.ChosenEnds.{ChosenEnd, finishes_of_ends, lots_of_ends}
use Rattle.cup_laws.proofs.GroupEndLemmas.{ended, IsEndOf, one_group}
use Rattle.cup_laws.proofs.CupTruthLemmas.{HaveEnds, have_ends}
use Rattle.cup_laws.proofs.ChosenLemmas.{chosen_joint}
use Rattle.cup_laws.proofs.PickedLemmas.{IsGroupEnd, plain_ends, plain_chosen}
use Rattle.cup_laws.proofs.FilledLemmas.{filled_with, count_at}
use Rattle.cup_laws.proofs.JoinedEndLemmas.{end_at, within_at, candidate_there, order_round}
use Rattle.cup_laws.proofs.JoinedEndLemmas.{order_is_permuted, first_in_order, last_in_order}

-- the club is later in the lots than another, or earlier
abbrev pub IsRound : Bool → ℕ → ℕ → Type 0
IsRound true own other = nat_cmp other own ≡ Greater
IsRound false own other = nat_cmp other own ≡ Less

-- a candidate of another group at the finish, on this side of the key
abbrev pub MeetsAt : Cup → List Results → List ℕ → GroupKind → GroupState → ℕ → List ℤ → Bool → ℕ
    → Type 0
MeetsAt cup finishes lots kind mine own key is_first number =
    (group : GroupState) × (finish : Results) × (other : ℕ)
    × (slice_get (states_of cup finishes) number ≡ Some (ended group finish))
    × IsTrue (not (group.block.first == mine.block.first))
    × IsEndOf (clubs_together cup.groups) group finish
    × (other < length group.sheet.clubs)
    × (holds_in_group direct_places group.sheet (record { kind = kind; club = other; key = key })
    finish (lots_within group.block lots) ≡ true)
    × IsRound is_first (lot_of lots (number_in_cup mine.block own))
    (lot_of lots (number_in_cup group.block other))

-- a joint finish with this end of the club's own group, and such candidates of others
abbrev pub IsMade : Cup → List Results → GroupKind → GroupState → ℕ → List ℤ → Bool → List ℕ → ℕ
    → ChosenEnd → Type 0
IsMade cup seasons kind mine own key is_first numbers k end =
    (finishes : List Results) × (lots : List ℕ) × IsJointFinish cup seasons finishes lots
    × (slice_get (states_of cup finishes) k ≡ Some (ended mine end.finish))
    × (lots_within mine.block lots ≡ own_lots end.lots)
    × All (MeetsAt cup finishes lots kind mine own key is_first) numbers

-- what a chosen end is at its joint finish
pub end_is : (cup : Cup) (seasons finishes : List Results) (group : GroupState) (finish : Results)
    (k : ℕ) → HaveEnds cup seasons finishes → slice_get (states_of cup seasons) k ≡ Some group
    → slice_get (states_of cup finishes) k ≡ Some (ended group finish)
    → IsEndOf (clubs_together cup.groups) group finish
end_is cup seasons finishes group finish k ends there at =
    let known = ends k group there in
    let same : known.0 ≡ finish = ap (λ (it : GroupState). it.results)
    (ap (λ found. unwrap_or found (ended group finish)) (sym known.1 ∙ at)) in
    subst (IsEndOf (clubs_together cup.groups) group) same known.2

ordered_round : (is_first : Bool) (lots clubs : List ℕ) (own other : ℕ)
    → nat_cmp (lot_of lots other) (lot_of lots own)
    ≡ nat_cmp (lot_of (order_round is_first own clubs) other)
    (lot_of (order_round is_first own clubs) own)
    → has_club clubs own ≡ true → has_club clubs other ≡ true → (other == own) ≡ false
    → IsRound is_first (lot_of lots own) (lot_of lots other)
ordered_round true lots clubs own other same own_has other_has differ =
    same ∙ nat_cmp-greater (lot_of (order_round true own clubs) other)
    (lot_of (order_round true own clubs) own) (first_in_order own other clubs own_has differ)
ordered_round false lots clubs own other same own_has other_has differ =
    same ∙ nat_cmp-less (lot_of (order_round false own clubs) other)
    (lot_of (order_round false own clubs) own) (last_in_order own other clubs other_has differ)

-- it has the clubs of the list
order_has : (is_first : Bool) (club one : ℕ) (clubs : List ℕ) → has_club clubs one ≡ true
    → has_club (order_round is_first club clubs) one ≡ true
order_has is_first club one clubs has =
    sym (list_any-IsPermutation (λ it. it == one) clubs (order_round is_first club clubs)
    (order_is_permuted is_first club clubs)) ∙ has

-- clubs of different groups have different numbers
apart_numbers : (cup : Cup) (seasons : List Results) (k j : ℕ) (mine group : GroupState)
    (own other : ℕ) → slice_get (states_of cup seasons) k ≡ Some mine
    → slice_get (states_of cup seasons) j ≡ Some group → own < mine.block.count
    → other < group.block.count → not (group.block.first == mine.block.first) ≡ true
    → (number_in_cup group.block other == number_in_cup mine.block own) ≡ false
apart_numbers cup seasons k j mine group own other here there inside other_inside differ =
    elim (cases_Bool (number_in_cup group.block other == number_in_cup mine.block own)) as
    (λ _. (number_in_cup group.block other == number_in_cup mine.block own) ≡ false) [
      | inl is ↦ let club = number_in_cup mine.block own in
          let same = eqb-true (number_in_cup group.block other) club is in
          let in_mine = block_has mine.block own inside in
          let in_group = ap (is_in_block group.block) (sym same)
          ∙ block_has group.block other other_inside in
          let one = one_group 0 club cup.groups seasons k j mine group here there in_mine in_group
          in
          absurd (false≢true (sym (ap not (eq-eqb mine.block.first mine.block.first refl))
          ∙ ap (λ (it : GroupState). not (it.block.first == mine.block.first)) one ∙ differ))
      | inr is ↦ is
    ]
  where
    block_has : (block : ClubBlock) (club : ℕ) → club < block.count
        → is_in_block block (number_in_cup block club) ≡ true
    block_has block club below =
        and_from (nat_le block.first (block.first + club))
        (nat_lt (block.first + club) (block.first + block.count))
        (le-leb block.first (block.first + club) (omega arith))
        (lt-ltb (block.first + club) (block.first + block.count) (omega (arith, below)))

-- such a finish can be made
pub made : (cup : Cup) (seasons : List Results) (kind : GroupKind) (mine : GroupState) (own : ℕ)
    (key : List ℤ) (is_first : Bool) (numbers : List ℕ) (k : ℕ) (end : ChosenEnd) → IsCup cup
    → AreSeasonsOf cup.groups seasons → AreCupResults seasons
    → slice_get (states_of cup seasons) k ≡ Some mine → own < length mine.sheet.clubs
    → AreRising 0 numbers → All (CanHaveCandidate cup seasons kind mine key) numbers
    → IsGroupEnd mine end → end.lots.candidate ≡ own
    → IsMade cup seasons kind mine own key is_first numbers k end
made cup seasons kind mine own key is_first numbers k end is_cup of_groups results there inside
    rising all is candidate =
    let picked = filled_with cup seasons kind mine key numbers
    (plain_ends 0 cup.groups seasons) k end
    (plain_chosen 0 is_cup.groups.0 is_cup.groups.1 cup.groups seasons is_cup.groups.2 of_groups)
    rising all there is in
    let ends = picked.0 in
    let number = number_in_cup mine.block own in
    let clubs = candidates_of (lots_of_ends ends) in
    let order = order_round is_first number clubs in
    let lots = joined_lots (lots_of_ends ends) order in
    let finishes = finishes_of_ends ends in
    let joint = chosen_joint cup seasons ends order picked.1
    (order_is_permuted is_first number clubs) in
    let at_own = end_at 0 cup.groups seasons ends k mine end picked.1 there picked.3 in
    let own_count = count_at 0 cup.groups seasons k mine there in
    let own_there : has_club clubs number ≡ true =
    sym (ap (has_club clubs) (ap (λ (it : ClubBlock). number_in_cup it end.lots.candidate) at_own.1
    ∙ ap (number_in_cup mine.block) candidate)) ∙ candidate_there ends k end picked.3 in (
      finishes,
      lots,
      joint.0,
      at_own.0,
      ap (λ (it : ClubBlock). lots_within it lots) (sym at_own.1)
          ∙ within_at lots ends k end joint.1.within picked.3,
      λ i d below.
          let n = slice_index_or numbers i d in
          let shown = picked.2 i d below in
          let group = shown.0 in
          let other = shown.3 in
          let at = end_at 0 cup.groups seasons ends n group other picked.1 shown.1 shown.4 in
          let within = ap (λ (it : ClubBlock). lots_within it lots) (sym at.1)
          ∙ within_at lots ends n other joint.1.within shown.4 in
          let other_number = number_in_cup group.block other.lots.candidate in
          let other_there : has_club clubs other_number ≡ true =
          sym (ap (has_club clubs)
          (ap (λ (it : ClubBlock). number_in_cup it other.lots.candidate) at.1))
          ∙ candidate_there ends n other shown.4 in (
            group,
            other.finish,
            other.lots.candidate,
            at.0,
            shown.2,
            end_is cup seasons finishes group other.finish n
                (have_ends cup seasons finishes lots is_cup results joint.0) shown.1 at.0,
            shown.5,
            ap (holds_in_group direct_places group.sheet
                (record { kind = kind; club = other.lots.candidate; key = key }) other.finish)
                within
                ∙ shown.6,
            ordered_round is_first lots clubs number other_number
                (joint.1.ordered other_number number
                (order_has is_first number other_number clubs other_there)
                (order_has is_first number number clubs own_there))
                own_there other_there
                (apart_numbers cup seasons k n mine group own other.lots.candidate there shown.1
                (omega (arith, inside, own_count))
                (omega (arith, shown.5, count_at 0 cup.groups seasons n group shown.1)) shown.2),
          ),
    )
