-- A club can be on a side where its group and others can end so by themselves: the way back.
use Rattle.std.proofs.Common.{◌≡◌, ◌<◌, ◌≤◌, inl, inr, ℕ, Bool, true}
use Rattle.std.proofs.Common.{false, not, ◌&&◌, ◌==◌, List, [], length, count_by}
use Rattle.std.proofs.Common.{nat_le, nat_lt, Some, refl, sym, ap, ◌∙◌, arith}
use Rattle.std.specs.Prelude.{All}
use Rattle.std.specs.List.{list_any}
use Rattle.std.specs.Ordering.{nat_cmp}
use Rattle.std.proofs.lemmas.Bool.{false≢true, and_parts, and_from, cases_Bool, eq-eqb, eqb-true}
use Rattle.std.proofs.lemmas.Bool.{lt-ltb}
use Rattle.league_core.specs.game.Results.{Results}
use Rattle.league_core.specs.game.Sheets.{clubs_of}
use Rattle.league_core.specs.game.HeadToHead.{by_first_difference}
use Rattle.league_core.specs.game.Ranking.{lot_of, place_of}
use Rattle.league_core.specs.search.Keys.{key_of, is_key_from}
use Rattle.league_core.proofs.plain.Counts.{count_by-filter}
use Rattle.club_keys.proofs.KeyOrderLemmas.{from_lesser}
use Rattle.cup_sheet.specs.declared.cup.Cup.{Cup}
use Rattle.cup_sheet.specs.declared.question.GroupKind.TheVariants.{Top, Below, SecondAtLeast}
use Rattle.cup_sheet.specs.declared.question.GroupKind.TheVariants.{SecondAtMost}
use Rattle.cup_sheet.specs.CupLimits.{direct_places}
use Rattle.cup_sheet.specs.Cups.{IsCup, AreSeasonsOf, clubs_together}
use Rattle.cup_sheet.specs.JointFinishes.{GroupState, number_in_cup}
use Rattle.cup_sheet.specs.JointFinishes.{lots_within, states_of}
use Rattle.cup_sheet.specs.Qualifying.{is_candidate, is_before_across, has_better}
use Rattle.cup_sheet.specs.Qualifying.{other_groups, CanEndSo}
use Rattle.cup_sheet.specs.GroupQuestions.{GroupQuestion, holds_in_group}
use Rattle.cup_sheet.specs.CupAnswers.{IsClubOf}
use Rattle.cup_laws.specs.inside.CupTruths.{AreCupResults}
use Rattle.cup_laws.specs.inside.GroupWays.{CanHaveCandidate, CanBeOnSide}
use Rattle.cup_laws.proofs.PlaceTakenLemmas.{some_in_range, any_in_range, same_place}
use Rattle.cup_laws.proofs.GroupEndLemmas.{get_there, ended}
use Rattle.cup_laws.proofs.GroupCountLemmas.{PassesAt, rising_counts, passes_counts, parts_counted}
use Rattle.cup_laws.proofs.CandidateLemmas.{own_drawn}
use Rattle.cup_laws.proofs.PickedLemmas.{example_end}
use Rattle.cup_laws.proofs.FilledLemmas.{count_at}
use Rattle.std.proofs.lemmas.Bool.{or_left, or_right}
use Rattle.std.proofs.lemmas.List.Elements.{All-nil}
use Rattle.league_core.specs.declared.question.Claim.TheVariants.{Inside, Outside}
use Rattle.club_keys.proofs.KeyOrderLemmas.{above_or_below}
use Rattle.cup_laws.specs.inside.GroupWays.{GroupsMakeSides}
use Rattle.cup_laws.proofs.GroupEndLemmas.{states_are_all}
use Rattle.cup_laws.proofs.MadeFinishLemmas.{made}
use Rattle.cup_laws.proofs.MadeAnswerLemmas.{le_then_less, less_without, both_fail, right_fails}
use Rattle.cup_laws.proofs.MadeAnswerLemmas.{left_fails, not_direct, past_direct_place}
use Rattle.cup_laws.proofs.MadeAnswerLemmas.{past_second, not_below, same_answer}

-- where groups leave it open that the club misses, it misses at some joint finish
missing_back : (cup : Cup) (seasons : List Results) (club : ℕ) (mine : GroupState) (own : ℕ)
    → IsCup cup → AreSeasonsOf cup.groups seasons → AreCupResults seasons
    → IsClubOf cup seasons club mine own → CanBeOnSide cup seasons Outside mine own
    → CanEndSo cup seasons club false
missing_back cup seasons club mine own is_cup of_groups results of_club (inl can) =
    let at = of_club.group_of in
    let there = get_there (states_of cup seasons) at.0 mine at.1 ∙ ap Some at.2 in
    let count = count_at 0 cup.groups seasons at.0 mine there in
    let chosen = example_end mine (record { kind = Below; club = own; key = [] }) count
    of_club.own_club can in
    let finish = chosen.0.finish in
    let joined = made cup seasons SecondAtLeast mine own [] false [] at.0 chosen.0 is_cup of_groups
    results there of_club.own_club tt (All-nil (CanHaveCandidate cup seasons SecondAtLeast mine []))
    chosen.1 chosen.2 in
    let lots = joined.1 in
    let place = place_of mine.sheet finish (lots_within mine.block lots) own in
    let holds = ap (holds_in_group direct_places mine.sheet
    (record { kind = Below; club = own; key = [] }) finish) joined.4 ∙ chosen.3 in
    let past = (and_parts (nat_lt 2 place) true holds).0 in (
      joined.0,
      lots,
      joined.2,
      same_answer cup seasons club mine own is_cup results of_club joined.0 lots joined.2 finish
          at.0 there joined.3
          ∙ both_fail (nat_le place 1) (place == 2) _ (past_direct_place place past)
          (left_fails (place == 2) _ (past_second place past)),
    )
missing_back cup seasons club mine own is_cup of_groups results of_club (inr can) =
    let at = of_club.group_of in
    let there = get_there (states_of cup seasons) at.0 mine at.1 ∙ ap Some at.2 in
    let count = count_at 0 cup.groups seasons at.0 mine there in
    let key = can.0 in
    let numbers = can.2 in
    let question : GroupQuestion = record { kind = SecondAtMost; club = own; key = key } in
    let chosen = example_end mine question count of_club.own_club can.1 in
    let finish = chosen.0.finish in
    let joined = made cup seasons SecondAtLeast mine own key false numbers at.0 chosen.0 is_cup
    of_groups results there of_club.own_club can.4 can.5 chosen.1 chosen.2 in
    let finishes = joined.0 in
    let lots = joined.1 in
    let states = states_of cup finishes in
    let self = ended mine finish in
    let place = place_of mine.sheet finish (lots_within mine.block lots) own in
    let own_key = key_of mine.sheet finish own in
    let better : GroupState → Bool = has_better direct_places lots self own in
    let kept : GroupState → Bool = λ group. not (group.block.first == self.block.first) in
    let front = count_by better (other_groups self states) in
    let holds = and_parts (place == 2) (is_key_from own_key key)
    (ap (holds_in_group direct_places mine.sheet question finish) joined.4 ∙ chosen.3) in
    let ahead : All (PassesAt (λ group. kept group && better group) states) numbers =
    λ i d below.
    let meets = joined.5 i d below in
    let group = meets.0 in
    let other = meets.2 in
    let other_key = key_of group.sheet meets.1 other in
    let candidate = and_parts
    (place_of group.sheet meets.1 (lots_within group.block lots) other == 2)
    (is_key_from key other_key) meets.7 in
    let before = le_then_less (by_first_difference other_key own_key)
    (nat_cmp (lot_of lots (number_in_cup group.block other))
    (lot_of lots (number_in_cup mine.block own)))
    (from_lesser own_key key other_key holds.1 candidate.1) meets.8 in (
      ended group meets.1,
      meets.3,
      and_from (kept group) (better (ended group meets.1)) meets.4
          (any_in_range
          (λ it. is_candidate direct_places lots (ended group meets.1) it
          && is_before_across lots (ended group meets.1) it self own) 0
          (length group.sheet.clubs) other (omega arith) (omega (arith, meets.6))
          (and_from (is_candidate direct_places lots (ended group meets.1) other)
          (is_before_across lots (ended group meets.1) other self own) candidate.0 before)),
    ) in
    let many : cup.quota ≤ front = omega (
      arith,
      can.3,
      rising_counts (λ group. kept group && better group) states numbers can.4 ahead,
      count_by-filter kept better states,
    ) in (
      finishes,
      lots,
      joined.2,
      same_answer cup seasons club mine own is_cup results of_club finishes lots joined.2 finish
          at.0 there joined.3
          ∙ both_fail (nat_le place 1) (place == 2) (nat_lt front cup.quota)
          (not_direct place holds.0)
          (right_fails (place == 2) (nat_lt front cup.quota) (not_below front cup.quota many)),
    )

-- and so where they leave it open that it qualifies
qualifying_back : (cup : Cup) (seasons : List Results) (club : ℕ) (mine : GroupState) (own : ℕ)
    → IsCup cup → AreSeasonsOf cup.groups seasons → AreCupResults seasons
    → IsClubOf cup seasons club mine own → CanBeOnSide cup seasons Inside mine own
    → CanEndSo cup seasons club true
qualifying_back cup seasons club mine own is_cup of_groups results of_club (inl can) =
    let at = of_club.group_of in
    let there = get_there (states_of cup seasons) at.0 mine at.1 ∙ ap Some at.2 in
    let count = count_at 0 cup.groups seasons at.0 mine there in
    let chosen = example_end mine (record { kind = Top; club = own; key = [] }) count
    of_club.own_club can in
    let finish = chosen.0.finish in
    let joined = made cup seasons SecondAtMost mine own [] true [] at.0 chosen.0 is_cup of_groups
    results there of_club.own_club tt (All-nil (CanHaveCandidate cup seasons SecondAtMost mine []))
    chosen.1 chosen.2 in
    let lots = joined.1 in
    let place = place_of mine.sheet finish (lots_within mine.block lots) own in
    let holds = ap (holds_in_group direct_places mine.sheet
    (record { kind = Top; club = own; key = [] }) finish) joined.4 ∙ chosen.3 in (
      joined.0,
      lots,
      joined.2,
      same_answer cup seasons club mine own is_cup results of_club joined.0 lots joined.2 finish
          at.0 there joined.3
          ∙ or_left (nat_le place 1) _ (and_parts (nat_le place 1) true holds).0,
    )
qualifying_back cup seasons club mine own is_cup of_groups results of_club (inr can) =
    let clubs = clubs_together cup.groups in
    let at = of_club.group_of in
    let there = get_there (states_of cup seasons) at.0 mine at.1 ∙ ap Some at.2 in
    let count = count_at 0 cup.groups seasons at.0 mine there in
    let key = can.0 in
    let numbers = can.2 in
    let question : GroupQuestion = record { kind = SecondAtLeast; club = own; key = key } in
    let chosen = example_end mine question count of_club.own_club can.1 in
    let finish = chosen.0.finish in
    let joined = made cup seasons SecondAtMost mine own key true numbers at.0 chosen.0 is_cup
    of_groups results there of_club.own_club can.4 can.5 chosen.1 chosen.2 in
    let finishes = joined.0 in
    let lots = joined.1 in
    let states = states_of cup finishes in
    let self = ended mine finish in
    let place = place_of mine.sheet finish (lots_within mine.block lots) own in
    let own_key = key_of mine.sheet finish own in
    let better : GroupState → Bool = has_better direct_places lots self own in
    let taken : GroupState → Bool = λ group. group.block.first == self.block.first in
    let front = count_by better (other_groups self states) in
    let holds = and_parts (place == 2) (is_key_from key own_key)
    (ap (holds_in_group direct_places mine.sheet question finish) joined.4 ∙ chosen.3) in
    let behind : All (PassesAt (λ group. not (taken group) && not (better group)) states) numbers =
    λ i d below.
    let meets = joined.5 i d below in
    let group = meets.0 in
    let end = ended group meets.1 in
    let other = meets.2 in
    let other_key = key_of group.sheet meets.1 other in
    let within = lots_within group.block lots in
    let candidate = and_parts (place_of group.sheet meets.1 within other == 2)
    (is_key_from other_key key) meets.7 in
    let before : ℕ → Bool = λ it. is_candidate direct_places lots end it
    && is_before_across lots end it self own in
    let none : better end ≡ false = elim (cases_Bool (list_any before (clubs_of group.sheet))) as
    (λ _. better end ≡ false) [
      | inl some ↦ let found = some_in_range before 0 (length group.sheet.clubs) some in
          let both = and_parts (is_candidate direct_places lots end found.0)
          (is_before_across lots end found.0 self own) found.3 in
          let same = same_place group.sheet meets.1 within found.0 other
          (own_drawn clubs group meets.1 lots meets.5 joined.2.drawn) (omega (arith, found.2))
          meets.6
          (eqb-true (place_of group.sheet meets.1 within found.0) 2 both.0
          ∙ sym (eqb-true (place_of group.sheet meets.1 within other) 2 candidate.0)) in
          let first = less_without (by_first_difference other_key own_key)
          (nat_cmp (lot_of lots (number_in_cup group.block other))
          (lot_of lots (number_in_cup mine.block own)))
          (ap (λ (it : ℕ). is_before_across lots end it self own) (sym same) ∙ both.1) meets.8 in
          absurd (false≢true (sym (ap not
          (from_lesser other_key key own_key candidate.1 holds.1))
          ∙ sym (above_or_below other_key own_key) ∙ first))
      | inr is ↦ is
    ] in (
      end,
      meets.3,
      and_from (not (taken group)) (not (better end)) meets.4 (ap not none),
    ) in
    let few : front < cup.quota = omega (
      arith,
      can.3,
      is_cup.most_quota,
      rising_counts (λ group. not (taken group) && not (better group)) states numbers can.4 behind,
      passes_counts taken states at.0 self joined.3
          (eq-eqb self.block.first self.block.first refl),
      parts_counted taken better states,
      states_are_all 0 cup.groups seasons finishes joined.2.each,
    ) in (
      finishes,
      lots,
      joined.2,
      same_answer cup seasons club mine own is_cup results of_club finishes lots joined.2 finish
          at.0 there joined.3
          ∙ or_right (nat_le place 1) ((place == 2) && nat_lt front cup.quota)
          (and_from (place == 2) (nat_lt front cup.quota) holds.0 (lt-ltb front cup.quota few)),
    )

pub groups_make_sides : GroupsMakeSides
groups_make_sides cup seasons Outside club mine own is_cup of_groups results of_club can =
    missing_back cup seasons club mine own is_cup of_groups results of_club can
groups_make_sides cup seasons Inside club mine own is_cup of_groups results of_club can =
    qualifying_back cup seasons club mine own is_cup of_groups results of_club can
