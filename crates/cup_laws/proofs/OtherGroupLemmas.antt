-- Candidates of other groups at a joint finish: those groups can have such candidates by
-- themselves.
use Rattle.std.proofs.Common.{◌≡◌, ◌<◌, inl, inr, ℕ, ℤ, Bool, true, false}
use Rattle.std.proofs.Common.{not, ◌&&◌, ◌==◌, List, length}
use Rattle.std.proofs.Common.{sym, ap, ◌∙◌, arith}
use Rattle.std.proofs.Common.{slice_index_or}
use Rattle.std.specs.Prelude.{All}
use Rattle.std.specs.Ordering.{nat_cmp}
use Rattle.std.proofs.lemmas.Bool.{false≢true, and_parts, and_from, cases_Bool}
use Rattle.std.proofs.lemmas.Bool.{eq-eqb}
use Rattle.league_core.specs.game.Results.{Results}
use Rattle.league_core.specs.game.HeadToHead.{by_first_difference}
use Rattle.league_core.specs.game.Ranking.{are_lots, lot_of, place_of}
use Rattle.league_core.specs.search.Keys.{key_of, is_key_from}
use Rattle.league_core.proofs.plain.Orderings.{first_decides}
use Rattle.club_keys.proofs.KeyOrderLemmas.{above_or_below}
use Rattle.cup_sheet.specs.declared.cup.Cup.{Cup}
use Rattle.cup_sheet.specs.declared.question.GroupKind.{GroupKind}
use Rattle.cup_sheet.specs.declared.question.GroupKind.TheVariants.{SecondAtLeast}
use Rattle.cup_sheet.specs.declared.question.GroupKind.TheVariants.{SecondAtMost}
use Rattle.cup_sheet.specs.CupLimits.{direct_places}
use Rattle.cup_sheet.specs.Cups.{clubs_together}
use Rattle.cup_sheet.specs.JointFinishes.{GroupState, number_in_cup}
use Rattle.cup_sheet.specs.JointFinishes.{lots_within, states_of, AreFinishesOf}
use Rattle.cup_sheet.specs.Qualifying.{place_in_group, is_candidate, is_before_across, has_better}
use Rattle.cup_laws.specs.inside.GroupWays.{CanEndInGroup, CanHaveCandidate}
use Rattle.cup_laws.proofs.PlaceTakenLemmas.{some_in_range, any_in_range, place_taken}
use Rattle.cup_laws.proofs.GroupEndLemmas.{ended, IsEndOf}
use Rattle.cup_laws.proofs.GroupCountLemmas.{PassesAt}
use Rattle.cup_laws.proofs.CandidateLemmas.{own_drawn, up_to_before}
use Rattle.cup_laws.proofs.CupTruthLemmas.{HaveEnds}
use Rattle.cup_laws.proofs.SideLemmas.{was_at, shown_at_end}

-- a group can have a candidate on this side of the key
abbrev pub HasCandidate : GroupKind → List ℤ → GroupState → Type 0
HasCandidate kind key group =
    (other : ℕ) × (other < length group.sheet.clubs)
    × CanEndInGroup group (record { kind = kind; club = other; key = key })

-- a candidate before a club has a key that is as great
pub better_shown : (clubs : ℕ) (group : GroupState) (finish : Results) (lots : List ℕ)
    (mine : GroupState) (club : ℕ) → IsEndOf clubs group finish → are_lots clubs lots ≡ true
    → has_better direct_places lots mine club (ended group finish) ≡ true
    → HasCandidate SecondAtLeast (key_of mine.sheet mine.results club) group
better_shown clubs group finish lots mine club end drawn is =
    let found = some_in_range (λ other. is_candidate direct_places lots (ended group finish) other
    && is_before_across lots (ended group finish) other mine club) 0
    (length group.sheet.clubs) is in
    let other = found.0 in
    let own_key = key_of mine.sheet mine.results club in
    let other_key = key_of group.sheet finish other in
    let both = and_parts (is_candidate direct_places lots (ended group finish) other)
    (is_before_across lots (ended group finish) other mine club) found.3 in (
      other,
      omega (arith, found.2),
      shown_at_end clubs group finish lots
          (record { kind = SecondAtLeast; club = other; key = own_key }) end drawn
          (and_from (place_in_group lots (ended group finish) other == 2)
          (is_key_from own_key other_key) both.0
          (up_to_before (by_first_difference other_key own_key) _ both.1)),
    )

-- if no candidate of a group is before a club, it has one whose key is no greater
pub worse_shown : (clubs : ℕ) (group : GroupState) (finish : Results) (lots : List ℕ)
    (mine : GroupState) (club : ℕ) → IsEndOf clubs group finish → are_lots clubs lots ≡ true
    → has_better direct_places lots mine club (ended group finish) ≡ false
    → HasCandidate SecondAtMost (key_of mine.sheet mine.results club) group
worse_shown clubs group finish lots mine club end drawn none =
    let within = lots_within group.block lots in
    let least = end.least_clubs in
    let found = place_taken group.sheet finish within 2
    (own_drawn clubs group finish lots end drawn) (omega arith) (omega (arith, least)) in
    let other = found.0 in
    let own_key = key_of mine.sheet mine.results club in
    let other_key = key_of group.sheet finish other in
    let second = eq-eqb (place_of group.sheet finish within other) 2 found.2 in
    let no_greater : is_key_from other_key own_key ≡ true =
    elim (cases_Bool (is_key_from other_key own_key)) as
    (λ _. is_key_from other_key own_key ≡ true) [
      | inl is ↦ is
      | inr past ↦ let before = first_decides (by_first_difference other_key own_key)
          (nat_cmp (lot_of lots (number_in_cup group.block other))
          (lot_of lots (number_in_cup mine.block club)))
          (above_or_below other_key own_key ∙ ap not past) in
          absurd (false≢true (sym none ∙ any_in_range
          (λ it. is_candidate direct_places lots (ended group finish) it
          && is_before_across lots (ended group finish) it mine club) 0
          (length group.sheet.clubs) other (omega arith) (omega (arith, found.1))
          (and_from (is_candidate direct_places lots (ended group finish) other)
          (is_before_across lots (ended group finish) other mine club) second before)))
    ] in (
      other,
      found.1,
      shown_at_end clubs group finish lots
          (record { kind = SecondAtMost; club = other; key = own_key }) end drawn
          (and_from (place_of group.sheet finish within other == 2)
          (is_key_from other_key own_key) second no_greater),
    )

-- the groups at these places can have such candidates
pub candidates_at : (cup : Cup) (seasons finishes : List Results) (kind : GroupKind)
    (mine self : GroupState) (key : List ℤ) (side : GroupState → Bool) (numbers : List ℕ)
    → HaveEnds cup seasons finishes → AreFinishesOf cup.groups seasons finishes
    → self.block.first ≡ mine.block.first
    → ((group : GroupState) (finish : Results) → IsEndOf (clubs_together cup.groups) group finish
    → side (ended group finish) ≡ true → HasCandidate kind key group)
    → All (PassesAt (λ group. not (group.block.first == self.block.first) && side group)
    (states_of cup finishes)) numbers
    → All (CanHaveCandidate cup seasons kind mine key) numbers
candidates_at cup seasons finishes kind mine self key side numbers ends each same shows all i d
    below =
    let at = all i d below in
    let was = was_at cup seasons finishes ends each (slice_index_or numbers i d) at.0 at.1 in
    let both = and_parts (not (at.0.block.first == self.block.first)) (side at.0) at.2 in
    let found = shows was.0 was.1 was.4 (ap side (sym was.3) ∙ both.1) in (
      was.0,
      was.2,
      ap (λ (n : ℕ). not (was.0.block.first == n)) (sym same)
          ∙ ap (λ (it : GroupState). not (it.block.first == self.block.first)) (sym was.3)
          ∙ both.0,
      found.0,
      found.1,
      found.2,
    )
