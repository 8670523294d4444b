-- Who qualifies. So many places of each group qualify by themselves; the club at the place after
-- them is its group's candidate, and of all candidates the best qualify, so many as the quota says.
-- Candidates are compared by their keys, and if these are equal by the lots. With one such place
-- the candidates are the runners-up; in another cup they may be those who come third.
use Rattle.std.specs.Prelude.{◌≡◌, ℕ, ◌+◌, Bool, true, false, not, ◌&&◌, ◌||◌, ◌==◌, nat_le, nat_lt}
use Rattle.std.specs.Prelude.{IsTrue, List, filter, count_by}
use Rattle.std.specs.List.{list_any}
use Rattle.std.specs.Ordering.{nat_cmp, ordering_then, is_lt}
use Rattle.league_core.specs.game.Results.{Results}
use Rattle.league_core.specs.game.Sheets.{clubs_of}
use Rattle.league_core.specs.game.HeadToHead.{by_first_difference}
use Rattle.league_core.specs.game.Ranking.{lot_of, place_of}
use Rattle.league_core.specs.search.Keys.{key_of}
use Rattle.cup_sheet.specs.declared.cup.Cup.{Cup}
use Rattle.cup_sheet.specs.CupLimits.{direct_places}
use Rattle.cup_sheet.specs.JointFinishes.{GroupState, is_in_block, number_in_cup, number_in_group}
use Rattle.cup_sheet.specs.JointFinishes.{lots_within, states_of, IsJointFinish}

-- the place of a club in its group as it ends, by the club's number there
abbrev pub place_in_group : List ℕ → GroupState → ℕ → ℕ
place_in_group lots group club =
    place_of group.sheet group.results (lots_within group.block lots) club

-- the club is its group's candidate
abbrev pub is_candidate : ℕ → List ℕ → GroupState → ℕ → Bool
is_candidate direct lots group club = place_in_group lots group club == direct + 1

-- a club of one group is before a club of another: by the greater key, or else by the lots
abbrev pub is_before_across : List ℕ → GroupState → ℕ → GroupState → ℕ → Bool
is_before_across lots group club other_group other =
    is_lt (ordering_then (by_first_difference (key_of group.sheet group.results club)
    (key_of other_group.sheet other_group.results other))
    (nat_cmp (lot_of lots (number_in_cup group.block club))
    (lot_of lots (number_in_cup other_group.block other))))

-- a group's candidate is before a club of another group
abbrev pub has_better : ℕ → List ℕ → GroupState → ℕ → GroupState → Bool
has_better direct lots mine club group =
    list_any (λ other. is_candidate direct lots group other
    && is_before_across lots group other mine club)
    (clubs_of group.sheet)

-- all groups but this one
abbrev pub other_groups : GroupState → List GroupState → List GroupState
other_groups mine groups = filter (λ group. not (group.block.first == mine.block.first)) groups

-- a club of a group qualifies, by its number there: at a direct place, or as a candidate before
-- which there are fewer candidates of other groups than the quota
abbrev pub qualifies_in : ℕ → ℕ → List ℕ → List GroupState → GroupState → ℕ → Bool
qualifies_in direct quota lots groups mine club =
    nat_le (place_in_group lots mine club) direct
    || (is_candidate direct lots mine club
    && nat_lt (count_by (has_better direct lots mine club) (other_groups mine groups)) quota)

-- a club of the cup qualifies, by its number in the cup: it does so in its group
abbrev pub qualifies : ℕ → ℕ → List ℕ → List GroupState → ℕ → Bool
qualifies direct quota lots groups club =
    list_any (λ mine. is_in_block mine.block club
    && qualifies_in direct quota lots groups mine (number_in_group mine.block club)) groups

-- the same at a joint finish of the cup
abbrev pub qualifies_at : Cup → List Results → List ℕ → ℕ → Bool
qualifies_at cup finishes lots club =
    qualifies direct_places cup.quota lots (states_of cup finishes) club

-- ---- what can be known before the end

-- some joint finish has this answer to whether the club qualifies
abbrev pub CanEndSo : Cup → List Results → ℕ → Bool → Type 0
CanEndSo cup seasons club answer =
    (finishes : List Results) × (lots : List ℕ) × IsJointFinish cup seasons finishes lots
    × (qualifies_at cup finishes lots club ≡ answer)

-- clinched: the club qualifies at every joint finish
abbrev pub IsClinchedInCup : Cup → List Results → ℕ → Type 0
IsClinchedInCup cup seasons club =
    (finishes : List Results) (lots : List ℕ) → IsJointFinish cup seasons finishes lots
    → IsTrue (qualifies_at cup finishes lots club)

-- lost: the club qualifies at none
abbrev pub IsLostInCup : Cup → List Results → ℕ → Type 0
IsLostInCup cup seasons club =
    (finishes : List Results) (lots : List ℕ) → IsJointFinish cup seasons finishes lots
    → qualifies_at cup finishes lots club ≡ false

-- possible: it qualifies at some joint finish, and not at some other
abbrev pub IsPossibleInCup : Cup → List Results → ℕ → Type 0
IsPossibleInCup cup seasons club =
    CanEndSo cup seasons club true × CanEndSo cup seasons club false
