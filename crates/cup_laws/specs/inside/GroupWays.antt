-- How a club can miss or qualify, said group by group: each group can end so by itself, and lots
-- never stand in the way. Each statement is the contract of a function of src/laws.rt that does
-- nothing.
use Rattle.std.specs.Prelude.{◌≡◌, ◌⊎◌, ◌<◌, ℕ, ◌-◌, ℤ, not, ◌==◌, IsTrue, List, []}
use Rattle.std.specs.Prelude.{length, All, slice_get, Some}
use Rattle.league_core.specs.declared.question.Claim.{Claim}
use Rattle.league_core.specs.game.Results.{Results}
use Rattle.cup_sheet.specs.declared.cup.Cup.{Cup}
use Rattle.cup_sheet.specs.declared.question.GroupKind.{GroupKind}
use Rattle.cup_sheet.specs.CupLimits.{direct_places}
use Rattle.cup_sheet.specs.Cups.{IsCup, AreSeasonsOf}
use Rattle.cup_sheet.specs.JointFinishes.{GroupState, states_of}
use Rattle.cup_sheet.specs.Qualifying.{CanEndSo}
use Rattle.cup_sheet.specs.GroupQuestions.{GroupQuestion, HasGroupExample}
use Rattle.cup_sheet.specs.KeyBounds.{place_kind, halving_kind, others_kind}
use Rattle.cup_sheet.specs.CupAnswers.{IsClubOf, AreRising, qualifies_on, shown_groups}
use Rattle.cup_laws.specs.inside.CupTruths.{AreCupResults}

-- some finish of the group shows it
abbrev pub CanEndInGroup : GroupState → GroupQuestion → Type 0
CanEndInGroup group question = HasGroupExample direct_places group.sheet group.results question

-- the number is that of another group, which can have a candidate so
abbrev pub CanHaveCandidate : Cup → List Results → GroupKind → GroupState → List ℤ → ℕ → Type 0
CanHaveCandidate cup seasons kind mine key number =
    (group : GroupState) × (slice_get (states_of cup seasons) number ≡ Some group)
    × IsTrue (not (group.block.first == mine.block.first))
    × (other : ℕ) × (other < length group.sheet.clubs)
    × CanEndInGroup group (record { kind = kind; club = other; key = key })

-- a club can be on a side by its place alone; or as a candidate with a key no better than some key,
-- for missing, or no worse, while so many other groups can have a candidate on its other side
abbrev pub CanBeOnSide : Cup → List Results → Claim → GroupState → ℕ → Type 0
CanBeOnSide cup seasons claim mine own =
    CanEndInGroup mine (record { kind = place_kind claim; club = own; key = [] })
    ⊎ ((key : List ℤ)
    × CanEndInGroup mine (record { kind = halving_kind claim; club = own; key = key })
    × (numbers : List ℕ) × (length numbers ≡ shown_groups cup claim) × AreRising 0 numbers
    × All (CanHaveCandidate cup seasons (others_kind claim) mine key) numbers)

-- where the club is on a side at some joint finish, it can be so by the groups
abbrev pub SidesAreByGroups : Type 0
SidesAreByGroups =
    (cup : Cup) (seasons : List Results) (claim : Claim) (club : ℕ) (mine : GroupState) (own : ℕ)
    → IsCup cup → AreCupResults seasons → IsClubOf cup seasons club mine own
    → CanEndSo cup seasons club (qualifies_on claim) → CanBeOnSide cup seasons claim mine own

-- and back: where groups can end so by themselves, some joint finish has the club on that side
abbrev pub GroupsMakeSides : Type 0
GroupsMakeSides =
    (cup : Cup) (seasons : List Results) (claim : Claim) (club : ℕ) (mine : GroupState) (own : ℕ)
    → IsCup cup → AreSeasonsOf cup.groups seasons → AreCupResults seasons
    → IsClubOf cup seasons club mine own → CanBeOnSide cup seasons claim mine own
    → CanEndSo cup seasons club (qualifies_on claim)
