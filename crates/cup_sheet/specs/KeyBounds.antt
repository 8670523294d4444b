-- The key on which it turns whether a club qualifies: for missing, the least key with which it can
-- be its group's candidate; for qualifying, the greatest. It is looked for part by part, by halving
-- the range that the options of all fixtures leave of a part. Which questions may be met on the way
-- is fixed here by that key alone, and not by how a search went. Missing is the side `Outside`, and
-- qualifying the side `Inside`.
use Rattle.std.specs.Prelude.{◌≡◌, ◌⊎◌, ◌<◌, ℕ, ℤ, pos, neg_ℤ, ◌+ℤ◌, ◌-ℤ◌, ◌≤ℤ◌, ◌<ℤ◌, not, ◌==◌}
use Rattle.std.specs.Prelude.{IsTrue, List, [], ◌∷◌, ◌++◌, length, replicate, slice_get, Some}
use Rattle.league_core.specs.declared.sheet.Sheet.{Sheet}
use Rattle.league_core.specs.declared.question.Claim.{Claim}
use Rattle.league_core.specs.declared.question.Claim.TheVariants.{Inside, Outside}
use Rattle.league_core.specs.game.Results.{Results}
use Rattle.league_core.specs.search.Keys.{key_of, is_key_from, key_ranges}
use Rattle.league_core.specs.search.PointRanges.{Range}
use Rattle.cup_sheet.specs.declared.question.GroupKind.{GroupKind}
use Rattle.cup_sheet.specs.declared.question.GroupKind.TheVariants.{Top, Below, SecondLess}
use Rattle.cup_sheet.specs.declared.question.GroupKind.TheVariants.{SecondAtLeast, SecondMore}
use Rattle.cup_sheet.specs.declared.question.GroupKind.TheVariants.{SecondAtMost}
use Rattle.cup_sheet.specs.JointFinishes.{GroupState}
use Rattle.cup_sheet.specs.GroupQuestions.{GroupQuestion, IsGroupExample}

-- ---- the key

-- a number beyond each part of any key: above it for missing, below it for qualifying
abbrev pub far_part : Claim → ℤ
far_part Outside = pos 100000
far_part Inside = neg_ℤ (pos 100000)

-- the key with that number in each of its seven parts
abbrev pub far_key : Claim → List ℤ
far_key claim = replicate 7 (far_part claim)

-- the group can finish, with some lots, with the club as its candidate and with exactly this key
abbrev pub CanBeCandidateWith : ℕ → Sheet → Results → ℕ → List ℤ → Type 0
CanBeCandidateWith direct sheet season club key =
    (finish : Results) × (lots : List ℕ)
    × IsGroupExample direct sheet season
    (record { kind = SecondAtLeast; club = club; key = key }) finish lots
    × (key_of sheet finish club ≡ key)

-- for missing the key is as great as the bound, or greater; for qualifying the bound is
abbrev pub IsBeyond : Claim → List ℤ → List ℤ → Type 0
IsBeyond Outside bound key = IsTrue (is_key_from bound key)
IsBeyond Inside bound key = IsTrue (is_key_from key bound)

-- the club can be the candidate with this key, and each other such key is beyond it
abbrev pub IsNearestKey : ℕ → Sheet → Results → Claim → ℕ → List ℤ → Type 0
IsNearestKey direct sheet season claim club bound =
    CanBeCandidateWith direct sheet season club bound
    × ((key : List ℤ) → CanBeCandidateWith direct sheet season club key → IsBeyond claim bound key)

-- the least key with which the club can be the candidate, for missing, or the greatest, for
-- qualifying; where it cannot be the candidate, the key that is beyond all
abbrev pub IsTurningKey : ℕ → Sheet → Results → Claim → ℕ → List ℤ → Type 0
IsTurningKey direct sheet season claim club bound =
    IsNearestKey direct sheet season claim club bound
    ⊎ (((key : List ℤ) → ¬ CanBeCandidateWith direct sheet season club key)
    × (bound ≡ far_key claim))

-- ---- halving

-- half the sum of both ends: for missing rounded down, for qualifying rounded up
abbrev pub IsMidpoint : Claim → Range → ℤ → Type 0
IsMidpoint Outside range middle =
    ((middle +ℤ middle) ≤ℤ (range.least +ℤ range.greatest))
    × ((range.least +ℤ range.greatest) ≤ℤ (middle +ℤ middle +ℤ pos 1))
IsMidpoint Inside range middle =
    ((range.least +ℤ range.greatest) ≤ℤ (middle +ℤ middle))
    × ((middle +ℤ middle) ≤ℤ (range.least +ℤ range.greatest +ℤ pos 1))

-- the number lies in the half up to the middle, for missing, or from the middle on
abbrev pub IsInNearHalf : Claim → ℤ → ℤ → Type 0
IsInNearHalf Outside middle number = number ≤ℤ middle
IsInNearHalf Inside middle number = middle ≤ℤ number

-- the half with the middle
abbrev pub near_half : Claim → Range → ℤ → Range
near_half Outside range middle = record { least = range.least; greatest = middle }
near_half Inside range middle = record { least = middle; greatest = range.greatest }

-- the half without it
abbrev pub far_half : Claim → Range → ℤ → Range
far_half Outside range middle = record { least = middle +ℤ pos 1; greatest = range.greatest }
far_half Inside range middle = record { least = range.least; greatest = middle -ℤ pos 1 }

-- the ranges that are met when a range is halved toward a number, as long as it has several numbers
pub data IsHalvedTo (claim : Claim) (number : ℤ) (whole : Range) : Range → Type 0 where
  not_halved : IsHalvedTo claim number whole whole
  to_near_half : (range : Range) (middle : ℤ) → IsHalvedTo claim number whole range
      → range.least <ℤ range.greatest → IsMidpoint claim range middle
      → IsInNearHalf claim middle number
      → IsHalvedTo claim number whole (near_half claim range middle)
  to_far_half : (range : Range) (middle : ℤ) → IsHalvedTo claim number whole range
      → range.least <ℤ range.greatest → IsMidpoint claim range middle
      → (IsInNearHalf claim middle number → ⊥)
      → IsHalvedTo claim number whole (far_half claim range middle)

-- a key that is asked about when one part of the turning key is looked for: the parts before it are
-- known, in its place stands a middle, and in each later place a number beyond all
pub record IsHalfwayKey (sheet : Sheet) (season : Results) (claim : Claim) (club : ℕ)
    (turning key : List ℤ) : Type 0 where
  pub before : List ℤ
  pub part : ℤ
  pub later : List ℤ
  pub parts : turning ≡ before ++ part ∷ later
  pub whole : Range
  pub of_part : slice_get (key_ranges sheet season [] club) (length before) ≡ Some whole
  pub range : Range
  pub halved : IsHalvedTo claim part whole range
  pub several : range.least <ℤ range.greatest
  pub middle : ℤ
  pub midpoint : IsMidpoint claim range middle
  pub asked : key ≡ before ++ middle ∷ replicate (length later) (far_part claim)

-- ---- questions on the way

-- what the club's place alone can settle: that it ends below the candidate, or at a direct place
abbrev pub place_kind : Claim → GroupKind
place_kind Outside = Below
place_kind Inside = Top

-- what finds the turning key: that the club is the candidate with a key no greater, or no less
abbrev pub halving_kind : Claim → GroupKind
halving_kind Outside = SecondAtMost
halving_kind Inside = SecondAtLeast

-- what shows that no key is before the turning key
abbrev pub nearer_kind : Claim → GroupKind
nearer_kind Outside = SecondLess
nearer_kind Inside = SecondMore

-- what is asked of the clubs of other groups: that one of them is its group's candidate with a key
-- no less than the turning key, or no greater
abbrev pub others_kind : Claim → GroupKind
others_kind Outside = SecondAtLeast
others_kind Inside = SecondAtMost

-- the questions on the way about the club itself
abbrev pub IsAskedOfClub : Sheet → Results → Claim → ℕ → List ℤ → GroupQuestion → Type 0
IsAskedOfClub sheet season claim club turning question =
    (question ≡ record { kind = place_kind claim; club = club; key = [] })
    ⊎ (question ≡ record { kind = halving_kind claim; club = club; key = far_key claim })
    ⊎ ((key : List ℤ) × IsHalfwayKey sheet season claim club turning key
    × (question ≡ record { kind = halving_kind claim; club = club; key = key }))
    ⊎ (question ≡ record { kind = nearer_kind claim; club = club; key = turning })

-- those about a club of another group
abbrev pub IsAskedOfOther : Claim → List ℤ → GroupState → GroupQuestion → Type 0
IsAskedOfOther claim turning group question =
    (question.club < length group.sheet.clubs)
    × (question.kind ≡ others_kind claim) × (question.key ≡ turning)

-- a question about a group is on the way to a side for a club of a group, by its number there
abbrev pub IsAskedOnTheWay : ℕ → Claim → GroupState → ℕ → GroupState → GroupQuestion → Type 0
IsAskedOnTheWay direct claim mine club group question =
    (turning : List ℤ) × IsTurningKey direct mine.sheet mine.results claim club turning
    × (((group ≡ mine)
    × IsAskedOfClub mine.sheet mine.results claim club turning question)
    ⊎ (IsTrue (not (group.block.first == mine.block.first))
    × IsAskedOfOther claim turning group question))
