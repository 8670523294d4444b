-- What a search for a turning key knows on the way. All of it is about each nearest key: that
-- there is but one is not needed.
use Rattle.std.specs.Prelude.{◌≡◌, ℕ, ◌+◌, ◌<◌, ℤ, ◌-ℤ◌, ◌≤ℤ◌, nat_abs, IsTrue, List, [], ◌∷◌, ◌++◌}
use Rattle.std.specs.Prelude.{length}
use Rattle.std.specs.Prelude.{replicate, slice_get, slice_set, Option, Some, None}
use Rattle.league_core.specs.declared.sheet.Sheet.{Sheet}
use Rattle.league_core.specs.declared.question.Claim.{Claim}
use Rattle.league_core.specs.declared.question.Claim.TheVariants.{Inside, Outside}
use Rattle.league_core.specs.game.Results.{Results}
use Rattle.league_core.specs.game.Finishes.{IsFinishOf}
use Rattle.league_core.specs.game.Ranking.{are_lots, place_of}
use Rattle.league_core.specs.search.Keys.{key_of, key_ranges}
use Rattle.league_core.specs.search.PointRanges.{Range}
use Rattle.tree_arena.specs.declared.example.Example.{Example}
use Rattle.cup_sheet.specs.CupLimits.{direct_places}
use Rattle.cup_sheet.specs.KeyBounds.{far_part, IsHalvedTo}
use Rattle.cup_sheet.specs.KeyBounds.{IsHalfwayKey, IsNearestKey, IsBeyond, CanBeCandidateWith}
use Rattle.club_keys.specs.inside.KeyEnds.{key_parts}
use Rattle.cup_groups.specs.inside.KindQuestions.{group_question_of}
use Rattle.group_search.specs.inside.GroupTasks.{IsGroupSpentOn}
use Rattle.turning_keys.specs.inside.TurningQuestions.{halving_question}
use Rattle.turning_keys.specs.declared.part_range.PartRange.{PartRange}
use Rattle.turning_keys.specs.declared.settle.Settled.{Settled}
use Rattle.turning_keys.specs.declared.settle.Settled.TheVariants.{Near, Far, Spent}
use Rattle.turning_keys.specs.declared.halve.SpentOn.{SpentOn}
use Rattle.turning_keys.specs.declared.halve.Reached.{Reached}
use Rattle.turning_keys.specs.declared.narrow.Narrowed.{Narrowed}
use Rattle.turning_keys.specs.declared.narrow.Narrowed.TheVariants.{One, NoMore}
use Rattle.turning_keys.specs.declared.halve.Halved.{Halved}
use Rattle.turning_keys.specs.declared.halve.Halved.TheVariants.{Left, OnTheWay}

-- ---- ranges

-- the range, with both its ends
abbrev pub range_spanned : PartRange → Range
range_spanned range = record { least = range.least; greatest = range.greatest }

-- the end on the far side: no number of the range is farther out
abbrev pub far_end : Claim → Range → ℤ
far_end Outside range = range.greatest
far_end Inside range = range.least

-- how many numbers a range has but one
abbrev pub numbers_past : Range → ℕ
numbers_past range = nat_abs (range.greatest -ℤ range.least)

-- ---- what is known

-- the parts of the key before a place are those of the turning key, and in each later place stands
-- a number beyond all
pub record AreKnownParts (claim : Claim) (turning : List ℤ) (place : ℕ) (key : List ℤ)
    : Type 0 where
  pub before : List ℤ
  pub later : List ℤ
  pub parts : turning ≡ before ++ later
  pub counted : length before ≡ place
  pub known : key ≡ before ++ replicate (length later) (far_part claim)

-- and the part at the place lies in a range that was met in halving
pub record IsPartLeft (sheet : Sheet) (season : Results) (claim : Claim) (club : ℕ)
    (turning : List ℤ) (place : ℕ) (key : List ℤ) (range : Range) : Type 0 where
  pub before : List ℤ
  pub part : ℤ
  pub later : List ℤ
  pub parts : turning ≡ before ++ part ∷ later
  pub counted : length before ≡ place
  pub known : key ≡ before ++ far_part claim ∷ replicate (length later) (far_part claim)
  pub whole : Range
  pub of_part : slice_get (key_ranges sheet season [] club) place ≡ Some whole
  pub least : whole.least ≤ℤ part
  pub greatest : part ≤ℤ whole.greatest
  pub halved : IsHalvedTo claim part whole range

-- for each nearest key
abbrev pub IsKnownTo : Sheet → Results → Claim → ℕ → ℕ → List ℤ → Type 0
IsKnownTo sheet season claim club place key =
    (turning : List ℤ) → IsNearestKey direct_places sheet season claim club turning
    → AreKnownParts claim turning place key

-- for each nearest key
abbrev pub IsLeftTo : Sheet → Results → Claim → ℕ → ℕ → List ℤ → Range → Type 0
IsLeftTo sheet season claim club place key range =
    (turning : List ℤ) → IsNearestKey direct_places sheet season claim club turning
    → IsPartLeft sheet season claim club turning place key range

-- a key that each nearest key has halfway
abbrev pub IsHalfwayTo : Sheet → Results → Claim → ℕ → List ℤ → Type 0
IsHalfwayTo sheet season claim club key =
    (turning : List ℤ) → IsNearestKey direct_places sheet season claim club turning
    → IsHalfwayKey sheet season claim club turning key

-- ---- what is found

-- the example shows the club as its group's candidate
pub record IsCandidateAt (sheet : Sheet) (season : Results) (club : ℕ) (example : Example)
    : Type 0 where
  pub is_finish : IsFinishOf sheet season example.finish
  pub is_drawn : IsTrue (are_lots (length sheet.clubs) example.lots)
  pub place : place_of sheet example.finish example.lots club ≡ direct_places + 1

-- with a key no farther out than the bound
pub record IsReachedWithin (sheet : Sheet) (season : Results) (claim : Claim) (club : ℕ)
    (bound : List ℤ) (example : Example) : Type 0 where
  pub candidate : IsCandidateAt sheet season club example
  pub near : IsBeyond claim (key_of sheet example.finish club) bound

-- with no such key can it be the candidate
abbrev pub IsRefutedWithin : Sheet → Results → Claim → ℕ → List ℤ → Type 0
IsRefutedWithin sheet season claim club bound =
    (key : List ℤ) → CanBeCandidateWith direct_places sheet season club key
    → ¬ IsBeyond claim key bound

-- what a question about a key came to, with the example that was known before, and that which is
-- known now
abbrev pub IsKeySettled : Sheet → Results → Claim → ℕ → List ℤ → Example → Example → Settled
    → Type 0
IsKeySettled sheet season claim club key old new Near =
    IsReachedWithin sheet season claim club key new
IsKeySettled sheet season claim club key old new Far =
    (new ≡ old) × IsRefutedWithin sheet season claim club key
IsKeySettled sheet season claim club key old new (Spent nodes) =
    IsGroupSpentOn sheet season (halving_question claim club key) sheet.budget nodes.items

-- the budget was spent on a question about a key that each nearest key has halfway
pub record IsSpentHalfway (sheet : Sheet) (season : Results) (claim : Claim) (club : ℕ)
    (spent : SpentOn) : Type 0 where
  pub key : List ℤ
  pub question : group_question_of spent.question ≡ halving_question claim club key
  pub halfway : IsHalfwayTo sheet season claim club key
  pub tree : IsGroupSpentOn sheet season (halving_question claim club key) sheet.budget
      spent.nodes.items

-- ---- steps

-- so many parts of the key are known, and an example's key is no farther out
pub record IsReachedTo (sheet : Sheet) (season : Results) (claim : Claim) (club : ℕ)
    (reached : Reached) : Type 0 where
  pub known : IsKnownTo sheet season claim club reached.known (key_parts reached.key)
  pub near : IsReachedWithin sheet season claim club (key_parts reached.key) reached.example

-- the next part lies in a range on the way, and the example's key is no farther out than the key
-- with the range's far end there
pub record IsHalving (sheet : Sheet) (season : Results) (claim : Claim) (club : ℕ)
    (reached : Reached) (range : Range) : Type 0 where
  pub room : reached.known < 7
  pub in_order : range.least ≤ℤ range.greatest
  pub left : IsLeftTo sheet season claim club reached.known (key_parts reached.key) range
  pub near : IsReachedWithin sheet season claim club
      (slice_set (key_parts reached.key) reached.known (far_end claim range)) reached.example

-- what a step of halving leaves
abbrev pub IsHalved : Sheet → Results → Claim → ℕ → Range → Reached → Reached → Halved → Type 0
IsHalved sheet season claim club range old new (Left half) =
    IsHalving sheet season claim club new (range_spanned half)
    × (numbers_past (range_spanned half) < numbers_past range)
    × (new.known ≡ old.known)
IsHalved sheet season claim club range old new (OnTheWay spent) =
    IsSpentHalfway sheet season claim club spent

-- the next part, unless the budget was spent
abbrev pub IsPartNarrowed : Sheet → Results → Claim → ℕ → Reached → Reached → Narrowed → Type 0
IsPartNarrowed sheet season claim club old new (One part) =
    let key = slice_set (key_parts new.key) new.known part in
    (new.known ≡ old.known) × IsKnownTo sheet season claim club (old.known + 1) key
    × IsReachedWithin sheet season claim club key new.example
IsPartNarrowed sheet season claim club old new (NoMore spent) =
    IsSpentHalfway sheet season claim club spent

-- one part more is known, unless the budget was spent
abbrev pub IsPartFound : Sheet → Results → Claim → ℕ → Reached → Reached → Option SpentOn → Type 0
IsPartFound sheet season claim club old new None =
    IsReachedTo sheet season claim club new × (new.known ≡ old.known + 1)
IsPartFound sheet season claim club old new (Some spent) =
    IsSpentHalfway sheet season claim club spent

-- all parts are known
abbrev pub IsKeyFound : Sheet → Results → Claim → ℕ → Reached → Option SpentOn → Type 0
IsKeyFound sheet season claim club new None =
    IsReachedTo sheet season claim club new × (new.known ≡ 7)
IsKeyFound sheet season claim club new (Some spent) =
    IsSpentHalfway sheet season claim club spent
