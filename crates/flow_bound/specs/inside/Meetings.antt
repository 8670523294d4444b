-- The matches that add something if both clubs are of a set, by their numbers.
use Rattle.std.specs.Prelude.{◌≡◌, ℕ, ◌<◌, Bool, true, List, slice_index_or}
use Rattle.flow_bound.specs.declared.tally.Pair.{Pair}
use Rattle.flow_bound.specs.inside.Parts.{has_both}

-- only pairs of two clubs of the side pass the test
abbrev pub IsTestOfSide : (ℕ → Bool) → (Pair → Bool) → Type 0
IsTestOfSide side test = (pair : Pair) → test pair ≡ true → has_both side pair ≡ true

-- so many numbers at the start are below a bound
abbrev pub AreHeld : ℕ → ℕ → List ℕ → Type 0
AreHeld bound count held = (k d : ℕ) → k < count → slice_index_or held k d < bound
