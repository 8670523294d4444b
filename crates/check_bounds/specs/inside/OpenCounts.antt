-- How many fixtures have no score left, and how many have scores of more than one outcome.
use Rattle.std.specs.Prelude.{◌≡◌, ℕ, ◌+◌, ◌≤◌, Bool, true, false, List, [], ◌∷◌}
use Rattle.league_core.specs.declared.season.Score.{Score}
use Rattle.league_core.specs.search.Options.{has_option, has_one_outcome}
use Rattle.check_bounds.specs.declared.open_counts.OpenCounts.{OpenCounts}

-- a test that is not passed counts one
abbrev pub fails : Bool → ℕ
fails true = 0
fails false = 1

-- how many fixtures do not pass a test
abbrev pub failing : (List Score → Bool) → List (List Score) → ℕ
failing test [] = 0
failing test (own ∷ corners) = fails (test own) + failing test corners

-- the counts are those of the extremes
pub record AreOpenCounts (corners : List (List Score)) (loose : OpenCounts) : Type 0 where
  pub without_score : loose.without_score ≡ failing has_option corners
  pub undecided : loose.undecided ≡ failing has_one_outcome corners

-- a fixture with these extremes is counted, and at most 600 are
pub record IsAmong (own : List Score) (loose : OpenCounts) : Type 0 where
  pub without_score : fails (has_option own) ≤ loose.without_score
  pub undecided : fails (has_one_outcome own) ≤ loose.undecided
  pub few : loose.without_score ≤ 600
  pub few_outcomes : loose.undecided ≤ 600

-- a fixture counts by its new extremes in place of its old ones
pub record AreExchanged (before : OpenCounts) (old new : List Score) (after : OpenCounts) : Type 0
  where
    pub without_score : after.without_score + fails (has_option old)
        ≡ before.without_score + fails (has_option new)
    pub undecided : after.undecided + fails (has_one_outcome old)
        ≡ before.undecided + fails (has_one_outcome new)
