-- How a season is reported to a new pool: the deductions club by club, then the scores fixture by
-- fixture.
use Rattle.std.specs.Prelude.{◌≡◌, ◌≤◌, ℕ, zero, suc, ◌+◌, List, [], ◌∷◌, length, map, replicate}
use Rattle.std.specs.Prelude.{None}
use Rattle.league_core.specs.game.Results.{Results}
use Rattle.branch_pool.specs.inside.States.{PoolView, new_seat}

-- a list of which the first items are reported, and the others are still as if there were none
abbrev pub reported : {A : Type 0} → ℕ → A → List A → List A
reported zero none xs = replicate (length xs) none
reported (suc count) none [] = []
reported (suc count) none (x ∷ xs) = x ∷ reported count none xs

-- a season of which the first clubs' deductions and the first fixtures' scores are reported
abbrev pub season_reported : ℕ → ℕ → Results → Results
season_reported clubs fixtures season = record {
  scores = reported fixtures None season.scores;
  deductions = reported clubs 0 season.deductions;
}

-- a pool to which so much of a season was reported, and on which no work was done
pub record HasBeenReported (whole : Results) (clubs fixtures : ℕ) (pool : PoolView) : Type 0 where
  pub season : pool.season ≡ season_reported clubs fixtures whole
  pub seats : pool.seats ≡ map new_seat pool.questions
  pub loans : pool.loans ≡ []
  pub events : length pool.log ≤ clubs + fixtures

-- the pool asks the same of the same sheet
pub record AsksTheSame (old new : PoolView) : Type 0 where
  pub sheet : new.sheet ≡ old.sheet
  pub questions : new.questions ≡ old.questions
