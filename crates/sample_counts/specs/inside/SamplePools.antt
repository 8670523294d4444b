-- The pool of a sample league, from nothing to its last event.
use Rattle.std.specs.Prelude.{◌≡◌, ℕ, List, []}
use Rattle.league_core.specs.declared.season.Event.{Event}
use Rattle.league_core.specs.game.Seasons.{season_after}
use Rattle.branch_pool.specs.inside.States.{PoolView, out_count}
use Rattle.answer_rows.specs.AskedQuestions.{questions_of}
use Rattle.sample_counts.specs.Samples.{sample_sheet, sample_events}

-- nothing was reported to the pool, and nothing is out
pub record IsBegun (pool : PoolView) : Type 0 where
  pub log : pool.log ≡ []
  pub home : out_count pool.loans ≡ 0

-- the pool has heard of these events and of no others; what it asks is the same, and nothing is out
pub record HasHeard (old : PoolView) (events : List Event) (new : PoolView) : Type 0 where
  pub log : new.log ≡ events
  pub sheet : new.sheet ≡ old.sheet
  pub questions : new.questions ≡ old.questions
  pub home : out_count new.loans ≡ 0

-- the pool of a seed: the sheet of the samples with all its questions, and the seed's results
pub record IsSamplePool (seed : ℕ) (pool : PoolView) : Type 0 where
  pub sheet : pool.sheet ≡ sample_sheet
  pub questions : pool.questions ≡ questions_of pool.sheet
  pub season : pool.season ≡ season_after sample_sheet (sample_events seed)
  pub home : out_count pool.loans ≡ 0
