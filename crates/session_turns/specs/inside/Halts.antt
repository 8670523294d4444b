-- Where a round of the feed halts: what an ask that ends it is about.
use Rattle.std.specs.Prelude.{◌≡◌, ℕ, List, Option, Some, None, IfSome, Result, Ok, Err}
use Rattle.result_log.specs.declared.fault.FeedStop.{FeedStop}
use Rattle.branch_pool.specs.inside.States.{PoolView}
use Rattle.plain_rounds.specs.declared.round.RoundEnd.{RoundEnd}
use Rattle.plain_rounds.specs.declared.round.RoundEnd.TheVariants as round_end
use Rattle.what_if.specs.declared.step.Step.{Step}
use Rattle.what_if.specs.declared.step.Step.TheVariants as step
use Rattle.what_if.specs.inside.StepCalls.{IsUnplayedFixture}
use Rattle.command_words.specs.declared.command.Mode.{Mode}
use Rattle.session_turns.specs.Courses.{about_in}

-- the fixture that what is told last asks about, if it asks about one
abbrev pub about_at : Result Step FeedStop → Option ℕ
about_at (Ok (step.When fixture)) = Some fixture
about_at (Ok (step.Entry entry)) = None
about_at (Err stop) = None

-- where a round ends on an ask, the line with this content asks about this
abbrev pub IsAboutAt : Mode → RoundEnd → List ℕ → Option ℕ → Type 0
IsAboutAt mode round_end.Ask content about = about ≡ about_in mode content
IsAboutAt mode round_end.End content about = Unit {0}
IsAboutAt mode (round_end.Stop stop) content about = Unit {0}

-- what is asked about, if it is one fixture, is an unplayed one of the pool's season
abbrev pub IsAskable : PoolView → Option ℕ → Type 0
IsAskable pool about = IfSome about (IsUnplayedFixture pool.sheet pool.season)
