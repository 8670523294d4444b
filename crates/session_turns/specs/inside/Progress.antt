-- What a run keeps from ask to ask: the way from the whole input to where it stands.
use Rattle.std.specs.Prelude.{◌≡◌, ◌≤◌, ℕ, Bool, List, Option, Some, None, IfSome}
use Rattle.league_core.specs.declared.sheet.Sheet.{Sheet}
use Rattle.league_core.specs.game.Seasons.{epoch_of, season_after}
use Rattle.league_core.specs.search.Trees.{Tree}
use Rattle.port_core.specs.Contents.{Position}
use Rattle.result_log.specs.inside.FeedParts.{LiveReading}
use Rattle.result_log.specs.inside.Rounds.{live_entry}
use Rattle.branch_pool.specs.inside.States.{PoolView}
use Rattle.what_if.specs.inside.StepCalls.{live_step}
use Rattle.pool_save.specs.inside.SavedPools.{AreNearlySaved}
use Rattle.command_words.specs.declared.command.Mode.{Mode}
use Rattle.command_words.specs.declared.command.Mode.TheVariants.{WhatIf, Resume}
use Rattle.session_turns.specs.Courses.{Origin, course_from, line_of, saved_at}
use Rattle.run_ends.specs.inside.Ways.{Path}
use Rattle.session_turns.specs.Texts.{session_kind}

-- ---- how lines are read

-- what a line after an origin is, by the events before it: it is read in their season
abbrev pub line_after : Mode → Origin → LiveReading
line_after mode origin events =
    line_of mode origin (season_after origin.sheet events) (epoch_of events)

-- the same of a line in a round, before which a saved text came if one has to
abbrev pub round_line : Mode → Sheet → LiveReading
round_line WhatIf sheet = live_step sheet
round_line mode sheet = live_entry sheet

-- ---- the pool on the way

-- no saved text must come any more: in `resume` one came, and no other mode has one
abbrev pub IsOpened : Mode → Option (List (Option Tree)) → Type 0
IsOpened (Resume proofs) saved = (trees : List (Option Tree)) × (saved ≡ Some trees)
IsOpened mode saved = saved ≡ None

-- each question whose saved tree was nearly done is nearly known, if trees were saved
abbrev pub KeepsSaved : Option (List (Option Tree)) → PoolView → Type 0
KeepsSaved saved pool = IfSome saved (AreNearlySaved pool)

-- a session that goes on from this origin may have come to this pool
pub record IsOriginOf (mode : Mode) (origin : Origin) (pool : PoolView) : Type 0 where
  pub sheet : origin.sheet ≡ pool.sheet
  pub opened : IsOpened mode origin.saved
  pub since : IfSome origin.saved (λ trees. origin.since ≤ epoch_of pool.log)
  pub kept : KeepsSaved (saved_at origin pool.log) pool

-- the way led from an origin of the pool over what was reported to it
abbrev pub PathToPool : Mode → Option (List ℕ) → Bool → Option (List ℕ) → Bool → Position
    → PoolView → Option (List ℕ) → Option (List ℕ) → Type 0
PathToPool mode input ended left ended' position pool old now =
    (origin : Origin) × IsOriginOf mode origin pool
    × Path (session_kind mode) input ended left ended' position (course_from mode origin pool.log)
    old now
