-- What contracts see of a worker's badge: its eye for the word, whether it is the only badge of its
-- lock, and whether the last answer to a taking by it was that all is over.
use Rattle.std.specs.Prelude.{◌≡◌, ℕ, Bool, true, false, ◌==◌, List, length, map}
use Rattle.league_core.specs.declared.season.Event.{Event}
use Rattle.atomic_table.specs.Seated.{TableId}
use Rattle.epoch_cancel.specs.inside.Seats.{EyeView, Looks}
use Rattle.branch_pool.specs.declared.ticket.Took.{Took}
use Rattle.branch_pool.specs.declared.ticket.Took.TheVariants as took
use Rattle.pool_lock.specs.declared.lent_out.LentOut.{LentOut}
use Rattle.pool_lock.specs.declared.lent_out.LentOut.TheVariants as out

-- what its eye shows: the word, the events that were seen, how often it loaded the word, and the
-- newest epoch found there; and what is kept beside the eye
pub record BadgeView : Type 0 where
  pub table : TableId
  pub list : List Event
  pub loads : ℕ
  pub newest : ℕ
  pub is_sole : Bool
  pub is_over : Bool

-- the eye of a badge
abbrev pub eye_of : BadgeView → EyeView
eye_of badge = record {
  table = badge.table;
  list = badge.list;
  loads = badge.loads;
  newest = badge.newest;
}

-- a badge by which nothing was taken so far
abbrev pub new_badge : Bool → EyeView → BadgeView
new_badge is_sole eye = record {
  table = eye.table;
  list = eye.list;
  loads = eye.loads;
  newest = eye.newest;
  is_sole = is_sole;
  is_over = false;
}

-- a badge for each eye; of one eye alone the badge is the only one
abbrev pub badges_for : List EyeView → List BadgeView
badges_for eyes = map (new_badge (length eyes == 1)) eyes

-- the badge looks at the word, and nothing else of it changes
pub record LooksBy (old new : BadgeView) : Type 0 where
  pub eye : Looks (eye_of old) (eye_of new)
  pub is_sole : new.is_sole ≡ old.is_sole
  pub is_over : new.is_over ≡ old.is_over

-- whether the pool's answer to a taking is that all is over
abbrev pub says_over : Took → Bool
says_over (took.Lent ticket) = false
says_over took.Rest = false
says_over took.Over = true
says_over took.OutOfMemory = false

-- whether the lock's answer is that all is over
abbrev pub lends_over : LentOut → Bool
lends_over (out.Work ticket) = false
lends_over out.Over = true
