-- What contracts see of a seat at the word of an epoch: which word it is of, and what it was told.
use Rattle.std.specs.Prelude.{◌≡◌, ℕ, ◌+◌, ◌/◌, ◌<◌, ◌≤◌, List, [], ◌∷◌, ◌++◌}
use Rattle.std.specs.Prelude.{Option, Some, None}
use mathlib.Core.List.{IsPrefix}
use Rattle.league_core.specs.declared.season.Event.{Event}
use Rattle.league_core.specs.game.Seasons.{epoch_of}
use Rattle.atomic_table.specs.Seated.{TableId}
use Rattle.epoch_cancel.specs.inside.Packs.{pack_of}

-- of the seat that stores, and of the reporter's: the word, by the table that it stands in, and the
-- events that the seat knows
pub record SeatView : Type 0 where
  pub table : TableId
  pub list : List Event

-- of a worker's seat also how often it loaded the word, and the newest epoch that it found there,
-- 0 before the first load
pub record EyeView : Type 0 where
  pub table : TableId
  pub list : List Event
  pub loads : ℕ
  pub newest : ℕ

-- a seat that knows these events
abbrev pub seat_of : TableId → List Event → SeatView
seat_of table log = record { table = table; list = log }

-- a worker's seat that knows these events, and has not looked yet
abbrev pub new_eye : TableId → List Event → EyeView
new_eye table log = record { table = table; list = log; loads = 0; newest = 0 }

-- the seat is told one event more
abbrev pub seat_told : SeatView → Event → SeatView
seat_told seat event = record seat { list = seat.list ++ event ∷ [] }

-- a worker's seat loads the word once: the table and the list stay, and the newest epoch becomes
-- that of the word, which is the pack of a log; the log begins with the events that the seat knew,
-- and its epoch is no less than that of an earlier load
pub record Looks (old new : EyeView) : Type 0 where
  pub log : List Event
  pub table : new.table ≡ old.table
  pub list : new.list ≡ old.list
  pub loads : new.loads ≡ old.loads + 1
  pub word : new.newest ≡ pack_of log / 4294967296
  pub epoch : new.newest ≡ epoch_of log
  pub begins : IsPrefix old.list log
  pub later : old.newest ≤ new.newest

-- work of an epoch is told to be out of date exactly when a later one was found, which is told
abbrev pub IsCancelled : Option ℕ → ℕ → ℕ → Type 0
IsCancelled (Some found) epoch newest = (found ≡ newest) × (epoch < found)
IsCancelled None epoch newest = newest ≤ epoch
