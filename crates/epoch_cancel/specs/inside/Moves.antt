-- What each step on the word tells the seat that makes it.
use Rattle.std.specs.Prelude.{◌≡◌, ℕ, ◌/◌, ◌≤◌, true, List, [], ◌∷◌, ◌++◌, length, IsTrue}
use mathlib.Core.List.{IsPrefix}
use Rattle.atomic_table.specs.Table.{Me, Step}
use Rattle.league_core.specs.declared.season.Event.{Event}
use Rattle.league_core.specs.inside.Codes.{has_code}
use Rattle.epoch_cancel.specs.declared.view.View.{View}
use Rattle.epoch_cancel.specs.inside.Packs.{pack_of}
use Rattle.epoch_cancel.specs.inside.Views.{view_told, view_looked}

-- a store: the owner knows the event more whose word was stored
abbrev pub StoresWord : Step (Unit {0}) → Me (Unit {0}) View → ℕ → Me (Unit {0}) View → Type 0
StoresWord step old found new =
    ((event : Event) → IsTrue (has_code event)
    → step.first ≡ pack_of (old.0.list ++ event ∷ []) → new.0 ≡ view_told old.0 event)
    × (new.1 ≡ old.1)

-- a load that compares the two lists of a view: both begin one log, so the shorter begins the
-- longer, and the owner's own is the whole
abbrev pub ComparesLists : Step (Unit {0}) → Me (Unit {0}) View → ℕ → Me (Unit {0}) View → Type 0
ComparesLists step old found new =
    (new ≡ old) × (old.0.owns ≡ true → IsPrefix old.0.other old.0.list)
    × (length old.0.other ≤ length old.0.list → IsPrefix old.0.other old.0.list)

-- a load that finds the present epoch: the word is the pack of a log that begins with the view's
-- list, and the log's epoch is no less than what the view knew of it
abbrev pub FindsEpoch : Step (Unit {0}) → Me (Unit {0}) View → ℕ → Me (Unit {0}) View → Type 0
FindsEpoch step old found new =
    (new.0 ≡ view_looked old.0 (found / 4294967296)) × (new.1 ≡ old.1)
    × (old.0.newest ≤ found / 4294967296)
    × ((log : List Event) × (found ≡ pack_of log) × (found / 4294967296 ≡ length log)
    × IsPrefix old.0.list log)
