-- The rule of the table, kept by every step: one seat at most owns the word, the word is the pack
-- of that seat's list, and what any seat knows is a prefix of that list.
use Rattle.std.specs.Prelude.{◌≡◌, ℕ, ◌<◌, ◌≤◌, true, List, [], ◌∷◌, length}
use mathlib.Core.Option.{some}
use mathlib.Core.List.{IsPrefix}
use lib.ListN.{get_elem?}
use Rattle.atomic_table.specs.Table.{State}
use Rattle.league_core.specs.declared.season.Event.{Event}
use Rattle.epoch_cancel.specs.declared.view.View.{View}
use Rattle.epoch_cancel.specs.inside.Packs.{last_code, pack_of}

-- a view, by its number, beside the number of the seat that owns the word, and the log: only that
-- seat's view owns, and it knows the whole log; the lists of every view begin the log, and no view
-- has found a later epoch than the present one
pub record FitsLog (seat : ℕ) (log : List Event) (by : ℕ) (view : View) : Type 0 where
  pub owner : view.owns ≡ true → (by ≡ seat) × (view.list ≡ log)
  pub list : IsPrefix view.list log
  pub other : IsPrefix view.other log
  pub newest : view.newest ≤ length log

-- there is a seat that owns the word, and a log, such that the word is the log's pack and every
-- view fits them
pub record IsRuled (state : State (Unit {0}) View) : Type 0 where
  pub seat : ℕ
  pub log : List Event
  pub word : state.words ≡ pack_of log ∷ []
  pub code : last_code log < 4294967296
  pub fits : (by : ℕ) (view : View) → get_elem? state.views by ≡ some view
      → FitsLog seat log by view
