-- What a seat at the table knows, and what comes of it at each kind of step. Views are data of the
-- proofs alone.
use Rattle.std.specs.Prelude.{ℕ, ◌+◌, nat_lt, true, false, List, [], ◌∷◌, ◌++◌, length}
use Rattle.std.specs.Prelude.{if◌then◌else◌}
use Rattle.league_core.specs.declared.season.Event.{Event}
use Rattle.epoch_cancel.specs.declared.view.View.{View}

-- the view of the seat that stores: it owns the word, and knows all events
abbrev pub owner_of : List Event → View
owner_of log = record { owns = true; list = log; other = []; loads = 0; newest = 0 }

-- the view of a seat that is spent
abbrev pub nobody : View
nobody = record { owns = false; list = []; other = []; loads = 0; newest = 0 }

-- the owner's view, longer by an event
abbrev pub view_told : View → Event → View
view_told view event = record view { list = view.list ++ event ∷ [] }

-- the view after a load that found this epoch
abbrev pub view_looked : View → ℕ → View
view_looked view epoch = record view { loads = view.loads + 1; newest = epoch }

-- a copy of a view, for a seat that owns nothing
abbrev pub view_noted : View → View
view_noted view = record view { owns = false; other = [] }

-- a copy of a view's list, for a seat that has never looked
abbrev pub view_fresh : View → View
view_fresh view = record view { owns = false; other = []; loads = 0; newest = 0 }

-- of two lists the longer, and of two of one length the first
abbrev pub longer_of : List Event → List Event → List Event
longer_of list other = if nat_lt (length list) (length other) then other else list

-- a view that takes the longer of its own list and another view's, and remembers which was its own
abbrev pub view_longer : View → View → View
view_longer view from = record view { list = longer_of view.list from.list; other = view.list }

-- a view that keeps its list, and remembers another view's
abbrev pub view_beside : View → View → View
view_beside view from = record view { other = from.list }
