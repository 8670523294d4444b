-- Why no saved text is given, as one plain word.
use Rattle.std.specs.Prelude.{◌≡◌, ◌⊎◌}
use Rattle.port_core.specs.Contents.{Position, number_at}
use Rattle.pool_save.specs.declared.stop.SaveStop.{SaveStop}
use Rattle.pool_save.specs.declared.stop.SaveStop.TheVariants as save_stop
use Rattle.run_ends.specs.declared.refuse.InputStop.{InputStop}
use Rattle.run_ends.specs.declared.refuse.InputStop.TheVariants.{Refused, OutOfMemory}
use Rattle.run_ends.specs.InputEnds.{save_fault}
use Rattle.run_ends.specs.inside.Stops.{stop_of_read}

-- no saved text is given
abbrev pub stop_of_save : SaveStop → InputStop
stop_of_save (save_stop.BadSave number) = Refused (save_fault number)
stop_of_save (save_stop.Read stop) = stop_of_read stop
stop_of_save save_stop.OutOfMemory = OutOfMemory

-- the input ends at this position, before a saved text that has to come; or memory ran out
abbrev pub EndsBefore : Position → InputStop → Type 0
EndsBefore position stop =
    (stop ≡ Refused (save_fault (number_at position))) ⊎ (stop ≡ OutOfMemory)
