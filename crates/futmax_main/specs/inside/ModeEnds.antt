-- How a run of each mode may end.
use Rattle.std.specs.Prelude.{◌≢◌}
use Rattle.command_words.specs.declared.command.Mode.{Mode}
use Rattle.command_words.specs.declared.command.Mode.TheVariants.{Check, GroupsCheck}
use Rattle.run_ends.specs.declared.status.Status.{Status}
use Rattle.run_ends.specs.declared.status.Status.TheVariants.{BadWords}
use Rattle.run_ends.specs.inside.RunTurns.{MayEndSession}

-- words are refused by none, and only a report is no proof
abbrev pub MayEndAs : Mode → Status → Type 0
MayEndAs (Check wide) status = status ≢ BadWords
MayEndAs GroupsCheck status = status ≢ BadWords
MayEndAs mode status = MayEndSession status
