-- The exit statuses of the program, from 0 to 8.
use Rattle.std.specs.Prelude.{ℕ}
use Rattle.run_ends.specs.declared.status.Status.{Status}
use Rattle.run_ends.specs.declared.status.Status.TheVariants.{Done, BadWords, BadSheet, BadFeed}
use Rattle.run_ends.specs.declared.status.Status.TheVariants.{ReadFault, WriteFault, OutOfMemory}
use Rattle.run_ends.specs.declared.status.Status.TheVariants.{NotProved, TooLong}

-- the number that the program ends with
abbrev pub exit_code : Status → ℕ
exit_code Done = 0
exit_code BadWords = 1
exit_code BadSheet = 2
exit_code BadFeed = 3
exit_code ReadFault = 4
exit_code WriteFault = 5
exit_code OutOfMemory = 6
exit_code NotProved = 7
exit_code TooLong = 8
