-- What ends a round, as the feed says it.
use Rattle.std.specs.Prelude.{Result, Ok, Err}
use Rattle.result_log.specs.declared.entry.Entry.{Entry}
use Rattle.result_log.specs.declared.entry.Entry.TheVariants as entry
use Rattle.result_log.specs.declared.fault.FeedStop.{FeedStop}
use Rattle.plain_rounds.specs.declared.round.RoundEnd.{RoundEnd}
use Rattle.plain_rounds.specs.declared.round.RoundEnd.TheVariants as round_end

-- what ended a round, as an entry or why there is none
abbrev pub close_of : RoundEnd → Result Entry FeedStop
close_of round_end.Ask = Ok entry.Ask
close_of round_end.End = Ok entry.End
close_of (round_end.Stop stop) = Err stop

-- a round ends on no event
abbrev pub IsNoEvent : Result Entry FeedStop → Type 0
IsNoEvent (Ok (entry.Change event)) = ⊥
IsNoEvent (Ok entry.Ask) = Unit {0}
IsNoEvent (Ok entry.Proofs) = Unit {0}
IsNoEvent (Ok entry.End) = Unit {0}
IsNoEvent (Err stop) = Unit {0}
