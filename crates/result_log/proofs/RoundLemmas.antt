-- Lemmas on rounds: a feed is its first round and the feed after it; lines that tell events begin a
-- round, and one that asks or is refused closes it.
use Rattle.std.proofs.Common.{◌≡◌, ℕ, Bool, List, [], ◌∷◌, ◌++◌, Option, None, Some, Result, Ok}
use Rattle.std.proofs.Common.{Err, refl, sym, ap, ◌∙◌, append_assoc, append-nil}
use Rattle.league_core.specs.declared.sheet.Sheet.{Sheet}
use Rattle.league_core.specs.declared.season.Event.{Event}
use Rattle.port_core.specs.declared.line.ReadStop.{ReadStop}
use Rattle.port_core.specs.Contents.{Contents, with_lines}
use Rattle.result_log.specs.declared.entry.Entry.{Entry}
use Rattle.result_log.specs.declared.entry.Entry.TheVariants.{Change, Ask, Proofs, End}
use Rattle.result_log.specs.declared.fault.FeedFault.{FeedFault}
use Rattle.result_log.specs.Feeds.{Feed, feed_by, feed_from, feed_of, with_entry}
use Rattle.result_log.specs.inside.FeedParts.{LiveReading, Round, entry_after, round_after}
use Rattle.result_log.specs.inside.FeedParts.{round_by, round_from, round_of, with_event}
use Rattle.result_log.specs.inside.Rounds.{ReadsEvents, read_on}
use Rattle.result_log.specs.inside.Laws.{ClosesRound, feed_after, with_events}

-- a round, and what comes after it
abbrev feed_by_round : Sheet → Bool → List Event → Round → Feed
feed_by_round sheet proofs events round =
    with_events round.events
    (feed_after sheet proofs (events ++ round.events) round.rest round.close)

-- a line more
feed_by-round : (sheet : Sheet) (proofs : Bool) (number : ℕ) (lines : List (ℕ × List ℕ))
    (ending : Result ℕ ReadStop) (events : List Event)
    → ((more : List Event) → feed_from sheet proofs lines ending more
    ≡ feed_by_round sheet proofs more (round_from (entry_after sheet proofs) lines ending more))
    → (found : Result (Option Entry) FeedFault)
    → feed_by number (record { lines = lines; ending = ending })
    (feed_from sheet proofs lines ending) events found
    ≡ feed_by_round sheet proofs events
    (round_by number (record { lines = lines; ending = ending })
    (round_from (entry_after sheet proofs) lines ending) events found)
feed_by-round sheet proofs number lines ending events behind (Ok None) = behind events
feed_by-round sheet proofs number lines ending events behind (Ok (Some (Change event))) =
    let round = round_from (entry_after sheet proofs) lines ending (events ++ event ∷ []) in
    ap (with_entry (Change event)) (behind (events ++ event ∷ [])
    ∙ ap (λ all. with_events round.events (feed_after sheet proofs all round.rest round.close))
    (append_assoc events (event ∷ []) round.events))
feed_by-round sheet proofs number lines ending events behind (Ok (Some Ask)) =
    ap (λ all. with_entry Ask (feed_from sheet proofs lines ending all)) (sym (append-nil events))
feed_by-round sheet proofs number lines ending events behind (Ok (Some Proofs)) = refl
feed_by-round sheet proofs number lines ending events behind (Ok (Some End)) = refl
feed_by-round sheet proofs number lines ending events behind (Err fault) = refl

feed_from-round : (sheet : Sheet) (proofs : Bool) (lines : List (ℕ × List ℕ))
    (ending : Result ℕ ReadStop) (events : List Event)
    → feed_from sheet proofs lines ending events
    ≡ feed_by_round sheet proofs events (round_from (entry_after sheet proofs) lines ending events)
feed_from-round sheet proofs [] (Ok number) events = refl
feed_from-round sheet proofs [] (Err stop) events = refl
feed_from-round sheet proofs (line ∷ lines) ending events =
    feed_by-round sheet proofs line.0 lines ending events
    (feed_from-round sheet proofs lines ending)
    (entry_after sheet proofs events line.1)

pub feed_of-round : (sheet : Sheet) (proofs : Bool) (contents : Contents) (events : List Event)
    → feed_of sheet proofs contents events
    ≡ feed_by_round sheet proofs events (round_of (entry_after sheet proofs) contents events)
feed_of-round sheet proofs contents events =
    feed_from-round sheet proofs contents.lines contents.ending events

-- ---- what ends a round

close_by : (number : ℕ) (rest : Contents) (onward : List Event → Round) (events : List Event)
    (event : Event) → ((more : List Event) → (onward more).close ≡ Ok (Change event) → ⊥)
    → (found : Result (Option Entry) FeedFault)
    → (round_by number rest onward events found).close ≡ Ok (Change event) → ⊥
close_by number rest onward events event behind (Ok None) is = behind events is
close_by number rest onward events event behind (Ok (Some (Change other))) is =
    behind (events ++ other ∷ []) is
close_by number rest onward events event behind (Ok (Some Ask)) is = cc
close_by number rest onward events event behind (Ok (Some Proofs)) is = cc
close_by number rest onward events event behind (Ok (Some End)) is = cc
close_by number rest onward events event behind (Err fault) is = cc

close_from : (live : LiveReading) (lines : List (ℕ × List ℕ))
    (ending : Result ℕ ReadStop) (event : Event) (events : List Event)
    → (round_from live lines ending events).close ≡ Ok (Change event) → ⊥
close_from live [] (Ok number) event events is = cc
close_from live [] (Err stop) event events is = cc
close_from live (line ∷ lines) ending event events is =
    close_by line.0 (record { lines = lines; ending = ending })
    (round_from live lines ending) events event
    (close_from live lines ending event)
    (live events line.1) is

pub round-close : (live : LiveReading) (contents : Contents) (events : List Event)
    (event : Event) → (round_of live contents events).close ≡ Ok (Change event) → ⊥
round-close live contents events event is =
    close_from live contents.lines contents.ending event events is

-- ---- the lines of a round

-- these lines begin a round with the events that are in the one log beyond the other
abbrev Begins : LiveReading → List (ℕ × List ℕ) → List Event → List Event → Type 0
Begins live lines log log' =
    (told : List Event) × (log' ≡ log ++ told)
    × ((more : List (ℕ × List ℕ)) (ending : Result ℕ ReadStop)
    → round_from live (lines ++ more) ending log
    ≡ round_after told (round_from live more ending log'))

-- the same of a line and those after it, by what the line is
abbrev BeginsBy : LiveReading → ℕ → List (ℕ × List ℕ) → Result (Option Entry) FeedFault → List Event
    → List Event → Type 0
BeginsBy live number lines found log log' =
    (told : List Event) × (log' ≡ log ++ told)
    × ((more : List (ℕ × List ℕ)) (ending : Result ℕ ReadStop)
    → round_by number (record { lines = lines ++ more; ending = ending })
    (round_from live (lines ++ more) ending) log found
    ≡ round_after told (round_from live more ending log'))

begins-by : (live : LiveReading) (number : ℕ) (lines : List (ℕ × List ℕ))
    (found : Result (Option Entry) FeedFault) (log log' : List Event)
    → ((next : List Event) → ReadsEvents live next lines log' → Begins live lines next log')
    → read_on found (λ next. ReadsEvents live next lines log') log
    → BeginsBy live number lines found log log'
begins-by live number lines (Ok None) log log' each told = each log told
begins-by live number lines (Ok (Some (Change event))) log log' each told =
    let behind = each (log ++ event ∷ []) told in (
      event ∷ behind.0,
      behind.1 ∙ append_assoc log (event ∷ []) behind.0,
      λ more ending. ap (with_event event) (behind.2 more ending),
    )
begins-by live number lines (Ok (Some Ask)) log log' each told = absurd told
begins-by live number lines (Ok (Some Proofs)) log log' each told = absurd told
begins-by live number lines (Ok (Some End)) log log' each told = absurd told
begins-by live number lines (Err fault) log log' each told = absurd told

begins : (live : LiveReading) (lines : List (ℕ × List ℕ)) (log log' : List Event)
    → ReadsEvents live log lines log' → Begins live lines log log'
begins live [] log log' told = (
  [],
  told ∙ sym (append-nil log),
  λ more ending. ap (λ all. round_from live more ending all) (sym told),
)
begins live (line ∷ lines) log log' told =
    begins-by live line.0 lines (live log line.1) log log'
    (λ next behind. begins live lines next log' behind) told

-- lines that tell events begin a round with these events
pub tells-begin : (live : LiveReading) (log log' : List Event) (lines : List (ℕ × List ℕ))
    → ReadsEvents live log lines log'
    → (told : List Event) × (log' ≡ log ++ told)
    × ((rest : Contents) → round_of live (with_lines lines rest) log
    ≡ round_after told (round_of live rest log'))
tells-begin live log log' lines told =
    let all = begins live lines log log' told in
    (all.0, all.1, λ rest. all.2 rest.lines rest.ending)

-- a line that asks closes it, and one that is refused
pub line-closes : (live : LiveReading) (log : List Event) (number : ℕ) (text : List ℕ)
    (rest : Contents) → ClosesRound live log number text rest
line-closes live log number text rest = record {
  ask = λ is. rw is refl;
  refused = λ fault is. rw is refl;
}
