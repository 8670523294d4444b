-- Lines that tell events, one after another; a round that goes on over them, and ends.
use Rattle.std.proofs.Common.{◌≡◌, ℕ, List, [], ◌∷◌, ◌++◌, Option, None, Some, Result, Ok, Err}
use Rattle.std.proofs.Common.{refl, sym, ◌∙◌, subst, append_assoc, arith}
use Rattle.std.proofs.lemmas.List.Elements.{All-head, All-tail}
use Rattle.std.specs.Prelude.{All}
use Rattle.league_core.specs.declared.season.Event.{Event}
use Rattle.port_core.specs.inside.ReaderCalls.{given_by}
use Rattle.port_core.proofs.PassingLemmas.{passes-none, passes-more}
use Rattle.port_core.proofs.TakingLemmas.{TakesInput-more, TakesInput-none}
use Rattle.result_log.specs.declared.entry.Entry.{Entry}
use Rattle.result_log.specs.declared.entry.Entry.TheVariants.{Change, Ask, Proofs, End}
use Rattle.result_log.specs.declared.fault.FeedFault.{FeedFault}
use Rattle.result_log.specs.declared.fault.FeedStop.{FeedStop}
use Rattle.result_log.specs.inside.FeedParts.{LineEntry, LiveReading}
use Rattle.result_log.specs.inside.Calls.{CountsEntry, entry_answer_after}
use Rattle.result_log.specs.inside.Rounds.{Crosses, EndsRound, IsUnderWay, IsNextEntry, Spot}
use Rattle.result_log.specs.inside.Rounds.{ReadsEvents, read_on}
use Rattle.result_log.proofs.CallLemmas.{MovesToEntry-from}

-- ---- what lines tell

read_on-more : (found : Result (Option Entry) FeedFault) (onward behind : List Event → Type 0)
    (log : List Event) → ((next : List Event) → onward next → behind next)
    → read_on found onward log → read_on found behind log
read_on-more (Ok None) onward behind log each told = each log told
read_on-more (Ok (Some (Change event))) onward behind log each told =
    each (log ++ event ∷ []) told
read_on-more (Ok (Some Ask)) onward behind log each told = told
read_on-more (Ok (Some Proofs)) onward behind log each told = told
read_on-more (Ok (Some End)) onward behind log each told = told
read_on-more (Err fault) onward behind log each told = told

read_on-as : (found is : Result (Option Entry) FeedFault) (onward : List Event → Type 0)
    (log : List Event) → found ≡ is → read_on is onward log → read_on found onward log
read_on-as found is onward log same told =
    let P : Result (Option Entry) FeedFault → Type 0 = λ f. read_on f onward log in
    subst P (sym same) told

-- some lines and then others tell the events of both
pub tells-append : (live : LiveReading) (log mid last : List Event)
    (first second : List (ℕ × List ℕ))
    → ReadsEvents live log first mid → ReadsEvents live mid second last
    → ReadsEvents live log (first ++ second) last
tells-append live log mid last [] second one two =
    let P : List Event → Type 0 = λ all. ReadsEvents live all second last in subst P one two
tells-append live log mid last (line ∷ lines) second one two =
    read_on-more (live log line.1) (λ next. ReadsEvents live next lines mid)
    (λ next. ReadsEvents live next (lines ++ second) last) log
    (λ next told. tells-append live next mid last lines second told two) one

-- lines without a record tell none
pub tells-blank : (live : LiveReading) (log : List Event) (lines : List (ℕ × List ℕ))
    → All (λ line. live log line.1 ≡ Ok None) lines → ReadsEvents live log lines log
tells-blank live log [] none = refl
tells-blank live log (line ∷ lines) none =
    read_on-as (live log line.1) (Ok None)
    (λ next. ReadsEvents live next lines log) log
    (All-head (λ (l : ℕ × List ℕ). live log l.1 ≡ Ok None) line lines none)
    (tells-blank live log lines
    (All-tail (λ (l : ℕ × List ℕ). live log l.1 ≡ Ok None) line lines none))

-- a line that is an event tells it
tells-one : (live : LiveReading) (log : List Event) (number : ℕ) (text : List ℕ) (event : Event)
    → live log text ≡ Ok (Some (Change event))
    → ReadsEvents live log ((number, text) ∷ []) (log ++ event ∷ [])
tells-one live log number text event is =
    read_on-as (live log text) (Ok (Some (Change event)))
    (λ next. (log ++ event ∷ []) ≡ next) log is refl

-- ---- a round goes on, and ends

-- nothing is passed yet
pub goes-nowhere : (live : LiveReading) (log : List Event) (old : Spot)
    → IsUnderWay live log log old old
goes-nowhere live log old = record {
  lines = [];
  tells = refl;
  passes = passes-none _ _ _ _ _ refl (λ unsaid. unsaid);
  takes = TakesInput-none old.reader old.left;
  forth = omega arith;
  counts = refl;
}

-- one event more, after lines without a record
pub goes-further : (live : LiveReading) (log mid : List Event) (event : Event)
    (first old new : Spot)
    → IsUnderWay live log mid first old
    → IsNextEntry (live mid) old new (Ok (Change event))
    → IsUnderWay live log (mid ++ event ∷ []) first new
goes-further live log mid event first old new front next =
    let last : List (ℕ × List ℕ) = (new.reader.position.lines, new.reader.text) ∷ [] in
    let behind = next.passes in
    record {
      lines = front.lines ++ (behind.blank ++ last);
      tells = tells-append live log mid (mid ++ event ∷ []) front.lines (behind.blank ++ last)
          front.tells (tells-append live mid mid (mid ++ event ∷ []) behind.blank last
          (tells-blank live mid behind.blank behind.none)
          (tells-one live mid new.reader.position.lines new.reader.text event behind.comes));
      passes = passes-more _ _ _ _ _ _ _ _ _ front.lines (behind.blank ++ last) front.passes
          behind.passes;
      takes = TakesInput-more first.reader old.reader new.reader first.left old.left new.left
          front.takes next.takes;
      forth = omega (arith, front.forth, next.moves.0);
      counts = next.cause ∙ front.counts;
    }

-- the same, where this is the log by now
pub goes-further-to : (live : LiveReading) (log mid log' : List Event) (event : Event)
    (first old new : Spot) → log' ≡ mid ++ event ∷ [] → IsUnderWay live log mid first old
    → IsNextEntry (live mid) old new (Ok (Change event))
    → IsUnderWay live log log' first new
goes-further-to live log mid log' event first old new is front next =
    let P : List Event → Type 0 = λ all. IsUnderWay live log all first new in
    subst P (sym is) (goes-further live log mid event first old new front next)

counts-from : (first old new : ℕ) (close : Result Entry FeedStop) → old ≡ first
    → CountsEntry old new close → CountsEntry first new close
counts-from first old new close same counts =
    let P : ℕ → Type 0 = λ n. CountsEntry n new close in subst P same counts

-- what ends the round, after lines without a record
pub round-ends : (live : LiveReading) (log mid : List Event) (close : Result Entry FeedStop)
    (first old new : Spot) → IsUnderWay live log mid first old
    → IsNextEntry (live mid) old new close
    → EndsRound live log mid first new close
round-ends live log mid close first old new front next =
    let last : List (ℕ × List ℕ) =
    given_by (entry_answer_after new.reader close) new.reader.text in
    let behind = next.passes in
    record {
      lines = front.lines ++ behind.blank;
      tells = tells-append live log mid mid front.lines behind.blank front.tells
          (tells-blank live mid behind.blank behind.none);
      passes =
          let P : List (ℕ × List ℕ) → Type 0 = λ all. Crosses first new all in
          subst P (sym (append_assoc front.lines behind.blank last))
          (passes-more _ _ _ _ _ _ _ _ _ front.lines (behind.blank ++ last) front.passes
          behind.passes);
      comes = behind.comes;
      leaves = next.leaves;
      stops = next.stops;
      takes = TakesInput-more first.reader old.reader new.reader first.left old.left new.left
          front.takes next.takes;
      moves = MovesToEntry-from first.reader old.reader new.reader close front.forth next.moves;
      cause = counts-from first.faults old.faults new.faults close front.counts next.cause;
    }

-- the same of the same entries
pub next-as : (found same : LineEntry) (old new : Spot) (result : Result Entry FeedStop)
    → found ≡ same → IsNextEntry found old new result → IsNextEntry same old new result
next-as found same old new result is next =
    let P : LineEntry → Type 0 = λ entry. IsNextEntry entry old new result in subst P is next
