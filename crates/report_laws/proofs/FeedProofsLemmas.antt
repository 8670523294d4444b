-- A complete input before the record `proofs`: the sheet and the entries of its feed are read as
-- they are without it.
use Rattle.std.proofs.Common.{◌≡◌, ℕ, Bool, true, false, ◌&&◌, cond, List, [], ◌∷◌, ◌++◌, Option}
use Rattle.std.proofs.Common.{Some, None, Result, Ok, Err, refl, sym, ap, ◌∙◌}
use Rattle.std.specs.Prelude.{bytes_eq, codes}
use Rattle.std.proofs.lemmas.Bool.{false≢true}
use Rattle.csv.specs.Machine.{next_record}
use Rattle.csv.specs.Reading.{strip_bom}
use Rattle.league_core.specs.declared.sheet.Sheet.{Sheet}
use Rattle.league_core.specs.declared.season.Event.{Event}
use Rattle.league_core.specs.game.Results.{Results}
use Rattle.league_core.specs.game.Seasons.{epoch_of, season_after}
use Rattle.league_core.proofs.LogLemmas.{season_after_of}
use Rattle.port_core.specs.declared.line.ReadStop.{ReadStop}
use Rattle.port_core.specs.Contents.{Contents}
use Rattle.fixture_sheet.specs.Fields.{field, has_return, record_of}
use Rattle.result_log.specs.declared.entry.Entry.{Entry}
use Rattle.result_log.specs.declared.entry.Entry.TheVariants.{Change, Ask, Proofs, End}
use Rattle.result_log.specs.declared.fault.FeedFault.{FeedFault}
use Rattle.result_log.specs.declared.fault.FeedFault.TheVariants.{UnknownRecord}
use Rattle.result_log.specs.declared.fault.FeedStop.{FeedStop}
use Rattle.result_log.specs.declared.fault.FeedStop.TheVariants as feed_stop
use Rattle.result_log.specs.declared.kind.Kind.{Kind}
use Rattle.result_log.specs.declared.kind.Kind.TheVariants as kind
use Rattle.result_log.specs.Records.{entry_by, entry_of, kind_of}
use Rattle.result_log.specs.Feeds.{Feed, entry_if, entry_in, feed_by, feed_from, given, with_entry}
use Rattle.result_log.proofs.RecordLemmas.{entry_is_no_end, entry_may_come}

-- ---- one line

-- what is of a kind where no proofs may follow, is of that kind where they may
kind-both : (word : List ℕ) (found : Kind) → kind_of false word ≡ Some found
    → kind_of true word ≡ Some found
kind-both word found is =
    by_words (bytes_eq word (codes "result")) (bytes_eq word (codes "fix"))
    (bytes_eq word (codes "void")) (bytes_eq word (codes "deduct")) (bytes_eq word (codes "ask"))
    (bytes_eq word (codes "proofs")) is
  where
    by_words : (result fix void deduct ask proofs : Bool)
        → cond result (Some kind.Result) (cond fix (Some kind.Fix) (cond void (Some kind.Void)
        (cond deduct (Some kind.Deduct) (cond ask (Some kind.Ask)
        (cond (proofs && false) (Some kind.Proofs) None))))) ≡ Some found
        → cond result (Some kind.Result) (cond fix (Some kind.Fix) (cond void (Some kind.Void)
        (cond deduct (Some kind.Deduct) (cond ask (Some kind.Ask)
        (cond (proofs && true) (Some kind.Proofs) None))))) ≡ Some found
    by_words true fix void deduct ask proofs is = is
    by_words false true void deduct ask proofs is = is
    by_words false false true deduct ask proofs is = is
    by_words false false false true ask proofs is = is
    by_words false false false false true proofs is = is
    by_words false false false false false true is = absurd cc
    by_words false false false false false false is = is

-- so is an entry
entry-both : (sheet : Sheet) (season : Results) (events : ℕ) (fields : List (List ℕ))
    (entry : Entry) → entry_of sheet season events false fields ≡ Ok entry
    → entry_of sheet season events true fields ≡ Ok entry
entry-both sheet season events fields entry is =
    by_kind (kind_of false (field 0 fields)) refl is
  where
    by_kind : (found : Option Kind) → kind_of false (field 0 fields) ≡ found
        → entry_by sheet season events fields found ≡ Ok entry
        → entry_of sheet season events true fields ≡ Ok entry
    by_kind None kind is = absurd cc
    by_kind (Some found) kind is =
        ap (entry_by sheet season events fields) (kind-both (field 0 fields) found kind) ∙ is

-- what a line is, where no proofs may follow
module _ (sheet : Sheet) (events : List Event) (content : List ℕ) where
  abbrev season_there : Results
  season_there = season_after sheet events

  -- what the line is, by its record
  by_record : (entry : Entry) (found : Option (List (List ℕ)))
      → entry_if sheet season_there (epoch_of events) false found ≡ Ok (Some entry)
      → (fields : List (List ℕ)) × (found ≡ Some fields)
      × (entry_of sheet season_there (epoch_of events) false fields ≡ Ok entry)
  by_record entry None is = absurd cc
  by_record entry (Some fields) is =
      (fields, refl, by_entry (entry_of sheet season_there (epoch_of events) false fields) is)
    where
      by_entry : (result : Result Entry FeedFault) → given result ≡ Ok (Some entry)
          → result ≡ Ok entry
      by_entry (Ok other) is = cc
      by_entry (Err fault) is = absurd cc

  -- the same, by whether a CR stands in it
  by_return : (returns : Bool) (entry : Entry)
      → cond returns (Err UnknownRecord)
      (entry_if sheet season_there (epoch_of events) false (record_of content)) ≡ Ok (Some entry)
      → (returns ≡ false) × ((fields : List (List ℕ)) × (record_of content ≡ Some fields)
      × (entry_of sheet season_there (epoch_of events) false fields ≡ Ok entry))
  by_return true entry is = absurd cc
  by_return false entry is = (refl, by_record entry (record_of content) is)

  -- an entry is one where proofs may follow too
  line-both : (entry : Entry)
      → entry_in sheet season_there (epoch_of events) false content ≡ Ok (Some entry)
      → entry_in sheet season_there (epoch_of events) true content ≡ Ok (Some entry)
  line-both entry is =
      let found = by_return (has_return content) entry is in
      ap (λ (returns : Bool). cond returns (Err UnknownRecord)
      (entry_if sheet season_there (epoch_of events) true (record_of content))) found.0
      ∙ ap (entry_if sheet season_there (epoch_of events) true) found.1.1
      ∙ ap given (entry-both sheet season_there (epoch_of events) found.1.0 entry found.1.2)

  -- a line without a field is passed over there too
  none-both : entry_in sheet season_there (epoch_of events) false content ≡ Ok None
      → entry_in sheet season_there (epoch_of events) true content ≡ Ok None
  none-both is = by_test (has_return content) is
    where
      by_found : (found : Option (List (List ℕ)))
          → entry_if sheet season_there (epoch_of events) false found ≡ Ok None
          → entry_if sheet season_there (epoch_of events) true found ≡ Ok None
      by_found None is = refl
      by_found (Some fields) is =
          absurd (no_entry (entry_of sheet season_there (epoch_of events) false fields) is)
        where
          no_entry : (result : Result Entry FeedFault) → given result ≡ Ok None → ⊥
          no_entry (Ok entry) is = cc
          no_entry (Err fault) is = cc

      by_test : (returns : Bool)
          → cond returns (Err UnknownRecord)
          (entry_if sheet season_there (epoch_of events) false (record_of content)) ≡ Ok None
          → cond returns (Err UnknownRecord)
          (entry_if sheet season_there (epoch_of events) true (record_of content)) ≡ Ok None
      by_test true is = absurd cc
      by_test false is = by_found (record_of content) is

  -- it is no record `proofs`
  no_proofs : entry_in sheet season_there (epoch_of events) false content ≡ Ok (Some Proofs) → ⊥
  no_proofs is =
      let found = by_return (has_return content) Proofs is in
      false≢true (entry_may_come sheet season_there (epoch_of events) false found.1.0 Proofs
      (season_after_of sheet events) found.1.2)

  -- nor the end
  no_end : entry_in sheet season_there (epoch_of events) false content ≡ Ok (Some End) → ⊥
  no_end is =
      let found = by_return (has_return content) End is in
      entry_is_no_end sheet season_there (epoch_of events) false found.1.0 found.1.2

-- ---- all lines

-- the feed before the record `proofs`, and what comes after that record
abbrev pub feed_before : List Entry → List (ℕ × List ℕ) → Result ℕ ReadStop → Feed
feed_before entries more ending =
    record { entries = entries; close = Ok Proofs; rest = record { lines = more; ending = ending } }

-- the line `proofs` ends a feed
proofs-close : (sheet : Sheet) (events : List Event) (number : ℕ) (more : List (ℕ × List ℕ))
    (ending : Result ℕ ReadStop)
    → feed_from sheet true ((number, codes "proofs") ∷ more) ending events
    ≡ feed_before [] more ending
unfolding next_record strip_bom
proofs-close sheet events number more ending = refl

-- no refusal
abbrev pub IsUnrefused : Result Entry FeedStop → Type 0
IsUnrefused (Ok entry) = Unit {0}
IsUnrefused (Err (feed_stop.Fault number fault)) = ⊥
IsUnrefused (Err (feed_stop.Read stop)) = ⊥
IsUnrefused (Err feed_stop.OutOfMemory) = ⊥

-- the lines of a feed that none of them refuses, read to their end
pub record GoesBefore (sheet : Sheet) (lines : List (ℕ × List ℕ)) (ending : Result ℕ ReadStop)
    (events : List Event) : Type 0 where
  pub end : ℕ
  pub read : ending ≡ Ok end
  pub goes : (number : ℕ) (more : List (ℕ × List ℕ)) (other : Result ℕ ReadStop)
      → feed_from sheet true (lines ++ (number, codes "proofs") ∷ more) other events
      ≡ feed_before (feed_from sheet false lines ending events).entries more other

feed-before : (sheet : Sheet) (lines : List (ℕ × List ℕ)) (ending : Result ℕ ReadStop)
    (events : List Event) → IsUnrefused (feed_from sheet false lines ending events).close
    → GoesBefore sheet lines ending events
feed-before sheet [] (Ok number) events fine = record {
  end = number;
  read = refl;
  goes = λ at more other. proofs-close sheet events at more other;
}
feed-before sheet [] (Err stop) events fine = absurd fine
feed-before sheet (line ∷ lines) ending events fine =
    by_line (entry_in sheet (season_after sheet events) (epoch_of events) false line.1) refl fine
    (feed-before sheet lines ending)
  where
    -- what the line is, and the lines after it
    more : List (ℕ × List ℕ) → Result ℕ ReadStop → ℕ → List (ℕ × List ℕ)
        → Result (Option Entry) FeedFault → Feed
    more lines other number tail found =
        feed_by line.0 (record { lines = lines ++ (number, codes "proofs") ∷ tail; ending = other })
        (feed_from sheet true (lines ++ (number, codes "proofs") ∷ tail) other) events found

    by_line : (found : Result (Option Entry) FeedFault)
        → entry_in sheet (season_after sheet events) (epoch_of events) false line.1 ≡ found
        → IsUnrefused (feed_by line.0 (record { lines = lines; ending = ending })
        (feed_from sheet false lines ending) events found).close
        → ((next : List Event) → IsUnrefused (feed_from sheet false lines ending next).close
        → GoesBefore sheet lines ending next)
        → GoesBefore sheet (line ∷ lines) ending events
    by_line (Ok None) is fine onward =
        let behind = onward events fine in
        record {
          end = behind.end;
          read = behind.read;
          goes = λ number tail other.
              ap (more lines other number tail) (none-both sheet events line.1 is)
              ∙ behind.goes number tail other
              ∙ ap (λ (found : Result (Option Entry) FeedFault).
              feed_before (feed_by line.0 (record { lines = lines; ending = ending })
              (feed_from sheet false lines ending) events found).entries tail other) (sym is);
        }
    by_line (Ok (Some (Change event))) is fine onward =
        let behind = onward (events ++ event ∷ []) fine in
        record {
          end = behind.end;
          read = behind.read;
          goes = λ number tail other.
              ap (more lines other number tail) (line-both sheet events line.1 (Change event) is)
              ∙ ap (with_entry (Change event)) (behind.goes number tail other)
              ∙ ap (λ (found : Result (Option Entry) FeedFault).
              feed_before (feed_by line.0 (record { lines = lines; ending = ending })
              (feed_from sheet false lines ending) events found).entries tail other) (sym is);
        }
    by_line (Ok (Some Ask)) is fine onward =
        let behind = onward events fine in
        record {
          end = behind.end;
          read = behind.read;
          goes = λ number tail other.
              ap (more lines other number tail) (line-both sheet events line.1 Ask is)
              ∙ ap (with_entry Ask) (behind.goes number tail other)
              ∙ ap (λ (found : Result (Option Entry) FeedFault).
              feed_before (feed_by line.0 (record { lines = lines; ending = ending })
              (feed_from sheet false lines ending) events found).entries tail other) (sym is);
        }
    by_line (Ok (Some Proofs)) is fine onward = absurd (no_proofs sheet events line.1 is)
    by_line (Ok (Some End)) is fine onward = absurd (no_end sheet events line.1 is)
    by_line (Err fault) is fine onward = absurd fine

-- the same of contents
pub contents-before : (sheet : Sheet) (contents : Contents) (events : List Event)
    → IsUnrefused (feed_from sheet false contents.lines contents.ending events).close
    → GoesBefore sheet contents.lines contents.ending events
contents-before sheet contents events fine =
    feed-before sheet contents.lines contents.ending events fine
