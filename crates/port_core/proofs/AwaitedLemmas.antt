-- The reader after the wait for the line that is due: bytes came in hand, and nothing else changed.
use Rattle.std.proofs.Common.{◌≡◌, ℕ, ◌+◌, ◌-◌, ◌≤◌, List, length, Option, refl, ap, sym}
use Rattle.std.proofs.Common.{subst, arith, length-append}
use Rattle.std.specs.Io.KnownBytes.{prepend_known}
use Rattle.port_core.specs.declared.buffer.Due.{Due}
use Rattle.port_core.specs.Contents.{Position}
use Rattle.port_core.specs.Readers.{LineReaderView, HasAnswer}
use Rattle.port_core.specs.inside.Buffers.{IsDue, IsReady, StopsReading, Takes}
use Rattle.port_core.specs.inside.ReaderCalls.{Waits, most_held}
use Rattle.port_core.proofs.HandLemmas.{answer-same}

-- what a wait of these bytes in hand is for the reader that has them: a wait for its line, no read
-- while an answer is in hand, and a stop at the read that ends the wait
pub record IsAwaited {S : Type 0} (left : S → Option (List ℕ)) (reads : S → List ℕ → S → Type 0)
    (old new : LineReaderView) (before after : S) (due : Due) : Type 0 where
  pub waits : Waits old new (left before) (left after) due
  pub ready : HasAnswer old → after ≡ before
  pub last : StopsReading left reads (most_held old) old.held new.held before after due

awaited-by : {S : Type 0} (left : S → Option (List ℕ)) (reads : S → List ℕ → S → Type 0)
    (held held' text : List ℕ) (position : Position) (most : ℕ) (before after : S) (due : Due)
    → position.bytes ≤ 67108864 → length held ≤ most
    → prepend_known held (left before) ≡ prepend_known held' (left after)
    → IsDue most held' (left after) due → (length held ≤ most → length held' ≤ most)
    → Takes held held' (left before) (left after)
    → StopsReading left reads most held held' before after due
    → (IsReady held → (after ≡ before) × (held' ≡ held))
    → (most ≤ length held → (after ≡ before) × (held' ≡ held))
    → most ≡ 67108864 + 1 - position.bytes
    → IsAwaited left reads (record { held = held; text = text; position = position })
    (record { held = held'; text = text; position = position }) before after due
awaited-by left reads held held' text position most before after due inside room stream end within
    takes last ready full same =
    let old : LineReaderView = record { held = held; text = text; position = position } in
    let sum : position.bytes + most ≡ 67108865 = omega (arith, same, inside) in
    let fits : length held' ≤ most = within room in
    let kept = answer-same held held' text position old most (after ≡ before) refl sum ready full in
    record {
      waits = record {
        text = refl;
        position = refl;
        stream = stream;
        end = subst (λ n. IsDue n held' (left after) due) same end;
        inside = inside;
        within = omega (arith, sum, fits);
        takes = (
          takes.0,
          takes.2,
          omega (arith, ap length takes.1, length-append held takes.0),
        );
        ready = λ has. (kept has).1;
      };
      ready = λ has. (kept has).0;
      last = subst (λ n. StopsReading left reads n held held' before after due) same last;
    }

pub awaited : {S : Type 0} (left : S → Option (List ℕ)) (reads : S → List ℕ → S → Type 0)
    (held held' text text' : List ℕ) (position : Position) (entry : LineReaderView) (most : ℕ)
    (before after : S)
    (due : Due) → record { held = held; text = text; position = position } ≡ entry
    → position.bytes ≤ 67108864 → length entry.held ≤ most → most ≡ most_held entry
    → prepend_known held (left before) ≡ prepend_known held' (left after)
    → IsDue most held' (left after) due → text' ≡ text → (length held ≤ most → length held' ≤ most)
    → Takes held held' (left before) (left after)
    → StopsReading left reads most held held' before after due
    → (IsReady held → (after ≡ before) × (held' ≡ held))
    → (most ≤ length held → (after ≡ before) × (held' ≡ held))
    → IsAwaited left reads entry (record { held = held'; text = text'; position = position }) before
    after due
awaited left reads held held' text text' position entry most before after due is inside room most-is
    stream end kept within takes last ready full =
    let M : LineReaderView → Type 0 = λ e. length e.held ≤ most → most ≡ most_held e
    → IsAwaited left reads e (record { held = held'; text = text; position = position }) before
    after due in
    let here : M (record { held = held; text = text; position = position }) = λ room most-is.
    awaited-by left reads held held' text position most before after due inside room stream end
    within takes last ready full most-is in
    let N : List ℕ → Type 0 = λ t. IsAwaited left reads entry
    (record { held = held'; text = t; position = position }) before after due in
    subst N (sym kept) (subst M is here room most-is)
