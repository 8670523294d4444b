-- Where reading stops in a call that takes several answers of the reader: at the read that
-- completes the last of them. This is the reader's own rule, carried over a way of many lines.
use Rattle.std.specs.Prelude.{◌≡◌, ℕ, ◌+◌, ◌⊎◌, List, length, Option}
use Rattle.std.specs.Io.KnownBytes.{prepend_known}
use Rattle.port_core.specs.Contents.{Contents}
use Rattle.port_core.specs.Readers.{LineReaderView, HasAnswer, TakesInput, bytes_taken}
use Rattle.port_core.specs.Readers.{contents_to_come}

-- the last read of a call: what was to come before the call and was still to come then are on this
-- way, no answer was in hand, and the read gave the last of the bytes that the call took
pub record LastReadOnWay {S : Type 0} (left : S → Option (List ℕ)) (reads : S → List ℕ → S → Type 0)
    (IsOnWay : Option Contents → Option Contents → Type 0) (old new : LineReaderView)
    (before after : S)
    : Type 0 where
  pub reader : LineReaderView
  pub source : S
  pub last : List ℕ
  pub way : IsOnWay (contents_to_come old (left before)) (contents_to_come reader (left source))
  pub front : TakesInput old reader (left before) (left source)
  pub unanswered : HasAnswer reader → ⊥
  pub read : reads source last after
  pub stream : left source ≡ prepend_known last (left after)
  pub count : bytes_taken new ≡ bytes_taken reader + length last

-- a call read nothing, or its last read came on this way, while no answer was in hand
abbrev pub ReadsOnWay : {S : Type 0} → (S → Option (List ℕ)) → (S → List ℕ → S → Type 0)
    → (Option Contents → Option Contents → Type 0) → LineReaderView → LineReaderView → S → S
    → Type 0
ReadsOnWay left reads IsOnWay old new before after =
    ((after ≡ before) × (bytes_taken new ≡ bytes_taken old))
    ⊎ LastReadOnWay left reads IsOnWay old new before after
