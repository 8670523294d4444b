-- What the parts of the reader of lines promise each other: bytes in hand, filled from a source
-- until a line is whole.
use Rattle.std.specs.Prelude.{◌≡◌, ℕ, ◌+◌, ◌<◌, ◌≤◌, ◌⊎◌, Bool, true, false, List, ◌∷◌, ◌++◌}
use Rattle.std.specs.Prelude.{length, take, drop, Contains, Option}
use Rattle.std.specs.Io.KnownBytes.{prepend_known, IsAtEnd}
use Rattle.port_core.specs.declared.ports.Got.{Got}
use Rattle.port_core.specs.declared.ports.Got.TheVariants.{Bytes}
use Rattle.port_core.specs.declared.ports.Got.TheVariants as got
use Rattle.port_core.specs.declared.buffer.Due.{Due}
use Rattle.port_core.specs.declared.buffer.Due.TheVariants.{Ended, Open, Stuck, Full}
use Rattle.port_core.specs.declared.buffer.Due.TheVariants as due
use Rattle.port_core.specs.Ports.{Rose}
use Rattle.port_core.specs.Lines.{HasNoLineFeed, line_feed, line_limit}

-- the bytes of a list from one place up to another
abbrev pub part : ℕ → ℕ → List ℕ → List ℕ
part from to bytes = drop from (take to bytes)

-- what a buffer has: the bytes read and not yet passed, and the text last given
pub record BufferView : Type 0 where
  pub held : List ℕ
  pub text : List ℕ

-- what one read adds to the bytes in hand, and what it takes from the source
abbrev pub Fills : Option (List ℕ) → Option (List ℕ) → (List ℕ → Type 0) → Got → List ℕ → List ℕ
    → Type 0
Fills left left' fact (Bytes n) old new =
    (bytes : List ℕ) × (new ≡ old ++ bytes) × (length bytes ≡ n)
    × (left ≡ prepend_known bytes left') × (n ≡ 0 → IsAtEnd left') × fact bytes
Fills left left' fact got.Failed old new = (new ≡ old) × (left ≡ left')

-- the first LF among these bytes stands at this place
abbrev pub EndsAt : List ℕ → ℕ → Type 0
EndsAt bytes place = HasNoLineFeed (take place bytes)
    × (bytes ≡ take place bytes ++ line_feed ∷ drop (place + 1) bytes)

-- more bytes without LF stand in hand than a line may have
abbrev pub IsOverlong : List ℕ → Type 0
IsOverlong bytes = (line_limit < length bytes) × HasNoLineFeed (take (line_limit + 1) bytes)

-- no whole line is in hand, and not too much for one
abbrev pub IsPartial : List ℕ → Type 0
IsPartial held = HasNoLineFeed held × (length held ≤ line_limit)

-- no read is needed for the line that is due: it is in hand whole, or more than a line may have is
abbrev pub IsReady : List ℕ → Type 0
IsReady held = Contains held line_feed ⊎ (line_limit < length held)

-- the bytes in hand when the line that is due has ended, or its end is the input's, or the source
-- failed, or it is too long, or there are the most that may be
abbrev pub IsDue : ℕ → List ℕ → Option (List ℕ) → Due → Type 0
IsDue most held left (Ended place) =
    EndsAt held place × (place < length held) × (place ≤ line_limit)
IsDue most held left Open = IsPartial held × IsAtEnd left × (length held < most)
IsDue most held left due.Failed = IsPartial held × (length held < most)
IsDue most held left Stuck = IsOverlong held
IsDue most held left Full = IsPartial held × (most ≤ length held)

-- bytes that a source had left were put after those in hand
abbrev pub Takes : List ℕ → List ℕ → Option (List ℕ) → Option (List ℕ) → Type 0
Takes held held' left left' =
    (bytes : List ℕ) × (held' ≡ held ++ bytes) × (left ≡ prepend_known bytes left')

-- what was in hand at the last read of a wait: no whole line, not too much for one, and fewer bytes
-- than the most; the bytes that the read gave come after it
pub record LastFill {S : Type 0} (left : S → Option (List ℕ)) (reads : S → List ℕ → S → Type 0)
    (most : ℕ) (held held' : List ℕ) (before after : S) : Type 0 where
  pub seen : List ℕ
  pub last : List ℕ
  pub source : S
  pub partial : IsPartial seen
  pub room : length seen < most
  pub takes : Takes held seen (left before) (left source)
  pub read : reads source last after
  pub stream : left source ≡ prepend_known last (left after)
  pub whole : held' ≡ seen ++ last

-- a wait that does not fail reads nothing, or stops at the read that ends it
abbrev pub StopsReading : {S : Type 0} → (S → Option (List ℕ)) → (S → List ℕ → S → Type 0)
    → ℕ → List ℕ → List ℕ → S → S → Due → Type 0
StopsReading left reads most held held' before after due.Failed = Unit {0}
StopsReading left reads most held held' before after _ =
    ((after ≡ before) × (held' ≡ held)) ⊎ LastFill left reads most held held' before after

-- the end of the input is marked if the wait met it, and stays marked
abbrev pub EndSeen : Bool → Bool → Due → Type 0
EndSeen before now Open = now ≡ true
EndSeen before now _ = now ≡ false → before ≡ false

-- waiting for a line fails only if the source's count rose, and else leaves that count
abbrev pub CountsDue : ℕ → ℕ → Due → Type 0
CountsDue before now due.Failed = Rose before now
CountsDue before now _ = now ≡ before
