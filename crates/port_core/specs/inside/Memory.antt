-- Devices over memory: a source that hands on a list of bytes and a sink of a given room, both in
-- pieces of at most a given size, with chosen calls that fail.
use Rattle.std.specs.Prelude.{◌≡◌, ℕ, ◌-◌, ◌≤◌, ◌==◌, ◌||◌, Bool, nat_le, min, List, ◌++◌, length}
use Rattle.std.specs.Prelude.{take, drop, if◌then◌else◌}
use Rattle.std.specs.List.{list_any}
use Rattle.port_core.specs.declared.ports.Got.{Got}
use Rattle.port_core.specs.declared.ports.Got.TheVariants.{Bytes}
use Rattle.port_core.specs.declared.ports.Got.TheVariants as got
use Rattle.port_core.specs.declared.ports.Put.{Put}
use Rattle.port_core.specs.declared.ports.Put.TheVariants.{Took}
use Rattle.port_core.specs.declared.ports.Put.TheVariants as put
use Rattle.port_core.specs.Ports.{next_count}

-- a source over memory: the bytes left, the most that one call hands on, the numbers of the calls
-- that fail, the calls so far and their faults, and whether one gave no byte
pub record MemSourceView : Type 0 where
  pub left : List ℕ
  pub piece : ℕ
  pub fail : List ℕ
  pub calls : ℕ
  pub faults : ℕ
  pub ended : Bool

-- a sink over memory: the bytes it holds, the most that it can hold, the most that one call takes,
-- the numbers of the calls that fail, the calls so far and their faults
pub record MemSinkView : Type 0 where
  pub holds : List ℕ
  pub room : ℕ
  pub piece : ℕ
  pub fail : List ℕ
  pub calls : ℕ
  pub faults : ℕ

-- whether a call of this number is among those that fail
abbrev pub is_failing : List ℕ → ℕ → Bool
is_failing fail call = list_any (λ number. number == call) fail

-- how many bytes a read into a piece of this size hands on
abbrev pub bytes_read : MemSourceView → ℕ → ℕ
bytes_read supply size = min (min supply.piece size) (length supply.left)

-- what a read into a piece of this size returns
abbrev pub supply_answer : MemSourceView → ℕ → Got
supply_answer supply size =
    if is_failing supply.fail (next_count supply.calls) then got.Failed
    else Bytes (bytes_read supply size)

-- a source after a read into a piece of this size: a call that fails loses no byte
abbrev pub supply_after : MemSourceView → ℕ → MemSourceView
supply_after supply size =
    if is_failing supply.fail (next_count supply.calls)
    then record supply { calls = next_count supply.calls; faults = next_count supply.faults }
    else record supply {
      left = drop (bytes_read supply size) supply.left;
      calls = next_count supply.calls;
      ended = supply.ended || bytes_read supply size == 0;
    }

-- a read gave the next bytes, no more than one call hands on, and counts as a call
abbrev pub HandsOut : MemSourceView → List ℕ → MemSourceView → Type 0
HandsOut old bytes new = (old.left ≡ bytes ++ new.left) × (length bytes ≤ old.piece)
    × (new.calls ≡ next_count old.calls)

-- how many bytes of a piece of this size a write takes
abbrev pub bytes_taken : MemSinkView → ℕ → ℕ
bytes_taken store size = min (min store.piece size) (store.room - length store.holds)

-- whether the call that comes next fails: its number is among those that do, or the room is used
abbrev pub refuses_next : MemSinkView → Bool
refuses_next store = is_failing store.fail (next_count store.calls)
    || nat_le store.room (length store.holds)

-- what a write of a piece of this size returns
abbrev pub store_answer : MemSinkView → ℕ → Put
store_answer store size = if refuses_next store then put.Failed else Took (bytes_taken store size)

-- a sink after a write of this piece: a call that fails takes nothing
abbrev pub store_after : MemSinkView → List ℕ → MemSinkView
store_after store piece =
    if refuses_next store
    then record store { calls = next_count store.calls; faults = next_count store.faults }
    else record store {
      holds = store.holds ++ take (bytes_taken store (length piece)) piece;
      calls = next_count store.calls;
    }
