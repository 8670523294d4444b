-- Rows that go out in pieces: the pieces taken in turn are a prefix of the row.
use Rattle.std.proofs.Common.{◌≡◌, ℕ, ◌+◌, ◌<◌, ◌≤◌, List, ◌++◌, length, take, drop, Option, ap}
use Rattle.std.proofs.Common.{sym, ◌∙◌, arith, length-drop}
use Rattle.std.specs.Io.KnownBytes.{append_known}
use Rattle.std.proofs.Math.Seq.{take-add}
use Rattle.std.proofs.lemmas.List.{take-append-drop}
use Rattle.port_core.specs.Ports.{AppendsPrefix}
use Rattle.league_core.proofs.plain.Streams.{append_known-append_known}

-- one more piece of a row went out after its prefix
pub Writes-more : (start old new : Option (List ℕ)) (row rest : List ℕ) (done count : ℕ)
    → done ≤ length row → old ≡ append_known start (take done row)
    → rest ≡ drop done row → (0 < count) × (count ≤ length rest)
    × (new ≡ append_known old (take count rest))
    → (done + count ≤ length row) × (new ≡ append_known start (take (done + count) row))
Writes-more start old new row rest done count within before is took = (
  omega (arith, length-drop done row, ap length is, took.1),
  took.2 ∙ ap (λ known. append_known known (take count rest)) before
      ∙ append_known-append_known start (take done row) (take count rest)
      ∙ ap (append_known start) (ap (λ l. take done row ++ take count l) is
      ∙ sym (take-add done count row)),
)

-- what went out before a fault is a prefix of the row
pub AppendsPrefix-take : (start old new : Option (List ℕ)) (row : List ℕ) (done : ℕ)
    → old ≡ append_known start (take done row) → new ≡ old → AppendsPrefix start new row
AppendsPrefix-take start old new row done before same =
    (take done row, (drop done row, take-append-drop done row), same ∙ before)
