-- A stop that the bytes in hand show stands, whatever the source has left.
use Rattle.std.proofs.Common.{◌≡◌, ℕ, ◌+◌, ◌<◌, List, [], ◌∷◌, ◌++◌, length, Option, Some}
use Rattle.std.proofs.Common.{Err, refl, ap, sym, ◌∙◌, subst, inl, inr, arith, length-append}
use Rattle.std.proofs.Common.{append-nil}
use Rattle.std.specs.Prelude.{IfSome}
use Rattle.std.specs.List.{concat}
use Rattle.std.specs.Io.KnownBytes.{prepend_known}
use Rattle.std.proofs.lemmas.List.{append_assoc}
use Rattle.std.proofs.lemmas.Bool.{cases_lt}
use Rattle.std.proofs.lemmas.Option.{none-some}
use Rattle.port_core.specs.declared.line.ReadStop.{ReadStop}
use Rattle.port_core.specs.Lines.{lines_of, text_of_line, HasNoLineFeed, IsEndedLine}
use Rattle.port_core.specs.inside.LineSplits.{AreLines}
use Rattle.port_core.specs.Contents.{Position, line_stop, stop_due, ended}
use Rattle.port_core.specs.Readers.{contents_after}
use Rattle.port_core.proofs.LineLemmas.{AreLines-lines_of, concat-lines_of, lines_of-ended}
use Rattle.port_core.proofs.LineLemmas.{lines_of-front, text_of_line-front, text_of_line-open}
use Rattle.port_core.proofs.StopLemmas.{contents-stopped, stop-none, stop-long, stop-past}

-- a line without its end that is too long, or too far, stays so with more bytes
stop-grown : (position : Position) (line more : List ℕ) (stop : ReadStop) → HasNoLineFeed line
    → line_stop position line ≡ Some stop → line_stop position (line ++ more) ≡ Some stop
stop-grown position line more stop none is =
    let text = ap length (text_of_line-open line none) in
    let grown = ap length (text_of_line-front line more none) in
    let sum = length-append line (text_of_line more) in
    let whole = length-append line more in
    elim (cases_lt 1024 (length line)) [
      | inl long ↦ elim (cases_lt 67108864 (position.bytes + 1024)) [
        | inl late ↦
            stop-past position (line ++ more) (omega (arith, whole, late, long)) (inr late)
            ∙ sym (stop-past position line (omega (arith, late, long)) (inr late)) ∙ is
        | inr first ↦
            stop-long position (line ++ more) (omega (arith, grown, sum, long))
            (omega (arith, first))
            ∙ sym (stop-long position line (omega (arith, text, long)) (omega (arith, first))) ∙ is
      ]
      | inr short ↦ elim (cases_lt 67108864 (position.bytes + length line)) [
        | inl past ↦
            stop-past position (line ++ more) (omega (arith, whole, past))
            (inr (omega (arith, short, past)))
            ∙ sym (stop-past position line past (inl (omega (arith, text, short)))) ∙ is
        | inr inside ↦ absurd (none-some stop
            (sym (stop-none position line (omega (arith, text, short)) (omega (arith, inside)))
            ∙ is))
      ]
    ]

-- a line that ended is the first one whatever follows
stop-ended_line : (position : Position) (line after rest : List ℕ) (stop : ReadStop)
    → IsEndedLine line → line_stop position line ≡ Some stop
    → stop_due position (lines_of ((line ++ after) ++ rest)) ≡ Some stop
stop-ended_line position line after rest stop whole is =
    let text = whole.0 in
    let split : (line ++ after) ++ rest ≡ text ++ 10 ∷ (after ++ rest) =
    append_assoc line after rest ∙ ap (λ l. l ++ (after ++ rest)) whole.2
    ∙ append_assoc text (10 ∷ []) (after ++ rest) in
    ap (λ bytes. stop_due position (lines_of bytes)) split
    ∙ ap (stop_due position) (lines_of-ended text (after ++ rest) whole.1)
    ∙ ap (line_stop position) (sym whole.2) ∙ is

-- the same of an open line
stop-open_line : (position : Position) (line rest : List ℕ) (stop : ReadStop)
    → HasNoLineFeed line → 0 < length line → line_stop position line ≡ Some stop
    → stop_due position (lines_of (line ++ rest)) ≡ Some stop
stop-open_line position line rest stop none some is =
    let found = lines_of-front line rest none some in
    ap (stop_due position) found.2 ∙ stop-grown position line found.0 stop none is

-- the first line shows it
stop-lines : (position : Position) (lines : List (List ℕ)) (rest : List ℕ) (stop : ReadStop)
    → AreLines lines → stop_due position lines ≡ Some stop
    → stop_due position (lines_of (concat lines ++ rest)) ≡ Some stop
stop-lines position [] rest stop are is = absurd (none-some stop is)
stop-lines position (line ∷ []) rest stop (inl whole) is =
    stop-ended_line position line [] rest stop whole is
stop-lines position (line ∷ []) rest stop (inr open_line) is =
    let P : List ℕ → Type 0 = λ l. stop_due position (lines_of (l ++ rest)) ≡ Some stop in
    subst P (sym (append-nil line))
    (stop-open_line position line rest stop open_line.0 open_line.1 is)
stop-lines position (line ∷ next ∷ lines) rest stop are is =
    stop-ended_line position line (concat (next ∷ lines)) rest stop are.0 is

-- what is to come is that stop
pub stop-stands : (position : Position) (held : List ℕ) (left : Option (List ℕ)) (stop : ReadStop)
    → stop_due position (lines_of held) ≡ Some stop
    → IfSome (contents_after position (prepend_known held left))
    (λ contents. contents ≡ ended (Err stop))
stop-stands position held left stop is =
    contents-stopped position held (prepend_known held left) left stop refl (λ rest.
    let P : List ℕ → Type 0 = λ l. stop_due position (lines_of (l ++ rest)) ≡ Some stop in
    subst P (concat-lines_of held)
    (stop-lines position (lines_of held) rest stop (AreLines-lines_of held) is))
