-- An input before more bytes: its lines give what they gave, if the last of them ends there.
use Rattle.std.proofs.Common.{◌≡◌, ◌≢◌, inl, inr, ℕ, ◌+◌, ◌<◌, ◌≤◌, Bool, cond, List, [], ◌∷◌}
use Rattle.std.proofs.Common.{◌++◌, length, Ok, refl, sym, ap, subst, ◌∙◌, append_assoc, append-nil}
use Rattle.std.proofs.Common.{arith}
use Rattle.std.specs.List.{concat}
use Rattle.std.proofs.lemmas.Bool.{ne_eqb}
use Rattle.std.proofs.lemmas.List.{length-append}
use Rattle.std.proofs.lemmas.List.Elements.{All-head, All-tail}
use Rattle.port_core.specs.Lines.{lines_of, text_of_line, HasNoLineFeed, IsEndedLine}
use Rattle.port_core.specs.Contents.{Contents, Position, contents_from, content_at, number_at}
use Rattle.port_core.specs.Contents.{position_after, with_lines, input_limit}
use Rattle.port_core.specs.inside.LineSplits.{IsOpenLine, AreLines}
use Rattle.port_core.proofs.LineLemmas.{text_of_line-ended, text_of_line-open}
use Rattle.port_core.proofs.ContentLemmas.{with_lines-append}
use Rattle.report_laws.specs.inside.AcceptedTexts.{line_ended}
use Rattle.report_laws.proofs.LineReadLemmas.{contents-text, given-is, line_given, reads-first}

-- ---- the end of an input

ended-front : (text bytes : List ℕ)
    → line_ended (text ++ 10 ∷ bytes) ≡ text ++ 10 ∷ line_ended bytes
ended-front [] [] = refl
ended-front [] (byte ∷ bytes) = refl
ended-front (byte ∷ []) bytes = ap (λ (rest : List ℕ). byte ∷ rest) (ended-front [] bytes)
ended-front (byte ∷ next ∷ text) bytes =
    ap (λ (rest : List ℕ). byte ∷ rest) (ended-front (next ∷ text) bytes)

ended-open : (text : List ℕ) → HasNoLineFeed text → 0 < length text
    → line_ended text ≡ text ++ 10 ∷ []
ended-open [] none some = absurd (omega arith)
ended-open (byte ∷ []) none some =
    ap (λ (test : Bool). cond test (byte ∷ []) (byte ∷ 10 ∷ []))
    (ne_eqb byte 10 (All-head (λ b. b ≢ 10) byte [] none))
ended-open (byte ∷ next ∷ text) none some =
    ap (λ (rest : List ℕ). byte ∷ rest)
    (ended-open (next ∷ text) (All-tail (λ b. b ≢ 10) byte (next ∷ text) none) (omega arith))

-- ---- all lines of an input

-- the lines of these bytes give so much, whatever comes after them
pub record GivesFront (position : Position) (bytes : List ℕ) (given : List (ℕ × List ℕ))
    (rest : List ℕ) : Type 0 where
  pub next : Position
  pub passed : next.bytes ≡ position.bytes + length bytes
  pub gives : contents_from position (lines_of (bytes ++ rest))
      ≡ with_lines given (contents_from next (lines_of rest))

-- one more line before them
more-front : (position : Position) (text bytes rest : List ℕ) (given later : List (ℕ × List ℕ))
    → HasNoLineFeed text → length text ≤ 1024
    → position.bytes + (length text + 1) ≤ input_limit
    → given ≡ line_given (number_at position) (content_at position text) ++ later
    → GivesFront (position_after position (length text + 1)) bytes later rest
    → GivesFront position (text ++ 10 ∷ bytes) given rest
more-front position text bytes rest given later none short inside all behind =
    let front = line_given (number_at position) (content_at position text) in
    let tail = contents_from behind.next (lines_of rest) in
    record {
      next = behind.next;
      passed = omega (arith, behind.passed, length-append text (10 ∷ bytes));
      gives = ap (λ (all : List ℕ). contents_from position (lines_of all))
          (append_assoc text (10 ∷ bytes) rest)
          ∙ contents-text position text (bytes ++ rest) none short inside
          ∙ given-is (number_at position) (content_at position text)
          (contents_from (position_after position (length text + 1)) (lines_of (bytes ++ rest)))
          ∙ ap (with_lines front) behind.gives ∙ sym (with_lines-append front later tail)
          ∙ ap (λ (lines : List (ℕ × List ℕ)). with_lines lines tail) (sym all);
    }

-- so do those of an input that is read to its end
pub lines-front : (lines : List (List ℕ)) (position : Position) (given : List (ℕ × List ℕ))
    (end : ℕ) (rest : List ℕ) → AreLines lines
    → contents_from position lines ≡ record { lines = given; ending = Ok end }
    → position.bytes + length (line_ended (concat lines)) ≤ input_limit
    → GivesFront position (line_ended (concat lines)) given rest
lines-front [] position given end rest are is inside = record {
  next = position;
  passed = omega arith;
  gives = ap (λ (lines : List (ℕ × List ℕ)).
      with_lines lines (contents_from position (lines_of rest)))
      (ap (λ (c : Contents). c.lines) is);
}
lines-front (line ∷ lines) position given end rest are is inside =
    by_line lines are (lines-front lines) is inside
  where
    -- it ended
    ended : (lines : List (List ℕ)) → IsEndedLine line → AreLines lines
        → ((position : Position) (given : List (ℕ × List ℕ)) (end : ℕ) (rest : List ℕ)
        → AreLines lines
        → contents_from position lines ≡ record { lines = given; ending = Ok end }
        → position.bytes + length (line_ended (concat lines)) ≤ input_limit
        → GivesFront position (line_ended (concat lines)) given rest)
        → contents_from position (line ∷ lines) ≡ record { lines = given; ending = Ok end }
        → position.bytes + length (line_ended (concat (line ∷ lines))) ≤ input_limit
        → GivesFront position (line_ended (concat (line ∷ lines))) given rest
    ended lines one others onward read inside =
        let text = one.0 in
        let bytes = line_ended (concat lines) in
        let body : text_of_line line ≡ text =
        ap text_of_line one.2 ∙ text_of_line-ended text one.1 in
        let first = reads-first position line text lines given end body read in
        let same : line_ended (concat (line ∷ lines)) ≡ text ++ 10 ∷ bytes =
        ap (λ (l : List ℕ). line_ended (l ++ concat lines)) one.2
        ∙ ap line_ended (append_assoc text (10 ∷ []) (concat lines))
        ∙ ended-front text (concat lines) in
        let long : length line ≡ length text + 1 =
        ap length one.2 ∙ length-append text (10 ∷ []) in
        let size : length (line_ended (concat (line ∷ lines))) ≡ length text + length (10 ∷ bytes) =
        ap length same ∙ length-append text (10 ∷ bytes) in
        let next = position_after position (length text + 1) in
        let behind : contents_from next lines ≡ record { lines = first.later; ending = Ok end } =
        ap (λ (n : ℕ). contents_from (position_after position n) lines) (sym long)
        ∙ first.behind in
        subst (λ (all : List ℕ). GivesFront position all given rest) (sym same)
        (more-front position text bytes rest given first.later one.1 first.short
        (omega (arith, inside, size)) first.all
        (onward next first.later end rest others behind (omega (arith, inside, size))))

    -- it is the last one, and has no LF
    cut : IsOpenLine line
        → contents_from position (line ∷ []) ≡ record { lines = given; ending = Ok end }
        → position.bytes + length (line_ended (concat (line ∷ []))) ≤ input_limit
        → GivesFront position (line_ended (concat (line ∷ []))) given rest
    cut one read inside =
        let first = reads-first position line line [] given end (text_of_line-open line one.0)
        read in
        let same : line_ended (concat (line ∷ [])) ≡ line ++ 10 ∷ [] =
        ap line_ended (append-nil line) ∙ ended-open line one.0 one.1 in
        let size : length (line_ended (concat (line ∷ []))) ≡ length line + 1 =
        ap length same ∙ length-append line (10 ∷ []) in
        let next = position_after position (length line + 1) in
        let tail = contents_from next (lines_of rest) in
        subst (λ (all : List ℕ). GivesFront position all given rest) (sym same)
        (more-front position line [] rest given first.later one.0 first.short
        (omega (arith, inside, size)) first.all
        (record {
          next = next;
          passed = omega arith;
          gives = ap (λ (lines : List (ℕ × List ℕ)). with_lines lines tail)
              (ap (λ (c : Contents). c.lines) first.behind);
        }))

    by_line : (lines : List (List ℕ)) → AreLines (line ∷ lines)
        → ((position : Position) (given : List (ℕ × List ℕ)) (end : ℕ) (rest : List ℕ)
        → AreLines lines
        → contents_from position lines ≡ record { lines = given; ending = Ok end }
        → position.bytes + length (line_ended (concat lines)) ≤ input_limit
        → GivesFront position (line_ended (concat lines)) given rest)
        → contents_from position (line ∷ lines) ≡ record { lines = given; ending = Ok end }
        → position.bytes + length (line_ended (concat (line ∷ lines))) ≤ input_limit
        → GivesFront position (line_ended (concat (line ∷ lines))) given rest
    by_line [] are onward = elim are [
      | inl one ↦ ended [] one tt onward
      | inr one ↦ cut one
    ]
    by_line (next ∷ lines) are onward = ended (next ∷ lines) are.0 are.1 onward
