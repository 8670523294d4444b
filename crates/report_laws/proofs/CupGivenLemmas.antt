-- An input with answers of a cup after it: its contents are those of the input, the record
-- `proofs`, and the lines of the answers, which are read to their end.
use Rattle.std.proofs.Common.{◌≡◌, ◌≢◌, ℕ, ◌+◌, ◌≤◌, List, [], ◌∷◌, ◌++◌, length, Ok, refl, sym, ap}
use Rattle.std.proofs.Common.{subst, ◌∙◌, append_assoc, arith}
use Rattle.std.specs.Prelude.{codes}
use Rattle.std.specs.List.{flat_map}
use Rattle.std.proofs.lemmas.List.{length-append}
use Rattle.port_core.specs.Lines.{lines_of}
use Rattle.port_core.specs.Contents.{Contents, Position, contents_from, contents_of, content_at}
use Rattle.port_core.specs.Contents.{input_limit, number_at, position_after, with_content}
use Rattle.port_core.specs.Contents.{with_line, with_lines}
use Rattle.report_lines.proofs.WithinLemmas.{no_feed}
use Rattle.cup_grammar.specs.declared.token.CupToken.{CupToken}
use Rattle.report_laws.specs.inside.AcceptedTexts.{input_with_answers, line_ended}
use Rattle.report_laws.proofs.CupBodyLemmas.{HasCupBody, HaveCupBodies, cup_written}
use Rattle.report_laws.proofs.GivenReportLemmas.{input-front, proofs_content}
use Rattle.report_laws.proofs.LineReadLemmas.{contents-text, ending-with}

-- lines that were written are read to their end
cup_put_ends : (told : List CupToken) (position : Position) → HaveCupBodies told
    → position.bytes + length (flat_map cup_written told) ≤ input_limit
    → (end : ℕ)
    × ((contents_from position (lines_of (flat_map cup_written told))).ending ≡ Ok end)
cup_put_ends [] position have inside = (number_at position, refl)
cup_put_ends (first ∷ told) position have inside =
    let has : HasCupBody first = have.0 in
    let rest = flat_map cup_written told in
    let bytes : cup_written first ++ rest ≡ has.body ++ 10 ∷ rest =
    ap (λ (front : List ℕ). front ++ rest) has.bytes ∙ append_assoc has.body (10 ∷ []) rest in
    let size : length (cup_written first) ≡ length has.body + 1 =
    ap length has.bytes ∙ length-append has.body (10 ∷ []) in
    let all : length (cup_written first ++ rest) ≡ length (cup_written first) + length rest =
    length-append (cup_written first) rest in
    let short = has.short in
    let next = position_after position (length has.body + 1) in
    let later = cup_put_ends told next have.1 (omega (arith, inside, size, all)) in (
      later.0,
      ap (λ (front : List ℕ). (contents_from position (lines_of front)).ending) bytes
          ∙ ap (λ (c : Contents). c.ending)
          (contents-text position has.body rest (no_feed has.body has.within)
          (omega (arith, short, size)) (omega (arith, inside, size, all)))
          ∙ ending-with (number_at position) (content_at position has.body)
          (contents_from next (lines_of rest))
          ∙ later.1,
    )

-- the contents of an input with answers: those of the input, the record `proofs`, and the answers
-- from this position on, behind the first line
pub record GivesCupReport (input : List ℕ) (text : List ℕ) : Type 0 where
  pub number : ℕ
  pub position : Position
  pub behind : position.lines ≢ 0
  pub end : ℕ
  pub ends : (contents_from position (lines_of text)).ending ≡ Ok end
  pub gives : contents_of (input_with_answers input text)
      ≡ with_lines (contents_of input).lines
      (with_line number (codes "proofs") (contents_from position (lines_of text)))

pub cup_report_given : (input : List ℕ) (end : ℕ) (told : List CupToken) (text : List ℕ)
    → (contents_of input).ending ≡ Ok end → text ≡ flat_map cup_written told
    → HaveCupBodies told → length (input_with_answers input text) ≤ input_limit
    → GivesCupReport input text
cup_report_given input end told text read bytes have inside =
    let after = codes "proofs" ++ 10 ∷ text in
    let fits : length (line_ended input ++ after) ≤ input_limit = inside in
    let size : length (line_ended input ++ after) ≡ length (line_ended input) + length after =
    length-append (line_ended input) after in
    let six : length after ≡ 6 + length (10 ∷ text) = length-append (codes "proofs") (10 ∷ text) in
    let front = input-front input after end read (omega (arith, fits, size)) in
    let passed = front.passed in
    let there = position_after front.next (6 + 1) in
    let tail = contents_from there (lines_of text) in
    let End : List ℕ → Type 0 = λ these. there.bytes + length these ≤ input_limit
    → (last : ℕ) × ((contents_from there (lines_of these)).ending ≡ Ok last) in
    let ends = subst End (sym bytes) (cup_put_ends told there have)
    (omega (arith, fits, size, six, passed)) in
    record {
      number = number_at front.next;
      position = there;
      behind = λ same. omega (arith, same);
      end = ends.0;
      ends = ends.1;
      gives = front.gives
          ∙ ap (with_lines (contents_of input).lines)
          (contents-text front.next (codes "proofs") text (no_feed (codes "proofs") refl)
          (omega arith) (omega (arith, fits, size, six, passed))
          ∙ ap (λ (content : List ℕ). with_content (number_at front.next) content tail)
          (proofs_content front.next));
    }
