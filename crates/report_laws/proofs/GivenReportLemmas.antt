-- An input with answers after it: its contents are those of the input, the record `proofs`, and the
-- lines of the answers.
use Rattle.std.proofs.Common.{◌≡◌, ℕ, ◌+◌, ◌≤◌, Bool, true, false, ◌==◌, cond, List, ◌∷◌, ◌++◌}
use Rattle.std.proofs.Common.{length, Ok, refl, sym, ap, subst, ◌∙◌, arith}
use Rattle.std.specs.Prelude.{codes}
use Rattle.std.specs.List.{flat_map}
use Rattle.std.proofs.lemmas.List.{length-append}
use Rattle.port_core.specs.Lines.{lines_of}
use Rattle.port_core.specs.Contents.{Contents, Position, contents_from, contents_of, content_at}
use Rattle.port_core.specs.Contents.{input_limit, number_at, position_after, start, with_content}
use Rattle.port_core.specs.Contents.{with_line, with_lines, without_mark, without_return}
use Rattle.port_core.proofs.LineLemmas.{AreLines-lines_of, concat-lines_of}
use Rattle.line_tokens.specs.declared.token.Token.{Token}
use Rattle.report_lines.specs.inside.WrittenReports.{written}
use Rattle.report_lines.proofs.WithinLemmas.{no_feed}
use Rattle.report_laws.specs.inside.AcceptedTexts.{input_with_answers, line_ended}
use Rattle.report_laws.proofs.FrontLemmas.{GivesFront, lines-front}
use Rattle.report_laws.proofs.LineReadLemmas.{contents-text}
use Rattle.report_laws.proofs.PutLemmas.{ArePut, ReadsAs, put-back}

-- the input before the record `proofs` and other bytes
pub input-front : (input rest : List ℕ) (end : ℕ) → (contents_of input).ending ≡ Ok end
    → length (line_ended input) ≤ input_limit
    → GivesFront start (line_ended input) (contents_of input).lines rest
input-front input rest end read inside =
    let lines = (contents_of input).lines in
    let Front : List ℕ → Type 0 = λ bytes. length (line_ended bytes) ≤ input_limit
    → GivesFront start (line_ended bytes) lines rest in
    subst Front (concat-lines_of input)
    (λ fits. lines-front (lines_of input) start lines end rest (AreLines-lines_of input)
    (λ i. record { lines = lines; ending = read i }) (omega (arith, fits))) inside

-- the record `proofs` stays as it is, wherever it stands
pub proofs_content : (position : Position) → content_at position (codes "proofs") ≡ codes "proofs"
proofs_content position = by_test (position.lines == 0)
  where
    by_test : (first : Bool) → cond first (without_mark (without_return (codes "proofs")))
        (without_return (codes "proofs")) ≡ codes "proofs"
    by_test true = refl
    by_test false = refl

-- the contents of an input with lines of answers
pub record GivesReport (input : List ℕ) (text : List ℕ) (told : List Token) : Type 0 where
  pub number : ℕ
  pub tail : Contents
  pub reads : ReadsAs tail told
  pub gives : contents_of (input_with_answers input text)
      ≡ with_lines (contents_of input).lines (with_line number (codes "proofs") tail)

pub report-given : (input : List ℕ) (end : ℕ) (told : List Token) (text : List ℕ)
    → (contents_of input).ending ≡ Ok end → text ≡ flat_map written told
    → ArePut told
    → length (input_with_answers input text) ≤ input_limit → GivesReport input text told
report-given input end told text read bytes put inside =
    let after = codes "proofs" ++ 10 ∷ text in
    let fits : length (line_ended input ++ after) ≤ input_limit = inside in
    let size : length (line_ended input ++ after) ≡ length (line_ended input) + length after =
    length-append (line_ended input) after in
    let six : length after ≡ 6 + length (10 ∷ text) = length-append (codes "proofs") (10 ∷ text) in
    let front = input-front input after end read (omega (arith, fits, size)) in
    let passed = front.passed in
    let there = position_after front.next (6 + 1) in
    let tail = contents_from there (lines_of text) in
    let Reads : List ℕ → Type 0 = λ these. there.bytes + length these ≤ input_limit
    → ReadsAs (contents_from there (lines_of these)) told in
    record {
      number = number_at front.next;
      tail = tail;
      reads = subst Reads (sym bytes) (put-back told there put (λ same. omega (arith, same)))
          (omega (arith, fits, size, six, passed));
      gives = front.gives
          ∙ ap (with_lines (contents_of input).lines)
          (contents-text front.next (codes "proofs") text (no_feed (codes "proofs") refl)
          (omega arith) (omega (arith, fits, size, six, passed))
          ∙ ap (λ (content : List ℕ). with_content (number_at front.next) content tail)
          (proofs_content front.next));
    }
