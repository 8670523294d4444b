-- One line of an input: what it gives, whatever comes after it, if the reading does not stop there.
use Rattle.std.proofs.Common.{◌≡◌, inl, inr, ℕ, ◌+◌, ◌≤◌, Bool, true, false, cond, List, []}
use Rattle.std.proofs.Common.{◌∷◌, ◌++◌, length, Option, Some, None, Ok, refl, sym, ap}
use Rattle.std.proofs.Common.{subst, ◌∙◌, arith}
use Rattle.std.specs.Prelude.{is_ok}
use Rattle.std.proofs.lemmas.Bool.{cases_lt, false≢true}
use Rattle.std.proofs.lemmas.List.{length-append}
use Rattle.port_core.specs.declared.line.ReadStop.{ReadStop}
use Rattle.port_core.specs.Lines.{lines_of, text_of_line, HasNoLineFeed}
use Rattle.port_core.specs.Contents.{Contents, Position, contents_by, contents_from, content_at}
use Rattle.port_core.specs.Contents.{is_skipped, line_stop, number_at, position_after}
use Rattle.port_core.specs.Contents.{with_content, with_line, with_lines, input_limit}
use Rattle.port_core.proofs.LineLemmas.{lines_of-ended, text_of_line-ended}
use Rattle.port_core.proofs.FirstLineLemmas.{length-text_of_line}
use Rattle.port_core.proofs.StopLemmas.{stop-long, stop-none, stop-past}
use Rattle.port_core.proofs.ContentLemmas.{contents-line}

-- ---- a line and its LF

-- a line that is given or passed over leaves the ending as it is
pub ending-with : (number : ℕ) (content : List ℕ) (rest : Contents)
    → (with_content number content rest).ending ≡ rest.ending
ending-with number content rest = by_test (is_skipped content)
  where
    by_test : (skipped : Bool)
        → (cond skipped rest (with_line number content rest)).ending ≡ rest.ending
    by_test true = refl
    by_test false = refl

-- a line without LF, before its LF, and what comes after it
pub contents-text : (position : Position) (text rest : List ℕ) → HasNoLineFeed text
    → length text ≤ 1024 → position.bytes + (length text + 1) ≤ input_limit
    → contents_from position (lines_of (text ++ 10 ∷ rest))
    ≡ with_content (number_at position) (content_at position text)
    (contents_from (position_after position (length text + 1)) (lines_of rest))
contents-text position text rest none short inside =
    let line = text ++ 10 ∷ [] in
    let body = text_of_line-ended text none in
    let size : length line ≡ length text + 1 = length-append text (10 ∷ []) in
    contents-line position (lines_of (text ++ 10 ∷ rest)) (lines_of rest) line text
    (length text + 1) (lines_of-ended text rest none) body size
    (stop-none position line (omega (arith, short, ap length body)) (omega (arith, inside, size)))

-- ---- a line that does not stop the reading

abbrev has_stop : Option ReadStop → Bool
has_stop None = false
has_stop (Some stop) = true

abbrev is_read : Contents → Bool
is_read contents = is_ok contents.ending

-- it has no more bytes than a line may have
short_line : (position : Position) (line : List ℕ) → line_stop position line ≡ None
    → length (text_of_line line) ≤ 1024
short_line position line none =
    elim (cases_lt 1024 (length (text_of_line line))) as (λ _. length (text_of_line line) ≤ 1024) [
      | inl long ↦ absurd (
          elim (cases_lt 67108864 (position.bytes + 1024)) as (λ _. ⊥) [
            | inl late ↦ false≢true (ap has_stop (sym none ∙ stop-past position line
                (omega (arith, long, late, length-text_of_line line)) (inr late)))
            | inr first ↦ false≢true (ap has_stop (sym none ∙ stop-long position line long first))
          ])
      | inr short ↦ short
    ]

-- what a line adds to the contents, given or passed over
abbrev pub line_given : ℕ → List ℕ → List (ℕ × List ℕ)
line_given number content = cond (is_skipped content) [] ((number, content) ∷ [])

pub given-is : (number : ℕ) (content : List ℕ) (rest : Contents)
    → with_content number content rest ≡ with_lines (line_given number content) rest
given-is number content rest = by_test (is_skipped content)
  where
    by_test : (skipped : Bool) → cond skipped rest (with_line number content rest)
        ≡ with_lines (cond skipped [] ((number, content) ∷ [])) rest
    by_test true = refl
    by_test false = refl

-- the first of the lines of an input that is read to its end
pub record ReadsFirst (position : Position) (line text : List ℕ) (after : List (List ℕ))
    (given : List (ℕ × List ℕ)) (end : ℕ) : Type 0 where
  pub short : length text ≤ 1024
  pub later : List (ℕ × List ℕ)
  pub all : given ≡ line_given (number_at position) (content_at position text) ++ later
  pub behind : contents_from (position_after position (length line)) after
      ≡ record { lines = later; ending = Ok end }

pub reads-first : (position : Position) (line text : List ℕ) (after : List (List ℕ))
    (given : List (ℕ × List ℕ)) (end : ℕ) → text_of_line line ≡ text
    → contents_from position (line ∷ after) ≡ record { lines = given; ending = Ok end }
    → ReadsFirst position line text after given end
reads-first position line text after given end body is =
    by_stop (line_stop position line) refl is
  where
    rest : Contents
    rest = contents_from (position_after position (length line)) after

    by_stop : (stop : Option ReadStop) → line_stop position line ≡ stop
        → contents_by stop (with_content (number_at position)
        (content_at position (text_of_line line)) rest)
        ≡ record { lines = given; ending = Ok end }
        → ReadsFirst position line text after given end
    by_stop (Some stop) found read = absurd (false≢true (ap is_read read))
    by_stop None found read =
        let content = content_at position text in
        let whole : with_lines (line_given (number_at position) content) rest
        ≡ record { lines = given; ending = Ok end } =
        sym (given-is (number_at position) content rest)
        ∙ ap (λ (t : List ℕ). with_content (number_at position) (content_at position t) rest)
        (sym body) ∙ read in
        record {
          short = subst (λ (t : List ℕ). length t ≤ 1024) body (short_line position line found);
          later = rest.lines;
          all = sym (ap (λ (c : Contents). c.lines) whole);
          behind = λ i. record {
            lines = rest.lines;
            ending = ap (λ (c : Contents). c.ending) whole i;
          };
        }
