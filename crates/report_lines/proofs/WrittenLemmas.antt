-- The bytes of an answer are cut into the lines that were written, and each is read as what it was.
use Rattle.std.proofs.Common.{◌≡◌, ◌≢◌, ℕ, ◌+◌, ◌-◌, Bool, true, false}
use Rattle.std.proofs.Common.{not, ◌&&◌, ◌==◌, cond, List, [], ◌∷◌, ◌++◌, length, map, take, Option}
use Rattle.std.proofs.Common.{Some, None, Ok, refl, sym, ap, ◌∙◌, append_assoc, arith}
use Rattle.std.proofs.Common.{append-nil, length-append}
use Rattle.std.specs.Prelude.{nat_eq, is_ok}
use Rattle.std.specs.List.{ends_with, flat_map}
use Rattle.std.proofs.lemmas.Bool.{and_parts, false≢true, ne_eqb}
use Rattle.std.proofs.lemmas.Bool.{false_from_ne_true}
use Rattle.std.proofs.lemmas.Bool.Decides.{Decides-eqb}
use Rattle.std.proofs.lemmas.Slice.Eq.{ends_is}
use Rattle.port_core.specs.declared.line.ReadStop.{ReadStop}
use Rattle.port_core.specs.Lines.{lines_of, text_of_line, onto_first}
use Rattle.port_core.specs.Contents.{Contents, Position, content_at, contents_by, contents_from}
use Rattle.port_core.specs.Contents.{is_skipped, line_stop, number_at, position_after, with_line}
use Rattle.port_core.specs.Contents.{with_lines}
use Rattle.port_core.specs.Contents.{without_mark, without_return}
use Rattle.line_tokens.specs.declared.token.Token.{Token}
use Rattle.line_tokens.specs.Tokens.{token_of}
use Rattle.line_tokens.specs.Tokens.{tokens_of}
use Rattle.kept_lines.specs.LineLists.{numbered}
use Rattle.report_lines.specs.inside.WrittenReports.{is_within_line, are_within_line, written}
use Rattle.report_lines.specs.inside.WrittenReports.{AreRead}
use Rattle.league_core.proofs.plain.Lists.{list_all-last}
use Rattle.report_lines.proofs.BodyLemmas.{HaveBodies, bodies_of}

-- ---- one line among bytes

-- the bytes up to a line feed are a line
lines_of-line : (body rest : List ℕ) → are_within_line body ≡ true
    → lines_of (body ++ 10 ∷ rest) ≡ (body ++ 10 ∷ []) ∷ lines_of rest
lines_of-line [] rest within = refl
lines_of-line (byte ∷ body) rest within =
    let parts = and_parts (is_within_line byte) (are_within_line body) within in
    no_feed (byte == 10) (byte == 13) parts.0
    ∙ ap (onto_first byte) (lines_of-line body rest parts.1)
  where
    no_feed : (feed return : Bool) → (not feed && not return) ≡ true
        → cond feed ((byte ∷ []) ∷ lines_of (body ++ 10 ∷ rest))
        (onto_first byte (lines_of (body ++ 10 ∷ rest)))
        ≡ onto_first byte (lines_of (body ++ 10 ∷ rest))
    no_feed true return is = absurd (false≢true is)
    no_feed false return is = refl

text_of_line-body : (body : List ℕ) → are_within_line body ≡ true
    → text_of_line (body ++ 10 ∷ []) ≡ body
text_of_line-body [] within = refl
text_of_line-body (byte ∷ body) within =
    let parts = and_parts (is_within_line byte) (are_within_line body) within in
    no_feed (byte == 10) (byte == 13) parts.0
    ∙ ap (λ rest. byte ∷ rest) (text_of_line-body body parts.1)
  where
    no_feed : (feed return : Bool) → (not feed && not return) ≡ true
        → cond feed [] (byte ∷ text_of_line (body ++ 10 ∷ []))
        ≡ byte ∷ text_of_line (body ++ 10 ∷ [])
    no_feed true return is = absurd (false≢true is)
    no_feed false return is = refl

-- no carriage return is taken off it
no_return_taken : (body : List ℕ) → are_within_line body ≡ true → without_return body ≡ body
no_return_taken body within =
    ap (λ b. cond b (take (length body - 1) body) body)
    (false_from_ne_true (ends_with nat_eq body (13 ∷ []))
    (λ ends.
    let is = (ends_is Decides-eqb body (13 ∷ [])
    (ends_with nat_eq body (13 ∷ [])) refl).0 ends in
    false≢true (list_all-last is_within_line (take (length body - 1) body) 13
    (ap are_within_line (sym is) ∙ within))))

content_is : (position : Position) (body : List ℕ) → position.lines ≢ 0
    → are_within_line body ≡ true → content_at position (text_of_line (body ++ 10 ∷ [])) ≡ body
content_is position body behind within =
    ap (λ b. cond b (without_mark (without_return (text_of_line (body ++ 10 ∷ []))))
    (without_return (text_of_line (body ++ 10 ∷ [])))) (ne_eqb position.lines 0 behind)
    ∙ ap without_return (text_of_line-body body within)
    ∙ no_return_taken body within

-- ---- line by line

abbrev pub is_ok_ending : Contents → Bool
is_ok_ending contents = is_ok contents.ending

-- the next line is given, if the reading comes to the end
given_first : (stop : Option ReadStop) (skipped : Bool) (number : ℕ) (body : List ℕ)
    (rest : Contents) → skipped ≡ false
    → is_ok_ending (contents_by stop (cond skipped rest (with_line number body rest))) ≡ true
    → (contents_by stop (cond skipped rest (with_line number body rest))
    ≡ with_line number body rest) × (is_ok_ending rest ≡ true)
given_first (Some stop) skipped number body rest kept ends = absurd (false≢true ends)
given_first None true number body rest kept ends = absurd (false≢true (sym kept))
given_first None false number body rest kept ends = (refl, ends)

-- ---- lines that were written, and what comes after them

-- the position after these lines
abbrev pub position_behind : Position → List Token → Position
position_behind position told = record {
  lines = position.lines + length told;
  bytes = position.bytes + length (flat_map written told);
}

-- what an input gives that goes on with the bytes of these lines: these lines, and then what comes
-- after them
pub record GivesLines (told : List Token) (position : Position) (after : List ℕ) : Type 0 where
  pub lines : List (ℕ × List ℕ)
  pub tokens : map (λ (line : ℕ × List ℕ). token_of line.1) lines ≡ told
  pub all : contents_from position (lines_of (flat_map written told ++ after))
      ≡ with_lines lines (contents_from (position_behind position told) (lines_of after))

pub lines_given : (told : List Token) (position : Position) (after : List ℕ) → HaveBodies told
    → position.lines ≢ 0
    → is_ok_ending (contents_from position (lines_of (flat_map written told ++ after))) ≡ true
    → GivesLines told position after
lines_given [] position after have behind ends =
    let lines_are : position.lines ≡ position.lines + 0 = omega arith in
    let bytes_are : position.bytes ≡ position.bytes + 0 = omega arith in
    let same : position ≡ position_behind position [] =
    λ i. record { lines = lines_are i; bytes = bytes_are i } in
    record {
      lines = [];
      tokens = refl;
      all = ap (λ (p : Position). contents_from p (lines_of after)) same;
    }
lines_given (first ∷ told) position after have behind ends =
    let has = have.0 in
    let bytes = flat_map written told in
    let line = has.body ++ 10 ∷ [] in
    let number = number_at position in
    let next = position_after position (length line) in
    let rest = contents_from next (lines_of (bytes ++ after)) in
    let cut : lines_of ((written first ++ bytes) ++ after) ≡ line ∷ lines_of (bytes ++ after) =
    ap lines_of (append_assoc (written first) bytes after
    ∙ ap (λ front. front ++ (bytes ++ after)) has.bytes
    ∙ append_assoc has.body (10 ∷ []) (bytes ++ after))
    ∙ lines_of-line has.body (bytes ++ after) has.within in
    let content = content_is position has.body behind has.within in
    let given = given_first (line_stop position line)
    (is_skipped (content_at position (text_of_line line))) number
    (content_at position (text_of_line line)) rest (ap is_skipped content ∙ has.kept)
    (sym (ap (λ all. is_ok_ending (contents_from position all)) cut) ∙ ends) in
    let later = lines_given told next after have.1 (λ e. omega (arith, e)) given.1 in
    let size = length-append (written first) bytes in
    let body_size : length (written first) ≡ length line = ap length has.bytes in
    let lines_are : next.lines + length told ≡ position.lines + length (first ∷ told) =
    omega arith in
    let bytes_are : next.bytes + length bytes ≡ position.bytes + length (written first ++ bytes) =
    omega (arith, size, body_size) in
    let behind_all : position_behind next told ≡ position_behind position (first ∷ told) =
    λ i. record { lines = lines_are i; bytes = bytes_are i } in
    record {
      lines = (number, has.body) ∷ later.lines;
      tokens = λ i. has.token i ∷ later.tokens i;
      all = ap (contents_from position) cut ∙ given.0
          ∙ ap (λ (text : List ℕ). with_line number text rest) content
          ∙ ap (with_line number has.body) later.all
          ∙ ap (λ (p : Position). with_line number has.body
          (with_lines later.lines (contents_from p (lines_of after)))) behind_all;
    }

-- the lines of a report are those that were written
pub written_back : (told : List Token) (position : Position) (lines : List (ℕ × List ℕ))
    (end : ℕ) → AreRead told → position.lines ≢ 0
    → contents_from position (lines_of (flat_map written told))
    ≡ record { lines = lines; ending = Ok end }
    → tokens_of (map numbered lines) ≡ told
written_back told position lines end are behind is =
    let read : contents_from position (lines_of (flat_map written told ++ []))
    ≡ record { lines = lines; ending = Ok end } =
    ap (λ bytes. contents_from position (lines_of bytes)) (append-nil (flat_map written told)) ∙ is
    in
    let given = lines_given told position [] (bodies_of told are) behind (ap is_ok_ending read) in
    let same : lines ≡ given.lines =
    sym (ap (λ (c : Contents). c.lines) read) ∙ ap (λ (c : Contents). c.lines) given.all
    ∙ append-nil given.lines in
    ap (λ all. tokens_of (map numbered all)) same ∙ each given.lines ∙ given.tokens
  where
    each : (all : List (ℕ × List ℕ))
        → tokens_of (map numbered all) ≡ map (λ (line : ℕ × List ℕ). token_of line.1) all
    each [] = refl
    each (line ∷ all) = ap (λ rest. token_of line.1 ∷ rest) (each all)
