-- Lines that an answer puts into a report: each is read as what it was, and none is too long; so
-- their bytes are read to the end, as these lines.
use Rattle.std.proofs.Common.{◌≡◌, ◌≢◌, ℕ, ◌+◌, ◌<◌, ◌≤◌, ◌^◌, Bool, true, false, ◌&&◌, List, []}
use Rattle.std.proofs.Common.{◌∷◌, ◌++◌, map}
use Rattle.std.proofs.Common.{length, Result, Ok, refl, ap, ◌∙◌, append_assoc, inl, inr, arith}
use Rattle.std.specs.Prelude.{decimal}
use Rattle.std.specs.List.{flat_map, list_all}
use Rattle.std.proofs.lemmas.Bool.{and_parts, and_from}
use Rattle.std.proofs.lemmas.List.{length-append}
use Rattle.csv.specs.Writing.{default_writer, row_body}
use Rattle.csv.specs.Writing.{is_blank as csv_blank}
use Rattle.port_core.specs.declared.line.ReadStop.{ReadStop}
use Rattle.port_core.specs.Lines.{lines_of, HasNoLineFeed}
use Rattle.port_core.specs.Contents.{Contents, Position, contents_from, content_at, input_limit}
use Rattle.port_core.specs.Contents.{number_at, position_after}
use Rattle.cert_text.specs.declared.proof_line.ProofLine.{ProofLine}
use Rattle.cert_text.specs.Lines.{text_of_proof_line}
use Rattle.cert_text.specs.Ranges.{is_club_number, is_in_range}
use Rattle.cert_text.specs.inside.Widths.{is_line_kept}
use Rattle.cert_text.proofs.PrintedLemmas.{line_printed}
use Rattle.wide_lines.specs.declared.wide_line.WideLine.{WideLine}
use Rattle.wide_lines.specs.declared.wide_line.WideLine.TheVariants as wide
use Rattle.wide_lines.specs.WideTexts.{text_of_near}
use Rattle.wide_lines.proofs.NearTextLemmas.{near_printed}
use Rattle.line_tokens.specs.declared.token.Token.{Token}
use Rattle.line_tokens.specs.declared.token.Token.TheVariants.{Row, Proof, Near}
use Rattle.line_tokens.specs.Tokens.{token_of_wide}
use Rattle.line_tokens.specs.declared.row_word.RowWord.{RowWord}
use Rattle.line_tokens.specs.declared.row_word.RowWord.TheVariants.{Clinched, Lost, Possible}
use Rattle.line_tokens.specs.declared.row_word.RowWord.TheVariants.{Unsettled}
use Rattle.line_tokens.specs.RowFields.{ask_fields, text_of_word, verdict_fields}
use Rattle.line_tokens.specs.Tokens.{tokens_of}
use Rattle.kept_lines.specs.LineLists.{numbered}
use Rattle.report_lines.specs.inside.WrittenReports.{are_within_line, written, IsLineRead, AreRead}
use Rattle.report_lines.proofs.RowBackLemmas.{body_within}
use Rattle.report_lines.proofs.WrittenLemmas.{written_back}
use Rattle.report_lines.proofs.KeptLemmas.{line-kept, kept_line}
use Rattle.report_lines.proofs.KeptWideLemmas.{kept_wide_line}
use Rattle.report_laws.proofs.BriefLemmas.{is_brief, is_wide_brief, may_show}
use Rattle.report_laws.proofs.LineReadLemmas.{contents-text, ending-with}
use Rattle.report_laws.proofs.RowSizeLemmas.{ask_row-size, verdict_row-size}
use Rattle.report_laws.proofs.SizeLemmas.{line-size, near-size}
use Rattle.report_lines.proofs.WithinLemmas.{IsRowName, no_feed, number_bytes, printed_bytes}

-- a line that an answer may have: bytes without LF, and an LF, no more than a line has
pub record IsLinePut (told : Token) : Type 0 where
  pub read : IsLineRead told
  pub body : List ℕ
  pub bytes : written told ≡ body ++ 10 ∷ []
  pub none : HasNoLineFeed body
  pub short : length (written told) ≤ 1025

-- so is each of these
abbrev pub ArePut : List Token → Type 0
ArePut [] = Unit {0}
ArePut (first ∷ told) = IsLinePut first × ArePut told

pub put-append : (front back : List Token) → ArePut front → ArePut back → ArePut (front ++ back)
put-append [] back one other = other
put-append (first ∷ front) back one other = (one.0, put-append front back one.1 other)

put-read : (told : List Token) → ArePut told → AreRead told
put-read [] put = tt
put-read (first ∷ told) put = (put.0.read, put-read told put.1)

-- ---- the lines of an answer

-- the row of an ask
pub ask-put : (epoch : ℕ) → epoch < 2 ^ 64 → IsLinePut (Row (ask_fields epoch))
unfolding csv_blank
ask-put epoch small =
    let fields = ask_fields epoch in
    record {
      read = inl (epoch, small, refl);
      body = row_body default_writer fields;
      bytes = refl;
      none = no_feed (row_body default_writer fields) (body_within fields
          (and_from (are_within_line (decimal epoch)) true (number_bytes epoch small) refl));
      short = omega (arith, ask_row-size epoch small);
    }

-- the row of a verdict
pub verdict-put : (number : ℕ) (name : List ℕ) (said : RowWord) → number < 2 ^ 64
    → IsRowName name → IsLinePut (Row (verdict_fields number name said))
unfolding csv_blank
verdict-put number name said small named =
    let fields = verdict_fields number name said in
    let back = and_from (are_within_line name) (are_within_line (text_of_word said) && true)
    named.within (and_from (are_within_line (text_of_word said)) true (word_within said) refl) in
    record {
      read = inr (number, name, said, small, named.within, refl);
      body = row_body default_writer fields;
      bytes = refl;
      none = no_feed (row_body default_writer fields) (body_within fields
          (and_from (are_within_line (decimal number)) (are_within_line name
          && (are_within_line (text_of_word said) && true)) (number_bytes number small) back));
      short = omega (arith, verdict_row-size number name said small named.short);
    }
  where
    word_within : (said : RowWord) → are_within_line (text_of_word said) ≡ true
    word_within Clinched = refl
    word_within Lost = refl
    word_within Possible = refl
    word_within Unsettled = refl

-- a proof line that is brief, as a type holds it
proof-put : (shown : ProofLine) → is_brief shown ≡ true → is_line_kept shown ≡ true
    → IsLinePut (Proof shown)
proof-put shown brief kept =
    let within = (and_parts (is_in_range shown) (may_show shown) brief).0 in
    let text = text_of_proof_line shown in
    record {
      read = (within, kept);
      body = text;
      bytes = refl;
      none = no_feed text (printed_bytes text (line_printed shown within));
      short = omega (arith, line-size shown brief, length-append text (10 ∷ []));
    }

-- a near leaf
near-put : (fresh : Bool) (rival : ℕ) → is_club_number rival ≡ true
    → IsLinePut (Near rival fresh)
near-put fresh rival known =
    let text = text_of_near fresh rival in
    record {
      read = known;
      body = text;
      bytes = refl;
      none = no_feed text (printed_bytes text (near_printed fresh rival known));
      short = omega (arith, near-size fresh rival known, length-append text (10 ∷ []));
    }

-- wide lines that are brief, as a type holds them
wide-put : (shown : WideLine) → is_wide_brief (kept_wide_line shown) ≡ true
    → IsLinePut (token_of_wide (kept_wide_line shown))
wide-put (wide.Plain shown) brief = proof-put (kept_line shown) brief (line-kept shown)
wide-put (wide.Near rival) brief =
    near-put false rival (and_parts (is_club_number rival) true brief).0
wide-put (wide.NewNear rival) brief =
    near-put true rival (and_parts (is_club_number rival) true brief).0

pub lines-put : (lines : List WideLine) → list_all is_wide_brief (map kept_wide_line lines) ≡ true
    → ArePut (map token_of_wide (map kept_wide_line lines))
lines-put [] all = tt
lines-put (shown ∷ lines) all =
    let parts = and_parts (is_wide_brief (kept_wide_line shown))
    (list_all is_wide_brief (map kept_wide_line lines)) all in
    (wide-put shown parts.0, lines-put lines parts.1)

-- ---- what their bytes give

-- they are read to the end
put-ends : (told : List Token) (position : Position) → ArePut told
    → position.bytes + length (flat_map written told) ≤ input_limit
    → (end : ℕ) × ((contents_from position (lines_of (flat_map written told))).ending ≡ Ok end)
put-ends [] position put inside = (number_at position, refl)
put-ends (first ∷ told) position put inside =
    let has : IsLinePut first = put.0 in
    let rest = flat_map written told in
    let bytes : written first ++ rest ≡ has.body ++ 10 ∷ rest =
    ap (λ (front : List ℕ). front ++ rest) has.bytes ∙ append_assoc has.body (10 ∷ []) rest in
    let size : length (written first) ≡ length has.body + 1 =
    ap length has.bytes ∙ length-append has.body (10 ∷ []) in
    let all : length (written first ++ rest) ≡ length (written first) + length rest =
    length-append (written first) rest in
    let short = has.short in
    let next = position_after position (length has.body + 1) in
    let later = put-ends told next put.1 (omega (arith, inside, size, all)) in (
      later.0,
      ap (λ (front : List ℕ). (contents_from position (lines_of front)).ending) bytes
          ∙ ap (λ (c : Contents). c.ending)
          (contents-text position has.body rest has.none (omega (arith, short, size))
          (omega (arith, inside, size, all)))
          ∙ ending-with (number_at position) (content_at position has.body)
          (contents_from next (lines_of rest))
          ∙ later.1,
    )

-- and as these lines
pub record ReadsAs (contents : Contents) (told : List Token) : Type 0 where
  pub end : ℕ
  pub ending : contents.ending ≡ Ok end
  pub lines : tokens_of (map numbered contents.lines) ≡ told

pub put-back : (told : List Token) (position : Position) → ArePut told → position.lines ≢ 0
    → position.bytes + length (flat_map written told) ≤ input_limit
    → ReadsAs (contents_from position (lines_of (flat_map written told))) told
put-back told position put behind inside =
    let ends = put-ends told position put inside in
    let contents = contents_from position (lines_of (flat_map written told)) in
    record {
      end = ends.0;
      ending = ends.1;
      lines = written_back told position contents.lines ends.0 (put-read told put) behind
          (ap (λ (e : Result ℕ ReadStop). record { lines = contents.lines; ending = e }) ends.1);
    }
