-- The lines of an answer, as they are written: the bytes of each before its line feed are read as
-- the line.
use Rattle.std.proofs.Common.{◌≡◌, inl, inr, ℕ, Bool, ◌<◌, ◌^◌, true, false, ◌&&◌, cond, List, []}
use Rattle.std.proofs.Common.{◌∷◌}
use Rattle.std.proofs.Common.{◌++◌, length}
use Rattle.std.proofs.Common.{refl, sym, ap, subst, arith}
use Rattle.std.specs.Prelude.{codes, decimal}
use Rattle.std.specs.List.{list_all}
use Rattle.std.proofs.lemmas.Bool.{and_from}
use Rattle.std.proofs.lemmas.Fmt.{decimal_nonempty}
use Rattle.port_core.specs.Contents.{is_skipped}
use Rattle.csv.specs.Reading.{strip_bom}
use Rattle.csv.specs.Writing.{default_writer, fields_text, row_body, is_blank as csv_blank}
use Rattle.fixture_sheet.specs.Fields.{is_blank, with_field, without_padding}
use Rattle.cert_text.specs.declared.proof_line.ProofLine.{ProofLine}
use Rattle.cert_text.specs.Lines.{text_of_proof_line}
use Rattle.cert_text.specs.Ranges.{is_club_number}
use Rattle.cert_text.proofs.PrintedLemmas.{line_printed}
use Rattle.line_tokens.specs.declared.token.Token.{Token}
use Rattle.line_tokens.specs.declared.token.Token.TheVariants.{Blank, Row, Proof, Near, Unknown}
use Rattle.line_tokens.specs.Tokens.{token_of, token_of_line}
use Rattle.wide_lines.specs.WideTexts.{text_of_near}
use Rattle.wide_lines.proofs.NearTextLemmas.{near_printed, near_reads_back}
use Rattle.line_tokens.specs.declared.row_word.RowWord.{RowWord}
use Rattle.line_tokens.specs.declared.row_word.RowWord.TheVariants.{Clinched, Lost, Possible}
use Rattle.line_tokens.specs.declared.row_word.RowWord.TheVariants.{Unsettled}
use Rattle.line_tokens.specs.RowFields.{ask_fields, text_of_word, verdict_fields}
use Rattle.report_lines.specs.inside.WrittenLines.{IsWritable}
use Rattle.report_lines.specs.inside.WrittenReports.{are_within_line, written}
use Rattle.report_lines.specs.inside.WrittenReports.{IsLineRead, AreRead}
use Rattle.report_lines.proofs.ReadBackLemmas.{token_of-text}
use Rattle.report_lines.proofs.RowBackLemmas.{body_within, row_back}
use Rattle.report_lines.proofs.WithinLemmas.{number_bytes, printed_bytes}

-- ---- what was written

-- a line that was written: its bytes before the line feed, which are read as the line
pub record HasBody (told : Token) : Type 0 where
  pub body : List ℕ
  pub bytes : written told ≡ body ++ 10 ∷ []
  pub within : are_within_line body ≡ true
  pub kept : is_skipped body ≡ false
  pub token : token_of body ≡ told

-- so is each of these
abbrev pub HaveBodies : List Token → Type 0
HaveBodies [] = Unit {0}
HaveBodies (first ∷ told) = HasBody first × HaveBodies told

-- a proof line
pub proof_body : (line : ProofLine) → IsWritable line → HasBody (Proof line)
proof_body line writable = record {
  body = text_of_proof_line line;
  bytes = refl;
  within = printed_bytes (text_of_proof_line line) (line_printed line writable.0);
  kept = refl;
  token = token_of-text line writable;
}

-- the line of a near leaf is read as that leaf
near_token : (rival : ℕ) (fresh : Bool) → is_club_number rival ≡ true
    → token_of (text_of_near fresh rival) ≡ Near rival fresh
near_token rival true known = ap token_of_line (near_reads_back true rival known)
near_token rival false known = ap token_of_line (near_reads_back false rival known)

-- a near leaf
near_body : (rival : ℕ) (fresh : Bool) → is_club_number rival ≡ true → HasBody (Near rival fresh)
near_body rival fresh known = record {
  body = text_of_near fresh rival;
  bytes = refl;
  within = printed_bytes (text_of_near fresh rival) (near_printed fresh rival known);
  kept = refl;
  token = near_token rival fresh known;
}

some_digit : (n : ℕ) → n < 2 ^ 64 → is_blank (decimal n) ≡ false
some_digit n small = at (decimal n) (decimal_nonempty n small)
  where
    at : (bytes : List ℕ) → 0 < length bytes → is_blank bytes ≡ false
    at [] some = absurd (omega (arith, some))
    at (byte ∷ bytes) some = refl

-- the row of an ask
ask_body : (epoch : ℕ) → epoch < 2 ^ 64 → HasBody (Row (ask_fields epoch))
unfolding csv_blank fields_text strip_bom
ask_body epoch small =
    let fields = ask_fields epoch in
    let within : list_all are_within_line fields ≡ true =
    and_from (are_within_line (decimal epoch)) true (number_bytes epoch small) refl in
    let whole : without_padding fields ≡ fields =
    ap (λ b. with_field (codes "ask") (cond b [] (decimal epoch ∷ [])))
    (some_digit epoch small) in
    record {
      body = row_body default_writer fields;
      bytes = refl;
      within = body_within fields within;
      kept = refl;
      token = row_back (codes "ask") (decimal epoch) [] refl refl within whole;
    }

word_within : (word : RowWord) → are_within_line (text_of_word word) ≡ true
word_within Clinched = refl
word_within Lost = refl
word_within Possible = refl
word_within Unsettled = refl

whole_row : (number name : List ℕ) (word : RowWord)
    → without_padding (codes "verdict" ∷ number ∷ name ∷ text_of_word word ∷ [])
    ≡ codes "verdict" ∷ number ∷ name ∷ text_of_word word ∷ []
whole_row number name Clinched = refl
whole_row number name Lost = refl
whole_row number name Possible = refl
whole_row number name Unsettled = refl

-- the row of a verdict
verdict_body : (line : ℕ) (name : List ℕ) (word : RowWord) → line < 2 ^ 64
    → are_within_line name ≡ true → HasBody (Row (verdict_fields line name word))
unfolding csv_blank fields_text strip_bom
verdict_body line name word small plain =
    let fields = verdict_fields line name word in
    let within : list_all are_within_line fields ≡ true =
    and_from (are_within_line (decimal line)) (are_within_line name
    && (are_within_line (text_of_word word) && true)) (number_bytes line small)
    (and_from (are_within_line name) (are_within_line (text_of_word word) && true) plain
    (and_from (are_within_line (text_of_word word)) true (word_within word) refl)) in
    record {
      body = row_body default_writer fields;
      bytes = refl;
      within = body_within fields within;
      kept = refl;
      token = row_back (codes "verdict") (decimal line) (name ∷ text_of_word word ∷ []) refl refl
          within (whole_row (decimal line) name word);
    }

body_of : (told : Token) → IsLineRead told → HasBody told
body_of Blank is = absurd is
body_of (Row fields) (inl ask) =
    subst (λ (row : List (List ℕ)). HasBody (Row row)) (sym ask.2) (ask_body ask.0 ask.1)
body_of (Row fields) (inr verdict) =
    subst (λ (row : List (List ℕ)). HasBody (Row row)) (sym verdict.5)
    (verdict_body verdict.0 verdict.1 verdict.2 verdict.3 verdict.4)
body_of (Proof line) is = proof_body line is
body_of (Near rival fresh) is = near_body rival fresh is
body_of Unknown is = absurd is

pub bodies_of : (told : List Token) → AreRead told → HaveBodies told
bodies_of [] are = tt
bodies_of (first ∷ told) are = (body_of first are.0, bodies_of told are.1)
