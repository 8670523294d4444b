-- The lines of an answer of a cup, as they are written: the bytes of each before its line feed are
-- read as the line, and so are those of many lines.
use Rattle.std.proofs.Common.{◌≡◌, ℕ, ◌<◌, ◌≤◌, ◌^◌, Bool, true, false, nat_le}
use Rattle.std.proofs.Common.{List, [], ◌∷◌}
use Rattle.std.proofs.Common.{◌++◌, length, map, Option, Some, None, refl, ap, ◌∙◌, arith}
use Rattle.std.proofs.Common.{length-append, inl, inr}
use Rattle.std.specs.Prelude.{if◌then◌else◌}
use Rattle.std.specs.List.{list_all}
use Rattle.std.proofs.lemmas.Bool.{and_parts, leb-true}
use Rattle.port_core.specs.Contents.{is_skipped}
use Rattle.cert_text.specs.Lines.{Part}
use Rattle.cert_text.specs.Rows.{text_of_row}
use Rattle.wide_lines.specs.declared.wide_line.WideLine.{WideLine}
use Rattle.wide_lines.specs.declared.wide_line.WideLine.TheVariants as wide
use Rattle.wide_lines.specs.WideTexts.{wide_line_in}
use Rattle.line_tokens.specs.declared.token.Token.TheVariants as league
use Rattle.line_tokens.specs.declared.row_word.RowWord.{RowWord}
use Rattle.line_tokens.specs.RowFields.{ask_fields, verdict_fields}
use Rattle.line_tokens.specs.Tokens.{begins_proof, token_of, token_of_line, token_of_row}
use Rattle.report_lines.specs.inside.WrittenReports.{are_within_line}
use Rattle.report_lines.proofs.BodyLemmas.{bodies_of}
use Rattle.report_lines.proofs.WithinLemmas.{IsRowName, printed_bytes}
use Rattle.cup_text.specs.declared.cup_line.CupLine.{CupLine}
use Rattle.cup_text.specs.CupForms.{cup_line_in}
use Rattle.cup_text.specs.declared.cup_line.CupKey.{CupKey}
use Rattle.cup_text.specs.CupLines.{cup_key_of, cup_parts_of, text_of_cup_line, text_with_key}
use Rattle.cup_text.specs.CupRanges.{is_cup_line}
use Rattle.cup_answers.specs.CupTexts.{cup_line_row}
use Rattle.cup_text.proofs.CupPrintedLemmas.{cup_printed}
use Rattle.cup_grammar.specs.declared.token.CupToken.{CupToken}
use Rattle.cup_grammar.specs.declared.token.CupToken.TheVariants.{Blank, Row, Proof, Unknown}
use Rattle.cup_grammar.specs.CupReports.{cup_token_of, cup_token_of_row}
use Rattle.cup_grammar.specs.CupReports.{token_of_cup_line}
use Rattle.report_laws.proofs.CupLineBackLemmas.{cup_line_in-written}
use Rattle.report_laws.proofs.RowSizeLemmas.{ask_row-size, verdict_row-size}

-- ---- one line

-- the bytes of a line of an answer: a row as csv writes it, or a proof line with its line feed
abbrev pub cup_written : CupToken → List ℕ
cup_written Blank = []
cup_written (Row fields) = text_of_row fields
cup_written (Proof it) = cup_line_row it
cup_written Unknown = []

-- a line that was written, no longer than a line may be: its bytes before the line feed, which are
-- read as the line
pub record HasCupBody (told : CupToken) : Type 0 where
  pub body : List ℕ
  pub bytes : cup_written told ≡ body ++ 10 ∷ []
  pub within : are_within_line body ≡ true
  pub kept : is_skipped body ≡ false
  pub token : cup_token_of body ≡ told
  pub short : length (cup_written told) ≤ 1025

-- so is each of these
abbrev pub HaveCupBodies : List CupToken → Type 0
HaveCupBodies [] = Unit {0}
HaveCupBodies (first ∷ told) = HasCupBody first × HaveCupBodies told

pub bodies-append : (front back : List CupToken) → HaveCupBodies front → HaveCupBodies back
    → HaveCupBodies (front ++ back)
bodies-append [] back one two = two
bodies-append (first ∷ front) back one two = (one.0, bodies-append front back one.1 two)

-- what a report on a league reads as a row, a report on a cup does
as_cup_row : (body : List ℕ) (fields : List (List ℕ)) → token_of body ≡ league.Row fields
    → cup_token_of body ≡ Row fields
as_cup_row body fields is = by_test (begins_proof body) is
  where
    no_row : (found : Option WideLine) → token_of_line found ≡ league.Row fields → ⊥
    no_row None is = cc
    no_row (Some (wide.Plain line)) is = cc
    no_row (Some (wide.Near rival)) is = cc
    no_row (Some (wide.NewNear rival)) is = cc

    by_test : (proof : Bool)
        → (if proof then token_of_line (wide_line_in body) else token_of_row body)
        ≡ league.Row fields
        → (if proof then token_of_cup_line (cup_line_in body)
        else cup_token_of_row (token_of_row body)) ≡ Row fields
    by_test true is = absurd (no_row (wide_line_in body) is)
    by_test false is = ap cup_token_of_row is

-- the row of the ask
pub ask-body : (epoch : ℕ) → epoch < 2 ^ 64 → HasCupBody (Row (ask_fields epoch))
ask-body epoch small =
    let has = (bodies_of (league.Row (ask_fields epoch) ∷ []) (inl (epoch, small, refl), tt)).0 in
    record {
      body = has.body;
      bytes = has.bytes;
      within = has.within;
      kept = has.kept;
      token = as_cup_row has.body (ask_fields epoch) has.token;
      short = omega (arith, ask_row-size epoch small);
    }

-- the row of a club
pub verdict-body : (quota : ℕ) (name : List ℕ) (said : RowWord) → quota < 2 ^ 64
    → IsRowName name → HasCupBody (Row (verdict_fields quota name said))
verdict-body quota name said small named =
    let has = (bodies_of (league.Row (verdict_fields quota name said) ∷ [])
    (inr (quota, name, said, small, named.within, refl), tt)).0 in
    record {
      body = has.body;
      bytes = has.bytes;
      within = has.within;
      kept = has.kept;
      token = as_cup_row has.body (verdict_fields quota name said) has.token;
      short = omega (arith, verdict_row-size quota name said small named.short);
    }

-- a proof line has no more bytes than this
abbrev is_short_line : CupLine → Bool
is_short_line line = nat_le (length (text_of_cup_line line)) 1000

-- a proof line
line-body : (line : CupLine) → is_cup_line line ≡ true → is_short_line line ≡ true
    → HasCupBody (Proof line)
line-body line known few = record {
  body = text_of_cup_line line;
  bytes = refl;
  within = printed_bytes (text_of_cup_line line) (cup_printed line known);
  kept = kept (cup_parts_of line) (cup_key_of line);
  token = opens (cup_parts_of line) (cup_key_of line)
      ∙ ap token_of_cup_line (cup_line_in-written line known);
  short =
      omega (
        arith,
        leb-true (length (text_of_cup_line line)) 1000 few,
        length-append (text_of_cup_line line) (10 ∷ []),
      );
}
  where
    kept : (parts : List Part) (key : Option CupKey) → is_skipped (text_with_key parts key) ≡ false
    kept parts None = refl
    kept parts (Some key) = refl

    opens : (parts : List Part) (key : Option CupKey)
        → cup_token_of (text_with_key parts key)
        ≡ token_of_cup_line (cup_line_in (text_with_key parts key))
    opens parts None = refl
    opens parts (Some key) = refl

-- proof lines
pub line-bodies : (lines : List CupLine) → list_all is_cup_line lines ≡ true
    → list_all is_short_line lines ≡ true → HaveCupBodies (map Proof lines)
line-bodies [] known few = tt
line-bodies (line ∷ lines) known few =
    let parts = and_parts (is_cup_line line) (list_all is_cup_line lines) known in
    let sizes = and_parts (is_short_line line) (list_all is_short_line lines) few in
    (line-body line parts.0 sizes.0, line-bodies lines parts.1 sizes.1)
