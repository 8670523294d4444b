-- Bytes that end no line: those of names, of numbers and of printed text.
use Rattle.std.proofs.Common.{◌≡◌, ◌≢◌, ℕ, zero, suc, ◌+◌, ◌<◌, ◌≤◌, ◌%◌, ◌^◌, Bool, true, not}
use Rattle.std.proofs.Common.{◌&&◌, ◌==◌, nat_le, nat_lt, List, [], ◌∷◌, map, length, get_or}
use Rattle.std.proofs.Common.{refl, sym, ap, ◌∙◌, arith}
use Rattle.std.specs.Prelude.{decimal}
use Rattle.std.specs.List.{list_all}
use Rattle.std.proofs.lemmas.Bool.{and_parts, and_from, eq-eqb, ne_eqb, false≢true, leb-true}
use Rattle.std.proofs.lemmas.Fmt.{decimal_by_steps}
use Rattle.std.proofs.lemmas.List.Elements.{All-nil, All-cons}
use Rattle.league_core.specs.declared.sheet.Club.{Club}
use Rattle.league_core.specs.game.Sheets.{is_club, is_name, is_name_byte}
use Rattle.port_core.specs.Lines.{HasNoLineFeed}
use Rattle.cert_text.specs.Lines.{is_printed}
use Rattle.report_lines.specs.inside.WrittenReports.{is_within_line, are_within_line}
use Rattle.report_lines.proofs.RowBackLemmas.{append_within}

-- no LF stands within a line
pub no_feed : (body : List ℕ) → are_within_line body ≡ true → HasNoLineFeed body
no_feed [] within = All-nil (λ byte. byte ≢ 10)
no_feed (byte ∷ body) within =
    let parts = and_parts (is_within_line byte) (are_within_line body) within in
    let tests = and_parts (not (byte == 10)) (not (byte == 13)) parts.0 in
    All-cons (λ b. b ≢ 10) byte body
    (λ same. false≢true (ap not (sym (eq-eqb byte 10 same)) ∙ tests.0))
    (no_feed body parts.1)

-- a byte that is no control byte is neither an LF nor a CR
high_byte : (byte : ℕ) → 32 ≤ byte → is_within_line byte ≡ true
high_byte byte least =
    and_from (not (byte == 10)) (not (byte == 13))
    (ap not (ne_eqb byte 10 (λ same. omega (arith, least, same))))
    (ap not (ne_eqb byte 13 (λ same. omega (arith, least, same))))

high_bytes : (test : ℕ → Bool) → ((byte : ℕ) → test byte ≡ true → 32 ≤ byte)
    → (bytes : List ℕ) → list_all test bytes ≡ true → are_within_line bytes ≡ true
high_bytes test high [] all = refl
high_bytes test high (byte ∷ bytes) all =
    let parts = and_parts (test byte) (list_all test bytes) all in
    and_from (is_within_line byte) (are_within_line bytes)
    (high_byte byte (high byte parts.0)) (high_bytes test high bytes parts.1)

-- printed text
pub printed_bytes : (bytes : List ℕ) → list_all is_printed bytes ≡ true
    → are_within_line bytes ≡ true
printed_bytes =
    high_bytes is_printed
    (λ byte is. leb-true 32 byte (and_parts (nat_le 32 byte) (nat_lt byte 127) is).0)

-- a number
pub number_bytes : (n : ℕ) → n < 2 ^ 64 → are_within_line (decimal n) ≡ true
number_bytes = decimal_by_steps (λ n digits. are_within_line digits ≡ true)
    (λ n small. digit n)
    (λ n digits large within. append_within digits ((48 + n % 10) ∷ []) within (digit (n % 10)))
  where
    digit : (n : ℕ) → are_within_line ((48 + n) ∷ []) ≡ true
    digit n = and_from (is_within_line (48 + n)) true (high_byte (48 + n) (omega arith)) refl

-- a name that a row may have
pub record IsRowName (name : List ℕ) : Type 0 where
  pub within : are_within_line name ≡ true
  pub short : length name ≤ 40

row_name : (club : Club) → is_club club ≡ true → IsRowName club.name
row_name club is =
    let front = and_parts (is_name club.name && nat_le 1 club.rank) (nat_le club.rank 999) is in
    let named = (and_parts (is_name club.name) (nat_le 1 club.rank) front.0).0 in
    let parts = and_parts (nat_le 1 (length club.name) && nat_le (length club.name) 40)
    (list_all is_name_byte club.name) named in
    let sizes = and_parts (nat_le 1 (length club.name)) (nat_le (length club.name) 40) parts.0 in
    record {
      within = high_bytes is_name_byte
          (λ byte is. leb-true 32 byte (and_parts (nat_le 32 byte) (not (byte == 127)) is).0)
          club.name parts.1;
      short = leb-true (length club.name) 40 sizes.1;
    }

-- the name of each club of a sheet is one
pub names_fit : (clubs : List Club) (club : ℕ) → list_all is_club clubs ≡ true
    → IsRowName (get_or (map (λ (it : Club). it.name) clubs) club [])
names_fit [] club all = record { within = refl; short = omega arith }
names_fit (first ∷ clubs) zero all =
    row_name first (and_parts (is_club first) (list_all is_club clubs) all).0
names_fit (first ∷ clubs) (suc club) all =
    names_fit clubs club (and_parts (is_club first) (list_all is_club clubs) all).1
