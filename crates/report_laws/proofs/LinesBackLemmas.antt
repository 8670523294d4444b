-- The bytes of an answer of a cup are cut into the lines that were written, each read as it was.
use Rattle.std.proofs.Common.{◌≡◌, ◌≢◌, ℕ, ◌-◌, Bool, true, false, not, ◌&&◌, ◌==◌, cond}
use Rattle.std.proofs.Common.{List, [], ◌∷◌, ◌++◌, length, map, take, Option, Some, None, Ok, refl}
use Rattle.std.proofs.Common.{sym, ap, ◌∙◌, append_assoc, arith, Result}
use Rattle.std.specs.Prelude.{nat_eq, is_ok}
use Rattle.std.specs.List.{ends_with, flat_map}
use Rattle.std.proofs.lemmas.Bool.{and_parts, false≢true, ne_eqb}
use Rattle.std.proofs.lemmas.Bool.{false_from_ne_true}
use Rattle.std.proofs.lemmas.Bool.Decides.{Decides-eqb}
use Rattle.std.proofs.lemmas.Slice.Eq.{ends_is}
use Rattle.port_core.specs.declared.line.ReadStop.{ReadStop}
use Rattle.port_core.specs.Lines.{lines_of, text_of_line, onto_first}
use Rattle.port_core.specs.Contents.{Contents, Position, content_at, contents_by, contents_from}
use Rattle.port_core.specs.Contents.{is_skipped, line_stop, number_at, position_after, with_line}
use Rattle.port_core.specs.Contents.{without_mark, without_return}
use Rattle.kept_lines.specs.LineLists.{numbered}
use Rattle.league_core.proofs.plain.Lists.{list_all-last}
use Rattle.report_lines.specs.inside.WrittenReports.{is_within_line, are_within_line}
use Rattle.cup_grammar.specs.declared.token.CupToken.{CupToken}
use Rattle.cup_grammar.specs.CupReports.{cup_tokens_of}
use Rattle.report_laws.proofs.CupBodyLemmas.{HaveCupBodies, cup_written}

-- ---- one line among bytes

-- the bytes up to a line feed are a line
lines_of-line : (body rest : List ℕ) → are_within_line body ≡ true
    → lines_of (body ++ 10 ∷ rest) ≡ (body ++ 10 ∷ []) ∷ lines_of rest
lines_of-line [] rest within = refl
lines_of-line (byte ∷ body) rest within =
    let parts = and_parts (is_within_line byte) (are_within_line body) within in
    no_feed (byte == 10) (byte == 13) parts.0
    ∙ ap (onto_first byte) (lines_of-line body rest parts.1)
  where
    no_feed : (feed return : Bool) → (not feed && not return) ≡ true
        → cond feed ((byte ∷ []) ∷ lines_of (body ++ 10 ∷ rest))
        (onto_first byte (lines_of (body ++ 10 ∷ rest)))
        ≡ onto_first byte (lines_of (body ++ 10 ∷ rest))
    no_feed true return is = absurd (false≢true is)
    no_feed false return is = refl

text_of_line-body : (body : List ℕ) → are_within_line body ≡ true
    → text_of_line (body ++ 10 ∷ []) ≡ body
text_of_line-body [] within = refl
text_of_line-body (byte ∷ body) within =
    let parts = and_parts (is_within_line byte) (are_within_line body) within in
    no_feed (byte == 10) (byte == 13) parts.0
    ∙ ap (λ rest. byte ∷ rest) (text_of_line-body body parts.1)
  where
    no_feed : (feed return : Bool) → (not feed && not return) ≡ true
        → cond feed [] (byte ∷ text_of_line (body ++ 10 ∷ []))
        ≡ byte ∷ text_of_line (body ++ 10 ∷ [])
    no_feed true return is = absurd (false≢true is)
    no_feed false return is = refl

-- no carriage return is taken off it
no_return_taken : (body : List ℕ) → are_within_line body ≡ true → without_return body ≡ body
no_return_taken body within =
    ap (λ b. cond b (take (length body - 1) body) body)
    (false_from_ne_true (ends_with nat_eq body (13 ∷ []))
    (λ ends.
    let is = (ends_is Decides-eqb body (13 ∷ [])
    (ends_with nat_eq body (13 ∷ [])) refl).0 ends in
    false≢true (list_all-last is_within_line (take (length body - 1) body) 13
    (ap are_within_line (sym is) ∙ within))))

content_is : (position : Position) (body : List ℕ) → position.lines ≢ 0
    → are_within_line body ≡ true → content_at position (text_of_line (body ++ 10 ∷ [])) ≡ body
content_is position body behind within =
    ap (λ b. cond b (without_mark (without_return (text_of_line (body ++ 10 ∷ []))))
    (without_return (text_of_line (body ++ 10 ∷ [])))) (ne_eqb position.lines 0 behind)
    ∙ ap without_return (text_of_line-body body within)
    ∙ no_return_taken body within

-- ---- line by line

-- the next line is given, if the reading comes to the end
given_first : (stop : Option ReadStop) (skipped : Bool) (number : ℕ) (body : List ℕ)
    (rest : Contents) (lines : List (ℕ × List ℕ)) (end : ℕ) → skipped ≡ false
    → contents_by stop (cond skipped rest (with_line number body rest))
    ≡ record { lines = lines; ending = Ok end }
    → with_line number body rest ≡ record { lines = lines; ending = Ok end }
given_first (Some stop) skipped number body rest lines end kept is =
    let ending : Result ℕ ReadStop = Ok end in
    absurd (false≢true (ap (λ (c : Contents). is_ok c.ending) is))
given_first None true number body rest lines end kept is = absurd (false≢true (sym kept))
given_first None false number body rest lines end kept is = is

-- the lines of a report are those that were written
pub cup_written_back : (told : List CupToken) (position : Position) (lines : List (ℕ × List ℕ))
    (end : ℕ) → HaveCupBodies told → position.lines ≢ 0
    → contents_from position (lines_of (flat_map cup_written told))
    ≡ record { lines = lines; ending = Ok end }
    → cup_tokens_of (map numbered lines) ≡ told
cup_written_back [] position lines end have behind is =
    ap (λ (all : List (ℕ × List ℕ)). cup_tokens_of (map numbered all))
    (sym (ap (λ (c : Contents). c.lines) is))
cup_written_back (first ∷ told) position lines end have behind is =
    let has = have.0 in
    let bytes = flat_map cup_written told in
    let line = has.body ++ 10 ∷ [] in
    let number = number_at position in
    let next = position_after position (length line) in
    let rest = contents_from next (lines_of bytes) in
    let cut : lines_of (cup_written first ++ bytes) ≡ line ∷ lines_of bytes =
    ap lines_of (ap (λ front. front ++ bytes) has.bytes
    ∙ append_assoc has.body (10 ∷ []) bytes)
    ∙ lines_of-line has.body bytes has.within in
    let content = content_is position has.body behind has.within in
    let given = given_first (line_stop position line)
    (is_skipped (content_at position (text_of_line line))) number
    (content_at position (text_of_line line)) rest lines end (ap is_skipped content ∙ has.kept)
    (sym (ap (contents_from position) cut) ∙ is) in
    let read : with_line number has.body rest ≡ record { lines = lines; ending = Ok end } =
    sym (ap (λ (text : List ℕ). with_line number text rest) content) ∙ given in
    let later = cup_written_back told next rest.lines end have.1 (λ e. omega (arith, e))
    (λ i. record { lines = rest.lines; ending = (read i).ending }) in
    ap (λ (all : List (ℕ × List ℕ)). cup_tokens_of (map numbered all))
    (sym (ap (λ (c : Contents). c.lines) read))
    ∙ (λ i. has.token i ∷ later i)
