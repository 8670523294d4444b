-- A text without LF and CR is one record for csv: no byte of it ends a record, so that nothing is
-- left after the one that is read.
use Rattle.std.proofs.Common.{◌≡◌, ◌≢◌, ◌==◌, ◌||◌, ℕ, Bool, true, false, cond, List, [], ◌∷◌, ◌++◌}
use Rattle.std.proofs.Common.{Some, None, refl, sym, ap, ◌∙◌}
use Rattle.std.specs.List.{list_any}
use Rattle.std.proofs.lemmas.Bool.{ne_eqb, or_parts, or_from}
use Rattle.std.proofs.lemmas.Option.{same_Some}
use Rattle.std.proofs.lemmas.List.Elements.{All-head, All-tail}
use Rattle.csv.specs.Machine.{Read, after_end, ends_with, ends_at_end, field_after, fields_after}
use Rattle.csv.specs.Machine.{in_field, is_end, next_record, start_field, start_record, step}
use Rattle.csv.specs.Reading.{default_config, is_bom, strip_bom}
use Rattle.csv.specs.declared.parser.State.{State}
use Rattle.csv.specs.declared.parser.State.TheVariants as state
use Rattle.csv.specs.declared.parser.Action.{Action}
use Rattle.csv.specs.declared.parser.Action.TheVariants as action
use Rattle.csv.specs.declared.parser.Terminator.TheVariants as terminator
use Rattle.port_core.specs.Lines.{HasNoLineFeed}
use Rattle.fixture_sheet.specs.inside.Laws.{LinesAreOneRecord}
use Rattle.league_core.proofs.plain.Lists.{list_any-cond}

-- of two choices neither ends a record
goes-if : (test : Bool) (x y : State × Action) → is_end x.1 ≡ false → is_end y.1 ≡ false
    → is_end (cond test x y).1 ≡ false
goes-if true x y first second = first
goes-if false x y first second = second

-- the test does not pass
goes-else : (test : Bool) (x y : State × Action) → test ≡ false → is_end y.1 ≡ false
    → is_end (cond test x y).1 ≡ false
goes-else test x y fails second = ap (λ b. is_end (cond b x y).1) fails ∙ second

module _ (byte : ℕ) (return : (byte == 13) ≡ false) (feed : (byte == 10) ≡ false) where
  -- the byte ends no record
  no-end : ends_with terminator.CRLF byte ≡ false
  no-end = or_from (byte == 13) (byte == 10) return feed

  in_field-goes : is_end (in_field default_config byte).1 ≡ false
  in_field-goes =
      goes-if (byte == 44) (state.StartField, action.EndField) _ refl
      (goes-else (ends_with terminator.CRLF byte)
      (after_end terminator.CRLF byte, action.EndRecord) (state.InField, action.Copy) no-end refl)

  start_field-goes : is_end (start_field default_config byte).1 ≡ false
  start_field-goes =
      goes-if (byte == 34) (state.InQuoted, action.Skip) (in_field default_config byte) refl
      in_field-goes

  start_record-goes : is_end (start_record default_config byte).1 ≡ false
  start_record-goes =
      goes-else (ends_with terminator.CRLF byte) (state.StartRecord, action.Skip)
      (start_field default_config byte) no-end start_field-goes

  -- whatever came before, the reading of the record goes on
  step-goes : (s : State) → is_end (step default_config s byte).1 ≡ false
  step-goes state.StartRecord = start_record-goes
  step-goes state.StartField = start_field-goes
  step-goes state.InField = in_field-goes
  step-goes state.InQuoted =
      goes-if (byte == 34) (state.AfterQuote, action.Skip) (state.InQuoted, action.Copy) refl refl
  step-goes state.InEscape = refl
  step-goes state.AfterQuote =
      goes-if (byte == 34) (state.InQuoted, action.Copy) (in_field default_config byte) refl
      in_field-goes
  step-goes state.InComment =
      goes-if (byte == 10) (state.StartRecord, action.Skip) (state.InComment, action.Skip) refl refl
  step-goes state.AfterCr =
      goes-if (byte == 10) (state.StartRecord, action.Skip) (start_record default_config byte) refl
      start_record-goes

-- the end of a text leaves nothing after it
at-end : (ends : Bool) (fields : List (List ℕ)) (read : Read)
    → cond ends (Some (fields, state.StartRecord, [])) None ≡ Some read → read.2 ≡ []
at-end true fields read is =
    ap (λ (found : Read). found.2) (sym (same_Some (fields, state.StartRecord, []) read is))
at-end false fields read is = absurd (cc)

-- a text without LF and CR is read to its end
read-whole : (text : List ℕ) → list_any (λ byte. byte == 13) text ≡ false
    → list_any (λ byte. byte == 10) text ≡ false
    → (s : State) (fields : List (List ℕ)) (field : List ℕ) (read : Read)
    → next_record default_config s fields field text ≡ Some read → read.2 ≡ []
unfolding next_record
read-whole [] returns feeds s fields field read is =
    at-end (ends_at_end s) (fields ++ (field ∷ [])) read is
read-whole (byte ∷ rest) returns feeds s fields field read is =
    let return = or_parts (byte == 13) (list_any (λ other. other == 13) rest) returns in
    let feed = or_parts (byte == 10) (list_any (λ other. other == 10) rest) feeds in
    let next = step default_config s byte in
    read-whole rest return.1 feed.1 next.0 (fields_after next.1 fields field)
    (field_after next.1 byte field) read
    (sym (ap (λ ends. cond ends (Some (fields_after next.1 fields field, next.0, rest))
    (next_record default_config next.0 (fields_after next.1 fields field)
    (field_after next.1 byte field) rest)) (step-goes byte return.0 feed.0 s)) ∙ is)

-- a text without such a byte has none without its mark either
strip_bom-none : (p : ℕ → Bool) (text : List ℕ) → list_any p text ≡ false
    → list_any p (strip_bom text) ≡ false
unfolding strip_bom
strip_bom-none p [] none = none
strip_bom-none p (a ∷ []) none = none
strip_bom-none p (a ∷ b ∷ []) none = none
strip_bom-none p (a ∷ b ∷ c ∷ rest) none =
    let first = or_parts (p a) (p b || (p c || list_any p rest)) none in
    let second = or_parts (p b) (p c || list_any p rest) first.1 in
    let third = or_parts (p c) (list_any p rest) second.1 in
    list_any-cond p (is_bom a b c) rest (a ∷ b ∷ c ∷ rest) third.1 none

-- no byte of the text is an LF
no_line_feed : (text : List ℕ) → HasNoLineFeed text → list_any (λ byte. byte == 10) text ≡ false
no_line_feed [] none = refl
no_line_feed (byte ∷ bytes) none =
    or_from (byte == 10) (list_any (λ other. other == 10) bytes)
    (ne_eqb byte 10 (All-head (λ other. other ≢ 10) byte bytes none))
    (no_line_feed bytes (All-tail (λ other. other ≢ 10) byte bytes none))

pub lines_are_one_record : LinesAreOneRecord
lines_are_one_record text no_feed no_return read is =
    read-whole (strip_bom text) (strip_bom-none (λ byte. byte == 13) text no_return)
    (strip_bom-none (λ byte. byte == 10) text (no_line_feed text no_feed))
    state.StartRecord [] [] read is
