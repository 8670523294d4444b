-- The words of the command: what clap makes of them, and numbers of up to 20 digits.
use Rattle.std.proofs.Common.{◌≡◌, ℕ, ◌^◌, ◌<◌, Bool, true, false, ◌&&◌, nat_le, List, [], ◌∷◌}
use Rattle.std.proofs.Common.{length, Option, Some, None, option_and_then, Result, Ok, Err, refl}
use Rattle.std.proofs.Common.{ap, sym, ◌∙◌, subst, arith, inl, inr}
use Rattle.std.specs.List.{list_all}
use Rattle.std.specs.Char.{is_ascii_digit}
use Rattle.std.specs.Str.Parse.{digits_value, ParsesUnsigned}
use Rattle.std.proofs.lemmas.Str.Parse.{parse_gives}
use Rattle.std.proofs.lemmas.Bool.{and_parts, leb-true}
use Rattle.clap.specs.Words.{App, Kinds, Row, Text, IsAmong, HasKind, kind_of, fault_of, is_simple}
use Rattle.clap.specs.Words.{is_simple_and_free, matches_of}
use Rattle.clap.specs.declared.error.Error.{Error}
use Rattle.clap.specs.declared.error.kind.ErrorKind.TheVariants as kind
use Rattle.clap.proofs.OnLiterals.{clap_on_literals}
use Rattle.command_words.specs.Commands.{app, unless_fault, rows_taken, is_numeral}
use Rattle.command_words.specs.Commands.{is_number_within, command_in, command_of}
use Rattle.league_core.proofs.plain.TruthValues.{and-false}
use Rattle.league_core.proofs.plain.Texts.{numerals}

-- ---- clap

-- the words are ones of which clap says what it takes
app_is_simple : is_simple app ≡ true
unfolding clap_on_literals app
app_is_simple = refl

app_is_free : is_simple_and_free app ≡ true
unfolding clap_on_literals app
app_is_free = refl

-- nothing is a fault, so the rows are taken
taken-fine : (words : List Text) (rows : List Row) → rows ≡ matches_of app words
    → fault_of app words ≡ [] → Some rows ≡ rows_taken words
unfolding rows_taken
taken-fine words rows are fine =
    ap Some are ∙ ap (λ faults. unless_fault faults (matches_of app words)) (sym fine)

-- a fault is there, so none are
taken-fault : (words : List Text) (faults : Kinds) (e : Error) → IsAmong (kind_of e) faults
    → fault_of app words ≡ faults → None ≡ rows_taken words
unfolding rows_taken
taken-fault words [] e among is = absurd among
taken-fault words (fault ∷ faults) e among is =
    ap (λ faults. unless_fault faults (matches_of app words)) (sym is)

-- the rows of a parse that succeeds
pub parsed-rows : {X : Type 0} (made : App) (words : List Text) (rows : List Row) → made ≡ app
    → (is_simple made ≡ true → (rows ≡ matches_of made words) × X)
    → (is_simple_and_free made ≡ true → fault_of made words ≡ []) → Some rows ≡ rows_taken words
parsed-rows {X} made words rows is matches fails =
    taken-fine words rows
    ((matches (ap is_simple is ∙ app_is_simple)).0 ∙ ap (λ a. matches_of a words) is)
    (sym (ap (λ a. fault_of a words) is) ∙ fails (ap is_simple_and_free is ∙ app_is_free))

refused_by : (words : List Text) (e : Error) → (kind_of e ≡ kind.OutOfMemory → ⊥)
    → HasKind (fault_of app words) e → None ≡ rows_taken words
refused_by words e not_memory (inl memory) = absurd (not_memory memory)
refused_by words e not_memory (inr among) = taken-fault words (fault_of app words) e among refl

-- one that fails, and not since memory ran out, has none
pub refused-rows : (made : App) (words : List Text) (e : Error) → made ≡ app
    → (kind_of e ≡ kind.OutOfMemory → ⊥)
    → (is_simple_and_free made ≡ true → HasKind (fault_of made words) e) → None ≡ rows_taken words
refused-rows made words e is not_memory fails =
    let P : App → Type 0 = λ a. HasKind (fault_of a words) e in
    refused_by words e not_memory
    (subst P is (fails (ap is_simple_and_free is ∙ app_is_free)))

-- the command is that of the rows taken
pub command_of-taken : (words : List Text) (rows : Option (List Row)) → rows ≡ rows_taken words
    → command_of words ≡ option_and_then command_in rows
unfolding command_of
command_of-taken words rows are = ap (option_and_then command_in) (sym are)

-- ---- numbers

-- a value past the range is not within it
value-past : (value most : ℕ) (test : Bool) → (value < 2 ^ 64 → ⊥) → most < 2 ^ 64
    → nat_le value most ≡ test → test ≡ false
value-past value most true past room is = absurd
    (past (omega (arith, leb-true value most is, room)))
value-past value most false past room is = refl

-- digits that are no number of 64 bits are within no range of such numbers
pub past-range : {E : Type 0} (text : List ℕ) (e : E) (least most : ℕ)
    → ParsesUnsigned 64 10 text (Err e) → is_numeral text ≡ true → most < 2 ^ 64
    → false ≡ is_number_within least most text
past-range {E} text e least most parses numeral room =
    let parts = and_parts (nat_le 1 (length text) && nat_le (length text) 20)
    (list_all is_ascii_digit text) numeral in
    let some = leb-true 1 (length text)
    (and_parts (nat_le 1 (length text)) (nat_le (length text) 20) parts.0).0 in
    let R : Type 0 = Result ℕ E in
    let past : digits_value 10 text < 2 ^ 64 → ⊥ = λ few.
    let bad : ◌≡◌ {A = R} (Err e) (Ok (digits_value 10 text)) =
    parse_gives numerals 64 text (Err e) parses parts.1 (omega (arith, some)) few in cc in
    let large = value-past (digits_value 10 text) most (nat_le (digits_value 10 text) most) past
    room refl in
    and-false (is_numeral text && nat_le least (digits_value 10 text))
    ∙ ap (λ test. is_numeral text && nat_le least (digits_value 10 text) && test) (sym large)
