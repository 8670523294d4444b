-- An answer that goes out part by part: each part is a text of its kind, and the whole is made of
-- them.
use Rattle.std.proofs.Common.{◌≡◌, inl, inr, ℕ, List, [], ◌∷◌, ◌++◌, Option, Result, Ok, Err, refl}
use Rattle.std.proofs.Common.{sym, ap, ◌∙◌, subst}
use Rattle.std.specs.Io.KnownBytes.{append_known}
use Rattle.std.proofs.lemmas.List.{append-nil}
use Rattle.port_core.specs.Ports.{AppendsPrefix}
use Rattle.answer_rows.specs.declared.output.OutputStop.{OutputStop}
use Rattle.answer_rows.specs.declared.output.OutputStop.TheVariants.{WriteFault, OutOfMemory}
use Rattle.answer_rows.specs.Parts.{IsMadeOf}
use Rattle.answer_rows.specs.inside.Outputs.{Puts, PutsSomeText, PutsSomePrefix}
use Rattle.answer_rows.proofs.OutputLemmas.{front-more, puts-behind}
use Rattle.league_core.proofs.plain.Streams.{append_known-append_known}

-- a text that is one of this kind went out, or a prefix of it
pub puts_some : {A : Type 0} (IsText : List ℕ → Type 0) (text : List ℕ) (old now : Option (List ℕ))
    (result : Result A OutputStop) → IsText text → Puts text old now result
    → PutsSomeText IsText old now result
puts_some {A} IsText text old now (Ok done) is puts = (text, is, puts)
puts_some {A} IsText text old now (Err WriteFault) is puts = (text, is, puts)
puts_some {A} IsText text old now (Err OutOfMemory) is puts = inr (text, is, puts)

-- a prefix after a whole text
prefix_behind : (first second : List ℕ) (old mid now : Option (List ℕ))
    → mid ≡ append_known old first → AppendsPrefix mid now second
    → AppendsPrefix old now (first ++ second)
prefix_behind first second old mid now before prefix =
    puts-behind {A = ℕ} first second old mid now (Err WriteFault) before prefix

-- the first part went out, and then the others, or a prefix of them
pub puts_first : {A X : Type 0} (IsPart : X → List ℕ → Type 0) (x : X) (xs : List X)
    (old mid now : Option (List ℕ)) (result : Result A OutputStop)
    → (text : List ℕ) × IsMadeOf IsPart xs text
    → (text : List ℕ) × IsPart x text × (mid ≡ append_known old text)
    → PutsSomeText (IsMadeOf IsPart xs) mid now result
    → PutsSomeText (IsMadeOf IsPart (x ∷ xs)) old now result
puts_first {A} {X} IsPart x xs old mid now (Ok done) there first puts = (
  first.0 ++ puts.0,
  (first.0, puts.0, refl, first.1, puts.1),
  puts.2 ∙ ap (λ known. append_known known puts.0) first.2
      ∙ append_known-append_known old first.0 puts.0,
)
puts_first {A} {X} IsPart x xs old mid now (Err WriteFault) there first puts = (
  first.0 ++ puts.0,
  (first.0, puts.0, refl, first.1, puts.1),
  prefix_behind first.0 puts.0 old mid now first.2 puts.2,
)
puts_first {A} {X} IsPart x xs old mid now (Err OutOfMemory) there first (inl same) = inr (
  first.0 ++ there.0,
  (first.0, there.0, refl, first.1, there.1),
  front-more first.0 there.0 old now
      (first.0, ([], append-nil first.0), same ∙ first.2),
)
puts_first {A} {X} IsPart x xs old mid now (Err OutOfMemory) there first (inr puts) = inr (
  first.0 ++ puts.0,
  (first.0, puts.0, refl, first.1, puts.1),
  prefix_behind first.0 puts.0 old mid now first.2 puts.2,
)

-- a prefix of the first part is one of all
prefix_of_first : {X : Type 0} (IsPart : X → List ℕ → Type 0) (x : X) (xs : List X)
    (old now : Option (List ℕ)) → (text : List ℕ) × IsMadeOf IsPart xs text
    → PutsSomePrefix (IsPart x) old now → PutsSomePrefix (IsMadeOf IsPart (x ∷ xs)) old now
prefix_of_first {X} IsPart x xs old now there puts = (
  puts.0 ++ there.0,
  (puts.0, there.0, refl, puts.1, there.1),
  front-more puts.0 there.0 old now puts.2,
)

-- the first part did not go out whole
pub stops_first : {A X : Type 0} (IsPart : X → List ℕ → Type 0) (x : X) (xs : List X)
    (old now : Option (List ℕ)) (result : Result A OutputStop) (stop : OutputStop)
    → result ≡ Err stop → (text : List ℕ) × IsMadeOf IsPart xs text
    → PutsSomeText (IsPart x) old now result
    → PutsSomeText (IsMadeOf IsPart (x ∷ xs)) old now result
stops_first {A} {X} IsPart x xs old now (Ok done) stop is there puts = absurd (cc)
stops_first {A} {X} IsPart x xs old now (Err WriteFault) stop is there puts =
    prefix_of_first IsPart x xs old now there puts
stops_first {A} {X} IsPart x xs old now (Err OutOfMemory) stop is there (inl same) = inl same
stops_first {A} {X} IsPart x xs old now (Err OutOfMemory) stop is there (inr puts) =
    inr (prefix_of_first IsPart x xs old now there puts)

-- the last part
pub puts_last : {A X : Type 0} (IsPart : X → List ℕ → Type 0) (x : X) (old now : Option (List ℕ))
    (result : Result A OutputStop) → PutsSomeText (IsPart x) old now result
    → PutsSomeText (IsMadeOf IsPart (x ∷ [])) old now result
puts_last {A} {X} IsPart x old now (Ok done) puts =
    (puts.0, (puts.0, [], sym (append-nil puts.0), puts.1, refl), puts.2)
puts_last {A} {X} IsPart x old now (Err stop) puts =
    stops_first {A = A} IsPart x [] old now (Err stop) stop refl ([], refl) puts

-- what is so of a call's result is so of the stop that it is
pub puts_as : {A : Type 0} (IsText : List ℕ → Type 0) (old now : Option (List ℕ))
    (result : Result A OutputStop) (stop : OutputStop) → result ≡ Err stop
    → PutsSomeText IsText old now result → PutsSomeText {A = A} IsText old now (Err stop)
puts_as {A} IsText old now result stop is puts =
    subst (λ (r : Result A OutputStop). PutsSomeText IsText old now r) is puts
