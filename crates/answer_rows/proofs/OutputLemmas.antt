-- Answers that go out row by row.
use Rattle.std.proofs.Common.{◌≡◌, ℕ, suc, ◌+◌, ◌<◌, List, ◌++◌, length, drop, get_or, Option}
use Rattle.std.proofs.Common.{Result, Ok, Err, ap, sym, ◌∙◌, add-one}
use Rattle.std.specs.Io.KnownBytes.{append_known}
use Rattle.std.specs.List.{flat_map}
use Rattle.std.proofs.Math.Seq.{drop-cons}
use Rattle.std.proofs.lemmas.List.{append_assoc}
use Rattle.port_core.specs.Ports.{AppendsPrefix}
use Rattle.answer_rows.specs.declared.output.OutputStop.{OutputStop}
use Rattle.answer_rows.specs.inside.Outputs.{Puts}
use Rattle.league_core.proofs.plain.Streams.{append_known-append_known}

-- of a text some part was written, and the rest is due
pub record IsDue (text rest : List ℕ) (old now : Option (List ℕ)) : Type 0 where
  pub part : List ℕ
  pub split : text ≡ part ++ rest
  pub known : now ≡ append_known old part

-- the text of the next of the elements that are left
pub text-next : {X : Type 0} (text : X → List ℕ) (all : List X) (i : ℕ) (none one : X)
    → i < length all → one ≡ get_or all i none
    → flat_map text (drop i all) ≡ text one ++ flat_map text (drop (i + 1) all)
text-next {X} text all i none one inside is =
    ap (flat_map text) (drop-cons all i none inside)
    ∙ ap (λ x. text x ++ flat_map text (drop (suc i) all)) (sym is)
    ∙ ap (λ n. text one ++ flat_map text (drop n all)) (sym (add-one i))

-- a piece more was written
pub due-more : (text rest piece after : List ℕ) (old now next : Option (List ℕ))
    → IsDue text rest old now → rest ≡ piece ++ after → next ≡ append_known now piece
    → IsDue text after old next
due-more text rest piece after old now next due is puts = record {
  part = due.part ++ piece;
  split = due.split ∙ ap (λ t. due.part ++ t) is ∙ sym (append_assoc due.part piece after);
  known = puts ∙ ap (λ known. append_known known piece) due.known
      ∙ append_known-append_known old due.part piece;
}

-- a prefix of a piece was written
pub due-front : (text rest piece after : List ℕ) (old now next : Option (List ℕ))
    → IsDue text rest old now → rest ≡ piece ++ after → AppendsPrefix now next piece
    → AppendsPrefix old next text
due-front text rest piece after old now next due is front = (
  due.part ++ front.0,
  (
    front.1.0 ++ after,
    append_assoc due.part front.0 (front.1.0 ++ after)
        ∙ ap (λ t. due.part ++ t) (sym (append_assoc front.0 front.1.0 after))
        ∙ ap (λ t. due.part ++ (t ++ after)) front.1.1
        ∙ sym (due.split ∙ ap (λ t. due.part ++ t) is),
  ),
  front.2 ∙ ap (λ known. append_known known front.0) due.known
      ∙ append_known-append_known old due.part front.0,
)

-- a text and what is written after it, whole or a prefix of it
pub puts-behind : {A : Type 0} (first second : List ℕ) (old now next : Option (List ℕ))
    (result : Result A OutputStop) → now ≡ append_known old first → Puts second now next result
    → Puts (first ++ second) old next result
puts-behind {A} first second old now next (Ok done) before puts =
    puts ∙ ap (λ known. append_known known second) before
    ∙ append_known-append_known old first second
puts-behind {A} first second old now next (Err stop) before puts = (
  first ++ puts.0,
  (
    puts.1.0,
    append_assoc first puts.0 puts.1.0 ∙ ap (λ t. first ++ t) puts.1.1,
  ),
  puts.2 ∙ ap (λ known. append_known known puts.0) before
      ∙ append_known-append_known old first puts.0,
)

-- a prefix of the first of two texts is one of both
pub front-more : (first second : List ℕ) (old now : Option (List ℕ)) → AppendsPrefix old now first
    → AppendsPrefix old now (first ++ second)
front-more first second old now front = (
  front.0,
  (
    front.1.0 ++ second,
    sym (append_assoc front.0 front.1.0 second) ∙ ap (λ t. t ++ second) front.1.1,
  ),
  front.2,
)
