-- Pieces of bytes: what moving one down leaves, where the first LF of a list stands, and what a
-- read adds to a list.
use Rattle.std.proofs.Common.{◌≡◌, ◌≢◌, ℕ, ◌+◌, ◌-◌, ◌<◌, ◌≤◌, min, List, [], ◌∷◌, ◌++◌, length}
use Rattle.std.proofs.Common.{take, drop, slice_index, get_or, Option, Some, None, ap, sym, ◌∙◌}
use Rattle.std.proofs.Common.{subst, arith, append_assoc, length-append, length-drop, take_all}
use Rattle.std.specs.Prelude.{IfNone, IfSome}
use Rattle.std.specs.List.{copy_within}
use Rattle.std.proofs.Math.Seq.{take-add}
use Rattle.std.proofs.lemmas.List.{get_or-drop, take_at, drop_at, take-append-drop, take-append-le}
use Rattle.std.proofs.lemmas.List.{take-take, length-take-le, drop_all, drop_more, drop-drop}
use Rattle.std.proofs.lemmas.List.{drop-take, get_or-take}
use Rattle.std.proofs.lemmas.List.Elements.{All-append, All-from_get_or, All-take}
use Rattle.std.proofs.lemmas.Bool.{eq-eqb, eqb-true}
use Rattle.std.proofs.lemmas.Slice.{between_is, drop-append-drop}
use borrow.Rule.Slice.PartMut.{put_mid, post_of}
use Rattle.memchr.specs.Find.{IsFirst, IsFirstByte, Nowhere, Passes, is_byte}
use Rattle.port_core.specs.declared.ports.Got.{Got}
use Rattle.port_core.specs.declared.ports.Got.TheVariants.{Bytes}
use Rattle.port_core.specs.declared.ports.Got.TheVariants as got
use Rattle.port_core.specs.Lines.{HasNoLineFeed}
use Rattle.port_core.specs.Ports.{HoldsOfRead, Reads}
use Rattle.port_core.specs.inside.Buffers.{part, EndsAt, IsOverlong, Fills}

-- how many bytes stand before what was behind the bytes moved down
length-moved : (bytes : List ℕ) (from to at : ℕ) → at ≤ from → from ≤ to → to ≤ length bytes
    → length (take at bytes ++ take (to - from) (drop from bytes)) ≡ at + (to - from)
length-moved bytes from to at down order within =
    let n = to - from in
    let room : n ≤ length (drop from bytes) = omega (arith, length-drop from bytes) in
    omega (
      arith,
      length-append (take at bytes) (take n (drop from bytes)),
      length-take-le at bytes (omega arith),
      length-take-le n (drop from bytes) room,
    )

-- what is moved down stands behind what is left before it
pub take-moved : (bytes : List ℕ) (from to at : ℕ) → at ≤ from → from ≤ to → to ≤ length bytes
    → take (at + (to - from)) (copy_within bytes from to at) ≡ take at bytes ++ part from to bytes
take-moved bytes from to at down order within =
    take_at (take at bytes ++ take (to - from) (drop from bytes)) (drop (at + (to - from)) bytes)
    (at + (to - from)) (length-moved bytes from to at down order within)
    ∙ ap (λ l. take at bytes ++ l) (between_is bytes from to)

-- what stands there already
pub take-there : (bytes : List ℕ) (from to at : ℕ) → from ≡ at
    → take (at + (to - from)) bytes ≡ take at bytes ++ part from to bytes
take-there bytes from to at same =
    take-add at (to - from) bytes
    ∙ ap (λ n. take at bytes ++ take (to - from) (drop n bytes)) (sym same)
    ∙ ap (λ l. take at bytes ++ l) (between_is bytes from to)

-- what stands behind the bytes moved down stays
pub drop-moved : (bytes : List ℕ) (from to at : ℕ) → at ≤ from → from ≤ to → to ≤ length bytes
    → drop to (copy_within bytes from to at) ≡ drop to bytes
drop-moved bytes from to at down order within =
    drop-append-drop (at + (to - from)) bytes
    (take at bytes ++ take (to - from) (drop from bytes)) to (omega arith)
    (length-moved bytes from to at down order within)

-- a part of bytes that are the same from a place on, if it does not begin before that place
pub part-rest : (bytes bytes' : List ℕ) (place from to : ℕ) → drop place bytes' ≡ drop place bytes
    → place ≤ from → part from to bytes' ≡ part from to bytes
part-rest bytes bytes' place from to same behind =
    let n = from - place in
    let P : ℕ → Type 0 = λ f. drop f bytes' ≡ drop f bytes in
    let there : P (place + n) =
    sym (drop-drop n place bytes') ∙ ap (drop n) same ∙ drop-drop n place bytes in
    let is : place + n ≡ from = omega arith in
    sym (between_is bytes' from to) ∙ ap (take (to - from)) (subst P is there)
    ∙ between_is bytes from to

-- a part of a part
pub part-part : (bytes : List ℕ) (begin end from to : ℕ) → begin + to ≤ end
    → part from to (part begin end bytes) ≡ part (begin + from) (begin + to) bytes
part-part bytes begin end from to within =
    ap (drop from) (sym (drop-take begin to (take end bytes))
    ∙ ap (drop begin) (take-take (begin + to) end bytes within))
    ∙ drop-drop from begin (take (begin + to) bytes)

-- how many bytes a part has
pub length-part : (bytes : List ℕ) (from to : ℕ) → from ≤ to → to ≤ length bytes
    → length (part from to bytes) ≡ to - from
length-part bytes from to order within =
    omega (arith, length-drop from (take to bytes), length-take-le to bytes within)

-- a part of the first bytes
pub part-take : (bytes : List ℕ) (end from to : ℕ) → to ≤ end
    → part from to (take end bytes) ≡ part from to bytes
part-take bytes end from to within = ap (drop from) (take-take to end bytes within)

-- ---- the first LF

-- no LF stands in the first bytes if none is at any of their places
no_line_feed-before : (bytes : List ℕ) (n : ℕ) → n ≤ length bytes
    → Nowhere (Passes (is_byte 10) bytes) 0 n → HasNoLineFeed (take n bytes)
no_line_feed-before bytes n within none =
    All-from_get_or (λ b. b ≢ 10) (take n bytes) 0 (λ k below same.
    let before : k < n = omega (arith, length-take-le n bytes within) in
    none k (omega arith) before
    (eq-eqb (get_or bytes k 0) 10 (sym (get_or-take n bytes k 0 before) ∙ same)))

-- the first LF among the first bytes is the first of all
pub line_feed-near : (bytes : List ℕ) (n place : ℕ) → n ≤ length bytes
    → IsFirst (Passes (is_byte 10) bytes) 0 n (Some place)
    → IsFirstByte (is_byte 10) bytes (Some place)
line_feed-near bytes n place within first = (
  record {
    low = first.0.low;
    high = omega (arith, first.0.high, within);
    before = first.0.before;
  },
  first.1,
)

-- what a search for the first LF answers
pub line_feed-found : (bytes : List ℕ) (found : Option ℕ) → IsFirstByte (is_byte 10) bytes found
    → IfNone found (HasNoLineFeed bytes) × IfSome found (λ place. place < length bytes)
    × IfSome found (λ place. HasNoLineFeed (take place bytes))
    × IfSome found (λ place. slice_index bytes place ≡ 10)
line_feed-found bytes None none =
    let same = take_all (length bytes) bytes (omega arith) in
    let whole = no_line_feed-before bytes (length bytes) (omega arith) none in
    (subst HasNoLineFeed same whole, tt, tt, tt)
line_feed-found bytes (Some place) first =
    let high = first.0.high in
    let front = no_line_feed-before bytes place (omega (arith, high)) first.0.before in
    (tt, high, front, eqb-true (slice_index bytes place) 10 first.1)

-- no LF stands in the first bytes, and none after them
pub no_line_feed-joined : (bytes : List ℕ) (seen : ℕ) → HasNoLineFeed (take seen bytes)
    → HasNoLineFeed (drop seen bytes) → HasNoLineFeed bytes
no_line_feed-joined bytes seen front rest =
    subst HasNoLineFeed (take-append-drop seen bytes)
    (All-append (λ b. b ≢ 10) (take seen bytes) (drop seen bytes) front rest)

-- an LF with none before it is the first
EndsAt-first : (bytes : List ℕ) (place : ℕ) → place < length bytes
    → HasNoLineFeed (take place bytes)
    → get_or bytes place 0 ≡ 10 → EndsAt bytes place
EndsAt-first bytes place below none found =
    let rest : drop place bytes ≡ 10 ∷ drop (place + 1) bytes =
    drop_more bytes place 0 below ∙ ap (λ b. b ∷ drop (place + 1) bytes) found in
    (none, sym (take-append-drop place bytes) ∙ ap (λ l. take place bytes ++ l) rest)

-- the first LF after the first bytes is the first of all, if those have none
pub EndsAt-later : (bytes rest : List ℕ) (seen place : ℕ) → rest ≡ drop seen bytes
    → seen ≤ length bytes → HasNoLineFeed (take seen bytes)
    → place < length rest → HasNoLineFeed (take place rest) → slice_index rest place ≡ 10
    → EndsAt bytes (seen + place) × (seen + place < length bytes)
EndsAt-later bytes rest seen place is within front inside none found =
    let below : seen + place < length bytes = omega (arith, length-drop seen bytes, ap length is) in
    let behind : HasNoLineFeed (take place (drop seen bytes)) =
    subst (λ (l : List ℕ). HasNoLineFeed (take place l)) is none in
    let whole : HasNoLineFeed (take (seen + place) bytes) =
    subst HasNoLineFeed (sym (take-add seen place bytes))
    (All-append (λ b. b ≢ 10) (take seen bytes) (take place (drop seen bytes)) front behind) in
    let here : get_or bytes (seen + place) 0 ≡ 10 =
    sym (get_or-drop seen bytes place 0) ∙ ap (λ l. slice_index l place) (sym is) ∙ found in
    (EndsAt-first bytes (seen + place) below whole here, below)

-- more bytes than a line may have stand before the first LF
pub IsOverlong-ended : (held bytes : List ℕ) (place : ℕ) → bytes ≡ held → EndsAt bytes place
    × (place < length bytes) → 1024 < place → IsOverlong held
IsOverlong-ended held bytes place is ends long =
    let front : HasNoLineFeed (take 1025 bytes) =
    subst HasNoLineFeed (take-take 1025 place bytes (omega arith))
    (All-take (λ b. b ≢ 10) 1025 (take place bytes) ends.0.0) in
    subst IsOverlong is (omega (arith, ends.1), front)

-- more bytes than a line may have, and no LF
pub IsOverlong-open : (held bytes : List ℕ) → bytes ≡ held → HasNoLineFeed bytes
    → 1024 < length held → IsOverlong held
IsOverlong-open held bytes is none long =
    (long, All-take (λ b. b ≢ 10) 1025 held (subst HasNoLineFeed is none))

-- ---- what a read adds

-- the bytes that a read put after those in hand are added to them
pub Fills-behind : (left left' : Option (List ℕ)) (fact : List ℕ → Type 0) (got : Got)
    (n count room : ℕ) (old before into whole : List ℕ) → got ≡ Bytes n → take count before ≡ old
    → count ≤ length before → Reads left left' got into → HoldsOfRead fact got into
    → whole ≡ put_mid count room before into
    → Fills left left' fact got old (take (count + n) whole)
Fills-behind left left' fact got n count room old before into whole is kept inside reads holds same
    =
    let rest = into ++ post_of count room before in
    let size = length-take-le count before inside in
    let P : Got → Type 0 = λ g. Reads left left' g into → HoldsOfRead fact g into
    → Fills left left' fact g old (take (count + n) (take count before ++ rest)) in
    let Q : List ℕ → Type 0 = λ bytes. Fills left left' fact got old (take (count + n) bytes) in
    subst Q (sym same) (subst P (sym is) (λ r fits. (
      take n into,
      take-add count n (take count before ++ rest)
          ∙ ap (λ l. take count (take count before ++ rest) ++ take n l)
          (drop_at (take count before) rest count size)
          ∙ ap (λ l. l ++ take n rest) (take_at (take count before) rest count size ∙ kept)
          ∙ ap (λ l. old ++ l) (take-append-le n into (post_of count room before) r.0),
      length-take-le n into r.0,
      r.1,
      r.2,
      fits,
    ))
    reads holds)

-- a text that stands before the bytes in hand stays there
pub Fills-front : (left left' : Option (List ℕ)) (fact : List ℕ → Type 0) (got : Got)
    (text held new : List ℕ) (kept : ℕ) → length text ≡ kept
    → Fills left left' fact got (text ++ held) new → Fills left left' fact got held (drop kept new)
Fills-front left left' fact (Bytes n) text held new kept size fills = (
  fills.0,
  ap (drop kept) (fills.1 ∙ append_assoc text held fills.0)
      ∙ drop_at text (held ++ fills.0) kept size,
  fills.2,
  fills.3,
  fills.4,
  fills.5,
)
Fills-front left left' fact got.Failed text held new kept size fills =
    (ap (drop kept) fills.0 ∙ drop_at text held kept size, fills.1)

-- ---- a source over memory

-- a copied piece of the bytes left is the first of them, and it is empty only if none are left
pub Reads-piece : (bytes rest left into new : List ℕ) (at count most piece : ℕ)
    → left ≡ drop at bytes → rest ≡ drop at bytes
    → most ≡ min piece (length into) → count ≡ min most (length rest)
    → take (length (take count rest)) new ≡ take count rest → length new ≡ length into
    → 0 < piece → 0 < length into
    → (count ≤ length new) × (Some left ≡ Some (take count new ++ drop (at + count) bytes))
    × (count ≡ 0 → drop (at + count) bytes ≡ [])
Reads-piece bytes rest left into new at count most piece left-is rest-is most-is count-is copied
    same some room =
    let fits : count ≤ length rest = omega arith in
    let front : take count new ≡ take count rest =
    ap (λ n. take n new) (sym (length-take-le count rest fits)) ∙ copied in
    let behind : drop count rest ≡ drop (at + count) bytes =
    ap (drop count) rest-is ∙ drop-drop count at bytes in
    let whole : left ≡ take count new ++ drop (at + count) bytes =
    left-is ∙ sym rest-is ∙ sym (take-append-drop count rest)
    ∙ ap (λ l. l ++ drop count rest) (sym front) ∙ ap (λ l. take count new ++ l) behind in (
      omega arith,
      ap Some whole,
      λ none. drop_all (at + count) bytes (omega (
        arith,
        length-drop at bytes,
        ap length rest-is,
      )),
    )
