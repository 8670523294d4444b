-- General facts on what is known of a stream: bytes before or after what is known already.
use Rattle.std.proofs.Common.{List, None, Option, Some, [], ap, append_assoc, refl, sym, ℕ, ◌++◌}
use Rattle.std.proofs.Common.{◌∙◌, ◌≡◌}
use Rattle.std.specs.Io.KnownBytes.{IsAtEnd, append_known, prepend_known}
use Rattle.std.proofs.lemmas.List.{append-nil}

-- bytes known after two others are known after both joined
pub prepend-prepend : (first second : List ℕ) (known : Option (List ℕ))
    → prepend_known first (prepend_known second known) ≡ prepend_known (first ++ second) known
prepend-prepend first second None = refl
prepend-prepend first second (Some bytes) = ap Some (sym (append_assoc first second bytes))

-- two texts put after known bytes in turn are their joined text put there at once
pub append_known-append_known : (known : Option (List ℕ)) (first second : List ℕ)
    → append_known (append_known known first) second ≡ append_known known (first ++ second)
append_known-append_known None first second = refl
append_known-append_known (Some bytes) first second = ap Some (append_assoc bytes first second)

-- nothing written leaves the sink's bytes
pub append_known-nothing : (old : Option (List ℕ)) → old ≡ append_known old []
append_known-nothing None = refl
append_known-nothing (Some bytes) = ap Some (sym (append-nil bytes))

-- what it has in hand changes nothing of what the source has left
pub prepend-nothing : (input : Option (List ℕ)) → prepend_known [] input ≡ input
prepend-nothing None = refl
prepend-nothing (Some bytes) = refl

-- more was written after what was written before
pub append_known-more : (old now later : Option (List ℕ)) (written part : List ℕ)
    → now ≡ append_known old written → later ≡ append_known now part
    → later ≡ append_known old (written ++ part)
append_known-more old now later written part first second =
    second ∙ ap (λ known. append_known known part) first
    ∙ append_known-append_known old written part

-- an input that a source told has told bytes left
pub nothing_left : (input bytes : List ℕ) (left : Option (List ℕ))
    → Some input ≡ prepend_known bytes left → IsAtEnd left → left ≡ Some []
nothing_left input bytes None is at_end = cc
nothing_left input bytes (Some rest) is at_end = ap Some at_end
