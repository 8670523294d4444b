-- The lowest bit of the marks stands for the first LF.
use Rattle.std.proofs.Common.{◌≡◌, ◌<◌, ◌≤◌, ◌^◌, ◌∙◌, ℕ, Bool, not, eqb, List, Some, length, map}
use Rattle.std.proofs.Common.{get_or, ap, sym, subst, arith, w8, w32, zero-add}
use Rattle.std.specs.Int.Count.{count_trailing_zeros}
use Rattle.std.specs.List.{prefix_len}
use Rattle.std.specs.Simd.Lanes.{chunk, mask_l}
use Rattle.std.proofs.lemmas.Bool.{both_ways}
use Rattle.std.proofs.lemmas.List.{length-map}
use Rattle.std.proofs.lemmas.Nat.Bits.{bit_at-trailing_zeros}
use Rattle.std.proofs.lemmas.Simd.{bitmask_splat, length-chunk, mask_l-lt, none_from_empty_mask}
use Rattle.std.proofs.lemmas.Simd.{run_in_chunk_fails, run_in_chunk_stops, trailing_mask_l}
use Rattle.memchr.specs.Find.{IsFirst, Nowhere, Passes, is_byte}
use Rattle.port_core.proofs.bytes.find_near.Goals as goal

-- without a mark none of the bytes is an LF
unmarked : (bytes : List ℕ) (marks : ℕ) → 32 ≤ length bytes
    → marks ≡ mask_l (map (λ x. eqb x 10) (chunk 0 32 bytes)) → marks ≡ 0
    → Nowhere (Passes (is_byte 10) bytes) 0 32
unmarked bytes marks within is none = λ place low below passes.
    both_ways (eqb (get_or bytes place 0) 10)
    (none_from_empty_mask (λ x. eqb x 10) bytes 0 32 0 within (sym is ∙ none) place low below)
    passes

-- with a mark, the lowest one stands for the first LF
marked-by : (bytes : List ℕ) → 32 ≤ length bytes
    → 0 < mask_l (map (λ x. eqb x 10) (chunk 0 32 bytes))
    → IsFirst (Passes (is_byte 10) bytes) 0 32
    (Some (count_trailing_zeros 64 (mask_l (map (λ x. eqb x 10) (chunk 0 32 bytes)))))
marked-by bytes within some =
    let test : ℕ → Bool = λ x. eqb x 10 in
    let all = chunk 0 32 bytes in
    let marks = mask_l (map test all) in
    let place = count_trailing_zeros 64 marks in
    let size : length all ≡ 32 = length-chunk 0 32 bytes within in
    let here : place ≡ prefix_len (λ x. not (test x)) all =
    trailing_mask_l test 64 all (omega (arith, size)) some in
    let there : count_trailing_zeros 32 marks ≡ prefix_len (λ x. not (test x)) all =
    trailing_mask_l test 32 all (omega (arith, size)) some in
    let small : marks < 2 ^ 32 =
    subst (λ n. marks < 2 ^ n) (length-map all test ∙ size) (mask_l-lt (map test all)) in
    let near : place < 32 =
    subst (λ n. n < 32) (there ∙ sym here) (bit_at-trailing_zeros w32 marks some small).0 in (
      record {
        low = omega arith;
        high = near;
        before = λ k low below passes. both_ways (test (get_or bytes k 0))
            (run_in_chunk_fails test bytes 0 32 place 0 within here k low
            (omega (arith, below))) passes;
      },
      ap (λ n. test (get_or bytes n 0)) (sym (zero-add place))
          ∙ run_in_chunk_stops test bytes 0 32 place 0 within here near,
    )

-- the lowest mark is the first LF
marked : (bytes : List ℕ) (marks : ℕ) → 32 ≤ length bytes
    → marks ≡ mask_l (map (λ x. eqb x 10) (chunk 0 32 bytes)) → 0 < marks
    → IsFirst (Passes (is_byte 10) bytes) 0 32 (Some (count_trailing_zeros 64 marks))
marked bytes marks within is some =
    subst (λ m. IsFirst (Passes (is_byte 10) bytes) 0 32 (Some (count_trailing_zeros 64 m)))
    (sym is) (marked-by bytes within (subst (λ m. 0 < m) is some))

pub returns-then-marks-eq0 : goal.returns-then-marks-eq0
returns-then-marks-eq0 c =
    let bytes = c.args.bytes.now in
    let size = length-chunk 0 32 bytes c.requires in
    unmarked bytes _ c.requires (bitmask_splat w8 eqb (chunk 0 32 bytes) 32 10 size (omega arith))
    c.if-marks-eq0.true

pub returns : goal.returns
returns c =
    let bytes = c.args.bytes.now in
    let size = length-chunk 0 32 bytes c.requires in
    marked bytes _ c.requires (bitmask_splat w8 eqb (chunk 0 32 bytes) 32 10 size (omega arith))
    (omega (arith, c.if-marks-eq0.false))
