use Rattle.std.proofs.Common.{◌≡◌, ◌<◌, ◌+◌, ℕ, Bool, false, List, length, get_or, set, inl, inr}
use Rattle.std.proofs.Common.{refl, sym, ap, ◌∙◌, arith}
use Rattle.std.proofs.lemmas.Bool.{cases_eq}
use Rattle.std.proofs.lemmas.List.{get_or-set_same, get_or-set_other, length-set}
use Rattle.example_finish.specs.inside.Wished.{has_wish}
use Rattle.example_finish.proofs.wishes.Wishes.table.Goals as goal

-- one club more
one_more : (wish : ℕ → Bool) (table : List Bool) (club : ℕ) (is : Bool) → club < length table
    → is ≡ wish club → ((k : ℕ) → k < club → get_or table k false ≡ wish k) → (k : ℕ)
    → k < club + 1 → get_or (set table club is) k false ≡ wish k
one_more wish table club is room same passed k low =
    elim (cases_eq k club) as (λ _. get_or (set table club is) k false ≡ wish k) [
      | inl here ↦
          ap (λ j. get_or (set table club is) j false) here
          ∙ get_or-set_same table club is false room
          ∙ same
          ∙ ap wish (sym here)
      | inr other ↦
          get_or-set_other table club k is false other ∙ passed k (omega arith)
    ]

pub loop-club-init : goal.loop-club-init
loop-club-init c = record { long = refl; passed = λ k low. absurd (omega arith) }

pub loop-club-preserved : goal.loop-club-preserved
loop-club-preserved c =
    let wishes = c.args.self in
    let table = c.loop-club.table in
    let club = c.loop-club.club in
    let room : club < length table =
    omega (arith, c.loop-club.invariant.long, c.loop-club-test.true) in
    record {
      long = length-set table club c.has.result ∙ c.loop-club.invariant.long;
      passed = one_more (λ k. has_wish wishes.near k wishes.claim) table club c.has.result room
          c.has.ensures c.loop-club.invariant.passed;
    }

pub returns : goal.returns
returns c = record {
  long = c.loop-club.invariant.long;
  each = λ club low. c.loop-club.invariant.passed club (omega (arith, low, c.loop-club-test.false));
}
