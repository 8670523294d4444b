-- Which clubs a count of none, of one or of some stands for.
use Rattle.std.proofs.Common.{◌≡◌, ◌≢◌, ℕ, zero, suc, ◌+◌, ◌<◌, ◌≤◌, Bool, true, false, cond}
use Rattle.std.proofs.Common.{count_by, inl, inr, ap, ◌∙◌, arith}
use Rattle.std.specs.List.{range_with_len}
use Rattle.std.proofs.lemmas.Bool.{cases_Bool, cases_eq}
use Rattle.league_core.proofs.plain.Counts.{count_suc}

-- the count of one club more, by whether it passes
counted_last : (p : ℕ → Bool) (clubs : ℕ) → p clubs ≡ true
    → count_by p (range_with_len 0 (suc clubs)) ≡ count_by p (range_with_len 0 clubs) + 1
counted_last p clubs here =
    let one : cond {A = ℕ} (p clubs) 1 0 ≡ 1 = ap (λ b. cond {A = ℕ} b 1 0) here in
    omega (arith, count_suc p clubs, one)

passed_over : (p : ℕ → Bool) (clubs : ℕ) → p clubs ≡ false
    → count_by p (range_with_len 0 (suc clubs)) ≡ count_by p (range_with_len 0 clubs)
passed_over p clubs not_here =
    let none : cond {A = ℕ} (p clubs) 1 0 ≡ 0 = ap (λ b. cond {A = ℕ} b 1 0) not_here in
    omega (arith, count_suc p clubs, none)

-- where none is counted none passes
pub none_counted : (p : ℕ → Bool) (clubs : ℕ) → count_by p (range_with_len 0 clubs) ≡ 0
    → (x : ℕ) → x < clubs → p x ≡ false
none_counted p zero none x below = absurd (omega arith)
none_counted p (suc clubs) none x below =
    elim (cases_Bool (p clubs)) as (λ _. p x ≡ false) [
      | inl here ↦ absurd (omega (arith, counted_last p clubs here, none))
      | inr not_here ↦ elim (cases_eq x clubs) as (λ _. p x ≡ false) [
        | inl same ↦ ap p same ∙ not_here
        | inr other ↦ none_counted p clubs (omega (arith, passed_over p clubs not_here, none)) x
            (omega arith)
      ]
    ]

-- a test that passes nothing counts none
pub nothing_counted : (clubs : ℕ) → count_by (λ (x : ℕ). false) (range_with_len 0 clubs) ≡ 0
nothing_counted zero = omega arith
nothing_counted (suc clubs) =
    passed_over (λ (x : ℕ). false) clubs (λ i. false) ∙ nothing_counted clubs

-- where some are counted one passes
pub some_counted : (p : ℕ → Bool) (clubs : ℕ) → 1 ≤ count_by p (range_with_len 0 clubs)
    → (x : ℕ) × (x < clubs) × (p x ≡ true)
some_counted p zero some = absurd (omega (arith, some))
some_counted p (suc clubs) some =
    elim (cases_Bool (p clubs)) as (λ _. (x : ℕ) × (x < suc clubs) × (p x ≡ true)) [
      | inl here ↦ (clubs, omega arith, here)
      | inr not_here ↦
          let found = some_counted p clubs (omega (arith, passed_over p clubs not_here, some)) in
          (found.0, omega (arith, found.1), found.2)
    ]

-- of one club that is counted, that it passes, and that no other does
pub record IsOneCounted (p : ℕ → Bool) (clubs one : ℕ) : Type 0 where
  pub below : one < clubs
  pub passes : p one ≡ true
  pub others : (x : ℕ) → x < clubs → x ≢ one → p x ≡ false

-- where one is counted, there is that one
pub one_counted : (p : ℕ → Bool) (clubs : ℕ) → count_by p (range_with_len 0 clubs) ≡ 1
    → (one : ℕ) × IsOneCounted p clubs one
one_counted p zero one = absurd (omega (arith, one))
one_counted p (suc clubs) one =
    elim (cases_Bool (p clubs)) as (λ _. (x : ℕ) × IsOneCounted p (suc clubs) x) [
      | inl here ↦
          let none : count_by p (range_with_len 0 clubs) ≡ 0 =
          omega (arith, counted_last p clubs here, one) in (
            clubs,
            record {
              below = omega arith;
              passes = here;
              others = λ x below other. none_counted p clubs none x (omega (arith, below, other));
            },
          )
      | inr not_here ↦
          let found = one_counted p clubs (omega (arith, passed_over p clubs not_here, one)) in (
            found.0,
            record {
              below = omega (arith, found.1.below);
              passes = found.1.passes;
              others = λ x below other. elim (cases_eq x clubs) as (λ _. p x ≡ false) [
                | inl same ↦ ap p same ∙ not_here
                | inr less ↦ found.1.others x (omega (arith, below, less)) other
              ];
            },
          )
    ]
