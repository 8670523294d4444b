-- Numbers that are out: what stands under one after another was written.
use Rattle.std.proofs.Common.{◌≡◌, ◌≢◌, ℕ, zero, suc, ◌+◌, ◌++◌, cond, ◌<◌, ◌≤◌, List, [], ◌∷◌}
use Rattle.std.proofs.Common.{length, Option, Some, None, refl, sym, ap, ◌∙◌, set, arith, zero-add}
use Rattle.std.specs.Prelude.{IfSome, is_none, is_some}
use Rattle.std.specs.List.{All, position_or_len}
use Rattle.std.proofs.lemmas.List.Recursion.{is_position_or_len}
use Rattle.std.proofs.lemmas.Option.{none-some}
use Rattle.std.proofs.lemmas.List.Sums.{sum_by-cons}
use Rattle.std.proofs.lemmas.List.Elements.{All-nil, All-cons, All-head, All-tail}
use Rattle.branch_pool.specs.declared.question_state.Loan.{Loan}
use Rattle.branch_pool.specs.inside.States.{loan_at, free_number, with_loan, out_count}

-- ---- numbers

-- nothing is out under the free number
pub loan_at-free : (loans : List (Option Loan)) → loan_at loans (free_number loans) ≡ None
loan_at-free [] = refl
loan_at-free (None ∷ loans) = refl
loan_at-free (Some loan ∷ loans) = loan_at-free loans

-- it is at most the next number that was never out
pub free_number-le : (loans : List (Option Loan)) → free_number loans ≤ length loans
free_number-le [] = omega arith
free_number-le (None ∷ loans) = omega arith
free_number-le (Some loan ∷ loans) = let more = free_number-le loans in omega arith

-- what is put under a number is out under it
pub loan_at-with_same : (loans : List (Option Loan)) (number : ℕ) (loan : Loan)
    → number ≤ length loans → loan_at (with_loan loans number loan) number ≡ Some loan
loan_at-with_same [] zero loan few = refl
loan_at-with_same [] (suc number) loan few = absurd (omega arith)
loan_at-with_same (first ∷ loans) zero loan few = refl
loan_at-with_same (first ∷ loans) (suc number) loan few =
    loan_at-with_same loans number loan (omega arith)

-- what is out under another number stays
pub loan_at-with_other : (loans : List (Option Loan)) (number other : ℕ) (loan : Loan)
    → other ≢ number → number ≤ length loans
    → loan_at (with_loan loans number loan) other ≡ loan_at loans other
loan_at-with_other [] zero zero loan different few = absurd (different refl)
loan_at-with_other [] zero (suc other) loan different few = refl
loan_at-with_other [] (suc number) other loan different few = absurd (omega arith)
loan_at-with_other (first ∷ loans) zero zero loan different few = absurd (different refl)
loan_at-with_other (first ∷ loans) zero (suc other) loan different few = refl
loan_at-with_other (first ∷ loans) (suc number) zero loan different few = refl
loan_at-with_other (first ∷ loans) (suc number) (suc other) loan different few =
    loan_at-with_other loans number other loan (λ same. different (ap suc same)) (omega arith)

-- nothing is out under a number that came home
pub loan_at-home_same : (loans : List (Option Loan)) (number : ℕ)
    → loan_at (set loans number None) number ≡ None
loan_at-home_same [] number = refl
loan_at-home_same (first ∷ loans) zero = refl
loan_at-home_same (first ∷ loans) (suc number) = loan_at-home_same loans number

-- where no number is out nothing is out under any
pub nothing_out : (loans : List (Option Loan)) (number : ℕ) → out_count loans ≡ 0
    → loan_at loans number ≡ None
nothing_out [] number none = refl
nothing_out (None ∷ loans) zero none = refl
nothing_out (None ∷ loans) (suc number) none =
    nothing_out loans number (sym (sum_by-cons (λ (out : Option Loan). cond (is_some out) 1 0) None
    loans ∙ zero-add _) ∙ none)
nothing_out (Some loan ∷ loans) number none =
    let some = sum_by-cons (λ (out : Option Loan). cond (is_some out) 1 0) (Some loan) loans in
    absurd (omega (arith, some, none))

-- what is true of all that is out is true of one more that is
pub All-with_loan : (P : Option Loan → Type 0) (loans : List (Option Loan)) (number : ℕ)
    (loan : Loan) → P (Some loan) → All P loans → All P (with_loan loans number loan)
All-with_loan P [] number loan one all = All-cons P (Some loan) [] one (All-nil P)
All-with_loan P (first ∷ loans) zero loan one all =
    All-cons P (Some loan) loans one (All-tail P first loans all)
All-with_loan P (first ∷ loans) (suc number) loan one all =
    All-cons P first (with_loan loans number loan) (All-head P first loans all)
    (All-with_loan P loans number loan one (All-tail P first loans all))

-- what is true of all that is out is true of what is out under a number
pub loan_meets : (P : Loan → Type 0) (loans : List (Option Loan)) (number : ℕ) (loan : Loan)
    → All (λ out. IfSome out P) loans → loan_at loans number ≡ Some loan → P loan
loan_meets P [] number loan all out = absurd (none-some loan out)
loan_meets P (first ∷ loans) zero loan all out =
    subst_some out (All-head (λ one. IfSome one P) first loans all)
  where
    subst_some : first ≡ Some loan → IfSome first P → P loan
    subst_some is fact = rw is at fact
loan_meets P (first ∷ loans) (suc number) loan all out =
    loan_meets P loans number loan (All-tail (λ one. IfSome one P) first loans all) out

-- the free number is the first place where nothing stands
pub free_number_is : (loans : List (Option Loan))
    → free_number loans ≡ position_or_len is_none loans
free_number_is loans = is_position_or_len free_number is_none refl
    (λ loan rest. by_cases loan rest) loans
  where
    by_cases : (loan : Option Loan) (rest : List (Option Loan))
        → free_number (loan ∷ rest) ≡ cond (is_none loan) 0 (1 + free_number rest)
    by_cases None rest = refl
    by_cases (Some loan) rest = omega arith

-- a loan is put under a number that was out before, or under the next one
pub with_loan_set : (loans : List (Option Loan)) (number : ℕ) (loan : Loan)
    → number < length loans → set loans number (Some loan) ≡ with_loan loans number loan
with_loan_set [] number loan within = absurd (omega arith)
with_loan_set (first ∷ loans) zero loan within = refl
with_loan_set (first ∷ loans) (suc number) loan within =
    ap (λ rest. first ∷ rest) (with_loan_set loans number loan (omega arith))

pub with_loan_push : (loans : List (Option Loan)) (number : ℕ) (loan : Loan)
    → number ≡ length loans → loans ++ Some loan ∷ [] ≡ with_loan loans number loan
with_loan_push [] zero loan next = refl
with_loan_push [] (suc number) loan next = absurd (omega arith)
with_loan_push (first ∷ loans) zero loan next = absurd (omega arith)
with_loan_push (first ∷ loans) (suc number) loan next =
    ap (λ rest. first ∷ rest) (with_loan_push loans number loan (omega arith))
