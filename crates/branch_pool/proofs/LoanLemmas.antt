-- What is lent and what is out agree, whatever is taken, given back, or left behind by a change.
use Rattle.std.proofs.Common.{◌≡◌, ◌≢◌, ℕ, ◌<◌, ◌≤◌, ◌==◌, List, [], ◌∷◌, length, Option, Some}
use Rattle.std.proofs.Common.{None, refl, sym, ap, ◌∙◌, set, inl, inr, arith, get_or-set_other}
use Rattle.std.specs.Prelude.{IfSome}
use Rattle.std.specs.List.{slice_get, All}
use Rattle.std.proofs.lemmas.Bool.{cases_eq, eq-eqb, ne_eqb, and_right}
use Rattle.std.proofs.lemmas.Option.{same_Some}
use Rattle.league_core.specs.declared.zone.Literal.{Literal}
use Rattle.league_core.specs.search.Trees.{Tree, open_leaf}
use Rattle.league_core.specs.inside.Lending.{lent_zones, put, times_lent}
use Rattle.league_core.proofs.PutLemmas.{lent_zones-put_same, lent_zones-put_other}
use Rattle.branch_pool.specs.declared.question_state.QuestionState.{QuestionState}
use Rattle.branch_pool.specs.declared.question_state.Loan.{Loan}
use Rattle.branch_pool.specs.inside.States.{loan_at, with_loan}
use Rattle.branch_pool.specs.inside.Goodness.{zones_due, IsGoodLoan}
use Rattle.branch_pool.proofs.SlotLemmas.{loan_at-with_same, loan_at-with_other, loan_at-home_same}
use Rattle.branch_pool.proofs.SlotLemmas.{loan_meets}
use Rattle.league_core.proofs.plain.Slots.{slice_get-set_same, slice_get-set_other}

-- ---- what is due

-- what is out in the epoch for the place is due there
pub due_here : (epoch place : ℕ) (loan : Loan) → loan.epoch ≡ epoch → loan.place ≡ place
    → zones_due epoch place (Some loan) ≡ loan.zone.literals ∷ []
due_here epoch place loan now here = rw (now, here) (rw (
  eq-eqb epoch epoch refl,
  eq-eqb place place
      refl,
) refl)

-- what was lent in another epoch is not due
pub not_due_in : (epoch place : ℕ) (loan : Loan) → loan.epoch ≢ epoch
    → zones_due epoch place (Some loan) ≡ []
not_due_in epoch place loan other = rw (ne_eqb loan.epoch epoch other) refl

-- what was lent for another place is not due here
pub not_due_at : (epoch place : ℕ) (loan : Loan) → loan.place ≢ place
    → zones_due epoch place (Some loan) ≡ []
not_due_at epoch place loan other =
    rw (and_right (loan.epoch == epoch) (loan.place == place) (ne_eqb loan.place place other)) refl

-- ---- seats and loans that agree

-- what is lent and what is out agree in an epoch
abbrev pub Agree : ℕ → List QuestionState → List (Option Loan) → Type 0
Agree epoch seats loans =
    (number place : ℕ) (seat : QuestionState) → slice_get seats place ≡ Some seat
    → lent_zones number [] seat.tree ≡ zones_due epoch place (loan_at loans number)

-- the seat at the place that was written is the new one
the_new : (seats : List QuestionState) (at place : ℕ) (seat new there : QuestionState)
    → slice_get seats at ≡ Some seat → place ≡ at → slice_get (set seats at new) place ≡ Some there
    → there ≡ new
the_new seats at place seat new there found here is =
    same_Some there new
    (sym is ∙ ap (slice_get (set seats at new)) here ∙ slice_get-set_same seats at seat new found)

-- one at another place is as it was
an_old : (seats : List QuestionState) (at place : ℕ) (new there : QuestionState)
    → place ≢ at → slice_get (set seats at new) place ≡ Some there
    → slice_get seats place ≡ Some there
an_old seats at place new there apart is = sym (slice_get-set_other seats at place new apart) ∙ is

-- one more is lent, and out
pub Agree-lent : (epoch : ℕ) (seats : List QuestionState) (loans : List (Option Loan)) (number : ℕ)
    (seat new : QuestionState) (loan : Loan) → Agree epoch seats loans → number ≤ length loans
    → loan_at loans number ≡ None → slice_get seats loan.place ≡ Some seat
    → loan.epoch ≡ epoch → put number open_leaf new.tree ≡ seat.tree
    → lent_zones number [] new.tree ≡ loan.zone.literals ∷ []
    → Agree epoch (set seats loan.place new) (with_loan loans number loan)
Agree-lent epoch seats loans number seat new loan agree few free found now leaf lent other place
    there is =
    elim (cases_eq other number) as (λ _. Goal) [
      | inl same ↦ elim (cases_eq place loan.place) as (λ _. Goal) [
        | inl here ↦ at_number same (lent_here here) ∙ sym (due same (due_here epoch place loan now
            (sym here)))
        | inr apart ↦ at_number same (nothing_there apart)
            ∙ sym (due same (not_due_at epoch place loan (λ e. apart (sym e))))
      ]
      | inr different ↦ elim (cases_eq place loan.place) as (λ _. Goal) [
        | inl here ↦ other_here different here ∙ sym (ap (zones_due epoch place) (loan_at-with_other
            loans number other loan different few))
        | inr apart ↦ agree other place there (an_old seats loan.place place new there apart is)
            ∙ sym (ap (zones_due epoch place) (loan_at-with_other loans number other loan different
            few))
      ]
    ]
  where
    Goal : Type 0
    Goal = lent_zones other [] there.tree
        ≡ zones_due epoch place (loan_at (with_loan loans number loan) other)

    at_number : {zones : List (List Literal)} → other ≡ number
        → lent_zones number [] there.tree ≡ zones → lent_zones other [] there.tree ≡ zones
    at_number same is_so = ap (λ n. lent_zones n [] there.tree) same ∙ is_so

    lent_here : place ≡ loan.place → lent_zones number [] there.tree ≡ loan.zone.literals ∷ []
    lent_here here =
        ap (λ (s : QuestionState). lent_zones number [] s.tree)
        (the_new seats loan.place place seat new there found here is) ∙ lent

    nothing_there : place ≢ loan.place → lent_zones number [] there.tree ≡ []
    nothing_there apart =
        agree number place there (an_old seats loan.place place new there apart is)
        ∙ ap (zones_due epoch place) free

    due : {zones : List (List Literal)} → other ≡ number
        → zones_due epoch place (Some loan) ≡ zones
        → zones_due epoch place (loan_at (with_loan loans number loan) other) ≡ zones
    due same is_so =
        ap (λ n. zones_due epoch place (loan_at (with_loan loans number loan) n)) same
        ∙ ap (zones_due epoch place) (loan_at-with_same loans number loan few) ∙ is_so

    other_here : other ≢ number → place ≡ loan.place
        → lent_zones other [] there.tree ≡ zones_due epoch place (loan_at loans other)
    other_here different here =
        ap (λ (s : QuestionState). lent_zones other [] s.tree)
        (the_new seats loan.place place seat new there found here is)
        ∙ sym (lent_zones-put_other number other open_leaf new.tree [] (ne_eqb other number
        different) refl)
        ∙ ap (lent_zones other []) leaf
        ∙ agree other place seat (ap (slice_get seats) here ∙ found)

-- a leaf came back, and its number came home
pub Agree-given : (epoch : ℕ) (seats : List QuestionState) (loans : List (Option Loan)) (number : ℕ)
    (seat new : QuestionState) (loan : Loan) (leaf : Tree) → Agree epoch seats loans
    → loan_at loans number ≡ Some loan → slice_get seats loan.place ≡ Some seat
    → new.tree ≡ put number leaf seat.tree → ((n : ℕ) → times_lent n leaf ≡ 0)
    → Agree epoch (set seats loan.place new) (set loans number None)
Agree-given epoch seats loans number seat new loan leaf agree out found is_put none other place
    there is =
    elim (cases_eq other number) as (λ _. Goal) [
      | inl same ↦ elim (cases_eq place loan.place) as (λ _. Goal) [
        | inl here ↦ ap (λ n. lent_zones n [] there.tree) same ∙ taken here ∙ sym (home same)
        | inr apart ↦ ap (λ n. lent_zones n [] there.tree) same ∙ nothing_there apart
            ∙ sym (home same)
      ]
      | inr different ↦ elim (cases_eq place loan.place) as (λ _. Goal) [
        | inl here ↦ other_here different here ∙ sym (stays different)
        | inr apart ↦ agree other place there (an_old seats loan.place place new there apart is)
            ∙ sym (stays different)
      ]
    ]
  where
    Goal : Type 0
    Goal = lent_zones other [] there.tree
        ≡ zones_due epoch place (loan_at (set loans number None) other)

    home : other ≡ number
        → zones_due epoch place (loan_at (set loans number None) other) ≡ []
    home same =
        ap (λ n. zones_due epoch place (loan_at (set loans number None) n)) same
        ∙ ap (zones_due epoch place) (loan_at-home_same loans number)

    stays : other ≢ number
        → zones_due epoch place (loan_at (set loans number None) other)
        ≡ zones_due epoch place (loan_at loans other)
    stays different = ap (zones_due epoch place) (get_or-set_other loans number other None None
        different)

    taken : place ≡ loan.place → lent_zones number [] there.tree ≡ []
    taken here =
        ap (λ (s : QuestionState). lent_zones number [] s.tree)
        (the_new seats loan.place place seat new there found here is)
        ∙ ap (lent_zones number []) is_put
        ∙ lent_zones-put_same number leaf seat.tree [] (none number)

    nothing_there : place ≢ loan.place → lent_zones number [] there.tree ≡ []
    nothing_there apart =
        agree number place there (an_old seats loan.place place new there apart is)
        ∙ ap (zones_due epoch place) out
        ∙ not_due_at epoch place loan (λ e. apart (sym e))

    other_here : other ≢ number → place ≡ loan.place
        → lent_zones other [] there.tree ≡ zones_due epoch place (loan_at loans other)
    other_here different here =
        ap (λ (s : QuestionState). lent_zones other [] s.tree)
        (the_new seats loan.place place seat new there found here is)
        ∙ ap (lent_zones other []) is_put
        ∙ lent_zones-put_other number other leaf seat.tree [] (ne_eqb other number different) (none
        other)
        ∙ agree other place seat (ap (slice_get seats) here ∙ found)

-- a number of an earlier epoch came home
pub Agree-home : (epoch : ℕ) (seats : List QuestionState) (loans : List (Option Loan)) (number : ℕ)
    (loan : Loan) → Agree epoch seats loans → loan_at loans number ≡ Some loan
    → loan.epoch < epoch → Agree epoch seats (set loans number None)
Agree-home epoch seats loans number loan agree out earlier other place there is =
    elim (cases_eq other number) as (λ _. lent_zones other [] there.tree
    ≡ zones_due epoch place (loan_at (set loans number None) other)) [
      | inl same ↦
          agree other place there is ∙ ap (λ n. zones_due epoch place (loan_at loans n)) same
          ∙ ap (zones_due epoch place) out
          ∙ not_due_in epoch place loan (λ e. absurd (omega (arith, e)))
          ∙ sym (ap (zones_due epoch place) (loan_at-home_same loans number))
          ∙ sym (ap (λ n. zones_due epoch place (loan_at (set loans number None) n)) same)
      | inr different ↦
          agree other place there is
          ∙ sym (ap (zones_due epoch place) (get_or-set_other loans number other None None
          different))
    ]

-- what was lent in earlier epochs is not due in a new one, where nothing is lent
pub Agree-left : (epoch later places : ℕ) (seats : List QuestionState) (loans : List (Option Loan))
    → All (λ out. IfSome out (IsGoodLoan epoch places)) loans → epoch < later
    → ((number place : ℕ) (seat : QuestionState) → slice_get seats place ≡ Some seat
    → lent_zones number [] seat.tree ≡ [])
    → Agree later seats loans
Agree-left epoch later places seats loans all is_later none number place seat is =
    none number place seat is ∙ sym (by_loan (loan_at loans number) refl)
  where
    by_loan : (out : Option Loan) → loan_at loans number ≡ out → zones_due later place out ≡ []
    by_loan None at = refl
    by_loan (Some loan) at =
        let has_been = (loan_meets (IsGoodLoan epoch places) loans number loan all at).has_been in
        not_due_in later place loan (λ e. absurd (omega (arith, e, has_been)))
