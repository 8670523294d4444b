use Rattle.std.proofs.Common.{◌≡◌, ℕ, replicate, inl, inr, arith, ap, ◌∙◌}
use Rattle.std.proofs.lemmas.Bool.{cases_lt}
use Rattle.std.proofs.lemmas.List.{get_or-replicate, get_or_past, length-replicate}
use Rattle.score_box.specs.declared.totals.Totals.{Totals}
use Rattle.score_box.specs.inside.Totals.{no_totals, totals_at}
use Rattle.score_box.proofs.tables.Tables.of.Goals as goal

none_at : (count place : ℕ) → totals_at (replicate count no_totals) place ≡ no_totals
none_at count place =
    elim (cases_lt place count) as (λ _. totals_at (replicate count no_totals) place ≡ no_totals) [
      | inl within ↦ get_or-replicate count place no_totals no_totals within
      | inr past ↦ get_or_past (replicate count no_totals) place no_totals
          (omega (arith, length-replicate {A = Totals}))
    ]

pub add_all-requires-clause-no_club : goal.add_all-requires-clause-no_club
add_all-requires-clause-no_club c = λ place.
    ap (λ t. totals_at t place) (c.deref_mut.ensures.value
    ∙ c.in_ok-clubs.ensures.items_if_clones_equal (λ _ same. same))
    ∙ none_at 24 place

pub add_all-requires-clause-no_pair : goal.add_all-requires-clause-no_pair
add_all-requires-clause-no_pair c = λ place.
    ap (λ t. totals_at t place) (c.deref_mut-2.ensures.value
    ∙ c.in_ok-pairs.ensures.items_if_clones_equal (λ _ same. same))
    ∙ none_at 576 place
