-- Each zone of a kind is decided: it is split until nothing is left to split, by the weights of
-- zones.
use Rattle.std.proofs.Common.{◌⊎◌, inl, inr, ℕ, zero, suc, ◌+◌, ◌<◌, Bool, true, false, List}
use Rattle.std.proofs.Common.{refl, ◌∙◌, arith}
use Rattle.std.specs.List.{list_all}
use Rattle.std.proofs.lemmas.Bool.{and_from, cases_Bool}
use Rattle.std.proofs.lemmas.List.Folds.{list_all-append}
use Rattle.league_core.specs.declared.zone.Literal.{Literal}
use Rattle.league_core.specs.declared.zone.Test.{Test}
use Rattle.league_core.specs.search.Zones.{with_test}
use Rattle.depth_search.specs.inside.Cases.{refuted, split, case_nodes, is_made}
use Rattle.depth_search.specs.inside.Decided.{DecidedKind, IsZoneDecided, EachZoneIsDecided}

module _ {E R : Type 0} (kind : DecidedKind E R) where
  -- a zone with an example or a reason is decided
  at_end : (zone : List Literal)
      → ((example : E) × kind.there zone example) ⊎ ((reason : R) × kind.refutes zone reason)
      → IsZoneDecided kind zone
  at_end zone (inl found) = inl found
  at_end zone (inr found) = inr (refuted found.0, found.1, refl)

  -- and one whose halves are
  by_halves : (zone : List Literal) (test : Test) → kind.splits zone test
      → IsZoneDecided kind (with_test zone test true)
      → IsZoneDecided kind (with_test zone test false) → IsZoneDecided kind zone
  by_halves zone test may (inl found) second =
      inl (found.0, kind.from_half zone test true found.0 found.1)
  by_halves zone test may (inr first) (inl found) =
      inl (found.0, kind.from_half zone test false found.0 found.1)
  by_halves zone test may (inr first) (inr second) = inr (
    split test first.0 second.0,
    (may, first.1, second.1),
    list_all-append is_made (case_nodes first.0) (case_nodes second.0)
        ∙ and_from (list_all is_made (case_nodes first.0)) (list_all is_made (case_nodes second.0))
        first.2 second.2,
  )

  decided_within : (fuel : ℕ) (zone : List Literal) → kind.fits zone → kind.weight zone < fuel
      → IsZoneDecided kind zone
  decided_within zero zone fits light = absurd (omega arith)
  decided_within (suc fuel) zone fits light =
      elim (cases_Bool (kind.is_single zone)) as (λ _. IsZoneDecided kind zone) [
        | inl single ↦ at_end zone (kind.ends zone fits single)
        | inr several ↦
            let part = kind.parts zone fits several in
            let half : (holds : Bool) → IsZoneDecided kind (with_test zone part.0 holds) =
            λ holds. decided_within fuel (with_test zone part.0 holds)
            (kind.halves zone part.0 holds fits part.1)
            (omega (arith, kind.lighter zone part.0 holds fits part.1, light)) in
            by_halves zone part.0 part.1 (half true) (half false)
      ]

  -- so each zone is
  pub each_zone_decided : EachZoneIsDecided kind
  each_zone_decided zone fits =
      decided_within (kind.weight zone + 1) zone fits (omega arith)
