-- Lists of results: what stays true when a score is written, and when there is none.
use Rattle.std.proofs.Common.{◌≡◌, ℕ, true, ◌&&◌, ◌==◌, List, set, replicate, Option, None, refl}
use Rattle.std.proofs.Common.{ap, ◌∙◌, leb}
use Rattle.std.specs.List.{list_all}
use Rattle.std.specs.Bool.{Decides}
use Rattle.std.proofs.lemmas.Bool.Decides.{Decides-eqb}
use Rattle.league_core.specs.declared.season.Score.{Score}
use Rattle.league_core.specs.game.Results.{is_score_or_none, are_results}
use Rattle.std.proofs.lemmas.Bool.{and_from, and_parts}
use Rattle.league_core.proofs.plain.Lists.{list_all-replicate, list_all-set}

-- a score that may be, or none, is written into results
pub are_results-set : (scores : List (Option Score)) (deductions : List ℕ) (i : ℕ)
    (score : Option Score) → is_score_or_none score ≡ true
    → are_results (record { scores = scores; deductions = deductions }) ≡ true
    → are_results (record { scores = set scores i score; deductions = deductions }) ≡ true
are_results-set scores deductions i score may_be all =
    let parts = and_parts _ _ all in
    and_from _ _ (list_all-set is_score_or_none scores i score may_be parts.0) parts.1

-- so many points that may be are taken off a club
pub are_results-deduct : (scores : List (Option Score)) (deductions : List ℕ) (club points : ℕ)
    → leb points 99 ≡ true
    → are_results (record { scores = scores; deductions = deductions }) ≡ true
    → are_results (record { scores = scores; deductions = set deductions club points }) ≡ true
are_results-deduct scores deductions club points may_be all =
    let parts = and_parts _ _ all in
    and_from _ _ parts.0 (list_all-set (λ n. leb n 99) deductions club points may_be parts.1)

-- two scores are equal exactly when their goals are
pub scores_decided : (s t : Score) → Decides ((s.home == t.home) && (s.away == t.away)) (s ≡ t)
scores_decided s t = (
  λ h. let parts = and_parts (s.home == t.home) (s.away == t.away) h in
      let home = (Decides-eqb s.home t.home).0 parts.0 in
      let away = (Decides-eqb s.away t.away).0 parts.1 in
      λ i. record { home = home i; away = away i },
  λ e. and_from _ _ ((Decides-eqb s.home t.home).1 (ap (λ (u : Score). u.home) e))
      ((Decides-eqb s.away t.away).1 (ap (λ (u : Score). u.away) e)),
)

-- no score, and no points taken off
pub are_results-unplayed : (scores : List (Option Score)) (deductions : List ℕ)
    (fixtures clubs : ℕ) → scores ≡ replicate fixtures None → deductions ≡ replicate clubs 0
    → are_results (record { scores = scores; deductions = deductions }) ≡ true
are_results-unplayed scores deductions fixtures clubs none nothing =
    and_from _ _ (ap (list_all is_score_or_none) none
    ∙ list_all-replicate is_score_or_none fixtures None refl)
    (ap (list_all (λ points. leb points 99)) nothing
    ∙ list_all-replicate (λ points. leb points 99) clubs 0 refl)
