-- Points where each match has one outcome: a club has one value of them.
use Rattle.std.proofs.Common.{◌≡◌, ℕ, true, [], ◌∷◌, refl, sym, ap, ◌∙◌}
use Rattle.std.proofs.lemmas.Bool.Decides.{Decides-int_eq}
use Rattle.league_core.specs.search.PointRanges.{Range, one_value, points_range, least_points_of}
use Rattle.league_core.specs.search.SureOrder.{sure_by_range, sure_by_points}
use Rattle.league_core.proofs.RangeLemmas.{same_range}
use Rattle.reason_laws.proofs.SureOrderLemmas.{points_fixed}
use Rattle.score_box.specs.inside.ZoneBoxViews.{ZoneBoxView}
use Rattle.tie_bound.specs.inside.Boxes.{options_in_box, have_one_outcome}

-- the range of a club's points is its least
points_range-fixed : (box : ZoneBoxView) (club : ℕ) → have_one_outcome box ≡ true
    → points_range box.sheet box.season (options_in_box box) (club ∷ [])
    ≡ one_value (least_points_of box.sheet box.season box.zone (club ∷ []))
unfolding least_points_of
points_range-fixed box club fixed =
    let range : Range = points_range box.sheet box.season (options_in_box box) (club ∷ []) in
    let same : range.least ≡ range.greatest = (Decides-int_eq range.least range.greatest).0
    (points_fixed box.sheet box.season box.zone club fixed) in
    same_range range (one_value range.least) refl (sym same)

-- the least points of two clubs say what is sure of them
pub sure_by_range-least : (box : ZoneBoxView) (rival club : ℕ) → have_one_outcome box ≡ true
    → sure_by_range (one_value (least_points_of box.sheet box.season box.zone (rival ∷ [])))
    (one_value (least_points_of box.sheet box.season box.zone (club ∷ [])))
    ≡ sure_by_points box.sheet box.season (options_in_box box) rival club
sure_by_range-least box rival club fixed =
    ap (λ (r : Range). sure_by_range r (one_value (least_points_of box.sheet box.season box.zone
    (club ∷ [])))) (sym (points_range-fixed box rival fixed))
    ∙ ap (λ (r : Range). sure_by_range (points_range box.sheet box.season (options_in_box box)
    (rival ∷ [])) r) (sym (points_range-fixed box club fixed))
