-- What a reason says of a zone, with the extremes of its fixtures in place of their options and
-- sets of clubs in place of its marks.
use Rattle.std.specs.Prelude.{ℕ, ℤ, Bool, ◌&&◌, ◌||◌, int_lt, List, [], ◌∷◌}
use Rattle.std.specs.Int.{int_min, int_max}
use Rattle.std.specs.List.{list_all, list_any}
use Rattle.league_core.specs.declared.sheet.Sheet.{Sheet}
use Rattle.league_core.specs.declared.season.Score.{Score}
use Rattle.league_core.specs.declared.sure.Sure.{Sure}
use Rattle.league_core.specs.declared.question.Question.{Question}
use Rattle.league_core.specs.declared.zone.Reason.{Reason}
use Rattle.league_core.specs.declared.zone.Reason.TheVariants.{Count, Window, Low, High, Tie}
use Rattle.league_core.specs.game.Results.{Results}
use Rattle.league_core.specs.game.ClubSets.{clubs_in}
use Rattle.league_core.specs.search.Zones.{rivals_of}
use Rattle.league_core.specs.search.Options.{has_one_outcome}
use Rattle.league_core.specs.search.PointRanges.{Range, points_range}
use Rattle.league_core.specs.search.Reasons.{too_many, has_member, times}
use Rattle.league_core.specs.search.SureOrder.{sure_then, sure_by_points, sure_by, level_on_points}
use Rattle.league_core.specs.search.SureOrder.{is_above, is_below}

-- what is sure of a rival against the club
abbrev pub sure_over : Sheet → Results → List (List Score) → ℕ → ℕ → Sure
sure_over sheet season corners club rival =
    sure_then (sure_by_points sheet season corners rival club)
    (sure_by sheet.order sheet corners (level_on_points sheet season corners club) rival club)

-- the club's own points
abbrev pub own_range : Sheet → Results → Question → List (List Score) → Range
own_range sheet season question corners =
    points_range sheet season corners (question.club ∷ [])

-- the set's least points are above what its clubs may have at the most, all marked after
abbrev pub is_low : (ℕ → Bool) → ℤ → Range → List ℕ → Bool
is_low after most points clubs =
    has_member clubs && list_all after clubs && int_lt (times clubs most) points.least

-- the set's most points are below what its clubs have to have at the least, all marked before
abbrev pub is_high : (ℕ → Bool) → ℤ → Range → List ℕ → Bool
is_high before least points clubs =
    has_member clubs && list_all before clubs && int_lt points.greatest (times clubs least)

-- too many rivals are marked or surely stand on the other side, or one surely stands where it is
-- marked not to
abbrev pub is_decided : Sheet → Question → (ℕ → Bool) → (ℕ → Bool) → (ℕ → Sure) → Bool
is_decided sheet question before after sure =
    too_many sheet question (λ rival. before rival || is_above (sure rival))
    (λ rival. after rival || is_below (sure rival)) question.claim
    || list_any (λ rival. (after rival && is_above (sure rival))
    || (before rival && is_below (sure rival))) (rivals_of sheet question.club)

-- what the reason says
abbrev pub refutes_over : Sheet → Results → Question → List (List Score) → (ℕ → Bool)
    → (ℕ → Bool) → Reason → Bool
refutes_over sheet season question corners before after Count =
    too_many sheet question before after question.claim
refutes_over sheet season question corners before after Window =
    int_lt (own_range sheet season question corners).greatest question.low
    || int_lt question.high (own_range sheet season question corners).least
refutes_over sheet season question corners before after (Low set) =
    is_low after (int_min question.high (own_range sheet season question corners).greatest)
    (points_range sheet season corners (clubs_in set)) (clubs_in set)
refutes_over sheet season question corners before after (High set) =
    is_high before (int_max question.low (own_range sheet season question corners).least)
    (points_range sheet season corners (clubs_in set)) (clubs_in set)
refutes_over sheet season question corners before after Tie =
    list_all has_one_outcome corners
    && is_decided sheet question before after (sure_over sheet season corners question.club)
