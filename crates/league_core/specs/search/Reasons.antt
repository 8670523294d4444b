-- Reasons: why a question holds nowhere in a zone. Each is one only if the zone has a finish.
use Rattle.std.specs.Prelude.{ℕ, ℤ, pos, ◌-◌, ◌*ℤ◌, Bool, false, true, ◌&&◌, ◌||◌, nat_le, int_lt}
use Rattle.std.specs.Prelude.{List, [], ◌∷◌, length, count_by}
use Rattle.std.specs.List.{list_all, list_any}
use Rattle.league_core.specs.declared.sheet.Sheet.{Sheet}
use Rattle.league_core.specs.declared.question.Claim.{Claim}
use Rattle.league_core.specs.declared.question.Claim.TheVariants.{Inside, Outside}
use Rattle.league_core.specs.declared.question.Question.{Question}
use Rattle.league_core.specs.declared.zone.Literal.{Literal}
use Rattle.league_core.specs.declared.zone.Reason.{Reason}
use Rattle.league_core.specs.declared.zone.Reason.TheVariants.{Count, Window, Low, High, Tie}
use Rattle.league_core.specs.game.Results.{Results}
use Rattle.league_core.specs.game.ClubSets.{clubs_in}
use Rattle.league_core.specs.search.Zones.{rivals_of, marked_before, marked_after}
use Rattle.league_core.specs.search.Options.{options_in, has_finish, has_one_outcome}
use Rattle.league_core.specs.search.PointRanges.{least_points_of, most_points_of, own_most}
use Rattle.league_core.specs.search.PointRanges.{own_least}
use Rattle.league_core.specs.search.SureOrder.{sure_order, is_above, is_below}

-- too many rivals are ahead for a place inside the line: as many as it has places; or too many are
-- behind for a place outside it: as many as it leaves
abbrev pub too_many : Sheet → Question → (ℕ → Bool) → (ℕ → Bool) → Claim → Bool
too_many sheet question front back Inside =
    nat_le question.line (count_by front (rivals_of sheet question.club))
too_many sheet question front back Outside =
    nat_le (length sheet.clubs - question.line) (count_by back (rivals_of sheet question.club))

-- the zone marks too many rivals
abbrev pub refutes_by_count : Sheet → Question → List Literal → Bool
refutes_by_count sheet question zone =
    too_many sheet question (marked_before zone) (marked_after zone) question.claim

-- the club's points stay below the window, or above it
abbrev pub refutes_by_window : Sheet → Results → Question → List Literal → Bool
refutes_by_window sheet season question zone =
    int_lt (most_points_of sheet season zone (question.club ∷ [])) question.low
    || int_lt question.high (least_points_of sheet season zone (question.club ∷ []))

-- a set of clubs with a member
abbrev pub has_member : List ℕ → Bool
has_member [] = false
has_member (club ∷ clubs) = true

-- so many clubs with so many points each
abbrev pub times : List ℕ → ℤ → ℤ
times clubs points = pos (length clubs) *ℤ points

-- a floor cut: these rivals, all marked after the club, have at the least more points than if each
-- had the club's most within its window
abbrev pub refutes_by_low : Sheet → Results → Question → List Literal → List ℕ → Bool
refutes_by_low sheet season question zone clubs =
    has_member clubs && list_all (marked_after zone) clubs
    && int_lt (times clubs (own_most sheet season question zone))
    (least_points_of sheet season zone clubs)

-- a ceiling cut: these rivals, all marked before the club, have at the most fewer points than if
-- each had the club's least within its window
abbrev pub refutes_by_high : Sheet → Results → Question → List Literal → List ℕ → Bool
refutes_by_high sheet season question zone clubs =
    has_member clubs && list_all (marked_before zone) clubs
    && int_lt (most_points_of sheet season zone clubs)
    (times clubs (own_least sheet season question zone))

-- the rival is surely before the club
abbrev pub is_surely_above : Sheet → Results → Question → List Literal → ℕ → Bool
is_surely_above sheet season question zone rival =
    is_above (sure_order sheet season zone rival question.club)

-- the rival is surely behind the club
abbrev pub is_surely_below : Sheet → Results → Question → List Literal → ℕ → Bool
is_surely_below sheet season question zone rival =
    is_below (sure_order sheet season zone rival question.club)

-- too many rivals are marked, or surely stand, on the other side
abbrev pub are_too_many_sure : Sheet → Results → Question → List Literal → Bool
are_too_many_sure sheet season question zone =
    too_many sheet question
    (λ rival. marked_before zone rival || is_surely_above sheet season question zone rival)
    (λ rival. marked_after zone rival || is_surely_below sheet season question zone rival)
    question.claim

-- a rival surely stands where the zone says that it does not
abbrev pub is_surely_wrong : Sheet → Results → Question → List Literal → ℕ → Bool
is_surely_wrong sheet season question zone rival =
    (marked_after zone rival && is_surely_above sheet season question zone rival)
    || (marked_before zone rival && is_surely_below sheet season question zone rival)

-- the criteria: each fixture has one outcome, and too many rivals are marked or surely on the other
-- side, or a rival surely is not where it is marked
abbrev pub refutes_by_tie : Sheet → Results → Question → List Literal → Bool
refutes_by_tie sheet season question zone =
    list_all has_one_outcome (options_in sheet season zone)
    && (are_too_many_sure sheet season question zone
    || list_any (is_surely_wrong sheet season question zone) (rivals_of sheet question.club))

-- what the reason says of the zone
abbrev pub refutes : Sheet → Results → Question → List Literal → Reason → Bool
refutes sheet season question zone Count = refutes_by_count sheet question zone
refutes sheet season question zone Window = refutes_by_window sheet season question zone
refutes sheet season question zone (Low clubs) =
    refutes_by_low sheet season question zone (clubs_in clubs)
refutes sheet season question zone (High clubs) =
    refutes_by_high sheet season question zone (clubs_in clubs)
refutes sheet season question zone Tie = refutes_by_tie sheet season question zone

-- the zone has a finish, and the reason holds there
unfoldable pub has_reason : Sheet → Results → Question → List Literal → Reason → Bool
has_reason sheet season question zone reason =
    has_finish sheet season zone && refutes sheet season question zone reason
