-- What a club can reach: over some finishes of a season its best place with the club first in the
-- lots, and its worst with the club last, each with a finish that shows it.
use Rattle.std.specs.Prelude.{◌≡◌, ◌<◌, ◌≤◌, ℕ, nat_lt, ◌||◌, IsTrue, if◌then◌else◌, List, length}
use Rattle.std.specs.Prelude.{map, slice_index_or}
use Rattle.league_core.specs.declared.sheet.Sheet.{Sheet}
use Rattle.league_core.specs.game.Results.{Results}
use Rattle.league_core.specs.game.Finishes.{IsFinishOf}
use Rattle.league_core.specs.inside.LotsFor.{best_place_of, worst_place_of}
use Rattle.reference_programs.specs.declared.reach.Reach.{Reach}
use Rattle.final_rank.specs.declared.span.PlaceRange.{PlaceRange}
use Rattle.reference_programs.specs.inside.Walks.{number_in}
use Rattle.final_rank.specs.inside.Spans.{spans_of}

-- the reach of a club over those finishes that pass a test: each of its places comes with one of
-- them that has it, and none of them has a better one, or a worse one
pub record IsReachOver (Passes : Results → Type 0) (sheet : Sheet) (club : ℕ) (reach : Reach)
    : Type 0 where
  pub best_passes : Passes reach.best_finish
  pub best : best_place_of sheet reach.best_finish club ≡ reach.best
  pub none_better : (finish : Results) → Passes finish
      → reach.best ≤ best_place_of sheet finish club
  pub worst_passes : Passes reach.worst_finish
  pub worst : worst_place_of sheet reach.worst_finish club ≡ reach.worst
  pub none_worse : (finish : Results) → Passes finish
      → worst_place_of sheet finish club ≤ reach.worst

-- the reach of a club over all finishes of the season
abbrev pub IsReachOf : Sheet → Results → ℕ → Reach → Type 0
IsReachOf sheet season club reach = IsReachOver (IsFinishOf sheet season) sheet club reach

-- for each club of the sheet, in the sheet's order, its reach over those finishes that pass
pub record AreReachesOver (Passes : Results → Type 0) (sheet : Sheet) (reaches : List Reach)
    : Type 0 where
  pub clubs : length reaches ≡ length sheet.clubs
  pub each : (club : ℕ) (none : Reach) → club < length reaches
      → IsReachOver Passes sheet club (slice_index_or reaches club none)

-- the reaches of all clubs over all finishes of the season
abbrev pub AreReaches : Sheet → Results → List Reach → Type 0
AreReaches sheet season reaches = AreReachesOver (IsFinishOf sheet season) sheet reaches

-- a finish of the season that stands before a number in the list of all
pub record IsBefore (sheet : Sheet) (season : Results) (bound : ℕ) (finish : Results) : Type 0 where
  pub is_finish : IsFinishOf sheet season finish
  pub number : number_in sheet season finish < bound

-- the reach over one finish, by the places that it leaves the club
abbrev pub reach_at : PlaceRange → Results → Reach
reach_at span finish =
    record { best = span.best; best_finish = finish; worst = span.worst; worst_finish = finish }

-- those of all clubs over one finish, in the sheet's order
abbrev pub first_reaches_of : Sheet → Results → List Reach
first_reaches_of sheet finish = map (λ span. reach_at span finish) (spans_of sheet finish)

-- the reach with one finish more, if this finish leaves the club a better place than its best
abbrev pub with_better : Reach → ℕ → Results → Reach
with_better reach place finish =
    if nat_lt place reach.best
    then record reach { best = place; best_finish = finish } else reach

-- the same by the greater of two places, for the worst
abbrev pub with_worse : Reach → ℕ → Results → Reach
with_worse reach place finish =
    if nat_lt reach.worst place
    then record reach { worst = place; worst_finish = finish } else reach

-- the reach with one finish more, whose places are a club's best and its worst
abbrev pub with_finish : Reach → PlaceRange → Results → Reach
with_finish reach span finish = with_worse (with_better reach span.best finish) span.worst finish

-- the places are better than the best of the reach, or worse than its worst
abbrev pub Widens : Reach → PlaceRange → Type 0
Widens reach span = IsTrue (nat_lt span.best reach.best || nat_lt reach.worst span.worst)

-- each club's reach has the finish too, by the places that it leaves the club
pub record TakesFinish (old new : List Reach) (spans : List PlaceRange) (finish : Results) : Type 0
  where
    pub as_many : length new ≡ length old
    pub each : (club : ℕ) (none : Reach) (blank : PlaceRange) → club < length old
        → slice_index_or new club none
        ≡ with_finish (slice_index_or old club none) (slice_index_or spans club blank) finish
