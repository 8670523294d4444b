-- What holds of every season, by the definitions alone: each statement is the contract of a
-- function of src/laws.rt that does nothing.
use Rattle.std.specs.Prelude.{◌≡◌, ◌≢◌, ◌⊎◌, ◌<◌, ◌≤◌, ℕ, ◌<ℤ◌, ◌≤ℤ◌, IsTrue, List, [], ◌∷◌}
use Rattle.std.specs.Prelude.{◌++◌, length}
use Rattle.std.specs.Cmp.{IsTotalOrder}
use Rattle.std.specs.declared.cmp.Ordering.TheVariants.{Less}
use Rattle.league_core.specs.declared.sheet.Sheet.{Sheet}
use Rattle.league_core.specs.declared.season.Event.{Event}
use Rattle.league_core.specs.declared.question.Claim.{Claim}
use Rattle.league_core.specs.declared.question.Claim.TheVariants.{Inside, Outside}
use Rattle.league_core.specs.declared.question.Question.{Question}
use Rattle.league_core.specs.game.Sheets.{IsWithinLimits}
use Rattle.league_core.specs.game.Results.{Results, are_results}
use Rattle.league_core.specs.game.Seasons.{event_applied, season_after}
use Rattle.league_core.specs.game.Finishes.{IsFinishOf, is_played}
use Rattle.league_core.specs.game.Sums.{points_of}
use Rattle.league_core.specs.game.Ranking.{are_lots, lot_of, order_of, ranks_before, place_of}
use Rattle.league_core.specs.game.Ranking.{is_inside, IsTable}
use Rattle.league_core.specs.game.Questions.{is_on_side, is_in_window, holds_at, IsExample}
use Rattle.league_core.specs.game.Questions.{full_question}
use Rattle.league_core.specs.game.Verdicts.{IsClinched, IsLost, IsPossible}
use Rattle.league_core.specs.inside.LotsFor.{lots_for_claim, IsFavoured, best_place_of}
use Rattle.league_core.specs.inside.LotsFor.{worst_place_of, order_without_lots}

-- the club ranks before the other
abbrev pub RanksBefore : Sheet → Results → List ℕ → ℕ → ℕ → Type 0
RanksBefore sheet season lots club other = IsTrue (ranks_before sheet season lots club other)

-- a club that some lots put on one side of a line is put there by any lots that favour it
abbrev pub FavouredLotsAreBest : Type 0
FavouredLotsAreBest =
    (sheet : Sheet) (finish : Results) (claim : Claim) (club line : ℕ) (lots best : List ℕ)
    → IsFavoured claim (length sheet.clubs) best club
    → IsTrue (is_on_side (is_inside sheet finish lots club line) claim)
    → IsTrue (is_on_side (is_inside sheet finish best club line) claim)

-- a question that holds with some lots holds with any lots that favour its claim
abbrev pub FavouredLotsAnswer : Type 0
FavouredLotsAnswer =
    (sheet : Sheet) (question : Question) (finish : Results) (lots best : List ℕ)
    → IsFavoured question.claim (length sheet.clubs) best question.club
    → IsTrue (holds_at sheet question finish lots)
    → IsTrue (holds_at sheet question finish best)

-- a club's lots for a claim name each club once
abbrev pub LotsForAClaimAreLots : Type 0
LotsForAClaimAreLots =
    (clubs club : ℕ) (claim : Claim) → club < clubs
    → IsTrue (are_lots clubs (lots_for_claim clubs club claim))

-- they favour the claim
abbrev pub LotsForAClaimFavourIt : Type 0
LotsForAClaimFavourIt =
    (clubs club : ℕ) (claim : Claim) → IsFavoured claim clubs (lots_for_claim clubs club claim) club

-- no lots give a club a better place than its best
abbrev pub BestPlaceIsLeast : Type 0
BestPlaceIsLeast =
    (sheet : Sheet) (season : Results) (lots : List ℕ) (club : ℕ)
    → best_place_of sheet season club ≤ place_of sheet season lots club

-- no lots give it a worse place than its worst
abbrev pub WorstPlaceIsGreatest : Type 0
WorstPlaceIsGreatest =
    (sheet : Sheet) (season : Results) (lots : List ℕ) (club : ℕ)
    → place_of sheet season lots club ≤ worst_place_of sheet season club

-- a season in which every fixture has a score is a finish of itself
abbrev pub PlayedSeasonFinishesItself : Type 0
PlayedSeasonFinishesItself =
    (sheet : Sheet) (season : Results) → IsTrue (is_played season) → IsFinishOf sheet season season

-- and it has no other finish
abbrev pub PlayedSeasonIsItsOnlyFinish : Type 0
PlayedSeasonIsItsOnlyFinish =
    (sheet : Sheet) (season finish : Results)
    → IsTrue (is_played season) → IsFinishOf sheet season finish → finish ≡ season

-- in a played season a club has clinched a line if its worst place is inside it
abbrev pub ClinchedByTheWorstPlace : Type 0
ClinchedByTheWorstPlace =
    (sheet : Sheet) (season : Results) (club line : ℕ) → IsTrue (is_played season)
    → worst_place_of sheet season club ≤ line → IsClinched sheet season club line

-- and has lost it if its best place is outside it
abbrev pub LostByTheBestPlace : Type 0
LostByTheBestPlace =
    (sheet : Sheet) (season : Results) (club line : ℕ) → IsTrue (is_played season)
    → line < best_place_of sheet season club → IsLost sheet season club line

-- a best place inside the line is an example of it, with the season as its own finish
abbrev pub BestPlaceIsAnExample : Type 0
BestPlaceIsAnExample =
    (sheet : Sheet) (season : Results) (club line : ℕ)
    → IsWithinLimits sheet → IsTrue (are_results season) → IsTrue (is_played season)
    → club < length sheet.clubs → best_place_of sheet season club ≤ line
    → IsExample sheet season (full_question club line Inside) season
    (lots_for_claim (length sheet.clubs) club Inside)

-- a worst place outside the line is an example of that
abbrev pub WorstPlaceIsAnExample : Type 0
WorstPlaceIsAnExample =
    (sheet : Sheet) (season : Results) (club line : ℕ)
    → IsWithinLimits sheet → IsTrue (are_results season) → IsTrue (is_played season)
    → club < length sheet.clubs → line < worst_place_of sheet season club
    → IsExample sheet season (full_question club line Outside) season
    (lots_for_claim (length sheet.clubs) club Outside)

-- no points of a sheet within limits fall out of the full window
abbrev pub PointsAreInTheFullWindow : Type 0
PointsAreInTheFullWindow =
    (sheet : Sheet) (season : Results) (club line : ℕ) (claim : Claim)
    → IsWithinLimits sheet → IsTrue (are_results season)
    → IsTrue (is_in_window (full_question club line claim) (points_of sheet season club))

-- the order of the ranking is total, whatever the season and the lots
abbrev pub RankingIsATotalOrder : Type 0
RankingIsATotalOrder =
    (sheet : Sheet) (season : Results) (lots : List ℕ) → IsTotalOrder (order_of sheet season lots)

-- of two different clubs of the sheet one ranks before the other
abbrev pub OneOfTwoRanksBefore : Type 0
OneOfTwoRanksBefore =
    (sheet : Sheet) (season : Results) (lots : List ℕ) (club other : ℕ)
    → IsTrue (are_lots (length sheet.clubs) lots)
    → club < length sheet.clubs → other < length sheet.clubs → club ≢ other
    → RanksBefore sheet season lots club other ⊎ RanksBefore sheet season lots other club

-- and the other then does not rank before it
abbrev pub NeverBothRankBefore : Type 0
NeverBothRankBefore =
    (sheet : Sheet) (season : Results) (lots : List ℕ) (club other : ℕ)
    → RanksBefore sheet season lots club other → ¬ RanksBefore sheet season lots other club

-- no club ranks before itself
abbrev pub NoneRanksBeforeItself : Type 0
NoneRanksBeforeItself =
    (sheet : Sheet) (season : Results) (lots : List ℕ) (club : ℕ)
    → ¬ RanksBefore sheet season lots club club

-- a club that ranks before another one has the lower place
abbrev pub BeforeIsALowerPlace : Type 0
BeforeIsALowerPlace =
    (sheet : Sheet) (season : Results) (lots : List ℕ) (club other : ℕ)
    → club < length sheet.clubs → RanksBefore sheet season lots club other
    → place_of sheet season lots club < place_of sheet season lots other

-- no place comes after the number of clubs
abbrev pub PlacesAreAsManyAsClubs : Type 0
PlacesAreAsManyAsClubs =
    (sheet : Sheet) (season : Results) (lots : List ℕ) (club : ℕ)
    → club < length sheet.clubs → place_of sheet season lots club ≤ length sheet.clubs

-- a club with more points ranks before one with fewer
abbrev pub MorePointsRankBefore : Type 0
MorePointsRankBefore =
    (sheet : Sheet) (season : Results) (lots : List ℕ) (club other : ℕ)
    → points_of sheet season other <ℤ points_of sheet season club
    → RanksBefore sheet season lots club other

-- no club ranks before one with more points
abbrev pub NoneRanksBeforeMorePoints : Type 0
NoneRanksBeforeMorePoints =
    (sheet : Sheet) (season : Results) (lots : List ℕ) (club other : ℕ)
    → RanksBefore sheet season lots club other
    → points_of sheet season other ≤ℤ points_of sheet season club

-- the season after one event more is the season before it, with that event applied
abbrev pub EventsAreTakenInOrder : Type 0
EventsAreTakenInOrder =
    (sheet : Sheet) (events : List Event) (event : Event)
    → season_after sheet (events ++ event ∷ []) ≡ event_applied (season_after sheet events) event

-- each season has a finish
abbrev pub EachSeasonHasAFinish : Type 0
EachSeasonHasAFinish =
    (sheet : Sheet) (season : Results) → (finish : Results) × IsFinishOf sheet season finish

-- what is possible is not clinched
abbrev pub PossibleExcludesClinched : Type 0
PossibleExcludesClinched =
    (sheet : Sheet) (season : Results) (club line : ℕ)
    → IsPossible sheet season club line → ¬ IsClinched sheet season club line

-- nor lost
abbrev pub PossibleExcludesLost : Type 0
PossibleExcludesLost =
    (sheet : Sheet) (season : Results) (club line : ℕ)
    → IsPossible sheet season club line → ¬ IsLost sheet season club line

-- no club has clinched a line and lost it
abbrev pub ClinchedExcludesLost : Type 0
ClinchedExcludesLost =
    (sheet : Sheet) (season : Results) (club line : ℕ)
    → IsWithinLimits sheet → IsTrue (are_results season) → club < length sheet.clubs
    → IsClinched sheet season club line → ¬ IsLost sheet season club line

-- no club stands in the table behind one that points or criteria put after it
abbrev pub IsAllowedTable : Sheet → Results → List ℕ → Type 0
IsAllowedTable sheet season table =
    (club other : ℕ) → club < length sheet.clubs → other < length sheet.clubs
    → order_without_lots sheet season club other ≡ Less → lot_of table club < lot_of table other

-- lots that are allowed as a table are the table that they give
abbrev pub AllowedTableAsLots : Type 0
AllowedTableAsLots =
    (sheet : Sheet) (season : Results) (table : List ℕ)
    → IsTrue (are_lots (length sheet.clubs) table) → IsAllowedTable sheet season table
    → IsTable sheet season table table
