use Rattle.std.proofs.Common.{◌≢◌, ◌<◌, ◌+◌, ℕ, length}
use Rattle.league_core.specs.game.Ranking.{place_of}
use Rattle.cup_sheet.specs.CupLimits.{direct_places}
use Rattle.group_search.specs.inside.SecondLots.{second_lots}
use Rattle.group_search.proofs.second.lots_by_turns.Given as goal

-- none of the clubs that were passed leaves the club second
abbrev pub invariant-loop-first : goal.invariant-loop-first
invariant-loop-first l =
    (first : ℕ) → first < l.first → first ≢ l.club
    → place_of l.sheet l.finish (second_lots (length l.sheet.clubs) first l.club) l.club
    ≢ direct_places + 1
