-- The places that one season leaves the clubs: the least, with the club first in the lots, and the
-- greatest, with the club last.
use Rattle.std.specs.Prelude.{ℕ, List, map}
use Rattle.league_core.specs.declared.sheet.Sheet.{Sheet}
use Rattle.league_core.specs.game.Results.{Results}
use Rattle.league_core.specs.game.Sheets.{clubs_of}
use Rattle.league_core.specs.inside.LotsFor.{best_place_of, worst_place_of}
use Rattle.final_rank.specs.declared.span.PlaceRange.{PlaceRange}

-- a club's best and worst place
abbrev pub span_of : Sheet → Results → ℕ → PlaceRange
span_of sheet season club =
    record { best = best_place_of sheet season club; worst = worst_place_of sheet season club }

-- those of all clubs, in the sheet's order
abbrev pub spans_of : Sheet → Results → List PlaceRange
spans_of sheet season = map (span_of sheet season) (clubs_of sheet)
