-- The table: which club ranks before which, once the lots are drawn, and in which place.
use Rattle.std.specs.Prelude.{◌≡◌, ℕ, ◌+◌, Bool, ◌&&◌, ◌==◌, IsTrue, List, [], ◌∷◌, length, filter}
use Rattle.std.specs.Prelude.{count_by, nat_le}
use Rattle.std.specs.List.{list_all, range_with_len, position_or_len}
use Rattle.std.specs.declared.cmp.Ordering.{Ordering}
use Rattle.std.specs.declared.cmp.Ordering.TheVariants.{Less}
use Rattle.std.specs.Ordering.{int_eq, nat_cmp, ordering_then, is_lt}
use Rattle.league_core.specs.declared.sheet.Sheet.{Sheet}
use Rattle.league_core.specs.game.Results.{Results}
use Rattle.league_core.specs.game.Sheets.{clubs_of}
use Rattle.league_core.specs.game.Sums.{points_of, has_club}
use Rattle.league_core.specs.game.HeadToHead.{greater_first}
use Rattle.league_core.specs.game.Ahead.{standing_in}

-- lots name each of so many clubs, and no more: so each once
abbrev pub are_lots : ℕ → List ℕ → Bool
are_lots clubs lots = (length lots == clubs) && list_all (has_club lots) (range_with_len 0 clubs)

-- how many clubs are earlier in the lots
abbrev pub lot_of : List ℕ → ℕ → ℕ
lot_of lots club = position_or_len (λ drawn. drawn == club) lots

-- the clubs on the club's number of points, itself among them
abbrev pub tied_group_of : Sheet → Results → ℕ → List ℕ
tied_group_of sheet season club =
    filter (λ other. int_eq (points_of sheet season other) (points_of sheet season club))
    (clubs_of sheet)

-- Less if the one club ranks before the other: by points, then as the two stand in the group of all
-- clubs on those points, then by the lots
abbrev pub order_of : Sheet → Results → List ℕ → ℕ → ℕ → Ordering
order_of sheet season lots club other =
    ordering_then (greater_first (points_of sheet season club) (points_of sheet season other))
    (ordering_then (standing_in sheet season (tied_group_of sheet season club) club other)
    (nat_cmp (lot_of lots club) (lot_of lots other)))

-- the club ranks before the other
abbrev pub ranks_before : Sheet → Results → List ℕ → ℕ → ℕ → Bool
ranks_before sheet season lots club other = is_lt (order_of sheet season lots club other)

-- one more than the clubs that rank before it
abbrev pub place_of : Sheet → Results → List ℕ → ℕ → ℕ
place_of sheet season lots club =
    1 + count_by (λ other. ranks_before sheet season lots other club) (clubs_of sheet)

-- the club is among the first so many
abbrev pub is_inside : Sheet → Results → List ℕ → ℕ → ℕ → Bool
is_inside sheet season lots club line = nat_le (place_of sheet season lots club) line

-- each club of the list comes before all later ones
abbrev pub AreRanked : (ℕ → ℕ → Ordering) → List ℕ → Type 0
AreRanked order [] = Unit {0}
AreRanked order (club ∷ later) =
    ((other : ℕ) → IsTrue (has_club later other) → order club other ≡ Less) × AreRanked order later

-- the list has the sheet's clubs, and each of them ranks before all later ones
pub record IsTable (sheet : Sheet) (season : Results) (lots table : List ℕ) : Type 0 where
  pub ranked : AreRanked (order_of sheet season lots) table
  pub clubs : (club : ℕ) → has_club table club ≡ has_club (clubs_of sheet) club
