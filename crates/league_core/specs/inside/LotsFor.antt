-- What lots can do, and the lots that favour a claim: no drawing serves it better. To end inside a
-- line a club is best drawn first, to end outside it is best drawn last.
use Rattle.std.specs.Prelude.{◌≡◌, ◌≢◌, ℕ, ◌<◌, List, [], ◌∷◌, ◌++◌, length}
use Rattle.std.specs.declared.cmp.Ordering.{Ordering}
use Rattle.std.specs.Ordering.{ordering_then}
use Rattle.league_core.specs.declared.sheet.Sheet.{Sheet}
use Rattle.league_core.specs.declared.question.Claim.{Claim}
use Rattle.league_core.specs.declared.question.Claim.TheVariants.{Inside, Outside}
use Rattle.league_core.specs.game.Results.{Results}
use Rattle.league_core.specs.game.Sums.{points_of}
use Rattle.league_core.specs.game.HeadToHead.{greater_first}
use Rattle.league_core.specs.game.Ahead.{standing_in}
use Rattle.league_core.specs.game.Ranking.{tied_group_of, lot_of, place_of}
use Rattle.league_core.specs.search.Zones.{others_of}

-- how two clubs compare before the lots are looked at
abbrev pub order_without_lots : Sheet → Results → ℕ → ℕ → Ordering
order_without_lots sheet season club other =
    ordering_then (greater_first (points_of sheet season club) (points_of sheet season other))
    (standing_in sheet season (tied_group_of sheet season club) club other)

-- the club is drawn first, the others in the order of their numbers
abbrev pub first_lots : ℕ → ℕ → List ℕ
first_lots clubs club = club ∷ others_of clubs club

-- the others are drawn in the order of their numbers, the club last
abbrev pub last_lots : ℕ → ℕ → List ℕ
last_lots clubs club = others_of clubs club ++ club ∷ []

-- of so many clubs the one is drawn first for `Inside`, last for `Outside`
abbrev pub lots_for_claim : ℕ → ℕ → Claim → List ℕ
lots_for_claim clubs club Inside = first_lots clubs club
lots_for_claim clubs club Outside = last_lots clubs club

-- the lots favour the claim: the club is the first of all, or each other of so many clubs is
-- earlier
abbrev pub IsFavoured : Claim → ℕ → List ℕ → ℕ → Type 0
IsFavoured Inside clubs lots club = lot_of lots club ≡ 0
IsFavoured Outside clubs lots club =
    (other : ℕ) → other < clubs → other ≢ club → lot_of lots other < lot_of lots club

-- the club's place with the lots that favour it most
abbrev pub best_place_of : Sheet → Results → ℕ → ℕ
best_place_of sheet season club =
    place_of sheet season (lots_for_claim (length sheet.clubs) club Inside) club

-- the club's place with the lots that favour it least
abbrev pub worst_place_of : Sheet → Results → ℕ → ℕ
worst_place_of sheet season club =
    place_of sheet season (lots_for_claim (length sheet.clubs) club Outside) club
