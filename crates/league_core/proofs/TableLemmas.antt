-- What the order says of points, of lots that are a table that is wanted, and of events.
use Rattle.std.proofs.Common.{◌≡◌, ℕ, ◌<◌, ◌<ℤ◌, ◌≤ℤ◌, true, List, [], ◌∷◌, ◌++◌, length, Ordering}
use Rattle.std.proofs.Common.{Less, Equal, Greater, is_lt, nat_cmp, refl, sym, ◌∙◌, ap}
use Rattle.std.specs.Ordering.{ordering_then, ordering_reverse}
use Rattle.std.proofs.lemmas.Bool.{false≢true}
use Rattle.std.proofs.lemmas.Int.{by_lt_z}
use Rattle.std.proofs.lemmas.List.Sums.{fold_push}
use Rattle.league_core.specs.declared.sheet.Sheet.{Sheet}
use Rattle.league_core.specs.game.Results.{Results}
use Rattle.league_core.specs.declared.season.Event.{Event}
use Rattle.league_core.specs.game.Seasons.{unplayed_season, event_applied, season_after}
use Rattle.league_core.specs.game.Sums.{points_of}
use Rattle.league_core.specs.game.Ahead.{standing_in}
use Rattle.league_core.specs.game.Ranking.{lot_of, tied_group_of, order_of, ranks_before}
use Rattle.league_core.specs.inside.LotsFor.{order_without_lots}
use Rattle.league_core.proofs.RankingLemmas.{order_of-lots, order_of_total}
use Rattle.league_core.proofs.RankingLemmas.{order_without_lots_total}
use Rattle.league_core.proofs.plain.Orderings.{nat_cmp-less, nat_cmp-greater, int_cmp-less}

-- more points come first
pub order_of-points : (sheet : Sheet) (season : Results) (lots : List ℕ) (club other : ℕ)
    → points_of sheet season other <ℤ points_of sheet season club
    → order_of sheet season lots club other ≡ Less
order_of-points sheet season lots club other h =
    ap (λ (o : Ordering). ordering_then o
    (ordering_then (standing_in sheet season (tied_group_of sheet season club) club other)
    (nat_cmp (lot_of lots club) (lot_of lots other))))
    (int_cmp-less (points_of sheet season other) (points_of sheet season club) h)

pub ranks_before-more : (sheet : Sheet) (season : Results) (lots : List ℕ) (club other : ℕ)
    → points_of sheet season other <ℤ points_of sheet season club
    → ranks_before sheet season lots club other ≡ true
ranks_before-more sheet season lots club other more =
    ap is_lt (order_of-points sheet season lots club other more)

-- who comes first has as many points or more
pub ranks_before-points : (sheet : Sheet) (season : Results) (lots : List ℕ) (club other : ℕ)
    → ranks_before sheet season lots club other ≡ true
    → points_of sheet season other ≤ℤ points_of sheet season club
ranks_before-points sheet season lots club other before =
    by_lt_z {P = points_of sheet season other ≤ℤ points_of sheet season club}
    (points_of sheet season club) (points_of sheet season other)
    (λ fewer. absurd (false≢true
    (sym (ap is_lt ((order_of_total sheet season lots).antisymm club other
    ∙ ap ordering_reverse (order_of-points sheet season lots other club fewer))) ∙ before)))
    (λ enough. enough)

-- a comparison that the lots do not contradict is the one by the lots
by_the_lots : (here there : Ordering) (i j : ℕ) → here ≡ ordering_reverse there
    → (here ≡ Less → i < j) → (there ≡ Less → j < i) → ordering_then here (nat_cmp i j)
    ≡ nat_cmp i j
by_the_lots Less there i j e h k = sym (nat_cmp-less i j (h refl))
by_the_lots Equal there i j e h k = refl
by_the_lots Greater Less i j e h k = sym (nat_cmp-greater i j (k refl))
by_the_lots Greater Equal i j e h k = absurd (let c : Greater ≡ Equal = e in cc)
by_the_lots Greater Greater i j e h k = absurd (let c : Greater ≡ Less = e in cc)

-- lots that are a table which the criteria allow give that table
pub order_of-wanted : (sheet : Sheet) (season : Results) (wanted : List ℕ)
    → ((club other : ℕ) → club < length sheet.clubs → other < length sheet.clubs
    → order_without_lots sheet season club other ≡ Less → lot_of wanted club < lot_of wanted other)
    → (club other : ℕ) → club < length sheet.clubs → other < length sheet.clubs
    → order_of sheet season wanted club other ≡ nat_cmp (lot_of wanted club) (lot_of wanted other)
order_of-wanted sheet season wanted allowed club other below other_below =
    order_of-lots sheet season wanted club other
    ∙ by_the_lots (order_without_lots sheet season club other)
    (order_without_lots sheet season other club) (lot_of wanted club) (lot_of wanted other)
    ((order_without_lots_total sheet season).antisymm club other)
    (allowed club other below other_below) (allowed other club other_below below)

-- one event more is applied to the season that the others led to
pub season_after-push : (sheet : Sheet) (events : List Event) (event : Event)
    → season_after sheet (events ++ event ∷ []) ≡ event_applied (season_after sheet events) event
season_after-push sheet events event =
    fold_push event_applied (unplayed_season (length sheet.clubs) (length sheet.fixtures)) events
    event
