-- The ranking is a total order of all clubs, and with lots no two clubs are level in it.
use Rattle.std.proofs.Common.{◌≡◌, ◌≢◌, ◌⊎◌, ℕ, ℤ, ◌<◌, true, false, ◌==◌, List, ◌∷◌, length}
use Rattle.std.proofs.Common.{get_or, Equal, is_eq, is_lt, nat_cmp, sym, ◌∙◌, ap, subst, arith}
use Rattle.std.specs.Cmp.{IsTotalOrder}
use Rattle.std.specs.List.{list_all, range_with_len}
use Rattle.std.specs.Ordering.{ordering_then, int_eq}
use Rattle.std.proofs.lemmas.Bool.{and_parts, eqb-true}
use Rattle.std.proofs.lemmas.Cmp.{int_cmp_total, nat_cmp_total, on_total, then_total, alike_right}
use Rattle.std.proofs.lemmas.Cmp.{tied_itself}
use Rattle.std.proofs.lemmas.List.Elements.{filter_agree}
use Rattle.std.proofs.lemmas.List.Sums.{passes_at_first}
use Rattle.league_core.specs.declared.sheet.Sheet.{Sheet}
use Rattle.league_core.specs.game.Results.{Results}
use Rattle.league_core.specs.game.Sheets.{clubs_of}
use Rattle.league_core.specs.game.Sums.{points_of, has_club}
use Rattle.league_core.specs.game.HeadToHead.{greater_first, by_first_difference}
use Rattle.league_core.specs.game.Ahead.{standing_in}
use Rattle.league_core.specs.game.Ranking.{are_lots, lot_of, tied_group_of, order_of, ranks_before}
use Rattle.league_core.specs.inside.LotsFor.{order_without_lots}
use Rattle.league_core.proofs.ClubLemmas.{lot_of-within}
use Rattle.league_core.proofs.StandingLemmas.{by_first_difference_total, key_by, standing_by-key}
use Rattle.league_core.proofs.plain.Orderings.{then_agree, then-then, then-equal, nat_cmp-equal}
use Rattle.league_core.proofs.plain.Orderings.{less-is_lt, not_both, one_first}
use Rattle.league_core.proofs.plain.Runs.{each_in_range}

-- two clubs on one number of points are tied with the same clubs
pub tied_group_of-tied : (sheet : Sheet) (season : Results) (club other : ℕ)
    → greater_first (points_of sheet season club) (points_of sheet season other) ≡ Equal
    → tied_group_of sheet season club ≡ tied_group_of sheet season other
tied_group_of-tied sheet season club other tied =
    let mine = points_of sheet season club in
    let theirs = points_of sheet season other in
    filter_agree (λ (third : ℕ). int_eq (points_of sheet season third) mine)
    (λ (third : ℕ). int_eq (points_of sheet season third) theirs)
    (λ third. ap is_eq
    (sym (alike_right int_cmp_total theirs mine (points_of sheet season third) tied)))
    (clubs_of sheet)

-- the points, and then the key in the group of all clubs on those points
abbrev pub key_of : Sheet → Results → ℕ → List ℤ
key_of sheet season club =
    let group = tied_group_of sheet season club in
    points_of sheet season club ∷ key_by sheet.order sheet season group club

-- before the lots, clubs compare by their keys
pub order_without_lots-key : (sheet : Sheet) (season : Results) (club other : ℕ)
    → order_without_lots sheet season club other
    ≡ by_first_difference (key_of sheet season club) (key_of sheet season other)
order_without_lots-key sheet season club other =
    let group = tied_group_of sheet season club in
    then_agree (greater_first (points_of sheet season club) (points_of sheet season other)) _ _
    (λ tied. standing_by-key sheet.order sheet season group club other
    ∙ ap (λ (g : List ℕ). by_first_difference (key_by sheet.order sheet season group club)
    (key_by sheet.order sheet season g other))
    (tied_group_of-tied sheet season club other tied))

-- before the lots, clubs are in a total order
pub order_without_lots_total : (sheet : Sheet) (season : Results)
    → IsTotalOrder (order_without_lots sheet season)
order_without_lots_total sheet season =
    subst IsTotalOrder (λ i a b. sym (order_without_lots-key sheet season a b) i)
    (on_total (key_of sheet season) by_first_difference_total)

-- the order is the one without lots, and then the lots
pub order_of-lots : (sheet : Sheet) (season : Results) (lots : List ℕ) (club other : ℕ)
    → order_of sheet season lots club other
    ≡ ordering_then (order_without_lots sheet season club other)
    (nat_cmp (lot_of lots club) (lot_of lots other))
order_of-lots sheet season lots club other =
    sym (then-then (greater_first (points_of sheet season club) (points_of sheet season other))
    (standing_in sheet season (tied_group_of sheet season club) club other)
    (nat_cmp (lot_of lots club) (lot_of lots other)))

-- the order is total, whatever list of numbers the lots are
pub order_of_total : (sheet : Sheet) (season : Results) (lots : List ℕ)
    → IsTotalOrder (order_of sheet season lots)
order_of_total sheet season lots =
    subst IsTotalOrder (λ i a b. sym (order_of-lots sheet season lots a b) i)
    (then_total (order_without_lots_total sheet season) (on_total (lot_of lots) nat_cmp_total))

-- lots have each of the clubs
pub lots_have : (clubs : ℕ) (lots : List ℕ) (club : ℕ) → are_lots clubs lots ≡ true → club < clubs
    → has_club lots club ≡ true
lots_have clubs lots club h below =
    each_in_range (has_club lots) 0 clubs
    (and_parts (length lots == clubs) (list_all (has_club lots) (range_with_len 0 clubs)) h).1 club
    (omega arith) (omega arith)

-- the club that stands where the lots place a club is that club
drawn_there : (lots : List ℕ) (club : ℕ) → has_club lots club ≡ true
    → get_or lots (lot_of lots club) 0 ≡ club
drawn_there lots club h =
    eqb-true (get_or lots (lot_of lots club) 0) club
    (passes_at_first (λ drawn. drawn == club) lots 0 (lot_of-within lots club h))

-- the lots place no two of their clubs alike
pub lot_of-different : (lots : List ℕ) (club other : ℕ) → has_club lots club ≡ true
    → has_club lots other ≡ true → lot_of lots club ≡ lot_of lots other → club ≡ other
lot_of-different lots club other has has_other same =
    sym (drawn_there lots club has) ∙ ap (λ (k : ℕ). get_or lots k 0) same
    ∙ drawn_there lots other has_other

-- with lots, two different clubs never compare as equal
pub order_of-different : (sheet : Sheet) (season : Results) (lots : List ℕ) (club other : ℕ)
    → are_lots (length sheet.clubs) lots ≡ true → club < length sheet.clubs → other
    < length sheet.clubs → club ≢ other → order_of sheet season lots club other ≢ Equal
order_of-different sheet season lots club other drawn below other_below different tied =
    let split = then-equal (order_without_lots sheet season club other)
    (nat_cmp (lot_of lots club) (lot_of lots other))
    (sym (order_of-lots sheet season lots club other) ∙ tied) in
    different (lot_of-different lots club other
    (lots_have (length sheet.clubs) lots club drawn below)
    (lots_have (length sheet.clubs) lots other drawn other_below)
    (nat_cmp-equal (lot_of lots club) (lot_of lots other) split.1))

-- one of two different clubs ranks before the other
pub ranks_before-one : (sheet : Sheet) (season : Results) (lots : List ℕ) (club other : ℕ)
    → are_lots (length sheet.clubs) lots ≡ true → club < length sheet.clubs → other
    < length sheet.clubs → club ≢ other → (ranks_before sheet season lots club other ≡ true)
    ⊎ (ranks_before sheet season lots other club ≡ true)
ranks_before-one sheet season lots club other drawn below other_below different =
    one_first (order_of sheet season lots club other) (order_of sheet season lots other club)
    ((order_of_total sheet season lots).antisymm club other)
    (order_of-different sheet season lots club other drawn below other_below different)

-- no two clubs rank before each other
pub ranks_before-both : (sheet : Sheet) (season : Results) (lots : List ℕ) (club other : ℕ)
    → ranks_before sheet season lots club other ≡ true
    → ¬ (ranks_before sheet season lots other club ≡ true)
ranks_before-both sheet season lots club other =
    not_both (order_of sheet season lots club other) (order_of sheet season lots other club)
    ((order_of_total sheet season lots).antisymm club other)

-- no club ranks before itself
pub ranks_before-itself : (sheet : Sheet) (season : Results) (lots : List ℕ) (club : ℕ)
    → ranks_before sheet season lots club club ≡ false
ranks_before-itself sheet season lots club = ap is_lt
    (tied_itself (order_of_total sheet season lots) club)

-- who ranks before a club ranks before all that the club ranks before
pub ranks_before-trans : (sheet : Sheet) (season : Results) (lots : List ℕ) (first club other : ℕ)
    → ranks_before sheet season lots first club ≡ true → ranks_before sheet season lots club other
    ≡ true → ranks_before sheet season lots first other ≡ true
ranks_before-trans sheet season lots first club other h k =
    ap is_lt ((order_of_total sheet season lots).trans first club other
    (less-is_lt (order_of sheet season lots first club) h)
    (less-is_lt (order_of sheet season lots club other) k))
