-- The standing in a group is a total order: it compares one list of numbers of each club, the
-- club's key, which has the numbers that decide in the order in which they do.
use Rattle.std.proofs.Common.{◌≡◌, ℕ, zero, suc, ℤ, Bool, true, false, ◌==◌, List, [], ◌∷◌, length}
use Rattle.std.proofs.Common.{Ordering, Less, Equal, Greater, is_eq, refl, sym, ◌∙◌, ap, subst}
use Rattle.std.specs.Cmp.{IsTotalOrder}
use Rattle.std.specs.Ordering.{ordering_reverse}
use Rattle.std.proofs.lemmas.Bool.{false≢true, true≢false}
use Rattle.std.proofs.lemmas.Cmp.{int_cmp_total, on_total, back_total, lists_total, alike_right}
use Rattle.std.proofs.lemmas.List.Elements.{filter_agree}
use Rattle.league_core.specs.declared.sheet.Sheet.{Sheet}
use Rattle.league_core.specs.declared.sheet.Order.{Order}
use Rattle.league_core.specs.declared.sheet.Order.TheVariants.{HeadFirst, OverallFirst}
use Rattle.league_core.specs.game.Results.{Results}
use Rattle.league_core.specs.game.Sums.{sum_of, sum_among, match_points, goal_difference, goals}
use Rattle.league_core.specs.game.HeadToHead.{greater_first, by_first_difference, head_to_head_of}
use Rattle.league_core.specs.game.HeadToHead.{by_head_to_head, are_level_in, level_with}
use Rattle.league_core.specs.game.Ahead.{overall_of, by_overall, lead_within, lead_in}
use Rattle.league_core.specs.game.Ahead.{first_sums_of, by_first_sums, are_level_overall}
use Rattle.league_core.specs.game.Ahead.{level_overall, standing_by, standing_in, IsAheadIn}
use Rattle.league_core.proofs.plain.Orderings.{then_agree, then-two, then-three}

-- by the first number at which two lists differ, lists are in a total order
pub by_first_difference_total : IsTotalOrder by_first_difference
by_first_difference_total = lists_total (back_total int_cmp_total)

-- so are clubs by their records in a group
pub by_head_to_head_total : (sheet : Sheet) (season : Results) (group : List ℕ)
    → IsTotalOrder (by_head_to_head sheet season group)
by_head_to_head_total sheet season group = on_total (head_to_head_of sheet season group)
    by_first_difference_total

-- two clubs with one record are level with the same clubs
pub level_with-tied : (sheet : Sheet) (season : Results) (group : List ℕ) (club other : ℕ)
    → by_head_to_head sheet season group club other ≡ Equal → level_with sheet season group club
    ≡ level_with sheet season group other
level_with-tied sheet season group club other tied =
    filter_agree (are_level_in sheet season group club) (are_level_in sheet season group other)
    (λ third. ap is_eq
    (alike_right (by_head_to_head_total sheet season group) club other third tied)) group

-- the record in the group, then what decides after it: the sums over all matches if the group does
-- not get smaller, else the key in the smaller group
abbrev pub key_within : ℕ → Sheet → Results → List ℕ → ℕ → List ℤ
key_within zero sheet season group club = []
key_within (suc times) sheet season group club =
    let level = level_with sheet season group club in
    sum_among group match_points sheet season club
    ∷ sum_among group goal_difference sheet season club
    ∷ sum_among group goals sheet season club
    ∷ (elim (length level == length group) [
      | true ↦ overall_of sheet season club
      | false ↦ key_within times sheet season level club
    ])

-- two clubs that take the same way compare what they meet on it
same_way : (whole other : Bool) (here further : Ordering) (a b c d : List ℤ) → whole ≡ other
    → here ≡ by_first_difference a b → further ≡ by_first_difference c d
    → (elim whole [ true ↦ here | false ↦ further ])
    ≡ by_first_difference (elim whole [ true ↦ a | false ↦ c ])
    (elim other [ true ↦ b | false ↦ d ])
same_way true true here further a b c d e h k = h
same_way false false here further a b c d e h k = k
same_way true false here further a b c d e h k = absurd (true≢false e)
same_way false true here further a b c d e h k = absurd (false≢true e)

-- the clubs' keys say who leads
pub lead_within-key : (times : ℕ) (sheet : Sheet) (season : Results) (group : List ℕ)
    (club other : ℕ) → lead_within times sheet season group club other
    ≡ by_first_difference (key_within times sheet season group club)
    (key_within times sheet season group other)
lead_within-key zero sheet season group club other = refl
lead_within-key (suc times) sheet season group club other =
    let mine = level_with sheet season group club in
    let theirs = level_with sheet season group other in
    let my_rest : List
    ℤ = elim (length mine == length group) [
      | true ↦ overall_of sheet season club
      | false ↦
          key_within times sheet season mine club
    ] in
    let their_rest : List
    ℤ = elim (length theirs == length group) [
      | true ↦ overall_of sheet season other
      | false ↦
          key_within times sheet season theirs other
    ] in
    then_agree (by_head_to_head sheet season group club other) _
    (by_first_difference my_rest their_rest)
    (λ tied. let e : mine ≡ theirs = level_with-tied sheet season group club other tied in
    same_way (length mine == length group) (length theirs == length group)
    (by_overall sheet season club other) (lead_within times sheet season mine club other)
    (overall_of sheet season club) (overall_of sheet season other)
    (key_within times sheet season mine club) (key_within times sheet season theirs other)
    (ap (λ (g : List ℕ). length g == length group) e) refl
    (lead_within-key times sheet season mine club other
    ∙ ap (λ (g : List ℕ). by_first_difference (key_within times sheet season mine club)
    (key_within times sheet season g other)) e))
    ∙ then-three
    (greater_first (sum_among group match_points sheet season club)
    (sum_among group match_points sheet season other))
    (greater_first (sum_among group goal_difference sheet season club)
    (sum_among group goal_difference sheet season other))
    (greater_first (sum_among group goals sheet season club)
    (sum_among group goals sheet season other))
    (by_first_difference my_rest their_rest)

-- clubs are in a total order by who leads in a group, however often the record is taken
pub lead_within_total : (times : ℕ) (sheet : Sheet) (season : Results) (group : List ℕ)
    → IsTotalOrder (lead_within times sheet season group)
lead_within_total times sheet season group =
    subst IsTotalOrder (λ i a b. sym (lead_within-key times sheet season group a b) i)
    (on_total (key_within times sheet season group) by_first_difference_total)

-- and so by the two first sums over all matches
pub by_first_sums_total : (sheet : Sheet) (season : Results)
    → IsTotalOrder (by_first_sums sheet season)
by_first_sums_total sheet season = on_total (first_sums_of sheet season) by_first_difference_total

-- two clubs with one difference and one number of goals share them with the same clubs
pub level_overall-tied : (sheet : Sheet) (season : Results) (group : List ℕ) (club other : ℕ)
    → by_first_sums sheet season club other ≡ Equal → level_overall sheet season group club
    ≡ level_overall sheet season group other
level_overall-tied sheet season group club other tied =
    filter_agree (are_level_overall sheet season club) (are_level_overall sheet season other)
    (λ third. ap is_eq
    (alike_right (by_first_sums_total sheet season) club other third tied)) group

-- what decides in a group by an order of the criteria: the key in the group, or the two sums first
-- and then the key among the clubs that share them
abbrev pub key_by : Order → Sheet → Results → List ℕ → ℕ → List ℤ
key_by HeadFirst sheet season group club = key_within (length group) sheet season group club
key_by OverallFirst sheet season group club =
    let level = level_overall sheet season group club in
    sum_of goal_difference sheet season club
    ∷ sum_of goals sheet season club
    ∷ key_within (length level) sheet season level club

-- the standing compares these keys
pub standing_by-key : (order : Order) (sheet : Sheet) (season : Results) (group : List ℕ)
    (club other : ℕ) → standing_by order sheet season group club other
    ≡ by_first_difference (key_by order sheet season group club)
    (key_by order sheet season group other)
standing_by-key HeadFirst sheet season group club other =
    lead_within-key (length group) sheet season group club other
standing_by-key OverallFirst sheet season group club other =
    let mine = level_overall sheet season group club in
    let theirs = level_overall sheet season group other in
    let my_rest : List ℤ = key_within (length mine) sheet season mine club in
    let their_rest : List ℤ = key_within (length theirs) sheet season theirs other in
    then_agree (by_first_sums sheet season club other) (lead_in sheet season mine club other)
    (by_first_difference my_rest their_rest)
    (λ tied. lead_within-key (length mine) sheet season mine club other
    ∙ ap (λ (g : List ℕ). by_first_difference my_rest
    (key_within (length g) sheet season g other))
    (level_overall-tied sheet season group club other tied))
    ∙ then-two
    (greater_first (sum_of goal_difference sheet season club)
    (sum_of goal_difference sheet season other))
    (greater_first (sum_of goals sheet season club) (sum_of goals sheet season other))
    (by_first_difference my_rest their_rest)

-- clubs are in a total order by how they stand in a group
pub standing_in_total : (sheet : Sheet) (season : Results) (group : List ℕ)
    → IsTotalOrder (standing_in sheet season group)
standing_in_total sheet season group =
    subst IsTotalOrder (λ i a b. sym (standing_by-key sheet.order sheet season group a b) i)
    (on_total (key_by sheet.order sheet season group) by_first_difference_total)

-- of two clubs one at most is ahead
pub standing_in-one : (sheet : Sheet) (season : Results) (group : List ℕ) (club other : ℕ)
    → IsAheadIn sheet season group club other → ¬ IsAheadIn sheet season group other club
standing_in-one sheet season group club other ahead behind =
    let turned : Less ≡ Greater = sym ahead
    ∙ ((standing_in_total sheet season group).antisymm club other ∙ ap ordering_reverse behind) in
    cc

-- clubs of which neither is ahead stand alike to a third
pub standing_in-alike : (sheet : Sheet) (season : Results) (group : List ℕ) (club other third : ℕ)
    → standing_in sheet season group club other ≡ Equal → standing_in sheet season group club third
    ≡ standing_in sheet season group other third
standing_in-alike sheet season group club other third tied =
    (standing_in_total sheet season group).congr club other third tied

-- and the third to them
pub standing_in-alike_right : (sheet : Sheet) (season : Results) (group : List ℕ)
    (club other third : ℕ) → standing_in sheet season group club other ≡ Equal
    → standing_in sheet season group third club ≡ standing_in sheet season group third other
standing_in-alike_right sheet season group club other third tied =
    alike_right (standing_in_total sheet season group) club other third tied
