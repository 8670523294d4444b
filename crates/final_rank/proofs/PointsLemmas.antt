-- The points of all clubs from their records in the group of all clubs.
use Rattle.std.proofs.Common.{◌≡◌, ℕ, ◌<◌, ℤ, pos, ◌+◌, ◌+ℤ◌, ◌-ℤ◌, ◌≤ℤ◌, negsuc, int_le, true}
use Rattle.std.proofs.Common.{◌&&◌, not, eqb, cond, nat_lt, List, [], ◌∷◌, ◌++◌, length, get_or}
use Rattle.std.proofs.Common.{map, Option, Some, None, slice_index, subst, w32, FitsSigned, to_z}
use Rattle.std.proofs.Common.{of_z, refl, sym, ap, ◌∙◌, arith}
use Rattle.std.specs.List.{list_all, range_with_len}
use Rattle.std.proofs.lemmas.Bool.{and_parts, and_from, ltb-true}
use Rattle.std.proofs.lemmas.Int.{ints, to_z-of_z}
use Rattle.std.proofs.lemmas.List.FromFn.{get_or-map-range_with_len, length-map-range_with_len}
use Rattle.std.proofs.lemmas.List.FromFn.{map-range_with_len_more}
use Rattle.league_core.specs.declared.sheet.Sheet.{Sheet}
use Rattle.league_core.specs.declared.sheet.Fixture.{Fixture}
use Rattle.league_core.specs.declared.season.Score.{Score}
use Rattle.league_core.specs.declared.question.Claim.TheVariants.{Inside}
use Rattle.league_core.specs.game.Results.{Results, are_results}
use Rattle.league_core.specs.game.Sheets.{IsWithinLimits, is_fixture}
use Rattle.league_core.specs.game.Sums.{Worth, has_club, if_played, worth_to, worth_among, sum_over}
use Rattle.league_core.specs.game.Sums.{sum_of, match_points, points_of}
use Rattle.league_core.specs.game.Questions.{full_question}
use Rattle.league_core.proofs.PointsLemmas.{points_in_full_window, results-deductions}
use Rattle.tie_criteria.specs.declared.mini_table.Row.{Row}
use Rattle.tie_criteria.specs.inside.MiniTables.{row_of}
use Rattle.final_rank.specs.inside.Tables.{ArePoints}
use Rattle.final_rank.proofs.TierLemmas.{is_of_sheet}

-- in a group that has both its clubs a match counts
counts_among : (group : List ℕ) (clubs : ℕ) (worth : Worth) (club : ℕ) (match : Fixture)
    (score : Option Score) → ((x : ℕ) → x < clubs → has_club group x ≡ true)
    → is_fixture clubs match ≡ true
    → if_played (worth_among group worth club) match score ≡ if_played (worth_to worth club) match
    score
counts_among group clubs worth club match None has is = refl
counts_among group clubs worth club match (Some score) has is =
    let below = and_parts (nat_lt match.home clubs && nat_lt match.away clubs)
    (not (eqb match.home match.away)) is in
    let both = and_parts (nat_lt match.home clubs) (nat_lt match.away clubs) below.0 in
    let counts : (has_club group match.home && has_club group match.away) ≡ true =
    and_from (has_club group match.home) (has_club group match.away)
    (has match.home (ltb-true match.home clubs both.0))
    (has match.away (ltb-true match.away clubs both.1)) in
    ap (λ b. cond b (worth_to worth club match score) (pos 0)) counts

-- in the group of all clubs every match counts
pub sum_over-among_all : (group : List ℕ) (clubs : ℕ) (worth : Worth) (club : ℕ)
    (matches : List Fixture) (scores : List (Option Score))
    → ((x : ℕ) → x < clubs → has_club group x ≡ true)
    → list_all (is_fixture clubs) matches ≡ true
    → sum_over (worth_among group worth club) matches scores
    ≡ sum_over (worth_to worth club) matches scores
sum_over-among_all group clubs worth club [] scores has are = refl
sum_over-among_all group clubs worth club (match ∷ matches) [] has are = refl
sum_over-among_all group clubs worth club (match ∷ matches) (score ∷ scores) has are =
    let parts = and_parts (is_fixture clubs match) (list_all (is_fixture clubs) matches) are in
    let here = counts_among group clubs worth club match score has parts.0 in
    let rest = sum_over-among_all group clubs worth club matches scores has parts.1 in
    (λ i. here i +ℤ rest i)

-- each club has a row
pub rows_in_range : (sheet : Sheet) (season : Results) (rows : List Row) (group : List ℕ) (club : ℕ)
    → rows ≡ map (row_of sheet season group) group → group ≡ range_with_len 0 (length sheet.clubs)
    → club < length sheet.clubs → club < length rows
rows_in_range sheet season rows group club rows_are group_is below =
    let many = ap length rows_are
    ∙ ap (λ clubs. length (map (row_of sheet season group) clubs)) group_is
    ∙ length-map-range_with_len (row_of sheet season group) 0 (length sheet.clubs) in
    omega arith

-- what the matches gave a club, read from its row among all clubs
pub row_points : (sheet : Sheet) (season : Results) (rows : List Row) (group : List ℕ) (club : ℕ)
    (blank : Row) → IsWithinLimits sheet → rows ≡ map (row_of sheet season group) group
    → group ≡ range_with_len 0 (length sheet.clubs) → club < length sheet.clubs
    → (get_or rows club blank).triple.points ≡ sum_of match_points sheet season club
row_points sheet season rows group club blank limits rows_are group_is below =
    ap (λ rs. (get_or rs club blank).triple.points) rows_are
    ∙ ap (λ clubs. (get_or (map (row_of sheet season group) clubs) club blank).triple.points)
    group_is
    ∙ ap (λ row. row.triple.points)
    (get_or-map-range_with_len (row_of sheet season group) 0 (length sheet.clubs) club club blank
    (omega arith) (omega arith))
    ∙ sum_over-among_all group (length sheet.clubs) match_points club sheet.fixtures season.scores
    (λ x within. ap (λ clubs. has_club clubs x) group_is ∙ is_of_sheet sheet x within)
    limits.fixtures

-- the points of a club are far from the ends of what a number holds
pub record AreFew (points : ℤ) : Type 0 where
  pub low : negsuc 98 ≤ℤ points
  pub high : points ≤ℤ pos 1800

pub points_are_few : (sheet : Sheet) (season : Results) (club : ℕ) → IsWithinLimits sheet
    → are_results season ≡ true → AreFew (points_of sheet season club)
points_are_few sheet season club limits results =
    let question = full_question club 1 Inside in
    let points = points_of sheet season club in
    let both = and_parts (int_le question.low points) (int_le points question.high)
    (points_in_full_window sheet season club 1 Inside limits (results-deductions season results)) in
    record { low = grind (arith, ints, both.0); high = grind (arith, ints, both.1) }

-- what is left of points that are read as numbers of 32 bits, less what is taken off
abbrev pub left_of : ℤ → ℤ → ℤ
left_of won taken = to_z w32 (of_z w32 won) -ℤ to_z w32 (of_z w32 taken)

-- it is a number of 32 bits, and the club's points
pub record IsLeft (won taken points : ℤ) : Type 0 where
  pub fits : FitsSigned w32 (left_of won taken)
  pub is : to_z w32 (of_z w32 (left_of won taken)) ≡ points

pub left_is : (sheet : Sheet) (season : Results) (club : ℕ) (won taken : ℤ) (byte : ℕ)
    → IsWithinLimits sheet → are_results season ≡ true
    → won ≡ sum_of match_points sheet season club → taken ≡ pos byte → byte < 256
    → byte ≡ slice_index season.deductions club → IsLeft won taken (points_of sheet season club)
left_is sheet season club won taken byte limits results won_is taken_is small byte_is =
    let few = points_are_few sheet season club limits results in
    let points : won -ℤ taken ≡ points_of sheet season club =
    (λ i. won_is i -ℤ (taken_is ∙ ap pos byte_is) i) in
    let won_read = to_z-of_z w32 won (omega (arith, ints, few.low, few.high)) in
    let taken_read = to_z-of_z w32 taken (omega (arith, ints)) in
    let read : left_of won taken ≡ points_of sheet season club =
    (λ i. won_read i -ℤ taken_read i) ∙ points in
    let P : ℤ → Type 0 = FitsSigned w32 in
    let fits : FitsSigned w32 (left_of won taken) =
    subst P (sym read) (omega (arith, ints, few.low, few.high)) in
    record { fits = fits; is = to_z-of_z w32 (left_of won taken) fits ∙ read }

-- a table of the clubs' points, club by club
pub points_are : (sheet : Sheet) (season : Results) (found : List ℤ) (clubs : ℕ)
    → found ≡ map (points_of sheet season) (range_with_len 0 clubs) → clubs ≡ length sheet.clubs
    → ArePoints sheet season found
points_are sheet season found clubs is all = record {
  clubs = ap length is ∙ length-map-range_with_len (points_of sheet season) 0 clubs ∙ all;
  each = λ club below.
      ap (λ xs. get_or xs club (pos 0)) is
      ∙ get_or-map-range_with_len (points_of sheet season) 0 clubs club club (pos 0)
      (omega arith) (omega arith);
}

-- one club more
pub points_more : (sheet : Sheet) (season : Results) (before after : List ℤ) (club : ℕ) (points : ℤ)
    → before ≡ map (points_of sheet season) (range_with_len 0 club)
    → after ≡ before ++ points ∷ [] → points ≡ points_of sheet season club
    → after ≡ map (points_of sheet season) (range_with_len 0 (club + 1))
points_more sheet season before after club points before_is after_is points_is =
    after_is
    ∙ (λ i. before_is i ++ points_is i ∷ [])
    ∙ sym (map-range_with_len_more (points_of sheet season) 0 club club (omega arith))
