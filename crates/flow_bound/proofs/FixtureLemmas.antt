-- What a fixture adds to the excess of a side, and that all fixtures together add the whole.
use Rattle.std.proofs.Common.{◌≡◌, ◌≢◌, ℕ, zero, suc, ◌+◌, ◌<◌, ◌≤◌, ℤ, pos, ◌+ℤ◌, ◌-ℤ◌, ◌*ℤ◌, true}
use Rattle.std.proofs.Common.{not, ◌&&◌, ◌==◌, nat_lt, cond, List, [], ◌∷◌, length, get_or}
use Rattle.std.proofs.Common.{slice_index, refl, sym, ap, ◌∙◌, arith, add-one, take}
use Rattle.std.proofs.lemmas.Int.{ints}
use Rattle.std.specs.List.{list_all}
use Rattle.std.proofs.lemmas.Bool.{false≢true, and_parts, ltb-true, ne_eqb}
use Rattle.std.proofs.lemmas.List.{get_or_past}
use Rattle.std.proofs.Math.IntN.{suc_ℤ-*ℤ}
use Rattle.league_core.specs.declared.sheet.Sheet.{Sheet}
use Rattle.league_core.specs.declared.sheet.Fixture.{Fixture}
use Rattle.league_core.specs.declared.season.Score.{Score}
use Rattle.league_core.specs.declared.zone.Literal.{Literal}
use Rattle.league_core.specs.declared.club_set.ClubSet.{ClubSet}
use Rattle.league_core.specs.game.Results.{Results}
use Rattle.league_core.specs.game.Sheets.{IsWithinLimits, is_fixture}
use Rattle.league_core.specs.game.Sums.{has_club}
use Rattle.league_core.specs.game.ClubSets.{clubs_below, clubs_in}
use Rattle.league_core.specs.search.Options.{options_in, has_finish}
use Rattle.league_core.specs.search.PointRanges.{Range, one_value, added, range_of, total_of}
use Rattle.league_core.specs.search.PointRanges.{range_from, points_together, deducted_from}
use Rattle.league_core.specs.search.Reasons.{times}
use Rattle.league_core.proofs.ClubSetLemmas.{clubs_below-none}
use Rattle.league_core.proofs.OptionLemmas.{length-options_from}
use Rattle.league_core.proofs.PointRangeLemmas.{range_of-same, total_of-next, total_of-same}
use Rattle.league_core.proofs.PointRangeLemmas.{total_of-sum}
use Rattle.league_core.proofs.RangeLemmas.{range_of-none}
use Rattle.score_box.specs.declared.cell.Cell.{Cell}
use Rattle.score_box.specs.inside.Cells.{IsCellOf}
use Rattle.flow_bound.specs.declared.cut.Cut.{Cut}
use Rattle.flow_bound.specs.declared.cut.Cut.TheVariants.{Floor, Ceiling}
use Rattle.flow_bound.specs.declared.tally.Pair.{Pair}
use Rattle.flow_bound.specs.inside.Fixtures.{MatchWorth, end_of, own_end, beyond_in, beyond_over}
use Rattle.flow_bound.specs.inside.Fixtures.{excess_over, IsWorthOf}
use Rattle.flow_bound.specs.inside.Parts.{sum_below, entry, sum_of_side, sum_of_pairs, has_both}
use Rattle.flow_bound.specs.inside.Parts.{excess_in, side_of}
use Rattle.score_box.specs.inside.Unplayed.{unplayed_in}
use Rattle.score_box.specs.inside.Ends.{alone_over}
use Rattle.score_box.proofs.SplitLemmas.{IsEnd, set_split, keeps_played, beyond_at, beyond_of_sides}
use Rattle.score_box.proofs.SplitLemmas.{no_match, total_take}
use Rattle.flow_bound.proofs.PartLemmas.{sum_below-same}
use Rattle.league_core.proofs.plain.Numbers.{cond_pos}

-- points count for a floor cut, and against a ceiling cut
abbrev pub counted : Cut → ℤ → ℤ
counted Floor points = points
counted Ceiling points = pos 0 -ℤ points

-- ends of ranges that are added
pub end_of-added : (cut : Cut) (range other : Range)
    → end_of cut (added range other) ≡ end_of cut range +ℤ end_of cut other
end_of-added Floor range other = refl
end_of-added Ceiling range other = omega (arith, ints)

pub is_end : (cut : Cut) → IsEnd (end_of cut)
is_end cut = record { none = none cut; adds = end_of-added cut }
  where
    none : (cut : Cut) → end_of cut (one_value (pos 0)) ≡ pos 0
    none Floor = refl
    none Ceiling = refl

-- the values of a set's clubs, as those of a side
side_total : (value : ℕ → ℤ) (count bits : ℕ) → count ≤ 32
    → sum_below count (λ x. cond (has_club (clubs_below 32 bits) x) (value x) (pos 0))
    ≡ total_of value (clubs_below count bits)
unfolding sum_below
side_total value zero bits within = ap (total_of value) (sym (clubs_below-none bits))
side_total value (suc count) bits within =
    let rest = side_total value count bits (omega arith) in
    let next = total_of-next value count bits (omega arith) in
    let same = ap (λ n. total_of value (clubs_below n bits)) (sym (add-one count)) in
    omega (arith, ints)

-- so many clubs at a level each
times-is : (clubs : List ℕ) (level : ℤ) → total_of (λ club. level) clubs ≡ times clubs level
times-is [] level = omega (arith, ints)
times-is (club ∷ clubs) level =
    let rest = times-is clubs level in
    let more : pos (suc (length clubs)) *ℤ level ≡ pos (length clubs) *ℤ level +ℤ level = suc_ℤ-*ℤ
    (pos (length clubs)) level in
    omega (arith, ints)

-- what is taken off, as a cut counts it
counted-total : (cut : Cut) (off : ℕ → ℤ) (clubs : List ℕ)
    → total_of (λ club. pos 0 -ℤ counted cut (off club)) clubs
    ≡ pos 0 -ℤ counted cut (total_of off clubs)
counted-total Floor off [] = refl
counted-total Floor off (club ∷ clubs) = omega (arith, ints, counted-total Floor off clubs)
counted-total Ceiling off [] = refl
counted-total Ceiling off (club ∷ clubs) = omega (arith, ints, counted-total Ceiling off clubs)

end_of-one : (cut : Cut) (n : ℤ) → end_of cut (one_value (pos 0 -ℤ n)) ≡ pos 0 -ℤ counted cut n
end_of-one Floor n = refl
end_of-one Ceiling n = refl

-- the excess over a level is that of all fixtures, with the level and what is taken off
pub excess_over-is : (cut : Cut) (sheet : Sheet) (season : Results) (zone : List Literal) (level :
    ℤ)
    (clubs : List ℕ) → excess_over cut sheet season zone level clubs
    ≡ end_of cut (range_from (points_together clubs) sheet.fixtures (options_in sheet season zone))
    +ℤ (times clubs level -ℤ counted cut (deducted_from season clubs))
excess_over-is cut sheet season zone level clubs =
    let range = range_from (points_together clubs) sheet.fixtures (options_in sheet season zone) in
    let off = deducted_from season clubs in
    let sum = end_of-added cut range (one_value (pos 0 -ℤ off)) in
    let last = end_of-one cut off in
    omega (arith, ints)

-- a club's own end is that of its matches, less what is taken off
own_end-is : (cut : Cut) (sheet : Sheet) (season : Results) (zone : List Literal) (club : ℕ)
    → own_end cut sheet season zone club
    ≡ end_of cut (alone_over sheet.fixtures (options_in sheet season zone) club)
    +ℤ (pos 0 -ℤ counted cut (pos (slice_index season.deductions club)))
own_end-is cut sheet season zone club =
    let range = alone_over sheet.fixtures (options_in sheet season zone) club in
    let off : deducted_from season (club ∷ []) ≡ pos (slice_index season.deductions club) =
    omega (arith, ints) in
    end_of-added cut range (one_value (pos 0 -ℤ deducted_from season (club ∷ [])))
    ∙ ap (λ n. end_of cut range +ℤ n) (end_of-one cut (deducted_from season (club ∷ []))
    ∙ ap (λ n. pos 0 -ℤ counted cut n) off)

-- a club that plays no match and has nothing taken off comes to nothing
no_worth : (club : ℕ) (match : Fixture) (score : Score) → match.home ≢ club → match.away ≢ club
    → points_together (club ∷ []) match score ≡ pos 0
no_worth club match score home away =
    rw (ne_eqb match.home club home, ne_eqb match.away club away) (omega (arith, ints))

alone_past : (cut : Cut) (clubs club : ℕ) (matches : List Fixture) (options : List (List Score))
    → list_all (is_fixture clubs) matches ≡ true → clubs ≤ club
    → end_of cut (alone_over matches options club) ≡ pos 0
alone_past cut clubs club [] options all past = (is_end cut).none
alone_past cut clubs club (match ∷ matches) [] all past = (is_end cut).none
alone_past cut clubs club (match ∷ matches) (scores ∷ options) all past =
    let parts = and_parts (is_fixture clubs match) (list_all (is_fixture clubs) matches) all in
    let both = and_parts (nat_lt match.home clubs && nat_lt match.away clubs)
    (not (match.home == match.away)) parts.0 in
    let low = and_parts (nat_lt match.home clubs) (nat_lt match.away clubs) both.0 in
    let home = ltb-true match.home clubs low.0 in
    let away = ltb-true match.away clubs low.1 in
    let rest = alone_past cut clubs club matches options parts.1 past in
    let first : end_of cut (range_of (points_together (club ∷ []) match) scores) ≡ pos 0 =
    ap (end_of cut) (range_of-same (points_together (club ∷ []) match) (λ score. pos 0) scores
    (λ score. no_worth club match score (λ e. omega arith) (λ e. omega arith))
    ∙ range_of-none scores) ∙ (is_end cut).none in
    let sum = end_of-added cut (range_of (points_together (club ∷ []) match) scores)
    (alone_over matches options club) in
    omega (arith, ints, rest, first, sum)

pub own_end-past : (cut : Cut) (sheet : Sheet) (season : Results) (zone : List Literal) (club : ℕ)
    → IsWithinLimits sheet → length season.deductions ≡ length sheet.clubs
    → length sheet.clubs ≤ club → own_end cut sheet season zone club ≡ pos 0
own_end-past cut sheet season zone club limits many past =
    let none : slice_index season.deductions club ≡ 0 =
    get_or_past season.deductions club 0 (omega (arith, many)) in
    let off : counted cut (pos (slice_index season.deductions club)) ≡ pos 0 =
    ap (λ (n : ℕ). counted cut (pos n)) none ∙ zero_counted cut in
    let alone = alone_past cut (length sheet.clubs) club sheet.fixtures
    (options_in sheet season zone) limits.fixtures past in
    own_end-is cut sheet season zone club ∙ omega (arith, ints, off, alone)
  where
    zero_counted : (cut : Cut) → counted cut (pos 0) ≡ pos 0
    zero_counted Floor = refl
    zero_counted Ceiling = refl

-- entries of a level and the clubs' own ends
levels_are : (table : List ℤ) (level : ℤ) (value : ℕ → ℤ) (set : ClubSet)
    → ((club : ℕ) → club < 32 → entry table club ≡ level +ℤ value club)
    → sum_of_side table (side_of set)
    ≡ times (clubs_in set) level +ℤ total_of value (clubs_in set)
levels_are table level value set is =
    let entries = sum_below-same 32 (λ x. cond (side_of set x) (entry table x) (pos 0))
    (λ x. cond (side_of set x) (level +ℤ value x) (pos 0))
    (λ x below. ap (λ n. cond (side_of set x) n (pos 0)) (is x below)) in
    let total = side_total (λ x. level +ℤ value x) 32 set.bits (omega arith) in
    let parts = total_of-sum (λ club. level) value (clubs_in set) in
    let levels = times-is (clubs_in set) level in
    omega (arith, ints)

-- with the pairs they are the excess over the level
pub tally_is : (cut : Cut) (sheet : Sheet) (season : Results) (zone : List Literal) (level : ℤ)
    (table : List ℤ) (pairs : List Pair) (set : ClubSet)
    → ((club : ℕ) → club < 32
    → entry table club ≡ level +ℤ own_end cut sheet season zone club)
    → pos (sum_of_pairs (has_both (side_of set)) pairs)
    ≡ beyond_over cut sheet season zone (clubs_in set)
    → excess_in table pairs (side_of set)
    ≡ excess_over cut sheet season zone level (clubs_in set)
tally_is cut sheet season zone level table pairs set entries surplus =
    let clubs = clubs_in set in
    let own = λ (club : ℕ). own_end cut sheet season zone club in
    let alone = λ (club : ℕ). end_of cut (alone_over sheet.fixtures (options_in sheet season zone)
    club) in
    let off = λ (club : ℕ). pos (slice_index season.deductions club) in
    let sides = levels_are table level own set entries in
    let ends = total_of-same own (λ club. alone club +ℤ (pos 0 -ℤ counted cut (off club))) clubs
    (λ club. own_end-is cut sheet season zone club)
    ∙ total_of-sum alone (λ club. pos 0 -ℤ counted cut (off club)) clubs in
    let taken = counted-total cut off clubs in
    let whole = excess_over-is cut sheet season zone level clubs in
    omega (arith, ints, sides, ends, taken, whole, surplus)

-- what the fixtures that are not played add beyond, of which each is a pair
pub beyond_over-is : (cut : Cut) (sheet : Sheet) (season : Results) (zone : List Literal)
    (clubs : List ℕ) → length season.scores ≡ length sheet.fixtures
    → has_finish sheet season zone ≡ true
    → beyond_over cut sheet season zone clubs
    ≡ total_of (beyond_at (end_of cut) clubs sheet.fixtures (options_in sheet season zone))
    (unplayed_in season.scores)
beyond_over-is cut sheet season zone clubs many finish =
    let split = set_split (end_of cut) (is_end cut) clubs sheet.fixtures season.scores
    (options_in sheet season zone) many
    (length-options_from sheet.goal_limit zone 0 season.scores ∙ many)
    (keeps_played sheet season zone finish) in
    omega (arith, ints, split)

-- the surplus of a match in which both clubs count
pub surplus_is : (cut : Cut) (cell : Cell) (options : List Score) (worth : MatchWorth)
    (set : ClubSet)
    (match : Fixture) → match.home ≢ match.away → IsWorthOf cut cell worth
    → IsCellOf cell options
    → beyond_in cut (clubs_in set) match options
    ≡ pos (cond (side_of set match.home && side_of set match.away) worth.surplus 0)
surplus_is cut cell options worth set match apart is of_cell =
    beyond_of_sides (end_of cut) set.bits match options worth.home worth.away (pos worth.surplus)
    apart (λ h a. is.value options of_cell h a
    ∙ ap (λ n. cond h worth.home (pos 0) +ℤ cond a worth.away (pos 0) +ℤ n)
    (sym (cond_pos (h && a) worth.surplus)))
    ∙ cond_pos (side_of set match.home && side_of set match.away) worth.surplus

-- one match more
pub pair_more : (cut : Cut) (set : ClubSet) (matches : List Fixture) (options : List (List Score))
    (unplayed : List ℕ) (i : ℕ) (old new : ℤ) → i < length unplayed
    → old ≡ total_of (beyond_at (end_of cut) (clubs_in set) matches options) (take i unplayed)
    → new ≡ old +ℤ beyond_in cut (clubs_in set) (get_or matches (get_or unplayed i 0) no_match)
    (get_or options (get_or unplayed i 0) [])
    → new ≡ total_of (beyond_at (end_of cut) (clubs_in set) matches options) (take (i + 1) unplayed)
pair_more cut set matches options unplayed i old new within so_far is =
    let next = total_take (beyond_at (end_of cut) (clubs_in set) matches options) unplayed i 0
    within in
    is ∙ ap (λ n. n +ℤ beyond_at (end_of cut) (clubs_in set) matches options (get_or unplayed i 0))
    so_far ∙ sym next
