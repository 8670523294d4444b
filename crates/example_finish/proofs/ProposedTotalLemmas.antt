-- What the matches of the proposed finish add up to: what was played, and what is proposed for the
-- matches that are not.
use Rattle.std.proofs.Common.{◌≡◌, ℕ, zero, suc, ◌+◌, ◌*◌, ◌<◌, ◌≤◌, ℤ, pos, ◌+ℤ◌}
use Rattle.std.proofs.Common.{Bool, true}
use Rattle.std.proofs.Common.{false, List, [], ◌∷◌, length, get_or, take, Option}
use Rattle.std.proofs.Common.{None, inl, inr, refl, sym, ap, ◌∙◌, subst, arith}
use Rattle.std.proofs.lemmas.Bool.{true≢false, cases_Bool}
use Rattle.std.specs.List.{range_with_len}
use Rattle.tie_criteria.specs.inside.Groups.{IsGroupOf}
use Rattle.std.proofs.lemmas.Int.{ints}
use Rattle.std.proofs.lemmas.List.{take_more, take_all}
use Rattle.league_core.specs.declared.sheet.Sheet.{Sheet}
use Rattle.league_core.specs.declared.sheet.Fixture.{Fixture}
use Rattle.league_core.specs.declared.season.Score.{Score}
use Rattle.league_core.specs.game.Results.{Results}
use Rattle.league_core.specs.game.Seasons.{IsSeasonOf}
use Rattle.league_core.specs.game.Sheets.{IsWithinLimits, clubs_of}
use Rattle.league_core.specs.game.Sums.{Worth, has_club, worth_among, sum_over}
use Rattle.league_core.specs.game.Sums.{sum_of, sum_among}
use Rattle.league_core.specs.search.PointRanges.{total_of}
use Rattle.league_core.specs.search.Options.{options_in, has_finish}
use Rattle.league_core.specs.search.Proposals.{is_wished, first_option, proposed_finish}
use Rattle.league_core.proofs.PointRangeLemmas.{total_of-append}
use Rattle.league_core.proofs.OptionLemmas.{length-options_from}
use Rattle.league_core.proofs.SeenLemmas.{IsFilled}
use Rattle.final_rank.proofs.PointsLemmas.{sum_over-among_all}
use Rattle.final_rank.proofs.TierLemmas.{is_of_sheet, below_clubs}
use Rattle.score_box.specs.declared.totals.Totals.{Totals}
use Rattle.score_box.specs.inside.Totals.{Column, worth_in, total_in, AreTotals, AreTotalsNear}
use Rattle.score_box.specs.inside.Totals.{totals_at, no_totals, AreTogether, TotalsGrowBy}
use Rattle.score_box.specs.inside.Unplayed.{is_unplayed, unplayed_in}
use Rattle.score_box.proofs.SplitLemmas.{sum_split, keeps_played, worth_at_fixture}
use Rattle.score_box.proofs.TotalLemmas.{near_none, near_together, near_wider}
use Rattle.score_box.proofs.TotalLemmas.{each_column}
use Rattle.example_finish.specs.inside.ProposalViews.{ProposedView, sheet_asked, season_asked}
use Rattle.example_finish.specs.inside.ProposalViews.{finish_asked}
use Rattle.example_finish.specs.inside.ProposedTotals.{AreTotalsFor, AreTotalsOver, worth_proposed}
use Rattle.example_finish.specs.inside.ProposedTotals.{AreTotalsAllNear}
use Rattle.example_finish.proofs.ProposedLemmas.{first_options-at, length-first_options}

-- the proposed finish has a score for each match, and keeps those of the matches that are played
pub length-proposed : (asked : ProposedView) → IsSeasonOf (sheet_asked asked) (season_asked asked)
    → length (finish_asked asked).scores ≡ length (sheet_asked asked).fixtures
unfolding proposed_finish
length-proposed asked of_sheet =
    let setting = asked.setting in
    let long = length-options_from setting.sheet.goal_limit setting.zone 0 setting.season.scores in
    let same : length setting.sheet.fixtures
    ≡ length (options_in setting.sheet setting.season setting.zone) =
    sym of_sheet.scores ∙ sym long in
    length-first_options
    (λ (club : ℕ). is_wished setting.zone asked.question.club club asked.question.claim)
    setting.sheet.fixtures (options_in setting.sheet setting.season setting.zone) same
    ∙ sym same

proposed_keeps : (asked : ProposedView) → IsSeasonOf (sheet_asked asked) (season_asked asked)
    → has_finish asked.setting.sheet asked.setting.season asked.setting.zone ≡ true → (k : ℕ)
    → is_unplayed (get_or (season_asked asked).scores k None) ≡ false
    → get_or (finish_asked asked).scores k None ≡ get_or (season_asked asked).scores k None
unfolding proposed_finish
proposed_keeps asked of_sheet some k played =
    let setting = asked.setting in
    let options = options_in setting.sheet setting.season setting.zone in
    let wished = λ (club : ℕ).
    is_wished setting.zone asked.question.club club asked.question.claim in
    let long = length-options_from setting.sheet.goal_limit setting.zone 0 setting.season.scores in
    let same : length setting.sheet.fixtures ≡ length options = sym of_sheet.scores ∙ sym long in
    let found = keeps_played setting.sheet setting.season setting.zone some k played in
    let below : k < length setting.sheet.fixtures =
    omega (arith, of_sheet.scores, played_within setting.season.scores k played) in
    let sides = get_or setting.sheet.fixtures k (record { home = 0; away = 0 }) in
    first_options-at wished setting.sheet.fixtures options k (record { home = 0; away = 0 }) below
    same
    ∙ ap (first_option (wished sides.home) (wished sides.away)) found.2
    ∙ sym found.1
  where
    played_within : (scores : List (Option Score)) (k : ℕ)
        → is_unplayed (get_or scores k None) ≡ false → k < length scores
    played_within [] k is = absurd (true≢false is)
    played_within (score ∷ scores) zero is = omega arith
    played_within (score ∷ scores) (suc k) is =
        let rest = played_within scores k is in omega arith

-- what matches add up to in the proposed finish
pub sum_proposed : (asked : ProposedView) → IsSeasonOf (sheet_asked asked) (season_asked asked)
    → has_finish asked.setting.sheet asked.setting.season asked.setting.zone ≡ true
    → (value : Fixture → Score → ℤ)
    → sum_over value (sheet_asked asked).fixtures (finish_asked asked).scores
    ≡ sum_over value (sheet_asked asked).fixtures (season_asked asked).scores
    +ℤ total_of (worth_at_fixture value (sheet_asked asked).fixtures (finish_asked asked).scores)
    (unplayed_in (season_asked asked).scores)
sum_proposed asked of_sheet some value =
    sum_split value (sheet_asked asked).fixtures (season_asked asked).scores
    (finish_asked asked).scores of_sheet.scores (length-proposed asked of_sheet)
    (proposed_keeps asked of_sheet some)

-- the rows of some clubs with so many of the group's matches that are not played
pub record AreTotalsWith (asked : ProposedView) (group rows : List ℕ) (matches : List ℕ) (i : ℕ)
    (table : List Totals) : Type 0 where
  pub sums : (club : ℕ) → has_club rows club ≡ true → AreTotals (λ worth.
      sum_among group worth (sheet_asked asked) (season_asked asked) club
      +ℤ total_of (λ k. worth_proposed asked group club k worth) (take i matches))
      (totals_at table club)
  pub near : (club : ℕ) → AreTotalsNear (5000000 + 255 * i) (totals_at table club)

-- with one match more
pub with_one_more : (asked : ProposedView) (group rows : List ℕ) (matches : List ℕ) (i k : ℕ)
    (old new : List Totals) → i < length matches → k ≡ get_or matches i 0
    → AreTotalsWith asked group rows matches i old
    → ((club : ℕ) → has_club rows club ≡ true
    → TotalsGrowBy (worth_proposed asked group club k) (totals_at old club) (totals_at new club))
    → ((club bound : ℕ) → AreTotalsNear bound (totals_at old club)
    → AreTotalsNear (bound + 255) (totals_at new club))
    → AreTotalsWith asked group rows matches (i + 1) new
with_one_more asked group rows matches i k old new within is so_far grows near = record {
  sums = λ club has column.
      let value : ℕ → ℤ = λ k. worth_proposed asked group club k (worth_in column) in
      let before = so_far.sums club has column in
      let here = (grows club has).sums column in
      let more : total_of value (take (i + 1) matches)
      ≡ total_of value (take i matches) +ℤ (value k +ℤ pos 0) =
      ap (total_of value) (take_more matches i 0 within)
      ∙ total_of-append value (take i matches) (get_or matches i 0 ∷ [])
      ∙ ap (λ (j : ℕ). total_of value (take i matches) +ℤ (value j +ℤ pos 0)) (sym is) in
      omega (arith, ints, before, here, more);
  near = λ club. subst (λ (bound : ℕ). AreTotalsNear bound (totals_at new club))
      (let e : 5000000 + 255 * i + 255 ≡ 5000000 + 255 * (i + 1) = omega arith in e)
      (near club (5000000 + 255 * i) (so_far.near club));
}

-- with all of them they are what the proposed finish adds up to
pub with_all : (asked : ProposedView) (group rows : List ℕ) (i : ℕ) (table : List Totals)
    → IsSeasonOf (sheet_asked asked) (season_asked asked)
    → has_finish asked.setting.sheet asked.setting.season asked.setting.zone ≡ true
    → length (unplayed_in (season_asked asked).scores) ≤ i
    → AreTotalsWith asked group rows (unplayed_in (season_asked asked).scores) i table
    → AreTotalsFor (sheet_asked asked) (finish_asked asked) group rows table
with_all asked group rows i table of_sheet some past all club has column =
    all.sums club has column
    ∙ ap (λ (ks : List ℕ). sum_among group (worth_in column) (sheet_asked asked)
    (season_asked asked) club +ℤ total_of (λ k. worth_proposed asked group club k (worth_in column))
    ks) (take_all i (unplayed_in (season_asked asked).scores) past)
    ∙ sym (sum_proposed asked of_sheet some (worth_among group (worth_in column) club))

-- the totals over all matches are those among all clubs
among_all : (sheet : Sheet) (season : Results) (worth : Worth) (club : ℕ)
    → IsWithinLimits sheet
    → sum_among (clubs_of sheet) worth sheet season club ≡ sum_of worth sheet season club
among_all sheet season worth club limits =
    sum_over-among_all (clubs_of sheet) (length sheet.clubs) worth club sheet.fixtures season.scores
    (is_of_sheet sheet) limits.fixtures

pub over_from_among : (sheet : Sheet) (season : Results) (rows : List ℕ) (table : List Totals)
    → IsWithinLimits sheet → AreTotalsFor sheet season (clubs_of sheet) rows table
    → AreTotalsOver sheet season rows table
over_from_among sheet season rows table limits are club has column =
    are club has column ∙ among_all sheet season (worth_in column) club limits

pub among_from_over : (sheet : Sheet) (season : Results) (rows : List ℕ) (table : List Totals)
    → IsWithinLimits sheet → AreTotalsOver sheet season rows table
    → AreTotalsFor sheet season (clubs_of sheet) rows table
among_from_over sheet season rows table limits are club has column =
    are club has column ∙ sym (among_all sheet season (worth_in column) club limits)

-- a row that is put together with that of a match grows by what the match is worth
pub grown_by_match : (old row new : Totals) (scored conceded : ℕ) (away : Bool)
    → TotalsGrowBy (λ worth. worth scored conceded away) no_totals row → AreTogether old row new
    → TotalsGrowBy (λ worth. worth scored conceded away) old new
grown_by_match old row new scored conceded away grows together = record {
  sums = λ column.
      let sum = together column in
      let here = grows.sums column in
      let nothing = zero_in column in
      omega (arith, ints, sum, here, nothing);
  near = λ bound near. near_together old row new bound 255 together near (grows.near 0 near_none);
}
  where
    zero_in : (column : Column) → total_in no_totals column ≡ pos 0
    zero_in = each_column _ refl refl refl refl refl refl

-- a row that is near zero is no farther than a wider bound
pub all_wider : (bound more : ℕ) (table : List Totals) → bound ≤ more
    → ((club : ℕ) → AreTotalsNear bound (totals_at table club))
    → (club : ℕ) → AreTotalsNear more (totals_at table club)
all_wider bound more table fewer near club =
    near_wider bound more (totals_at table club) fewer (near club)

-- the row of no match is near zero
pub none_near : (bound : ℕ) (row : Totals) → row ≡ no_totals → AreTotalsNear bound row
none_near bound row is =
    subst (AreTotalsNear bound) (sym is) (near_wider 0 bound no_totals (omega arith) near_none)

-- a row that is what a club's matches add up to, and near zero
abbrev pub IsRowOf : (ℕ → Worth → ℤ) → ℕ → Totals → Type 0
IsRowOf sums club row = AreTotals (sums club) row × AreTotalsNear 5000000 row

-- with such rows of some clubs, and none of others, all rows are near zero
pub filled_near : (sums : ℕ → Worth → ℤ) (seen : List ℕ) (table : List Totals)
    → IsFilled no_totals (IsRowOf sums) 24 seen table → AreTotalsAllNear 5000000 table
filled_near sums seen table filled club =
    elim (cases_Bool (has_club seen club)) as (λ _. AreTotalsNear 5000000 (totals_at table club)) [
      | inl has ↦ (filled.rows club has).1
      | inr out ↦ none_near 5000000 (totals_at table club) (filled.others club out)
    ]

-- all clubs of a sheet, as they were read
pub all_clubs : (sheet read : Sheet) (group : List ℕ) (clubs : ℕ) → read ≡ sheet
    → clubs ≡ length read.clubs → group ≡ range_with_len 0 clubs → group ≡ clubs_of sheet
all_clubs sheet read group clubs read_is clubs_are group_is =
    group_is ∙ ap (λ n. range_with_len 0 n) clubs_are
    ∙ ap (λ (s : Sheet). clubs_of s) read_is

-- they are clubs of the sheet
pub group_of_all : (sheet : Sheet) (group : List ℕ) → group ≡ clubs_of sheet → IsGroupOf sheet group
group_of_all sheet group is club has =
    below_clubs sheet club (ap (λ (clubs : List ℕ). has_club clubs club) (sym is) ∙ has)

-- so many rows of no match have no match at any place
abbrev pub rows_of : ℕ → List Totals
rows_of zero = []
rows_of (suc n) = no_totals ∷ rows_of n

pub at_rows : (n club : ℕ) → totals_at (rows_of n) club ≡ no_totals
at_rows zero club = refl
at_rows (suc n) zero = refl
at_rows (suc n) (suc club) = at_rows n club
