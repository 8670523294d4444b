-- The ends of a key by the ends of a club's sums, by what is taken off it, and by its rank.
use Rattle.std.proofs.Common.{◌≡◌, ℕ, ℤ, pos, ◌+ℤ◌, ◌-ℤ◌, List, [], ◌∷◌, slice_index, ap}
use Rattle.std.proofs.Common.{◌∙◌, arith}
use Rattle.std.proofs.lemmas.Int.{ints}
use Rattle.league_core.specs.declared.sheet.Sheet.{Sheet}
use Rattle.league_core.specs.declared.season.Score.{Score}
use Rattle.league_core.specs.declared.zone.Literal.{Literal}
use Rattle.league_core.specs.game.Results.{Results}
use Rattle.league_core.specs.game.Sums.{match_points, worth_to}
use Rattle.league_core.specs.search.Options.{options_in}
use Rattle.league_core.specs.search.PointRanges.{Range, points_together, range_from}
use Rattle.league_core.specs.search.Keys.{rank_part, low_key, high_key}
use Rattle.score_box.specs.declared.totals.Totals.{Totals}
use Rattle.score_box.specs.inside.Totals.{Column, total_in, worth_in, points_column}
use Rattle.score_box.specs.inside.Totals.{difference_column, goals_column, away_goals_column}
use Rattle.score_box.specs.inside.Totals.{wins_column, away_wins_column}
use Rattle.key_bounds.specs.declared.row_ends.RowEnds.{RowEnds}
use Rattle.key_bounds.specs.inside.RowEnds.{AreClubEnds}

-- a row's numbers as the parts of a key
abbrev pub parts_by : Totals → ℕ → ℤ → List ℤ
parts_by row off by_rank =
    (row.points -ℤ pos off) ∷ row.difference ∷ row.goals ∷ row.away_goals ∷ row.wins
    ∷ row.away_wins ∷ by_rank ∷ []

-- the points of one club together are its own
alone : (club : ℕ) → worth_to match_points club ≡ points_together (club ∷ [])
alone club = λ i match score. one (worth_to match_points club match score) i
  where
    one : (number : ℤ) → number ≡ number +ℤ pos 0
    one number = omega (arith, ints)

own_points : (sheet : Sheet) (options : List (List Score)) (club : ℕ)
    → range_from (worth_to match_points club) sheet.fixtures options
    ≡ range_from (points_together (club ∷ [])) sheet.fixtures options
own_points sheet options club = ap (λ value. range_from value sheet.fixtures options) (alone club)

less : (number range : ℤ) (off taken : ℕ) → number ≡ range → off ≡ taken
    → number -ℤ pos off ≡ range +ℤ (pos 0 -ℤ (pos taken +ℤ pos 0))
less number range off taken same is = omega (arith, ints, same, is)

pub low_from : (sheet : Sheet) (season : Results) (zone : List Literal) (club : ℕ)
    (ends : RowEnds) (off : ℕ) (by_rank : ℤ)
    → AreClubEnds sheet.fixtures (options_in sheet season zone) club ends
    → off ≡ slice_index season.deductions club → by_rank ≡ rank_part sheet club
    → parts_by ends.least off by_rank ≡ low_key sheet season zone club
unfolding low_key
low_from sheet season zone club ends off by_rank are off_is rank_is =
    let least : (column : Column) → total_in ends.least column
    ≡ (range_from (worth_to (worth_in column) club) sheet.fixtures
    (options_in sheet season zone)).least =
    λ column. ap (λ (r : Range). r.least) (are.each column) in
    let points = less ends.least.points _ off (slice_index season.deductions club)
    (least points_column
    ∙ ap (λ (r : Range). r.least) (own_points sheet (options_in sheet season zone) club)) off_is in
    (λ i. points i ∷ least difference_column i ∷ least goals_column i
    ∷ least away_goals_column i ∷ least wins_column i ∷ least away_wins_column i ∷ rank_is i ∷ [])

pub high_from : (sheet : Sheet) (season : Results) (zone : List Literal) (club : ℕ)
    (ends : RowEnds) (off : ℕ) (by_rank : ℤ)
    → AreClubEnds sheet.fixtures (options_in sheet season zone) club ends
    → off ≡ slice_index season.deductions club → by_rank ≡ rank_part sheet club
    → parts_by ends.greatest off by_rank ≡ high_key sheet season zone club
unfolding high_key
high_from sheet season zone club ends off by_rank are off_is rank_is =
    let most : (column : Column) → total_in ends.greatest column
    ≡ (range_from (worth_to (worth_in column) club) sheet.fixtures
    (options_in sheet season zone)).greatest =
    λ column. ap (λ (r : Range). r.greatest) (are.each column) in
    let points = less ends.greatest.points _ off (slice_index season.deductions club)
    (most points_column
    ∙ ap (λ (r : Range). r.greatest) (own_points sheet (options_in sheet season zone) club))
    off_is in
    (λ i. points i ∷ most difference_column i ∷ most goals_column i
    ∷ most away_goals_column i ∷ most wins_column i ∷ most away_wins_column i ∷ rank_is i ∷ [])
