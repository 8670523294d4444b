-- Keys over the extremes of a zone are those over its options.
use Rattle.std.proofs.Common.{◌≡◌, ℕ, List, [], ◌∷◌, map, ap, ◌∙◌}
use Rattle.league_core.specs.declared.sheet.Sheet.{Sheet}
use Rattle.league_core.specs.declared.season.Score.{Score}
use Rattle.league_core.specs.declared.zone.Literal.{Literal}
use Rattle.league_core.specs.game.Results.{Results}
use Rattle.league_core.specs.game.Sums.{worth_to, goal_difference, goals, away_goals, wins}
use Rattle.league_core.specs.game.Sums.{away_wins}
use Rattle.league_core.specs.search.Options.{options_in}
use Rattle.league_core.specs.search.PointRanges.{Range, one_value}
use Rattle.league_core.specs.search.Keys.{rank_part, key_ranges, low_key, high_key}
use Rattle.club_keys.specs.declared.key_ends.KeyEnds.{KeyEnds}
use Rattle.club_keys.specs.inside.KeyEnds.{AreKeyEnds}
use Rattle.check_bounds.specs.declared.term.Measure.TheVariants as kind
use Rattle.check_bounds.specs.inside.Zones.{AreAllExtremesOf}
use Rattle.check_bounds.specs.inside.KeysOver.{key_ranges_over, AreEndsOver}
use Rattle.check_bounds.proofs.TransferLemmas.{ranges_same, worth_same}
use Rattle.check_bounds.proofs.MeaningLemmas.{points_same}

key_ranges_same : (sheet : Sheet) (season : Results) (zone : List Literal)
    (corners : List (List Score)) (club : ℕ)
    → AreAllExtremesOf corners (options_in sheet season zone)
    → key_ranges_over sheet season corners club ≡ key_ranges sheet season zone club
key_ranges_same sheet season zone corners club are =
    let options = options_in sheet season zone in
    λ i. points_same sheet season corners options (club ∷ []) are i
    ∷ ranges_same (worth_to goal_difference club) (worth_same kind.Difference club)
    sheet.fixtures corners options are i
    ∷ ranges_same (worth_to goals club) (worth_same kind.Goals club)
    sheet.fixtures corners options are i
    ∷ ranges_same (worth_to away_goals club) (worth_same kind.AwayGoals club)
    sheet.fixtures corners options are i
    ∷ ranges_same (worth_to wins club) (worth_same kind.Wins club)
    sheet.fixtures corners options are i
    ∷ ranges_same (worth_to away_wins club) (worth_same kind.AwayWins club)
    sheet.fixtures corners options are i
    ∷ one_value (rank_part sheet club)
    ∷ []

-- so their ends are those of the key in the zone
pub key_ends_are : (sheet : Sheet) (season : Results) (zone : List Literal)
    (corners : List (List Score)) (club : ℕ) (ends : KeyEnds)
    → AreAllExtremesOf corners (options_in sheet season zone)
    → AreEndsOver sheet season corners club ends → AreKeyEnds sheet season zone club ends
unfolding low_key high_key
key_ends_are sheet season zone corners club ends are over =
    let same = key_ranges_same sheet season zone corners club are in
    record {
      low = over.low ∙ ap (λ (ranges : List Range). map (λ range. range.least) ranges) same;
      high = over.high ∙ ap (λ (ranges : List Range). map (λ range. range.greatest) ranges) same;
    }
