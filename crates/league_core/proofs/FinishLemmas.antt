-- Finishes: a season that is played to its end has one, which is the season itself; and what every
-- finish of a season has.
use Rattle.std.proofs.Common.{◌≡◌, ◌<◌, ℕ, zero, suc, true, List, [], ◌∷◌, length, get_or, Option}
use Rattle.std.proofs.Common.{◌≤◌, ◌&&◌, nat_le, map, subst}
use Rattle.std.proofs.Common.{Some, None, is_some, refl, sym, ap, ap₂, ◌∙◌, arith}
use Rattle.std.specs.List.{list_all}
use Rattle.std.proofs.lemmas.Bool.{false≢true, and_parts, and_from, le-leb, leb-true}
use Rattle.league_core.specs.declared.sheet.Sheet.{Sheet}
use Rattle.league_core.specs.declared.season.Score.{Score}
use Rattle.league_core.specs.game.Limits.{most_goals}
use Rattle.league_core.specs.game.Results.{Results, is_score, is_score_or_none}
use Rattle.league_core.specs.game.Seasons.{IsSeasonOf}
use Rattle.league_core.specs.game.Finishes.{same_score, may_end, may_all_end, IsFinishOf, is_played}
use Rattle.league_core.proofs.OptionLemmas.{same_score-true, same_score-itself}

-- what is not played ends without goals
abbrev pub ended_of : Option Score → Option Score
ended_of None = Some (record { home = 0; away = 0 })
ended_of (Some score) = Some score

-- so each season may end
pub may_all_end-ended : (limit : ℕ) (season : List (Option Score))
    → may_all_end limit season (map ended_of season) ≡ true
may_all_end-ended limit [] = refl
may_all_end-ended limit (None ∷ season) =
    and_from (nat_le 0 limit && nat_le 0 limit) (may_all_end limit season (map ended_of season))
    (and_from (nat_le 0 limit) (nat_le 0 limit) (le-leb 0 limit (omega arith))
    (le-leb 0 limit (omega arith)))
    (may_all_end-ended limit season)
may_all_end-ended limit (Some score ∷ season) =
    and_from (same_score score score) (may_all_end limit season (map ended_of season))
    (same_score-itself score score refl) (may_all_end-ended limit season)

-- a fixture ends with a score that a match may have
pub may_end_is_score : (limit : ℕ) (played : Option Score) (score : Score) → limit ≤ most_goals
    → is_score_or_none played ≡ true → may_end limit played (Some score) ≡ true
    → is_score score ≡ true
may_end_is_score limit None score low may ends =
    let parts = and_parts (nat_le score.home limit) (nat_le score.away limit) ends in
    let home = leb-true score.home limit parts.0 in
    let away = leb-true score.away limit parts.1 in
    and_from _ _ (le-leb score.home most_goals (omega arith))
    (le-leb score.away most_goals (omega arith))
may_end_is_score limit (Some played) score low may ends =
    subst (λ s. is_score s ≡ true) (same_score-true played score ends) may

-- what is played ends as it was played
may_all_end-played : (limit : ℕ) (season finish : List (Option Score))
    → list_all is_some season ≡ true → may_all_end limit season finish ≡ true → finish ≡ season
may_all_end-played limit [] [] played h = refl
may_all_end-played limit [] (ended ∷ finish) played h = absurd (false≢true h)
may_all_end-played limit (before ∷ season) [] played h = absurd (false≢true h)
may_all_end-played limit (None ∷ season) (ended ∷ finish) played h = absurd (false≢true played)
may_all_end-played limit (Some before ∷ season) (None ∷ finish) played h = absurd (false≢true h)
may_all_end-played limit (Some before ∷ season) (Some ended ∷ finish) played h =
    let parts = and_parts (same_score before ended) (may_all_end limit season finish) h in
    ap₂ (λ (score : Score) (scores : List (Option Score)). Some score ∷ scores)
    (sym (same_score-true before ended parts.0))
    (may_all_end-played limit season finish played parts.1)

-- and may end so
may_all_end-itself : (limit : ℕ) (season : List (Option Score)) → list_all is_some season ≡ true
    → may_all_end limit season season ≡ true
may_all_end-itself limit [] played = refl
may_all_end-itself limit (None ∷ season) played = absurd (false≢true played)
may_all_end-itself limit (Some before ∷ season) played =
    and_from (same_score before before) (may_all_end limit season season)
    (same_score-itself before before refl)
    (may_all_end-itself limit season played)

-- a played season is a finish of itself
pub played_finishes_itself : (sheet : Sheet) (season : Results) → is_played season ≡ true
    → IsFinishOf sheet season season
played_finishes_itself sheet season played =
    record { deductions = refl; scores = may_all_end-itself sheet.goal_limit season.scores played }

-- it has no other one
pub played_only_finish : (sheet : Sheet) (season finish : Results) → is_played season ≡ true
    → IsFinishOf sheet season finish → finish ≡ season
played_only_finish sheet season finish played h =
    let scores = may_all_end-played sheet.goal_limit season.scores finish.scores played h.scores in
    λ i. record { scores = scores i; deductions = h.deductions i }

-- a season ends as it may exactly when each of its fixtures does
pub may_all_end-each : (limit : ℕ) (season finish : List (Option Score))
    → length season ≡ length finish
    → ((k : ℕ) → k < length season
    → may_end limit (get_or season k None) (get_or finish k None) ≡ true)
    → may_all_end limit season finish ≡ true
may_all_end-each limit [] [] same each = refl
may_all_end-each limit [] (ended ∷ finish) same each = absurd (omega arith)
may_all_end-each limit (played ∷ season) [] same each = absurd (omega arith)
may_all_end-each limit (played ∷ season) (ended ∷ finish) same each =
    and_from (may_end limit played ended) (may_all_end limit season finish)
    (each 0 (omega arith))
    (may_all_end-each limit season finish (omega arith) (λ k below. each (suc k) (omega arith)))

pub may_end-at : (limit : ℕ) (season finish : List (Option Score))
    → may_all_end limit season finish ≡ true → (k : ℕ) → k < length season
    → may_end limit (get_or season k None) (get_or finish k None) ≡ true
may_end-at limit [] finish all k below = absurd (omega arith)
may_end-at limit (played ∷ season) [] all k below = absurd (false≢true all)
may_end-at limit (played ∷ season) (ended ∷ finish) all zero below =
    (and_parts (may_end limit played ended) (may_all_end limit season finish) all).0
may_end-at limit (played ∷ season) (ended ∷ finish) all (suc k) below =
    may_end-at limit season finish
    (and_parts (may_end limit played ended) (may_all_end limit season finish) all).1 k (omega arith)

-- and only seasons of as many fixtures do
pub may_all_end-length : (limit : ℕ) (season finish : List (Option Score))
    → may_all_end limit season finish ≡ true → length season ≡ length finish
may_all_end-length limit [] [] all = refl
may_all_end-length limit [] (ended ∷ finish) all = absurd (false≢true all)
may_all_end-length limit (played ∷ season) [] all = absurd (false≢true all)
may_all_end-length limit (played ∷ season) (ended ∷ finish) all =
    ap suc (may_all_end-length limit season finish
    (and_parts (may_end limit played ended) (may_all_end limit season finish) all).1)

-- what ends has a score
may_end-is_some : (limit : ℕ) (played ended : Option Score) → may_end limit played ended ≡ true
    → is_some ended ≡ true
may_end-is_some limit None None may = absurd (false≢true may)
may_end-is_some limit (Some played) None may = absurd (false≢true may)
may_end-is_some limit played (Some ended) may = refl

-- so a finish is played
pub may_all_end-is_some : (limit : ℕ) (season finish : List (Option Score))
    → may_all_end limit season finish ≡ true → list_all is_some finish ≡ true
may_all_end-is_some limit [] [] all = refl
may_all_end-is_some limit [] (ended ∷ finish) all = absurd (false≢true all)
may_all_end-is_some limit (played ∷ season) [] all = absurd (false≢true all)
may_all_end-is_some limit (played ∷ season) (ended ∷ finish) all =
    let parts = and_parts (may_end limit played ended) (may_all_end limit season finish) all in
    and_from (is_some ended) (list_all is_some finish)
    (may_end-is_some limit played ended parts.0)
    (may_all_end-is_some limit season finish parts.1)

pub finish_is_played : (sheet : Sheet) (season finish : Results)
    → IsFinishOf sheet season finish → is_played finish ≡ true
finish_is_played sheet season finish is =
    may_all_end-is_some sheet.goal_limit season.scores finish.scores is.scores

-- and is one of the sheet if the season is
pub finish_is_of : (sheet : Sheet) (season finish : Results) → IsSeasonOf sheet season
    → IsFinishOf sheet season finish → IsSeasonOf sheet finish
finish_is_of sheet season finish of_sheet is = record {
  scores =
      sym (may_all_end-length sheet.goal_limit season.scores finish.scores is.scores)
      ∙ of_sheet.scores;
  deductions = ap length is.deductions ∙ of_sheet.deductions;
}
