-- The verdicts of two clubs whose one match is played: what the law of two places makes of places
-- that are computed. A verdict turned round fails here.
use Rattle.std.proofs.Common.{[], ◌∷◌, refl, lit<, lit≤}
use Rattle.league_core.specs.declared.sheet.Sheet.{Sheet}
use Rattle.league_core.specs.game.Results.{Results}
use Rattle.league_core.specs.game.Verdicts.{IsClinched, IsLost}
use Rattle.league_core.specs.rows.WorkedRows.{pair, played, ended}
use Rattle.league_core.proofs.VerdictLemmas.{clinched_by_worst_place, lost_by_best_place}

-- 0:0 with ranks 1 and 2
abbrev ranked : Sheet
ranked = pair (1 ∷ 2 ∷ [])

abbrev level_season : Results
level_season = played (ended 0 0 ∷ []) (0 ∷ 0 ∷ [])

a_has_clinched : IsClinched ranked level_season 0 1
a_has_clinched = clinched_by_worst_place ranked level_season 0 1 refl (lit≤ tt)

b_has_lost : IsLost ranked level_season 1 1
b_has_lost = lost_by_best_place ranked level_season 1 1 refl (lit< tt)

-- 1:1: B's away goal turns both round
abbrev drawn_season : Results
drawn_season = played (ended 1 1 ∷ []) (0 ∷ 0 ∷ [])

a_has_lost : IsLost ranked drawn_season 0 1
a_has_lost = lost_by_best_place ranked drawn_season 0 1 refl (lit< tt)

b_has_clinched : IsClinched ranked drawn_season 1 1
b_has_clinched = clinched_by_worst_place ranked drawn_season 1 1 refl (lit≤ tt)
