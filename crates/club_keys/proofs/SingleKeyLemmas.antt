-- In a zone in which each fixture has one option each part of a key has one value.
use Rattle.std.proofs.Common.{◌≡◌, ℕ, ℤ, ◌+ℤ◌, ◌-ℤ◌, pos, true, List, [], ◌∷◌, refl, ap}
use Rattle.std.proofs.Common.{ap₂, sym, subst, arith}
use Rattle.std.specs.List.{list_all}
use Rattle.std.proofs.lemmas.Int.{ints}
use Rattle.league_core.specs.declared.sheet.Sheet.{Sheet}
use Rattle.league_core.specs.declared.season.Score.{Score}
use Rattle.league_core.specs.declared.zone.Literal.{Literal}
use Rattle.league_core.specs.game.Results.{Results}
use Rattle.league_core.specs.game.Sums.{Worth, worth_to, goal_difference, goals, away_goals, wins}
use Rattle.league_core.specs.game.Sums.{away_wins}
use Rattle.league_core.specs.search.Options.{options_in, has_one_score, is_single, IsInBox}
use Rattle.league_core.specs.search.PointRanges.{points_range, points_together, deducted_from}
use Rattle.league_core.specs.search.SureOrder.{range_over}
use Rattle.league_core.specs.search.Keys.{key_of, rank_part, low_key, high_key, AreAtMost}
use Rattle.reason_laws.proofs.FixedLemmas.{range_from-alike, scores_alike}
use Rattle.reason_laws.proofs.KeyLemmas.{key_parts_in_range}

one_over : (worth : Worth) (sheet : Sheet) (options : List (List Score)) (club : ℕ)
    → list_all has_one_score options ≡ true
    → (range_over worth sheet options club).least ≡ (range_over worth sheet options club).greatest
one_over worth sheet options club one =
    range_from-alike (worth_to worth club) has_one_score sheet.fixtures options
    (λ match scores. scores_alike (worth_to worth club match) scores) one

one_in_points : (sheet : Sheet) (season : Results) (options : List (List Score)) (club : ℕ)
    → list_all has_one_score options ≡ true
    → (points_range sheet season options (club ∷ [])).least
    ≡ (points_range sheet season options (club ∷ [])).greatest
one_in_points sheet season options club one =
    ap (λ n. n +ℤ (pos 0 -ℤ deducted_from season (club ∷ [])))
    (range_from-alike (points_together (club ∷ [])) has_one_score sheet.fixtures options
    (λ match scores. scores_alike (points_together (club ∷ []) match) scores) one)

pub ends_meet : (sheet : Sheet) (season : Results) (zone : List Literal) (club : ℕ)
    → is_single sheet season zone ≡ true
    → low_key sheet season zone club ≡ high_key sheet season zone club
unfolding low_key high_key is_single
ends_meet sheet season zone club single =
    let options = options_in sheet season zone in
    let points = one_in_points sheet season options club single in
    let difference = one_over goal_difference sheet options club single in
    let scored = one_over goals sheet options club single in
    let away_scored = one_over away_goals sheet options club single in
    let won = one_over wins sheet options club single in
    let away_won = one_over away_wins sheet options club single in
    (λ i. points i ∷ difference i ∷ scored i ∷ away_scored i ∷ won i ∷ away_won i
    ∷ rank_part sheet club ∷ [])

-- two keys of which no part of either is greater are one
same_parts : (low high : List ℤ) → AreAtMost low high → AreAtMost high low → low ≡ high
same_parts [] [] most least = refl
same_parts [] (part ∷ high) most least = absurd most
same_parts (part ∷ low) [] most least = absurd most
same_parts (part ∷ low) (other ∷ high) most least =
    ap₂ (λ (n : ℤ) (ns : List ℤ). n ∷ ns) (omega (arith, ints, most.0, least.0))
    (same_parts low high most.1 least.1)

pub key_meets : (sheet : Sheet) (season : Results) (zone : List Literal) (finish : Results)
    (club : ℕ) → is_single sheet season zone ≡ true → IsInBox sheet season zone finish
    → key_of sheet finish club ≡ low_key sheet season zone club
key_meets sheet season zone finish club single box =
    let parts = key_parts_in_range sheet season zone finish club box in
    same_parts (key_of sheet finish club) (low_key sheet season zone club)
    (subst (λ (high : List ℤ). AreAtMost (key_of sheet finish club) high)
    (sym (ends_meet sheet season zone club single)) parts.1)
    parts.0
