-- Each part of a club's key at a finish is far within a hundred thousand.
use Rattle.std.proofs.Common.{◌≡◌, ℕ, ◌*◌, ◌≤◌, ℤ, pos, ◌-ℤ◌, Bool, true, false, ◌&&◌, nat_le, cond}
use Rattle.std.proofs.Common.{List, [], ◌∷◌, length, map, slice_index, Option, Some, None, zero}
use Rattle.std.proofs.Common.{suc, ap, ◌∙◌, arith}
use Rattle.std.specs.List.{list_all}
use Rattle.std.proofs.lemmas.Bool.{false≢true, and_parts, and_from, leb-true}
use Rattle.std.proofs.lemmas.Int.{ints}
use Rattle.league_core.specs.declared.sheet.Sheet.{Sheet}
use Rattle.league_core.specs.declared.sheet.Club.{Club}
use Rattle.league_core.specs.declared.sheet.Fixture.{Fixture}
use Rattle.league_core.specs.declared.season.Score.{Score}
use Rattle.league_core.specs.game.Limits.{most_goals, most_rank}
use Rattle.league_core.specs.game.Sheets.{IsWithinLimits, is_club, is_name}
use Rattle.league_core.specs.game.Results.{Results, are_results, is_score, is_score_or_none}
use Rattle.league_core.specs.game.Finishes.{may_end, may_all_end, IsFinishOf}
use Rattle.league_core.specs.game.Sums.{Worth, worth_to, sum_over, sum_of, match_points}
use Rattle.league_core.specs.game.Sums.{goal_difference, goals, away_goals, wins, away_wins}
use Rattle.league_core.specs.game.Ahead.{rank_of}
use Rattle.league_core.specs.inside.Extents.{IsNearZero}
use Rattle.league_core.specs.search.Keys.{key_of}
use Rattle.league_core.proofs.FinishLemmas.{may_end_is_score}
use Rattle.league_core.proofs.PointsLemmas.{deduction-le}
use Rattle.league_core.proofs.WorthLemmas.{points_near, difference_near, goals_near}
use Rattle.league_core.proofs.WorthLemmas.{away_goals_near, wins_near, away_wins_near}
use Rattle.turning_keys.specs.inside.TurningLaws.{AreWithinFar}

-- ---- scores

goals_within : (score : Score) → is_score score ≡ true → (score.home ≤ 99) × (score.away ≤ 99)
goals_within score is =
    let parts = and_parts (nat_le score.home most_goals) (nat_le score.away most_goals) is in
    (leb-true score.home 99 parts.0, leb-true score.away 99 parts.1)

-- a finish has scores that a match may have
finish_scores : (limit : ℕ) (season finish : List (Option Score)) → limit ≤ most_goals
    → list_all is_score_or_none season ≡ true → may_all_end limit season finish ≡ true
    → list_all is_score_or_none finish ≡ true
finish_scores limit [] [] low all ends = all
finish_scores limit [] (ended ∷ finish) low all ends = absurd (false≢true ends)
finish_scores limit (played ∷ season) [] low all ends = absurd (false≢true ends)
finish_scores limit (played ∷ season) (None ∷ finish) low all ends =
    finish_scores limit season finish low
    (and_parts (is_score_or_none played) (list_all is_score_or_none season) all).1
    (and_parts (may_end limit played None) (may_all_end limit season finish) ends).1
finish_scores limit (played ∷ season) (Some score ∷ finish) low all ends =
    let here = and_parts (is_score_or_none played) (list_all is_score_or_none season) all in
    let there = and_parts (may_end limit played (Some score)) (may_all_end limit season finish)
    ends in
    and_from (is_score score) (list_all is_score_or_none finish)
    (may_end_is_score limit played score low here.0 there.0)
    (finish_scores limit season finish low here.1 there.1)

-- ---- sums

pub zero_near : (bound : ℕ) → IsNearZero bound (pos 0)
zero_near bound = (omega (arith, ints), omega (arith, ints))

either_near : (b : Bool) (x y : ℤ) → IsNearZero 99 x → IsNearZero 99 y → IsNearZero 99 (cond b x y)
either_near true x y near other = near
either_near false x y near other = other

-- no match is worth more than 99 either way
abbrev pub IsWorthNear : Worth → Type 0
IsWorthNear worth =
    (scored conceded : ℕ) (away : Bool) → scored ≤ 99 → conceded ≤ 99
    → IsNearZero 99 (worth scored conceded away)

pub worth_to-near : (worth : Worth) → IsWorthNear worth → (club : ℕ) (match : Fixture)
    (score : Score)
    → is_score score ≡ true → IsNearZero 99 (worth_to worth club match score)
worth_to-near worth near club match score is =
    let few = goals_within score is in
    either_near _ (worth score.home score.away false) _
    (near score.home score.away false few.0 few.1)
    (either_near _ (worth score.away score.home true) (pos 0)
    (near score.away score.home true few.1 few.0) (zero_near 99))

sum_near : (worth : Worth) → IsWorthNear worth → (club : ℕ) (matches : List Fixture)
    (scores : List (Option Score)) → list_all is_score_or_none scores ≡ true
    → IsNearZero (99 * length matches) (sum_over (worth_to worth club) matches scores)
sum_near worth near club [] scores all = zero_near 0
sum_near worth near club (match ∷ matches) [] all = zero_near _
sum_near worth near club (match ∷ matches) (None ∷ scores) all =
    let rest = sum_near worth near club matches scores all in
    (omega (arith, ints, rest.0), omega (arith, ints, rest.1))
sum_near worth near club (match ∷ matches) (Some score ∷ scores) all =
    let parts = and_parts (is_score score) (list_all is_score_or_none scores) all in
    let here = worth_to-near worth near club match score parts.0 in
    let rest = sum_near worth near club matches scores parts.1 in
    (omega (arith, ints, here.0, rest.0), omega (arith, ints, here.1, rest.1))

-- ---- the rank

pub rank_within : (clubs : List Club) (club : ℕ) → list_all is_club clubs ≡ true
    → slice_index (map (λ c. c.rank) clubs) club ≤ 999
rank_within [] club all = omega arith
rank_within (first ∷ clubs) zero all =
    let here = (and_parts (is_club first) (list_all is_club clubs) all).0 in
    leb-true first.rank 999
    (and_parts (is_name first.name && nat_le 1 first.rank) (nat_le first.rank most_rank) here).1
rank_within (first ∷ clubs) (suc club) all =
    rank_within clubs club (and_parts (is_club first) (list_all is_club clubs) all).1

-- ---- keys

pub far_near : (bound : ℕ) (number : ℤ) → bound ≤ 100000 → IsNearZero bound number
    → IsNearZero 100000 number
far_near bound number low near = (omega (arith, ints, near.0), omega (arith, ints, near.1))

pub less_near : (number : ℤ) (off : ℕ) → IsNearZero 59400 number → off ≤ 99
    → IsNearZero 100000 (number -ℤ pos off)
less_near number off near few = (omega (arith, ints, near.0), omega (arith, ints, near.1))

pub rank_near : (rank : ℕ) → rank ≤ 999 → IsNearZero 100000 (pos 1000 -ℤ pos rank)
rank_near rank few = (omega (arith, ints), omega (arith, ints))

pub wider : (matches : ℕ) (number : ℤ) → matches ≤ 600 → IsNearZero (99 * matches) number
    → IsNearZero 59400 number
wider matches number few near = (omega (arith, ints, near.0), omega (arith, ints, near.1))

with_part : {A B : Type 0} → A → B → A × B
with_part part parts = (part, parts)

pub key_within : (sheet : Sheet) (season finish : Results) (club : ℕ) → IsWithinLimits sheet
    → are_results season ≡ true → IsFinishOf sheet season finish
    → AreWithinFar (key_of sheet finish club)
key_within sheet season finish club limits results is =
    let parts = and_parts (list_all is_score_or_none season.scores)
    (list_all (λ points. nat_le points 99) season.deductions) results in
    let goal_limit = limits.most_goal_limit in
    let scores = finish_scores sheet.goal_limit season.scores finish.scores (omega arith) parts.0
    is.scores in
    let near : (worth : Worth) → IsWorthNear worth
    → IsNearZero 59400 (sum_of worth sheet finish club) =
    λ worth each. wider (length sheet.fixtures) (sum_of worth sheet finish club)
    limits.most_fixtures (sum_near worth each club sheet.fixtures finish.scores scores) in
    let far : (worth : Worth) → IsWorthNear worth
    → IsNearZero 100000 (sum_of worth sheet finish club) =
    λ worth each. far_near 59400 (sum_of worth sheet finish club) (omega arith) (near worth each) in
    let taken : slice_index finish.deductions club ≤ 99 =
    deduction-le finish.deductions club
    (ap (λ (ds : List ℕ). list_all (λ points. nat_le points 99) ds) is.deductions ∙ parts.1) in
    with_part (less_near (sum_of match_points sheet finish club)
    (slice_index finish.deductions club)
    (near match_points (λ s c a few none. points_near 99 s c a (omega arith))) taken)
    (with_part (far goal_difference (λ s c a few none. difference_near 99 s c a few none))
    (with_part (far goals (λ s c a few none. goals_near 99 s c a few))
    (with_part (far away_goals (λ s c a few none. away_goals_near 99 s c a few))
    (with_part (far wins (λ s c a few none. wins_near 99 s c a (omega arith)))
    (with_part (far away_wins (λ s c a few none. away_wins_near 99 s c a (omega arith)))
    (with_part (rank_near (rank_of sheet club) (rank_within sheet.clubs club limits.clubs)) tt))))))
