-- The worst score of a match for one club against another: whatever is compared in turn is least
-- there. The flags say which side the one club has, and which the other.
use Rattle.std.proofs.Common.{◌≡◌, ℕ, ℤ, pos, ◌+◌, ◌-ℤ◌, ◌<◌, ◌<ℤ◌, ◌≤ℤ◌, ◌⊎◌, Bool, true}
use Rattle.std.proofs.Common.{false, ◌&&◌, cond, List, [], ◌∷◌, refl, ap}
use Rattle.std.proofs.Common.{subst, inl, inr, arith}
use Rattle.std.proofs.lemmas.Int.{ints}
use Rattle.std.proofs.lemmas.Bool.{true≢false, cases_lt}
use Rattle.std.proofs.lemmas.Bool.Decides.{nat_tests}
use Rattle.league_core.specs.declared.season.Score.{Score}
use Rattle.league_core.specs.game.Sums.{Worth, match_points, goal_difference, goals, away_goals}
use Rattle.league_core.specs.game.Sums.{wins, away_wins}
use Rattle.near_laws.proofs.InTurnLemmas.{IsFrom, from_itself}
use Rattle.near_bound.specs.declared.match_left.MatchLeft.{MatchLeft}
use Rattle.near_bound.specs.inside.MatchesLeft.{is_score_left, turned, IsAsBad}
use Rattle.near_bound.specs.inside.Margins.{IsWorstIn}

-- ---- points by goal differences

-- a lesser goal difference gives no more points
pub rise : (a b c d : ℕ) (away : Bool) → a + d < c + b
    → match_points a b away ≤ℤ match_points c d away
rise a b c d away less = grind (arith, ints, nat_tests)

-- the same one gives the same points
pub level : (a b c d : ℕ) (away : Bool) → a + d ≡ c + b
    → match_points a b away ≡ match_points c d away
level a b c d away same = grind (arith, ints, nat_tests)

-- ---- three ways to be as bad

abbrev Strictly : Bool → Score → Score → Type 0
Strictly true score other = other.home < score.home
Strictly false score other = score.home < other.home

abbrev Compared : Bool → Score → Score → Type 0
Compared many score other =
    (score.home + other.away < other.home + score.away)
    ⊎ (((score.home + other.away ≡ other.home + score.away) × Strictly many score other)
    ⊎ (score ≡ other))

same_goals : (score other : Score) → score.home + other.away ≡ other.home + score.away
    → score.home ≡ other.home → score ≡ other
same_goals score other lead home =
    let away : score.away ≡ other.away = omega arith in
    λ i. record { home = home i; away = away i }

compared : (many : Bool) (score other : Score) → IsAsBad many score other
    → Compared many score other
compared many score other (inl less) = inl less
compared true score other (inr same) =
    elim (cases_lt other.home score.home) as (λ _. Compared true score other) [
      | inl more ↦ inr (inl (same.0, more))
      | inr no_more ↦ inr (inr (same_goals score other same.0 (omega (arith, same.1, no_more))))
    ]
compared false score other (inr same) =
    elim (cases_lt score.home other.home) as (λ _. Compared false score other) [
      | inl fewer ↦ inr (inl (same.0, fewer))
      | inr no_fewer ↦ inr (inr (same_goals score other same.0 (omega (arith, same.1, no_fewer))))
    ]

-- ---- what is compared

-- what a match is worth to a club that is at home, away, or not in it
abbrev pub gain : Worth → Bool → Bool → Score → ℤ
gain worth home away score =
    cond home (worth score.home score.away false)
    (cond away (worth score.away score.home true) (pos 0))

abbrev pub gap : Worth → Bool → Bool → Bool → Bool → Score → ℤ
gap worth home away back_home back_away score =
    gain worth home away score -ℤ gain worth back_home back_away score

-- a lesser difference and no more points; or the same of both, and the rest in turn
abbrev pub Leads : (Score → ℤ) → (Score → ℤ) → (Score → ℤ) → (Score → List ℤ) → Score → Score
    → Type 0
Leads points difference scored rest worst score =
    ((difference worst <ℤ difference score) × (points worst ≤ℤ points score))
    ⊎ ((points worst ≡ points score) × (difference worst ≡ difference score)
    × ((scored worst <ℤ scored score)
    ⊎ ((scored worst ≡ scored score) × IsFrom (rest worst) (rest score))))

abbrev pub rest_by : Bool → Bool → Bool → Bool → Score → List ℤ
rest_by home away back_home back_away score =
    gap away_goals home away back_home back_away score
    ∷ gap wins home away back_home back_away score
    ∷ gap away_wins home away back_home back_away score
    ∷ []

abbrev pub LeadsBy : Bool → Bool → Bool → Bool → Score → Score → Type 0
LeadsBy home away back_home back_away =
    Leads (gap match_points home away back_home back_away)
    (gap goal_difference home away back_home back_away) (gap goals home away back_home back_away)
    (rest_by home away back_home back_away)

leads_itself : (home away back_home back_away : Bool) (worst score : Score) → worst ≡ score
    → LeadsBy home away back_home back_away worst score
leads_itself home away back_home back_away worst score same =
    subst (λ (s : Score). LeadsBy home away back_home back_away worst s) same
    (inr (refl, refl, inr (refl, from_itself (rest_by home away back_home back_away worst))))

unturned : (score other : Score) → turned score ≡ turned other → score ≡ other
unturned score other same = ap turned same

at_home : (away : Bool) (worst score : Score) → Compared false worst score
    → LeadsBy true away false false worst score
at_home away worst score (inl less) =
    let points = rise worst.home worst.away score.home score.away false less in
    inl (omega (arith, ints), omega (arith, ints))
at_home away worst score (inr (inl same)) =
    let points = level worst.home worst.away score.home score.away false same.0 in
    inr (omega (arith, ints), omega (arith, ints, same.0), inl (omega (arith, ints, same.1)))
at_home away worst score (inr (inr same)) =
    leads_itself true away false false worst score same

at_home_against : (away : Bool) (worst score : Score) → Compared true worst score
    → LeadsBy true away false true worst score
at_home_against away worst score (inl less) =
    let points = rise worst.home worst.away score.home score.away false less in
    let others = rise score.away score.home worst.away worst.home true (omega arith) in
    inl (omega (arith, ints), omega (arith, ints))
at_home_against away worst score (inr (inl same)) =
    let points = level worst.home worst.away score.home score.away false same.0 in
    let others = level score.away score.home worst.away worst.home true (omega (arith, same.0)) in
    inr (
      omega (arith, ints),
      omega (arith, ints, same.0),
      inr (omega (arith, ints, same.0), inl (omega (arith, ints, same.0, same.1))),
    )
at_home_against away worst score (inr (inr same)) =
    leads_itself true away false true worst score same

when_away : (worst score : Score) → Compared false (turned worst) (turned score)
    → LeadsBy false true false false worst score
when_away worst score (inl less) =
    let points = rise worst.away worst.home score.away score.home true less in
    inl (omega (arith, ints), omega (arith, ints))
when_away worst score (inr (inl same)) =
    let points = level worst.away worst.home score.away score.home true same.0 in
    inr (omega (arith, ints), omega (arith, ints, same.0), inl (omega (arith, ints, same.1)))
when_away worst score (inr (inr same)) =
    leads_itself false true false false worst score (unturned worst score same)

when_away_against : (back_away : Bool) (worst score : Score)
    → Compared false (turned worst) (turned score)
    → LeadsBy false true true back_away worst score
when_away_against back_away worst score (inl less) =
    let points = rise worst.away worst.home score.away score.home true less in
    let others = rise score.home score.away worst.home worst.away false (omega arith) in
    inl (omega (arith, ints), omega (arith, ints))
when_away_against back_away worst score (inr (inl same)) =
    let points = level worst.away worst.home score.away score.home true same.0 in
    let others = level score.home score.away worst.home worst.away false (omega (arith, same.0)) in
    inr (
      omega (arith, ints),
      omega (arith, ints, same.0),
      inr (omega (arith, ints, same.0), inl (omega (arith, ints, same.0, same.1))),
    )
when_away_against back_away worst score (inr (inr same)) =
    leads_itself false true true back_away worst score (unturned worst score same)

other_at_home : (back_away : Bool) (worst score : Score)
    → Compared true (turned worst) (turned score)
    → LeadsBy false false true back_away worst score
other_at_home back_away worst score (inl less) =
    let points = rise score.home score.away worst.home worst.away false (omega arith) in
    inl (omega (arith, ints), omega (arith, ints))
other_at_home back_away worst score (inr (inl same)) =
    let points = level score.home score.away worst.home worst.away false (omega (arith, same.0)) in
    inr (
      omega (arith, ints),
      omega (arith, ints, same.0),
      inl (omega (arith, ints, same.0, same.1)),
    )
other_at_home back_away worst score (inr (inr same)) =
    leads_itself false false true back_away worst score (unturned worst score same)

other_away : (worst score : Score) → Compared true worst score
    → LeadsBy false false false true worst score
other_away worst score (inl less) =
    let points = rise score.away score.home worst.away worst.home true (omega arith) in
    inl (omega (arith, ints), omega (arith, ints))
other_away worst score (inr (inl same)) =
    let points = level score.away score.home worst.away worst.home true (omega (arith, same.0)) in
    inr (
      omega (arith, ints),
      omega (arith, ints, same.0),
      inl (omega (arith, ints, same.0, same.1)),
    )
other_away worst score (inr (inr same)) =
    leads_itself false false false true worst score same

-- the worst score in a match leads to no more than any other
pub worst_leads : (left : MatchLeft) (home away back_home back_away : Bool) (worst score : Score)
    → (home && back_home) ≡ false → (away && back_away) ≡ false
    → IsWorstIn left home away back_home back_away worst → is_score_left left score ≡ true
    → LeadsBy home away back_home back_away worst score
worst_leads left true away true back_away worst score no_home no_away is among = absurd
    (true≢false no_home)
worst_leads left true away false true worst score no_home no_away is among =
    at_home_against away worst score (compared true worst score (is.least score among))
worst_leads left true away false false worst score no_home no_away is among =
    at_home away worst score (compared false worst score (is.least score among))
worst_leads left false true back_home true worst score no_home no_away is among = absurd
    (true≢false no_away)
worst_leads left false true true false worst score no_home no_away is among =
    when_away_against false worst score
    (compared false (turned worst) (turned score) (is.least score among))
worst_leads left false true false false worst score no_home no_away is among =
    when_away worst score (compared false (turned worst) (turned score) (is.least score among))
worst_leads left false false true back_away worst score no_home no_away is among =
    other_at_home back_away worst score
    (compared true (turned worst) (turned score) (is.least score among))
worst_leads left false false false true worst score no_home no_away is among =
    other_away worst score (compared true worst score (is.least score among))
worst_leads left false false false false worst score no_home no_away is among =
    inr (refl, refl, inr (refl, from_itself (rest_by false false false false worst)))
