-- What a match is worth in a group to two clubs that play in it, or stay out.
use Rattle.std.proofs.Common.{◌≡◌, ℕ, pos, ◌-ℤ◌, true, false, ◌&&◌, ◌==◌}
use Rattle.std.proofs.Common.{cond, List, [], ◌∷◌, sym, ap, ◌∙◌, arith}
use Rattle.std.proofs.lemmas.Int.{ints}
use Rattle.std.proofs.lemmas.Bool.{ne_eqb}
use Rattle.league_core.specs.declared.sheet.Fixture.{Fixture}
use Rattle.league_core.specs.declared.season.Score.{Score}
use Rattle.league_core.specs.game.Sums.{Worth, match_points, goal_difference, goals, away_goals}
use Rattle.league_core.specs.game.Sums.{wins, away_wins, has_club, worth_to, worth_among}
use Rattle.near_laws.specs.Leads.{numbers_at, margins, worth_against}
use Rattle.near_laws.specs.SureLeads.{record_worths, first_worths, overall_worths, even_record}
use Rattle.near_bound.proofs.CommonFitLemmas.{StaysOut}

-- the match counts in the group
pub among_is : (group : List ℕ) (front back : ℕ) (match : Fixture)
    → (has_club group match.home && has_club group match.away) ≡ true
    → numbers_at (margins worth_to record_worths front back) match
    ≡ numbers_at (margins (worth_among group) record_worths front back) match
among_is group front back match both =
    sym (λ i score.
    (cond (both i) (worth_to match_points front match score) (pos 0)
    -ℤ cond (both i) (worth_to match_points back match score) (pos 0))
    ∷ (cond (both i) (worth_to goal_difference front match score) (pos 0)
    -ℤ cond (both i) (worth_to goal_difference back match score) (pos 0))
    ∷ (cond (both i) (worth_to goals front match score) (pos 0)
    -ℤ cond (both i) (worth_to goals back match score) (pos 0))
    ∷ [])

-- or it does not
pub not_among_is : (group : List ℕ) (front back : ℕ) (match : Fixture) (score : Score)
    → (has_club group match.home && has_club group match.away) ≡ false
    → numbers_at (margins (worth_among group) record_worths front back) match score
    ≡ even_record
not_among_is group front back match score none =
    λ i.
    (cond (none i) (worth_to match_points front match score) (pos 0)
    -ℤ cond (none i) (worth_to match_points back match score) (pos 0))
    ∷ (cond (none i) (worth_to goal_difference front match score) (pos 0)
    -ℤ cond (none i) (worth_to goal_difference back match score) (pos 0))
    ∷ (cond (none i) (worth_to goals front match score) (pos 0)
    -ℤ cond (none i) (worth_to goals back match score) (pos 0))
    ∷ []

-- the third club plays in the match
pub against_is : (rival front back : ℕ) (match : Fixture)
    → has_club (match.home ∷ match.away ∷ []) rival ≡ true
    → numbers_at (margins worth_to record_worths front back) match
    ≡ numbers_at (margins (worth_against rival) record_worths front back) match
against_is rival front back match both =
    sym (λ i score.
    (cond (both i) (worth_to match_points front match score) (pos 0)
    -ℤ cond (both i) (worth_to match_points back match score) (pos 0))
    ∷ (cond (both i) (worth_to goal_difference front match score) (pos 0)
    -ℤ cond (both i) (worth_to goal_difference back match score) (pos 0))
    ∷ (cond (both i) (worth_to goals front match score) (pos 0)
    -ℤ cond (both i) (worth_to goals back match score) (pos 0))
    ∷ [])

-- or it does not
pub not_against_is : (rival front back : ℕ) (match : Fixture) (score : Score)
    → has_club (match.home ∷ match.away ∷ []) rival ≡ false
    → numbers_at (margins (worth_against rival) record_worths front back) match score
    ≡ even_record
not_against_is rival front back match score none =
    λ i.
    (cond (none i) (worth_to match_points front match score) (pos 0)
    -ℤ cond (none i) (worth_to match_points back match score) (pos 0))
    ∷ (cond (none i) (worth_to goal_difference front match score) (pos 0)
    -ℤ cond (none i) (worth_to goal_difference back match score) (pos 0))
    ∷ (cond (none i) (worth_to goals front match score) (pos 0)
    -ℤ cond (none i) (worth_to goals back match score) (pos 0))
    ∷ []

-- a match is worth nothing to a club that stays out
pub nothing_to : (worth : Worth) (club : ℕ) (match : Fixture) (score : Score)
    → StaysOut match club → worth_to worth club match score ≡ pos 0
nothing_to worth club match score out =
    ap (λ b. cond b (worth score.home score.away false)
    (cond (match.away == club) (worth score.away score.home true) (pos 0)))
    (ne_eqb match.home club out.0)
    ∙ ap (λ b. cond b (worth score.away score.home true) (pos 0)) (ne_eqb match.away club out.1)

-- nor is it between two that do
nothing_between : (worth : Worth) (front back : ℕ) (match : Fixture) (score : Score)
    → StaysOut match front → StaysOut match back
    → worth_to worth front match score -ℤ worth_to worth back match score ≡ pos 0
nothing_between worth front back match score out also =
    let one = nothing_to worth front match score out in
    let other = nothing_to worth back match score also in
    omega (arith, ints, one, other)

pub no_record : (front back : ℕ) (match : Fixture) (score : Score) → StaysOut match front
    → StaysOut match back
    → numbers_at (margins worth_to record_worths front back) match score ≡ even_record
no_record front back match score out also =
    λ i.
    nothing_between match_points front back match score out also i
    ∷ nothing_between goal_difference front back match score out also i
    ∷ nothing_between goals front back match score out also i
    ∷ []

pub no_first : (front back : ℕ) (match : Fixture) (score : Score) → StaysOut match front
    → StaysOut match back
    → numbers_at (margins worth_to first_worths front back) match score ≡ pos 0 ∷ pos 0 ∷ []
no_first front back match score out also =
    λ i.
    nothing_between goal_difference front back match score out also i
    ∷ nothing_between goals front back match score out also i
    ∷ []

pub no_overall : (front back : ℕ) (match : Fixture) (score : Score) → StaysOut match front
    → StaysOut match back
    → numbers_at (margins worth_to overall_worths front back) match score
    ≡ pos 0 ∷ pos 0 ∷ pos 0 ∷ pos 0 ∷ pos 0 ∷ []
no_overall front back match score out also =
    λ i.
    nothing_between goal_difference front back match score out also i
    ∷ nothing_between goals front back match score out also i
    ∷ nothing_between away_goals front back match score out also i
    ∷ nothing_between wins front back match score out also i
    ∷ nothing_between away_wins front back match score out also i
    ∷ []
