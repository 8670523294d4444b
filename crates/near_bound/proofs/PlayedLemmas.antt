-- Margins by a value, what a match is worth to a club, and one side of a match more.
use Rattle.std.proofs.Common.{◌≡◌, ◌≢◌, ℕ, ℤ, pos, ◌+◌, ◌-◌, ◌*◌, ◌+ℤ◌, ◌≤◌, ◌⊎◌, true}
use Rattle.std.proofs.Common.{false, ◌||◌, ◌==◌, cond, [], ◌∷◌}
use Rattle.std.proofs.Common.{sym, ap, ◌∙◌, subst, inl, inr}
use Rattle.std.proofs.Common.{eq-eqb, arith}
use Rattle.std.proofs.Math.Bool.{or-true}
use Rattle.std.proofs.lemmas.Int.{ints}
use Rattle.std.proofs.lemmas.Bool.{cases_eq, ne_eqb}
use Rattle.league_core.specs.declared.sheet.Fixture.{Fixture}
use Rattle.league_core.specs.declared.season.Score.{Score}
use Rattle.league_core.specs.game.Sums.{Worth, match_points, goal_difference, goals, away_goals}
use Rattle.league_core.specs.game.Sums.{wins, away_wins, has_club, worth_to}
use Rattle.near_laws.specs.Leads.{worth_against}
use Rattle.near_bound.specs.declared.margin.Margin.{Margin}
use Rattle.near_bound.specs.declared.played.PlayedPart.{PlayedPart}
use Rattle.near_bound.specs.inside.Margins.{IsMarginBy, IsMarginWithin, IsMarginSum}
use Rattle.near_bound.specs.inside.PlayedParts.{no_margin, margin_listed}
use Rattle.near_bound.specs.inside.PlayedParts.{club_margin, pair_margin, ArePartsNear, IsPartNear}
use Rattle.near_bound.specs.inside.PlayedParts.{AddsSide}
use Rattle.near_bound.specs.inside.PlayedParts.{KeepsSizes, AreSizes}
use Rattle.near_bound.proofs.CommonFitLemmas.{StaysOut}
use Rattle.near_bound.proofs.MarginLemmas.{within_sum, margin_wider}

-- ---- margins by a value

-- the sum of two margins is the sum of their values
pub by_sum : (f g h : Worth → ℤ) (first second sum : Margin) → IsMarginBy f first
    → IsMarginBy g second → IsMarginSum first second sum
    → ((worth : Worth) → h worth ≡ f worth +ℤ g worth) → IsMarginBy h sum
by_sum f g h first second sum one two is same = record {
  points = is.points ∙ (λ i. one.points i +ℤ two.points i) ∙ sym (same match_points);
  difference =
      is.difference ∙ (λ i. one.difference i +ℤ two.difference i) ∙ sym (same goal_difference);
  goals = is.goals ∙ (λ i. one.goals i +ℤ two.goals i) ∙ sym (same goals);
  away_goals =
      is.away_goals ∙ (λ i. one.away_goals i +ℤ two.away_goals i) ∙ sym (same away_goals);
  wins = is.wins ∙ (λ i. one.wins i +ℤ two.wins i) ∙ sym (same wins);
  away_wins = is.away_wins ∙ (λ i. one.away_wins i +ℤ two.away_wins i) ∙ sym (same away_wins);
}

-- two values that say the same
pub by_same : (f g : Worth → ℤ) (margin : Margin) → IsMarginBy f margin
    → ((worth : Worth) → f worth ≡ g worth) → IsMarginBy g margin
by_same f g margin is same = record {
  points = is.points ∙ same match_points;
  difference = is.difference ∙ same goal_difference;
  goals = is.goals ∙ same goals;
  away_goals = is.away_goals ∙ same away_goals;
  wins = is.wins ∙ same wins;
  away_wins = is.away_wins ∙ same away_wins;
}

-- no match is near enough
pub none_within : (bound : ℕ) → IsMarginWithin bound no_margin
none_within bound = record {
  points = (omega (arith, ints), omega (arith, ints));
  difference = (omega (arith, ints), omega (arith, ints));
  goals = (omega (arith, ints), omega (arith, ints));
  away_goals = (omega (arith, ints), omega (arith, ints));
  wins = (omega (arith, ints), omega (arith, ints));
  away_wins = (omega (arith, ints), omega (arith, ints));
}

-- nothing is added
pub sum_with_none : (margin : Margin) → IsMarginSum margin no_margin margin
sum_with_none margin = record {
  points = omega (arith, ints);
  difference = omega (arith, ints);
  goals = omega (arith, ints);
  away_goals = omega (arith, ints);
  wins = omega (arith, ints);
  away_wins = omega (arith, ints);
}

-- a sum is as near as both together
pub sum_near : (bound more : ℕ) (first second sum : Margin) → IsMarginSum first second sum
    → IsMarginWithin bound first → IsMarginWithin more second
    → IsMarginWithin (bound + more) sum
sum_near bound more first second sum is near also = record {
  points = within_sum bound more _ _ _ is.points near.points also.points;
  difference = within_sum bound more _ _ _ is.difference near.difference also.difference;
  goals = within_sum bound more _ _ _ is.goals near.goals also.goals;
  away_goals = within_sum bound more _ _ _ is.away_goals near.away_goals also.away_goals;
  wins = within_sum bound more _ _ _ is.wins near.wins also.wins;
  away_wins = within_sum bound more _ _ _ is.away_wins near.away_wins also.away_wins;
}

-- ---- what a match is worth

pub worth_home : (worth : Worth) (club : ℕ) (match : Fixture) (score : Score) → club ≡ match.home
    → worth_to worth club match score ≡ worth score.home score.away false
worth_home worth club match score same =
    ap (λ b. cond b (worth score.home score.away false)
    (cond (match.away == club) (worth score.away score.home true) (pos 0)))
    (eq-eqb match.home club (sym same))

pub worth_away : (worth : Worth) (club : ℕ) (match : Fixture) (score : Score) → club ≢ match.home
    → club ≡ match.away → worth_to worth club match score ≡ worth score.away score.home true
worth_away worth club match score other same =
    ap (λ b. cond b (worth score.home score.away false)
    (cond (match.away == club) (worth score.away score.home true) (pos 0)))
    (ne_eqb match.home club (λ e. other (sym e)))
    ∙ ap (λ b. cond b (worth score.away score.home true) (pos 0))
    (eq-eqb match.away club (sym same))

pub against_in : (worth : Worth) (club rival : ℕ) (match : Fixture) (score : Score)
    → has_club (match.home ∷ match.away ∷ []) rival ≡ true
    → worth_against rival worth club match score ≡ worth_to worth club match score
against_in worth club rival match score plays =
    ap (λ b. cond b (worth_to worth club match score) (pos 0)) plays

pub against_out : (worth : Worth) (club rival : ℕ) (match : Fixture) (score : Score)
    → has_club (match.home ∷ match.away ∷ []) rival ≡ false
    → worth_against rival worth club match score ≡ pos 0
against_out worth club rival match score none =
    ap (λ b. cond b (worth_to worth club match score) (pos 0)) none

pub plays_home : (match : Fixture) (club : ℕ) → club ≡ match.home
    → has_club (match.home ∷ match.away ∷ []) club ≡ true
plays_home match club same =
    ap (λ b. b || ((match.away == club) || false)) (eq-eqb match.home club (sym same))

pub plays_away : (match : Fixture) (club : ℕ) → club ≡ match.away
    → has_club (match.home ∷ match.away ∷ []) club ≡ true
plays_away match club same =
    ap (λ b. (match.home == club) || (b || false)) (eq-eqb match.away club (sym same))
    ∙ or-true (match.home == club)

pub stays_out : (match : Fixture) (club : ℕ) → club ≢ match.home → club ≢ match.away
    → StaysOut match club
stays_out match club home away = (λ e. home (sym e), λ e. away (sym e))

pub not_there : (match : Fixture) (club : ℕ) → StaysOut match club
    → has_club (match.home ∷ match.away ∷ []) club ≡ false
not_there match club out =
    λ i. ne_eqb match.home club out.0 i || (ne_eqb match.away club out.1 i || false)

-- ---- a match is added

pub both_sizes : (old mid new : PlayedPart) → KeepsSizes old mid → KeepsSizes mid new
    → KeepsSizes old new
both_sizes old mid new first second = record {
  unplayed = second.unplayed ∙ first.unplayed;
  clubs = second.clubs ∙ first.clubs;
  pairs = second.pairs ∙ first.pairs;
}

pub sizes_stay : (old new : PlayedPart) → KeepsSizes old new → AreSizes old → AreSizes new
sizes_stay old new keeps sizes = record {
  unplayed = keeps.unplayed ∙ sizes.unplayed;
  clubs = keeps.clubs ∙ sizes.clubs;
  pairs = keeps.pairs ∙ sizes.pairs;
}

-- one side more
pub side_near : (club rival played : ℕ) (worth : Margin) (old new : PlayedPart)
    → AddsSide club rival worth old new → IsMarginWithin 255 worth → ArePartsNear old played
    → ArePartsNear new (played + 1)
side_near club rival played worth old new adds worth_near near = record {
  clubs = λ other. club_near other (cases_eq other club);
  pairs = λ place. pair_near place (cases_eq place (32 * club + rival));
}
  where
    club_near : (other : ℕ) → (other ≡ club) ⊎ (other ≢ club)
        → IsMarginWithin (255 * (played + 1)) (club_margin new other)
    club_near other (inl same) =
        subst (λ (n : ℕ). IsMarginWithin (255 * (played + 1)) (club_margin new n)) (sym same)
        (margin_wider (255 * played + 255) (255 * (played + 1)) (club_margin new club)
        (omega arith)
        (sum_near (255 * played) 255 (club_margin old club) worth (club_margin new club) adds.own
        (near.clubs club) worth_near))
    club_near other (inr apart) =
        subst (λ (m : Margin). IsMarginWithin (255 * (played + 1)) m)
        (sym (adds.others other apart))
        (margin_wider (255 * played) (255 * (played + 1)) (club_margin old other) (omega arith)
        (near.clubs other))

    pair_near : (place : ℕ) → (place ≡ 32 * club + rival) ⊎ (place ≢ 32 * club + rival)
        → IsMarginWithin (255 * (played + 1)) (margin_listed new.pairs place)
    pair_near place (inl same) =
        subst (λ (n : ℕ). IsMarginWithin (255 * (played + 1)) (margin_listed new.pairs n))
        (sym same)
        (margin_wider (255 * played + 255) (255 * (played + 1)) (pair_margin new club rival)
        (omega arith)
        (sum_near (255 * played) 255 (pair_margin old club rival) worth
        (pair_margin new club rival) adds.pair (near.pairs (32 * club + rival)) worth_near))
    pair_near place (inr apart) =
        subst (λ (m : Margin). IsMarginWithin (255 * (played + 1)) m)
        (sym (adds.other_pairs place apart))
        (margin_wider (255 * played) (255 * (played + 1)) (margin_listed old.pairs place)
        (omega arith) (near.pairs place))

-- near by the number of fixtures without the open ones
pub near_by_rest : (part : PlayedPart) (count : ℕ) → IsPartNear part count
    → part.unplayed_count ≤ count → ArePartsNear part (count - part.unplayed_count)
near_by_rest part count near few =
    near (count - part.unplayed_count) (omega (arith, few))

pub near_wider : (part : PlayedPart) (played more : ℕ) → ArePartsNear part played
    → played ≤ more → ArePartsNear part more
near_wider part played more near less = record {
  clubs = λ club.
      margin_wider (255 * played) (255 * more) (club_margin part club) (omega (arith, less))
      (near.clubs club);
  pairs = λ place.
      margin_wider (255 * played) (255 * more) (margin_listed part.pairs place)
      (omega (arith, less)) (near.pairs place);
}
