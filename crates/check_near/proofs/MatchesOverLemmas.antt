-- Domains in the words of the near reason's test leave the same scores.
use Rattle.std.proofs.Common.{◌≡◌, ◌≢◌, ℕ, ◌+◌, ◌<◌, ◌≤◌, Bool, false, ◌&&◌, ◌||◌, ◌==◌, nat_le}
use Rattle.std.proofs.Common.{nat_lt, cond, List, length, set, get_or, sym, ap, ◌∙◌, subst}
use Rattle.std.proofs.Common.{◌⊎◌, inl, inr, take, arith}
use Rattle.std.proofs.lemmas.Bool.{cases_lt, cases_eq, lt-ltb, le-ltb}
use Rattle.std.proofs.lemmas.Bool.Decides.{nat_tests}
use Rattle.std.proofs.lemmas.List.{get_or-set_same, get_or-set_other, get_or-take, length-take-le}
use Rattle.league_core.specs.declared.season.Score.{Score}
use Rattle.near_bound.specs.declared.match_left.MatchLeft.{MatchLeft}
use Rattle.near_bound.specs.inside.MatchesLeft.{is_score_left}
use Rattle.near_bound.specs.inside.ZonesLeft.{AreLeftOf}
use Rattle.check_bounds.specs.declared.score_domain.GoalRange.{GoalRange}
use Rattle.check_bounds.specs.declared.score_domain.ScoreDomain.{ScoreDomain}
use Rattle.check_bounds.specs.inside.ScoreDomains.{is_goals_of}
use Rattle.check_bounds.specs.inside.Zones.{AreScoreDomainsOf}
use Rattle.check_near.specs.inside.MatchesOver.{IsMatchOf, AreMatchesOf}

-- the same goals, in numbers below 256
pub goals_same : (goals : GoalRange) (least most : ℕ)
    → least ≡ cond (nat_lt 255 goals.least) 1 goals.least
    → most ≡ cond (nat_lt 255 goals.least) 0 goals.most → goals.most ≤ 255
    → (number : ℕ) → (nat_le least number && nat_le number most) ≡ is_goals_of goals number
goals_same goals least most least_is most_is few number = by (cases_lt 255 goals.least)
  where
    by : (255 < goals.least) ⊎ (goals.least ≤ 255)
        → (nat_le least number && nat_le number most) ≡ is_goals_of goals number
    by (inl past) =
        let beyond = lt-ltb 255 goals.least past in
        let none : least ≡ 1 = least_is ∙ ap (λ b. cond b 1 goals.least) beyond in
        let nor : most ≡ 0 = most_is ∙ ap (λ b. cond b 0 goals.most) beyond in
        grind (arith, nat_tests, none, nor, past, few)
    by (inr within) =
        let same = least_is ∙ ap (λ b. cond b 1 goals.least) (le-ltb 255 goals.least within) in
        let also = most_is ∙ ap (λ b. cond b 0 goals.most) (le-ltb 255 goals.least within) in
        λ i. nat_le (same i) number && nat_le number (also i)

-- the same outcomes
pub outcomes_same : (home_win draw away_win : Bool) (home away : ℕ)
    → cond (nat_lt away home) home_win (cond (home == away) draw away_win)
    ≡ ((home_win && nat_lt away home) || (draw && (home == away)) || (away_win && nat_lt home away))
outcomes_same home_win draw away_win home away = grind (arith, nat_tests)

-- one match more
pub one_match_more : (matches : List MatchLeft) (scopes : List ScoreDomain) (count : ℕ)
    (match : MatchLeft) → count < length matches → AreMatchesOf matches scopes count
    → ((e : ScoreDomain) → IsMatchOf match (get_or scopes count e))
    → AreMatchesOf (set matches count match) scopes (count + 1)
one_match_more matches scopes count match inside so_far here k d e below = at (cases_eq k count)
  where
    at : (k ≡ count) ⊎ (k ≢ count)
        → IsMatchOf (get_or (set matches count match) k d) (get_or scopes k e)
    at (inl same) =
        subst (λ (n : ℕ). IsMatchOf (get_or (set matches count match) n d) (get_or scopes n e))
        (sym same)
        (subst (λ (m : MatchLeft). IsMatchOf m (get_or scopes count e))
        (sym (get_or-set_same matches count match d inside)) (here e))
    at (inr other) =
        subst (λ (m : MatchLeft). IsMatchOf m (get_or scopes k e))
        (sym (get_or-set_other matches count k match d other))
        (so_far k d e (omega (arith, below, other)))

-- the first so many of a table stand for the options of the domains
pub matches_stand : (matches : List MatchLeft) (scopes : List ScoreDomain)
    (options : List (List Score)) (count : ℕ) → length matches ≡ 600 → count ≤ 600
    → length scopes ≡ count → AreMatchesOf matches scopes count → AreScoreDomainsOf scopes options
    → AreLeftOf (take count matches) options
matches_stand matches scopes options count long few many are domains = record {
  many = taken ∙ sym many ∙ domains.many;
  each = λ k d inside score.
      let within : k < count = omega (arith, taken, inside) in
      ap (λ m. is_score_left m score) (get_or-take count matches k d within)
      ∙ are k d none within score
      ∙ domains.each k none (omega (arith, within, many)) score;
}
  where
    taken : length (take count matches) ≡ count
    taken = length-take-le count matches (omega (arith, long, few))

    none : ScoreDomain
    none = record {
      home_win = false;
      draw = false;
      away_win = false;
      home = record { least = 0; most = 0 };
      away = record { least = 0; most = 0 };
    }
