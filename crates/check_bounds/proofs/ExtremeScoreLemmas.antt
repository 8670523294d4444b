-- Extremes: the scores at the ends of what is left of each outcome are among the options, and each
-- option lies between them.
use Rattle.std.proofs.Common.{◌≡◌, ℕ, ◌+◌, ◌<◌, ◌≤◌, ◌⊎◌, inl, inr, Bool, true, false, ◌&&◌, ◌||◌}
use Rattle.std.proofs.Common.{List, [], ◌∷◌, ◌++◌, Option, Some, None, refl, sym, ap, subst, ◌∙◌}
use Rattle.std.proofs.Common.{arith}
use Rattle.std.proofs.Math.Bool.{or-false}
use Rattle.std.specs.Option.{MatchOption}
use Rattle.std.specs.List.{list_all}
use Rattle.std.proofs.lemmas.Bool.{and_parts, and_from, or_left, or_right, or_cases, lt-ltb}
use Rattle.std.proofs.lemmas.Bool.{ltb-true}
use Rattle.std.proofs.lemmas.Bool.{eqb-true, eq-eqb, false≢true}
use Rattle.std.proofs.lemmas.List.Folds.{list_any-append, list_all-append}
use Rattle.league_core.specs.declared.season.Score.{Score}
use Rattle.league_core.specs.game.Finishes.{same_score}
use Rattle.league_core.specs.search.Options.{is_home_win, is_draw, is_away_win, has_score}
use Rattle.league_core.specs.search.Options.{same_outcome, score_of}
use Rattle.league_core.proofs.OptionLemmas.{each_option, same_score-true}
use Rattle.league_core.proofs.OptionLemmas.{same_score-swap, has_score-first}
use Rattle.league_core.proofs.OutcomeLemmas.{same_outcome-home, same_outcome-draw}
use Rattle.league_core.proofs.OutcomeLemmas.{same_outcome-away, same_outcome-itself}
use Rattle.check_bounds.specs.declared.score_domain.ScoreDomain.{ScoreDomain}
use Rattle.check_bounds.specs.declared.extreme_scores.Wins.{Wins}
use Rattle.check_bounds.specs.declared.extreme_scores.Draws.{Draws}
use Rattle.check_bounds.specs.inside.ScoreDomains.{is_goals_of, leaves_outcome, is_left}
use Rattle.check_bounds.specs.inside.ScoreDomains.{IsScoreDomainOf}
use Rattle.check_bounds.specs.inside.ExtremeScores.{HasExtreme, LiesBetween, AreExtremesOf, CanWin}
use Rattle.check_bounds.specs.inside.ExtremeScores.{AreWinsOf, CanDraw, AreDrawsOf, home_extremes}
use Rattle.check_bounds.specs.inside.ExtremeScores.{away_extremes, draw_extremes, extremes_if}

-- an extreme of a part of the extremes is one of all
abbrev IsAmong : List Score → List Score → Type 0
IsAmong part whole = (c : Score) → has_score part c ≡ true → has_score whole c ≡ true

wider : (part whole : List Score) (score : Score) → IsAmong part whole
    → LiesBetween part score → LiesBetween whole score
wider part whole score among is = record {
  fewest_home = corner (λ c. c.home ≤ score.home) is.fewest_home;
  most_home = corner (λ c. score.home ≤ c.home) is.most_home;
  fewest_away = corner (λ c. c.away ≤ score.away) is.fewest_away;
  most_away = corner (λ c. score.away ≤ c.away) is.most_away;
  least_lead = corner (λ c. c.home + score.away ≤ score.home + c.away) is.least_lead;
  most_lead = corner (λ c. score.home + c.away ≤ c.home + score.away) is.most_lead;
}
  where
    corner : (Passes : Score → Type 0) → HasExtreme part score Passes
        → HasExtreme whole score Passes
    corner Passes found = (found.0, among found.0 found.1, found.2, found.3)

later_of : (a b : Score) (rest : List Score) → has_score rest b ≡ true
    → has_score (a ∷ rest) b ≡ true
later_of a b rest there = or_right (same_score b a) (has_score rest b) there

-- what a win leaves
home_left : (scope : ScoreDomain) (won lost : ℕ) → scope.home_win ≡ true
    → CanWin scope.home scope.away won lost → is_left scope (score_of won lost) ≡ true
home_left scope won lost left can =
    and_from (is_goals_of scope.home won && is_goals_of scope.away lost)
    (leaves_outcome scope (score_of won lost))
    (and_from (is_goals_of scope.home won) (is_goals_of scope.away lost) can.0 can.1)
    (or_left ((scope.home_win && is_home_win (score_of won lost))
    || (scope.draw && is_draw (score_of won lost)))
    (scope.away_win && is_away_win (score_of won lost))
    (or_left (scope.home_win && is_home_win (score_of won lost))
    (scope.draw && is_draw (score_of won lost))
    (and_from scope.home_win (is_home_win (score_of won lost)) left (lt-ltb lost won can.2))))

away_left : (scope : ScoreDomain) (won lost : ℕ) → scope.away_win ≡ true
    → CanWin scope.away scope.home won lost → is_left scope (score_of lost won) ≡ true
away_left scope won lost left can =
    and_from (is_goals_of scope.home lost && is_goals_of scope.away won)
    (leaves_outcome scope (score_of lost won))
    (and_from (is_goals_of scope.home lost) (is_goals_of scope.away won) can.1 can.0)
    (or_right ((scope.home_win && is_home_win (score_of lost won))
    || (scope.draw && is_draw (score_of lost won)))
    (scope.away_win && is_away_win (score_of lost won))
    (and_from scope.away_win (is_away_win (score_of lost won)) left (lt-ltb lost won can.2)))

draw_left : (scope : ScoreDomain) (goals : ℕ) → scope.draw ≡ true
    → CanDraw scope.home scope.away goals → is_left scope (score_of goals goals) ≡ true
draw_left scope goals left can =
    and_from (is_goals_of scope.home goals && is_goals_of scope.away goals)
    (leaves_outcome scope (score_of goals goals))
    (and_from (is_goals_of scope.home goals) (is_goals_of scope.away goals) can.0 can.1)
    (or_left ((scope.home_win && is_home_win (score_of goals goals))
    || (scope.draw && is_draw (score_of goals goals)))
    (scope.away_win && is_away_win (score_of goals goals))
    (or_right (scope.home_win && is_home_win (score_of goals goals))
    (scope.draw && is_draw (score_of goals goals))
    (and_from scope.draw (is_draw (score_of goals goals)) left (eq-eqb goals goals refl))))

four_pass : (test : Score → Bool) (a b c d : Score) → test a ≡ true → test b ≡ true
    → test c ≡ true → test d ≡ true → list_all test (a ∷ b ∷ c ∷ d ∷ []) ≡ true
four_pass test a b c d pa pb pc pd =
    and_from (test a) (list_all test (b ∷ c ∷ d ∷ [])) pa
    (and_from (test b) (list_all test (c ∷ d ∷ [])) pb
    (and_from (test c) (list_all test (d ∷ [])) pc (and_from (test d) true pd refl)))

-- the extremes of each outcome are left
home_inside : (scope : ScoreDomain) (left : Bool) (wins : Option Wins) → scope.home_win ≡ left
    → MatchOption wins ((won lost : ℕ) → CanWin scope.home scope.away won lost → ⊥)
    (AreWinsOf scope.home scope.away)
    → list_all (is_left scope) (extremes_if left home_extremes wins) ≡ true
home_inside scope left None is are = refl
home_inside scope false (Some wins) is are = refl
home_inside scope true (Some wins) is are =
    four_pass (is_left scope) (score_of wins.won_least wins.lost_least)
    (score_of wins.won_most wins.lost_least) (score_of wins.won_most wins.lost_most)
    (score_of wins.near wins.lost_most)
    (home_left scope wins.won_least wins.lost_least is are.tight)
    (home_left scope wins.won_most wins.lost_least is are.wide)
    (home_left scope wins.won_most wins.lost_most is are.high)
    (home_left scope wins.near wins.lost_most is are.near)

away_inside : (scope : ScoreDomain) (left : Bool) (wins : Option Wins) → scope.away_win ≡ left
    → MatchOption wins ((won lost : ℕ) → CanWin scope.away scope.home won lost → ⊥)
    (AreWinsOf scope.away scope.home)
    → list_all (is_left scope) (extremes_if left away_extremes wins) ≡ true
away_inside scope left None is are = refl
away_inside scope false (Some wins) is are = refl
away_inside scope true (Some wins) is are =
    four_pass (is_left scope) (score_of wins.lost_least wins.won_least)
    (score_of wins.lost_least wins.won_most) (score_of wins.lost_most wins.won_most)
    (score_of wins.lost_most wins.near)
    (away_left scope wins.won_least wins.lost_least is are.tight)
    (away_left scope wins.won_most wins.lost_least is are.wide)
    (away_left scope wins.won_most wins.lost_most is are.high)
    (away_left scope wins.near wins.lost_most is are.near)

draw_inside : (scope : ScoreDomain) (left : Bool) (draws : Option Draws) → scope.draw ≡ left
    → MatchOption draws ((goals : ℕ) → CanDraw scope.home scope.away goals → ⊥)
    (AreDrawsOf scope.home scope.away)
    → list_all (is_left scope) (extremes_if left draw_extremes draws) ≡ true
draw_inside scope left None is are = refl
draw_inside scope false (Some draws) is are = refl
draw_inside scope true (Some draws) is are =
    and_from (is_left scope (score_of draws.least draws.least)) _
    (draw_left scope draws.least is are.least)
    (and_from (is_left scope (score_of draws.most draws.most)) true
    (draw_left scope draws.most is are.most) refl)

-- a home win lies between the extremes of home wins
home_between : (scope : ScoreDomain) (left : Bool) (wins : Option Wins) (score : Score)
    → left ≡ true
    → MatchOption wins ((won lost : ℕ) → CanWin scope.home scope.away won lost → ⊥)
    (AreWinsOf scope.home scope.away) → is_goals_of scope.home score.home ≡ true
    → is_goals_of scope.away score.away ≡ true → is_home_win score ≡ true
    → LiesBetween (extremes_if left home_extremes wins) score
home_between scope left None score is are home away won =
    absurd (are score.home score.away (home, away, ltb-true score.away score.home won))
home_between scope false (Some wins) score is are home away won = absurd (false≢true is)
home_between scope true (Some wins) score is are home away won =
    let tight : Score = score_of wins.won_least wins.lost_least in
    let wide : Score = score_of wins.won_most wins.lost_least in
    let high : Score = score_of wins.won_most wins.lost_most in
    let near : Score = score_of wins.near wins.lost_most in
    let above : score.away < score.home = ltb-true score.away score.home won in
    let within = are.within score.home score.away (home, away, above) in
    let at_tight : (has_score (tight ∷ wide ∷ high ∷ near ∷ []) tight ≡ true)
    × (same_outcome tight score ≡ true) = (
      has_score-first tight (wide ∷ high ∷ near ∷ []),
      same_outcome-home tight score (lt-ltb tight.away tight.home are.tight.2) won,
    ) in
    let at_wide : (has_score (tight ∷ wide ∷ high ∷ near ∷ []) wide ≡ true)
    × (same_outcome wide score ≡ true) = (
      later_of tight wide (wide ∷ high ∷ near ∷ []) (has_score-first wide (high ∷ near ∷ [])),
      same_outcome-home wide score (lt-ltb wide.away wide.home are.wide.2) won,
    ) in
    let at_high : (has_score (tight ∷ wide ∷ high ∷ near ∷ []) high ≡ true)
    × (same_outcome high score ≡ true) = (
      later_of tight high (wide ∷ high ∷ near ∷ []) (later_of wide high
          (high ∷ near ∷ []) (has_score-first high (near ∷ []))),
      same_outcome-home high score (lt-ltb high.away high.home are.high.2) won,
    ) in
    let at_near : (has_score (tight ∷ wide ∷ high ∷ near ∷ []) near ≡ true)
    × (same_outcome near score ≡ true) = (
      later_of tight near (wide ∷ high ∷ near ∷ []) (later_of wide near
          (high ∷ near ∷ []) (later_of high near (near ∷ []) (has_score-first near []))),
      same_outcome-home near score (lt-ltb near.away near.home are.near.2) won,
    ) in
    record {
      fewest_home = (tight, at_tight.0, at_tight.1, within.0);
      most_home = (wide, at_wide.0, at_wide.1, within.1);
      fewest_away = (tight, at_tight.0, at_tight.1, within.2);
      most_away = (high, at_high.0, at_high.1, within.3);
      least_lead = (
        near,
        at_near.0,
        at_near.1,
        by_near wins score.home score.away are.nearest
            within.0 within.3 above,
      );
      most_lead = (
        wide,
        at_wide.0,
        at_wide.1,
        by_wide score.home score.away wins.won_most
            wins.lost_least within.1 within.2,
      );
    }
  where
    by_near : (wins : Wins) (won lost : ℕ)
        → (wins.near ≤ wins.won_least) ⊎ (wins.near ≤ wins.lost_most + 1)
        → wins.won_least ≤ won → lost ≤ wins.lost_most → lost < won
        → wins.near + lost ≤ won + wins.lost_most
    by_near wins won lost (inl close) low high above = omega (arith, close, low, high)
    by_near wins won lost (inr close) low high above = omega (arith, close, above)

    by_wide : (won lost most least : ℕ) → won ≤ most → least ≤ lost → won + least ≤ most + lost
    by_wide won lost most least high low = omega (arith, high, low)

-- an away win lies between those of away wins
away_between : (scope : ScoreDomain) (left : Bool) (wins : Option Wins) (score : Score)
    → left ≡ true
    → MatchOption wins ((won lost : ℕ) → CanWin scope.away scope.home won lost → ⊥)
    (AreWinsOf scope.away scope.home) → is_goals_of scope.home score.home ≡ true
    → is_goals_of scope.away score.away ≡ true → is_away_win score ≡ true
    → LiesBetween (extremes_if left away_extremes wins) score
away_between scope left None score is are home away won =
    absurd (are score.away score.home (away, home, ltb-true score.home score.away won))
away_between scope false (Some wins) score is are home away won = absurd (false≢true is)
away_between scope true (Some wins) score is are home away won =
    let tight : Score = score_of wins.lost_least wins.won_least in
    let wide : Score = score_of wins.lost_least wins.won_most in
    let high : Score = score_of wins.lost_most wins.won_most in
    let near : Score = score_of wins.lost_most wins.near in
    let above : score.home < score.away = ltb-true score.home score.away won in
    let within = are.within score.away score.home (away, home, above) in
    let at_tight : (has_score (tight ∷ wide ∷ high ∷ near ∷ []) tight ≡ true)
    × (same_outcome tight score ≡ true) = (
      has_score-first tight (wide ∷ high ∷ near ∷ []),
      same_outcome-away tight score (lt-ltb tight.home tight.away are.tight.2) won,
    ) in
    let at_wide : (has_score (tight ∷ wide ∷ high ∷ near ∷ []) wide ≡ true)
    × (same_outcome wide score ≡ true) = (
      later_of tight wide (wide ∷ high ∷ near ∷ []) (has_score-first wide (high ∷ near ∷ [])),
      same_outcome-away wide score (lt-ltb wide.home wide.away are.wide.2) won,
    ) in
    let at_high : (has_score (tight ∷ wide ∷ high ∷ near ∷ []) high ≡ true)
    × (same_outcome high score ≡ true) = (
      later_of tight high (wide ∷ high ∷ near ∷ []) (later_of wide high
          (high ∷ near ∷ []) (has_score-first high (near ∷ []))),
      same_outcome-away high score (lt-ltb high.home high.away are.high.2) won,
    ) in
    let at_near : (has_score (tight ∷ wide ∷ high ∷ near ∷ []) near ≡ true)
    × (same_outcome near score ≡ true) = (
      later_of tight near (wide ∷ high ∷ near ∷ []) (later_of wide near
          (high ∷ near ∷ []) (later_of high near (near ∷ []) (has_score-first near []))),
      same_outcome-away near score (lt-ltb near.home near.away are.near.2) won,
    ) in
    record {
      fewest_home = (tight, at_tight.0, at_tight.1, within.2);
      most_home = (high, at_high.0, at_high.1, within.3);
      fewest_away = (tight, at_tight.0, at_tight.1, within.0);
      most_away = (wide, at_wide.0, at_wide.1, within.1);
      least_lead = (
        wide,
        at_wide.0,
        at_wide.1,
        by_wide score.away score.home wins.won_most
            wins.lost_least within.1 within.2,
      );
      most_lead = (
        near,
        at_near.0,
        at_near.1,
        by_near wins score.away score.home are.nearest
            within.0 within.3 above,
      );
    }
  where
    by_near : (wins : Wins) (won lost : ℕ)
        → (wins.near ≤ wins.won_least) ⊎ (wins.near ≤ wins.lost_most + 1)
        → wins.won_least ≤ won → lost ≤ wins.lost_most → lost < won
        → lost + wins.near ≤ wins.lost_most + won
    by_near wins won lost (inl close) low high above = omega (arith, close, low, high)
    by_near wins won lost (inr close) low high above = omega (arith, close, above)

    by_wide : (won lost most least : ℕ) → won ≤ most → least ≤ lost → least + won ≤ lost + most
    by_wide won lost most least high low = omega (arith, high, low)

-- and a draw between those of draws
draw_between : (scope : ScoreDomain) (left : Bool) (draws : Option Draws) (score : Score)
    → left ≡ true
    → MatchOption draws ((goals : ℕ) → CanDraw scope.home scope.away goals → ⊥)
    (AreDrawsOf scope.home scope.away) → is_goals_of scope.home score.home ≡ true
    → is_goals_of scope.away score.away ≡ true → is_draw score ≡ true
    → LiesBetween (extremes_if left draw_extremes draws) score
draw_between scope left None score is are home away drawn =
    let level : score.home ≡ score.away = eqb-true score.home score.away drawn in
    absurd (are score.home (home, ap (is_goals_of scope.away) level ∙ away))
draw_between scope false (Some draws) score is are home away drawn = absurd (false≢true is)
draw_between scope true (Some draws) score is are home away drawn =
    let level : score.home ≡ score.away = eqb-true score.home score.away drawn in
    let within = are.within score.home (home, ap (is_goals_of scope.away) level ∙ away) in
    let low : Score = score_of draws.least draws.least in
    let high : Score = score_of draws.most draws.most in
    let at_low : (has_score (low ∷ high ∷ []) low ≡ true)
    × (same_outcome low score ≡ true) = (
      has_score-first low (high ∷ []),
      same_outcome-draw low score (eq-eqb draws.least draws.least refl) drawn,
    ) in
    let at_high : (has_score (low ∷ high ∷ []) high ≡ true)
    × (same_outcome high score ≡ true) = (
      later_of low high (high ∷ []) (has_score-first high []),
      same_outcome-draw high score (eq-eqb draws.most draws.most refl) drawn,
    ) in
    record {
      fewest_home = (low, at_low.0, at_low.1, within.0);
      most_home = (high, at_high.0, at_high.1, within.1);
      fewest_away = (low, at_low.0, at_low.1, omega (arith, level, within.0));
      most_away = (high, at_high.0, at_high.1, omega (arith, level, within.1));
      least_lead = (low, at_low.0, at_low.1, omega (arith, level));
      most_lead = (low, at_low.0, at_low.1, omega (arith, level));
    }

-- what is left lies between the extremes of its outcome
lies_between : (scope : ScoreDomain) (hs ds ws : List Score) (score : Score)
    → (scope.home_win ≡ true → is_goals_of scope.home score.home ≡ true
    → is_goals_of scope.away score.away ≡ true → is_home_win score ≡ true → LiesBetween hs score)
    → (scope.draw ≡ true → is_goals_of scope.home score.home ≡ true
    → is_goals_of scope.away score.away ≡ true → is_draw score ≡ true → LiesBetween ds score)
    → (scope.away_win ≡ true → is_goals_of scope.home score.home ≡ true
    → is_goals_of scope.away score.away ≡ true → is_away_win score ≡ true → LiesBetween ws score)
    → is_left scope score ≡ true → LiesBetween ((hs ++ ds) ++ ws) score
lies_between scope hs ds ws score by_home by_draw by_away left =
    let parts = and_parts (is_goals_of scope.home score.home && is_goals_of scope.away score.away)
    (leaves_outcome scope score) left in
    let goals = and_parts (is_goals_of scope.home score.home) (is_goals_of scope.away score.away)
    parts.0 in
    elim (or_cases ((scope.home_win && is_home_win score) || (scope.draw && is_draw score))
    (scope.away_win && is_away_win score) parts.1) as (λ _. LiesBetween ((hs ++ ds) ++ ws) score) [
      | inl first ↦
          elim (or_cases (scope.home_win && is_home_win score) (scope.draw && is_draw score) first)
          as (λ _. LiesBetween ((hs ++ ds) ++ ws) score) [
            | inl home ↦
                let both = and_parts scope.home_win (is_home_win score) home in
                wider hs ((hs ++ ds) ++ ws) score
                (λ c there. in_front (hs ++ ds) ws c (in_front hs ds c there))
                (by_home both.0 goals.0 goals.1 both.1)
            | inr draw ↦
                let both = and_parts scope.draw (is_draw score) draw in
                wider ds ((hs ++ ds) ++ ws) score
                (λ c there. in_front (hs ++ ds) ws c (behind hs ds c there))
                (by_draw both.0 goals.0 goals.1 both.1)
          ]
      | inr away ↦
          let both = and_parts scope.away_win (is_away_win score) away in
          wider ws ((hs ++ ds) ++ ws) score (λ c there. behind (hs ++ ds) ws c there)
          (by_away both.0 goals.0 goals.1 both.1)
    ]
  where
    in_front : (xs ys : List Score) (c : Score) → has_score xs c ≡ true
        → has_score (xs ++ ys) c ≡ true
    in_front xs ys c there =
        list_any-append (same_score c) xs ys ∙ or_left (has_score xs c) (has_score ys c) there

    behind : (xs ys : List Score) (c : Score) → has_score ys c ≡ true
        → has_score (xs ++ ys) c ≡ true
    behind xs ys c there =
        list_any-append (same_score c) xs ys ∙ or_right (has_score xs c) (has_score ys c) there

-- the extremes of all outcomes
pub corners_are : (scope : ScoreDomain) (home away : Option Wins) (draws : Option Draws)
    → MatchOption home ((won lost : ℕ) → CanWin scope.home scope.away won lost → ⊥)
    (AreWinsOf scope.home scope.away)
    → MatchOption draws ((goals : ℕ) → CanDraw scope.home scope.away goals → ⊥)
    (AreDrawsOf scope.home scope.away)
    → MatchOption away ((won lost : ℕ) → CanWin scope.away scope.home won lost → ⊥)
    (AreWinsOf scope.away scope.home) → (options : List Score) → IsScoreDomainOf scope options
    → AreExtremesOf ((extremes_if scope.home_win home_extremes home
    ++ extremes_if scope.draw draw_extremes draws) ++ extremes_if scope.away_win away_extremes away)
    options
corners_are scope home away draws home_are draws_are away_are options is =
    let hs = extremes_if scope.home_win home_extremes home in
    let ds = extremes_if scope.draw draw_extremes draws in
    let ws = extremes_if scope.away_win away_extremes away in
    record {
      inside = λ score there.
          sym (is score)
          ∙ each_option (is_left scope) ((hs ++ ds) ++ ws)
          (list_all-append (is_left scope) (hs ++ ds) ws
          ∙ and_from (list_all (is_left scope) (hs ++ ds)) (list_all (is_left scope) ws)
          (list_all-append (is_left scope) hs ds
          ∙ and_from (list_all (is_left scope) hs) (list_all (is_left scope) ds)
          (home_inside scope scope.home_win home refl home_are)
          (draw_inside scope scope.draw draws refl draws_are))
          (away_inside scope scope.away_win away refl away_are)) score there;
      between = λ score there. lies_between scope hs ds ws score
          (λ left h a won. home_between scope scope.home_win home score left home_are h a won)
          (λ left h a drawn. draw_between scope scope.draw draws score left draws_are h a drawn)
          (λ left h a won. away_between scope scope.away_win away score left away_are h a won)
          (is score ∙ there);
    }

-- a score lies between itself and itself
between_itself : (only : Score) → LiesBetween (only ∷ []) only
between_itself only =
    let there = has_score-first only [] in
    let same = same_outcome-itself only in
    record {
      fewest_home = (only, there, same, omega arith);
      most_home = (only, there, same, omega arith);
      fewest_away = (only, there, same, omega arith);
      most_away = (only, there, same, omega arith);
      least_lead = (only, there, same, omega arith);
      most_lead = (only, there, same, omega arith);
    }

-- if one score is left, it is the extremes
pub only_corner : (scope : ScoreDomain) (only : Score)
    → ((score : Score) → is_left scope score ≡ same_score only score) → (options : List Score)
    → IsScoreDomainOf scope options → AreExtremesOf (only ∷ []) options
only_corner scope only left options is = record {
  inside = λ score there.
      sym (is score) ∙ left score ∙ same_score-swap only score
      ∙ sym (or-false (same_score score only)) ∙ there;
  between = λ score there.
      let same : only ≡ score = same_score-true only score (sym (left score) ∙ is score ∙ there)
      in
      subst (λ (s : Score). LiesBetween (only ∷ []) s) same (between_itself only);
}
