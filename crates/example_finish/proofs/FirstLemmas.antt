-- The first scores of a cell: of each outcome, and of several outcomes together.
use Rattle.std.proofs.Common.{◌≡◌, ◌≢◌, ◌⊎◌, inl, inr, ◌+◌, ◌-◌, ◌<◌, ◌≤◌, ℕ, ℤ, pos, neg_ℤ}
use Rattle.std.proofs.Common.{Bool, true, false, List, [], ◌∷◌, Option, Some, None, Less, min}
use Rattle.std.proofs.Common.{Ordering, Equal, Greater, is_gt, refl, sym, ap, ap₂, subst}
use Rattle.std.proofs.Common.{◌≤ℤ◌, ◌+ℤ◌, ◌∙◌, arith}
use Rattle.std.specs.Ordering.{ordering_reverse}
use Rattle.std.proofs.lemmas.Cmp.{upto}
use Rattle.std.proofs.Math.Logic.{⊎_swap, ⊎_elim}
use Rattle.std.proofs.lemmas.Int.{ints, by_lt_z}
use Rattle.std.proofs.lemmas.Bool.{or_left, or_right, or_cases, cases_lt, ltb-true}
use Rattle.std.proofs.lemmas.Bool.{lt-ltb, eqb-true, true≢false}
use Rattle.league_core.specs.declared.season.Score.{Score}
use Rattle.league_core.specs.game.Sums.{match_points, goal_difference}
use Rattle.league_core.specs.search.Options.{score_of, is_home_win, is_draw, is_away_win}
use Rattle.league_core.specs.search.Proposals.{weighed, weighed_together, option_order}
use Rattle.league_core.specs.search.Proposals.{first_option}
use Rattle.league_core.proofs.OutcomeLemmas.{outcome_cases}
use Rattle.league_core.proofs.OptionLemmas.{has_score-first}
use Rattle.league_core.proofs.ProposalLemmas.{option_order_total, first_option_of}
use Rattle.score_box.specs.declared.cell.Cell.{Cell}
use Rattle.score_box.specs.declared.cell.goals.ScoreRange.{ScoreRange}
use Rattle.score_box.specs.inside.Cells.{keeps_outcome, IsAllowed, AllowsNone, IsBetween}
use Rattle.score_box.specs.inside.Cells.{IsScoreRangeOf, IsCellOf}
use Rattle.score_box.proofs.CellLemmas.{ranges_of, allows_from, keeps_home_win}
use Rattle.score_box.proofs.CellLemmas.{keeps_away_win}
use Rattle.example_finish.specs.inside.Firsts.{IsFirstScore, IsFirstAmong, is_any, is_win}
use Rattle.example_finish.specs.inside.Firsts.{is_no_home_win, is_no_away_win}
use Rattle.example_finish.proofs.OrderLemmas.{IsNoGreater, not_before}
use Rattle.example_finish.proofs.OrderLemmas.{home_win_points, draw_points, away_win_points}

-- ---- the scores of one outcome

-- they fill what is between their ends
between : (cell : Cell) (goals : ScoreRange) (test : Score → Bool) (kept : Bool) (score : Score)
    → ((other : Score) → test other ≡ true → keeps_outcome cell other ≡ kept)
    → IsScoreRangeOf cell test goals → goals.home_least ≤ score.home → score.home ≤ goals.home_most
    → goals.away_least ≤ score.away → score.away ≤ goals.away_most → test score ≡ true
    → IsAllowed cell test score
between cell goals test kept score keeps range home_from home_to away_from away_to passed =
    let one = ranges_of cell range.home_least.0 range.home_least.1.allowed in
    let first = one.0 in
    let second = (ranges_of cell range.home_most.0 range.home_most.1.allowed).0 in
    let third = (ranges_of cell range.away_least.0 range.away_least.1.allowed).0 in
    let fourth = (ranges_of cell range.away_most.0 range.away_most.1.allowed).0 in
    let home_low : range.home_least.0.home ≡ goals.home_least = range.home_least.2 in
    let home_high : range.home_most.0.home ≡ goals.home_most = range.home_most.2 in
    let away_low : range.away_least.0.away ≡ goals.away_least = range.away_least.2 in
    let away_high : range.away_most.0.away ≡ goals.away_most = range.away_most.2 in
    record {
      allowed = allows_from cell score (record {
        home_least = omega arith;
        home_most = omega arith;
        away_least = omega arith;
        away_most = omega arith;
      }) (keeps score passed ∙ sym (keeps range.home_least.0 range.home_least.1.passed) ∙ one.1);
      passed = passed;
    }

abbrev margin : Bool → Bool → Score → ℤ
margin home away score = weighed_together goal_difference home away score

-- a margin that is no wider, and no goal fewer on either side if it is the same
abbrev IsBehind : Bool → Bool → Score → Score → Type 0
IsBehind home away best other =
    (margin home away other ≤ℤ margin home away best)
    × (margin home away other ≡ margin home away best
    → (best.home ≤ other.home) × (best.away ≤ other.away))

-- what decides if the points and the margin are the same
abbrev rest_of : Score → List ℤ
rest_of score = neg_ℤ (pos (score.home + score.away)) ∷ pos score.home ∷ []

-- of the scores of one outcome the one that the others are behind is the first
ahead_is_first : (cell : Cell) (goals : ScoreRange) (test : Score → Bool) (home away : Bool)
    (points : ℤ) (best : Score)
    → ((score : Score) → test score ≡ true
    → weighed_together match_points home away score ≡ points)
    → IsScoreRangeOf cell test goals → IsAllowed cell test best
    → ((other : Score) → IsBetween goals other → test other ≡ true → IsBehind home away best other)
    → IsFirstScore cell test home away best
ahead_is_first cell goals test home away points best brings range allowed behind = record {
  one = allowed;
  first = λ other is.
      not_before home away best other
      (inr (
        brings other is.passed ∙ sym (brings best allowed.passed),
        rest other (behind other (range.within other is) is.passed),
      ));
}
  where
    fewer : (other : Score) → best.home ≤ other.home → best.away ≤ other.away
        → IsNoGreater (rest_of other) (rest_of best)
    fewer other home away =
        elim (cases_lt (best.home + best.away) (other.home + other.away)) as
        (λ _. IsNoGreater (rest_of other) (rest_of best)) [
          | inl less ↦ inl (omega (arith, ints))
          | inr same ↦ inr (omega (arith, ints), inr (omega (arith, ints), tt))
        ]

    rest : (other : Score) → IsBehind home away best other
        → IsNoGreater (margin home away other ∷ rest_of other)
        (margin home away best ∷ rest_of best)
    rest other is =
        by_lt_z (margin home away other) (margin home away best) (λ less. inl less)
        (λ no_less.
        let same : margin home away other ≡ margin home away best = omega (arith, ints, is.0) in
        inr (same, fewer other (is.1 same).0 (is.1 same).1))

-- two sides with one wish have no margin
margin_alike : (wish : Bool) (score : Score) → margin wish wish score ≡ pos 0
margin_alike true score = omega (arith, ints)
margin_alike false score = omega (arith, ints)

margin_level : (home away : Bool) (score : Score) → score.home ≡ score.away
    → margin home away score ≡ pos 0
margin_level true true score level = omega (arith, ints)
margin_level true false score level = omega (arith, ints)
margin_level false true score level = omega (arith, ints)
margin_level false false score level = omega (arith, ints)

-- of scores with no margin the one with the fewest goals is the first
least_is_first : (cell : Cell) (goals : ScoreRange) (test : Score → Bool) (home away : Bool)
    (points : ℤ)
    → ((score : Score) → test score ≡ true
    → weighed_together match_points home away score ≡ points)
    → ((score : Score) → test score ≡ true → margin home away score ≡ pos 0)
    → IsScoreRangeOf cell test goals
    → IsAllowed cell test (score_of goals.home_least goals.away_least)
    → IsFirstScore cell test home away (score_of goals.home_least goals.away_least)
least_is_first cell goals test home away points brings level range allowed =
    let least = score_of goals.home_least goals.away_least in
    ahead_is_first cell goals test home away points least brings range allowed
    (λ other is passed.
    let one = level other passed in
    let two = level least allowed.passed in
    (omega (arith, ints, one, two), λ _. (is.home_least, is.away_least)))

pub draw_is_first : (cell : Cell) (goals : ScoreRange) (home away : Bool)
    → IsScoreRangeOf cell is_draw goals
    → IsAllowed cell is_draw (score_of goals.home_least goals.away_least)
    → IsFirstScore cell is_draw home away (score_of goals.home_least goals.away_least)
draw_is_first cell goals home away range allowed =
    least_is_first cell goals is_draw home away _ (draw_points home away)
    (λ score draws. margin_level home away score (eqb-true score.home score.away draws))
    range allowed

-- of sides with one wish the home win with the fewest goals is the first
pub small_home_win_is_first : (cell : Cell) (goals : ScoreRange) (wish : Bool)
    → IsScoreRangeOf cell is_home_win goals
    → IsFirstScore cell is_home_win wish wish (score_of goals.home_least goals.away_least)
small_home_win_is_first cell goals wish range =
    let low : range.home_least.0.home ≡ goals.home_least = range.home_least.2 in
    let inside = range.within range.home_least.0 range.home_least.1 in
    let won = ltb-true range.home_least.0.away range.home_least.0.home range.home_least.1.passed in
    least_is_first cell goals is_home_win wish wish _ (home_win_points wish wish)
    (λ score _. margin_alike wish score) range
    (between cell goals is_home_win cell.home_win _
    (λ other wins. keeps_home_win cell other (ltb-true other.away other.home wins)) range
    (omega arith) (omega arith) (omega arith) (omega arith)
    (lt-ltb goals.away_least goals.home_least (omega arith)))

pub small_away_win_is_first : (cell : Cell) (goals : ScoreRange) (wish : Bool)
    → IsScoreRangeOf cell is_away_win goals
    → IsFirstScore cell is_away_win wish wish (score_of goals.home_least goals.away_least)
small_away_win_is_first cell goals wish range =
    let low : range.away_least.0.away ≡ goals.away_least = range.away_least.2 in
    let inside = range.within range.away_least.0 range.away_least.1 in
    let lost = ltb-true range.away_least.0.home range.away_least.0.away range.away_least.1.passed in
    least_is_first cell goals is_away_win wish wish _ (away_win_points wish wish)
    (λ score _. margin_alike wish score) range
    (between cell goals is_away_win cell.away_win _
    (λ other loses. keeps_away_win cell other (ltb-true other.home other.away loses)) range
    (omega arith) (omega arith) (omega arith) (omega arith)
    (lt-ltb goals.home_least goals.away_least (omega arith)))

-- of sides of which the home side alone is wished points, the widest home win is the first
pub wide_home_win_is_first : (cell : Cell) (goals : ScoreRange)
    → IsScoreRangeOf cell is_home_win goals
    → IsAllowed cell is_home_win (score_of goals.home_most goals.away_least)
    → IsFirstScore cell is_home_win true false (score_of goals.home_most goals.away_least)
wide_home_win_is_first cell goals range allowed =
    ahead_is_first cell goals is_home_win true false _ _ (home_win_points true false) range allowed
    (λ other is _. (omega (arith, ints), λ same. (omega (arith, ints), omega (arith, ints))))

pub wide_away_win_is_first : (cell : Cell) (goals : ScoreRange)
    → IsScoreRangeOf cell is_away_win goals
    → IsAllowed cell is_away_win (score_of goals.home_least goals.away_most)
    → IsFirstScore cell is_away_win false true (score_of goals.home_least goals.away_most)
wide_away_win_is_first cell goals range allowed =
    ahead_is_first cell goals is_away_win false true _ _ (away_win_points false true) range allowed
    (λ other is _. (omega (arith, ints), λ same. (omega (arith, ints), omega (arith, ints))))

-- of sides of which the away side alone is wished points, the narrowest home win with the fewest
-- goals is the first
pub narrow_home_win_is_first : (cell : Cell) (goals : ScoreRange) (away : ℕ)
    → IsScoreRangeOf cell is_home_win goals → away ≡ min goals.away_most (goals.home_least - 1)
    → IsFirstScore cell is_home_win false true (score_of goals.home_least away)
narrow_home_win_is_first cell goals away range is_min =
    let low : range.home_least.0.home ≡ goals.home_least = range.home_least.2 in
    let inside = range.within range.home_least.0 range.home_least.1 in
    let won = ltb-true range.home_least.0.away range.home_least.0.home range.home_least.1.passed in
    ahead_is_first cell goals is_home_win false true _ _ (home_win_points false true) range
    (between cell goals is_home_win cell.home_win _
    (λ other wins. keeps_home_win cell other (ltb-true other.away other.home wins)) range
    (omega arith) (omega arith) (omega arith) (omega arith)
    (lt-ltb away goals.home_least (omega arith)))
    (λ other is wins.
    let more : other.away < other.home = ltb-true other.away other.home wins in
    let wider : goals.home_least + other.away ≤ other.home + away = omega arith in
    (omega (arith, ints), λ same. (omega (arith, ints), omega (arith, ints))))

pub narrow_away_win_is_first : (cell : Cell) (goals : ScoreRange) (home : ℕ)
    → IsScoreRangeOf cell is_away_win goals → home ≡ min goals.home_most (goals.away_least - 1)
    → IsFirstScore cell is_away_win true false (score_of home goals.away_least)
narrow_away_win_is_first cell goals home range is_min =
    let low : range.away_least.0.away ≡ goals.away_least = range.away_least.2 in
    let inside = range.within range.away_least.0 range.away_least.1 in
    let lost = ltb-true range.away_least.0.home range.away_least.0.away range.away_least.1.passed in
    ahead_is_first cell goals is_away_win true false _ _ (away_win_points true false) range
    (between cell goals is_away_win cell.away_win _
    (λ other loses. keeps_away_win cell other (ltb-true other.home other.away loses)) range
    (omega arith) (omega arith) (omega arith) (omega arith)
    (lt-ltb home goals.away_least (omega arith)))
    (λ other is loses.
    let more : other.home < other.away = ltb-true other.home other.away loses in
    let wider : goals.away_least + other.home ≤ other.away + home = omega arith in
    (omega (arith, ints), λ same. (omega (arith, ints), omega (arith, ints))))

-- ---- several outcomes together

-- the first of some scores stays the first if those that come in are not taken before it
pub first_stays : (cell : Cell) (test added whole : Score → Bool) (home away : Bool) (score : Score)
    → IsFirstScore cell test home away score → whole score ≡ true
    → ((other : Score) → whole other ≡ true → (test other ≡ true) ⊎ (added other ≡ true))
    → ((other : Score) → IsAllowed cell added other → option_order home away other score ≢ Less)
    → IsFirstScore cell whole home away score
first_stays cell test added whole home away score is in_whole parts later = record {
  one = record { allowed = is.one.allowed; passed = in_whole };
  first = λ other it.
      elim (parts other it.passed) as (λ _. option_order home away other score ≢ Less) [
        | inl old ↦ is.first other (record { allowed = it.allowed; passed = old })
        | inr new ↦ later other (record { allowed = it.allowed; passed = new })
      ];
}

-- if there are none of some scores, the first of the others is the first
pub others_first : (cell : Cell) (test added whole : Score → Bool) (home away : Bool)
    (found : Option Score) → AllowsNone cell test → IsFirstAmong cell added home away found
    → ((other : Score) → whole other ≡ true → (test other ≡ true) ⊎ (added other ≡ true))
    → ((other : Score) → added other ≡ true → whole other ≡ true)
    → IsFirstAmong cell whole home away found
others_first cell test added whole home away None none_of is parts back = λ score it.
    elim (parts score it.passed) as (λ _. ⊥) [
      | inl old ↦ none_of score (record { allowed = it.allowed; passed = old })
      | inr new ↦ is score (record { allowed = it.allowed; passed = new })
    ]
others_first cell test added whole home away (Some score) none_of is parts back =
    first_stays cell added test whole home away score is (back score is.one.passed)
    (λ other it. ⊎_swap (parts other it)) (λ other it. absurd (none_of other it))

-- ---- the outcomes

pub win_or_draw_is_any : (score : Score) → is_any score ≡ true
    → (is_win score ≡ true) ⊎ (is_draw score ≡ true)
win_or_draw_is_any score _ =
    outcome_cases score (λ wins. inl (or_left (is_home_win score) (is_away_win score) wins))
    (λ draws. inr draws)
    (λ loses. inl (or_right (is_home_win score) (is_away_win score) loses))

pub draw_or_win_is_any : (score : Score) → is_any score ≡ true
    → (is_draw score ≡ true) ⊎ (is_win score ≡ true)
draw_or_win_is_any score is = ⊎_swap (win_or_draw_is_any score is)

pub home_win_or_other_is_any : (score : Score) → is_any score ≡ true
    → (is_home_win score ≡ true) ⊎ (is_no_home_win score ≡ true)
home_win_or_other_is_any score _ =
    outcome_cases score (λ wins. inl wins)
    (λ draws. inr (or_left (is_draw score) (is_away_win score) draws))
    (λ loses. inr (or_right (is_draw score) (is_away_win score) loses))

pub away_win_or_other_is_any : (score : Score) → is_any score ≡ true
    → (is_away_win score ≡ true) ⊎ (is_no_away_win score ≡ true)
away_win_or_other_is_any score _ =
    outcome_cases score (λ wins. inr (or_right (is_draw score) (is_home_win score) wins))
    (λ draws. inr (or_left (is_draw score) (is_home_win score) draws))
    (λ loses. inl loses)

-- sides with one wish get the same from a win of either
win_points : (wish : Bool) (score : Score) → is_win score ≡ true
    → weighed_together match_points wish wish score ≡ weighed wish (pos 3) +ℤ weighed wish (pos 0)
win_points wish score wins =
    elim (or_cases (is_home_win score) (is_away_win score) wins) as
    (λ _. weighed_together match_points wish wish score
    ≡ weighed wish (pos 3) +ℤ weighed wish (pos 0)) [
      | inl home ↦ home_win_points wish wish score home
      | inr away ↦ omega (arith, ints, away_win_points wish wish score away)
    ]

-- both sides are wished points: a win is taken before a draw
pub draws_after_wins : {cell : Cell} (score : Score) → is_win score ≡ true → (other : Score)
    → IsAllowed cell is_draw other → option_order true true other score ≢ Less
draws_after_wins score wins other draws =
    let most = win_points true score wins in
    let less = draw_points true true other draws.passed in
    not_before true true score other (inl (omega (arith, ints, most, less)))

-- neither is: a draw is taken before a win
pub wins_after_draws : {cell : Cell} (score : Score) → is_draw score ≡ true → (other : Score)
    → IsAllowed cell is_win other → option_order false false other score ≢ Less
wins_after_draws score draws other wins =
    let most = draw_points false false score draws in
    let less = win_points false other wins.passed in
    not_before false false score other (inl (omega (arith, ints, most, less)))

-- the home side alone is: home wins, then draws, then away wins
pub others_after_home_wins : {cell : Cell} (score : Score) → is_home_win score ≡ true
    → (other : Score) → IsAllowed cell is_no_home_win other
    → option_order true false other score ≢ Less
others_after_home_wins score wins other others =
    let most = home_win_points true false score wins in
    not_before true false score other
    (inl (⊎_elim (λ draws. omega (arith, ints, most, draw_points true false other draws))
    (λ loses. omega (arith, ints, most, away_win_points true false other loses))
    (or_cases (is_draw other) (is_away_win other) others.passed)))

pub away_wins_after_draws : {cell : Cell} (score : Score) → is_draw score ≡ true → (other : Score)
    → IsAllowed cell is_away_win other → option_order true false other score ≢ Less
away_wins_after_draws score draws other loses =
    let most = draw_points true false score draws in
    let less = away_win_points true false other loses.passed in
    not_before true false score other (inl (omega (arith, ints, most, less)))

-- the away side alone is: away wins, then draws, then home wins
pub others_after_away_wins : {cell : Cell} (score : Score) → is_away_win score ≡ true
    → (other : Score) → IsAllowed cell is_no_away_win other
    → option_order false true other score ≢ Less
others_after_away_wins score loses other others =
    let most = away_win_points false true score loses in
    not_before false true score other
    (inl (⊎_elim (λ draws. omega (arith, ints, most, draw_points false true other draws))
    (λ wins. omega (arith, ints, most, home_win_points false true other wins))
    (or_cases (is_draw other) (is_home_win other) others.passed)))

pub home_wins_after_draws : {cell : Cell} (score : Score) → is_draw score ≡ true → (other : Score)
    → IsAllowed cell is_home_win other → option_order false true other score ≢ Less
home_wins_after_draws score draws other wins =
    let most = draw_points false true score draws in
    let less = home_win_points false true other wins.passed in
    not_before false true score other (inl (omega (arith, ints, most, less)))

-- ---- options

-- the first of a cell's scores is the first of the options that it has
pub first_option_is_first : (cell : Cell) (home away : Bool) (found : Option Score)
    → IsFirstAmong cell is_any home away found → (options : List Score) → IsCellOf cell options
    → found ≡ first_option home away options
first_option_is_first cell home away None is [] of_cell = refl
first_option_is_first cell home away None is (score ∷ options) of_cell =
    absurd (is score (record {
      allowed = of_cell score ∙ has_score-first score options;
      passed = refl;
    }))
first_option_is_first cell home away (Some score) is options of_cell =
    sym (first_option_of home away options score (record {
      option = sym (of_cell score) ∙ is.one.allowed;
      first = λ other it. is.first other (record { allowed = of_cell other ∙ it; passed = refl });
    }))

-- ---- wins of both sides

-- what is not before a score is not before one that the score is not before
not_before-after : (home away : Bool) (one two three : Score)
    → option_order home away one two ≢ Less → option_order home away two three ≢ Less
    → option_order home away one three ≢ Less
not_before-after home away one two three first second before =
    let total = option_order_total home away in
    let there = upto total three two one
    (no_more (option_order home away two three) (option_order home away three two)
    (total.antisymm three two) second)
    (no_more (option_order home away one two) (option_order home away two one)
    (total.antisymm two one) first) in
    true≢false (sym (ap (λ o. is_gt (ordering_reverse o)) before)
    ∙ sym (ap is_gt (total.antisymm three one)) ∙ there)
  where
    no_more : (o turned : Ordering) → turned ≡ ordering_reverse o → o ≢ Less
        → is_gt turned ≡ false
    no_more Less turned is not_less = absurd (not_less refl)
    no_more Equal turned is not_less = ap is_gt is
    no_more Greater turned is not_less = ap is_gt is

-- of both wins one, if it has fewer goals, or as many and more of them of the home side
win_of_both : (cell : Cell) (test added : Score → Bool) (wish : Bool) (score other : Score)
    → ((third : Score) → is_win third ≡ true → (test third ≡ true) ⊎ (added third ≡ true))
    → is_win score ≡ true → is_win other ≡ true
    → IsFirstScore cell test wish wish score → IsFirstScore cell added wish wish other
    → IsNoGreater (rest_of other) (rest_of score)
    → IsFirstScore cell is_win wish wish score
win_of_both cell test added wish score other parts wins won one two goals =
    first_stays cell test added is_win wish wish score one wins parts
    (λ third it. not_before-after wish wish third other score (two.first third it)
    (not_before wish wish score other
    (inr (
      win_points wish other won ∙ sym (win_points wish score wins),
      inr (margin_alike wish other ∙ sym (margin_alike wish score), goals),
    ))))

-- of both wins the away win, if it has fewer goals
pub away_win_of_both : (cell : Cell) (wish : Bool) (win loss : Score)
    → IsFirstScore cell is_home_win wish wish win → IsFirstScore cell is_away_win wish wish loss
    → loss.home + loss.away < win.home + win.away → IsFirstScore cell is_win wish wish loss
away_win_of_both cell wish win loss one two less =
    win_of_both cell is_away_win is_home_win wish loss win
    (λ third is. ⊎_swap (or_cases (is_home_win third) (is_away_win third) is))
    (or_right (is_home_win loss) (is_away_win loss) two.one.passed)
    (or_left (is_home_win win) (is_away_win win) one.one.passed) two one
    (inl (omega (arith, ints)))

-- of both wins the home win, if it has no more goals
pub home_win_of_both : (cell : Cell) (wish : Bool) (win loss : Score)
    → IsFirstScore cell is_home_win wish wish win → IsFirstScore cell is_away_win wish wish loss
    → win.home + win.away ≤ loss.home + loss.away → IsFirstScore cell is_win wish wish win
home_win_of_both cell wish win loss one two less =
    let higher : win.away < win.home = ltb-true win.away win.home one.one.passed in
    let lower : loss.home < loss.away = ltb-true loss.home loss.away two.one.passed in
    win_of_both cell is_home_win is_away_win wish win loss
    (λ third is. or_cases (is_home_win third) (is_away_win third) is)
    (or_left (is_home_win win) (is_away_win win) one.one.passed)
    (or_right (is_home_win loss) (is_away_win loss) two.one.passed) one two
    (elim (cases_lt (win.home + win.away) (loss.home + loss.away)) as
    (λ _. IsNoGreater (rest_of loss) (rest_of win)) [
      | inl fewer ↦ inl (omega (arith, ints))
      | inr same ↦ inr (omega (arith, ints), inl (omega (arith, ints)))
    ])

-- of one side's wins the first, if the other side has none
pub win_of_one : (cell : Cell) (wish : Bool) (found other : Option Score)
    → IsFirstAmong cell is_home_win wish wish found → found ≡ None
    → IsFirstAmong cell is_away_win wish wish other → IsFirstAmong cell is_win wish wish other
win_of_one cell wish found other homes none aways =
    others_first cell is_home_win is_away_win is_win wish wish other
    (subst (λ o. IsFirstAmong cell is_home_win wish wish o) none homes) aways
    (λ score is. or_cases (is_home_win score) (is_away_win score) is)
    (λ score is. or_right (is_home_win score) (is_away_win score) is)

pub home_win_alone : (cell : Cell) (wish : Bool) (win : Score)
    → IsFirstScore cell is_home_win wish wish win → AllowsNone cell is_away_win
    → IsFirstScore cell is_win wish wish win
home_win_alone cell wish win homes none =
    others_first cell is_away_win is_home_win is_win wish wish (Some win) none homes
    (λ score is. ⊎_swap (or_cases (is_home_win score) (is_away_win score) is))
    (λ score is. or_left (is_home_win score) (is_away_win score) is)

-- of the options that the cell has, for sides that are known to be wished this
pub first_option_is_first_at : (cell : Cell) (home away one two : Bool) (found : Option Score)
    → home ≡ one → away ≡ two → IsFirstAmong cell is_any one two found
    → (options : List Score) → IsCellOf cell options → found ≡ first_option home away options
first_option_is_first_at cell home away one two found first second is options of_cell =
    first_option_is_first cell one two found is options of_cell
    ∙ sym (ap₂ (λ (x y : Bool). first_option x y options) first second)
