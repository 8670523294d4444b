-- What a win, a draw and a defeat are worth to a side, and to both sides of a match together; and
-- how far from zero a match's worth is.
use Rattle.std.proofs.Common.{◌≡◌, ◌<◌, ◌≤◌, ◌+◌, ℕ, ℤ, pos, ◌+ℤ◌, Bool, true, false, ◌==◌, cond}
use Rattle.std.proofs.Common.{refl, sym, ap, ◌∙◌, arith}
use Rattle.std.proofs.lemmas.Int.{ints}
use Rattle.std.proofs.lemmas.Bool.{lt-ltb, le-ltb, eq-eqb, ne_eqb, ltb-true, eqb-true}
use Rattle.league_core.specs.declared.season.Score.{Score}
use Rattle.league_core.specs.game.Sums.{match_points, goal_difference, goals, away_goals, wins}
use Rattle.league_core.specs.game.Sums.{away_wins}
use Rattle.league_core.specs.search.Options.{is_home_win, is_draw, is_away_win}
use Rattle.league_core.specs.search.PointRanges.{points_of_sides, won_points, drawn_points}
use Rattle.league_core.specs.search.PointRanges.{lost_points}
use Rattle.league_core.specs.inside.Extents.{IsNearZero}
use Rattle.league_core.proofs.plain.Numbers.{add_none, none_add}

-- ---- one side

-- the points of a win, of a draw and of a defeat
pub points_won : (scored conceded : ℕ) (away : Bool) → conceded < scored
    → match_points scored conceded away ≡ pos 3
points_won scored conceded away h =
    ap (λ b. cond b (pos 3) (cond (scored == conceded) (pos 1) (pos 0)))
    (lt-ltb conceded scored h)

pub points_drawn : (scored conceded : ℕ) (away : Bool) → scored ≡ conceded
    → match_points scored conceded away ≡ pos 1
points_drawn scored conceded away e =
    ap (λ b. cond b (pos 3) (cond (scored == conceded) (pos 1) (pos 0)))
    (le-ltb conceded scored (omega arith))
    ∙ ap (λ b. cond b (pos 1) (pos 0)) (eq-eqb scored conceded e)

pub points_lost : (scored conceded : ℕ) (away : Bool) → scored < conceded
    → match_points scored conceded away ≡ pos 0
points_lost scored conceded away h =
    ap (λ b. cond b (pos 3) (cond (scored == conceded) (pos 1) (pos 0)))
    (le-ltb conceded scored (omega arith))
    ∙ ap (λ b. cond b (pos 1) (pos 0)) (ne_eqb scored conceded (λ e. absurd (omega arith)))

-- a win counts as one, and as one away from home if it is; nothing else counts as a win
pub one_win : (scored conceded : ℕ) (away : Bool) → conceded < scored
    → wins scored conceded away ≡ pos 1
one_win scored conceded away h = ap (λ b. cond b (pos 1) (pos 0)) (lt-ltb conceded scored h)

pub no_win : (scored conceded : ℕ) (away : Bool) → scored ≤ conceded
    → wins scored conceded away ≡ pos 0
no_win scored conceded away h = ap (λ b. cond b (pos 1) (pos 0)) (le-ltb conceded scored h)

pub one_away_win : (scored conceded : ℕ) → conceded < scored
    → away_wins scored conceded true ≡ pos 1
one_away_win scored conceded h = ap (λ b. cond b (pos 1) (pos 0)) (lt-ltb conceded scored h)

pub no_away_win : (scored conceded : ℕ) (away : Bool) → scored ≤ conceded
    → away_wins scored conceded away ≡ pos 0
no_away_win scored conceded true h = ap (λ b. cond b (pos 1) (pos 0)) (le-ltb conceded scored h)
no_away_win scored conceded false h = refl

-- ---- both sides together

-- two numbers, each if it counts
both_sides : (home away : Bool) (x y : ℤ) (m n : ℕ) → x ≡ pos m → y ≡ pos n
    → (cond home x (pos 0) +ℤ cond away y (pos 0)) ≡ pos (cond home m 0 + cond away n 0)
both_sides true true x y m n e f = omega (arith, ints)
both_sides true false x y m n e f = omega (arith, ints)
both_sides false true x y m n e f = omega (arith, ints)
both_sides false false x y m n e f = refl

-- the points of the two sides after a home win, a draw and an away win
pub sides_at_win : (score : Score) → is_home_win score ≡ true
    → (match_points score.home score.away false ≡ pos 3)
    × (match_points score.away score.home true ≡ pos 0)
sides_at_win score won =
    let below = ltb-true score.away score.home won in
    (points_won score.home score.away false below, points_lost score.away score.home true below)

pub sides_at_draw : (score : Score) → is_draw score ≡ true
    → (match_points score.home score.away false ≡ pos 1)
    × (match_points score.away score.home true ≡ pos 1)
sides_at_draw score drawn =
    let level = eqb-true score.home score.away drawn in (
      points_drawn score.home score.away false level,
      points_drawn score.away score.home true (sym level),
    )

pub sides_at_loss : (score : Score) → is_away_win score ≡ true
    → (match_points score.home score.away false ≡ pos 0)
    × (match_points score.away score.home true ≡ pos 3)
sides_at_loss score lost =
    let below = ltb-true score.home score.away lost in
    (points_lost score.home score.away false below, points_won score.away score.home true below)

-- so a home win gives points to the home side, a draw to both, an away win to the away side
pub points_at_win : (home away : Bool) (score : Score) → is_home_win score ≡ true
    → points_of_sides home away score ≡ pos (won_points home)
points_at_win home away score won =
    let sides = sides_at_win score won in
    both_sides home away (match_points score.home score.away false)
    (match_points score.away score.home true) 3 0 sides.0 sides.1
    ∙ ap pos (add_none away (won_points home))

pub points_at_draw : (home away : Bool) (score : Score) → is_draw score ≡ true
    → points_of_sides home away score ≡ pos (drawn_points home away)
points_at_draw home away score drawn =
    let sides = sides_at_draw score drawn in
    both_sides home away (match_points score.home score.away false)
    (match_points score.away score.home true) 1 1 sides.0 sides.1

pub points_at_loss : (home away : Bool) (score : Score) → is_away_win score ≡ true
    → points_of_sides home away score ≡ pos (lost_points away)
points_at_loss home away score lost =
    let sides = sides_at_loss score lost in
    both_sides home away (match_points score.home score.away false)
    (match_points score.away score.home true) 0 3 sides.0 sides.1
    ∙ ap pos (none_add home (lost_points away))

-- none of them gives more than three points
pub won_points-most : (home : Bool) → won_points home ≤ 3
won_points-most true = omega arith
won_points-most false = omega arith

pub drawn_points-most : (home away : Bool) → drawn_points home away ≤ 3
drawn_points-most true true = omega arith
drawn_points-most true false = omega arith
drawn_points-most false true = omega arith
drawn_points-most false false = omega arith

-- ---- bounds

cond_near : (bound : ℕ) (b : Bool) (x y : ℤ) → IsNearZero bound x → IsNearZero bound y
    → IsNearZero bound (cond b x y)
cond_near bound true x y near other = near
cond_near bound false x y near other = other

few_near : (bound n : ℕ) → n ≤ bound → IsNearZero bound (pos n)
few_near bound n few = (omega (arith, ints), omega (arith, ints))

-- no match is worth more to a side than its goals and three points
pub points_near : (bound scored conceded : ℕ) (away : Bool) → 3 ≤ bound
    → IsNearZero bound (match_points scored conceded away)
points_near bound scored conceded away some =
    cond_near bound _ (pos 3) _ (few_near bound 3 some)
    (cond_near bound _ (pos 1) (pos 0) (few_near bound 1 (omega arith))
    (few_near bound 0 (omega arith)))

pub difference_near : (bound scored conceded : ℕ) (away : Bool) → scored ≤ bound
    → conceded ≤ bound → IsNearZero bound (goal_difference scored conceded away)
difference_near bound scored conceded away few none =
    (omega (arith, ints), omega (arith, ints))

pub goals_near : (bound scored conceded : ℕ) (away : Bool) → scored ≤ bound
    → IsNearZero bound (goals scored conceded away)
goals_near bound scored conceded away few = few_near bound scored few

pub away_goals_near : (bound scored conceded : ℕ) (away : Bool) → scored ≤ bound
    → IsNearZero bound (away_goals scored conceded away)
away_goals_near bound scored conceded away few =
    cond_near bound away (pos scored) (pos 0) (few_near bound scored few)
    (few_near bound 0 (omega arith))

pub wins_near : (bound scored conceded : ℕ) (away : Bool) → 1 ≤ bound
    → IsNearZero bound (wins scored conceded away)
wins_near bound scored conceded away some =
    cond_near bound _ (pos 1) (pos 0) (few_near bound 1 some) (few_near bound 0 (omega arith))

pub away_wins_near : (bound scored conceded : ℕ) (away : Bool) → 1 ≤ bound
    → IsNearZero bound (away_wins scored conceded away)
away_wins_near bound scored conceded away some =
    cond_near bound _ (pos 1) (pos 0) (few_near bound 1 some) (few_near bound 0 (omega arith))
