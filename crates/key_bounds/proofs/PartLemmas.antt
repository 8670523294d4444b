-- The scores of a cell that have one outcome are those of a smaller cell, which keeps that outcome
-- alone.
use Rattle.std.proofs.Common.{◌≡◌, ◌<◌, Bool, true, false, not, ◌&&◌, cond, sym, ap}
use Rattle.std.proofs.Common.{◌∙◌, subst, inl, inr, arith}
use Rattle.std.proofs.Math.Bool.{and-false, and-true}
use Rattle.std.proofs.lemmas.Bool.{and_parts, and_from, ltb-true, eqb-true, cases_Bool}
use Rattle.std.proofs.lemmas.Bool.Decides.{nat_tests}
use Rattle.league_core.specs.declared.season.Score.{Score}
use Rattle.league_core.specs.search.Options.{is_home_win, is_draw, is_away_win}
use Rattle.score_box.specs.declared.cell.Cell.{Cell}
use Rattle.score_box.specs.declared.cell.goals.ScoreRange.{ScoreRange}
use Rattle.score_box.specs.inside.Cells.{is_within, allows, IsAllowed, AllowsNone}
use Rattle.score_box.specs.inside.Cells.{IsScoreRangeOf}
use Rattle.tie_bound.specs.inside.Sides.{AreGoalsOf, Draws}
use Rattle.tie_bound.specs.declared.int_range.GoalRange.{GoalRange}
use Rattle.key_bounds.specs.declared.goal_ends.GoalEnds.{GoalEnds}
use Rattle.key_bounds.specs.inside.RowEnds.{as_goals, goals_of, AreGoals, passing}

-- the home wins of a cell, its draws, its away wins
abbrev pub home_part : Cell → Cell
home_part cell = record cell { draw = false; away_win = false }

abbrev pub draw_part : Cell → Cell
draw_part cell = record cell { home_win = false; away_win = false }

abbrev pub away_part : Cell → Cell
away_part cell = record cell { home_win = false; draw = false }

both_none : (goals kept : Bool) → (goals && false) ≡ ((goals && kept) && false)
both_none goals kept = and-false goals ∙ sym (and-false (goals && kept))

both_some : (goals kept : Bool) → (goals && kept) ≡ ((goals && kept) && true)
both_some goals kept = sym (and-true (goals && kept))

home_bits : (goals wins draws h d a : Bool)
    → (goals && cond wins h (cond draws false false))
    ≡ ((goals && cond wins h (cond draws d a)) && wins)
home_bits goals true draws h d a = both_some goals h
home_bits goals false true h d a = both_none goals d
home_bits goals false false h d a = both_none goals a

draw_bits : (goals wins draws h d a : Bool) → (wins && draws) ≡ false
    → (goals && cond wins false (cond draws d false))
    ≡ ((goals && cond wins h (cond draws d a)) && draws)
draw_bits goals true true h d a apart = cc
draw_bits goals true false h d a apart = both_none goals h
draw_bits goals false true h d a apart = both_some goals d
draw_bits goals false false h d a apart = both_none goals a

away_bits : (goals wins draws loses h d a : Bool) → loses ≡ (not wins && not draws)
    → (goals && cond wins false (cond draws false a))
    ≡ ((goals && cond wins h (cond draws d a)) && loses)
away_bits goals true draws loses h d a is =
    both_none goals h ∙ ap (λ b. (goals && h) && b) (sym is)
away_bits goals false true loses h d a is =
    both_none goals d ∙ ap (λ b. (goals && d) && b) (sym is)
away_bits goals false false loses h d a is =
    both_some goals a ∙ ap (λ b. (goals && a) && b) (sym is)

no_both : (score : Score) → (is_home_win score && is_draw score) ≡ false
no_both score = grind (arith, nat_tests)

neither : (score : Score) → is_away_win score ≡ (not (is_home_win score) && not (is_draw score))
neither score = grind (arith, nat_tests)

pub home_part-is : (cell : Cell) (score : Score)
    → allows (home_part cell) score ≡ passing cell is_home_win score
home_part-is cell score =
    home_bits (is_within cell.home_least cell.home_most score.home
    && is_within cell.away_least cell.away_most score.away) (is_home_win score) (is_draw score)
    cell.home_win cell.draw cell.away_win

pub draw_part-is : (cell : Cell) (score : Score)
    → allows (draw_part cell) score ≡ passing cell is_draw score
draw_part-is cell score =
    draw_bits (is_within cell.home_least cell.home_most score.home
    && is_within cell.away_least cell.away_most score.away) (is_home_win score) (is_draw score)
    cell.home_win cell.draw cell.away_win (no_both score)

pub away_part-is : (cell : Cell) (score : Score)
    → allows (away_part cell) score ≡ passing cell is_away_win score
away_part-is cell score =
    away_bits (is_within cell.home_least cell.home_most score.home
    && is_within cell.away_least cell.away_most score.away) (is_home_win score) (is_draw score)
    (is_away_win score) cell.home_win cell.draw cell.away_win (neither score)

-- what is found of the scores that pass is found of the part
allowed_in : (cell : Cell) (test : Score → Bool) (score : Score) → passing cell test score ≡ true
    → IsAllowed cell test score
allowed_in cell test score is =
    let parts = and_parts (allows cell score) (test score) is in
    record { allowed = parts.0; passed = parts.1 }

passes_in : (cell : Cell) (test : Score → Bool) (score : Score) → IsAllowed cell test score
    → passing cell test score ≡ true
passes_in cell test score is = and_from (allows cell score) (test score) is.allowed is.passed

pub part_goals : (cell part : Cell) (test : Score → Bool) (goals : ScoreRange) (away : Bool)
    → ((score : Score) → allows part score ≡ passing cell test score)
    → IsScoreRangeOf cell test goals → AreGoalsOf part away (goals_of away goals)
part_goals cell part test goals true same are = record {
  within = λ score is.
      let between = are.within score (allowed_in cell test score (sym (same score) ∙ is)) in
      (between.away_least, between.away_most);
  least = (
    are.away_least.0,
    same are.away_least.0 ∙ passes_in cell test are.away_least.0 are.away_least.1,
    are.away_least.2,
  );
  most = (
    are.away_most.0,
    same are.away_most.0 ∙ passes_in cell test are.away_most.0 are.away_most.1,
    are.away_most.2,
  );
}
part_goals cell part test goals false same are = record {
  within = λ score is.
      let between = are.within score (allowed_in cell test score (sym (same score) ∙ is)) in
      (between.home_least, between.home_most);
  least = (
    are.home_least.0,
    same are.home_least.0 ∙ passes_in cell test are.home_least.0 are.home_least.1,
    are.home_least.2,
  );
  most = (
    are.home_most.0,
    same are.home_most.0 ∙ passes_in cell test are.home_most.0 are.home_most.1,
    are.home_most.2,
  );
}

-- who wins, draws and loses at the scores of a part
pub home_part_wins : (cell : Cell) (score : Score) → allows (home_part cell) score ≡ true
    → score.away < score.home
home_part_wins cell score is =
    ltb-true score.away score.home
    (and_parts (allows cell score) (is_home_win score) (sym (home_part-is cell score) ∙ is)).1

draw_part_draws : (cell : Cell) (score : Score) → allows (draw_part cell) score ≡ true
    → score.home ≡ score.away
draw_part_draws cell score is =
    eqb-true score.home score.away
    (and_parts (allows cell score) (is_draw score) (sym (draw_part-is cell score) ∙ is)).1

pub draws_for : (cell : Cell) (away : Bool) → Draws (draw_part cell) away
draws_for cell true = λ score is. sym (draw_part_draws cell score is)
draws_for cell false = draw_part_draws cell

pub away_part_loses : (cell : Cell) (score : Score) → allows (away_part cell) score ≡ true
    → score.home < score.away
away_part_loses cell score is =
    ltb-true score.home score.away
    (and_parts (allows cell score) (is_away_win score) (sym (away_part-is cell score) ∙ is)).1

-- the goals of one side of a part, and of both
pub own_goals : (cell part : Cell) (test : Score → Bool) (goals : ScoreRange) (away : Bool)
    (own : GoalEnds) → ((score : Score) → allows part score ≡ passing cell test score)
    → IsScoreRangeOf cell test goals → as_goals own ≡ goals_of away goals
    → AreGoalsOf part away (as_goals own)
own_goals cell part test goals away own same are is =
    let Of : GoalRange → Type 0 = λ range. AreGoalsOf part away range in
    subst Of (sym is) (part_goals cell part test goals away same are)

pub both_goals : (cell part : Cell) (test : Score → Bool) (goals : ScoreRange) (away : Bool)
    (own other : GoalEnds) → ((score : Score) → allows part score ≡ passing cell test score)
    → IsScoreRangeOf cell test goals → as_goals own ≡ goals_of away goals
    → as_goals other ≡ goals_of (not away) goals → AreGoals part away own other
both_goals cell part test goals away own other same are is is_other = record {
  own_goals = own_goals cell part test goals away own same are is;
  other_goals = own_goals cell part test goals (not away) other same are is_other;
}

-- if no score passes, none is of both
pub none_pass : (cell : Cell) (test : Score → Bool) → AllowsNone cell test → (score : Score)
    → passing cell test score ≡ false
none_pass cell test none score = elim (cases_Bool (passing cell test score)) as (λ _.
    passing cell test score ≡ false) [
      | inl is ↦ absurd (none score (allowed_in cell test score is))
      | inr is_not ↦ is_not
    ]
