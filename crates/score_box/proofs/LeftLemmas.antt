-- What the outcomes that a cell has left say of it.
use Rattle.std.proofs.Common.{◌≡◌, Bool, true, false, not, ◌||◌, is_some, refl, sym, ap, ◌∙◌, List}
use Rattle.std.proofs.Common.{◌&&◌, Option, Some, None, arith}
use Rattle.std.specs.List.{list_any}
use Rattle.std.proofs.lemmas.Bool.{false≢true, false_from_ne_true, ltb-true, eqb-true}
use Rattle.league_core.specs.declared.season.Score.{Score}
use Rattle.league_core.specs.search.Options.{is_home_win, is_draw, is_away_win}
use Rattle.league_core.specs.game.Finishes.{same_score}
use Rattle.league_core.proofs.OptionLemmas.{same_score-true, same_score-itself}
use Rattle.league_core.proofs.OutcomeLemmas.{outcome_cases}
use Rattle.league_core.proofs.OptionTestLemmas.{any_shows, any_gives}
use Rattle.score_box.specs.declared.cell.Cell.{Cell}
use Rattle.score_box.specs.declared.points.left.OutcomesLeft.{OutcomesLeft}
use Rattle.score_box.specs.declared.points.outcomes.MatchPoints.{MatchPoints}
use Rattle.score_box.specs.declared.cell.goals.ScoreRange.{ScoreRange}
use Rattle.score_box.proofs.CellLemmas.{Says, ranges_of, keeps_home_win, keeps_draw, keeps_away_win}
use Rattle.score_box.proofs.CellLemmas.{allows_from}
use Rattle.score_box.specs.inside.Cells.{allows, IsAllowed, at_most_one, HasOneOutcome, IsCellOf}
use Rattle.score_box.specs.inside.Cells.{IsEmptyCell, keeps_outcome, is_within, HasPassing}
use Rattle.score_box.specs.inside.Cells.{IsExactCell}
use Rattle.score_box.specs.inside.Points.{least_of_three, most_of_three, IsPointsOf}
use Rattle.score_box.specs.inside.Points.{AreOutcomesLeft, AreOutcomesAmong}
use Rattle.score_box.proofs.OutcomeLemmas.{decided}
use Rattle.score_box.proofs.PointLemmas.{has_outcome, some_outcome, points_of_outcomes}
use Rattle.league_core.proofs.plain.TruthValues.{same_tests, none_of_three, three_are_none}

-- a score of the cell that passes shows that the cell has one
passes_left : (cell : Cell) (test : Score → Bool) (has : Bool) (score : Score)
    → HasPassing cell test has → allows cell score ≡ true → test score ≡ true → has ≡ true
passes_left cell test has score left allowed passed =
    left.is ∙ some_outcome cell test left.goals score left.says allowed passed

-- a cell without a score has none that passes
none_passes : (cell : Cell) (test : Score → Bool) (has : Bool) → HasPassing cell test has
    → IsEmptyCell cell → has ≡ false
none_passes cell test has left empty =
    false_from_ne_true has (λ some.
    let found = has_outcome cell test left.goals left.says (sym left.is ∙ some) in
    false≢true (sym (empty found.0) ∙ found.1.allowed))

-- no outcome is left exactly when no score is
pub none_left : (cell : Cell) (left : OutcomesLeft) → AreOutcomesLeft cell left
    → not (left.home_win || left.draw || left.away_win) ≡ true → IsEmptyCell cell
none_left cell left are none score =
    let three = none_of_three left.home_win left.draw left.away_win none in
    false_from_ne_true (allows cell score) (λ allowed.
    outcome_cases score
    (λ passed. false≢true (sym three.0
    ∙ passes_left cell is_home_win left.home_win score are.home_win allowed passed))
    (λ passed. false≢true (sym three.1
    ∙ passes_left cell is_draw left.draw score are.draw allowed passed))
    (λ passed. false≢true (sym three.2
    ∙ passes_left cell is_away_win left.away_win score are.away_win allowed passed)))

pub left_none : (cell : Cell) (left : OutcomesLeft) → AreOutcomesLeft cell left
    → IsEmptyCell cell → not (left.home_win || left.draw || left.away_win) ≡ true
left_none cell left are empty =
    three_are_none left.home_win left.draw left.away_win
    (none_passes cell is_home_win left.home_win are.home_win empty)
    (none_passes cell is_draw left.draw are.draw empty)
    (none_passes cell is_away_win left.away_win are.away_win empty)

-- one outcome is left at most exactly when the scores have one
one_same : (cell : Cell) (left : OutcomesLeft) (are : AreOutcomesLeft cell left)
    → at_most_one left.home_win left.draw left.away_win
    ≡ at_most_one (is_some are.home_win.goals) (is_some are.draw.goals) (is_some are.away_win.goals)
one_same cell left are =
    ap (λ b. at_most_one b left.draw left.away_win) are.home_win.is
    ∙ ap (λ b. at_most_one (is_some are.home_win.goals) b left.away_win) are.draw.is
    ∙ ap (λ b. at_most_one (is_some are.home_win.goals) (is_some are.draw.goals) b) are.away_win.is

pub one_left : (cell : Cell) (left : OutcomesLeft) → AreOutcomesLeft cell left
    → at_most_one left.home_win left.draw left.away_win ≡ true → HasOneOutcome cell
one_left cell left are one =
    (decided cell are.home_win.goals are.draw.goals are.away_win.goals are.home_win.says
    are.draw.says are.away_win.says).0 (sym (one_same cell left are) ∙ one)

pub left_one : (cell : Cell) (left : OutcomesLeft) → AreOutcomesLeft cell left
    → HasOneOutcome cell → at_most_one left.home_win left.draw left.away_win ≡ true
left_one cell left are one =
    one_same cell left are
    ∙ (decided cell are.home_win.goals are.draw.goals are.away_win.goals are.home_win.says
    are.draw.says are.away_win.says).1 one

-- the points of what is left are those of the cell
pub points_left-are : (cell : Cell) (left : OutcomesLeft) (home away : Bool) (points : MatchPoints)
    → AreOutcomesLeft cell left → not (left.home_win || left.draw || left.away_win) ≡ false
    → points.least ≡ least_of_three left.home_win left.draw left.away_win home away
    → points.most ≡ most_of_three left.home_win left.draw left.away_win home away
    → IsPointsOf cell home away points
points_left-are cell left home away points are some least_is most_is =
    let h = is_some are.home_win.goals in
    let d = is_some are.draw.goals in
    points_of_outcomes cell are.home_win.goals are.draw.goals are.away_win.goals home away points
    are.home_win.says are.draw.says are.away_win.says
    (λ empty. false≢true (sym some ∙ left_none cell left are empty))
    (least_is
    ∙ ap (λ b. least_of_three b left.draw left.away_win home away) are.home_win.is
    ∙ ap (λ b. least_of_three h b left.away_win home away) are.draw.is
    ∙ ap (λ b. least_of_three h d b home away) are.away_win.is)
    (most_is
    ∙ ap (λ b. most_of_three b left.draw left.away_win home away) are.home_win.is
    ∙ ap (λ b. most_of_three h b left.away_win home away) are.draw.is
    ∙ ap (λ b. most_of_three h d b home away) are.away_win.is)

-- the cell has a score that passes exactly when the options have one
passing_among : (cell : Cell) (options : List Score) (test : Score → Bool) (has : Bool)
    → IsCellOf cell options → HasPassing cell test has → has ≡ list_any test options
passing_among cell options test true is left =
    let found = has_outcome cell test left.goals left.says (sym left.is) in
    sym (any_shows test options found.0 (sym (is found.0) ∙ found.1.allowed) found.1.passed)
passing_among cell options test false is left =
    sym (false_from_ne_true (list_any test options) (λ some.
    let found = any_gives test options some in
    false≢true (passes_left cell test false found.0 left (is found.0 ∙ found.1) found.2)))

pub left_among : (cell : Cell) (options : List Score) (left : OutcomesLeft)
    → IsCellOf cell options → AreOutcomesLeft cell left → AreOutcomesAmong options left
left_among cell options left is are = record {
  home_win = passing_among cell options is_home_win left.home_win is are.home_win;
  draw = passing_among cell options is_draw left.draw is are.draw;
  away_win = passing_among cell options is_away_win left.away_win is are.away_win;
}

-- a cell has a score that passes if another one with the same such scores has
pub same_passing : (cell other : Cell) (test : Score → Bool) (has : Bool)
    → ((score : Score) → test score ≡ true → allows cell score ≡ allows other score)
    → HasPassing cell test has → HasPassing other test has
same_passing cell other test has same left = record {
  goals = left.goals;
  says = moved left.goals left.says;
  is = left.is;
}
  where
    there : (score : Score) → IsAllowed cell test score → IsAllowed other test score
    there score one = record {
      allowed = sym (same score one.passed) ∙ one.allowed;
      passed = one.passed;
    }

    back : (score : Score) → IsAllowed other test score → IsAllowed cell test score
    back score one = record { allowed = same score one.passed ∙ one.allowed; passed = one.passed }

    moved : (goals : Option ScoreRange) → Says cell test goals → Says other test goals
    moved None none = λ score one. none score (back score one)
    moved (Some goals) range = record {
      within = λ score one. range.within score (back score one);
      home_least = (
        range.home_least.0,
        there range.home_least.0 range.home_least.1,
        range.home_least.2,
      );
      home_most = (range.home_most.0, there range.home_most.0 range.home_most.1, range.home_most.2);
      away_least = (
        range.away_least.0,
        there range.away_least.0 range.away_least.1,
        range.away_least.2,
      );
      away_most = (range.away_most.0, there range.away_most.0 range.away_most.1, range.away_most.2);
    }

-- so two cells with the same scores have the same outcomes left
pub same_left : (cell other : Cell) (left : OutcomesLeft)
    → ((score : Score) → allows cell score ≡ allows other score) → AreOutcomesLeft cell left
    → AreOutcomesLeft other left
same_left cell other left same are = record {
  home_win = same_passing cell other is_home_win left.home_win (λ score passed. same score)
      are.home_win;
  draw = same_passing cell other is_draw left.draw (λ score passed. same score) are.draw;
  away_win = same_passing cell other is_away_win left.away_win (λ score passed. same score)
      are.away_win;
}

-- a cell with those outcomes alone that it has a score of
abbrev pub mended : Cell → OutcomesLeft → Cell
mended cell left = record cell {
  home_win = left.home_win;
  draw = left.draw;
  away_win = left.away_win;
}

-- for a score of an outcome: kept in the one exactly when it is in the other
same_at : (cell : Cell) (test : Score → Bool) (score : Score) (inside has kept : Bool)
    → HasPassing cell test has → test score ≡ true → allows cell score ≡ (inside && kept)
    → ((other : Score) → IsAllowed cell test other → kept ≡ true)
    → (inside && has) ≡ allows cell score
same_at cell test score inside true kept left passed is keeps =
    let one = has_outcome cell test left.goals left.says (sym left.is) in
    ap (λ b. inside && b) (sym (keeps one.0 one.1)) ∙ sym is
same_at cell test score inside false kept left passed is keeps =
    nothing inside
    ∙ sym (false_from_ne_true (allows cell score) (λ allowed.
    false≢true (passes_left cell test false score left allowed passed)))
  where
    nothing : (b : Bool) → (b && false) ≡ false
    nothing true = refl
    nothing false = refl

-- it has the scores of the cell
pub mended_same : (cell : Cell) (left : OutcomesLeft) → AreOutcomesLeft cell left
    → (score : Score) → allows (mended cell left) score ≡ allows cell score
mended_same cell left are score =
    let inside = is_within cell.home_least cell.home_most score.home
    && is_within cell.away_least cell.away_most score.away in
    outcome_cases {P = allows (mended cell left) score ≡ allows cell score} score
    (λ wins.
    ap (λ b. inside && b)
    (keeps_home_win (mended cell left) score (ltb-true score.away score.home wins))
    ∙ same_at cell is_home_win score inside left.home_win cell.home_win are.home_win wins
    (ap (λ b. inside && b) (keeps_home_win cell score (ltb-true score.away score.home wins)))
    (λ other one. sym (keeps_home_win cell other (ltb-true other.away other.home one.passed))
    ∙ (ranges_of cell other one.allowed).1))
    (λ level.
    ap (λ b. inside && b)
    (keeps_draw (mended cell left) score (eqb-true score.home score.away level))
    ∙ same_at cell is_draw score inside left.draw cell.draw are.draw level
    (ap (λ b. inside && b) (keeps_draw cell score (eqb-true score.home score.away level)))
    (λ other one. sym (keeps_draw cell other (eqb-true other.home other.away one.passed))
    ∙ (ranges_of cell other one.allowed).1))
    (λ loses.
    ap (λ b. inside && b)
    (keeps_away_win (mended cell left) score (ltb-true score.home score.away loses))
    ∙ same_at cell is_away_win score inside left.away_win cell.away_win are.away_win loses
    (ap (λ b. inside && b) (keeps_away_win cell score (ltb-true score.home score.away loses)))
    (λ other one. sym (keeps_away_win cell other (ltb-true other.home other.away one.passed))
    ∙ (ranges_of cell other one.allowed).1))

-- and so keeps what it has
pub mended_exact : (cell : Cell) (left : OutcomesLeft) → AreOutcomesLeft cell left
    → IsExactCell (mended cell left)
mended_exact cell left are =
    let same = same_left cell (mended cell left) left (λ score. sym (mended_same cell left are
    score)) are in
    record { home_win = same.home_win; draw = same.draw; away_win = same.away_win }

-- ---- one score alone

-- the cell of a score, with its outcome alone
abbrev pub one_cell : Score → Cell
one_cell score = record {
  home_win = is_home_win score;
  draw = is_draw score;
  away_win = is_away_win score;
  home_least = score.home;
  home_most = score.home;
  away_least = score.away;
  away_most = score.away;
}

one_keeps : (score : Score) → keeps_outcome (one_cell score) score ≡ true
one_keeps score =
    outcome_cases {P = keeps_outcome (one_cell score) score ≡ true} score
    (λ wins. keeps_home_win (one_cell score) score (ltb-true score.away score.home wins) ∙ wins)
    (λ level. keeps_draw (one_cell score) score (eqb-true score.home score.away level) ∙ level)
    (λ loses. keeps_away_win (one_cell score) score (ltb-true score.home score.away loses) ∙ loses)

one_itself : (score : Score) → allows (one_cell score) score ≡ true
one_itself score =
    allows_from (one_cell score) score (record {
      home_least = omega arith;
      home_most = omega arith;
      away_least = omega arith;
      away_most = omega arith;
    }) (one_keeps score)

one_other : (score other : Score) → allows (one_cell score) other ≡ true → score ≡ other
one_other score other allowed =
    let between = (ranges_of (one_cell score) other allowed).0 in
    let home : score.home ≡ other.home = omega
    (arith, between.home_least, between.home_most) in
    let away : score.away ≡ other.away = omega
    (arith, between.away_least, between.away_most) in
    λ i. record { home = home i; away = away i }

-- it has that score and no other
pub one_allows : (score other : Score) → allows (one_cell score) other ≡ same_score score other
one_allows score other =
    same_tests (allows (one_cell score) other) (same_score score other)
    (λ allowed. same_score-itself score other (one_other score other allowed))
    (λ same. ap (λ (s : Score). allows (one_cell score) s) (sym (same_score-true score other same))
    ∙ one_itself score)

-- so it has one that passes exactly when that score does
one_passing : (score : Score) (test : Score → Bool) (has : Bool) → has ≡ test score
    → HasPassing (one_cell score) test has
one_passing score test true is =
    let itself : IsAllowed (one_cell score) test score =
    record { allowed = one_itself score; passed = sym is } in
    record {
      goals = Some (record {
        home_least = score.home;
        home_most = score.home;
        away_least = score.away;
        away_most = score.away;
      });
      says = record {
        within = λ other one.
            let between = (ranges_of (one_cell score) other one.allowed).0 in
            record {
              home_least = between.home_least;
              home_most = between.home_most;
              away_least = between.away_least;
              away_most = between.away_most;
            };
        home_least = (score, itself, refl);
        home_most = (score, itself, refl);
        away_least = (score, itself, refl);
        away_most = (score, itself, refl);
      };
      is = refl;
    }
one_passing score test false is = record {
  goals = None;
  says = λ other one. false≢true (is ∙ ap test (one_other score other one.allowed) ∙ one.passed);
  is = refl;
}

-- and the outcome that it keeps is that of its score
pub one_exact : (score : Score) → IsExactCell (one_cell score)
one_exact score = record {
  home_win = one_passing score is_home_win (is_home_win score) refl;
  draw = one_passing score is_draw (is_draw score) refl;
  away_win = one_passing score is_away_win (is_away_win score) refl;
}
