-- An exact cell that keeps fewer of its outcomes is exact.
use Rattle.std.proofs.Common.{◌≡◌, Bool, true, false, ◌&&◌, None, sym, ap, ◌∙◌, refl, cond, subst}
use Rattle.std.proofs.lemmas.Bool.{false≢true, ltb-true, eqb-true}
use Rattle.league_core.specs.declared.season.Score.{Score}
use Rattle.league_core.specs.search.Options.{is_home_win, is_draw, is_away_win}
use Rattle.score_box.specs.declared.cell.Cell.{Cell}
use Rattle.score_box.specs.inside.Cells.{is_within, keeps_outcome, HasPassing, IsExactCell}
use Rattle.score_box.specs.inside.Cells.{with_outcomes}
use Rattle.score_box.proofs.CellLemmas.{keeps_home_win, keeps_draw, keeps_away_win}
use Rattle.score_box.proofs.LeftLemmas.{same_passing}

-- an outcome that stays has its scores, and one that goes has none
outcome_kept : (cell other : Cell) (test : Score → Bool) (keep has : Bool)
    → HasPassing cell test has
    → ((score : Score) → test score ≡ true → keeps_outcome cell score ≡ has)
    → ((score : Score) → test score ≡ true → keeps_outcome other score ≡ (keep && has))
    → ((score : Score) → is_within cell.home_least cell.home_most score.home
    && is_within cell.away_least cell.away_most score.away
    ≡ (is_within other.home_least other.home_most score.home
    && is_within other.away_least other.away_most score.away))
    → HasPassing other test (keep && has)
outcome_kept cell other test true has left was now inside =
    same_passing cell other test has (λ score passed.
    ap (λ b. (is_within cell.home_least cell.home_most score.home
    && is_within cell.away_least cell.away_most score.away) && b)
    (was score passed ∙ sym (now score passed))
    ∙ ap (λ b. b && keeps_outcome other score) (inside score)) left
outcome_kept cell other test false has left was now inside = record {
  goals = None;
  says = λ score one. false≢true
      (sym (ap (λ b. (is_within other.home_least other.home_most score.home
      && is_within other.away_least other.away_most score.away) && b) (now score one.passed)
      ∙ nothing (is_within other.home_least other.home_most score.home
      && is_within other.away_least other.away_most score.away)) ∙ one.allowed);
  is = refl;
}
  where
    nothing : (b : Bool) → (b && false) ≡ false
    nothing true = refl
    nothing false = refl

pub fewer_exact : (cell : Cell) (home_win draw away_win : Bool) → IsExactCell cell
    → IsExactCell (with_outcomes home_win draw away_win cell)
fewer_exact cell home_win draw away_win exact =
    let other : Cell = with_outcomes home_win draw away_win cell in
    record {
      home_win = outcome_kept cell other is_home_win home_win cell.home_win exact.home_win
          (λ score passed. keeps_home_win cell score (ltb-true score.away score.home passed))
          (λ score passed. keeps_home_win other score (ltb-true score.away score.home passed))
          (λ score. refl);
      draw = outcome_kept cell other is_draw draw cell.draw exact.draw
          (λ score passed. keeps_draw cell score (eqb-true score.home score.away passed))
          (λ score passed. keeps_draw other score (eqb-true score.home score.away passed))
          (λ score. refl);
      away_win = outcome_kept cell other is_away_win away_win cell.away_win exact.away_win
          (λ score passed. keeps_away_win cell score (ltb-true score.home score.away passed))
          (λ score passed. keeps_away_win other score (ltb-true score.home score.away passed))
          (λ score. refl);
    }

-- whichever outcomes a cut keeps
pub either_exact : (yes : Bool) (first second new : Cell) → IsExactCell first
    → IsExactCell second → new ≡ cond yes first second → IsExactCell new
either_exact true first second new one other is = subst IsExactCell (sym is) one
either_exact false first second new one other is = subst IsExactCell (sym is) other
