-- The cell of one score has no other, and the outcome of that score.
use Rattle.score_box.proofs.LeftLemmas.{one_allows, one_exact}
use Rattle.score_box.proofs.cell.Cell.played.Goals as goal

pub returns : goal.returns
returns c = record {
  scores = λ other. one_allows c.args.score other;
  exact = one_exact c.args.score;
}
