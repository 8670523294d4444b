use Rattle.std.proofs.Common.{[], refl, sym, ◌∙◌}
use Rattle.par_check.specs.Outlines.{question_of}
use Rattle.par_check.proofs.ShapeLemmas.{scores_shape}
use Rattle.par_check.proofs.item_head.whole_example.Goals as goal

pub returns : goal.returns
returns c = λ row.
    c.next_score.ensures row
    ∙ sym (scores_shape (question_of row c.args.claim) [] c.args.report.now.basis.season.scores 0
    refl)
