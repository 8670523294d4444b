use Rattle.std.proofs.Common.{inl, inr, refl}
use Rattle.cert_text.specs.TreeLines.{plain_lines}
use Rattle.answer_laws.proofs.DecidedLemmas.{question_decided}
use Rattle.wide_lines.proofs.WideTreeLemmas.{refutation_is_wide}
use Rattle.decide_run.proofs.laws.questions_are_decided.Goals as goal

pub returns : goal.returns
returns c = λ sheet season question league results asked.
    elim (question_decided sheet season question league results asked) [
      | inl example ↦ inl example
      | inr found ↦
          let wide = refutation_is_wide sheet season question (plain_lines found.0)
          (found.0, found.1, refl) in
          inr (wide.0, wide.1)
    ]
