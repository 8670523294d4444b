use Rattle.std.proofs.Common.{◌≡◌, ◌*◌, ◌<◌, ◌≤◌, List, length, ap, sym, ◌∙◌, subst, arith}
use Rattle.std.proofs.Common.{get_or}
use Rattle.league_core.specs.declared.question.Question.{Question}
use Rattle.cert_text.specs.declared.proof_line.ProofLine.{ProofLine}
use Rattle.answer_rows.specs.declared.word.Verdict.{Verdict}
use Rattle.answer_rows.specs.Items.{AnswerRow, answer_rows}
use Rattle.verdict_run.proofs.VerdictLemmas.{none_answered, one_answered, all_answered}
use Rattle.verdict_run.proofs.VerdictLemmas.{asks_both, two_a_row, AreAnswered}
use Rattle.verdict_run.proofs.answer.verdicts.Goals as goal

pub loop-row-init : goal.loop-row-init
loop-row-init c =
    let P : List (Verdict ProofLine) → Type 0 = λ found. AreAnswered c.args.pool.now 0 found in
    subst P (sym c.new-found.ensures.items) (none_answered c.args.pool.now)

pub loop-row-preserved : goal.loop-row-preserved
loop-row-preserved c =
    let pool = c.args.pool.now in
    let row = c.loop-row.row in
    let d : AnswerRow = record { line = 0; club = 0 } in
    let two : length c.questions.result.now ≡ 2 * length (answer_rows pool.sheet) =
    ap (λ (qs : List Question). length qs) (c.questions.ensures.questions ∙ c.requires.asked)
    ∙ two_a_row pool.sheet in
    let inside : row < length (answer_rows pool.sheet) = omega (arith, two) in
    one_answered pool row c.loop-row.found.items c.push.new.self.items
    c.in_ok-verdict_at.field-0 d inside c.loop-row.invariant
    (c.in_ok-verdict_at.ensures.answered (get_or (answer_rows pool.sheet) row d)
    (asks_both pool row d c.requires.asked inside))
    (c.in_ok-verdict_at.ensures.of_pool (get_or (answer_rows pool.sheet) row d)
    (asks_both pool row d c.requires.asked inside))
    c.in_ok-push.ensures.items

pub returns : goal.returns
returns c =
    let pool = c.args.pool.now in
    let two : length c.questions.result.now ≡ 2 * length (answer_rows pool.sheet) =
    ap (λ (qs : List Question). length qs) (c.questions.ensures.questions ∙ c.requires.asked)
    ∙ two_a_row pool.sheet in
    let all : length (answer_rows pool.sheet) ≤ c.loop-row.row = omega (arith, two) in
    record {
      answer = all_answered pool c.loop-row.row c.loop-row.found.items c.loop-row.invariant all;
      in_range = c.loop-row.invariant.in_range;
      enough = c.loop-row.invariant.enough;
      of_pool = c.loop-row.invariant.of_pool;
    }
