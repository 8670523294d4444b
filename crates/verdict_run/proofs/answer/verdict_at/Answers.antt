use Rattle.std.proofs.Common.{◌+◌, Option, refl, subst}
use Rattle.std.specs.Prelude.{IfSome}
use Rattle.league_core.specs.declared.question.Claim.TheVariants.{Inside, Outside}
use Rattle.league_core.specs.game.Questions.{full_question}
use Rattle.cert_text.specs.declared.proof_line.ProofLine.{ProofLine}
use Rattle.answer_rows.specs.declared.part.Part.{Part}
use Rattle.verdict_run.specs.inside.Parts.{IsRefutedAt}
use Rattle.verdict_run.specs.inside.Kept.{IsFoundAt}
use Rattle.verdict_run.proofs.KeptLemmas.{outside_of_pool, inside_of_pool, parts_of_pool}
use Rattle.verdict_run.proofs.KeptLemmas.{none_found}
use Rattle.verdict_run.proofs.VerdictLemmas.{answered_by, answered_lost, answered_clinched}
use Rattle.verdict_run.proofs.VerdictLemmas.{asked_at, asks_inside, row_club, not_refuted_too}
use Rattle.verdict_run.proofs.answer.verdict_at.Goals as goal

pub returns-in-Some-clause-answered : goal.returns-in-Some-clause-answered
returns-in-Some-clause-answered c = λ row asks.
    let pool = c.args.pool.now in
    let place = c.args.place in
    let P : Option (Part ProofLine) → Type 0 = λ found. IfSome found (IsRefutedAt pool (place + 1))
    in
    answered_clinched pool row (asked_at c.questions.result.now place) c.in-Some.outside
    (asks_inside pool place row c.questions.result.now c.questions.ensures.questions asks)
    (row_club pool place row c.recall_invariant.ensures.sound asks)
    (subst P c.in-Some.is c.in_ok-outside.ensures.part (full_question row.club row.line Outside)
    asks.outside)

pub returns-in-Some-clause-of_pool : goal.returns-in-Some-clause-of_pool
returns-in-Some-clause-of_pool c = λ row asks.
    let pool = c.args.pool.now in
    let place = c.args.place in
    let P : Option (Part ProofLine) → Type 0 = λ found. IfSome found (IsRefutedAt pool (place + 1))
    in
    let Q : Option (Part ProofLine) → Type 0 = λ found. IsFoundAt pool (place + 1) found in
    outside_of_pool pool place _
    (λ seat. not_refuted_too pool place row c.in-Some.outside seat c.recall_invariant.ensures.sound
    asks
    (subst P c.in-Some.is c.in_ok-outside.ensures.part (full_question row.club row.line Outside)
    asks.outside))
    (subst Q c.in-Some.is c.in_ok-outside.ensures.of_pool) refl

pub returns-in-Refuted-clause-answered : goal.returns-in-Refuted-clause-answered
returns-in-Refuted-clause-answered c = λ row asks.
    let pool = c.args.pool.now in
    let place = c.args.place in
    answered_lost pool row (asked_at c.questions.result.now place) c.in_ok-inside.inside
    (asks_inside pool place row c.questions.result.now c.questions.ensures.questions asks)
    (row_club pool place row c.recall_invariant.ensures.sound asks)
    (c.in_ok-inside.ensures.part (full_question row.club row.line Inside) asks.inside)
    c.in-Refuted.is

pub returns-in-Refuted-clause-of_pool : goal.returns-in-Refuted-clause-of_pool
returns-in-Refuted-clause-of_pool c = λ row asks.
    let pool = c.args.pool.now in
    let place = c.args.place in
    let d = c.in_default in
    inside_of_pool pool place _ c.in_ok-inside.inside
    (none_found pool (place + 1) c.in_ok-outside.field-0 c.in_default.not-Some
    c.in_ok-outside.ensures.of_pool)
    c.in_ok-inside.ensures.of_pool refl refl

pub returns-clause-answered : goal.returns-clause-answered
returns-clause-answered c = λ row asks.
    let pool = c.args.pool.now in
    let place = c.args.place in
    rw c.word_of-word.ensures
    (answered_by pool row (asked_at c.questions.result.now place) c.in_ok-inside.inside
    c.in_ok-outside-2.outside c.in_ok-proof.proof
    (asks_inside pool place row c.questions.result.now c.questions.ensures.questions asks)
    (row_club pool place row c.recall_invariant.ensures.sound asks)
    (c.in_ok-inside.ensures.part (full_question row.club row.line Inside) asks.inside)
    (c.in_ok-outside-2.ensures.part (full_question row.club row.line Outside) asks.outside)
    c.in_ok-inside.ensures.enough c.in_ok-outside-2.ensures.enough
    (rw c.word_of-word.ensures at c.in_ok-proof.ensures))

pub returns-clause-of_pool : goal.returns-clause-of_pool
returns-clause-of_pool c = λ row asks.
    let pool = c.args.pool.now in
    let place = c.args.place in
    parts_of_pool pool place _ c.in_ok-inside.inside c.in_ok-outside-2.outside
    (none_found pool (place + 1) c.in_ok-outside.field-0 c.in_default.not-Some
    c.in_ok-outside.ensures.of_pool)
    c.in_ok-inside.ensures.of_pool c.in_ok-outside-2.ensures.of_pool c.word_of-word.ensures
    c.in_ok-proof.ensures
