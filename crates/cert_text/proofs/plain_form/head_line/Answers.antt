use Rattle.std.proofs.Common.{refl}
use Rattle.league_core.specs.declared.question.Claim.TheVariants.{Inside, Outside}
use Rattle.cert_text.specs.declared.proof_line.ProofLine.TheVariants as line
use Rattle.cert_text.proofs.PlainFormLemmas.{line_in-own}
use Rattle.cert_text.proofs.plain_form.head_line.Goals as goal

pub returns-then-is_all : goal.returns-then-is_all
returns-then-is_all c =
    line_in-own (line.Finish Inside) c.args.text.now refl refl (c.is_all.ensures c.if-is_all.true)

pub returns-then-is_all-2 : goal.returns-then-is_all-2
returns-then-is_all-2 c =
    line_in-own (line.Finish Outside) c.args.text.now refl refl
    (c.is_all-else-is_all.ensures c.if-is_all-2.true)

pub returns-then-is_all-3 : goal.returns-then-is_all-3
returns-then-is_all-3 c =
    line_in-own (line.Tree Inside) c.args.text.now refl refl
    (c.is_all-else-is_all-2.ensures c.if-is_all-3.true)

pub returns-then-is_all-4 : goal.returns-then-is_all-4
returns-then-is_all-4 c =
    line_in-own (line.Tree Outside) c.args.text.now refl refl
    (c.is_all-else-is_all-3.ensures c.if-is_all-4.true)
