use Rattle.std.proofs.Common.{◌≡◌, IfOk, sym, subst}
use Rattle.line_tokens.specs.Tokens.{token_of}
use Rattle.pool_save.specs.SavedReadings.{SaveStep}
use Rattle.pool_save.specs.inside.SoFar.{save_step_of}
use Rattle.pool_save.proofs.HeldLemmas.{node-taken}
use Rattle.pool_save.proofs.reader.take_text.Goals as goal

pub returns-in-Some : goal.returns-in-Some
returns-in-Some c =
    let P : SaveStep → Type 0 =
    λ step. IfOk c.take_node.result (λ taken. save_step_of c.take_node.new.self taken ≡ step) in
    subst P
    (sym (node-taken c.args.sheet.now c.args.asked.now c.args.held.now (token_of c.args.text.now)
    c.in-Some.node c.in-Some.ensures))
    c.take_node.ensures
