use Rattle.std.proofs.Common.{List, ℕ, IfSome, subst}
use Rattle.cert_text.specs.inside.PlainForms.{IsLineOfNode}
use Rattle.cert_text.proofs.plain_node.marked_node.Goals as goal

pub returns : goal.returns
returns c =
    let P : List ℕ → Type 0 = λ text. IfSome c.node.result (IsLineOfNode text) in
    subst P c.mark-fresh.ensures c.node.ensures
