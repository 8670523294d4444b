use Rattle.std.proofs.Common.{drop, ◌∙◌, ap, sym}
use Rattle.std.proofs.lemmas.List.{take_rest}
use Rattle.port_core.proofs.PieceLemmas.{Reads-piece}
use Rattle.port_core.proofs.mem_source.MemSourceSource.read.Goals as goal

-- the piece that was copied is the start of the bytes left
pub returns-clause-bytes : goal.returns-clause-bytes
returns-clause-bytes c =
    let s = c.self.inside in
    Reads-piece s.bytes.items _ _ c.args.into.now _ s.at _ _ s.piece
    (ap (λ v. v.left) (sym c.self.view_is))
    (take_rest c.deref-2.result.now s.at ∙ ap (drop s.at) c.deref-2.ensures.value)
    c.min.ensures c.min-count.ensures c.copy_to_start.ensures c.copy_to_start.auto.into
    c.self.invariant.1 c.requires
