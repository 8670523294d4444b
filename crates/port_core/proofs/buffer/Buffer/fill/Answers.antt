use Rattle.std.proofs.Common.{◌≡◌, ◌+◌, ◌-◌, ◌≤◌, ◌++◌, ◌∙◌, ap, sym, take, length}
use Rattle.std.proofs.Common.{arith}
use Rattle.std.proofs.lemmas.List.{take_at}
use borrow.Rule.Slice.PartMut.{same_len_mid}
use Rattle.port_core.specs.inside.Buffers.{part}
use Rattle.port_core.proofs.PieceLemmas.{Fills-behind, Fills-front, length-part}
use Rattle.port_core.proofs.buffer.Buffer.fill.Goals as goal

-- the text and what was in hand stand at the start, and the read put its bytes after them
pub returns-in-Bytes-clause-bytes : goal.returns-in-Bytes-clause-bytes
returns-in-Bytes-clause-bytes g c =
    let w = c.self.inside in
    let kept = w.text_to - w.text_from in
    let count = w.to - w.from in
    let room = kept + c.min.result - (kept + count) in
    let before = c.deref_mut-2.result.now in
    let into = c.read-got.new.into in
    let moved : length c.gather.new.bytes ≡ w.bytes.len =
    omega (arith, c.gather.auto.bytes, c.deref_mut.ensures.len) in
    let filled = same_len_mid (kept + count) room before into c.read-got.auto.into
    ∙ c.deref_mut-2.ensures.len in
    let front = ap (take (kept + count)) (c.deref_mut-2.ensures.value ∙ take_at _ _ _ moved)
    ∙ c.gather.ensures
    ∙ ap (λ l. part w.text_from w.text_to l ++ part w.from w.to l) c.deref_mut.ensures.value
    ∙ ap (λ v. v.text ++ v.held) c.self.view_is in
    let inside : kept + count ≤ length before =
    omega (arith, c.deref_mut-2.ensures.len, c.self.invariant) in
    let whole : w.text_to ≤ length w.bytes.items = omega (
      arith,
      ap length c.deref_mut.ensures.value,
      c.deref_mut.ensures.len,
      c.self.invariant,
    ) in
    let size : length c.args.self.now.text ≡ kept = ap (λ v. length v.text) (sym c.self.view_is)
    ∙ length-part w.bytes.items w.text_from w.text_to c.self.invariant.0 whole in
    Fills-front _ _ _ _ c.args.self.now.text c.args.self.now.held _ kept size
    (Fills-behind _ _ _ _ c.in-Bytes.count (kept + count) room _ before into _ c.in-Bytes.is front
    inside c.read-got.ensures.bytes c.read-got.ensures.step (take_at _ _ _ filled))
