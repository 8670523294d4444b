use Rattle.std.proofs.Common.{◌≡◌, ◌+◌, ◌≤◌, ◌∙◌, ap, sym, drop, length, take, arith, length-drop}
use Rattle.std.proofs.Common.{length-take}
use Rattle.std.proofs.lemmas.List.{drop-drop}
use Rattle.port_core.specs.inside.Buffers.{part}
use Rattle.port_core.proofs.PieceLemmas.{part-part}
use Rattle.port_core.proofs.buffer.Buffer.give_prefix.Goals as goal

pub returns : goal.returns
returns c =
    let a = c.args in
    let w = c.self.inside in
    let all = w.bytes.items in
    let held : part w.from w.to all ≡ a.self.now.held = ap (λ v. v.held) c.self.view_is in
    let inside : w.from + a.to ≤ w.to = omega (
      arith,
      ap length held,
      length-drop w.from (take w.to all),
      length-take w.to all,
      c.requires.within,
      c.requires.order.1,
      c.self.invariant,
    ) in
    let rest : part (w.from + a.count) w.to all ≡ drop a.count a.self.now.held =
    sym (drop-drop a.count w.from (take w.to all)) ∙ ap (drop a.count) held in
    let text : part (w.from + a.from) (w.from + a.to) all ≡ part a.from a.to a.self.now.held =
    sym (part-part all w.from w.to a.from a.to inside) ∙ ap (part a.from a.to) held in
    cc
