use Rattle.std.proofs.Common.{◌≡◌, ◌-◌, ◌++◌, ◌∙◌, ap, sym, take, zero-add}
use Rattle.port_core.specs.inside.Buffers.{part}
use Rattle.port_core.proofs.PieceLemmas.{part-rest}
use Rattle.port_core.proofs.bytes.gather.Goals as goal

pub returns : goal.returns
returns c =
    let old = c.args.bytes.now in
    let mid = c.move_down.new.bytes in
    let first = c.args.first in
    let second = c.args.second in
    let size = first.1 - first.0 in
    let front : take size mid ≡ part first.0 first.1 old =
    ap (λ n. take n mid) (sym (zero-add size)) ∙ c.move_down.ensures.moved in
    c.move_down-2.ensures.moved
    ∙ ap (λ l. l ++ part second.0 second.1 mid) front
    ∙ ap (λ l. part first.0 first.1 old ++ l)
    (part-rest old mid first.1 second.0 second.1 c.move_down.ensures.rest c.requires.order.1)
