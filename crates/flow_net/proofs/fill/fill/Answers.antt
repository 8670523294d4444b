use Rattle.std.proofs.Common.{◌==◌, refl, arith}
use Rattle.std.proofs.lemmas.Bool.{eq-eqb, ne_eqb}
use Rattle.flow_net.specs.inside.Cut.{IsCut}
use Rattle.flow_net.proofs.DualityLemmas.{leaves-le_cut}
use Rattle.flow_net.proofs.FillLemmas.{IsMoved-between, IsWholeFlow-moved, sent_more}
use Rattle.flow_net.proofs.fill.fill.Goals as goal

pub more-smaller : goal.more-smaller
more-smaller c =
    let arcs = c.args.graph.now.arcs.items in
    let source = c.args.source in
    let sink = c.args.sink in
    let moved = IsMoved-between arcs c.more.flow c.send.new.flow c.send.result
    c.more-test.ensures.source c.more-test.ensures.found c.send.ensures.moved in
    let whole = IsWholeFlow-moved arcs source sink c.more.flow c.send.new.flow c.send.result moved
    c.send.ensures.within c.more.invariant.whole in
    let only_source : IsCut source sink (λ node. source == node) =
    record {
      has_source = eq-eqb source source refl;
      lacks_sink =
          ne_eqb source sink c.requires.apart;
    } in
    let bound = leaves-le_cut arcs source sink c.send.new.flow whole
    (λ node. source == node) only_source in
    omega (
      arith,
      bound,
      sent_more arcs source sink c.more.flow c.send.new.flow c.send.result moved
          c.requires.apart,
      c.send.ensures.some,
    )

pub more-preserved : goal.more-preserved
more-preserved c =
    let arcs = c.args.graph.now.arcs.items in
    let source = c.args.source in
    let sink = c.args.sink in
    let moved = IsMoved-between arcs c.more.flow c.send.new.flow c.send.result
    c.more-test.ensures.source c.more-test.ensures.found c.send.ensures.moved in
    let more = sent_more arcs source sink c.more.flow c.send.new.flow c.send.result moved
    c.requires.apart in
    record {
      sized = c.more-test.ensures.sized;
      whole = IsWholeFlow-moved arcs source sink c.more.flow c.send.new.flow c.send.result moved
          c.send.ensures.within c.more.invariant.whole;
      more = omega (arith, more, c.more.invariant.more);
      first = λ same. absurd (omega (
        arith,
        same,
        more,
        c.more.invariant.more,
        c.send.ensures.some,
      ));
    }
