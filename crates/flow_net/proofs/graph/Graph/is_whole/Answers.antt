use Rattle.std.proofs.Common.{◌∙◌, sym, refl, inl, inr, arith}
use Rattle.std.proofs.lemmas.Bool.{cases_lt}
use Rattle.flow_net.specs.declared.arcs.Direction.TheVariants.{Along, Against}
use Rattle.flow_net.proofs.FillLemmas.{carried_past}
use Rattle.flow_net.proofs.graph.Graph.is_whole.Goals as goal

-- nothing leaves or enters past the last node
pub returns : goal.returns
returns c =
    let arcs = c.args.self.now.arcs.items in
    let nodes = c.args.self.now.nodes in
    let ends = c.requires.graph.ends in (
      λ _. record {
        within = c.if-not-is_within.ensures.0 refl;
        passed_on = λ node not_source not_sink.
            elim (cases_lt node nodes) [
              | inl below ↦ c.loop-node.invariant node
                  (omega (arith, c.loop-node-test.false)) not_source not_sink
              | inr past ↦ carried_past Along nodes node arcs c.args.flow.now past ends
                  ∙ sym (carried_past Against nodes node arcs c.args.flow.now past ends)
            ];
      },
      λ _. refl,
    )
