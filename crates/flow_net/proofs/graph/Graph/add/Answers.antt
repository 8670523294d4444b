use Rattle.std.proofs.Common.{◌≡◌, ◌+◌, ◌<◌, ℕ, [], ◌∷◌, ◌++◌, length, set, subst, ap, ◌∙◌, sym}
use Rattle.std.proofs.Common.{inl, inr, arith}
use Rattle.std.proofs.lemmas.Bool.{cases_eq}
use Rattle.std.proofs.lemmas.List.{length_push, length-set}
use Rattle.flow_net.specs.declared.arcs.Arc.{Arc}
use Rattle.flow_net.specs.declared.arcs.Direction.TheVariants.{Along, Against}
use Rattle.flow_net.specs.inside.Graph.{HasEnds}
use Rattle.flow_net.proofs.ArcLemmas.{arc_at-append, arc_at_push}
use Rattle.flow_net.proofs.ListsLemmas.{AreLists-add}
use Rattle.flow_net.proofs.graph.Graph.add.Goals as goal

pub returns-clause-graph : goal.returns-clause-graph
returns-clause-graph c =
    let arcs = c.args.self.now.arcs.items in
    let arc = c.args.arc in
    let old = c.requires.graph in
    let new = arcs ++ arc ∷ [] in
    let items : c.push.new.self.items ≡ new = rw c.unwrap.ensures at c.push.ensures.items in
    let longer = length_push arcs arc in
    let left = c.args.self.now.leaving.first.items in
    let entered = c.args.self.now.entering.first.items in
    let leaving_first : c.add.new.self.first.items ≡ set left arc.from (length arcs + 1) =
    c.add.ensures.first ∙ ap (λ (n : ℕ). set left arc.from (n + 1))
    (c.args.self.now.leaving.next.ok.0 ∙ old.leaving.one_each) in
    let entering_first : c.add-2.new.self.first.items ≡ set entered arc.to (length arcs + 1) =
    c.add-2.ensures.first ∙ ap (λ (n : ℕ). set entered arc.to (n + 1))
    (c.args.self.now.entering.next.ok.0 ∙ old.entering.one_each) in
    let leaving = AreLists-add Along arcs arc left c.args.self.now.leaving.next.items old.leaving
    (omega (arith, c.requires.ends.from, old.leaving_nodes)) in
    let entering = AreLists-add Against arcs arc entered c.args.self.now.entering.next.items
    old.entering (omega (arith, c.requires.ends.to, old.entering_nodes)) in
    record {
      few_nodes = old.few_nodes;
      few = rw items (omega (arith, longer, c.requires.few));
      ends = rw items (λ place below. elim (cases_eq place (length arcs)) [
        | inl last ↦ subst (λ (a : Arc). HasEnds c.args.self.now.nodes a)
            (sym (arc_at_push arcs arc place (sym last))) c.requires.ends
        | inr older ↦ let within : place < length arcs = omega (arith, longer) in
            subst (λ (a : Arc). HasEnds c.args.self.now.nodes a)
            (sym (arc_at-append arcs arc place within)) (old.ends place within)
      ]);
      leaving = rw (items, leaving_first, c.add.ensures.next) leaving;
      entering = rw (items, entering_first, c.add-2.ensures.next) entering;
      leaving_nodes = ap length leaving_first ∙ length-set left arc.from (length arcs + 1)
          ∙ old.leaving_nodes;
      entering_nodes = ap length entering_first ∙ length-set entered arc.to (length arcs + 1)
          ∙ old.entering_nodes;
    }
