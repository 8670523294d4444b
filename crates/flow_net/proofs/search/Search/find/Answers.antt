use Rattle.std.proofs.Common.{◌≡◌, ◌<◌, ℕ, length, sym, ap, ◌∙◌, subst, inl, inr, arith, true}
use Rattle.std.proofs.lemmas.Bool.{cases_eq}
use Rattle.flow_net.specs.declared.arcs.Direction.{Direction}
use Rattle.flow_net.specs.declared.arcs.Direction.TheVariants.{Along, Against}
use Rattle.flow_net.specs.declared.search.Reach.{Reach}
use Rattle.flow_net.specs.inside.Flow.{arc_at}
use Rattle.flow_net.specs.inside.Cut.{marked}
use Rattle.flow_net.specs.inside.Direction.{tail_of}
use Rattle.flow_net.specs.inside.Search.{IsScanned, IsSized, reached_at}
use Rattle.flow_net.proofs.SearchLemmas.{mark_count-le}
use Rattle.flow_net.proofs.GrownLemmas.{IsGrown-trans, IsScanned-grown, IsSized-grown}
use Rattle.flow_net.proofs.search.Search.find.Goals as goal

pub loop-place-init : goal.loop-place-init
loop-place-init c = record {
  sized = subst (λ (n : ℕ). IsSized n c.begin.new.self) c.requires.sized.one_each
      c.begin.ensures.sized;
  search = c.begin.ensures.search c.args.graph.now c.args.flow.now;
  source = c.begin.ensures.source;
  within = omega arith;
  scanned = λ way place below. absurd (omega arith);
  missed = c.begin.ensures.others c.args.sink (λ same. c.requires.apart (sym same));
}

pub loop-place-smaller : goal.loop-place-smaller
loop-place-smaller c =
    omega (
      arith,
      c.loop-place-test.true,
      c.len.ensures,
      c.loop-place.self.queue.ok.0,
      mark_count-le c.loop-place.self.reached.items,
      c.loop-place.invariant.search.counted,
      c.loop-place.invariant.sized.one_each,
    )

pub loop-place-preserved : goal.loop-place-preserved
loop-place-preserved c =
    let arcs = c.args.graph.now.arcs.items in
    let flow = c.args.flow.now in
    let old = c.loop-place.self in
    let between = c.scan.new.self in
    let new = c.scan-in-loop-place.new.self in
    let first = c.if-scan.ensures in
    let second = c.if-scan-2.ensures in
    let grown = IsGrown-trans old between new first.grown second.grown in
    let here : c.loop-place.place < length old.queue.items =
    omega (arith, c.loop-place-test.true, c.len.ensures, old.queue.ok.0) in
    let Done : Direction → ℕ → Type 0 = λ way place. IsScanned arcs flow way new.reached.items
    (reached_at new.queue.items place).node 0 in
    let along : Done Along c.loop-place.place =
    subst (λ (r : Reach). IsScanned arcs flow Along new.reached.items r.node 0)
    (sym (grown.entries c.loop-place.place here))
    (IsScanned-grown arcs flow Along between new
    (reached_at old.queue.items c.loop-place.place).node 0 second.grown first.scanned) in
    let against : Done Against c.loop-place.place =
    subst (λ (r : Reach). IsScanned arcs flow Against new.reached.items r.node 0)
    (sym (second.grown.entries c.loop-place.place (omega (arith, first.grown.longer))))
    second.scanned in
    record {
      sized = IsSized-grown c.args.graph.now.nodes old new grown c.loop-place.invariant.sized;
      search = second.search;
      source = ap (λ (r : Reach). r.node) (grown.entries 0 (omega arith))
          ∙ c.loop-place.invariant.source;
      within = omega (arith, grown.longer);
      scanned = λ way place below. elim (cases_eq place c.loop-place.place) [
        | inl same ↦ subst (Done way) (sym same)
            (elim way as (λ w. Done w c.loop-place.place) [ Along ↦ along | Against ↦ against ])
        | inr other ↦
            subst (λ (r : Reach). IsScanned arcs flow way new.reached.items r.node 0)
            (sym (grown.entries place (omega arith)))
            (IsScanned-grown arcs flow way old new (reached_at old.queue.items place).node 0 grown
            (c.loop-place.invariant.scanned way place (omega arith)))
      ];
      missed = second.missed;
    }

pub returns-clause-closed : goal.returns-clause-closed
returns-clause-closed c =
    let arcs = c.args.graph.now.arcs.items in
    let search = c.loop-place.invariant.search in
    record {
      has_source = subst (λ (n : ℕ). marked c.loop-place.self.reached.items n ≡ true)
          c.loop-place.invariant.source (search.all_marked 0 search.some);
      lacks_sink = c.loop-place.invariant.missed;
      steps = λ way arc below tail room.
          let at = search.listed (tail_of way (arc_at arcs arc)) tail in
          (c.loop-place.invariant.scanned way at.0
          (omega (
            arith,
            at.1,
            c.loop-place-test.false,
            c.len.ensures,
            c.loop-place.self.queue.ok.0,
          ))).reached arc (omega arith) below (sym at.2) room;
    }
