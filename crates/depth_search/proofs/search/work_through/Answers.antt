use Rattle.std.proofs.Common.{true, ◌≡◌, ◌+◌, ◌∙◌, ◌∷◌, [], ◌++◌, length, if◌then◌else◌, refl, ap}
use Rattle.std.proofs.Common.{sym, subst, arith, replicate, length-append}
use Rattle.depth_search.specs.declared.kind.CaseNode.TheVariants as node
use Rattle.league_core.specs.search.Zones.{with_test}
use Rattle.league_core.specs.inside.Pending.{pending_of}
use Rattle.depth_search.specs.inside.Cases.{AreOfTree}
use Rattle.depth_search.specs.inside.Searches.{FitHalves, IsFoundBy}
use Rattle.depth_search.proofs.PrefixLemmas.{AreFit, IsPrefixOfTree, refuted_on, split_on}
use Rattle.depth_search.proofs.PrefixLemmas.{made_more, due_after, prefix_whole, prefix_opened}
use Rattle.depth_search.proofs.PrefixLemmas.{refuted_found, split_found, halves_fit}
use Rattle.depth_search.proofs.search.work_through.Goals as goal

pub returns-then-not-branch-clause-end : goal.returns-then-not-branch-clause-end
returns-then-not-branch-clause-end g c =
    let K = g.K.Kind in
    let asked = K.subject c.args.kind.now in
    let refutes = K.refutes asked in
    let splits = K.splits asked in
    let nodes = c.loop-spent.nodes.items in
    let path = c.loop-spent.path.items in
    let zone = c.as_slice.result.now in
    let found = c.in_ok-example.field-0 in
    let is = subst (λ s. IsFoundBy (K.shows s) (K.refutes s zone) (K.splits s zone) found)
    c.loop-spent.invariant.3 (c.in_ok-example.ensures {u = tt}).found in
    let holds = refuted_found (K.shows asked) refutes splits zone path found c.in-Refuted.reason is
    c.in-Refuted.is c.as_slice.ensures.value in
    let pushed = (c.in_ok-push-in-Refuted.ensures {u = tt}).items in
    let none = c.in_ok-next_half-in-Refuted.ensures {u = tt}
    ∙ ap (λ b. if b then c.next_half.new.path.items ∷ pending_of c.next_half.new.path.items else [])
    c.if-not-branch.true in (
      prefix_whole refutes splits c.push.new.self.items
          (refuted_on refutes splits nodes c.push.new.self.items path (pending_of path) []
          c.in-Refuted.reason c.loop-spent.invariant.0 holds pushed none),
      made_more nodes c.push.new.self.items (node.Refuted c.in-Refuted.reason)
          c.loop-spent.invariant.2 refl pushed,
      omega (
        arith,
        ap length pushed,
        length-append nodes (node.Refuted c.in-Refuted.reason ∷ []),
        c.loop-spent.invariant.1,
        c.loop-spent-test.true,
      ),
    )

pub returns-clause-end : goal.returns-clause-end
returns-clause-end g c =
    let asked = g.K.Kind.subject c.args.kind.now in
    let refutes = g.K.Kind.refutes asked in
    let splits = g.K.Kind.splits asked in
    let nodes = c.loop-spent.nodes.items in
    let path = c.loop-spent.path.items in
    let is = c.in_ok-leave_open.ensures {u = tt} in
    let one : 1 + length (pending_of path) ≡ length (path ∷ pending_of path) = omega arith in
    let all = is ∙ ap (λ n. nodes ++ replicate n node.Open) one in (
      subst (λ it. AreOfTree refutes splits it) (sym all)
          (prefix_opened refutes splits nodes (path ∷ pending_of path) c.loop-spent.invariant.0),
      (
        nodes,
        length (pending_of path),
        is,
        omega (arith, c.loop-spent.invariant.1, c.loop-spent-test.false),
        c.loop-spent.invariant.2,
      ),
    )

pub loop-spent-preserved : goal.loop-spent-preserved
loop-spent-preserved g c =
    let K = g.K.Kind in
    let asked = K.subject c.args.kind.now in
    let shows = K.shows asked in
    let refutes = K.refutes asked in
    let splits = K.splits asked in
    let fits = K.fits asked in
    let still = c.loop-spent.invariant.3 in
    let same = c.look.ensures.same ∙ still in
    let fit = c.loop-spent.invariant.4 in
    let nodes = c.loop-spent.nodes.items in
    let path = c.loop-spent.path.items in
    let zone = c.as_slice.result.now in
    let there = c.as_slice.ensures.value in
    let found = c.in_ok-example.field-0 in
    let is = subst (λ s. IsFoundBy (K.shows s) (K.refutes s zone) (K.splits s zone) found) still
    (c.in_ok-example.ensures {u = tt}).found in
    let halves = subst (λ s. FitHalves (K.fits s) zone found) still
    (c.in_ok-example.ensures {u = tt}).halves in
    let after = c.match-branch-2.nodes.items in
    let way = c.match-branch-2.path.items in
    let prefix = c.loop-spent.invariant.0 in
    elim c.match-branch-2.branch [
      | goal.in-Refuted+in_ok-push-in-Refuted+in_ok-next_half-in-Refuted+else-not-branch b ↦
          let reason = b.in-Refuted.reason in
          let holds = refuted_found shows refutes splits zone path found reason is b.in-Refuted.is
          there in
          let pushed = ap (λ it. it.items) b.nodes-is ∙ (b.in_ok-push-in-Refuted.ensures {u =
          tt}).items in
          let next = b.next_half.new.path.items in
          let left = b.in_ok-next_half-in-Refuted.ensures {u = tt}
          ∙ ap (λ it. if it then next ∷ pending_of next else []) b.if-not-branch.false
          ∙ ap (λ it. it.items ∷ pending_of it.items) (sym b.path-is) in (
            refuted_on refutes splits nodes after path (pending_of path) (way ∷ pending_of way)
                reason prefix holds pushed left,
            omega (
              arith,
              ap length pushed,
              length-append nodes (node.Refuted reason ∷ []),
              c.loop-spent.invariant.1,
            ),
            made_more nodes after (node.Refuted reason) c.loop-spent.invariant.2 refl pushed,
            same,
            subst (AreFit fits) left fit.1,
          )
      | goal.in-Split+in_ok-push-in-Split+in_ok-push-in-Split-2 b ↦
          let test = b.in-Split.test in
          let holds = split_found shows refutes splits zone path found test is b.in-Split.is there
          in
          let pushed = ap (λ it. it.items) b.nodes-is ∙ (b.in_ok-push-in-Split.ensures {u =
          tt}).items in
          let goes = ap (λ it. it.items) b.path-is ∙ (b.in_ok-push-in-Split-2.ensures {u =
          tt}).items in
          let due = ap pending_of goes ∙ due_after path test in (
            subst (λ it. IsPrefixOfTree refutes splits after (way ∷ it)) (sym due)
                (split_on refutes splits nodes after path way (pending_of path) test prefix holds
                pushed goes),
            omega (
              arith,
              ap length pushed,
              length-append nodes (node.Split test ∷ []),
              c.loop-spent.invariant.1,
            ),
            made_more nodes after (node.Split test) c.loop-spent.invariant.2 refl pushed,
            same,
            subst (λ it. AreFit fits (it ∷ pending_of way)) (sym goes)
                (subst (λ it. AreFit fits (with_test path test true ∷ it)) (sym due)
                (let both = halves_fit fits zone path found test halves b.in-Split.is there in
                (both.0, (both.1, fit.1)))),
          )
    ]

pub look-requires : goal.look-requires
look-requires g c =
    subst (λ s. g.K.Kind.fits s c.as_slice.result.now) (sym c.loop-spent.invariant.3)
    (subst (g.K.Kind.fits (g.K.Kind.subject c.args.kind.now)) (sym c.as_slice.ensures.value)
    c.loop-spent.invariant.4.0)
