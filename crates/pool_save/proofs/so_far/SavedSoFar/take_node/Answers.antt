use Rattle.std.proofs.Common.{◌≡◌, IfOk, map, reverse, refl, sym, subst, arith, length, ap, ◌∙◌}
use Rattle.league_core.specs.game.ClubSets.{clubs_in}
use Rattle.pool_save.specs.SavedReadings.{SaveStep}
use Rattle.pool_save.specs.inside.SoFar.{save_step_of}
use Rattle.std.specs.List.{slice_get}
use Rattle.std.proofs.Common.{Some}
use Rattle.pool_save.proofs.HeldLemmas.{turned, split-refused, split-goes, refuted-refused}
use Rattle.pool_save.proofs.HeldLemmas.{refuted-goes, refuted-made, open-made, open-goes}
use Rattle.pool_save.proofs.HeldLemmas.{question_within}
use Rattle.pool_save.proofs.so_far.SavedSoFar.take_node.Goals as goal

pub question_at-requires : goal.question_at-requires
question_at-requires c =
    let within = question_within c.args.sheet.now c.args.asked.now c.args.self.now
    c.self.inside.trees.items c.self.inside.nodes.items _ _ _ c.self.view_is
    (turned c.self.inside.due.items c.pop.new.self.items c.in-Some.rivals c.in-Some.ensures.items)
    c.requires.sound in
    let count = c.len.ensures in
    omega (arith, within, count)

pub returns-then-not-may_split : goal.returns-then-not-may_split
returns-then-not-may_split c =
    let count : c.len.result ≡ length c.self.inside.trees.items =
    omega (arith, c.len.ensures, c.self.inside.trees.ok.0) in
    let there = subst (λ n. slice_get c.args.asked.now n ≡ Some c.question_at.result) count
    c.question_at.ensures in
    split-refused c.args.sheet.now c.args.asked.now c.args.self.now c.self.inside.trees.items
    c.self.inside.nodes.items _ _ _ c.question_at.result c.self.view_is
    (turned c.self.inside.due.items c.pop.new.self.items c.in-Some.rivals c.in-Some.ensures.items)
    there
    c.args.node c.in-Split.test c.in-Split.fresh c.in-Split.is c.if-not-may_split.ensures

pub returns-then-not-is_reason_for : goal.returns-then-not-is_reason_for
returns-then-not-is_reason_for c =
    let count : c.len.result ≡ length c.self.inside.trees.items =
    omega (arith, c.len.ensures, c.self.inside.trees.ok.0) in
    let there = subst (λ n. slice_get c.args.asked.now n ≡ Some c.question_at.result) count
    c.question_at.ensures in
    refuted-refused c.args.sheet.now c.args.asked.now c.args.self.now c.self.inside.trees.items
    c.self.inside.nodes.items _ _ _ c.question_at.result c.self.view_is
    (turned c.self.inside.due.items c.pop.new.self.items c.in-Some.rivals c.in-Some.ensures.items)
    there
    c.args.node c.in-Refuted.reason c.in-Refuted.fresh c.in-Refuted.is
    c.if-not-is_reason_for.ensures

pub leave-requires-clause-tree : goal.leave-requires-clause-tree
leave-requires-clause-tree c =
    let count : c.len.result ≡ length c.self.inside.trees.items =
    omega (arith, c.len.ensures, c.self.inside.trees.ok.0) in
    let there = subst (λ n. slice_get c.args.asked.now n ≡ Some c.question_at.result) count
    c.question_at.ensures in
    refuted-made c.args.sheet.now c.args.asked.now c.args.self.now c.self.inside.trees.items
    c.self.inside.nodes.items _ _ _ c.question_at.result c.self.view_is
    (turned c.self.inside.due.items c.pop.new.self.items c.in-Some.rivals c.in-Some.ensures.items)
    there
    c.in-Refuted.reason c.in-Refuted.fresh c.requires.sound c.if-not-is_reason_for.ensures

pub leave-requires-in-Open-clause-tree : goal.leave-requires-in-Open-clause-tree
leave-requires-in-Open-clause-tree c =
    let count : c.len.result ≡ length c.self.inside.trees.items =
    omega (arith, c.len.ensures, c.self.inside.trees.ok.0) in
    let there = subst (λ n. slice_get c.args.asked.now n ≡ Some c.question_at.result) count
    c.question_at.ensures in
    open-made c.args.sheet.now c.args.asked.now c.args.self.now c.self.inside.trees.items
    c.self.inside.nodes.items _ _ _ c.question_at.result c.self.view_is
    (turned c.self.inside.due.items c.pop.new.self.items c.in-Some.rivals c.in-Some.ensures.items)
    there
    c.args.node c.requires.sound c.in-Open.is

pub returns-else-not-may_split : goal.returns-else-not-may_split
returns-else-not-may_split c =
    let count : c.len.result ≡ length c.self.inside.trees.items =
    omega (arith, c.len.ensures, c.self.inside.trees.ok.0) in
    let there = subst (λ n. slice_get c.args.asked.now n ≡ Some c.question_at.result) count
    c.question_at.ensures in
    let P : SaveStep → Type 0 =
    λ step. IfOk c.split.result (λ taken. save_step_of c.split.new.self taken ≡ step) in
    subst P
    (split-goes c.args.sheet.now c.args.asked.now c.args.self.now c.self.inside.trees.items
    c.self.inside.nodes.items _ _ _ c.question_at.result c.self.view_is
    (turned c.self.inside.due.items c.pop.new.self.items c.in-Some.rivals c.in-Some.ensures.items)
    there
    c.args.node c.in-Split.test c.in-Split.fresh (clubs_in c.with_rival.result) c.in-Split.is
    c.if-not-may_split.ensures c.with_rival.ensures)
    c.split.ensures

pub returns-else-not-is_reason_for : goal.returns-else-not-is_reason_for
returns-else-not-is_reason_for c =
    let count : c.len.result ≡ length c.self.inside.trees.items =
    omega (arith, c.len.ensures, c.self.inside.trees.ok.0) in
    let there = subst (λ n. slice_get c.args.asked.now n ≡ Some c.question_at.result) count
    c.question_at.ensures in
    let P : SaveStep → Type 0 =
    λ step. IfOk c.leave.result (λ taken. save_step_of c.leave.new.self taken ≡ step) in
    subst P
    (refuted-goes c.args.sheet.now c.args.asked.now c.args.self.now c.self.inside.trees.items
    c.self.inside.nodes.items _ _ _ c.question_at.result c.self.view_is
    (turned c.self.inside.due.items c.pop.new.self.items c.in-Some.rivals c.in-Some.ensures.items)
    there
    c.args.node c.in-Refuted.reason c.in-Refuted.fresh c.in-Refuted.is
    c.if-not-is_reason_for.ensures)
    c.leave.ensures
