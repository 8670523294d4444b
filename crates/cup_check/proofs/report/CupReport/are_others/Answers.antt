-- One number after the other.
use Rattle.std.proofs.Common.{◌≡◌, ◌∙◌, ◌+◌, ap, arith, drop, false, get_or, length, sym}
use Rattle.std.specs.Prelude.{◌==◌}
use Rattle.std.proofs.lemmas.Bool.{le-ltb, lt-ltb, ne_eqb}
use Rattle.std.proofs.lemmas.List.{drop_all, drop_more}
use Rattle.cup_grammar.specs.PlacedGroups.{PlacedGroup, placed_groups}
use Rattle.cup_check.specs.inside.CupSideCalls.{are_others}
use Rattle.cup_check.proofs.PlaceLemmas.{length-placed, others_more, past_is_none}
use Rattle.cup_check.proofs.report.CupReport.are_others.Goals as goal

pub loop-number-preserved : goal.loop-number-preserved
loop-number-preserved c =
    let basis = c.args.self.now.basis in
    let mine = c.args.mine.now in
    let numbers = c.args.numbers.now in
    let index = c.loop-number.number-index in
    let number = get_or numbers index 0 in
    let group = c.group.result in
    let first = λ (it : PlacedGroup). it.start.club in
    let other : (group.start.club == mine.start.club) ≡ false =
    ne_eqb group.start.club mine.start.club (λ same. c.if-group-mine.false
    (ap first c.group-in-loop-number.view_is ∙ same ∙ sym (ap first c.mine.view_is))) in
    c.loop-number.invariant
    ∙ ap (are_others basis mine) (drop_more numbers index 0 c.loop-number-test.true)
    ∙ others_more basis mine number (drop (index + 1) numbers) group
    (lt-ltb number (length (placed_groups basis)) (omega (
      arith,
      c.if-group_count-number.false,
      c.group_count.ensures,
      length-placed basis c.recall_invariant.ensures.of_groups,
    ))) c.group.ensures other

pub returns-then-group_count-number : goal.returns-then-group_count-number
returns-then-group_count-number c =
    let basis = c.args.self.now.basis in
    let mine = c.args.mine.now in
    let numbers = c.args.numbers.now in
    let index = c.loop-number.number-index in
    let number = get_or numbers index 0 in
    sym (c.loop-number.invariant
    ∙ ap (are_others basis mine) (drop_more numbers index 0 c.loop-number-test.true)
    ∙ past_is_none basis mine number (drop (index + 1) numbers)
    (le-ltb number (length (placed_groups basis)) (omega (
      arith,
      c.if-group_count-number.true,
      c.group_count.ensures,
      length-placed basis c.recall_invariant.ensures.of_groups,
    ))))

pub returns : goal.returns
returns c =
    sym (c.loop-number.invariant
    ∙ ap (are_others c.args.self.now.basis c.args.mine.now)
    (drop_all c.loop-number.number-index c.args.numbers.now c.loop-number-test.false))
