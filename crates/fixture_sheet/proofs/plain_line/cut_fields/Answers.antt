use Rattle.std.proofs.Common.{ap, ◌∙◌, arith}
use Rattle.fixture_sheet.proofs.CutLemmas.{cut-begins, cut-byte, cut-comma}
use Rattle.fixture_sheet.proofs.plain_line.cut_fields.Goals as goal
use Rattle.fixture_sheet.proofs.plain_line.cut_fields.Goals.{else-byte-eq44}
use Rattle.fixture_sheet.proofs.plain_line.cut_fields.Goals.{then-byte-eq44+in_ok-to_vec+in_ok-push}

pub loop-place-init : goal.loop-place-init
loop-place-init c = record {
  inside = omega arith;
  cut = cut-begins (λ bytes. bytes.items) c.args.text.now c.in_ok-list.list.items
      c.in_ok-list.ensures.items;
}

pub loop-place-preserved : goal.loop-place-preserved
loop-place-preserved c = elim c.if-byte-eq44.branch [
  | then-byte-eq44+in_ok-to_vec+in_ok-push w ↦ record {
    inside = omega arith;
    cut = cut-comma (λ bytes. bytes.items) c.args.text.now c.loop-place.list.items
        c.if-byte-eq44.list.items w.in_ok-to_vec.field-0 c.loop-place.start c.if-byte-eq44.start
        c.loop-place.place (omega arith) w.if-byte-eq44.true
        (ap (λ list. list.items) w.list-is ∙ w.in_ok-push.ensures.items)
        (w.in_ok-to_vec.ensures.items_if_clones_equal (λ _ _ same. same)) w.start-is
        c.loop-place.invariant.cut;
  }
  | else-byte-eq44 w ↦ record {
    inside = omega arith;
    cut = cut-byte (λ bytes. bytes.items) c.args.text.now c.loop-place.list.items
        c.if-byte-eq44.list.items c.loop-place.start c.if-byte-eq44.start c.loop-place.place
        (omega arith) c.loop-place.invariant.inside w.if-byte-eq44.false
        (ap (λ list. list.items) w.list-is) w.start-is c.loop-place.invariant.cut;
  }
]
