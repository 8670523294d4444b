use Rattle.std.proofs.Common.{◌<◌, arith, length, refl, ◌∙◌}
use Rattle.std.proofs.lemmas.List.{drop_more}
use Rattle.par_check.proofs.AsksOfLemmas.{asks_none}
use Rattle.par_check.proofs.feed_asks.asks_of.Goals as goal

pub loop-entry-init : goal.loop-entry-init
loop-entry-init c = (
  asks_none c.args.sheet.now c.args.entries.now c.new.result.items c.new-2.result.items
      c.new.ensures.items c.new-2.ensures.items,
  refl,
)

pub loop-entry-preserved : goal.loop-entry-preserved
loop-entry-preserved c =
    let entries = c.args.entries.now in
    let at = c.loop-entry.entry-index in
    let within : at < length entries = omega (arith, c.loop-entry-test.true) in (
      c.in_ok-add_entry.ensures.takes c.args.sheet.now entries at
          c.loop-entry.invariant.0 (drop_more entries at _ within)
          (c.requires.entries at _ within),
      c.in_ok-add_entry.ensures.kind ∙ c.loop-entry.invariant.1,
    )
