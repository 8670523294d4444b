-- The next match is held, or it adds nothing.
use Rattle.std.proofs.Common.{◌+◌, ℕ, List, get_or, length, refl, sym}
use Rattle.std.proofs.Common.{ap, ◌∙◌, arith}
use Rattle.std.proofs.lemmas.List.{take_all}
use Rattle.std.proofs.lemmas.List.Sums.{sum_by_more}
use Rattle.league_core.specs.game.Results.{Results}
use Rattle.league_core.specs.declared.sheet.Sheet.{Sheet}
use Rattle.score_box.proofs.SplitLemmas.{unplayed_few, open_fixture}
use Rattle.flow_bound.specs.inside.Fixtures.{sum_at}
use Rattle.flow_bound.proofs.MeetingLemmas.{counted_at, sum_of_open}
use Rattle.flow_bound.proofs.meetings.hold_meetings.Goals as goal

pub loop-i-init : goal.loop-i-init
loop-i-init c = record {
  many = omega arith;
  long = c.requires.room;
  in_range = λ k d within. absurd (omega arith);
  sums = λ test within. refl;
}

pub hold_if-count-requires-clause-in_range : goal.hold_if-count-requires-clause-in_range
hold_if-count-requires-clause-in_range c =
    open_fixture c.args.zone_box.now.season.scores c.unplayed-unplayed.result.now c.loop-i.i 0
    c.unplayed-unplayed.ensures c.loop-i-test.true

pub hold_if-count-requires-clause-room : goal.hold_if-count-requires-clause-room
hold_if-count-requires-clause-room c =
    omega (
      arith,
      c.loop-i.invariant.many,
      c.loop-i.invariant.long,
      c.loop-i-test.true,
      ap length c.unplayed-unplayed.ensures,
      unplayed_few c.args.zone_box.now.season.scores,
      ap (λ (s : Sheet). length s.fixtures) c.sheet-sheet.ensures.sheet,
      ap (λ (s : Results). length s.scores) c.season-season.ensures.season,
      c.season-season.ensures.of_sheet.scores,
      c.sheet-sheet.ensures.limits.most_fixtures,
    )

pub loop-i-preserved : goal.loop-i-preserved
loop-i-preserved c =
    let box = c.args.zone_box.now in
    let low = open_fixture box.season.scores c.unplayed-unplayed.result.now c.loop-i.i 0
    c.unplayed-unplayed.ensures c.loop-i-test.true in
    record {
      many = omega (arith, c.loop-i.invariant.many, c.hold_if-count.ensures.many);
      long = c.hold_if-count.auto.held ∙ c.loop-i.invariant.long;
      in_range = c.hold_if-count.ensures.in_range (length box.season.scores) low
          c.loop-i.invariant.in_range;
      sums = λ test within.
          c.hold_if-count.ensures.sums test within
          ∙ ap (λ n. n + counted_at test c.args.cut box
          (get_or c.unplayed-unplayed.result.now c.loop-i.i 0))
          (c.loop-i.invariant.sums test within)
          ∙ sym (sum_by_more (counted_at test c.args.cut box) c.unplayed-unplayed.result.now
          c.loop-i.i 0 c.loop-i-test.true);
    }

pub returns-clause-many : goal.returns-clause-many
returns-clause-many c =
    omega (
      arith,
      c.loop-i.invariant.many,
      c.loop-i.auto.i-end,
      ap length c.unplayed-unplayed.ensures,
      unplayed_few c.args.zone_box.now.season.scores,
      ap (λ (s : Sheet). length s.fixtures) c.sheet-sheet.ensures.sheet,
      ap (λ (s : Results). length s.scores) c.season-season.ensures.season,
      c.season-season.ensures.of_sheet.scores,
      c.sheet-sheet.ensures.limits.most_fixtures,
    )

pub returns-clause-sums : goal.returns-clause-sums
returns-clause-sums c = λ test within.
    let box = c.args.zone_box.now in
    c.loop-i.invariant.sums test within
    ∙ ap (λ (ns : List ℕ). sum_at test c.args.cut box ns)
    (take_all c.loop-i.i c.unplayed-unplayed.result.now c.loop-i-test.false
    ∙ c.unplayed-unplayed.ensures)
    ∙ sum_of_open test c.args.cut box
