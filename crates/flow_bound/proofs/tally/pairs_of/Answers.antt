-- The next match gives its pair, if both its clubs are in the set.
use Rattle.std.proofs.Common.{◌≡◌, ℕ, ◌<◌, ◌≤◌, cond, List, get_or, length, subst, sym, ap}
use Rattle.std.proofs.Common.{◌∙◌, arith}
use Rattle.std.proofs.lemmas.List.{take_all}
use Rattle.std.proofs.lemmas.List.Sums.{sum_by_more}
use Rattle.league_core.specs.game.Results.{Results}
use Rattle.league_core.specs.declared.sheet.Sheet.{Sheet}
use Rattle.score_box.proofs.SplitLemmas.{unplayed_few, open_fixture}
use Rattle.flow_bound.specs.declared.tally.Pair.{Pair}
use Rattle.flow_bound.specs.inside.Fixtures.{pair_at, pairs_in}
use Rattle.flow_bound.specs.inside.Parts.{has_both, sum_of_pairs}
use Rattle.flow_bound.proofs.PairsLemmas.{length-pairs_in, pairs_in-at}
use Rattle.flow_bound.proofs.PartLemmas.{ArePairs-more}
use Rattle.flow_bound.proofs.tally.pairs_of.Goals as goal

pub push_pair-requires-clause-in_range : goal.push_pair-requires-clause-in_range
push_pair-requires-clause-in_range c =
    open_fixture c.args.zone_box.now.season.scores c.unplayed-unplayed.result.now c.loop-i.i 0
    c.unplayed-unplayed.ensures c.loop-i-test.true

pub loop-i-preserved : goal.loop-i-preserved
loop-i-preserved c = record {
  sums = λ side part.
      let box = c.args.zone_box.now in
      let cut = c.args.cut in
      let pairs = pairs_in cut box in
      let i = c.loop-i.i in
      let blank : Pair = record { home = 0; away = 0; surplus = 0 } in
      let many = ap length c.unplayed-unplayed.ensures in
      let within : i < length pairs =
      omega (arith, many, length-pairs_in cut box, c.loop-i-test.true) in
      let is = pairs_in-at cut box i 0 blank (omega (arith, many, c.loop-i-test.true))
      ∙ ap (λ (ns : List ℕ). pair_at cut box (get_or ns i 0))
      (sym c.unplayed-unplayed.ensures) in
      let counted = λ (p : Pair). cond (has_both side p) p.surplus 0 in
      let more = sum_by_more counted pairs i blank within in
      omega (
        arith,
        ap counted is,
        more,
        c.in_ok-push_pair.ensures.sums side part,
        c.loop-i.invariant.sums side part,
      );
  pairs = c.in_ok-push_pair.ensures.pairs c.loop-i.i c.loop-i.invariant.pairs;
}

pub returns-clause-sums : goal.returns-clause-sums
returns-clause-sums c side part =
    let pairs = pairs_in c.args.cut c.args.zone_box.now in
    let past : length pairs ≤ c.loop-i.i = omega (
      arith,
      ap length c.unplayed-unplayed.ensures,
      length-pairs_in c.args.cut c.args.zone_box.now,
      c.loop-i-test.false,
    ) in
    subst (λ (ps : List Pair). sum_of_pairs (has_both side) c.loop-i.pairs.items
    ≡ sum_of_pairs (has_both side) ps) (take_all c.loop-i.i pairs past)
    (c.loop-i.invariant.sums side part)

pub returns-clause-pairs : goal.returns-clause-pairs
returns-clause-pairs c =
    ArePairs-more c.loop-i.i 600 c.loop-i.pairs.items (omega (
      arith,
      c.loop-i.auto.i-end,
      ap length c.unplayed-unplayed.ensures,
      unplayed_few c.args.zone_box.now.season.scores,
      ap (λ (s : Sheet). length s.fixtures) c.sheet-sheet.ensures.sheet,
      ap (λ (s : Results). length s.scores) c.season-season.ensures.season,
      c.season-season.ensures.of_sheet.scores,
      c.sheet-sheet.ensures.limits.most_fixtures,
    )) c.loop-i.invariant.pairs
