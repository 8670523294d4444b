use Rattle.std.proofs.Common.{ap, length, subst, sym, ◌∙◌, arith}
use Rattle.league_core.specs.game.ClubSets.{clubs_in}
use Rattle.tie_criteria.specs.declared.triple.Triple.{Triple}
use Rattle.tie_criteria.specs.inside.Records.{record_at}
use Rattle.tie_criteria.proofs.RecordLemmas.{IsSoFar, so_far_none, so_far_more, so_far_read}
use Rattle.tie_criteria.proofs.RecordLemmas.{room_for_more}
use Rattle.tie_criteria.proofs.records.add_all.Goals as goal

pub loop-i-init : goal.loop-i-init
loop-i-init c = λ club within.
    let fixtures = c.as_slice-fixtures.result.now in
    let scores = c.scores-scores.result.now in
    let P : Triple → Type 0 = λ t. IsSoFar fixtures scores (clubs_in c.args.group) 0 club t in
    subst P (sym (c.requires.none club)) (so_far_none fixtures scores (clubs_in c.args.group) club)

pub add_if_counted-requires-clause-room : goal.add_if_counted-requires-clause-room
add_if_counted-requires-clause-room c = λ club within.
    let matches = ap length c.as_slice-fixtures.ensures in
    room_for_more c.loop-i.i (record_at c.loop-i.found club) (omega arith)
    (c.loop-i.invariant club (omega arith)).bounded

pub loop-i-preserved : goal.loop-i-preserved
loop-i-preserved c = λ club within.
    let matches = ap length c.as_slice-fixtures.ensures in
    let played = ap length c.scores-scores.ensures.scores in
    so_far_more c.as_slice-fixtures.result.now c.scores-scores.result.now
    (clubs_in c.args.group) c.loop-i.i club (record { home = 0; away = 0 })
    (record_at c.loop-i.found club) (record_at c.add_if_counted.new.found club) (omega arith)
    (omega arith) (c.loop-i.invariant club within) (c.add_if_counted.ensures club (omega arith))

pub returns : goal.returns
returns c = record {
  clubs = c.loop-i.auto.found ∙ c.requires.clubs;
  each = λ club within.
      so_far_read c.args.sheet.now c.args.season.now c.as_slice-fixtures.result.now
      c.scores-scores.result.now (clubs_in c.args.group) c.loop-i.i club
      (record_at c.loop-i.found club) c.as_slice-fixtures.ensures c.scores-scores.ensures.scores
      c.loop-i-test.false (c.loop-i.invariant club within);
}
