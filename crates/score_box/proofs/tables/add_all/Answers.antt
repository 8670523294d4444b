use Rattle.std.proofs.Common.{[], ◌∷◌, ◌*◌, arith, ◌∙◌}
use Rattle.league_core.specs.game.Sums.{worth_to, worth_among}
use Rattle.score_box.specs.inside.Totals.{totals_at, pair_place}
use Rattle.score_box.proofs.TotalLemmas.{so_far_none, so_far_more, so_far_all, near_wider}
use Rattle.score_box.proofs.tables.add_all.Goals as goal

pub loop-i-init : goal.loop-i-init
loop-i-init c = (
  λ club within. so_far_none (λ worth. worth_to worth club) c.args.fixtures.now c.args.scores.now
      (totals_at c.args.clubs.now club) (c.requires.no_club club),
  λ club rival within against. so_far_none (λ worth. worth_among (club ∷ rival ∷ []) worth club)
      c.args.fixtures.now c.args.scores.now (totals_at c.args.pairs.now (pair_place club rival))
      (c.requires.no_pair (pair_place club rival)),
)

pub add_if_played-requires-clause-room_clubs : goal.add_if_played-requires-clause-room_clubs
add_if_played-requires-clause-room_clubs c = λ club within.
    near_wider (255 * c.loop-i.i) 1000000 (totals_at c.loop-i.clubs club) (omega arith)
    (c.loop-i.invariant.0 club within).near

pub add_if_played-requires-clause-room_pairs : goal.add_if_played-requires-clause-room_pairs
add_if_played-requires-clause-room_pairs c = λ club rival within against.
    near_wider (255 * c.loop-i.i) 1000000 (totals_at c.loop-i.pairs (pair_place club rival))
    (omega arith) (c.loop-i.invariant.1 club rival within against).near

pub loop-i-preserved : goal.loop-i-preserved
loop-i-preserved c = (
  λ club within. so_far_more (λ worth. worth_to worth club) c.args.fixtures.now c.args.scores.now
      c.loop-i.i _ _ (totals_at c.loop-i.clubs club) (totals_at c.add_if_played.new.clubs club)
      (omega arith) (omega arith) (c.loop-i.invariant.0 club within)
      (c.add_if_played.ensures.clubs club within),
  λ club rival within against.
      so_far_more (λ worth. worth_among (club ∷ rival ∷ []) worth club) c.args.fixtures.now
      c.args.scores.now c.loop-i.i _ _ (totals_at c.loop-i.pairs (pair_place club rival))
      (totals_at c.add_if_played.new.pairs (pair_place club rival)) (omega arith) (omega arith)
      (c.loop-i.invariant.1 club rival within against)
      (c.add_if_played.ensures.pairs club rival within against),
)

pub returns : goal.returns
returns c = record {
  many_clubs = c.loop-i.auto.clubs ∙ c.requires.clubs;
  many_pairs = c.loop-i.auto.pairs ∙ c.requires.pairs;
  each_club = λ club within. so_far_all (λ worth. worth_to worth club) c.args.fixtures.now
      c.args.scores.now c.loop-i.i (totals_at c.loop-i.clubs club) c.loop-i-test.false
      (c.loop-i.invariant.0 club within);
  each_pair = λ club rival within against.
      so_far_all (λ worth. worth_among (club ∷ rival ∷ []) worth club) c.args.fixtures.now
      c.args.scores.now c.loop-i.i (totals_at c.loop-i.pairs (pair_place club rival))
      c.loop-i-test.false (c.loop-i.invariant.1 club rival within against);
  near_clubs = λ club within. near_wider (255 * c.loop-i.i) 153000 (totals_at c.loop-i.clubs club)
      (omega arith) (c.loop-i.invariant.0 club within).near;
  near_pairs = λ club rival within against. near_wider (255 * c.loop-i.i) 153000
      (totals_at c.loop-i.pairs (pair_place club rival)) (omega arith)
      (c.loop-i.invariant.1 club rival within against).near;
}
