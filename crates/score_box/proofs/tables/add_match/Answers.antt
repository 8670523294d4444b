-- The row of the match alone is what it is worth to a side.
use Rattle.std.proofs.Common.{arith}
use Rattle.score_box.specs.inside.Totals.{no_totals, totals_at, pair_place}
use Rattle.score_box.proofs.TotalLemmas.{near_none, near_wider, pair_grows}
use Rattle.score_box.proofs.tables.add_match.Goals as goal

pub plus-at_home-requires : goal.plus-at_home-requires
plus-at_home-requires c = near_wider 0 1000000 no_totals (omega arith) near_none

pub plus-on_tour-requires : goal.plus-on_tour-requires
plus-on_tour-requires c = near_wider 0 1000000 no_totals (omega arith) near_none

pub add-requires-clause-near_home : goal.add-requires-clause-near_home
add-requires-clause-near_home c = c.plus-at_home.ensures.near 0 near_none

pub add-requires-clause-near_away : goal.add-requires-clause-near_away
add-requires-clause-near_away c = c.plus-on_tour.ensures.near 0 near_none

pub add-requires-2-clause-near_home : goal.add-requires-2-clause-near_home
add-requires-2-clause-near_home c = c.plus-at_home.ensures.near 0 near_none

pub add-requires-2-clause-near_away : goal.add-requires-2-clause-near_away
add-requires-2-clause-near_away c = c.plus-on_tour.ensures.near 0 near_none

pub returns : goal.returns
returns c = record {
  clubs = λ club within.
      c.add.ensures c.args.score c.plus-at_home.ensures c.plus-on_tour.ensures club;
  pairs = λ club rival within against. pair_grows c.args.fixture c.args.score club rival
      (totals_at c.args.pairs.now (pair_place club rival))
      (totals_at c.add-2.new.table (pair_place club rival)) c.requires.fixture.home
      c.requires.fixture.away c.requires.fixture.apart within against
      (c.add-2.ensures c.args.score c.plus-at_home.ensures c.plus-on_tour.ensures
      (pair_place club rival));
}
