use Rattle.std.proofs.Common.{ap, ◌∙◌, false, true}
use Rattle.league_core.specs.search.PointRanges.{range_of}
use Rattle.league_core.proofs.FixtureLemmas.{clubs_apart}
use Rattle.check_bounds.specs.inside.Terms.{side_worth}
use Rattle.check_bounds.proofs.TableLemmas.{match_adds, match_near}
use Rattle.check_bounds.proofs.table.add_match.Goals as goal

pub returns : goal.returns
returns c = record {
  long = c.add-2.ensures.long ∙ c.add.ensures.long;
  sums = λ club.
      match_adds c.args.kind c.args.fixture c.args.corners.now
      c.args.table.now c.add.new.table c.add-2.new.table c.look_range.result
      c.look_range-2.result
      (clubs_apart 24 c.args.fixture c.requires.team)
      (c.look_range.ensures.range
      ∙ ap (range_of (side_worth c.args.kind false)) c.as_slice-scores.ensures)
      (c.look_range-2.ensures.range
      ∙ ap (range_of (side_worth c.args.kind true)) c.as_slice-scores.ensures)
      c.add.ensures.own c.add.ensures.others c.add-2.ensures.own
      c.add-2.ensures.others club;
  near = λ bound all.
      match_near bound c.args.fixture c.args.table.now c.add.new.table c.add-2.new.table
      (clubs_apart 24 c.args.fixture c.requires.team) all (c.add.ensures.grows bound)
      c.add.ensures.others (c.add-2.ensures.grows bound) c.add-2.ensures.others;
}
