use Rattle.std.proofs.Common.{◌+◌, ◌-◌}
use Rattle.league_core.specs.game.Finishes.{IsFinishOf}
use Rattle.reference_programs.specs.inside.Walks.{count_of_finishes, number_in}
use Rattle.reference_programs.specs.inside.Reaches.{AreReachesOver, IsBefore}
use Rattle.reference_programs.proofs.walk.reaches.Given as goal

-- the reaches over the finishes up to this one
abbrev pub invariant-finishes : goal.invariant-finishes
invariant-finishes l = record {
  is_finish : IsFinishOf l.sheet l.season l.finish;
  reaches : AreReachesOver (IsBefore l.sheet l.season (number_in l.sheet l.season l.finish + 1))
      l.sheet l.found.items;
}

abbrev pub decreases-finishes : goal.decreases-finishes
decreases-finishes l = count_of_finishes l.sheet l.season - number_in l.sheet l.season l.finish
