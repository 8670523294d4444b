use Rattle.std.proofs.Common.{length, ap}
use Rattle.std.specs.Map.Iter.{TakesFirst}
use Rattle.std.proofs.iter.runs.Sources.{from_front, as_is}
use Rattle.league_core.proofs.club_set.ClubSet.clubs.Goals as goal

pub returns-clause-runs : goal.returns-clause-runs
returns-clause-runs c = λ run begins.
    as_is run run.from
    (from_front (TakesFirst (λ club. club)) (λ club. club) (λ clubs. clubs)
    (λ old new none. ap length none.0) (λ old club new next. next) run begins)
