use Rattle.std.proofs.Common.{◌∙◌, refl}
use Rattle.cup_turns.proofs.session.run_rounds.Goals as goal

pub rounds-init : goal.rounds-init
rounds-init g c = record {
  read = c.requires.read;
  way = λ input ended old path. path;
  come = λ first come. come;
  reads = refl;
  writes = refl;
}

pub rounds-preserved : goal.rounds-preserved
rounds-preserved g c =
    let before = c.rounds.invariant in
    let turn = c.in-None.ensures in
    record {
      read = turn.read;
      way = λ input ended old path. turn.way input ended old (before.way input ended old path);
      come = λ first come. turn.last first (before.come first come);
      reads = turn.counts.0 ∙ before.reads;
      writes = turn.counts.1 ∙ before.writes;
    }

pub returns-in-Some-clause-serves : goal.returns-in-Some-clause-serves
returns-in-Some-clause-serves g c = λ input ended old path.
    c.in-Some.ensures.way input ended old (c.rounds.invariant.way input ended old path)

pub returns-in-Some-clause-last : goal.returns-in-Some-clause-last
returns-in-Some-clause-last g c = λ first come.
    c.in-Some.ensures.last first (c.rounds.invariant.come first come)

pub returns-in-Some-clause-counts : goal.returns-in-Some-clause-counts
returns-in-Some-clause-counts g c =
    rw c.rounds.invariant.reads at (rw c.rounds.invariant.writes at c.in-Some.ensures.counts.0)
