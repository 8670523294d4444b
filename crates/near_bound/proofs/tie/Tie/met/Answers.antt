use Rattle.near_bound.proofs.MeetingLemmas.{rival_meets}
use Rattle.near_bound.proofs.tie.Tie.met.Goals as goal

pub returns : goal.returns
returns c =
    rival_meets c.args.self.now c.args.club c.args.rival c.args.fixture c.args.apart
    c.with_if.result c.lacks_both-lacks.result c.requires.tie c.requires.of_sheet c.requires.sides
    c.lacks_both-lacks.ensures c.with_if.ensures
