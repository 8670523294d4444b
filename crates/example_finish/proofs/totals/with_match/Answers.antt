use Rattle.example_finish.proofs.ProposedTotalLemmas.{grown_by_match}
use Rattle.example_finish.proofs.totals.with_match.Goals as goal

pub returns : goal.returns
returns c =
    grown_by_match c.args.totals.now c.plus.result c.with.result c.args.scored c.args.conceded
    c.args.away c.plus.ensures c.with.ensures
