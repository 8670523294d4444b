use Rattle.near_box.proofs.side.Side.seen.Goals as goal

pub barred_among-near-requires-clause-table : goal.barred_among-near-requires-clause-table
barred_among-near-requires-clause-table c =
    c.clear.ensures c.of-level.result.tie c.of-level.result.rivals c.of-level.result.club
