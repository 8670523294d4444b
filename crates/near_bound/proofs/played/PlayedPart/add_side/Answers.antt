use Rattle.std.proofs.Common.{arith}
use Rattle.near_bound.proofs.MarginLemmas.{margin_wider}
use Rattle.near_bound.proofs.played.PlayedPart.add_side.Goals as goal

pub plus-pair-requires-clause-other_near : goal.plus-pair-requires-clause-other_near
plus-pair-requires-clause-other_near c =
    margin_wider 255 100000000 c.args.worth.now (omega arith) c.requires.worth_near
