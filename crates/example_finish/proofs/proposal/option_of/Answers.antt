use Rattle.example_finish.proofs.ProposedLemmas.{option_is_there}
use Rattle.example_finish.proofs.proposal.option_of.Goals as goal

pub unwrap-requires : goal.unwrap-requires
unwrap-requires c =
    option_is_there c.args.zone_box.now.sheet c.args.zone_box.now.season c.args.zone_box.now.zone
    c.args.fixture c.has.result c.has-2.result c.first_option.result c.requires.has_finish
    c.requires.in_range (c.first_option.ensures _ c.cell-cell.ensures)
