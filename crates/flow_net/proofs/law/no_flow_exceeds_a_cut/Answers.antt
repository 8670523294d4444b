use Rattle.flow_net.proofs.DualityLemmas.{no_flow_exceeds_a_cut}
use Rattle.flow_net.proofs.law.no_flow_exceeds_a_cut.Goals as goal

pub returns : goal.returns
returns c = no_flow_exceeds_a_cut
