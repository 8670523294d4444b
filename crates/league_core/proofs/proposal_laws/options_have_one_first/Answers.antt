use Rattle.league_core.proofs.ProposalLemmas.{first_option-same, first_option_is, first_option_of}
use Rattle.league_core.proofs.ProposalLemmas.{is_some-first_option}
use Rattle.league_core.proofs.proposal_laws.options_have_one_first.Goals as goal

pub returns-clause-some : goal.returns-clause-some
returns-clause-some c = is_some-first_option

pub returns-clause-first : goal.returns-clause-first
returns-clause-first c home away options score =
    (first_option_is home away options score, first_option_of home away options score)

pub returns-clause-set : goal.returns-clause-set
returns-clause-set c = first_option-same
