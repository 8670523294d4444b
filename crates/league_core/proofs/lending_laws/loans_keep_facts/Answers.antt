use Rattle.std.proofs.Common.{IsTrue}
use Rattle.league_core.proofs.NodeFactLemmas.{NodesMeet-put, NodesMeet-lend, NodesMeet-lent}
use Rattle.league_core.proofs.NodeFactLemmas.{NodesMeet-all_opened}
use Rattle.league_core.proofs.lending_laws.loans_keep_facts.Goals as goal

pub returns-clause-put : goal.returns-clause-put
returns-clause-put c = λ fact. NodesMeet-put (λ z node. IsTrue (fact z node))

pub returns-clause-lend : goal.returns-clause-lend
returns-clause-lend c = λ fact. NodesMeet-lend (λ z node. IsTrue (fact z node))

pub returns-clause-lent : goal.returns-clause-lent
returns-clause-lent c = λ fact. NodesMeet-lent (λ z node. IsTrue (fact z node))

pub returns-clause-opened : goal.returns-clause-opened
returns-clause-opened c = λ fact. NodesMeet-all_opened (λ z node. IsTrue (fact z node))
