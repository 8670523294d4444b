use Rattle.worker_gate.proofs.threads.run_round.Given as goal

-- the round's ledger is that of its blank
abbrev pub ghosts-run_round_in-J-Ledger : goal.ghosts-run_round_in-J-Ledger
ghosts-run_round_in-J-Ledger g a = record {
  name = a.start.blank.name;
  parts = a.start.blank.parts;
}

-- its word, sheet and questions are those at hand
abbrev pub ghosts-run_round_in-J-Job : goal.ghosts-run_round_in-J-Job
ghosts-run_round_in-J-Job g a = record {
  table = a.start.word;
  sheet = a.start.pool.sheet;
  questions = a.start.pool.questions;
}
