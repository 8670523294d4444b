use Rattle.shared_tests.proofs.reports.reports_or_stays.Given as goal

-- the ledger is that of its blank
abbrev pub ghosts-reported_as-J-Ledger : goal.ghosts-reported_as-J-Ledger
ghosts-reported_as-J-Ledger g a = record { name = a.blank.name; parts = a.blank.parts }

-- its word, sheet and questions are those at hand
abbrev pub ghosts-reported_as-J-Job : goal.ghosts-reported_as-J-Job
ghosts-reported_as-J-Job g a = record {
  table = a.seated.word;
  sheet = a.pool.sheet;
  questions = a.pool.questions;
}
