use Rattle.worker_gate.proofs.idle_source.await_next.Given as goal

-- the borrow is that of the source at hand
abbrev pub ghosts-next_as : goal.ghosts-next_as
ghosts-next_as g a = record { name = a.source.ghost_name }
