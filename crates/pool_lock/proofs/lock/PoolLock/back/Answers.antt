use Rattle.pool_lock.proofs.lock.PoolLock.back.Goals as goal

-- what is handed on is true of the piece, as what was done is
pub give-requires : goal.give-requires
give-requires g c =
    record { sound = c.fitting-finding.ensures.sound g.J.Job.sheet c.requires.sound }
