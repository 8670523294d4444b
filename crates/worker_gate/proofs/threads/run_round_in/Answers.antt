-- If the round does not begin, nothing was passed and nothing was read.
use Rattle.std.proofs.Common.{inl, refl}
use Rattle.result_log.specs.inside.Rounds.{live_entry}
use Rattle.result_log.proofs.LiveLemmas.{goes-nowhere}
use Rattle.worker_gate.proofs.threads.run_round_in.Goals as goal
use Rattle.league_core.proofs.plain.Options.{err-holds}

pub returns-in_err-lock-clause-err : goal.returns-in_err-lock-clause-err
returns-in_err-lock-clause-err g c =
    err-holds c.from_residual.result _ (
      c.args.start.pool.log,
      goes-nowhere (live_entry c.args.start.pool.sheet)
          c.args.start.pool.log _,
    )

pub returns-in_err-lock-clause-err_last : goal.returns-in_err-lock-clause-err_last
returns-in_err-lock-clause-err_last g c = err-holds c.from_residual.result _ (inl (refl, refl))
