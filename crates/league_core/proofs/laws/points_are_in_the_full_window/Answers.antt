use Rattle.league_core.proofs.PointsLemmas.{points_in_full_window, results-deductions}
use Rattle.league_core.proofs.laws.points_are_in_the_full_window.Goals as goal

pub returns : goal.returns
returns c sheet season club line claim limits results =
    points_in_full_window sheet season club line claim limits (results-deductions season results)
