use Rattle.std.proofs.Common.{arith}
use Rattle.std.proofs.lemmas.Grind.{common_steps}
use Rattle.cert_text.proofs.values.clubs_value.Goals as goal

pub loop-club-preserved : goal.loop-club-preserved
loop-club-preserved c = grind (arith, common_steps)
