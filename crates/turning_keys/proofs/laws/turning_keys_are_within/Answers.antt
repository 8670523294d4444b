use Rattle.turning_keys.proofs.HalfwayKeyLemmas.{turning_keys_near, halfway_keys_near}
use Rattle.turning_keys.proofs.laws.turning_keys_are_within.Goals as goal

pub returns-clause-turning : goal.returns-clause-turning
returns-clause-turning c =
    λ sheet season claim club turning limits results is.
    turning_keys_near sheet season claim club turning limits results is

pub returns-clause-halfway : goal.returns-clause-halfway
returns-clause-halfway c =
    λ sheet season claim club turning key limits results is halfway.
    halfway_keys_near sheet season claim club turning key limits results is halfway
