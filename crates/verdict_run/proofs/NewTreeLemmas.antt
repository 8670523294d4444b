-- What comes in the place of a leaf is new.
use Rattle.std.proofs.Common.{◌≡◌, true, refl, Option, Some, None}
use Rattle.reason_core.specs.declared.finding.Finding.{Finding}
use Rattle.reason_core.specs.declared.finding.Finding.TheVariants.{Refuted, Split, Won}
use Rattle.branch_pool.specs.inside.Steps.{leaf_after}
use Rattle.answer_rows.specs.NewTrees.{is_all_new}

-- whatever was found
pub leaf_is_new : (finding : Option Finding) → is_all_new (leaf_after finding) ≡ true
leaf_is_new (Some (Refuted reason)) = refl
leaf_is_new (Some (Split literal)) = refl
leaf_is_new (Some (Won finish lots)) = refl
leaf_is_new None = refl
