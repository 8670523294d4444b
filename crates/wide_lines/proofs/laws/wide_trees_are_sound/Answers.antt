use Rattle.wide_lines.proofs.WideTreeLemmas.{refutation_is_sound, refutation_is_wide}
use Rattle.wide_lines.proofs.WideTreeLemmas.{spent_is_wide}
use Rattle.wide_lines.proofs.WideRangeLemmas.{refutation_in_range, spent_in_range}
use Rattle.wide_lines.proofs.laws.wide_trees_are_sound.Goals as goal

pub returns-clause-sound : goal.returns-clause-sound
returns-clause-sound c = refutation_is_sound

pub returns-clause-refutations : goal.returns-clause-refutations
returns-clause-refutations c = refutation_is_wide

pub returns-clause-spent : goal.returns-clause-spent
returns-clause-spent c = spent_is_wide

pub returns-clause-refutation_lines : goal.returns-clause-refutation_lines
returns-clause-refutation_lines c = refutation_in_range

pub returns-clause-spent_lines : goal.returns-clause-spent_lines
returns-clause-spent_lines c = spent_in_range
