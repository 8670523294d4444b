use Rattle.std.proofs.Common.{[]}
use Rattle.cert_text.proofs.TreeRangeLemmas.{plain_lines_in_range, marked_lines_in_range}
use Rattle.cert_text.proofs.ProperLemmas.{proper_tests}
use Rattle.cert_text.proofs.ExampleRangeLemmas.{example_in_range}
use Rattle.cert_text.proofs.laws.lines_are_in_range.Goals as goal

pub returns-clause-tests : goal.returns-clause-tests
returns-clause-tests c sheet season question tree league results proper =
    proper_tests sheet season question tree [] league results proper

pub returns-clause-refutations : goal.returns-clause-refutations
returns-clause-refutations c sheet season question tree is =
    plain_lines_in_range sheet season question tree is.tests is.reasons

pub returns-clause-spent : goal.returns-clause-spent
returns-clause-spent c sheet season question budget tree is =
    marked_lines_in_range sheet season question tree is.tests is.reasons

pub returns-clause-examples : goal.returns-clause-examples
returns-clause-examples c sheet season question finish lots league results is =
    example_in_range sheet season question finish lots league results is
