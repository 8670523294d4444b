-- The fixtures before this one in the list have taken the first of their options.
use Rattle.example_finish.proofs.ProposedLemmas.{HaveTaken}
use Rattle.example_finish.proofs.proposal.take_options.Given as goal

abbrev pub invariant-loop-i : goal.invariant-loop-i
invariant-loop-i l =
    HaveTaken l.wishes l.zone_box.sheet l.zone_box.season l.zone_box.zone l.season l.i
