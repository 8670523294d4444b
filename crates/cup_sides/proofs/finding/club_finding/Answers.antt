use Rattle.cup_sides.proofs.ClubFindingLemmas.{clinched_if_refuted}
use Rattle.cup_sides.proofs.finding.club_finding.Goals as goal

pub returns-in-Refuted : goal.returns-in-Refuted
returns-in-Refuted c =
    let known = rw c.in-Refuted.is at c.in_ok-found.ensures in
    clinched_if_refuted c.args.cup.now c.args.seasons.now c.args.club c.requires.cup
    c.have_results.ensures c.in-Refuted.found known
