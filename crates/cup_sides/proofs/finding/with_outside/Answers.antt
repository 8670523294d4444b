use Rattle.std.proofs.Common.{sym, subst}
use Rattle.runners_up.specs.declared.finding.ClubFinding.{ClubFinding}
use Rattle.runners_up.specs.inside.ClubFindings.{IsClubFinding}
use Rattle.cup_sides.proofs.ClubFindingLemmas.{verdict_is}
use Rattle.cup_sides.proofs.finding.with_outside.Goals as goal

pub returns : goal.returns
returns c =
    let cup = c.args.cup.now in
    let seasons = c.args.seasons.now in
    subst (λ (it : ClubFinding). IsClubFinding cup seasons c.args.club it)
    (sym c.finding_with.ensures)
    (verdict_is cup seasons c.args.club c.requires.cup c.have_results.ensures c.in_ok-inside.inside
    c.args.outside c.in_ok-inside.ensures c.requires.outside)
