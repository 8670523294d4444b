use Rattle.std.proofs.Common.{◌≡◌, ◌∙◌, ◌<◌, ◌+◌, ap, arith, subst, sym}
use Rattle.std.specs.List.{range_with_len}
use Rattle.cup_sheet.specs.Cups.{clubs_together}
use Rattle.futmax_main.proofs.FoundClubLemmas.{AreFoundBefore, found-next}
use Rattle.futmax_main.proofs.groups.find_clubs.Goals as goal

-- src/groups.rt:53:1
pub returns : goal.returns
returns c =
    let all : c.loop-club.club ≡ clubs_together c.args.cup.now.groups =
    omega (
      arith,
      c.loop-club-test.false,
      c.loop-club.auto.club-end,
      c.club_count-club-end.ensures,
    ) in
    record {
      clubs = c.loop-club.invariant.clubs ∙ ap (range_with_len 0) all;
      each = c.loop-club.invariant.each;
    }

-- src/groups.rt:59:5
pub loop-club-preserved : goal.loop-club-preserved
loop-club-preserved c =
    let in_range : c.loop-club.club < clubs_together c.args.cup.now.groups =
    omega (arith, c.loop-club-test.true, c.club_count-club-end.ensures) in
    subst (AreFoundBefore c.args.cup.now c.args.seasons.now (c.loop-club.club + 1))
    (sym c.in_ok-push.ensures.items)
    (found-next c.args.cup.now c.args.seasons.now c.loop-club.club c.loop-club.clubs.items
    c.in_ok-finding.finding in_range c.loop-club.invariant c.in_ok-finding.ensures)
