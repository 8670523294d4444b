use Rattle.std.proofs.Common.{ap, arith, length}
use Rattle.cup_sheet.specs.Cups.{clubs_of_groups, clubs_together}
use Rattle.cup_sheet.specs.CupFeeds.{fixtures_from}
use Rattle.cup_feed.proofs.FeedLemmas.{length-clubs_of_groups, length-fixtures_from, cup_clubs}
use Rattle.cup_feed.proofs.FeedLemmas.{cup_fixtures}
use Rattle.cup_feed.proofs.joint.joint_sheet.Goals as goal

pub joint_fixtures-requires-clause-few : goal.joint_fixtures-requires-clause-few
joint_fixtures-requires-clause-few c = omega (
  arith,
  cup_clubs c.args.cup.now c.requires,
  ap clubs_together c.as_slice-groups.ensures,
)

pub returns-clause-clubs : goal.returns-clause-clubs
returns-clause-clubs c = omega (
  arith,
  ap length c.in_ok-clubs.ensures,
  ap (λ groups. length (clubs_of_groups groups)) c.as_slice-groups.ensures,
  length-clubs_of_groups c.args.cup.now.groups,
  cup_clubs c.args.cup.now c.requires,
)

pub returns-clause-fixtures : goal.returns-clause-fixtures
returns-clause-fixtures c = omega (
  arith,
  ap length c.in_ok-fixtures.ensures,
  ap (λ groups. length (fixtures_from 0 groups)) c.as_slice-groups.ensures,
  length-fixtures_from 0 c.args.cup.now.groups,
  cup_fixtures c.args.cup.now c.requires,
)
