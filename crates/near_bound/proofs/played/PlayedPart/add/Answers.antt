use Rattle.std.proofs.Common.{◌*◌, arith}
use Rattle.near_bound.specs.inside.PlayedParts.{club_margin, margin_listed}
use Rattle.near_bound.proofs.MarginLemmas.{margin_wider}
use Rattle.near_bound.proofs.PlayedLemmas.{side_near}
use Rattle.near_bound.proofs.PlayedMatchLemmas.{adds_match}
use Rattle.near_bound.proofs.played.PlayedPart.add.Goals as goal

pub add_side-requires-clause-near : goal.add_side-requires-clause-near
add_side-requires-clause-near c = record {
  clubs = λ club.
      margin_wider (255 * 600) (255 * 601) (club_margin c.args.self.now club) (omega arith)
      (c.requires.near.clubs club);
  pairs = λ place.
      margin_wider (255 * 600) (255 * 601) (margin_listed c.args.self.now.pairs place)
      (omega arith) (c.requires.near.pairs place);
}

pub add_side-requires-2-clause-near : goal.add_side-requires-2-clause-near
add_side-requires-2-clause-near c =
    side_near c.args.sides.home c.args.sides.away 600 c.worth_of_side-home.result c.args.self.now
    c.add_side.new.self c.add_side.ensures c.worth_of_side-home.ensures.near c.requires.near

pub returns : goal.returns
returns c =
    adds_match c.args.sides c.args.score c.worth_of_side-home.result c.worth_of_side-away.result
    c.args.self.now c.add_side.new.self c.add_side-2.new.self c.requires.sides
    c.worth_of_side-home.ensures.value c.worth_of_side-home.ensures.near
    c.worth_of_side-away.ensures.value c.worth_of_side-away.ensures.near c.add_side.ensures
    c.add_side-2.ensures
