use Rattle.std.proofs.Common.{ℕ, List, not, ◌&&◌, length, sym, ap, ◌∙◌, arith}
use Rattle.league_core.specs.game.ClubSets.{clubs_in}
use Rattle.league_core.specs.game.Sums.{has_club}
use Rattle.league_core.proofs.ClubCountLemmas.{member_below}
use Rattle.league_core.proofs.WalkLemmas.{first_of_clubs}
use Rattle.league_core.proofs.clubs.ClubsIterator.next.Goals as goal

pub single-requires : goal.single-requires
single-requires c = member_below c.self.inside.left c.first_club-club.result
    c.first_club-club.ensures.member

pub returns-clause-steps : goal.returns-clause-steps
returns-clause-steps c =
    let set = c.self.inside.left in
    sym c.self.view_is
    ∙ first_of_clubs set c.without-self-inside.result c.first_club-club.result
    c.first_club-club.ensures.member c.first_club-club.ensures.least
    (λ club. c.without-self-inside.ensures club
    ∙ ap (λ (xs : List ℕ). has_club (clubs_in set) club && not (has_club xs club))
    c.single.ensures)

pub returns-clause-goes : goal.returns-clause-goes
returns-clause-goes c = record {
  on = λ finite. (tt, tt, omega (arith, ap length (returns-clause-steps c)));
  keeps = tt;
  rests = λ finite. tt;
}
