use Rattle.std.proofs.Common.{◌≡◌, ◌&&◌, nat_lt, sym, ap, ◌∙◌, arith}
use Rattle.std.specs.Ordering.{is_eq, is_lt}
use Rattle.league_core.proofs.ClubSetLemmas.{has_club-range}
use Rattle.example_finish.specs.inside.GroupStandings.{by_number_in}
use Rattle.example_finish.proofs.standing.Standing.by_points.Goals as goal

pub returns : goal.returns
returns c =
    let points = c.args.points.now in
    let club = c.args.club in
    let clubs = c.args.clubs in
    let last : c.loop-other.other ≡ clubs = omega arith in
    record {
      ahead = λ x.
          c.loop-other.invariant.ahead x
          ∙ ap (λ n. nat_lt x n && is_lt (by_number_in points x club)) last
          ∙ sym (ap (λ b. b && is_lt (by_number_in points x club)) (has_club-range clubs x));
      level = λ x.
          c.loop-other.invariant.level x
          ∙ ap (λ n. nat_lt x n && is_eq (by_number_in points x club)) last
          ∙ sym (ap (λ b. b && is_eq (by_number_in points x club)) (has_club-range clubs x));
    }
