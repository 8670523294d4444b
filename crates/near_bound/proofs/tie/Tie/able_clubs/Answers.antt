use Rattle.std.proofs.Common.{rules, ◌&&◌, ℕ, nat_lt, not, List, ap, ◌∙◌}
use Rattle.std.proofs.Math.Bool.{and-true}
use Rattle.league_core.specs.game.Sums.{has_club}
use Rattle.league_core.proofs.KeptClubLemmas.{kept_has}
use Rattle.near_bound.specs.inside.AbleRivals.{is_able_in}
use Rattle.near_bound.proofs.tie.Tie.able_clubs.Goals as goal

pub returns : goal.returns
returns c = λ zone is club.
    let test = is_able_in c.args.self.now zone in
    kept_has {test = test} (λ other said has says. search rules) c.keep.ensures club
    ∙ ap (λ b. b && test club)
    (c.others-clubs.ensures club
    ∙ ap (λ (xs : List ℕ). nat_lt club c.len.result && not (has_club xs club)) c.empty.ensures
    ∙ and-true (nat_lt club c.len.result)
    ∙ ap (nat_lt club) c.len.ensures)
