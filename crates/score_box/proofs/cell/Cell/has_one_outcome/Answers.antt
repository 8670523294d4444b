use Rattle.std.proofs.Common.{◌≡◌, is_some, sym, ap, ◌∙◌}
use Rattle.score_box.specs.inside.Cells.{at_most_one}
use Rattle.score_box.proofs.OutcomeLemmas.{decided}
use Rattle.score_box.proofs.cell.Cell.has_one_outcome.Goals as goal

pub returns : goal.returns
returns c =
    let cell = c.args.self.now in
    let says = decided cell c.home_wins.result c.draws.result c.away_wins.result
    c.home_wins.ensures.goals c.draws.ensures.goals c.away_wins.ensures.goals in
    let same : c.at_most_one.result ≡ at_most_one (is_some c.home_wins.result)
    (is_some c.draws.result) (is_some c.away_wins.result) =
    c.at_most_one.ensures
    ∙ ap (λ b. at_most_one b c.is_some-draws.result c.is_some-away_wins.result)
    c.is_some-home_wins.ensures
    ∙ ap (λ b. at_most_one (is_some c.home_wins.result) b c.is_some-away_wins.result)
    c.is_some-draws.ensures
    ∙ ap (λ b. at_most_one (is_some c.home_wins.result) (is_some c.draws.result) b)
    c.is_some-away_wins.ensures in
    (λ e. says.0 (sym same ∙ e), λ one. same ∙ says.1 one)
