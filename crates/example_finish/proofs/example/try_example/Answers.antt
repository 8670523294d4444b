use Rattle.std.proofs.Common.{ℕ, IsTrue, length, subst, sym, ap, ◌∙◌}
use Rattle.std.proofs.lemmas.Bool.{false≢true}
use Rattle.league_core.specs.game.Results.{Results}
use Rattle.league_core.specs.game.Ranking.{are_lots}
use Rattle.league_core.specs.inside.LotsFor.{lots_for_claim}
use Rattle.league_core.specs.game.Questions.{holds_at}
use Rattle.league_core.proofs.LotsLemmas.{lots_for_claim-are_lots, lots_for_claim-favoured}
use Rattle.league_core.proofs.LotsLemmas.{holds_at-favoured}
use Rattle.example_finish.proofs.example.try_example.Goals as goal

pub holds-requires-clause-drawn : goal.holds-requires-clause-drawn
holds-requires-clause-drawn c =
    let clubs = length c.args.sheet.now.clubs in
    let question = c.args.question.now in
    subst (λ lots. IsTrue (are_lots clubs lots))
    (sym (c.in_ok-lots.ensures
    ∙ ap (λ (n : ℕ). lots_for_claim n question.club question.claim) c.len.ensures))
    (lots_for_claim-are_lots clubs question.club question.claim c.requires.in_range)

pub returns-then-branch-clause-drawn : goal.returns-then-branch-clause-drawn
returns-then-branch-clause-drawn c =
    let clubs = length c.args.sheet.now.clubs in
    let question = c.args.question.now in
    subst (λ lots. IsTrue (are_lots clubs lots))
    (sym (c.in_ok-lots.ensures
    ∙ ap (λ (n : ℕ). lots_for_claim n question.club question.claim) c.len.ensures))
    (lots_for_claim-are_lots clubs question.club question.claim c.requires.in_range)

pub returns-then-branch-clause-found : goal.returns-then-branch-clause-found
returns-then-branch-clause-found c =
    ap (λ (s : Results). holds_at c.args.sheet.now c.args.question.now s c.in_ok-lots.lots)
    (sym c.as_season-season.ensures.season)
    ∙ sym c.in_ok-holds.ensures ∙ c.if-branch.true

pub returns-else-branch-clause-absent : goal.returns-else-branch-clause-absent
returns-else-branch-clause-absent c = λ lots holds.
    let clubs = length c.args.sheet.now.clubs in
    let question = c.args.question.now in
    let drawn = c.in_ok-lots.ensures
    ∙ ap (λ (n : ℕ). lots_for_claim n question.club question.claim) c.len.ensures in
    let best = holds_at-favoured c.args.sheet.now question c.args.finish.now lots
    (lots_for_claim clubs question.club question.claim)
    (lots_for_claim-favoured clubs question.club question.claim) holds in
    false≢true (sym c.if-branch.false ∙ c.in_ok-holds.ensures
    ∙ ap (λ (s : Results). holds_at c.args.sheet.now question s c.in_ok-lots.lots)
    c.as_season-season.ensures.season
    ∙ ap (λ lots. holds_at c.args.sheet.now question c.args.finish.now lots) drawn ∙ best)
