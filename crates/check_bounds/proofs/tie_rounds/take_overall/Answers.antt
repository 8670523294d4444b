use Rattle.std.proofs.Common.{ap, sym, ◌∙◌}
use Rattle.league_core.specs.game.ClubSets.{clubs_in}
use Rattle.league_core.specs.declared.sure.Sure.TheVariants.{Unknown}
use Rattle.league_core.specs.search.SureOrder.{sure_then, sure_within, sure_in}
use Rattle.league_core.proofs.SureLemmas.{sure_then-assoc}
use Rattle.check_bounds.specs.inside.Steps.{sure_at, sure_by_tables}
use Rattle.check_bounds.proofs.StepLemmas.{still_level}
use Rattle.check_bounds.proofs.TieRoundLemmas.{unsure_sums, sure_sums}
use Rattle.check_bounds.proofs.tie_rounds.take_overall.Goals as goal

pub returns-then-not-are_all_sure : goal.returns-then-not-are_all_sure
returns-then-not-are_all_sure c = λ rival below other within.
    let first = c.first_sums_of-first.result in
    c.leave_unknown.ensures rival below
    ∙ ap (λ s. sure_then s Unknown) (c.step.ensures rival below)
    ∙ sure_then-assoc (sure_at c.args.answers.now rival) (sure_by_tables first c.args.club rival)
    Unknown
    ∙ ap (sure_then (sure_at c.args.answers.now rival))
    (unsure_sums c.args.cells.now.sheet c.args.cells.now.corners first (clubs_in c.args.group)
    rival c.args.club c.first_sums_of-first.ensures
    (sym c.are_all_sure.ensures ∙ c.if-not-are_all_sure.true))

pub returns : goal.returns
returns c = λ rival below other within.
    let first = c.first_sums_of-first.result in
    let sheet = c.args.cells.now.sheet in
    let corners = c.args.cells.now.corners in
    let rest = sure_in sheet corners (clubs_in c.level_in-level.result) rival c.args.club in
    c.take_rounds.ensures rival below other
    (still_level first (clubs_in c.args.group) (clubs_in c.level_in-level.result) c.args.club rival
    (sure_at c.args.answers.now rival) (sure_at c.step.new.answers rival)
    (c.step.ensures rival below) c.level_in-level.ensures within)
    ∙ ap (λ n. sure_then (sure_at c.step.new.answers rival) (sure_within n sheet corners
    (clubs_in c.level_in-level.result) rival c.args.club)) c.len.ensures
    ∙ ap (λ s. sure_then s rest) (c.step.ensures rival below)
    ∙ sure_then-assoc (sure_at c.args.answers.now rival) (sure_by_tables first c.args.club rival)
    rest
    ∙ ap (sure_then (sure_at c.args.answers.now rival))
    (sure_sums sheet corners first (clubs_in c.args.group)
    (clubs_in c.level_in-level.result) rival c.args.club c.first_sums_of-first.ensures
    (sym c.are_all_sure.ensures ∙ c.if-not-are_all_sure.false) c.level_in-level.ensures)
