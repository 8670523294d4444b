use Rattle.std.proofs.Common.{◌-◌, ap, sym, ◌∙◌, arith}
use Rattle.league_core.specs.game.ClubSets.{clubs_in}
use Rattle.league_core.specs.declared.sure.Sure.TheVariants.{Unknown}
use Rattle.league_core.specs.search.SureOrder.{sure_then, sure_within, is_level, by_overall_ranges}
use Rattle.league_core.proofs.SureLemmas.{sure_then-assoc}
use Rattle.check_bounds.specs.inside.Steps.{sure_at, sure_by_tables}
use Rattle.check_bounds.proofs.StepLemmas.{stays, still_level, both_level}
use Rattle.check_bounds.proofs.RivalLemmas.{alone_is}
use Rattle.check_bounds.proofs.TieRoundLemmas.{unsure_round, last_round, next_round}
use Rattle.check_bounds.proofs.tie_rounds.+take_rounds.Goals as goal

pub returns-then-is_alone : goal.returns-then-is_alone
returns-then-is_alone n c = λ rival below other within.
    stays (sure_at c.args.answers.now rival) _
    (λ level. other (alone_is (clubs_in c.args.group) c.args.club rival
    (sym c.is_alone.ensures ∙ c.if-is_alone.true) (within level)))

pub returns-then-not-are_all_sure : goal.returns-then-not-are_all_sure
returns-then-not-are_all_sure n c = λ rival below other within.
    c.leave_unknown.ensures rival below
    ∙ ap (λ s. sure_then s Unknown) (c.step.ensures rival below)
    ∙ sure_then-assoc (sure_at c.args.answers.now rival) _ Unknown
    ∙ ap (sure_then (sure_at c.args.answers.now rival))
    (unsure_round c.args.times c.args.cells.now.sheet c.args.cells.now.corners _
    (clubs_in c.args.group) rival c.args.club (omega arith) c.records_of-records.ensures
    (sym c.are_all_sure.ensures ∙ c.if-not-are_all_sure.true))

pub returns-then-len : goal.returns-then-len
returns-then-len n c = λ rival below other within.
    let overall = by_overall_ranges c.args.cells.now.sheet c.args.cells.now.corners rival
    c.args.club in
    let was = sure_at c.args.answers.now rival in
    let records = sure_by_tables c.records_of-records.result c.args.club rival in
    c.take_sums.ensures rival below other
    (λ level. within (both_level was records
    (sym (ap is_level (c.step.ensures rival below)) ∙ level)).0)
    ∙ ap (λ s. sure_then s overall) (c.step.ensures rival below)
    ∙ sure_then-assoc was records overall
    ∙ ap (sure_then was)
    (last_round c.args.times c.args.cells.now.sheet c.args.cells.now.corners _
    (clubs_in c.args.group) (clubs_in c.level_in-level.result) rival c.args.club (omega arith)
    c.records_of-records.ensures
    (sym c.are_all_sure.ensures ∙ c.if-not-are_all_sure.false) c.level_in-level.ensures
    (sym c.len.ensures ∙ c.if-len.true ∙ c.len-2.ensures))

pub returns-else-len : goal.returns-else-len
returns-else-len n c = λ rival below other within.
    let rest = sure_within (c.args.times - 1) c.args.cells.now.sheet c.args.cells.now.corners
    (clubs_in c.level_in-level.result) rival c.args.club in
    c.take_rounds.ensures rival below other
    (still_level c.records_of-records.result (clubs_in c.args.group)
    (clubs_in c.level_in-level.result) c.args.club rival
    (sure_at c.args.answers.now rival) (sure_at c.step.new.answers rival)
    (c.step.ensures rival below) c.level_in-level.ensures within)
    ∙ ap (λ s. sure_then s rest) (c.step.ensures rival below)
    ∙ sure_then-assoc (sure_at c.args.answers.now rival) _ rest
    ∙ ap (sure_then (sure_at c.args.answers.now rival))
    (next_round c.args.times c.args.cells.now.sheet c.args.cells.now.corners _
    (clubs_in c.args.group) (clubs_in c.level_in-level.result) rival c.args.club (omega arith)
    c.records_of-records.ensures (sym c.are_all_sure.ensures ∙ c.if-not-are_all_sure.false)
    c.level_in-level.ensures
    (λ same. c.if-len.false (c.len.ensures ∙ same ∙ sym c.len-2.ensures)))
