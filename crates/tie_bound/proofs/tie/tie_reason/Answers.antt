-- The zone has a finish, so the reason is what it says of the zone; and it says nothing if an
-- outcome is open.
use Rattle.std.proofs.Common.{◌&&◌, ◌||◌, sym, ap, ◌∙◌}
use Rattle.std.specs.List.{list_any}
use Rattle.league_core.specs.search.Zones.{rivals_of}
use Rattle.league_core.specs.search.Reasons.{has_reason, refutes_by_tie, are_too_many_sure}
use Rattle.league_core.specs.search.Reasons.{is_surely_wrong}
use Rattle.tie_bound.proofs.tie.tie_reason.Goals as goal

pub returns-then-has_one_outcome : goal.returns-then-has_one_outcome
unfolding has_reason
returns-then-has_one_outcome c =
    let box = c.args.zone_box.now in
    let question = c.args.question.now in
    let sure = are_too_many_sure box.sheet box.season question box.zone || list_any
    (is_surely_wrong box.sheet box.season question box.zone) (rivals_of box.sheet question.club) in
    c.is_refuted.ensures
    ∙ sym (ap (λ b. b && sure) (sym c.has_one_outcome.ensures ∙ c.if-has_one_outcome.true))
    ∙ sym (ap (λ b. b && refutes_by_tie box.sheet box.season question box.zone) c.requires)

pub returns-else-has_one_outcome : goal.returns-else-has_one_outcome
unfolding has_reason
returns-else-has_one_outcome c =
    let box = c.args.zone_box.now in
    let question = c.args.question.now in
    let sure = are_too_many_sure box.sheet box.season question box.zone || list_any
    (is_surely_wrong box.sheet box.season question box.zone) (rivals_of box.sheet question.club) in
    c.if-has_one_outcome.false
    ∙ sym (ap (λ b. b && sure) (sym c.has_one_outcome.ensures ∙ c.if-has_one_outcome.false))
    ∙ sym (ap (λ b. b && refutes_by_tie box.sheet box.season question box.zone) c.requires)
