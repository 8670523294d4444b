use Rattle.std.proofs.Common.{List, ℕ, subst, ◌∙◌}
use Rattle.league_core.specs.game.ClubSets.{clubs_in}
use Rattle.league_core.proofs.WalkLemmas.{comes_to, all_seen}
use Rattle.tie_bound.specs.inside.Answers.{by_overall_table}
use Rattle.tie_bound.proofs.AnswerLemmas.{AreSaidOf, none_said, next_unsaid, said_more}
use Rattle.tie_bound.proofs.AnswerLemmas.{step_by_said, by_overall_table-read}
use Rattle.tie_bound.proofs.taken.take_overall.Goals as goal

pub loop-rival-init : goal.loop-rival-init
loop-rival-init c =
    none_said (by_overall_table c.args.sheet.now c.args.overall.now c.args.club)
    c.open-said.result c.open-said.ensures

pub with-said-requires-clause-in_range : goal.with-said-requires-clause-in_range
with-said-requires-clause-in_range c =
    (comes_to c.args.group c.loop-rival.yielded c.in-Some.rival
    (c.into_iter-rival-iterator.ensures.into_iter_gives ∙ c.clubs-rival-items.ensures.all)
    c.loop-rival.yielded_by c.in-Some.ensures.steps).low

pub with-said-requires-clause-nothing : goal.with-said-requires-clause-nothing
with-said-requires-clause-nothing c =
    next_unsaid (by_overall_table c.args.sheet.now c.args.overall.now c.args.club)
    c.loop-rival.yielded c.in-Some.rival c.loop-rival.said c.loop-rival.invariant
    (comes_to c.args.group c.loop-rival.yielded c.in-Some.rival
    (c.into_iter-rival-iterator.ensures.into_iter_gives ∙ c.clubs-rival-items.ensures.all)
    c.loop-rival.yielded_by c.in-Some.ensures.steps).is_new

pub loop-rival-preserved : goal.loop-rival-preserved
loop-rival-preserved c =
    let sheet = c.args.sheet.now in
    let table = c.args.overall.now in
    let club = c.args.club in
    let rival = c.in-Some.rival in
    said_more (by_overall_table sheet table club) c.loop-rival.yielded rival
    c.by_overall-answer.result c.loop-rival.said c.with-said.result c.loop-rival.invariant
    (record { is = c.with-said.ensures })
    (c.by_overall-answer.ensures ∙ by_overall_table-read sheet table club rival
    c.sums_at.result.now c.sums_at-own.result.now c.rank_of-rank.result
    c.rank_of-own_rank.result c.sums_at.ensures c.sums_at-own.ensures
    c.rank_of-rank.ensures c.rank_of-own_rank.ensures)

pub returns : goal.returns
returns c =
    let wanted = by_overall_table c.args.sheet.now c.args.overall.now c.args.club in
    step_by_said wanted (clubs_in c.args.group) c.loop-rival.said c.args.answers
    c.then_in.result
    (subst (λ (seen : List ℕ). AreSaidOf wanted seen c.loop-rival.said)
    (all_seen c.args.group c.loop-rival.yielded
    (c.into_iter-rival-iterator.ensures.into_iter_gives ∙ c.clubs-rival-items.ensures.all)
    c.loop-rival.yielded_by c.in-None.ensures.steps.0) c.loop-rival.invariant)
    c.then_in.ensures
