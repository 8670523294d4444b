use Rattle.std.proofs.Common.{◌&&◌, List, ℕ, [], ◌∷◌, refl, sym, ap, subst, ◌∙◌}
use Rattle.std.specs.List.{list_all}
use Rattle.std.proofs.lemmas.List.Folds.{list_all-append}
use Rattle.std.proofs.Math.Bool.{and-true}
use Rattle.league_core.specs.game.ClubSets.{clubs_in}
use Rattle.league_core.proofs.WalkLemmas.{comes_to, all_seen}
use Rattle.tie_bound.specs.inside.Answers.{by_table, is_sure_by}
use Rattle.tie_bound.proofs.AnswerLemmas.{AreSaidOf, none_said, next_unsaid, said_more}
use Rattle.tie_bound.proofs.AnswerLemmas.{step_by_said, by_table-read, is_sure_by-read}
use Rattle.tie_bound.proofs.taken.take_parts.Goals as goal

pub loop-rival-init : goal.loop-rival-init
loop-rival-init c = record {
  said = none_said (by_table c.args.parts c.args.table.now c.args.club) c.open-said.result
      c.open-said.ensures;
  sure = refl;
}

pub row-sums-requires : goal.row-sums-requires
row-sums-requires c =
    c.requires c.in-Some.rival
    (comes_to c.args.group c.loop-rival.yielded c.in-Some.rival
    (c.into_iter-rival-iterator.ensures.into_iter_gives ∙ c.clubs-rival-items.ensures.all)
    c.loop-rival.yielded_by c.in-Some.ensures.steps).among

pub with-said-requires-clause-in_range : goal.with-said-requires-clause-in_range
with-said-requires-clause-in_range c =
    (comes_to c.args.group c.loop-rival.yielded c.in-Some.rival
    (c.into_iter-rival-iterator.ensures.into_iter_gives ∙ c.clubs-rival-items.ensures.all)
    c.loop-rival.yielded_by c.in-Some.ensures.steps).low

pub with-said-requires-clause-nothing : goal.with-said-requires-clause-nothing
with-said-requires-clause-nothing c =
    next_unsaid (by_table c.args.parts c.args.table.now c.args.club) c.loop-rival.yielded
    c.in-Some.rival c.loop-rival.said c.loop-rival.invariant.said
    (comes_to c.args.group c.loop-rival.yielded c.in-Some.rival
    (c.into_iter-rival-iterator.ensures.into_iter_gives ∙ c.clubs-rival-items.ensures.all)
    c.loop-rival.yielded_by c.in-Some.ensures.steps).is_new

pub loop-rival-preserved : goal.loop-rival-preserved
loop-rival-preserved c =
    let parts = c.args.parts in
    let table = c.args.table.now in
    let club = c.args.club in
    let rival = c.in-Some.rival in
    let sums = c.row-sums.result.now in
    let own = c.sums_at.result.now in
    let test = is_sure_by parts table club in
    record {
      said = said_more (by_table parts table club) c.loop-rival.yielded rival
          c.by_parts-answer.result c.loop-rival.said c.with-said.result
          c.loop-rival.invariant.said (record { is = c.with-said.ensures })
          (c.by_parts-answer.ensures ∙ by_table-read parts table club rival sums own
          c.row-sums.ensures c.sums_at.ensures);
      sure = c.stays_sure-is_sure.ensures
          ∙ ap (λ b. c.loop-rival.is_sure && b)
          (is_sure_by-read parts table club rival sums own _ c.row-sums.ensures
          c.sums_at.ensures refl)
          ∙ ap (λ b. b && test rival) c.loop-rival.invariant.sure
          ∙ ap (λ b. list_all test c.loop-rival.yielded && b) (sym (and-true (test rival)))
          ∙ sym (list_all-append test c.loop-rival.yielded (rival ∷ []));
    }

pub returns-clause-answers : goal.returns-clause-answers
returns-clause-answers c =
    let wanted = by_table c.args.parts c.args.table.now c.args.club in
    step_by_said wanted (clubs_in c.args.group) c.loop-rival.said c.args.answers
    c.then_in.result
    (subst (λ (seen : List ℕ). AreSaidOf wanted seen c.loop-rival.said)
    (all_seen c.args.group c.loop-rival.yielded
    (c.into_iter-rival-iterator.ensures.into_iter_gives ∙ c.clubs-rival-items.ensures.all)
    c.loop-rival.yielded_by c.in-None.ensures.steps.0) c.loop-rival.invariant.said)
    c.then_in.ensures

pub returns-clause-sure : goal.returns-clause-sure
returns-clause-sure c =
    c.loop-rival.invariant.sure
    ∙ ap (list_all (is_sure_by c.args.parts c.args.table.now c.args.club))
    (all_seen c.args.group c.loop-rival.yielded
    (c.into_iter-rival-iterator.ensures.into_iter_gives ∙ c.clubs-rival-items.ensures.all)
    c.loop-rival.yielded_by c.in-None.ensures.steps.0)
