use Rattle.std.proofs.Common.{◌||◌, sym, ap, ◌∙◌}
use Rattle.near_laws.specs.Near.{are_all_groups_wrong}
use Rattle.near_bound.proofs.AbleRivalLemmas.{no_fit_is}
use Rattle.near_bound.proofs.level.Level.bars_able.Goals as goal

pub returns-then-has_apart-clause-value : goal.returns-then-has_apart-clause-value
returns-then-has_apart-clause-value c = λ zone is own.
    let level = c.args.self.now in
    let tie = level.tie in
    c.if-has_apart.true
    ∙ ap (λ b. b || are_all_groups_wrong tie.left.now.sheet.now tie.left.now.season.now zone
    tie.points level.club c.args.rival)
    (sym c.if-has_apart.true ∙ c.has_apart.ensures zone is own
    ∙ no_fit_is tie level.rivals c.held_with-held.result level.club c.args.rival zone
    c.requires.level.able_rivals c.held_with-held.ensures.held is)

pub returns-else-has_apart-clause-value : goal.returns-else-has_apart-clause-value
returns-else-has_apart-clause-value c = λ zone is own.
    let level = c.args.self.now in
    let tie = level.tie in
    c.bars_groups.ensures.value zone is own
    ∙ ap (λ b. b || are_all_groups_wrong tie.left.now.sheet.now tie.left.now.season.now zone
    tie.points level.club c.args.rival)
    (sym c.if-has_apart.false ∙ c.has_apart.ensures zone is own
    ∙ no_fit_is tie level.rivals c.held_with-held.result level.club c.args.rival zone
    c.requires.level.able_rivals c.held_with-held.ensures.held is)
