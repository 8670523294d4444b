-- A literal cuts the domain of its fixture, or none; what the domain was puts it back.
use Rattle.std.proofs.Common.{◌<◌, ◌&&◌, List, length, set, subst, sym, ap, ◌∙◌, arith}
use Rattle.std.proofs.lemmas.List.{length-set, set-set, set-get_or}
use Rattle.league_core.specs.search.Zones.{is_as_said, passes}
use Rattle.check_bounds.specs.declared.score_domain.ScoreDomain.{ScoreDomain}
use Rattle.check_bounds.specs.inside.ScoreDomains.{is_left}
use Rattle.check_bounds.specs.inside.Zones.{CutsBy}
use Rattle.check_bounds.proofs.ScoreDomainLemmas.{takes_cut, takes_mark}
use Rattle.check_bounds.proofs.step.cut_by.Goals as goal

pub scope-kept-requires : goal.scope-kept-requires
scope-kept-requires c = c.in-Some.ensures.some.2 (length c.args.cells.now.scopes) c.requires

pub put-requires : goal.put-requires
put-requires c = c.in-Some.ensures.some.2 (length c.args.cells.now.scopes) c.requires

pub returns-in-Some-clause-cut : goal.returns-in-Some-clause-cut
returns-in-Some-clause-cut c =
    let scopes = c.args.cells.now.scopes in
    let literal = c.args.literal.now in
    let within : c.in-Some.fixture < length scopes = c.in-Some.ensures.some.2
    (length scopes) c.requires in
    let Cuts : List ScoreDomain → Type 0 = λ new. CutsBy scopes new literal in
    subst Cuts (sym c.put.ensures.scopes)
    (takes_cut scopes c.in-Some.fixture c.cut.new.self literal within c.in-Some.ensures.some.1
    (λ d score.
    c.cut.ensures score
    ∙ ap (λ scope. is_left scope score && is_as_said literal.yes (passes literal.test score))
    (c.scope-kept.ensures d)))

pub returns-in-Some-clause-within : goal.returns-in-Some-clause-within
returns-in-Some-clause-within c =
    let scopes = c.args.cells.now.scopes in
    let within : c.in-Some.fixture < length scopes = c.in-Some.ensures.some.2
    (length scopes) c.requires in
    omega (
      arith,
      within,
      ap length c.put.ensures.scopes,
      length-set scopes c.in-Some.fixture c.cut.new.self,
    )

pub returns-in-Some-clause-back : goal.returns-in-Some-clause-back
returns-in-Some-clause-back c =
    let scopes = c.args.cells.now.scopes in
    let kept = c.scope-kept.result in
    ap (λ new. set new c.in-Some.fixture kept) c.put.ensures.scopes
    ∙ set-set scopes c.in-Some.fixture c.cut.new.self kept
    ∙ ap (set scopes c.in-Some.fixture) (c.scope-kept.ensures kept)
    ∙ set-get_or scopes c.in-Some.fixture kept

pub returns-in-None-clause-cut : goal.returns-in-None-clause-cut
returns-in-None-clause-cut c =
    takes_mark c.args.cells.now.scopes c.args.literal.now c.in-None.ensures.none
