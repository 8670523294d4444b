use Rattle.std.proofs.Common.{◌∷◌, [], List, get_or, sym, ◌∙◌, subst}
use Rattle.league_core.specs.declared.sheet.Fixture.{Fixture}
use Rattle.league_core.specs.declared.season.Score.{Score}
use Rattle.near_bound.specs.inside.Margins.{IsLeastMargin}
use Rattle.near_bound.specs.inside.PairLeads.{HaveEach}
use Rattle.near_bound.specs.inside.Ties.{match_at, fits_of}
use Rattle.near_bound.proofs.EachFitLemmas.{nothing_left, one_fits_all}
use Rattle.near_bound.proofs.TieLemmas.{whole_left, one_after_two}
use Rattle.near_bound.proofs.tie.Tie.least_with.Goals as goal

pub returns-then-has_one_at_most-clause-least : goal.returns-then-has_one_at_most-clause-least
returns-then-has_one_at_most-clause-least c = λ zone is have.
    let tie = c.args.self.now in
    let front = c.args.pair.0 in
    let back = c.args.pair.1 in
    let two = front ∷ back ∷ [] in
    let three = front ∷ back ∷ c.args.third ∷ [] in
    let fixture = c.args.fixture in
    let one = c.has_one_at_most.ensures c.if-has_one_at_most.true in
    let some : HaveEach tie zone two = (have.0, (have.1.0, tt)) in
    subst (λ (xs : List Score). IsLeastMargin (match_at tie fixture) xs front back c.args.least)
    (one_fits_all tie zone two fixture nothing_left c.requires.tie is c.requires.of_sheet one some
    ∙ sym (one_fits_all tie zone three fixture nothing_left c.requires.tie is
    c.requires.of_sheet one have))
    (c.requires.least zone is some)

pub returns-clause-least : goal.returns-clause-least
returns-clause-least c = λ zone is have.
    let tie = c.args.self.now in
    let front = c.args.pair.0 in
    let back = c.args.pair.1 in
    let third = c.args.third in
    let three = front ∷ back ∷ third ∷ [] in
    let fixture = c.args.fixture in
    let d : Fixture = record { home = 0; away = 0 } in
    let fit = get_or (fits_of tie zone three) fixture [] in
    subst (λ (fs : List Fixture). IsLeastMargin (get_or fs fixture d) fit front back
    c.least_margin.result) c.as_slice.ensures
    (c.least_margin.ensures.least fit
    (whole_left tie.left.now zone tie.points fixture (front ∷ back ∷ []) (third ∷ []) three d
    c.args.fit.now c.fit.result c.shared-fit_all.result c.requires.tie.left is.stands
    c.requires.of_sheet (λ test. one_after_two (test front) (test back) (test third))
    (c.requires.fit zone is (have.0, (have.1.0, tt))) (c.fit.ensures zone is)
    c.shared-fit_all.ensures))
