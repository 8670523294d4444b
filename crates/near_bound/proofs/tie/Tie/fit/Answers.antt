use Rattle.std.proofs.Common.{◌≡◌, [], List, ℤ, get_or, sym, ap, ◌∙◌, subst, to_z, of_z, w32, arith}
use Rattle.std.proofs.lemmas.Int.{ints}
use Rattle.league_core.specs.declared.sheet.Fixture.{Fixture}
use Rattle.league_core.specs.declared.season.Score.{Score}
use Rattle.league_core.specs.search.Options.{options_in, has_score}
use Rattle.near_bound.specs.inside.MatchesLeft.{IsLeftOf}
use Rattle.near_bound.specs.inside.Points.{range_of_ends, fit_by}
use Rattle.near_bound.specs.inside.Points.{ends_listed}
use Rattle.near_bound.proofs.AllFitLemmas.{roomy_fit}
use Rattle.near_bound.proofs.TieLemmas.{fit_is_left}
use Rattle.near_bound.proofs.tie.Tie.fit.Goals as goal

pub returns-then-is_roomy : goal.returns-then-is_roomy
returns-then-is_roomy c = λ zone is score.
    let tie = c.args.self.now in
    let k = c.args.fixture in
    is.stands.matches.each k _ (omega (arith, c.requires.of_sheet, c.requires.tie.left.many)) score
    ∙ ap (λ (xs : List Score). has_score xs score)
    (sym (roomy_fit tie zone c.args.club k c.requires.tie is c.requires.in_range
    c.requires.of_sheet (c.is_roomy.ensures c.if-is_roomy.true)))

pub returns : goal.returns
returns c = λ zone is.
    let tie = c.args.self.now in
    let left = tie.left.now in
    let k = c.args.fixture in
    let d : Fixture = record { home = 0; away = 0 } in
    let options = get_or (options_in left.sheet.now left.season.now zone) k [] in
    let points_is : to_z w32 (of_z w32 tie.points) ≡ tie.points =
    omega (arith, ints, c.requires.tie.points.0, c.requires.tie.points.1) in
    fit_is_left left zone tie.points c.args.club k (get_or c.as_slice.result.now k d) d
    (range_of_ends (ends_listed tie.ends c.args.club)) c.fit.result c.requires.tie.left is.stands
    c.requires.of_sheet (ap (λ (fs : List Fixture). get_or fs k d) c.as_slice.ensures)
    (is.ends c.args.club c.requires.in_range)
    (subst (λ (p : ℤ). IsLeftOf c.fit.result (fit_by
    (range_of_ends (ends_listed tie.ends c.args.club)) p
    c.args.club (get_or c.as_slice.result.now k d) options)) points_is
    (c.fit.ensures options (is.stands.matches.each k _
    (omega (arith, c.requires.of_sheet, c.requires.tie.left.many)))))
