use Rattle.std.proofs.Common.{◌≡◌, ◌+◌, ◌||◌, ◌∷◌, [], Bool, true, get_or, pos}
use Rattle.std.proofs.Common.{refl, sym, ap, ◌∙◌, subst, eq-eqb, arith}
use Rattle.std.proofs.Math.Bool.{or-true}
use Rattle.std.proofs.lemmas.Bool.{true≢false}
use Rattle.std.proofs.lemmas.List.{get_or-set_same}
use Rattle.league_core.specs.declared.sheet.Fixture.{Fixture}
use Rattle.league_core.specs.game.ClubSets.{clubs_in}
use Rattle.league_core.specs.game.Sums.{has_club}
use Rattle.league_core.specs.search.PointRanges.{range_of, points_together}
use Rattle.near_bound.specs.declared.points.PointEnds.{PointEnds}
use Rattle.near_bound.specs.inside.FitEnds.{IsClubSoFar, left_options}
use Rattle.near_bound.specs.inside.Points.{ends_listed}
use Rattle.near_bound.specs.inside.Ties.{fits_of}
use Rattle.near_bound.proofs.AbleClubLemmas.{near_after}
use Rattle.near_bound.proofs.AllFitLemmas.{roomy_fit}
use Rattle.near_bound.proofs.FitEndLemmas.{all_taken, some_taken, none_taken}
use Rattle.near_bound.proofs.tie.Tie.take_side.Goals as goal

pub returns-then-is_roomy-clause-takes : goal.returns-then-is_roomy-clause-takes
returns-then-is_roomy-clause-takes c = λ zone is has so_far.
    all_taken c.args.self.now zone c.args.club c.args.fixture
    (ends_listed c.args.all.now.ends c.args.club)
    (has_club (clubs_in c.args.all.now.lacking) c.args.club) c.requires.tie is
    c.requires.of_sheet
    (roomy_fit c.args.self.now zone c.args.club c.args.fixture c.requires.tie is
    c.requires.in_range c.requires.of_sheet (c.is_roomy.ensures c.if-is_roomy.true)) so_far

pub returns-then-not-has_in_range-clause-takes : goal.returns-then-not-has_in_range-clause-takes
returns-then-not-has_in_range-clause-takes c = λ zone is has so_far. absurd
    (true≢false (sym has ∙ sym c.has_in_range.ensures ∙ c.if-not-has_in_range.true))

pub returns-then-has_score-clause-takes : goal.returns-then-has_score-clause-takes
returns-then-has_score-clause-takes c = λ zone is has so_far.
    let tie = c.args.self.now in
    let club = c.args.club in
    let k = c.args.fixture in
    let most = c.requires.tie.left.league.limits.most_clubs in
    let none : PointEnds = record { least = pos 0; most = pos 0 } in
    let lacks = has_club (clubs_in c.args.all.now.lacking) club in
    let options = get_or (left_options tie zone) k [] in
    let fits = get_or (fits_of tie zone (club ∷ [])) k [] in
    let fit_is = c.fit-fit.ensures zone is in
    let here_is = c.points_left-here.ensures.range options
    (is.stands.matches.each k _ (omega (arith, c.requires.of_sheet, c.requires.tie.left.many))) in
    let kept_is = c.points_left-kept.ensures.range fits fit_is in
    subst (λ (e : PointEnds). IsClubSoFar tie zone club (k + 1) e lacks)
    (sym (get_or-set_same c.args.all.now.ends club c.exchanged.result none (omega arith)))
    (some_taken tie zone club k (ends_listed c.args.all.now.ends club) c.points_left-here.result
    c.points_left-kept.result c.exchanged.result lacks c.requires.tie is c.requires.of_sheet
    (sym (c.has_score.ensures fits fit_is) ∙ c.if-has_score.true)
    (here_is
    ∙ ap (λ (m : Fixture). range_of (points_together (club ∷ []) m) options) c.requires.match_is)
    (kept_is
    ∙ ap (λ (m : Fixture). range_of (points_together (club ∷ []) m) fits) c.requires.match_is)
    c.exchanged.ensures.least c.exchanged.ensures.most so_far)

pub returns-then-has_score-clause-near : goal.returns-then-has_score-clause-near
returns-then-has_score-clause-near c = λ bound near.
    near_after c.args.self.now bound c.args.club c.args.all.now.ends c.points_left-here.result
    c.points_left-kept.result c.exchanged.result (omega arith) c.points_left-here.ensures.within
    c.points_left-kept.ensures.within c.exchanged.ensures.least c.exchanged.ensures.most
    c.requires.in_range near

pub returns-else-has_score-clause-takes : goal.returns-else-has_score-clause-takes
returns-else-has_score-clause-takes c = λ zone is has so_far.
    let tie = c.args.self.now in
    let club = c.args.club in
    let k = c.args.fixture in
    let fits = get_or (fits_of tie zone (club ∷ [])) k [] in
    let lacks = has_club (clubs_in c.args.all.now.lacking) club in
    let now : has_club (clubs_in c.with_if-all.result) club ≡ true =
    c.with_if-all.ensures club
    ∙ ap (λ b. lacks || b) (eq-eqb club club refl)
    ∙ or-true lacks in
    subst (λ (b : Bool). IsClubSoFar tie zone club (k + 1) (ends_listed c.args.all.now.ends club) b)
    (sym now)
    (none_taken tie zone club k (ends_listed c.args.all.now.ends club) lacks c.requires.tie is
    c.requires.of_sheet
    (sym (c.has_score.ensures fits (c.fit-fit.ensures zone is)) ∙ c.if-has_score.false) so_far)
