use Rattle.std.proofs.Common.{◌≡◌, length, nat_lt, cond, subst, sym, ap, ◌∙◌, arith}
use Rattle.league_core.specs.declared.sheet.Sheet.{Sheet}
use Rattle.league_core.specs.declared.sure.Sure.TheVariants.{Unknown}
use Rattle.league_core.specs.search.SureOrder.{sure_by_points}
use Rattle.tie_criteria.specs.declared.measure.Measure.TheVariants.{Points}
use Rattle.tie_bound.specs.declared.sums.Sums.{Sums}
use Rattle.tie_bound.specs.inside.IntRanges.{as_range, IsRangeNear}
use Rattle.tie_bound.specs.inside.Boxes.{options_in_box}
use Rattle.tie_bound.proofs.AnswerLemmas.{none_below, next_open, answers_more}
use Rattle.tie_bound.proofs.AnswerLemmas.{by_points-read, points-read}
use Rattle.tie_bound.proofs.answers.by_points.Goals as goal

pub points_of-own-requires : goal.points_of-own-requires
points_of-own-requires c =
    let P : Sums → Type 0 = λ s. IsRangeNear 6000000 (as_range s.points) in
    subst P (sym c.sums_at.ensures) (c.requires.near c.args.club Points)

pub points_of-points-requires : goal.points_of-points-requires
points_of-points-requires c =
    let P : Sums → Type 0 = λ s. IsRangeNear 6000000 (as_range s.points) in
    subst P (sym c.sums_at-in-loop-rival.ensures) (c.requires.near c.loop-rival.rival Points)

pub loop-rival-preserved : goal.loop-rival-preserved
loop-rival-preserved c =
    let box = c.args.zone_box.now in
    let table = c.args.overall.now in
    let club = c.args.club in
    let rival = c.loop-rival.rival in
    let answer =
    c.by_range.ensures
    ∙ by_points-read box.sheet box.season (options_in_box box) table rival club
    (as_range c.points_of-points.result) (as_range c.points_of-own.result) c.requires
    (c.points_of-points.ensures ∙ points-read c.season-season.result.now box.season table rival
    c.sums_at-in-loop-rival.result.now c.season-season.ensures.season
    c.sums_at-in-loop-rival.ensures)
    (c.points_of-own.ensures ∙ points-read c.season-season.result.now box.season table club
    c.sums_at.result.now c.season-season.ensures.season c.sums_at.ensures) in
    answers_more (λ k. sure_by_points box.sheet box.season (options_in_box box) k club) rival
    c.by_range.result c.loop-rival.answers c.with-answers.result c.loop-rival.invariant
    (record { is = c.with-answers.ensures }) answer

pub with-answers-requires-clause-nothing : goal.with-answers-requires-clause-nothing
with-answers-requires-clause-nothing c =
    let box = c.args.zone_box.now in
    next_open (λ rival. sure_by_points box.sheet box.season (options_in_box box) rival c.args.club)
    c.loop-rival.rival c.loop-rival.answers c.loop-rival.invariant

pub loop-rival-init : goal.loop-rival-init
loop-rival-init c =
    let box = c.args.zone_box.now in
    none_below (λ rival. sure_by_points box.sheet box.season (options_in_box box) rival c.args.club)
    c.open-answers.result c.open-answers.ensures

pub returns : goal.returns
returns c =
    let box = c.args.zone_box.now in
    let last = c.len-rival-end.ensures ∙ ap (λ (s : Sheet). length s.clubs) c.sheet.ensures.sheet in
    let all : c.loop-rival.rival ≡ length box.sheet.clubs = omega (arith, last) in
    λ rival.
    c.loop-rival.invariant.is rival
    ∙ ap (λ n. cond (nat_lt rival n)
    (sure_by_points box.sheet box.season (options_in_box box) rival c.args.club) Unknown) all
