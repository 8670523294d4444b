use mir.Syntax.{w32}
use mir.Val.{to_z, of_z}
use Rattle.std.proofs.Common.{◌≡◌, [], ◌∷◌, length, nat_lt, cond, ap, ◌∙◌, arith}
use Rattle.std.proofs.lemmas.Int.{ints}
use Rattle.league_core.specs.declared.sheet.Sheet.{Sheet}
use Rattle.league_core.specs.declared.sure.Sure.TheVariants.{Unknown}
use Rattle.league_core.specs.search.PointRanges.{one_value, least_points_of}
use Rattle.league_core.specs.search.SureOrder.{sure_by_points, sure_by_range}
use Rattle.tie_bound.specs.inside.Boxes.{options_in_box}
use Rattle.tie_bound.proofs.AnswerLemmas.{none_below, next_open, answers_more}
use Rattle.tie_bound.proofs.PointLemmas.{sure_by_range-least}
use Rattle.tie_bound.proofs.answers.by_least.Goals as goal

pub loop-rival-preserved : goal.loop-rival-preserved
loop-rival-preserved c =
    let box = c.args.zone_box.now in
    let club = c.args.club in
    let rival = c.loop-rival.rival in
    let at_rival : to_z w32 (of_z w32 c.low.result) ≡ least_points_of box.sheet box.season box.zone
    (rival ∷ []) = omega (arith, ints, c.low.ensures.within, c.low.ensures.value) in
    let at_club : to_z w32 (of_z w32 c.low-own.result) ≡ least_points_of box.sheet box.season
    box.zone (club ∷ []) = omega (arith, ints, c.low-own.ensures.within, c.low-own.ensures.value) in
    let answer =
    c.by_value-answer.ensures
    ∙ ap (λ n. sure_by_range (one_value n) (one_value (to_z w32 (of_z w32 c.low-own.result))))
    at_rival
    ∙ ap (λ n. sure_by_range (one_value (least_points_of box.sheet box.season box.zone
    (rival ∷ []))) (one_value n)) at_club
    ∙ sure_by_range-least box rival club c.requires.outcomes in
    answers_more (λ k. sure_by_points box.sheet box.season (options_in_box box) k club) rival
    c.by_value-answer.result c.loop-rival.answers c.with-answers.result c.loop-rival.invariant
    (record { is = c.with-answers.ensures }) answer

pub with-answers-requires-clause-nothing : goal.with-answers-requires-clause-nothing
with-answers-requires-clause-nothing c =
    let box = c.args.zone_box.now in
    next_open (λ rival. sure_by_points box.sheet box.season (options_in_box box) rival c.args.club)
    c.loop-rival.rival c.loop-rival.answers c.loop-rival.invariant

pub loop-rival-init : goal.loop-rival-init
loop-rival-init c =
    let box = c.args.zone_box.now in
    none_below (λ rival. sure_by_points box.sheet box.season (options_in_box box) rival c.args.club)
    c.open-answers.result c.open-answers.ensures

pub returns : goal.returns
returns c =
    let box = c.args.zone_box.now in
    let last = c.len-rival-end.ensures ∙ ap (λ (s : Sheet). length s.clubs) c.sheet.ensures.sheet in
    let all : c.loop-rival.rival ≡ length box.sheet.clubs = omega (arith, last) in
    λ rival.
    c.loop-rival.invariant.is rival
    ∙ ap (λ n. cond (nat_lt rival n)
    (sure_by_points box.sheet box.season (options_in_box box) rival c.args.club) Unknown) all
