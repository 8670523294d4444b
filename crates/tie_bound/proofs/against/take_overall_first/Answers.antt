use Rattle.std.proofs.Common.{◌≡◌, ◌≤◌, ◌&&◌, nat_lt, ℕ, true, length, sym, ap, ◌∙◌, arith}
use Rattle.std.proofs.lemmas.Bool.{not-true, not-false}
use Rattle.league_core.specs.declared.sure.Sure.TheVariants.{Unknown}
use Rattle.tie_bound.proofs.AnswerLemmas.{others_decided, others_stay, step_decides}
use Rattle.league_core.specs.declared.sheet.Sheet.{Sheet}
use Rattle.league_core.specs.game.ClubSets.{clubs_in}
use Rattle.league_core.specs.search.SureOrder.{are_all_sure_overall, by_first_sum_ranges, is_level}
use Rattle.tie_bound.specs.inside.Boxes.{options_in_box}
use Rattle.tie_bound.specs.inside.Answers.{answer_at, AreLevelIn}
use Rattle.tie_bound.proofs.RoundLemmas.{level_is}
use Rattle.tie_bound.proofs.TakenLemmas.{overall_first_open, overall_first_sure}
use Rattle.tie_bound.proofs.against.take_overall_first.Goals as goal

pub returns-then-not-taken : goal.returns-then-not-taken
returns-then-not-taken c =
    let sheet = c.args.zone_box.now.sheet in
    let options = options_in_box c.args.zone_box.now in
    let club = c.args.club in
    let group = clubs_in c.args.group in
    let first = λ (rival : ℕ). by_first_sum_ranges sheet options rival club in
    let old = c.args.answers in
    let taken = c.take_first_sums-taken.result.answers in
    let takes = step_decides (length sheet.clubs) first group old taken
    (others_decided (length sheet.clubs) old group c.requires.level)
    c.take_first_sums-taken.ensures.answers in
    λ rival low asked.
    overall_first_open sheet options club group rival old taken c.leave_open.result
    (sym c.take_first_sums-taken.ensures.sure
    ∙ not-true c.take_first_sums-taken.result.is_sure c.if-not-taken.true) (takes rival low)
    (step_decides (length sheet.clubs) (λ _. Unknown) group taken c.leave_open.result
    (others_stay (length sheet.clubs) first group old taken
    (others_decided (length sheet.clubs) old group c.requires.level)
    c.take_first_sums-taken.ensures.answers)
    c.leave_open.ensures rival low)

pub returns : goal.returns
returns c =
    let sheet = c.args.zone_box.now.sheet in
    let options = options_in_box c.args.zone_box.now in
    let club = c.args.club in
    let group = clubs_in c.args.group in
    let first = λ (rival : ℕ). by_first_sum_ranges sheet options rival club in
    let old = c.args.answers in
    let taken = c.take_first_sums-taken.result.answers in
    let takes = step_decides (length sheet.clubs) first group old taken
    (others_decided (length sheet.clubs) old group c.requires.level)
    c.take_first_sums-taken.ensures.answers in
    let many : c.len-clubs.result ≡ length sheet.clubs =
    c.len-clubs.ensures ∙ ap (λ (s : Sheet). length s.clubs) c.sheet.ensures.sheet in
    let few : length sheet.clubs ≤ 24 = omega (arith, many, c.sheet.ensures.limits.most_clubs) in
    let level : AreLevelIn (length sheet.clubs) taken (clubs_in c.those_level-level.result) =
    λ x. c.those_level-level.ensures x
    ∙ ap (λ n. nat_lt x n && is_level (answer_at taken x)) many in
    let sure : are_all_sure_overall sheet options group club ≡ true =
    sym c.take_first_sums-taken.ensures.sure
    ∙ not-false c.take_first_sums-taken.result.is_sure c.if-not-taken.false in
    let shared = level_is (length sheet.clubs) c.args.group.bits
    c.those_level-level.result.bits old taken
    (λ rival. by_first_sum_ranges sheet options rival club) c.requires.level takes level in
    λ rival low asked.
    overall_first_sure sheet options club group (clubs_in c.those_level-level.result) rival old
    taken c.take_rounds.result sure shared (takes rival low)
    (c.take_rounds.ensures rival low asked)
