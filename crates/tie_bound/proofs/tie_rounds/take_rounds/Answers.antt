use Rattle.std.proofs.Common.{◌≡◌, ◌≤◌, ◌+◌, ◌-◌, ℕ, ◌&&◌, nat_lt, true, length, subst, sym}
use Rattle.std.proofs.Common.{ap, refl, Bool, false, List}
use Rattle.std.proofs.Common.{◌∙◌, arith}
use Rattle.league_core.specs.declared.sheet.Sheet.{Sheet}
use Rattle.league_core.specs.game.ClubSets.{clubs_in}
use Rattle.league_core.specs.search.SureOrder.{are_all_sure, by_record_ranges, is_level}
use Rattle.league_core.specs.search.SureOrder.{by_overall_ranges}
use Rattle.tie_bound.specs.inside.Boxes.{options_in_box}
use Rattle.tie_bound.specs.inside.Answers.{answer_at, AreLevelIn}
use Rattle.league_core.specs.declared.sure.Sure.TheVariants.{Unknown}
use Rattle.league_core.specs.game.Sums.{has_club}
use Rattle.std.proofs.lemmas.Bool.{false≢true, not-true, not-false}
use Rattle.tie_bound.proofs.AnswerLemmas.{others_decided, others_stay, step_decides}
use Rattle.tie_bound.proofs.RoundLemmas.{IsJudged, task_in, judged_first, judged_open, judged_whole}
use Rattle.tie_bound.proofs.RoundLemmas.{judged_deeper, judged_all, judged_apart, level_is}
use Rattle.tie_bound.proofs.RoundLemmas.{one_less}
use Rattle.tie_bound.proofs.tie_rounds.take_rounds.Goals as goal

pub smaller-init : goal.smaller-init
smaller-init c =
    let box = c.args.zone_box.now in
    judged_first box.sheet (options_in_box box) c.args.club (c.len-time-end.result - 0)
    (clubs_in c.args.group) c.args.answers c.requires.level
    (omega (arith, c.len-time-end.ensures))

pub returns-then-not-taken : goal.returns-then-not-taken
returns-then-not-taken c =
    let box = c.args.zone_box.now in
    let options = options_in_box box in
    let club = c.args.club in
    let task = task_in box.sheet options (clubs_in c.args.group) club c.args.answers in
    let group = clubs_in c.smaller.group in
    let by_record = λ (rival : ℕ). by_record_ranges box.sheet options group rival club in
    let next = c.len-time-end.result - (c.smaller.time + 1) in
    let judged = one_less task (c.len-time-end.result - c.smaller.time) next group c.smaller.now
    (omega arith) c.smaller.invariant in
    let taken = c.take_records-taken.result.answers in
    let takes = step_decides (length box.sheet.clubs) by_record group c.smaller.now taken
    (others_decided (length box.sheet.clubs) c.smaller.now group judged.level)
    c.take_records-taken.ensures.answers in
    λ rival low asked.
    judged_open task next group c.smaller.now taken c.leave_open.result judged takes
    (step_decides (length box.sheet.clubs) (λ _. Unknown) group taken c.leave_open.result
    (others_stay (length box.sheet.clubs) by_record group c.smaller.now taken
    (others_decided (length box.sheet.clubs) c.smaller.now group judged.level)
    c.take_records-taken.ensures.answers)
    c.leave_open.ensures)
    (sym c.take_records-taken.ensures.sure
    ∙ not-true c.take_records-taken.result.is_sure c.if-not-taken.true)
    rival low

pub returns-then-len : goal.returns-then-len
returns-then-len c =
    let box = c.args.zone_box.now in
    let options = options_in_box box in
    let club = c.args.club in
    let task = task_in box.sheet options (clubs_in c.args.group) club c.args.answers in
    let group = clubs_in c.smaller.group in
    let by_record = λ (rival : ℕ). by_record_ranges box.sheet options group rival club in
    let next = c.len-time-end.result - (c.smaller.time + 1) in
    let judged = one_less task (c.len-time-end.result - c.smaller.time) next group c.smaller.now
    (omega arith) c.smaller.invariant in
    let taken = c.take_records-taken.result.answers in
    let takes = step_decides (length box.sheet.clubs) by_record group c.smaller.now taken
    (others_decided (length box.sheet.clubs) c.smaller.now group judged.level)
    c.take_records-taken.ensures.answers in
    let many : c.len-clubs.result ≡ length box.sheet.clubs =
    c.len-clubs.ensures ∙ ap (λ (s : Sheet). length s.clubs) c.sheet.ensures.sheet in
    let few : length box.sheet.clubs ≤ 24 = omega
    (arith, c.sheet.ensures.limits.most_clubs) in
    let level : AreLevelIn (length box.sheet.clubs) taken (clubs_in c.those_level-level.result) =
    λ x. c.those_level-level.ensures x
    ∙ ap (λ n. nat_lt x n && is_level (answer_at taken x)) many in
    let sure : are_all_sure box.sheet options group club ≡ true =
    sym c.take_records-taken.ensures.sure
    ∙ not-false c.take_records-taken.result.is_sure c.if-not-taken.false in
    let smaller = level_is (length box.sheet.clubs) c.smaller.group.bits
    c.those_level-level.result.bits c.smaller.now taken
    (λ rival. by_record_ranges box.sheet options group rival club) judged.level takes level in
    λ rival low asked.
    judged_whole task next group (clubs_in c.those_level-level.result) c.smaller.now taken
    c.take_last.result judged takes
    (step_decides (length box.sheet.clubs)
    (λ rival. by_overall_ranges box.sheet options rival club) group taken c.take_last.result
    (others_stay (length box.sheet.clubs) by_record group c.smaller.now taken
    (others_decided (length box.sheet.clubs) c.smaller.now group judged.level)
    c.take_records-taken.ensures.answers)
    c.take_last.ensures)
    sure smaller (sym c.len.ensures ∙ c.if-len.true ∙ c.len-in-smaller.ensures)
    rival low

pub smaller-preserved : goal.smaller-preserved
smaller-preserved c =
    let box = c.args.zone_box.now in
    let options = options_in_box box in
    let club = c.args.club in
    let task = task_in box.sheet options (clubs_in c.args.group) club c.args.answers in
    let group = clubs_in c.smaller.group in
    let by_record = λ (rival : ℕ). by_record_ranges box.sheet options group rival club in
    let next = c.len-time-end.result - (c.smaller.time + 1) in
    let judged = one_less task (c.len-time-end.result - c.smaller.time) next group c.smaller.now
    (omega arith) c.smaller.invariant in
    let taken = c.take_records-taken.result.answers in
    let takes = step_decides (length box.sheet.clubs) by_record group c.smaller.now taken
    (others_decided (length box.sheet.clubs) c.smaller.now group judged.level)
    c.take_records-taken.ensures.answers in
    let many : c.len-clubs.result ≡ length box.sheet.clubs =
    c.len-clubs.ensures ∙ ap (λ (s : Sheet). length s.clubs) c.sheet.ensures.sheet in
    let few : length box.sheet.clubs ≤ 24 = omega
    (arith, c.sheet.ensures.limits.most_clubs) in
    let level : AreLevelIn (length box.sheet.clubs) taken (clubs_in c.those_level-level.result) =
    λ x. c.those_level-level.ensures x
    ∙ ap (λ n. nat_lt x n && is_level (answer_at taken x)) many in
    let sure : are_all_sure box.sheet options group club ≡ true =
    sym c.take_records-taken.ensures.sure
    ∙ not-false c.take_records-taken.result.is_sure c.if-not-taken.false in
    let smaller = level_is (length box.sheet.clubs) c.smaller.group.bits
    c.those_level-level.result.bits c.smaller.now taken
    (λ rival. by_record_ranges box.sheet options group rival club) judged.level takes level in
    judged_deeper task next group (clubs_in c.those_level-level.result) c.smaller.now taken judged
    takes sure smaller
    (λ same. c.if-len.false (c.len.ensures ∙ same ∙ sym c.len-in-smaller.ensures)) level

pub returns : goal.returns
returns c =
    let box = c.args.zone_box.now in
    let task = task_in box.sheet (options_in_box box) (clubs_in c.args.group) c.args.club
    c.args.answers in
    let none : c.len-time-end.result - c.smaller.time ≡ 0 = omega arith in
    let P : ℕ → Type 0 = λ n. IsJudged task n (clubs_in c.smaller.group) c.smaller.now in
    λ rival low asked.
    judged_all task (clubs_in c.smaller.group) c.smaller.now
    (subst P none c.smaller.invariant)
    rival low

pub returns-then-is_empty : goal.returns-then-is_empty
returns-then-is_empty c = λ rival low asked.
    let box = c.args.zone_box.now in
    let task = task_in box.sheet (options_in_box box) (clubs_in c.args.group) c.args.club
    c.args.answers in
    judged_apart task (c.len-time-end.result - c.smaller.time) (clubs_in c.smaller.group)
    c.smaller.now rival c.smaller.invariant low
    (out (has_club (clubs_in c.smaller.group) rival) (has_club (clubs_in c.args.asked) rival) asked
    (sym (c.intersection.ensures rival)
    ∙ ap (λ (clubs : List ℕ). has_club clubs rival) (c.is_empty.ensures.0 c.if-is_empty.true)))
  where
    out : (b d : Bool) → d ≡ true → (b && d) ≡ false → b ≡ false
    out false d is none = refl
    out true d is none = absurd (false≢true (sym none ∙ is))
