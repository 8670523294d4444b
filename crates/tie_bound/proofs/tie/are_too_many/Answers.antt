use Rattle.std.proofs.Common.{◌≡◌, ℕ, ◌-◌, ◌||◌, nat_le, length, sym, ap, ◌∙◌}
use Rattle.league_core.specs.declared.sheet.Sheet.{Sheet}
use Rattle.league_core.specs.game.Sums.{has_club}
use Rattle.league_core.specs.game.ClubSets.{clubs_in}
use Rattle.league_core.specs.search.Zones.{marked_before, marked_after}
use Rattle.league_core.specs.search.Reasons.{too_many}
use Rattle.tie_bound.proofs.RivalLemmas.{common-is, count-is}
use Rattle.tie_bound.proofs.tie.are_too_many.Goals as goal

pub returns-in-Inside : goal.returns-in-Inside
returns-in-Inside c =
    let box = c.args.zone_box.now in
    let question = c.args.question.now in
    let rivals = c.args.rivals.now in
    let apart = c.args.apart in
    let front = λ (rival : ℕ). marked_before box.zone rival || has_club (clubs_in apart.above) rival
    in
    let back = λ (rival : ℕ). marked_after box.zone rival || has_club (clubs_in apart.below) rival
    in
    let found = common-is box.sheet question.club rivals.all.bits c.intersection-front.result.bits
    (has_club (clubs_in c.union.result)) front c.requires.all c.intersection-front.ensures
    (λ x within.
    c.union.ensures x
    ∙ ap (λ b. b || has_club (clubs_in apart.above) x) (c.requires.before x)) in
    ap (nat_le question.line) (c.len.ensures
    ∙ count-is box.sheet question.club c.intersection-front.result.bits front found)
    ∙ sym (ap (too_many box.sheet question front back) c.in-Inside.is)

pub returns-in-Outside : goal.returns-in-Outside
returns-in-Outside c =
    let box = c.args.zone_box.now in
    let question = c.args.question.now in
    let rivals = c.args.rivals.now in
    let apart = c.args.apart in
    let front = λ (rival : ℕ). marked_before box.zone rival || has_club (clubs_in apart.above) rival
    in
    let back = λ (rival : ℕ). marked_after box.zone rival || has_club (clubs_in apart.below) rival
    in
    let found = common-is box.sheet question.club rivals.all.bits c.intersection-back.result.bits
    (has_club (clubs_in c.union-in-Outside.result)) back c.requires.all c.intersection-back.ensures
    (λ x within.
    c.union-in-Outside.ensures x
    ∙ ap (λ b. b || has_club (clubs_in apart.below) x) (c.requires.after x)) in
    let left : c.saturating_sub.result ≡ length box.sheet.clubs - question.line =
    c.saturating_sub.ensures ∙ ap (λ n. n - question.line)
    (c.len-clubs.ensures ∙ ap (λ (s : Sheet). length s.clubs) c.sheet.ensures.sheet) in
    ap (λ n. nat_le n c.len-in-Outside.result) left
    ∙ ap (nat_le (length box.sheet.clubs - question.line))
    (c.len-in-Outside.ensures ∙ count-is box.sheet question.club c.intersection-back.result.bits
    back
    found)
    ∙ sym (ap (too_many box.sheet question front back) c.in-Outside.is)
