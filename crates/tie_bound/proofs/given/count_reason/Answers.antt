-- The rivals that are marked are those of a set.
use Rattle.std.proofs.Common.{◌≡◌, ◌-◌, ◌&&◌, nat_le, length, sym, ap, ◌∙◌}
use Rattle.league_core.specs.declared.sheet.Sheet.{Sheet}
use Rattle.league_core.specs.game.Sums.{has_club}
use Rattle.league_core.specs.game.ClubSets.{clubs_in}
use Rattle.league_core.specs.search.Zones.{rivals_of, marked_before, marked_after}
use Rattle.league_core.specs.search.Reasons.{has_reason, too_many, refutes_by_count}
use Rattle.tie_bound.proofs.RivalLemmas.{common-is, count-is}
use Rattle.tie_bound.proofs.given.count_reason.Goals as goal

pub returns-in-Inside : goal.returns-in-Inside
unfolding has_reason
returns-in-Inside c =
    let box = c.args.zone_box.now in
    let question = c.args.question.now in
    let front = marked_before box.zone in
    let rivals = c.rivals_of-rivals.ensures ∙ ap (λ (s : Sheet). rivals_of s question.club)
    c.sheet.ensures.sheet in
    let found = common-is box.sheet question.club c.rivals_of-rivals.result.bits
    c.intersection.result.bits (has_club (clubs_in c.before-in-Inside.result)) front rivals
    c.intersection.ensures (λ x within. c.before-in-Inside.ensures x) in
    ap (nat_le question.line) (c.len.ensures
    ∙ count-is box.sheet question.club c.intersection.result.bits front found)
    ∙ sym (ap (too_many box.sheet question front (marked_after box.zone)) c.in-Inside.is)
    ∙ sym (ap (λ b. b && refutes_by_count box.sheet question box.zone) c.requires)

pub returns-in-Outside : goal.returns-in-Outside
unfolding has_reason
returns-in-Outside c =
    let box = c.args.zone_box.now in
    let question = c.args.question.now in
    let back = marked_after box.zone in
    let rivals = c.rivals_of-rivals.ensures ∙ ap (λ (s : Sheet). rivals_of s question.club)
    c.sheet.ensures.sheet in
    let found = common-is box.sheet question.club c.rivals_of-rivals.result.bits
    c.intersection-in-Outside.result.bits (has_club (clubs_in c.after.result)) back rivals
    c.intersection-in-Outside.ensures (λ x within. c.after.ensures x) in
    let left : c.saturating_sub.result ≡ length box.sheet.clubs - question.line =
    c.saturating_sub.ensures ∙ ap (λ n. n - question.line)
    (c.len-clubs.ensures ∙ ap (λ (s : Sheet). length s.clubs) c.sheet-in-Outside.ensures.sheet) in
    ap (λ n. nat_le n c.len-in-Outside.result) left
    ∙ ap (nat_le (length box.sheet.clubs - question.line))
    (c.len-in-Outside.ensures ∙ count-is box.sheet question.club
    c.intersection-in-Outside.result.bits
    back
    found)
    ∙ sym (ap (too_many box.sheet question (marked_before box.zone) back) c.in-Outside.is)
    ∙ sym (ap (λ b. b && refutes_by_count box.sheet question box.zone) c.requires)
