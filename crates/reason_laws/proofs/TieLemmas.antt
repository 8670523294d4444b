-- The tie-break reason is sound, and so are all five: if one holds, the question holds at no member
-- of the zone, whatever the lots.
use Rattle.std.proofs.Common.{◌≡◌, ℕ, ◌<◌, true, false, ◌&&◌, ◌||◌, List, length, refl, sym, ◌∙◌}
use Rattle.std.proofs.Common.{inl, inr}
use Rattle.std.specs.List.{list_any}
use Rattle.std.proofs.lemmas.Bool.{false≢true, true≢false, and_parts, or_cases}
use Rattle.league_core.specs.declared.sheet.Sheet.{Sheet}
use Rattle.league_core.specs.declared.sure.Sure.{Sure}
use Rattle.league_core.specs.declared.sure.Sure.TheVariants.{Above, Below, Level, Unknown}
use Rattle.league_core.specs.declared.question.Question.{Question}
use Rattle.league_core.specs.declared.zone.Literal.{Literal}
use Rattle.league_core.specs.declared.zone.Reason.{Reason}
use Rattle.league_core.specs.declared.zone.Reason.TheVariants.{Count, Window, Low, High, Tie}
use Rattle.league_core.specs.game.Results.{Results}
use Rattle.league_core.specs.game.ClubSets.{clubs_in}
use Rattle.league_core.specs.game.Ranking.{ranks_before}
use Rattle.league_core.specs.game.Questions.{holds_at}
use Rattle.league_core.specs.search.Zones.{rivals_of, marked_before, marked_after, IsMember}
use Rattle.league_core.specs.search.Options.{has_finish}
use Rattle.league_core.specs.search.SureOrder.{is_above, is_below, sure_order}
use Rattle.league_core.specs.search.Reasons.{has_reason, refutes_by_count, refutes_by_window}
use Rattle.league_core.specs.search.Reasons.{refutes_by_low, refutes_by_high, refutes_by_tie}
use Rattle.league_core.specs.search.Reasons.{is_surely_above, is_surely_below, are_too_many_sure}
use Rattle.league_core.specs.search.Reasons.{is_surely_wrong}
use Rattle.league_core.specs.search.Splits.{are_outcomes_fixed}
use Rattle.reason_laws.proofs.MemberLemmas.{member_in_box}
use Rattle.reason_laws.proofs.MarkedOrderLemmas.{before_is, after_is}
use Rattle.reason_laws.proofs.ReasonLemmas.{too_many_says, holds_parts, count_says, window_says}
use Rattle.reason_laws.proofs.ReasonLemmas.{floor_says, ceiling_says}
use Rattle.reason_laws.proofs.SureOrderLemmas.{above_is, below_is_not}
use Rattle.league_core.proofs.plain.Lists.{list_any-never}

above_says : (sure : Sure) → is_above sure ≡ true → sure ≡ Above
above_says Above is = refl
above_says Below is = absurd (false≢true is)
above_says Level is = absurd (false≢true is)
above_says Unknown is = absurd (false≢true is)

below_says : (sure : Sure) → is_below sure ≡ true → sure ≡ Below
below_says Above is = absurd (false≢true is)
below_says Below is = refl
below_says Level is = absurd (false≢true is)
below_says Unknown is = absurd (false≢true is)

-- a rival that is surely above the question's club ranks before it at a member, one that is surely
-- below does not
surely_above_is : (sheet : Sheet) (season : Results) (question : Question) (zone : List Literal)
    (finish : Results) (lots : List ℕ) → are_outcomes_fixed sheet season zone ≡ true
    → IsMember sheet season question.club zone finish lots → (rival : ℕ)
    → is_surely_above sheet season question zone rival ≡ true
    → ranks_before sheet finish lots rival question.club ≡ true
surely_above_is sheet season question zone finish lots fixed member rival above =
    above_is sheet season zone finish rival question.club fixed
    (member_in_box sheet season question.club zone finish lots member)
    (above_says (sure_order sheet season zone rival question.club) above) lots

surely_below_is : (sheet : Sheet) (season : Results) (question : Question) (zone : List Literal)
    (finish : Results) (lots : List ℕ) → are_outcomes_fixed sheet season zone ≡ true
    → IsMember sheet season question.club zone finish lots → (rival : ℕ)
    → is_surely_below sheet season question zone rival ≡ true
    → ranks_before sheet finish lots rival question.club ≡ false
surely_below_is sheet season question zone finish lots fixed member rival below =
    below_is_not sheet season zone finish rival question.club fixed
    (member_in_box sheet season question.club zone finish lots member)
    (below_says (sure_order sheet season zone rival question.club) below) lots

-- too many rivals that are marked or surely stand on the other side leave the club off its own
too_many_sure_says : (sheet : Sheet) (season : Results) (question : Question) (zone : List Literal)
    (finish : Results) (lots : List ℕ) → question.club < length sheet.clubs
    → are_outcomes_fixed sheet season zone ≡ true
    → IsMember sheet season question.club zone finish lots
    → are_too_many_sure sheet season question zone ≡ true
    → holds_at sheet question finish lots ≡ true → ⊥
too_many_sure_says sheet season question zone finish lots club_in fixed member many holds =
    let off = too_many_says sheet question finish lots
    (λ rival. marked_before zone rival || is_surely_above sheet season question zone rival)
    (λ rival. marked_after zone rival || is_surely_below sheet season question zone rival)
    question.claim club_in ahead behind many in
    false≢true (sym off ∙ (holds_parts sheet question finish lots holds).2)
  where
    ahead : (rival : ℕ)
        → (marked_before zone rival || is_surely_above sheet season question zone rival) ≡ true
        → ranks_before sheet finish lots rival question.club ≡ true
    ahead rival is =
        elim (or_cases (marked_before zone rival)
        (is_surely_above sheet season question zone rival) is) as (λ _. ranks_before sheet finish
        lots rival question.club ≡ true) [
          | inl marked ↦ before_is sheet question.club finish lots zone rival member.literals marked
          | inr above ↦ surely_above_is sheet season question zone finish lots fixed member rival
              above
        ]

    behind : (rival : ℕ)
        → (marked_after zone rival || is_surely_below sheet season question zone rival) ≡ true
        → ranks_before sheet finish lots rival question.club ≡ false
    behind rival is =
        elim (or_cases (marked_after zone rival)
        (is_surely_below sheet season question zone rival) is) as (λ _. ranks_before sheet finish
        lots rival question.club ≡ false) [
          | inl marked ↦ after_is sheet question.club finish lots zone rival member.literals marked
          | inr below ↦ surely_below_is sheet season question zone finish lots fixed member rival
              below
        ]

-- a rival that surely is not where it is marked leaves the zone no member
surely_wrong_says : (sheet : Sheet) (season : Results) (question : Question) (zone : List Literal)
    (finish : Results) (lots : List ℕ) → are_outcomes_fixed sheet season zone ≡ true
    → IsMember sheet season question.club zone finish lots → (rival : ℕ)
    → is_surely_wrong sheet season question zone rival ≡ true → ⊥
surely_wrong_says sheet season question zone finish lots fixed member rival wrong =
    elim (or_cases (marked_after zone rival && is_surely_above sheet season question zone rival)
    (marked_before zone rival && is_surely_below sheet season question zone rival)
    wrong) as (λ _. ⊥) [
      | inl after ↦
          let parts = and_parts (marked_after zone rival) (is_surely_above sheet season question
          zone rival) after in
          true≢false (sym
          (surely_above_is sheet season question zone finish lots fixed member rival parts.1)
          ∙ after_is sheet question.club finish lots zone rival member.literals parts.0)
      | inr before ↦
          let parts = and_parts (marked_before zone rival) (is_surely_below sheet season question
          zone rival) before in
          true≢false (sym
          (before_is sheet question.club finish lots zone rival member.literals parts.0)
          ∙ surely_below_is sheet season question zone finish lots fixed member rival parts.1)
    ]

pub tie_says : (sheet : Sheet) (season : Results) (question : Question) (zone : List Literal)
    (finish : Results) (lots : List ℕ) → question.club < length sheet.clubs
    → IsMember sheet season question.club zone finish lots
    → refutes_by_tie sheet season question zone ≡ true → holds_at sheet question finish lots ≡ true
    → ⊥
tie_says sheet season question zone finish lots club_in member reason holds =
    let parts = and_parts (are_outcomes_fixed sheet season zone) (are_too_many_sure sheet season
    question zone
    || list_any (is_surely_wrong sheet season question zone) (rivals_of sheet question.club))
    reason in
    elim (or_cases (are_too_many_sure sheet season question zone)
    (list_any (is_surely_wrong sheet season question zone) (rivals_of sheet question.club))
    parts.1) as (λ _. ⊥) [
      | inl many ↦ too_many_sure_says sheet season question zone finish lots club_in parts.0 member
          many holds
      | inr wrong ↦ list_any-never (is_surely_wrong sheet season question zone)
          (rivals_of sheet question.club)
          (surely_wrong_says sheet season question zone finish lots parts.0 member) wrong
    ]

-- if a reason holds, no member is an example
pub reason_says : (sheet : Sheet) (season : Results) (question : Question) (zone : List Literal)
    (reason : Reason) (finish : Results) (lots : List ℕ) → question.club < length sheet.clubs
    → has_reason sheet season question zone reason ≡ true
    → IsMember sheet season question.club zone finish lots
    → holds_at sheet question finish lots ≡ true → ⊥
unfolding has_reason
reason_says sheet season question zone Count finish lots club_in reason member holds =
    count_says sheet season question zone finish lots club_in member
    (and_parts (has_finish sheet season zone) (refutes_by_count sheet question zone) reason).1
    holds
reason_says sheet season question zone Window finish lots club_in reason member holds =
    window_says sheet season question zone finish lots member
    (and_parts (has_finish sheet season zone)
    (refutes_by_window sheet season question zone) reason).1 holds
reason_says sheet season question zone (Low set) finish lots club_in reason member holds =
    floor_says sheet season question zone (clubs_in set) finish lots member
    (and_parts (has_finish sheet season zone)
    (refutes_by_low sheet season question zone (clubs_in set)) reason).1 holds
reason_says sheet season question zone (High set) finish lots club_in reason member holds =
    ceiling_says sheet season question zone (clubs_in set) finish lots member
    (and_parts (has_finish sheet season zone)
    (refutes_by_high sheet season question zone (clubs_in set)) reason).1 holds
reason_says sheet season question zone Tie finish lots club_in reason member holds =
    tie_says sheet season question zone finish lots club_in member
    (and_parts (has_finish sheet season zone)
    (refutes_by_tie sheet season question zone) reason).1 holds
