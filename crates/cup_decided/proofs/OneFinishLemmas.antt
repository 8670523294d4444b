-- Of a zone in which one finish is left each question about a group has an example, or a reason.
use Rattle.std.proofs.Common.{◌≡◌, ◌⊎◌, ◌<◌, ℕ, ℤ, Bool, true, false, not, List, length, refl, sym}
use Rattle.std.proofs.Common.{ap, ap₂, ◌∙◌, subst, inl, inr, nat_le, arith, ◌≤◌}
use Rattle.std.proofs.lemmas.Bool.{cases_Bool, false≢true, true≢false, and_parts, leb-true}
use Rattle.std.proofs.lemmas.Bool.{leb-false, not-true}
use Rattle.league_core.specs.declared.sheet.Sheet.{Sheet}
use Rattle.league_core.specs.declared.question.Claim.TheVariants.{Inside, Outside}
use Rattle.league_core.specs.declared.question.Question.{Question}
use Rattle.league_core.specs.declared.zone.Literal.{Literal}
use Rattle.league_core.specs.declared.zone.Reason.{Reason}
use Rattle.league_core.specs.declared.zone.Reason.TheVariants.{Window, Tie}
use Rattle.league_core.specs.game.Questions.{IsExample, is_in_window}
use Rattle.league_core.specs.game.Ranking.{place_of}
use Rattle.league_core.specs.game.Results.{Results}
use Rattle.league_core.specs.game.Seasons.{IsSeasonOf}
use Rattle.league_core.specs.game.Sums.{points_of}
use Rattle.league_core.specs.inside.LotsFor.{lots_for_claim}
use Rattle.league_core.specs.search.Keys.{key_of}
use Rattle.league_core.specs.search.Options.{has_finish, is_single, IsInBox}
use Rattle.league_core.specs.search.Proposals.{proposed_finish}
use Rattle.league_core.specs.search.Reasons.{has_reason}
use Rattle.league_core.proofs.ProposalLemmas.{proposed_in_box, proposed_is_finish}
use Rattle.reason_laws.proofs.DecidedLemmas.{single_decided_by_two}
use Rattle.club_keys.proofs.SingleKeyLemmas.{ends_meet, key_meets}
use Rattle.cup_sheet.specs.declared.question.GroupKind.{GroupKind}
use Rattle.cup_sheet.specs.declared.question.GroupKind.TheVariants.{Top, Below, SecondLess}
use Rattle.cup_sheet.specs.declared.question.GroupKind.TheVariants.{SecondAtLeast, SecondMore}
use Rattle.cup_sheet.specs.declared.question.GroupKind.TheVariants.{SecondAtMost}
use Rattle.cup_sheet.specs.declared.question.GroupReason.{GroupReason}
use Rattle.cup_sheet.specs.declared.question.GroupReason.TheVariants.{Plain, In, Out, ByKey}
use Rattle.cup_sheet.specs.CupLimits.{direct_places}
use Rattle.cup_sheet.specs.GroupQuestions.{GroupQuestion, IsGroupExample, has_group_reason}
use Rattle.cup_sheet.specs.GroupQuestions.{is_key_on_side, is_key_refuted, is_of_place}
use Rattle.cup_sheet.specs.GroupQuestions.{place_question, reach_question, after_question}
use Rattle.group_search.proofs.GroupExampleLemmas.{candidate_example, place_is_group_example}
use Rattle.group_search.proofs.GroupExampleLemmas.{place_question-club}
use Rattle.group_search.proofs.GroupReasonLemmas.{plain_holds, in_holds, out_holds, key_holds}
use Rattle.group_search.proofs.SecondLotsLemmas.{second_between, second_lots-are_lots}
use Rattle.group_search.specs.inside.SecondLots.{second_lots}

-- ---- a question of the table, and a key

-- a question of the table has a reason, or the finish is an example
table_decided : (sheet : Sheet) (season : Results) (asked : Question) (zone : List Literal)
    (finish : Results) → asked.club < length sheet.clubs → is_single sheet season zone ≡ true
    → IsInBox sheet season zone finish
    → ((reason : Reason) × (has_reason sheet season asked zone reason ≡ true))
    ⊎ IsExample sheet season asked finish
    (lots_for_claim (length sheet.clubs) asked.club asked.claim)
table_decided sheet season asked zone finish club_in single box =
    elim (cases_Bool (has_reason sheet season asked zone Window)) [
      | inl holds ↦ inl (Window, holds)
      | inr no_window ↦ elim (cases_Bool (has_reason sheet season asked zone Tie)) [
        | inl holds ↦ inl (Tie, holds)
        | inr no_tie ↦ inr (single_decided_by_two sheet season asked zone finish club_in single
            (λ holds. false≢true (sym no_window ∙ holds))
            (λ holds. false≢true (sym no_tie ∙ holds)) box)
      ]
    ]

shown_else : (b : Bool) → not b ≡ false → b ≡ true
shown_else true fails = refl
shown_else false fails = sym fails

-- one key alone that is not on the side that is asked for is refuted
off_side_is_refuted : (kind : GroupKind) (bound key : List ℤ) → is_of_place kind ≡ false
    → is_key_on_side kind bound key ≡ false → is_key_refuted kind bound key key ≡ true
off_side_is_refuted Top bound key other off = absurd (true≢false other)
off_side_is_refuted Below bound key other off = absurd (true≢false other)
off_side_is_refuted SecondLess bound key other off = shown_else _ off
off_side_is_refuted SecondAtLeast bound key other off = ap not off
off_side_is_refuted SecondMore bound key other off = shown_else _ off
off_side_is_refuted SecondAtMost bound key other off = ap not off

module _ (sheet : Sheet) (season : Results) (question : GroupQuestion)
    (of_sheet : IsSeasonOf sheet season) (club_in : question.club < length sheet.clubs) where
  -- what the question asks of the place
  abbrev pub table_question : Question
  table_question = place_question direct_places question.kind question.club

  -- some example, or a reason in the zone
  abbrev pub IsFoundHere : List Literal → Type 0
  IsFoundHere zone =
      ((found : Results × List ℕ)
      × IsGroupExample direct_places sheet season question found.0 found.1)
      ⊎ ((reason : GroupReason)
      × (has_group_reason direct_places sheet season question zone reason ≡ true))

  module _ (zone : List Literal) (some : has_finish sheet season zone ≡ true)
      (single : is_single sheet season zone ≡ true) where
    abbrev one_finish : Results
    one_finish = proposed_finish sheet season table_question zone

    one_in_box : IsInBox sheet season zone one_finish
    one_in_box = proposed_in_box sheet season table_question zone of_sheet some

    -- of a kind about the place alone
    place_found : is_of_place question.kind ≡ true → IsFoundHere zone
    place_found of_place =
        let place = table_question in
        let lots = lots_for_claim (length sheet.clubs) place.club place.claim in
        elim (table_decided sheet season place zone one_finish
        (subst (λ (club : ℕ). club < length sheet.clubs)
        (sym (place_question-club direct_places question.kind question.club)) club_in)
        single one_in_box) as (λ _. IsFoundHere zone) [
          | inl why ↦ inr (
            Plain why.0,
            plain_holds direct_places sheet season question zone why.0 of_place why.1,
          )
          | inr example ↦ inl (
            (one_finish, lots),
            place_is_group_example direct_places sheet season one_finish lots question of_place
                example,
          )
        ]

    -- a club that can be no worse than the candidate, and no better, can be the candidate
    candidate_found : is_of_place question.kind ≡ false
        → is_key_on_side question.kind question.key (key_of sheet one_finish question.club) ≡ true
        → IsExample sheet season (reach_question direct_places question.club) one_finish
        (lots_for_claim (length sheet.clubs) question.club Inside)
        → IsExample sheet season (after_question direct_places question.club) one_finish
        (lots_for_claim (length sheet.clubs) question.club Outside) → IsFoundHere zone
    candidate_found of_candidate on_side reached missed =
        let clubs = length sheet.clubs in
        let club = question.club in
        let best = lots_for_claim clubs club Inside in
        let worst = lots_for_claim clubs club Outside in
        let points = points_of sheet one_finish club in
        let high = leb-true (place_of sheet one_finish best club) 2
        (and_parts (is_in_window (reach_question direct_places club) points)
        (nat_le (place_of sheet one_finish best club) 2) reached.holds).1 in
        let low : 2 ≤ place_of sheet one_finish worst club = omega (
          arith,
          leb-false (place_of sheet one_finish worst club) 1
              (not-true (nat_le (place_of sheet one_finish worst club) 1)
              (and_parts (is_in_window (after_question direct_places club) points)
              (not (nat_le (place_of sheet one_finish worst club) 1)) missed.holds).1),
        ) in
        let found = second_between sheet one_finish best worst club high low in
        let lots = second_lots clubs found.0 club in
        inl (
          (one_finish, lots),
          candidate_example direct_places sheet season one_finish lots question of_candidate
              (proposed_is_finish sheet season table_question zone of_sheet some)
              (second_lots-are_lots clubs found.0 club found.1 club_in found.2) found.3 on_side,
        )

    -- a key that is not on the side that is asked for is a reason
    key_found_off : is_of_place question.kind ≡ false
        → is_key_on_side question.kind question.key (key_of sheet one_finish question.club)
        ≡ false → has_group_reason direct_places sheet season question zone ByKey ≡ true
    key_found_off of_candidate off =
        let key = key_of sheet one_finish question.club in
        let low = key_meets sheet season zone one_finish question.club single one_in_box in
        let high = low ∙ ends_meet sheet season zone question.club single in
        key_holds direct_places sheet season question zone some
        (sym (ap₂ (λ (a b : List ℤ). is_key_refuted question.kind question.key a b) low high)
        ∙ off_side_is_refuted question.kind question.key key of_candidate off)

    -- of any other kind
    second_found : is_of_place question.kind ≡ false → IsFoundHere zone
    second_found of_candidate =
        let club = question.club in
        elim (cases_Bool (is_key_on_side question.kind question.key
        (key_of sheet one_finish club))) as (λ _. IsFoundHere zone) [
          | inr off ↦ inr (ByKey, key_found_off of_candidate off)
          | inl on_side ↦ elim (table_decided sheet season (reach_question direct_places club)
              zone one_finish club_in single one_in_box) as (λ _. IsFoundHere zone) [
                | inl why ↦ inr (
                  In why.0,
                  in_holds direct_places sheet season question zone why.0 of_candidate why.1,
                )
                | inr reached ↦ elim (table_decided sheet season
                    (after_question direct_places club) zone one_finish club_in single
                    one_in_box) as (λ _. IsFoundHere zone) [
                      | inl why ↦ inr (
                        Out why.0,
                        out_holds direct_places sheet season question zone why.0 of_candidate
                            why.1,
                      )
                      | inr missed ↦ candidate_found of_candidate on_side reached missed
                    ]
              ]
        ]

    -- so an example or a reason
    pub one_found : IsFoundHere zone
    one_found =
        elim (cases_Bool (is_of_place question.kind)) as (λ _. IsFoundHere zone) [
          | inl of_place ↦ place_found of_place
          | inr of_candidate ↦ second_found of_candidate
        ]
