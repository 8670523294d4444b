-- The reasons of a question about a group, out of those of questions of its table and of its key.
use Rattle.std.proofs.Common.{◌≡◌, ℕ, ℤ, Bool, true, false, not, ◌&&◌, List, refl, ap, ◌∙◌}
use Rattle.std.proofs.Math.Bool.{and-false}
use Rattle.std.proofs.lemmas.Bool.{false≢true, and_from}
use Rattle.league_core.specs.declared.sheet.Sheet.{Sheet}
use Rattle.league_core.specs.declared.zone.Literal.{Literal}
use Rattle.league_core.specs.declared.zone.Reason.{Reason}
use Rattle.league_core.specs.game.Results.{Results}
use Rattle.league_core.specs.search.Keys.{low_key, high_key}
use Rattle.league_core.specs.search.Options.{has_finish}
use Rattle.league_core.specs.search.Reasons.{has_reason}
use Rattle.cup_sheet.specs.declared.question.GroupKind.{GroupKind}
use Rattle.cup_sheet.specs.declared.question.GroupKind.TheVariants.{Top, Below, SecondLess}
use Rattle.cup_sheet.specs.declared.question.GroupKind.TheVariants.{SecondAtLeast, SecondMore}
use Rattle.cup_sheet.specs.declared.question.GroupKind.TheVariants.{SecondAtMost}
use Rattle.cup_sheet.specs.declared.question.GroupReason.{GroupReason}
use Rattle.cup_sheet.specs.declared.question.GroupReason.TheVariants.{Plain, In, Out, ByKey}
use Rattle.cup_sheet.specs.GroupQuestions.{GroupQuestion, has_group_reason, is_of_place}
use Rattle.cup_sheet.specs.GroupQuestions.{is_key_refuted, place_question, reach_question}
use Rattle.cup_sheet.specs.GroupQuestions.{after_question}

-- if the first of two holds and not both, the second does not
second_fails : (a b : Bool) → a ≡ true → (a && b) ≡ false → b ≡ false
second_fails true b first fails = fails
second_fails false b first fails = absurd (false≢true first)

module _ (direct : ℕ) (sheet : Sheet) (season : Results) (question : GroupQuestion)
    (zone : List Literal) where
  -- whether no key in the zone is on the side that is asked for
  abbrev pub is_refuted_here : Bool
  is_refuted_here =
      is_key_refuted question.kind question.key (low_key sheet season zone question.club)
      (high_key sheet season zone question.club)

  -- ---- a reason holds

  pub plain_holds : (reason : Reason) → is_of_place question.kind ≡ true
      → has_reason sheet season (place_question direct question.kind question.club) zone reason
      ≡ true → has_group_reason direct sheet season question zone (Plain reason) ≡ true
  unfolding has_group_reason
  plain_holds reason of_place holds =
      and_from (is_of_place question.kind)
      (has_reason sheet season (place_question direct question.kind question.club) zone reason)
      of_place holds

  pub in_holds : (reason : Reason) → is_of_place question.kind ≡ false
      → has_reason sheet season (reach_question direct question.club) zone reason ≡ true
      → has_group_reason direct sheet season question zone (In reason) ≡ true
  unfolding has_group_reason
  in_holds reason of_candidate holds =
      and_from (not (is_of_place question.kind))
      (has_reason sheet season (reach_question direct question.club) zone reason)
      (ap not of_candidate) holds

  pub out_holds : (reason : Reason) → is_of_place question.kind ≡ false
      → has_reason sheet season (after_question direct question.club) zone reason ≡ true
      → has_group_reason direct sheet season question zone (Out reason) ≡ true
  unfolding has_group_reason
  out_holds reason of_candidate holds =
      and_from (not (is_of_place question.kind))
      (has_reason sheet season (after_question direct question.club) zone reason)
      (ap not of_candidate) holds

  pub key_holds : has_finish sheet season zone ≡ true → is_refuted_here ≡ true
      → has_group_reason direct sheet season question zone ByKey ≡ true
  unfolding has_group_reason
  key_holds some refuted =
      and_from (has_finish sheet season zone) is_refuted_here some refuted

  -- ---- none holds

  place_has_no_key : (kind : GroupKind) (bound low high : List ℤ) → is_of_place kind ≡ true
      → is_key_refuted kind bound low high ≡ false
  place_has_no_key Top bound low high of_place = refl
  place_has_no_key Below bound low high of_place = refl
  place_has_no_key SecondLess bound low high of_place = absurd (false≢true of_place)
  place_has_no_key SecondAtLeast bound low high of_place = absurd (false≢true of_place)
  place_has_no_key SecondMore bound low high of_place = absurd (false≢true of_place)
  place_has_no_key SecondAtMost bound low high of_place = absurd (false≢true of_place)

  -- of a kind about the place alone
  pub no_place_reason : is_of_place question.kind ≡ true
      → ((reason : Reason) → has_reason sheet season
      (place_question direct question.kind question.club) zone reason ≡ false)
      → (reason : GroupReason) → has_group_reason direct sheet season question zone reason ≡ false
  unfolding has_group_reason
  no_place_reason of_place none (Plain reason) =
      ap (λ b. is_of_place question.kind && b) (none reason)
      ∙ and-false (is_of_place question.kind)
  no_place_reason of_place none (In reason) =
      ap (λ b. not b
      && has_reason sheet season (reach_question direct question.club) zone reason) of_place
  no_place_reason of_place none (Out reason) =
      ap (λ b. not b
      && has_reason sheet season (after_question direct question.club) zone reason) of_place
  no_place_reason of_place none ByKey =
      ap (λ b. has_finish sheet season zone && b)
      (place_has_no_key question.kind question.key (low_key sheet season zone question.club)
      (high_key sheet season zone question.club) of_place)
      ∙ and-false (has_finish sheet season zone)

  -- of any other kind
  pub no_candidate_reason : is_of_place question.kind ≡ false → is_refuted_here ≡ false
      → ((reason : Reason) → has_reason sheet season (reach_question direct question.club) zone
      reason ≡ false)
      → ((reason : Reason) → has_reason sheet season (after_question direct question.club) zone
      reason ≡ false)
      → (reason : GroupReason) → has_group_reason direct sheet season question zone reason ≡ false
  unfolding has_group_reason
  no_candidate_reason of_candidate key no_in no_out (Plain reason) =
      ap (λ b. b && has_reason sheet season
      (place_question direct question.kind question.club) zone reason) of_candidate
  no_candidate_reason of_candidate key no_in no_out (In reason) =
      ap (λ b. not (is_of_place question.kind) && b) (no_in reason)
      ∙ and-false (not (is_of_place question.kind))
  no_candidate_reason of_candidate key no_in no_out (Out reason) =
      ap (λ b. not (is_of_place question.kind) && b) (no_out reason)
      ∙ and-false (not (is_of_place question.kind))
  no_candidate_reason of_candidate key no_in no_out ByKey =
      ap (λ b. has_finish sheet season zone && b) key
      ∙ and-false (has_finish sheet season zone)

  -- ---- and what that says of the table

  pub place_unrefuted : (reason : Reason) → is_of_place question.kind ≡ true
      → has_group_reason direct sheet season question zone (Plain reason) ≡ false
      → has_reason sheet season (place_question direct question.kind question.club) zone reason
      ≡ false
  unfolding has_group_reason
  place_unrefuted reason of_place none =
      second_fails (is_of_place question.kind)
      (has_reason sheet season (place_question direct question.kind question.club) zone reason)
      of_place none

  pub in_unrefuted : (reason : Reason) → is_of_place question.kind ≡ false
      → has_group_reason direct sheet season question zone (In reason) ≡ false
      → has_reason sheet season (reach_question direct question.club) zone reason ≡ false
  unfolding has_group_reason
  in_unrefuted reason of_candidate none =
      second_fails (not (is_of_place question.kind))
      (has_reason sheet season (reach_question direct question.club) zone reason)
      (ap not of_candidate) none

  pub out_unrefuted : (reason : Reason) → is_of_place question.kind ≡ false
      → has_group_reason direct sheet season question zone (Out reason) ≡ false
      → has_reason sheet season (after_question direct question.club) zone reason ≡ false
  unfolding has_group_reason
  out_unrefuted reason of_candidate none =
      second_fails (not (is_of_place question.kind))
      (has_reason sheet season (after_question direct question.club) zone reason)
      (ap not of_candidate) none

  pub key_unrefuted : has_finish sheet season zone ≡ true
      → has_group_reason direct sheet season question zone ByKey ≡ false
      → is_refuted_here ≡ false
  unfolding has_group_reason
  key_unrefuted some none = second_fails (has_finish sheet season zone) is_refuted_here some none
