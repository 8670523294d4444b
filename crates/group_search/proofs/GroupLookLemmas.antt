-- What may be found in a zone for a question about a group, and in which zones can be looked.
use Rattle.std.proofs.Common.{◌≡◌, ℕ, ◌<◌, ◌≤◌, Bool, true, false, not, nat_le, ℤ, List, []}
use Rattle.std.proofs.Common.{length, refl, sym, ◌∙◌, ap, ap₂, subst, inl, inr, arith}
use Rattle.std.proofs.lemmas.Bool.{cases_Bool, false≢true, true≢false, and_parts, leb-true}
use Rattle.std.proofs.lemmas.Bool.{leb-false, not-true}
use Rattle.league_core.specs.declared.sheet.Sheet.{Sheet}
use Rattle.league_core.specs.declared.question.Claim.TheVariants.{Inside, Outside}
use Rattle.league_core.specs.declared.zone.Literal.{Literal}
use Rattle.league_core.specs.declared.zone.Reason.TheVariants.{Window, Tie}
use Rattle.league_core.specs.declared.zone.Test.{Test}
use Rattle.league_core.specs.game.Results.{Results, are_results}
use Rattle.league_core.specs.game.Seasons.{IsLeague, IsSeasonOf}
use Rattle.league_core.specs.game.Sums.{points_of}
use Rattle.league_core.specs.game.Finishes.{IsFinishOf}
use Rattle.league_core.specs.game.Ranking.{place_of}
use Rattle.league_core.specs.game.Questions.{is_in_window}
use Rattle.league_core.specs.inside.LotsFor.{lots_for_claim}
use Rattle.league_core.specs.search.Keys.{key_of, is_key_from}
use Rattle.league_core.specs.search.Options.{has_finish, is_single, IsInBox}
use Rattle.league_core.specs.search.Zones.{with_test}
use Rattle.league_core.proofs.HalfLemmas.{half_has_finish, root_has_finish}
use Rattle.league_core.proofs.ProposalLemmas.{proposed_in_box, proposed_is_finish}
use Rattle.reason_laws.proofs.DecidedLemmas.{single_decided_by_two}
use Rattle.reason_laws.proofs.HalfMarkLemmas.{proper_names, zone_for_half}
use Rattle.club_keys.proofs.SingleKeyLemmas.{ends_meet, key_meets}
use Rattle.score_box.specs.inside.ZoneBoxViews.{ZoneBoxView}
use Rattle.branch_rules.specs.inside.Choices.{IsDueSplit}
use Rattle.tree_arena.specs.declared.example.Example.{Example}
use Rattle.depth_search.specs.declared.kind.ZoneLook.{ZoneLook}
use Rattle.depth_search.specs.declared.kind.ZoneLook.TheVariants as look
use Rattle.depth_search.specs.inside.Searches.{FitHalves}
use Rattle.cup_sheet.specs.declared.question.GroupKind.{GroupKind}
use Rattle.cup_sheet.specs.declared.question.GroupKind.TheVariants.{Top, Below, SecondLess}
use Rattle.cup_sheet.specs.declared.question.GroupKind.TheVariants.{SecondAtLeast, SecondMore}
use Rattle.cup_sheet.specs.declared.question.GroupKind.TheVariants.{SecondAtMost}
use Rattle.cup_sheet.specs.declared.question.GroupReason.{GroupReason}
use Rattle.cup_sheet.specs.declared.question.GroupReason.TheVariants.{Plain, In, Out, ByKey}
use Rattle.cup_sheet.specs.CupLimits.{direct_places}
use Rattle.cup_sheet.specs.GroupQuestions.{GroupQuestion, has_group_reason, is_of_place}
use Rattle.cup_sheet.specs.GroupQuestions.{is_key_refuted, is_key_on_side, place_question}
use Rattle.cup_sheet.specs.GroupQuestions.{reach_question, after_question}
use Rattle.cup_sheet.specs.GroupTrees.{proposed_in_group, IsFairGroupSplit}
use Rattle.group_search.specs.inside.SecondLots.{second_lots}
use Rattle.group_search.specs.inside.GroupLooks.{IsVainInGroup, IsGroupLookIn}
use Rattle.group_search.specs.inside.GroupTasks.{AskedInGroup, MayLookInGroup, SplitsInGroup}
use Rattle.group_search.proofs.SecondLotsLemmas.{second_between}
use Rattle.group_search.proofs.SecondLotsLemmas.{second_lots-are_lots}
use Rattle.group_search.proofs.GroupExampleLemmas.{candidate_example, place_is_group_example}
use Rattle.group_search.proofs.GroupExampleLemmas.{place_question-club}
use Rattle.group_search.proofs.GroupReasonLemmas.{place_unrefuted, in_unrefuted, out_unrefuted}
use Rattle.group_search.proofs.GroupReasonLemmas.{key_unrefuted}

-- ---- a zone in which nothing is found has several scores left

shown : (b : Bool) → not b ≡ false → b ≡ true
shown true fails = refl
shown false fails = sym fails

-- one key alone that is not refuted is on the side that is asked for
one_key_on_side : (kind : GroupKind) (bound key : List ℤ) → is_of_place kind ≡ false
    → is_key_refuted kind bound key key ≡ false → is_key_on_side kind bound key ≡ true
one_key_on_side Top bound key other fails = absurd (true≢false other)
one_key_on_side Below bound key other fails = absurd (true≢false other)
one_key_on_side SecondLess bound key other fails = ap not fails
one_key_on_side SecondAtLeast bound key other fails = shown (is_key_from bound key) fails
one_key_on_side SecondMore bound key other fails = ap not fails
one_key_on_side SecondAtMost bound key other fails = shown (is_key_from key bound) fails

module _ (sheet : Sheet) (season : Results) (question : GroupQuestion) (zone : List Literal)
    (of_sheet : IsSeasonOf sheet season) (club_in : question.club < length sheet.clubs)
    (some : has_finish sheet season zone ≡ true)
    (no_reason : (reason : GroupReason)
    → has_group_reason direct_places sheet season question zone reason ≡ false) where
  -- the finish that is proposed
  abbrev proposed : Results
  proposed = proposed_in_group direct_places sheet season question zone

  in_box : IsInBox sheet season zone proposed
  in_box = proposed_in_box sheet season (place_question direct_places question.kind question.club)
      zone of_sheet some

  is_finish : IsFinishOf sheet season proposed
  is_finish =
      proposed_is_finish sheet season (place_question direct_places question.kind question.club)
      zone of_sheet some

  -- of a kind about the place alone it would be an example
  place_is_shown : is_of_place question.kind ≡ true → is_single sheet season zone ≡ true
      → IsVainInGroup sheet season question zone → ⊥
  place_is_shown of_place single in_vain =
      let place = place_question direct_places question.kind question.club in
      let lots = lots_for_claim (length sheet.clubs) place.club place.claim in
      in_vain lots
      (place_is_group_example direct_places sheet season proposed lots question of_place
      (single_decided_by_two sheet season place zone proposed
      (subst (λ (club : ℕ). club < length sheet.clubs)
      (sym (place_question-club direct_places question.kind question.club)) club_in)
      single
      (λ holds. false≢true (sym (place_unrefuted direct_places sheet season question zone Window
      of_place (no_reason (Plain Window))) ∙ holds))
      (λ holds. false≢true (sym (place_unrefuted direct_places sheet season question zone Tie
      of_place (no_reason (Plain Tie))) ∙ holds))
      in_box))

  -- otherwise with some lots the club can be no worse than the candidate
  is_reached : is_of_place question.kind ≡ false → is_single sheet season zone ≡ true
      → place_of sheet proposed (lots_for_claim (length sheet.clubs) question.club Inside)
      question.club ≤ 2
  is_reached of_candidate single =
      let asked = reach_question direct_places question.club in
      let place = place_of sheet proposed
      (lots_for_claim (length sheet.clubs) question.club Inside) question.club in
      let example = single_decided_by_two sheet season asked zone proposed club_in single
      (λ holds. false≢true (sym (in_unrefuted direct_places sheet season question zone Window
      of_candidate (no_reason (In Window))) ∙ holds))
      (λ holds. false≢true (sym (in_unrefuted direct_places sheet season question zone Tie
      of_candidate (no_reason (In Tie))) ∙ holds))
      in_box in
      leb-true place 2
      (and_parts (is_in_window asked (points_of sheet proposed question.club)) (nat_le place 2)
      example.holds).1

  -- and with some lots no better
  is_missed : is_of_place question.kind ≡ false → is_single sheet season zone ≡ true
      → 2 ≤ place_of sheet proposed (lots_for_claim (length sheet.clubs) question.club Outside)
      question.club
  is_missed of_candidate single =
      let asked = after_question direct_places question.club in
      let place = place_of sheet proposed
      (lots_for_claim (length sheet.clubs) question.club Outside) question.club in
      let example = single_decided_by_two sheet season asked zone proposed club_in single
      (λ holds. false≢true (sym (out_unrefuted direct_places sheet season question zone Window
      of_candidate (no_reason (Out Window))) ∙ holds))
      (λ holds. false≢true (sym (out_unrefuted direct_places sheet season question zone Tie
      of_candidate (no_reason (Out Tie))) ∙ holds))
      in_box in
      omega (
        arith,
        leb-false place 1
            (not-true (nat_le place 1)
            (and_parts (is_in_window asked (points_of sheet proposed question.club))
            (not (nat_le place 1)) example.holds).1),
      )

  -- and its key is on the side that is asked for
  is_on_side : is_of_place question.kind ≡ false → is_single sheet season zone ≡ true
      → is_key_on_side question.kind question.key (key_of sheet proposed question.club) ≡ true
  is_on_side of_candidate single =
      let low = key_meets sheet season zone proposed question.club single in_box in
      let high = low ∙ ends_meet sheet season zone question.club single in
      one_key_on_side question.kind question.key (key_of sheet proposed question.club) of_candidate
      (ap₂ (λ (a b : List ℤ). is_key_refuted question.kind question.key a b) low high
      ∙ key_unrefuted direct_places sheet season question zone some (no_reason ByKey))

  -- so there would be an example here too
  candidate_is_shown : is_of_place question.kind ≡ false → is_single sheet season zone ≡ true
      → IsVainInGroup sheet season question zone → ⊥
  candidate_is_shown of_candidate single in_vain =
      let found = second_between sheet proposed
      (lots_for_claim (length sheet.clubs) question.club Inside)
      (lots_for_claim (length sheet.clubs) question.club Outside) question.club
      (is_reached of_candidate single) (is_missed of_candidate single) in
      let lots = second_lots (length sheet.clubs) found.0 question.club in
      in_vain lots
      (candidate_example direct_places sheet season proposed lots question of_candidate is_finish
      (second_lots-are_lots (length sheet.clubs) found.0 question.club found.1 club_in found.2)
      found.3 (is_on_side of_candidate single))

  pub group_has_several : IsVainInGroup sheet season question zone
      → is_single sheet season zone ≡ false
  group_has_several in_vain =
      elim (cases_Bool (is_single sheet season zone))
      as (λ _. is_single sheet season zone ≡ false) [
        | inl single ↦ elim (cases_Bool (is_of_place question.kind))
            as (λ _. is_single sheet season zone ≡ false) [
              | inl of_place ↦ absurd (place_is_shown of_place single in_vain)
              | inr of_candidate ↦ absurd (candidate_is_shown of_candidate single in_vain)
            ]
        | inr several ↦ several
      ]

-- a due split where neither an example nor a reason is found
pub group_split_is_fair : (setting : ZoneBoxView) (question : GroupQuestion) (test : Test)
    → has_finish setting.sheet setting.season setting.zone ≡ true
    → IsVainInGroup setting.sheet setting.season question setting.zone
    → ((reason : GroupReason) → has_group_reason direct_places setting.sheet setting.season question
    setting.zone reason ≡ false)
    → IsDueSplit setting (place_question direct_places question.kind question.club) test
    → IsFairGroupSplit direct_places setting.sheet setting.season question setting.zone test
group_split_is_fair setting question test some in_vain no_reason due = record {
  some = some;
  proper = due.proper;
  due = due.due;
  no_reason = no_reason;
  no_example = in_vain;
}

-- ---- where can be looked

-- at the root
pub group_look_at_root : (asked : AskedInGroup) → IsLeague asked.sheet asked.season
    → are_results asked.season ≡ true → asked.question.club < length asked.sheet.clubs
    → MayLookInGroup asked []
group_look_at_root asked league results club_in = record {
  league = league;
  results = results;
  in_range = club_in;
  for_question = record { of_sheet = refl; of_rivals = refl };
  has_finish = root_has_finish asked.sheet asked.season;
}

-- in a half of a split
group_half_fits : (asked : AskedInGroup) (zone : List Literal) (test : Test) (holds : Bool)
    → MayLookInGroup asked zone → SplitsInGroup asked zone test
    → MayLookInGroup asked (with_test zone test holds)
group_half_fits asked zone test holds may split =
    let place = place_question direct_places asked.question.kind asked.question.club in
    let names = proper_names asked.sheet asked.season place zone test split.proper in
    record {
      league = may.league;
      results = may.results;
      in_range = may.in_range;
      for_question = zone_for_half asked.sheet place zone test holds may.for_question names.0
          names.1;
      has_finish = half_has_finish asked.sheet asked.season place zone test holds may.has_finish
          split.proper;
    }

-- in both halves of a split that is found
pub group_look_halves : (asked : AskedInGroup) (zone : List Literal)
    (found : ZoneLook Example GroupReason) → MayLookInGroup asked zone
    → IsGroupLookIn asked.sheet asked.season asked.question zone found
    → FitHalves (MayLookInGroup asked) zone found
group_look_halves asked zone (look.Won example) may is = tt
group_look_halves asked zone (look.Refuted reason) may is = tt
group_look_halves asked zone (look.Split test) may is =
    (group_half_fits asked zone test true may is, group_half_fits asked zone test false may is)
