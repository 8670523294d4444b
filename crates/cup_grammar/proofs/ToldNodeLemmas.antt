-- Tests and reasons of a tree about a group: a split that is proper is by a test that lines have,
-- and a reason that holds is one of its kind, and may be told in lines.
use Rattle.std.proofs.Common.{◌≡◌, ℕ, Bool, true, false, not, ◌&&◌, List}
use Rattle.std.proofs.Common.{refl, sym, ap, ◌∙◌}
use Rattle.std.specs.Prelude.{ℤ, length, nat_lt, ◌==◌}
use Rattle.std.specs.List.{list_all}
use Rattle.std.proofs.lemmas.Bool.{and_parts, and_from, false≢true}
use Rattle.league_core.specs.declared.question.Question.{Question}
use Rattle.league_core.specs.declared.zone.Literal.{Literal}
use Rattle.league_core.specs.declared.zone.Reason.{Reason}
use Rattle.league_core.specs.declared.zone.Reason.TheVariants as why
use Rattle.league_core.specs.declared.zone.Test.{Test}
use Rattle.league_core.specs.game.ClubSets.{clubs_in}
use Rattle.league_core.specs.game.Results.{are_results}
use Rattle.league_core.specs.game.Seasons.{IsLeague}
use Rattle.league_core.specs.search.Options.{has_finish}
use Rattle.league_core.specs.search.Reasons.{has_member, has_reason}
use Rattle.league_core.specs.search.Splits.{is_proper}
use Rattle.league_core.specs.search.Trees.{branch, open_leaf}
use Rattle.league_core.specs.search.Zones.{is_of_rival, is_test_of}
use Rattle.cert_text.specs.Ranges.{is_test_in_range}
use Rattle.cert_text.specs.TreeLines.{is_test_for}
use Rattle.cert_text.proofs.ProperLemmas.{proper_tests}
use Rattle.line_tokens.specs.LineRanges.{is_path_for, is_reason_for, is_set_for}
use Rattle.line_tokens.proofs.FitLemmas.{reason_fits}
use Rattle.report_lines.proofs.KeptLemmas.{clubs-kept, has_reason-kept, kept_reason}
use Rattle.cup_sheet.specs.declared.question.GroupKind.{GroupKind}
use Rattle.cup_sheet.specs.declared.question.GroupKind.TheVariants.{Top, Below, SecondLess}
use Rattle.cup_sheet.specs.declared.question.GroupKind.TheVariants.{SecondAtLeast, SecondMore}
use Rattle.cup_sheet.specs.declared.question.GroupKind.TheVariants.{SecondAtMost}
use Rattle.cup_sheet.specs.declared.question.GroupReason.{GroupReason}
use Rattle.cup_sheet.specs.declared.question.GroupReason.TheVariants as reason
use Rattle.cup_sheet.specs.CupLimits.{direct_places}
use Rattle.cup_sheet.specs.GroupQuestions.{GroupQuestion, after_question, has_group_reason}
use Rattle.cup_sheet.specs.GroupQuestions.{is_key_refuted, is_of_place, place_question}
use Rattle.cup_sheet.specs.GroupQuestions.{reach_question}
use Rattle.league_core.specs.search.Keys.{high_key, low_key}
use Rattle.cup_grammar.specs.PlacedGroups.{PlacedGroup}
use Rattle.cup_grammar.specs.PlacedGroups.{is_reason_of_kind}
use Rattle.cup_grammar.proofs.OwnNumberLemmas.{IsTold, kept_leaf}

-- what the question asks about its club's place
abbrev pub asked_place : GroupQuestion → Question
asked_place asked = place_question direct_places asked.kind asked.club

-- the reason holds in the zone
abbrev pub holds_below : PlacedGroup → GroupQuestion → List Literal → GroupReason → Bool
holds_below group asked zone said =
    has_group_reason direct_places group.sheet group.season asked zone said

-- the club of a question about a place
club_of_place : (kind : GroupKind) (club : ℕ) → (place_question direct_places kind club).club ≡ club
club_of_place Top club = refl
club_of_place Below club = refl
club_of_place SecondLess club = refl
club_of_place SecondAtLeast club = refl
club_of_place SecondMore club = refl
club_of_place SecondAtMost club = refl

-- a key refutes only kinds with a bound
key_kind : (kind : GroupKind) (bound low high : List ℤ)
    → is_key_refuted kind bound low high ≡ true → not (is_of_place kind) ≡ true
key_kind Top bound low high is = absurd (false≢true is)
key_kind Below bound low high is = absurd (false≢true is)
key_kind SecondLess bound low high is = refl
key_kind SecondAtLeast bound low high is = refl
key_kind SecondMore bound low high is = refl
key_kind SecondAtMost bound low high is = refl

module _ (group : PlacedGroup) (asked : GroupQuestion)
    (league : IsLeague group.sheet group.season) (results : are_results group.season ≡ true) where
  -- the question about the place, and whether a reason holds in a zone
  abbrev place : Question
  place = asked_place asked

  abbrev holds_in : List Literal → GroupReason → Bool
  holds_in zone said = holds_below group asked zone said

  -- ---- tests and reasons

  -- a proper split is by a test that lines have
  pub proper_told : (zone : List Literal) (test : Test)
      → is_proper group.sheet group.season place zone test ≡ true
      → is_test_for group.sheet place test ≡ true
  proper_told zone test proper =
      let all = proper_tests group.sheet group.season place (branch test false open_leaf open_leaf)
      zone league results (proper, tt, tt) in
      let front = and_parts (is_test_for group.sheet place test && true) true all in
      (and_parts (is_test_for group.sheet place test) true front.0).0

  pub test_of_group : (test : Test) → is_test_for group.sheet place test ≡ true
      → is_test_of group.sheet test ≡ true
  test_of_group test fits =
      let both = and_parts (is_test_in_range test && is_test_of group.sheet test)
      (not (is_of_rival place.club test)) fits in
      (and_parts (is_test_in_range test) (is_test_of group.sheet test) both.0).1

  -- what may be told depends on the club alone
  same_told : (one other : Question) (said : Reason) → one.club ≡ other.club
      → is_reason_for group.sheet one said ≡ is_reason_for group.sheet other said
  same_told one other why.Count same = refl
  same_told one other why.Window same = refl
  same_told one other (why.Low set) same =
      ap (λ club. has_member (clubs_in set)
      && list_all (λ it. nat_lt it (length group.sheet.clubs) && not (it == club)) (clubs_in set))
      same
  same_told one other (why.High set) same =
      ap (λ club. has_member (clubs_in set)
      && list_all (λ it. nat_lt it (length group.sheet.clubs) && not (it == club)) (clubs_in set))
      same
  same_told one other why.Tie same = refl

  same_path : (one other : Question) (zone : List Literal) → one.club ≡ other.club
      → is_path_for group.sheet one zone ≡ is_path_for group.sheet other zone
  same_path one other zone same =
      ap (λ club. list_all (λ it. is_test_in_range it.test && is_test_of group.sheet it.test
      && not (is_of_rival club it.test)) zone) same

  -- a reason that holds for another question about the club
  other_told : (other : Question) (said : Reason) (zone : List Literal)
      → place.club ≡ other.club → is_path_for group.sheet place zone ≡ true
      → has_reason group.sheet group.season other zone said ≡ true
      → is_reason_for group.sheet place said ≡ true
  other_told other said zone same path holds =
      same_told place other said same
      ∙ reason_fits group.sheet group.season other zone said
      (sym (same_path place other zone same) ∙ path) holds

  -- a reason that holds may be told
  pub told : (zone : List Literal) (said : GroupReason) → is_path_for group.sheet place zone ≡ true
      → holds_in zone said ≡ true → IsTold group place said
  unfolding has_group_reason
  told zone (reason.Plain said) path holds =
      let both = and_parts (is_of_place asked.kind)
      (has_reason group.sheet group.season place zone said) holds in
      reason_fits group.sheet group.season place zone said path both.1
  told zone (reason.In said) path holds =
      let reach = reach_question direct_places asked.club in
      let both = and_parts (not (is_of_place asked.kind))
      (has_reason group.sheet group.season reach zone said) holds in
      other_told reach said zone (club_of_place asked.kind asked.club) path both.1
  told zone (reason.Out said) path holds =
      let behind = after_question direct_places asked.club in
      let both = and_parts (not (is_of_place asked.kind))
      (has_reason group.sheet group.season behind zone said) holds in
      other_told behind said zone (club_of_place asked.kind asked.club) path both.1
  told zone reason.ByKey path holds = tt

  kept_told : (said : Reason) → is_reason_for group.sheet place said ≡ true
      → is_reason_for group.sheet place (kept_reason said) ≡ true
  kept_told why.Count fits = refl
  kept_told why.Window fits = refl
  kept_told (why.Low set) fits = ap (is_set_for group.sheet place) (clubs-kept set) ∙ fits
  kept_told (why.High set) fits = ap (is_set_for group.sheet place) (clubs-kept set) ∙ fits
  kept_told why.Tie fits = refl

  -- it is one of the kind
  pub may_stand : (zone : List Literal) (said : GroupReason) → IsTold group place said
      → holds_in zone said ≡ true → is_reason_of_kind group asked (kept_leaf said) ≡ true
  unfolding has_group_reason
  may_stand zone (reason.Plain said) fits holds =
      let both = and_parts (is_of_place asked.kind)
      (has_reason group.sheet group.season place zone said) holds in
      and_from (is_of_place asked.kind) (is_reason_for group.sheet place (kept_reason said)) both.0
      (kept_told said fits)
  may_stand zone (reason.In said) fits holds =
      let both = and_parts (not (is_of_place asked.kind))
      (has_reason group.sheet group.season (reach_question direct_places asked.club) zone said)
      holds in
      and_from (not (is_of_place asked.kind)) (is_reason_for group.sheet place (kept_reason said))
      both.0 (kept_told said fits)
  may_stand zone (reason.Out said) fits holds =
      let both = and_parts (not (is_of_place asked.kind))
      (has_reason group.sheet group.season (after_question direct_places asked.club) zone said)
      holds in
      and_from (not (is_of_place asked.kind)) (is_reason_for group.sheet place (kept_reason said))
      both.0 (kept_told said fits)
  may_stand zone reason.ByKey fits holds =
      let low = low_key group.sheet group.season zone asked.club in
      let high = high_key group.sheet group.season zone asked.club in
      let both = and_parts (has_finish group.sheet group.season zone)
      (is_key_refuted asked.kind asked.key low high) holds in
      key_kind asked.kind asked.key low high both.1

  -- it holds without the bits past the width of its set
  pub holds_kept : (zone : List Literal) (said : GroupReason)
      → holds_in zone (kept_leaf said) ≡ holds_in zone said
  unfolding has_group_reason
  holds_kept zone (reason.Plain said) =
      ap (λ it. is_of_place asked.kind && it)
      (has_reason-kept group.sheet group.season place zone said)
  holds_kept zone (reason.In said) =
      ap (λ it. not (is_of_place asked.kind) && it)
      (has_reason-kept group.sheet group.season (reach_question direct_places asked.club) zone said)
  holds_kept zone (reason.Out said) =
      ap (λ it. not (is_of_place asked.kind) && it)
      (has_reason-kept group.sheet group.season (after_question direct_places asked.club) zone said)
  holds_kept zone reason.ByKey = refl
