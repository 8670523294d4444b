-- Numbers of a group that are written as those of the cup are read back as its own.
use Rattle.std.proofs.Common.{◌≡◌, ◌<◌, ℕ, ◌+◌, ◌-◌, ◌^◌, true, not, ◌&&◌, ◌==◌, List}
use Rattle.std.proofs.Common.{[], ◌∷◌, length, map, Some, None, refl, sym, ap, ◌∙◌}
use Rattle.std.proofs.Common.{arith, nat_le, nat_lt}
use Rattle.std.specs.Prelude.{if◌then◌else◌, option_map}
use Rattle.std.specs.List.{list_all}
use Rattle.std.proofs.lemmas.Bool.{and_parts, and_from, le-leb, lt-ltb, ltb-true}
use Rattle.std.proofs.lemmas.Nat.{and_le_r}
use Rattle.league_core.specs.declared.club_set.ClubSet.{ClubSet}
use Rattle.league_core.specs.declared.question.Question.{Question}
use Rattle.league_core.specs.declared.zone.Reason.{Reason}
use Rattle.league_core.specs.declared.zone.Reason.TheVariants as why
use Rattle.league_core.specs.declared.zone.Test.{Test}
use Rattle.league_core.specs.declared.zone.Test.TheVariants.{Home, Draw, HomeMost, AwayMost, Rival}
use Rattle.league_core.specs.game.ClubSets.{clubs_in}
use Rattle.league_core.specs.search.Reasons.{has_member}
use Rattle.league_core.specs.search.Zones.{is_test_of}
use Rattle.cert_text.specs.Places.{bits_at}
use Rattle.cert_text.proofs.BitSumLemmas.{bits_at-clubs_in}
use Rattle.line_tokens.specs.LineRanges.{is_reason_for, is_set_for}
use Rattle.report_lines.proofs.KeptLemmas.{clubs-kept, kept_reason, kept_set}
use Rattle.cup_sheet.specs.declared.question.GroupReason.{GroupReason}
use Rattle.cup_sheet.specs.declared.question.GroupReason.TheVariants as reason
use Rattle.cup_text.specs.GroupNodeLines.{clubs_in_cup, leaf_in_cup, reason_in_cup, test_in_cup}
use Rattle.cup_grammar.specs.PlacedGroups.{PlacedGroup, has_placed_club, has_placed_fixture}
use Rattle.cup_grammar.specs.PlacedGroups.{own_club, own_fixture, own_leaf, own_reason, own_set}
use Rattle.cup_grammar.specs.PlacedGroups.{own_test}

-- a reason of the group without the bits past the width of its set
abbrev pub kept_leaf : GroupReason → GroupReason
kept_leaf (reason.Plain why) = reason.Plain (kept_reason why)
kept_leaf (reason.In why) = reason.In (kept_reason why)
kept_leaf (reason.Out why) = reason.Out (kept_reason why)
kept_leaf reason.ByKey = reason.ByKey

module _ (group : PlacedGroup) where
  -- ---- tests

  fixture_back : (fixture : ℕ) → nat_lt fixture (length group.sheet.fixtures) ≡ true
      → own_fixture group (group.start.fixture + fixture) ≡ Some fixture
  fixture_back fixture inside =
      let from = group.start.fixture in
      let within : fixture < length group.sheet.fixtures = ltb-true fixture
      (length group.sheet.fixtures) inside in
      let has : has_placed_fixture group (from + fixture) ≡ true =
      and_from (nat_le from (from + fixture))
      (nat_lt (from + fixture) (from + length group.sheet.fixtures))
      (le-leb from (from + fixture) (omega arith))
      (lt-ltb (from + fixture) (from + length group.sheet.fixtures) (omega (arith, within))) in
      let same : from + fixture - from ≡ fixture = omega arith in
      ap (λ it. if it then Some (from + fixture - from) else None) has ∙ ap (λ it. Some it) same

  pub has_own_club : (club : ℕ) → nat_lt club (length group.sheet.clubs) ≡ true
      → has_placed_club group (group.start.club + club) ≡ true
  has_own_club club inside =
      let from = group.start.club in
      let within : club < length group.sheet.clubs = ltb-true club (length group.sheet.clubs)
      inside in
      and_from (nat_le from (from + club)) (nat_lt (from + club) (from + length group.sheet.clubs))
      (le-leb from (from + club) (omega arith))
      (lt-ltb (from + club) (from + length group.sheet.clubs) (omega (arith, within)))

  pub club_back : (club : ℕ) → own_club group (group.start.club + club) ≡ club
  club_back club = omega arith

  pub test_back : (test : Test) → is_test_of group.sheet test ≡ true
      → own_test group (test_in_cup group.start test) ≡ Some test
  test_back (Home fixture) inside =
      ap (option_map (λ own. Home own)) (fixture_back fixture inside)
  test_back (Draw fixture) inside =
      ap (option_map (λ own. Draw own)) (fixture_back fixture inside)
  test_back (HomeMost fixture most) inside =
      ap (option_map (λ own. HomeMost own most)) (fixture_back fixture inside)
  test_back (AwayMost fixture most) inside =
      ap (option_map (λ own. AwayMost own most)) (fixture_back fixture inside)
  test_back (Rival club) inside =
      ap (λ it. if it then Some (Rival (own_club group (group.start.club + club))) else None)
      (has_own_club club inside)
      ∙ ap (λ it. Some (Rival it)) (club_back club)

  -- ---- sets and reasons

  all_placed : (asked : ℕ) (clubs : List ℕ)
      → list_all (λ club. nat_lt club (length group.sheet.clubs) && not (club == asked)) clubs
      ≡ true
      → list_all (has_placed_club group) (map (λ club. group.start.club + club) clubs) ≡ true
  all_placed asked [] all = refl
  all_placed asked (club ∷ clubs) all =
      let both = and_parts (nat_lt club (length group.sheet.clubs) && not (club == asked))
      (list_all (λ it. nat_lt it (length group.sheet.clubs) && not (it == asked)) clubs) all in
      let own = and_parts (nat_lt club (length group.sheet.clubs)) (not (club == asked)) both.0 in
      and_from (has_placed_club group (group.start.club + club))
      (list_all (has_placed_club group) (map (λ it. group.start.club + it) clubs))
      (has_own_club club own.0) (all_placed asked clubs both.1)

  all_back : (clubs : List ℕ)
      → map (own_club group) (map (λ club. group.start.club + club) clubs) ≡ clubs
  all_back [] = refl
  all_back (club ∷ clubs) =
      ap (λ it. it ∷ map (own_club group) (map (λ other. group.start.club + other) clubs))
      (club_back club)
      ∙ ap (λ it. club ∷ it) (all_back clubs)

  -- the bits of the clubs of a set are those that it keeps
  bits_kept : (set : ClubSet) → bits_at (clubs_in set) ≡ (kept_set set).bits
  bits_kept set =
      let below = and_le_r set.bits (2 ^ 32 - 1) in
      ap bits_at (sym (clubs-kept set))
      ∙ bits_at-clubs_in (kept_set set).bits (omega (arith, below))

  set_back : (question : Question) (set : ClubSet)
      → is_set_for group.sheet question (clubs_in set) ≡ true
      → own_set group (clubs_in_cup group.start.club (clubs_in set)).list ≡ Some (kept_set set)
  set_back question set fits =
      let clubs = clubs_in set in
      let moved = map (λ club. group.start.club + club) clubs in
      let all = (and_parts (has_member clubs)
      (list_all (λ club. nat_lt club (length group.sheet.clubs) && not (club == question.club))
      clubs) fits).1 in
      ap (λ it. if it then Some (record { bits = bits_at (map (own_club group) moved) }) else None)
      (all_placed question.club clubs all)
      ∙ ap (λ it. Some (record { bits = bits_at it })) (all_back clubs)
      ∙ ap (λ it. Some (record { bits = it })) (bits_kept set)

  reason_back : (question : Question) (why : Reason)
      → is_reason_for group.sheet question why ≡ true
      → own_reason group (reason_in_cup group.start why) ≡ Some (kept_reason why)
  reason_back question why.Count fits = refl
  reason_back question why.Window fits = refl
  reason_back question (why.Low set) fits =
      ap (option_map (λ it. why.Low it)) (set_back question set fits)
  reason_back question (why.High set) fits =
      ap (option_map (λ it. why.High it)) (set_back question set fits)
  reason_back question why.Tie fits = refl

  -- a reason of the group may be told in lines if its cut may
  abbrev pub IsTold : Question → GroupReason → Type 0
  IsTold question (reason.Plain why) = is_reason_for group.sheet question why ≡ true
  IsTold question (reason.In why) = is_reason_for group.sheet question why ≡ true
  IsTold question (reason.Out why) = is_reason_for group.sheet question why ≡ true
  IsTold question reason.ByKey = Unit {0}

  pub leaf_back : (question : Question) (told : GroupReason) → IsTold question told
      → own_leaf group (leaf_in_cup group.start told) ≡ Some (kept_leaf told)
  leaf_back question (reason.Plain why) fits =
      ap (option_map (λ it. reason.Plain it)) (reason_back question why fits)
  leaf_back question (reason.In why) fits =
      ap (option_map (λ it. reason.In it)) (reason_back question why fits)
  leaf_back question (reason.Out why) fits =
      ap (option_map (λ it. reason.Out it)) (reason_back question why fits)
  leaf_back question reason.ByKey fits = refl
