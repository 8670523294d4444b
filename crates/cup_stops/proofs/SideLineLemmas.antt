-- Refuted sides line by line: the key, and the list of groups, each with what is due after it, and
-- back.
use Rattle.std.proofs.Common.{◌≡◌, ◌<◌, ℕ, ℤ, Bool, true, false, not, ◌&&◌, ◌||◌, ◌==◌}
use Rattle.std.proofs.Common.{List, [], ◌∷◌, length, Option, Some, None, refl, sym, ap}
use Rattle.std.proofs.Common.{◌∙◌, subst, nat_lt, get_or}
use Rattle.std.specs.List.{list_all, list_any}
use Rattle.std.proofs.lemmas.Bool.{and_parts, and_from, not-true, eqb-true, eq-eqb}
use Rattle.std.proofs.lemmas.Bool.{ltb-true, lt-ltb}
use Rattle.std.proofs.lemmas.Option.{slice_get_within, slice_get-get_or}
use Rattle.league_core.specs.declared.question.Claim.{Claim}
use Rattle.cert_check.specs.LineGrammars.{go}
use Rattle.cert_check.proofs.NextLemmas.{bad-go, go-if, if-go, as_only_part}
use Rattle.cert_check.proofs.NextLemmas.{Parted}
use Rattle.cup_sheet.specs.CupAnswers.{listed_groups}
use Rattle.cup_text.specs.declared.cup_line.CupLine.{CupLine}
use Rattle.cup_text.specs.declared.cup_line.CupLine.TheVariants as line
use Rattle.cup_grammar.specs.declared.token.CupToken.{CupToken}
use Rattle.cup_grammar.specs.declared.token.CupToken.TheVariants.{Proof}
use Rattle.cup_grammar.specs.PlacedGroups.{CupBasis, PlacedGroup, group_with, groups_at}
use Rattle.cup_grammar.specs.PlacedGroups.{placed_groups, with_group}
use Rattle.cup_grammar.specs.CupDues.{CupDue, after_groups_in, after_key_line}
use Rattle.cup_grammar.specs.CupDues.{groups_line, key_line, may_be_listed}
use Rattle.cup_grammar.specs.CupDues.{side_trees_due}
use Rattle.cup_grammar.specs.CupExpected.{after_in_cup}
use Rattle.cup_grammar.proofs.CupRefutationLemmas.{neither}
use Rattle.cup_stops.specs.inside.CupCases.{AreOtherGroups, AreSideTrees}
use Rattle.cup_stops.specs.inside.CupCases.{IsListedSide, IsRefutedSide, cup_cases}
use Rattle.cup_stops.proofs.DueCaseLemmas.{AreCasesOf, left_case, left_cases}
use Rattle.cup_stops.proofs.HeadedTreeLemmas.{due-trees, trees-due}

module _ (proved : Bool) (basis : CupBasis) where
  -- all groups
  abbrev placed : List PlacedGroup
  placed = placed_groups basis

  -- ---- the list of groups

  -- the number is that of a group
  abbrev is_there : ℕ → Bool
  is_there number = nat_lt number (length placed)

  -- the group is the club's
  abbrev is_mine : PlacedGroup → PlacedGroup → Bool
  is_mine mine group = group.start.club == mine.start.club

  -- what the tests of a list say
  others_listed : (mine : PlacedGroup) (numbers : List ℕ) → list_all is_there numbers ≡ true
      → list_any (is_mine mine) (groups_at placed numbers) ≡ false
      → AreOtherGroups basis mine numbers (groups_at placed numbers)
  others_listed mine [] there others = refl
  others_listed mine (number ∷ numbers) there others =
      let tests = and_parts (is_there number) (list_all is_there numbers) there in
      let within : number < length placed = ltb-true number (length placed) tests.0 in
      let group = get_or placed number mine in
      let later = groups_at placed numbers in
      let is = slice_get-get_or placed number mine within in
      let starts : groups_at placed (number ∷ numbers) ≡ group ∷ later =
      ap (λ it. with_group it later) is in
      let two = neither (is_mine mine group) (list_any (is_mine mine) later)
      (sym (ap (list_any (is_mine mine)) starts) ∙ others) in (
        group,
        later,
        is,
        ap not two.0,
        others_listed mine numbers tests.1 two.1,
        starts,
      )

  -- and what they are of
  listed_others : (mine : PlacedGroup) (numbers : List ℕ) (listed : List PlacedGroup)
      → AreOtherGroups basis mine numbers listed
      → (listed ≡ groups_at placed numbers) × (list_all is_there numbers ≡ true)
      × (list_any (is_mine mine) (groups_at placed numbers) ≡ false)
  listed_others mine [] listed are = (are, refl, refl)
  listed_others mine (number ∷ numbers) listed are =
      let group = are.0 in
      let below = listed_others mine numbers are.1 are.4 in
      let later = groups_at placed numbers in
      let starts : groups_at placed (number ∷ numbers) ≡ group ∷ later =
      ap (λ it. with_group it later) are.2 in
      let within = slice_get_within placed number group are.2 in (
        are.5 ∙ ap (λ it. group ∷ it) below.0 ∙ sym starts,
        and_from (is_there number) (list_all is_there numbers)
            (lt-ltb number (length placed) within) below.1,
        ap (list_any (is_mine mine)) starts
            ∙ ap (λ it. it || list_any (is_mine mine) later)
            (not-true (is_mine mine group) are.3)
            ∙ below.2,
      )

  -- the list, by the group of the club
  groups_joined : (claim : Claim) (club : ℕ) (key : List ℤ) (it : CupLine) (holds : Bool)
      (more : List CupDue) (tokens : List CupToken) (found : Option PlacedGroup)
      → group_with placed club ≡ found
      → after_groups_in basis claim club key found it ≡ go holds more
      → AreCasesOf proved basis more tokens
      → IsListedSide proved basis claim club key (Proof it ∷ tokens)
  groups_joined claim club key it holds more tokens None is goes parts =
      absurd (bad-go holds more goes)
  groups_joined claim club key (line.Groups groups) holds more tokens (Some mine) is goes parts =
      let numbers = groups.list in
      let listed = groups_at placed numbers in
      let count = length numbers == listed_groups basis.cup claim in
      let there = list_all is_there numbers in
      let any_mine = list_any (is_mine mine) listed in
      let dues = side_trees_due claim club key mine listed in
      let fits = go-if (may_be_listed basis claim mine numbers) (go true dues) holds more goes in
      let tests = and_parts (count && there) (not any_mine) fits.0 in
      let front = and_parts count there tests.0 in (
        mine,
        groups,
        listed,
        tokens,
        is,
        eqb-true (length numbers) (listed_groups basis.cup claim) front.0,
        others_listed mine numbers front.1 (not-true any_mine tests.1),
        due-trees proved basis claim club key mine listed tokens
            (left_cases proved basis true holds dues more tokens fits.1 parts),
        refl,
      )
  groups_joined claim club key _ holds more tokens (Some mine) is goes parts =
      absurd (bad-go holds more goes)

  pub join_groups_line : (claim : Claim) (club : ℕ) (key : List ℤ) (it : CupLine) (holds : Bool)
      (more : List CupDue) (tokens : List CupToken)
      → after_groups_in basis claim club key (group_with placed club) it ≡ go holds more
      → AreCasesOf proved basis more tokens
      → IsListedSide proved basis claim club key (Proof it ∷ tokens)
  join_groups_line claim club key it holds more tokens goes parts =
      groups_joined claim club key it holds more tokens (group_with placed club) refl goes parts

  pub part_groups_line : (claim : Claim) (club : ℕ) (key : List ℤ) (tokens : List CupToken)
      → IsListedSide proved basis claim club key tokens
      → Parted cup_cases proved basis (after_in_cup basis) (groups_line claim club key) tokens
  part_groups_line claim club key tokens side =
      let mine = side.0 in
      let numbers = side.1.list in
      let listed = groups_at placed numbers in
      let are = listed_others mine numbers side.2 side.6 in
      let count = length numbers == listed_groups basis.cup claim in
      let there = list_all is_there numbers in
      let any_mine = list_any (is_mine mine) listed in
      let dues = side_trees_due claim club key mine listed in
      let may : may_be_listed basis claim mine numbers ≡ true =
      and_from (count && there) (not any_mine)
      (and_from count there (eq-eqb (length numbers) (listed_groups basis.cup claim) side.5) are.1)
      (ap not are.2) in
      let T : List PlacedGroup → Type 0 = λ it. AreSideTrees proved claim club key mine it side.3
      in (
        Proof (line.Groups side.1),
        side.3,
        true,
        dues,
        side.8,
        ap (λ found. after_groups_in basis claim club key found (line.Groups side.1)) side.4
            ∙ if-go (may_be_listed basis claim mine numbers) (go true dues) may,
        λ _. refl,
        refl,
        trees-due proved basis claim club key mine listed side.3 (subst T are.0 side.7),
      )

  -- ---- the key

  pub join_key_line : (claim : Claim) (club : ℕ) (it : CupLine) (holds : Bool)
      (more : List CupDue) (tokens : List CupToken) → after_key_line claim club it ≡ go holds more
      → AreCasesOf proved basis more tokens
      → IsRefutedSide proved basis claim club (Proof it ∷ tokens)
  join_key_line claim club (line.KeyLine key) holds more tokens goes parts = (
    key,
    tokens,
    left_case proved basis true holds (groups_line claim club key.parts) more tokens goes parts,
    refl,
  )
  join_key_line claim club _ holds more tokens goes parts = absurd (bad-go holds more goes)

  pub part_key_line : (claim : Claim) (club : ℕ) (tokens : List CupToken)
      → IsRefutedSide proved basis claim club tokens
      → Parted cup_cases proved basis (after_in_cup basis) (key_line claim club) tokens
  part_key_line claim club tokens side =
      let due = groups_line claim club side.0.parts in (
        Proof (line.KeyLine side.0),
        side.1,
        true,
        due ∷ [],
        side.3,
        refl,
        λ _. refl,
        refl,
        as_only_part cup_cases proved basis due side.1 side.2,
      )
