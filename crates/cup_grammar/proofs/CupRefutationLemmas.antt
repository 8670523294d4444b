-- A side that is refuted: a key, a list of groups, and refutations of the questions about the club
-- and about each club of the listed groups.
use Rattle.std.proofs.Common.{◌≡◌, ◌<◌, ℕ, zero, suc, ◌+◌, ℤ, Bool, true, false, not, ◌&&◌}
use Rattle.std.proofs.Common.{◌||◌, ◌==◌}
use Rattle.std.proofs.Common.{List, [], ◌∷◌, length, map, Option, Some, None, refl, ap}
use Rattle.std.proofs.Common.{◌∙◌, subst, arith, nat_lt, nat_le, get_or}
use Rattle.std.specs.Prelude.{All, slice_get}
use Rattle.std.specs.List.{flat_map, list_all, list_any}
use Rattle.std.proofs.lemmas.Bool.{and_parts, not-true, eqb-true, ltb-true, false≢true, leb-true}
use Rattle.std.proofs.lemmas.List.Elements.{All-cons, All-nil}
use Rattle.std.proofs.lemmas.List.FromFn.{get_or-range_with_len, length-range_with_len}
use Rattle.league_core.specs.declared.question.Claim.{Claim}
use Rattle.league_core.specs.game.Sheets.{clubs_of}
use Rattle.cert_text.specs.Ranges.{is_one_of}
use Rattle.cert_check.specs.LineGrammars.{go}
use Rattle.cert_check.proofs.NextLemmas.{bad-go, go-if, parts-split}
use Rattle.cup_sheet.specs.CupAnswers.{AreRising, IsListedGroup, IsRefutedForAll}
use Rattle.cup_sheet.specs.CupAnswers.{IsRefutedInGroup, listed_groups}
use Rattle.cup_sheet.specs.CupLimits.{most_groups}
use Rattle.cup_sheet.specs.GroupQuestions.{GroupQuestion}
use Rattle.cup_sheet.specs.KeyBounds.{others_kind}
use Rattle.cup_text.specs.CupForms.{is_rising, is_rising_from}
use Rattle.cup_text.specs.CupRanges.{is_cup_line}
use Rattle.cup_text.specs.declared.cup_line.CupLine.{CupLine}
use Rattle.cup_text.specs.declared.cup_line.CupLine.TheVariants as line
use Rattle.cup_grammar.specs.declared.token.CupToken.{CupToken}
use Rattle.cup_grammar.specs.PlacedGroups.{CupBasis, PlacedGroup, group_with, groups_at, own_club}
use Rattle.cup_grammar.specs.PlacedGroups.{placed_groups, with_group}
use Rattle.cup_grammar.specs.CupDues.{CupDue, after_groups_in, after_key_line, groups_line}
use Rattle.cup_grammar.specs.CupDues.{may_be_listed, others_due, side_trees_due, tree_head}
use Rattle.cup_grammar.specs.inside.CupParts.{IsRefutedWithKey, cup_parts, state_of_group}
use Rattle.cup_grammar.proofs.GroupNodeLemmas.{ArePartsOf, left_part, left_parts}
use Rattle.cup_grammar.proofs.PlacedGroupLemmas.{club_of_group, placed_there}

-- numbers that rise by the form's test rise
rising-from : (least : ℕ) (numbers : List ℕ) → is_rising_from least numbers ≡ true
    → AreRising least numbers
rising-from least [] is = tt
rising-from least (number ∷ numbers) is =
    let both = and_parts (nat_le least number) (is_rising_from (number + 1) numbers) is in
    (leb-true least number both.0, rising-from (number + 1) numbers both.1)

rising : (numbers : List ℕ) → is_rising numbers ≡ true → AreRising 0 numbers
rising [] is = absurd (false≢true is)
rising (number ∷ numbers) is = rising-from 0 (number ∷ numbers) is

-- neither is true
pub neither : (a b : Bool) → (a || b) ≡ false → (a ≡ false) × (b ≡ false)
neither false b both = (refl, both)
neither true b both = absurd cc

-- ---- one listed group

-- a refutation for each of these clubs
heads_shown : (basis : CupBasis) (group : PlacedGroup) (asked : ℕ → GroupQuestion)
    (clubs : List ℕ) (tokens : List CupToken)
    → ArePartsOf basis (map (λ club. tree_head group (asked club)) clubs) tokens
    → All (λ club. IsRefutedInGroup (state_of_group group) (asked club)) clubs
heads_shown basis group asked [] tokens parts =
    All-nil (λ club. IsRefutedInGroup (state_of_group group) (asked club))
heads_shown basis group asked (club ∷ clubs) tokens parts =
    All-cons (λ it. IsRefutedInGroup (state_of_group group) (asked it)) club clubs parts.2
    (heads_shown basis group asked clubs parts.1 parts.3)

-- those of all clubs of a group
group_shown : (basis : CupBasis) (claim : Claim) (key : List ℤ) (group : PlacedGroup)
    (tokens : List CupToken) → ArePartsOf basis (others_due claim key group) tokens
    → IsRefutedForAll claim key (state_of_group group)
group_shown basis claim key group tokens parts other within =
    let clubs = length group.sheet.clubs in
    let asked : ℕ → GroupQuestion =
    λ club. record { kind = others_kind claim; club = club; key = key } in
    let all = heads_shown basis group asked (clubs_of group.sheet) tokens parts in
    let long : other < length (clubs_of group.sheet) = omega
    (arith, within, length-range_with_len 0 clubs) in
    let same : get_or (clubs_of group.sheet) other 0 ≡ other =
    get_or-range_with_len 0 clubs other 0 within ∙ omega arith in
    subst (λ it. IsRefutedInGroup (state_of_group group) (asked it)) same (all other 0 long)

-- ---- all listed groups

-- below the length there is a group
none_there : (groups : List PlacedGroup) (number : ℕ) → number < length groups
    → slice_get groups number ≡ None → ⊥
none_there [] number within none = absurd (omega arith)
none_there (group ∷ groups) zero within none = absurd cc
none_there (group ∷ groups) (suc number) within none =
    none_there groups number (omega arith) none

-- the groups with these numbers are others, and none of their clubs can be a candidate so
listed_shown : (basis : CupBasis) (claim : Claim) (key : List ℤ) (mine : PlacedGroup)
    (numbers : List ℕ) (tokens : List CupToken)
    → list_all (λ number. nat_lt number (length (placed_groups basis))) numbers ≡ true
    → list_any (λ (group : PlacedGroup). group.start.club == mine.start.club)
    (groups_at (placed_groups basis) numbers) ≡ false
    → ArePartsOf basis
    (flat_map (others_due claim key) (groups_at (placed_groups basis) numbers)) tokens
    → All (IsListedGroup basis.cup basis.seasons claim (state_of_group mine) key) numbers
listed_shown basis claim key mine [] tokens within others parts =
    All-nil (IsListedGroup basis.cup basis.seasons claim (state_of_group mine) key)
listed_shown basis claim key mine (number ∷ numbers) tokens within others parts =
    by_found (slice_get (placed_groups basis) number) refl others parts
    (λ rest. listed_shown basis claim key mine numbers rest tests.1)
  where
    tests : (nat_lt number (length (placed_groups basis)) ≡ true)
        × (list_all (λ it. nat_lt it (length (placed_groups basis))) numbers ≡ true)
    tests = and_parts (nat_lt number (length (placed_groups basis)))
        (list_all (λ it. nat_lt it (length (placed_groups basis))) numbers) within

    later : List PlacedGroup
    later = groups_at (placed_groups basis) numbers

    by_found : (found : Option PlacedGroup) → slice_get (placed_groups basis) number ≡ found
        → list_any (λ (group : PlacedGroup). group.start.club == mine.start.club)
        (with_group found later) ≡ false
        → ArePartsOf basis (flat_map (others_due claim key) (with_group found later)) tokens
        → ((rest : List CupToken)
        → list_any (λ (group : PlacedGroup). group.start.club == mine.start.club) later ≡ false
        → ArePartsOf basis (flat_map (others_due claim key) later) rest
        → All (IsListedGroup basis.cup basis.seasons claim (state_of_group mine) key) numbers)
        → All (IsListedGroup basis.cup basis.seasons claim (state_of_group mine) key)
        (number ∷ numbers)
    by_found None is others parts again =
        let within : number < length (placed_groups basis) = ltb-true number
        (length (placed_groups basis)) tests.0 in
        absurd (none_there (placed_groups basis) number within is)
    by_found (Some group) is others parts again =
        let two = neither (group.start.club == mine.start.club)
        (list_any (λ (it : PlacedGroup). it.start.club == mine.start.club) later) others in
        let both = parts-split cup_parts true basis (others_due claim key group)
        (flat_map (others_due claim key) later) tokens parts in
        All-cons (IsListedGroup basis.cup basis.seasons claim (state_of_group mine) key) number
        numbers (
          state_of_group group,
          placed_there basis number group is,
          ap not two.0,
          group_shown basis claim key group both.0 both.2,
        )
        (again both.1 two.1 both.3)

-- ---- the side

-- the list of groups with the refutations after it
groups_shown : (basis : CupBasis) (claim : Claim) (club : ℕ) (key : List ℤ) (found : Option
    PlacedGroup)
    (it : CupLine) (more : List CupDue) (tokens : List CupToken) → is_cup_line it ≡ true
    → group_with (placed_groups basis) club ≡ found
    → after_groups_in basis claim club key found it ≡ go true more → ArePartsOf basis more tokens
    → IsRefutedWithKey basis claim club key
groups_shown basis claim club key None it more tokens range is goes parts =
    absurd (bad-go true more goes)
groups_shown basis claim club key (Some mine) (line.Groups groups) more tokens range is goes parts =
    let placed = placed_groups basis in
    let numbers = groups.list in
    let listed = groups_at placed numbers in
    let dues = side_trees_due claim club key mine listed in
    let fits = go-if (may_be_listed basis claim mine numbers) (go true dues) true more goes in
    let first = λ (group : PlacedGroup). group.start.club == mine.start.club in
    let there = λ (number : ℕ). nat_lt number (length placed) in
    let tests = and_parts
    ((length numbers == listed_groups basis.cup claim) && list_all there numbers)
    (not (list_any first listed)) fits.0 in
    let front = and_parts (length numbers == listed_groups basis.cup claim)
    (list_all there numbers) tests.0 in
    let shown = (left_parts basis true dues more tokens fits.1 parts).1 in (
      numbers,
      record {
        mine = state_of_group mine;
        own = own_club mine club;
        of_club = club_of_group basis club mine is;
        place = shown.2;
        nearer = shown.3.2;
        count = eqb-true (length numbers) (listed_groups basis.cup claim) front.0;
        rising = rising numbers
            (and_parts (is_rising numbers) (list_all (is_one_of most_groups) numbers) range).0;
        others = listed_shown basis claim key mine numbers shown.3.1 front.1
            (not-true (list_any first listed) tests.1) shown.3.3;
      },
    )
groups_shown basis claim club key (Some mine) _ more tokens range is goes parts =
    absurd (bad-go true more goes)

-- the same where a list of groups is due
pub join_groups : (basis : CupBasis) (claim : Claim) (club : ℕ) (key : List ℤ) (it : CupLine)
    (more : List CupDue) (tokens : List CupToken) → is_cup_line it ≡ true
    → after_groups_in basis claim club key (group_with (placed_groups basis) club) it
    ≡ go true more → ArePartsOf basis more tokens → IsRefutedWithKey basis claim club key
join_groups basis claim club key it more tokens range goes parts =
    groups_shown basis claim club key (group_with (placed_groups basis) club) it more tokens range
    refl goes parts

-- the key with what comes after it
pub join_key : (basis : CupBasis) (claim : Claim) (club : ℕ) (it : CupLine) (more : List CupDue)
    (tokens : List CupToken) → after_key_line claim club it ≡ go true more
    → ArePartsOf basis more tokens → (key : List ℤ) × IsRefutedWithKey basis claim club key
join_key basis claim club (line.KeyLine key) more tokens goes parts =
    (key.parts, (left_part basis true (groups_line claim club key.parts) more tokens goes parts).1)
join_key basis claim club _ more tokens goes parts = absurd (bad-go true more goes)
