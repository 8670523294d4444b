-- Trees about a group: the tests of a way, and leaves that do not prove what they say.
use Rattle.std.proofs.Common.{◌≡◌, ◌<◌, ◌≤◌, ◌+◌, ◌-◌, ℕ, Bool, true, false, List, [], ◌∷◌, refl}
use Rattle.std.proofs.Common.{ap}
use Rattle.std.proofs.Common.{◌∙◌, Option, Some, None, arith, length, map, subst, sym}
use Rattle.std.specs.Prelude.{if◌then◌else◌, nat_le, nat_lt, ◌&&◌}
use Rattle.std.specs.List.{list_all}
use Rattle.std.proofs.lemmas.Bool.{false≢true, and_parts, and_from, leb-true, ltb-true, le-leb}
use Rattle.std.proofs.lemmas.Bool.{lt-ltb}
use Rattle.league_core.specs.declared.club_set.ClubSet.{ClubSet}
use Rattle.league_core.specs.declared.question.Claim.{Claim}
use Rattle.league_core.specs.declared.question.Claim.TheVariants.{Inside, Outside}
use Rattle.league_core.specs.declared.question.Question.{Question}
use Rattle.league_core.specs.game.Questions.{IsQuestionOf, full_question}
use Rattle.cert_text.specs.Places.{are_rising_from, bits_at, set_listed}
use Rattle.cert_text.specs.Ranges.{is_club_number}
use Rattle.club_keys.specs.declared.club_key.ClubKey.{ClubKey}
use Rattle.club_keys.specs.inside.KeyEnds.{key_parts}
use Rattle.cup_sheet.specs.declared.question.GroupKind.{GroupKind}
use Rattle.cup_sheet.specs.declared.question.GroupKind.TheVariants.{Top, Below, SecondLess}
use Rattle.cup_sheet.specs.declared.question.GroupKind.TheVariants.{SecondAtLeast, SecondMore}
use Rattle.cup_sheet.specs.declared.question.GroupKind.TheVariants.{SecondAtMost}
use Rattle.cup_sheet.specs.KeyBounds.{nearer_kind, others_kind, place_kind}
use Rattle.cup_groups.specs.declared.question.KindQuestion.{KindQuestion}
use Rattle.cup_text.specs.CupForms.{is_rising, is_rising_from}
use Rattle.cup_check.specs.inside.GroupPlaces.{IsPlaced}
use Rattle.league_core.specs.declared.zone.Literal.{Literal}
use Rattle.league_core.specs.search.Zones.{is_zone_of}
use Rattle.line_tokens.specs.declared.tree_line.TreeKind.{TreeKind}
use Rattle.cert_check.specs.declared.expected.Tally.{Tally}
use Rattle.cert_check.specs.ExpectedItems.{with_fresh}
use Rattle.cert_check.specs.LineGrammars.{go}
use Rattle.cert_check.proofs.CallLemmas.{zone_of_path}
use Rattle.cert_check.proofs.NextLemmas.{if-go}
use Rattle.check_bounds.specs.inside.Trails.{TrailView}
use Rattle.cup_sheet.specs.declared.question.GroupReason.{GroupReason}
use Rattle.cup_sheet.specs.CupLimits.{direct_places}
use Rattle.cup_sheet.specs.GroupQuestions.{GroupQuestion, after_question, has_group_reason}
use Rattle.cup_sheet.specs.GroupQuestions.{place_question}
use Rattle.cup_groups.specs.inside.KindQuestions.{group_question_of}
use Rattle.cup_grammar.specs.PlacedGroups.{PlacedGroup, has_placed_club, is_reason_of_kind}
use Rattle.cup_grammar.specs.PlacedGroups.{own_club, own_set, refuted_node}
use Rattle.cup_grammar.specs.CupDues.{CupDue, after_group_leaf, after_group_node, nodes}
use Rattle.cup_check.specs.declared.walk.GroupTreeSpec.{GroupTreeSpec}
use Rattle.cup_check.specs.inside.CupTreeCalls.{IsPathInGroup, own_numbers}

-- the tests of the way are of the group
pub zone_of_way : (group : PlacedGroup) (wanted : GroupTreeSpec) (path : TrailView)
    → IsPathInGroup group wanted path → is_zone_of group.sheet path.zone ≡ true
zone_of_way group wanted path way =
    let question = group_question_of wanted.question in
    zone_of_path group.sheet (place_question direct_places question.kind question.club) path.zone
    way.tests

-- a leaf that does not prove what it says leaves something due all the same
group_leaf_unproved : (kind : TreeKind) (group : PlacedGroup) (question : GroupQuestion)
    (zones : List (List Literal)) (tally : Tally)
    → (more : List CupDue)
    × (after_group_leaf kind group question zones tally false ≡ go false more)
group_leaf_unproved kind group question [] tally = ([], refl)
group_leaf_unproved kind group question (zone ∷ zones) tally =
    (nodes kind group question zone zones tally ∷ [], refl)

-- a leaf whose reason does not hold
pub group_reason_unproved : (kind : TreeKind) (group : PlacedGroup) (question : GroupQuestion)
    (zone : List Literal) (zones : List (List Literal)) (tally : Tally) (reason : GroupReason)
    (fresh : Bool) → is_reason_of_kind group question reason ≡ true
    → has_group_reason direct_places group.sheet group.season question zone reason ≡ false
    → (more : List CupDue)
    × (after_group_node kind group question zone zones tally (refuted_node reason fresh)
    ≡ go false more)
group_reason_unproved kind group question zone zones tally reason fresh fits fails =
    let unproved = group_leaf_unproved kind group question zones (with_fresh fresh tally) in (
      unproved.0,
      if-go (is_reason_of_kind group question reason)
          (after_group_leaf kind group question zones (with_fresh fresh tally)
          (has_group_reason direct_places group.sheet group.season question zone reason)) fits
          ∙ ap (after_group_leaf kind group question zones (with_fresh fresh tally)) fails
          ∙ unproved.1,
    )

-- ---- questions

-- what is asked of a place is a question of the group's table
pub place_asked : (group : PlacedGroup) (kind : GroupKind) (club : ℕ) (question : Question)
    → IsPlaced group → club < length group.sheet.clubs
    → question ≡ place_question direct_places kind club → IsQuestionOf group.sheet question
place_asked group kind club question placed inside is =
    subst (IsQuestionOf group.sheet) (sym is) (of_kind kind)
  where
    at_line : (line : ℕ) (claim : Claim) → 1 ≤ line → line ≤ 2
        → IsQuestionOf group.sheet (full_question club line claim)
    at_line line claim least most = record {
      club = inside;
      least_line = least;
      most_line = omega (arith, placed.least_clubs, most);
    }

    of_kind : (kind : GroupKind) → IsQuestionOf group.sheet (place_question direct_places kind club)
    of_kind Top = at_line 1 Inside (omega arith) (omega arith)
    of_kind Below = at_line 2 Outside (omega arith) (omega arith)
    of_kind SecondLess = at_line 2 Inside (omega arith) (omega arith)
    of_kind SecondAtLeast = at_line 2 Inside (omega arith) (omega arith)
    of_kind SecondMore = at_line 2 Inside (omega arith) (omega arith)
    of_kind SecondAtMost = at_line 2 Inside (omega arith) (omega arith)

-- so is whether the club ends after the direct places
pub after_asked : (group : PlacedGroup) (club : ℕ) (question : Question) → IsPlaced group
    → club < length group.sheet.clubs → question ≡ after_question direct_places club
    → IsQuestionOf group.sheet question
after_asked group club question placed inside is =
    subst (IsQuestionOf group.sheet) (sym is) (record {
      club = inside;
      least_line = omega arith;
      most_line = omega (arith, placed.least_clubs);
    })

-- what is asked of a side's club and of others, with the key that it looks at
pub place_head : (claim : Claim) (kind : GroupKind) (club : ℕ) (key : ClubKey)
    (asked : KindQuestion)
    → kind ≡ place_kind claim → asked ≡ record { kind = kind; club = club; key = key }
    → group_question_of asked ≡ record { kind = place_kind claim; club = club; key = [] }
place_head claim kind club key asked kind_is is =
    ap group_question_of is
    ∙ ap (λ it. group_question_of (record { kind = it; club = club; key = key })) kind_is
    ∙ by_claim claim
  where
    by_claim : (side : Claim)
        → group_question_of (record { kind = place_kind side; club = club; key = key })
        ≡ record { kind = place_kind side; club = club; key = [] }
    by_claim Inside = refl
    by_claim Outside = refl

pub nearer_head : (claim : Claim) (kind : GroupKind) (club : ℕ) (key : ClubKey)
    (asked : KindQuestion) → kind ≡ nearer_kind claim
    → asked ≡ record { kind = kind; club = club; key = key }
    → group_question_of asked
    ≡ record { kind = nearer_kind claim; club = club; key = key_parts key }
nearer_head claim kind club key asked kind_is is =
    ap group_question_of is
    ∙ ap (λ it. group_question_of (record { kind = it; club = club; key = key })) kind_is
    ∙ by_claim claim
  where
    by_claim : (side : Claim)
        → group_question_of (record { kind = nearer_kind side; club = club; key = key })
        ≡ record { kind = nearer_kind side; club = club; key = key_parts key }
    by_claim Inside = refl
    by_claim Outside = refl

pub others_head : (claim : Claim) (kind : GroupKind) (club : ℕ) (key : ClubKey)
    (asked : KindQuestion) → kind ≡ others_kind claim
    → asked ≡ record { kind = kind; club = club; key = key }
    → group_question_of asked
    ≡ record { kind = others_kind claim; club = club; key = key_parts key }
others_head claim kind club key asked kind_is is =
    ap group_question_of is
    ∙ ap (λ it. group_question_of (record { kind = it; club = club; key = key })) kind_is
    ∙ by_claim claim
  where
    by_claim : (side : Claim)
        → group_question_of (record { kind = others_kind side; club = club; key = key })
        ≡ record { kind = others_kind side; club = club; key = key_parts key }
    by_claim Inside = refl
    by_claim Outside = refl

-- ---- cuts

own_rises : (group : PlacedGroup) (least : ℕ) (clubs : List ℕ)
    → length group.sheet.clubs ≤ 6 → is_rising_from least clubs ≡ true
    → list_all (has_placed_club group) clubs ≡ true
    → are_rising_from (least - group.start.club) (map (own_club group) clubs) ≡ true
own_rises group least [] few rises all = refl
own_rises group least (club ∷ clubs) few rises all =
    let step = and_parts (nat_le least club) (is_rising_from (club + 1) clubs) rises in
    let both = and_parts (has_placed_club group club) (list_all (has_placed_club group) clubs)
    all in
    let range = and_parts (nat_le group.start.club club)
    (nat_lt club (group.start.club + length group.sheet.clubs)) both.0 in
    let from = leb-true group.start.club club range.0 in
    let below = ltb-true club (group.start.club + length group.sheet.clubs) range.1 in
    let rest = own_rises group (club + 1) clubs few step.1 both.1 in
    let next : club + 1 - group.start.club ≡ club - group.start.club + 1 =
    omega (arith, from) in
    let P : ℕ → Type 0 = λ n. are_rising_from n (map (own_club group) clubs) ≡ true in
    and_from (nat_le (least - group.start.club) (club - group.start.club)
    && is_club_number (club - group.start.club))
    (are_rising_from (club - group.start.club + 1) (map (own_club group) clubs))
    (and_from (nat_le (least - group.start.club) (club - group.start.club))
    (is_club_number (club - group.start.club))
    (le-leb (least - group.start.club) (club - group.start.club)
    (omega (arith, leb-true least club step.0)))
    (lt-ltb (club - group.start.club) 24 (omega (arith, below, few, from))))
    (subst P next rest)

-- the clubs of a cut that rises, by their numbers in the group, are a set
pub own_set-listed : (group : PlacedGroup) (clubs own : List ℕ) → IsPlaced group
    → is_rising clubs ≡ true → own_numbers group clubs ≡ Some own
    → set_listed own ≡ own_set group clubs
own_set-listed group [] own placed rises found = absurd (false≢true rises)
own_set-listed group (first ∷ more) own placed rises found =
    by_test (list_all (has_placed_club group) clubs) refl found
  where
    clubs : List ℕ
    clubs = first ∷ more

    by_test : (test : Bool) → list_all (has_placed_club group) clubs ≡ test
        → (if test then Some (map (own_club group) clubs) else None) ≡ Some own
        → set_listed own
        ≡ (if test then Some (record { bits = bits_at (map (own_club group) clubs) }) else None)
    by_test true all is =
        let same : map (own_club group) clubs ≡ own = cc in
        let none : 0 - group.start.club ≡ 0 = omega arith in
        let Rises : ℕ → Type 0 = λ n. are_rising_from n (map (own_club group) clubs) ≡ true in
        let from = subst Rises none (own_rises group 0 clubs placed.few_clubs rises all) in
        ap set_listed (sym same)
        ∙ ap (λ test. if test then Some (record { bits = bits_at (map (own_club group) clubs) })
        else None) from
    by_test false all is = absurd cc

-- where a club is not of the group there is none
pub own_set-none : (group : PlacedGroup) (clubs : List ℕ) → own_numbers group clubs ≡ None
    → own_set group clubs ≡ None
own_set-none group clubs found = by_test (list_all (has_placed_club group) clubs) found
  where
    cut : Option ClubSet
    cut = Some (record { bits = bits_at (map (own_club group) clubs) })

    by_test : (test : Bool)
        → (if test then Some (map (own_club group) clubs) else None) ≡ None
        → (if test then cut else None) ≡ None
    by_test true is = absurd cc
    by_test false is = refl
