-- What refutes a side of a club: behind the list of groups, and the trees about the club itself.
use Rattle.std.proofs.Common.{◌≡◌, ◌+◌, ◌<◌, ◌≤◌, ◌∙◌, ℕ, [], true, ap}
use Rattle.std.proofs.Common.{arith, length}
use Rattle.std.specs.Prelude.{nat_le, nat_lt}
use Rattle.std.proofs.lemmas.Bool.{and_parts, leb-true, ltb-true}
use Rattle.league_core.specs.declared.question.Claim.{Claim}
use Rattle.club_keys.specs.declared.club_key.ClubKey.{ClubKey}
use Rattle.club_keys.specs.inside.KeyEnds.{key_parts}
use Rattle.cup_sheet.specs.declared.question.GroupKind.{GroupKind}
use Rattle.cup_sheet.specs.KeyBounds.{nearer_kind, place_kind}
use Rattle.cup_groups.specs.declared.question.KindQuestion.{KindQuestion}
use Rattle.cup_groups.specs.inside.KindQuestions.{group_question_of}
use Rattle.cup_grammar.specs.PlacedGroups.{PlacedGroup, has_placed_club, own_club}
use Rattle.cup_grammar.specs.CupDues.{tree_head}
use Rattle.cup_check.proofs.GroupTreeLemmas.{nearer_head, place_head}

-- the number of a club in its group
pub from_start : (mine : PlacedGroup) (club : ℕ) → has_placed_club mine club ≡ true
    → mine.start.club ≤ club
from_start mine club has =
    leb-true mine.start.club club (and_parts (nat_le mine.start.club club)
    (nat_lt club (mine.start.club + length mine.sheet.clubs)) has).0

pub own_below : (mine : PlacedGroup) (club : ℕ) → has_placed_club mine club ≡ true
    → own_club mine club < length mine.sheet.clubs
own_below mine club has =
    let below = ltb-true club (mine.start.club + length mine.sheet.clubs)
    (and_parts (nat_le mine.start.club club)
    (nat_lt club (mine.start.club + length mine.sheet.clubs)) has).1 in
    omega (arith, below, from_start mine club has)

-- the trees about a club of its group, as they are due
pub place_due : (mine : PlacedGroup) (claim : Claim) (club own : ℕ) (key : ClubKey)
    (kind : GroupKind) (asked : KindQuestion) → kind ≡ place_kind claim
    → asked ≡ record { kind = kind; club = own; key = key } → own ≡ own_club mine club
    → tree_head mine (group_question_of asked)
    ≡ tree_head mine (record { kind = place_kind claim; club = own_club mine club; key = [] })
place_due mine claim club own key kind asked kind_is is own_is =
    ap (tree_head mine) (place_head claim kind own key asked kind_is is)
    ∙ ap (λ it. tree_head mine (record { kind = place_kind claim; club = it; key = [] })) own_is

pub nearer_due : (mine : PlacedGroup) (claim : Claim) (club own : ℕ) (key : ClubKey)
    (kind : GroupKind) (asked : KindQuestion) → kind ≡ nearer_kind claim
    → asked ≡ record { kind = kind; club = own; key = key } → own ≡ own_club mine club
    → tree_head mine (group_question_of asked) ≡ tree_head mine (record {
      kind = nearer_kind claim;
      club = own_club mine club;
      key = key_parts key;
    })
nearer_due mine claim club own key kind asked kind_is is own_is =
    ap (tree_head mine) (nearer_head claim kind own key asked kind_is is)
    ∙ ap (λ it. tree_head mine (record {
      kind = nearer_kind claim;
      club = it;
      key = key_parts key;
    })) own_is
