-- What a record makes of the cup so far: a cup with what it adds, or the first refusal. Before the
-- first record there is no cup. Each definition makes its tests in the order in which they refuse.
use Rattle.std.specs.Prelude.{ℕ, Bool, false, not, ◌&&◌, ◌==◌, nat_le, nat_lt, List, [], ◌∷◌}
use Rattle.std.specs.Prelude.{◌++◌, length, Option, None, Some, Result, Ok, Err, if◌then◌else◌}
use Rattle.std.specs.Prelude.{option_and_then, option_map, option_to_list, is_some, bytes_eq, codes}
use Rattle.std.specs.List.{list_any}
use Rattle.std.specs.Option.{ok_or}
use Rattle.league_core.specs.declared.sheet.Sheet.{Sheet}
use Rattle.league_core.specs.declared.sheet.Club.{Club}
use Rattle.league_core.specs.declared.sheet.Fixture.{Fixture}
use Rattle.league_core.specs.declared.sheet.Order.TheVariants.{HeadFirst}
use Rattle.league_core.specs.game.Limits.{most_goal_limit, most_budget}
use Rattle.fixture_sheet.specs.declared.progress.Progress.{Progress}
use Rattle.fixture_sheet.specs.Fields.{field}
use Rattle.fixture_sheet.specs.Readings.{SheetRules, and_then, content_taken_by, so_far, whole}
use Rattle.fixture_sheet.specs.Texts.{number_written, number_within, name_of}
use Rattle.fixture_sheet.specs.Records.{sheet_begun, has_name, club_of, fixture_of}
use Rattle.cup_sheet.specs.declared.cup.Cup.{Cup}
use Rattle.cup_sheet.specs.declared.cup.CupHead.{CupHead}
use Rattle.cup_sheet.specs.declared.cup.CupDraft.{CupDraft}
use Rattle.cup_sheet.specs.declared.fault.CupFault.{CupFault}
use Rattle.cup_sheet.specs.declared.fault.CupFault.TheVariants.{NoCup, UnknownRecord, TooFewClubs}
use Rattle.cup_sheet.specs.declared.fault.CupFault.TheVariants.{WrongWidth, BadField, ClubTwice}
use Rattle.cup_sheet.specs.declared.fault.CupFault.TheVariants.{UnknownClub, SelfMatch, TooMany}
use Rattle.cup_sheet.specs.declared.fault.CupFault.TheVariants.{TooFewGroups, QuotaRange, NoSeason}
use Rattle.cup_sheet.specs.CupLimits.{least_groups, most_groups, least_group_clubs}
use Rattle.cup_sheet.specs.CupLimits.{most_group_clubs, most_group_fixtures}

-- all groups so far, the one begun last among them
abbrev pub groups_so_far : CupDraft → List Sheet
groups_so_far draft = draft.groups ++ option_to_list draft.group

-- the cup so far, with this as the group begun last
abbrev pub with_last : CupDraft → Sheet → CupDraft
with_last draft group = record draft { group = Some group }

-- the group begun last passes a test, if a group was begun
abbrev pub does_last : (Sheet → Bool) → Option Sheet → Bool
does_last test None = false
does_last test (Some group) = test group

-- the group begun last has fewer than three clubs
abbrev pub is_last_short : CupDraft → Bool
is_last_short draft =
    does_last (λ group. nat_lt (length group.clubs) least_group_clubs) draft.group

-- ---- cup,NAME,L,B,Q

-- what the first record says: a name, a goal limit from 1 to 20, a budget from 1 to 50,000, and
-- any number as the quota, which is tested at the end of the sheet
abbrev pub cup_head_of : List (List ℕ) → Option CupHead
cup_head_of fields =
    option_and_then (λ name.
    option_and_then (λ goal_limit.
    option_and_then (λ budget. option_map (λ quota.
    record { name = name; goal_limit = goal_limit; budget = budget; quota = quota })
    (number_written (field 4 fields)))
    (number_within 1 most_budget (field 3 fields)))
    (number_within 1 most_goal_limit (field 2 fields)))
    (name_of (field 1 fields))

-- a cup with no group yet
abbrev pub cup_begun : CupHead → CupDraft
cup_begun head = record { head = head; groups = []; group = None }

-- the first record
abbrev pub cup_taken : List (List ℕ) → Result CupDraft CupFault
cup_taken fields =
    if not (bytes_eq (field 0 fields) (codes "cup")) then Err NoCup
    else if not (length fields == 5) then Err WrongWidth
    else and_then (λ head. Ok (cup_begun head)) (ok_or (cup_head_of fields) BadField)

-- ---- group,NAME

-- a group with nothing but its name; goal limit and budget are the cup's
abbrev pub group_begun : CupDraft → List ℕ → Sheet
group_begun draft name = sheet_begun name draft.head.goal_limit draft.head.budget HeadFirst

-- one group more, if there is room. Two groups may have one name
abbrev pub group_added : CupDraft → List ℕ → Result CupDraft CupFault
group_added draft name =
    if nat_le most_groups (length (groups_so_far draft)) then Err TooMany
    else Ok (record {
      head = draft.head;
      groups = groups_so_far draft;
      group = Some (group_begun draft name);
    })

-- the group before has its three clubs
abbrev pub group_taken : CupDraft → List (List ℕ) → Result CupDraft CupFault
group_taken draft fields =
    if is_last_short draft then Err TooFewClubs
    else if not (length fields == 2) then Err WrongWidth
    else and_then (group_added draft) (ok_or (name_of (field 1 fields)) BadField)

-- ---- club,NAME,RANK

-- a club of this name stands already, in whatever group
abbrev pub is_named_before : CupDraft → List ℕ → Bool
is_named_before draft name = list_any (λ group. has_name group name) (groups_so_far draft)

-- a club more in a group
abbrev pub with_club : Club → Sheet → Sheet
with_club club group = record group { clubs = group.clubs ++ club ∷ [] }

-- a group was begun, and no match of it came yet
abbrev pub is_last_without_matches : CupDraft → Bool
is_last_without_matches draft = does_last (λ group. length group.fixtures == 0) draft.group

-- a new club of this group, if there is room
abbrev pub club_added_to : CupDraft → Option Sheet → Club → Result CupDraft CupFault
club_added_to draft None club = Err UnknownRecord
club_added_to draft (Some group) club =
    if is_named_before draft club.name then Err ClubTwice
    else if nat_le most_group_clubs (length group.clubs) then Err TooMany
    else Ok (with_last draft (with_club club group))

-- all clubs of a group come before its first match
abbrev pub cup_club_taken : CupDraft → List (List ℕ) → Result CupDraft CupFault
cup_club_taken draft fields =
    if not (is_last_without_matches draft) then Err UnknownRecord
    else if not (length fields == 3) then Err WrongWidth
    else and_then (club_added_to draft draft.group) (ok_or (club_of fields) BadField)

-- ---- match,HOME,AWAY

-- a fixture more in a group
abbrev pub with_fixture : Fixture → Sheet → Sheet
with_fixture fixture group = record group { fixtures = group.fixtures ++ fixture ∷ [] }

-- a group was begun
abbrev pub is_begun : CupDraft → Bool
is_begun draft = is_some draft.group

-- the fixture of two clubs of the group begun last, by their names
abbrev pub last_fixture_of : CupDraft → List (List ℕ) → Option Fixture
last_fixture_of draft fields = option_and_then (λ group. fixture_of group fields) draft.group

-- a fixture of two different clubs of this group, if there is room
abbrev pub fixture_added_to : CupDraft → Option Sheet → Fixture → Result CupDraft CupFault
fixture_added_to draft None fixture = Err UnknownRecord
fixture_added_to draft (Some group) fixture =
    if fixture.home == fixture.away then Err SelfMatch
    else if nat_le most_group_fixtures (length group.fixtures) then Err TooMany
    else Ok (with_last draft (with_fixture fixture group))

-- three clubs of a group at least come before its first match
abbrev pub cup_match_taken : CupDraft → List (List ℕ) → Result CupDraft CupFault
cup_match_taken draft fields =
    if not (is_begun draft) then Err UnknownRecord
    else if is_last_short draft then Err TooFewClubs
    else if not (length fields == 3) then Err WrongWidth
    else and_then (fixture_added_to draft draft.group)
    (ok_or (last_fixture_of draft fields) UnknownClub)

-- ---- season

-- the cup, whole
abbrev pub cup_of : CupDraft → Cup
cup_of draft =
    record { name = draft.head.name; groups = groups_so_far draft; quota = draft.head.quota }

-- some of the runners-up qualify, and not all of them
abbrev pub is_quota : ℕ → ℕ → Bool
is_quota groups quota = nat_le 1 quota && nat_lt quota groups

-- the cup is whole, with two groups at least
abbrev pub cup_season_taken : CupDraft → List (List ℕ) → Result Cup CupFault
cup_season_taken draft fields =
    if is_last_short draft then Err TooFewClubs
    else if not (length fields == 1) then Err WrongWidth
    else if nat_lt (length (groups_so_far draft)) least_groups then Err TooFewGroups
    else if not (is_quota (length (groups_so_far draft)) draft.head.quota) then Err QuotaRange
    else Ok (cup_of draft)

-- ---- any record

-- what came of a record of a cup
abbrev pub CupProgress : Type 0
CupProgress = Progress CupDraft Cup

-- a record after the first one, by its first field
abbrev pub cup_later_taken : CupDraft → List (List ℕ) → Result CupProgress CupFault
cup_later_taken draft fields =
    if bytes_eq (field 0 fields) (codes "group") then and_then so_far (group_taken draft fields)
    else if bytes_eq (field 0 fields) (codes "club")
    then and_then so_far (cup_club_taken draft fields)
    else if bytes_eq (field 0 fields) (codes "match")
    then and_then so_far (cup_match_taken draft fields)
    else if bytes_eq (field 0 fields) (codes "season")
    then and_then whole (cup_season_taken draft fields)
    else Err UnknownRecord

-- why a line that is no record is refused
abbrev pub cup_refusal_of_no_record : Option CupDraft → CupFault
cup_refusal_of_no_record None = NoCup
cup_refusal_of_no_record (Some draft) = UnknownRecord

-- why an input that ends here is refused
abbrev pub cup_fault_at_end : Option CupDraft → CupFault
cup_fault_at_end None = NoCup
cup_fault_at_end (Some draft) = NoSeason

-- a cup's sheet
abbrev pub cup_rules : SheetRules CupDraft Cup CupFault
cup_rules =
    record {
      first = cup_taken;
      later = cup_later_taken;
      no_record = cup_refusal_of_no_record;
      at_end = cup_fault_at_end;
    }

-- the content of a line
abbrev pub cup_content_taken : Option CupDraft → List ℕ → Result CupProgress CupFault
cup_content_taken = content_taken_by cup_rules
