-- What a record of the feed tells, in the season of the events before it, or why it is refused. The
-- tests of a record stand in the order in which they refuse it. Fields count from 0 here.
use Rattle.std.specs.Prelude.{◌<◌, ℕ, ◌-◌, Bool, true, false, not, ◌&&◌, ◌||◌, ◌==◌, nat_le, IsTrue}
use Rattle.std.specs.Prelude.{List, [], ◌∷◌, length, slice_index_or, Option, None, Some, is_some}
use Rattle.std.specs.Prelude.{Result, Ok, Err, if◌then◌else◌, bytes_eq, codes}
use Rattle.std.specs.Str.Parse.{digits_value}
use Rattle.league_core.specs.declared.sheet.Sheet.{Sheet}
use Rattle.league_core.specs.declared.season.Score.{Score}
use Rattle.league_core.specs.declared.season.Event.TheVariants.{Set, Clear, Deduct}
use Rattle.league_core.specs.game.Limits.{most_deduction, most_events, most_goals}
use Rattle.league_core.specs.game.Results.{Results}
use Rattle.league_core.specs.game.Seasons.{IsEventOf}
use Rattle.fixture_sheet.specs.Fields.{field}
use Rattle.fixture_sheet.specs.Texts.{number_within}
use Rattle.fixture_sheet.specs.Records.{club_named}
use Rattle.result_log.specs.declared.entry.Entry.{Entry}
use Rattle.result_log.specs.declared.entry.Entry.TheVariants.{Change, Ask, Proofs, End}
use Rattle.result_log.specs.declared.kind.Kind.{Kind}
use Rattle.result_log.specs.declared.kind.Kind.TheVariants as kind
use Rattle.result_log.specs.declared.fault.FeedFault.{FeedFault}
use Rattle.result_log.specs.declared.fault.FeedFault.TheVariants.{UnknownRecord, WrongWidth}
use Rattle.result_log.specs.declared.fault.FeedFault.TheVariants.{UnknownFixture, UnknownClub}
use Rattle.result_log.specs.declared.fault.FeedFault.TheVariants.{BadGoals, BadPoints}
use Rattle.result_log.specs.declared.fault.FeedFault.TheVariants.{AlreadyPlayed, NotPlayed, LogFull}

-- ---- the kinds of records

-- the kind of a record by its first field; `proofs` is one only if proofs may follow the feed
abbrev pub kind_of : Bool → List ℕ → Option Kind
kind_of proofs word =
    if bytes_eq word (codes "result") then Some kind.Result
    else if bytes_eq word (codes "fix") then Some kind.Fix
    else if bytes_eq word (codes "void") then Some kind.Void
    else if bytes_eq word (codes "deduct") then Some kind.Deduct
    else if bytes_eq word (codes "ask") then Some kind.Ask
    else if bytes_eq word (codes "proofs") && proofs then Some kind.Proofs
    else None

-- how many fields it has: result,F,H,A and fix,F,H,A; void,F; deduct,CLUB,P; ask; proofs
abbrev pub width_of : Kind → ℕ
width_of kind.Result = 4
width_of kind.Fix = 4
width_of kind.Void = 2
width_of kind.Deduct = 3
width_of kind.Ask = 1
width_of kind.Proofs = 1

-- it tells a score
abbrev pub tells_a_score : Kind → Bool
tells_a_score kind.Result = true
tells_a_score kind.Fix = true
tells_a_score kind.Void = false
tells_a_score kind.Deduct = false
tells_a_score kind.Ask = false
tells_a_score kind.Proofs = false

-- it is for a fixture that has no score
abbrev pub is_for_unplayed : Kind → Bool
is_for_unplayed kind.Result = true
is_for_unplayed kind.Fix = false
is_for_unplayed kind.Void = false
is_for_unplayed kind.Deduct = false
is_for_unplayed kind.Ask = false
is_for_unplayed kind.Proofs = false

-- it is for a fixture that has a score
abbrev pub is_for_played : Kind → Bool
is_for_played kind.Result = false
is_for_played kind.Fix = true
is_for_played kind.Void = true
is_for_played kind.Deduct = false
is_for_played kind.Ask = false
is_for_played kind.Proofs = false

-- it is for a fixture
abbrev pub is_for_fixture : Kind → Bool
is_for_fixture kind = is_for_unplayed kind || is_for_played kind

-- it is for a club
abbrev pub is_for_club : Kind → Bool
is_for_club kind.Result = false
is_for_club kind.Fix = false
is_for_club kind.Void = false
is_for_club kind.Deduct = true
is_for_club kind.Ask = false
is_for_club kind.Proofs = false

-- it tells an event
abbrev pub is_event : Kind → Bool
is_event kind = is_for_fixture kind || is_for_club kind

-- ---- what a record tells; it means something if no test refuses the record

-- the number that a field writes
abbrev pub number_in_field : ℕ → List (List ℕ) → ℕ
number_in_field place fields = digits_value 10 (field place fields)

-- the fixture, by its number from 0; a feed counts fixtures from 1
abbrev pub fixture_in : List (List ℕ) → ℕ
fixture_in fields = number_in_field 1 fields - 1

-- the score
abbrev pub score_in : List (List ℕ) → Score
score_in fields = record { home = number_in_field 2 fields; away = number_in_field 3 fields }

-- a number that is found
abbrev pub found_number : Option ℕ → ℕ
found_number None = 0
found_number (Some number) = number

-- the club, by its number from 0
abbrev pub club_in : Sheet → List (List ℕ) → ℕ
club_in sheet fields = found_number (club_named sheet (field 1 fields))

-- the entry
abbrev pub entry_in_fields : Sheet → List (List ℕ) → Kind → Entry
entry_in_fields sheet fields kind.Result = Change (Set (fixture_in fields) (score_in fields))
entry_in_fields sheet fields kind.Fix = Change (Set (fixture_in fields) (score_in fields))
entry_in_fields sheet fields kind.Void = Change (Clear (fixture_in fields))
entry_in_fields sheet fields kind.Deduct = Change
    (Deduct (club_in sheet fields) (number_in_field 2 fields))
entry_in_fields sheet fields kind.Ask = Ask
entry_in_fields sheet fields kind.Proofs = Proofs

-- ---- the tests

-- a field is a number, and in this range
abbrev pub is_field_within : ℕ → ℕ → List ℕ → Bool
is_field_within least most text = is_some (number_within least most text)

-- the sheet has the fixture
abbrev pub has_fixture : Sheet → List (List ℕ) → Bool
has_fixture sheet fields = is_field_within 1 (length sheet.fixtures) (field 1 fields)

-- the score is one that a match may have
abbrev pub has_goals : List (List ℕ) → Bool
has_goals fields =
    is_field_within 0 most_goals (field 2 fields) && is_field_within 0 most_goals (field 3 fields)

-- the sheet has the club
abbrev pub names_a_club : Sheet → List (List ℕ) → Bool
names_a_club sheet fields = is_some (club_named sheet (field 1 fields))

-- the points are as many as may be taken off
abbrev pub has_points : List (List ℕ) → Bool
has_points fields = is_field_within 0 most_deduction (field 2 fields)

-- the fixture has a score
abbrev pub has_result : Results → ℕ → Bool
has_result season fixture = is_some (slice_index_or season.scores fixture None)

-- the tests of what an event is told by, and their refusals
abbrev pub event_tests :
    Sheet → Results → ℕ → List (List ℕ) → Kind → List (Bool × FeedFault)
event_tests sheet season events fields kind =
    (is_for_fixture kind && not (has_fixture sheet fields), UnknownFixture)
    ∷ (is_for_club kind && not (names_a_club sheet fields), UnknownClub)
    ∷ (tells_a_score kind && not (has_goals fields), BadGoals)
    ∷ (is_for_club kind && not (has_points fields), BadPoints)
    ∷ (is_for_unplayed kind && has_result season (fixture_in fields), AlreadyPlayed)
    ∷ (is_for_played kind && not (has_result season (fixture_in fields)), NotPlayed)
    ∷ (is_event kind && nat_le most_events events, LogFull)
    ∷ []

-- all tests of a record of this kind
abbrev pub tests_of : Sheet → Results → ℕ → List (List ℕ) → Kind → List (Bool × FeedFault)
tests_of sheet season events fields kind =
    (not (length fields == width_of kind), WrongWidth)
    ∷ event_tests sheet season events fields kind

-- a value, or the refusal of the first test that says yes
abbrev pub value_unless : {A : Type 0} → List (Bool × FeedFault) → A → Result A FeedFault
value_unless [] value = Ok value
value_unless (test ∷ tests) value = if test.0 then Err test.1 else value_unless tests value

-- the entry that a record of this kind is, if it is of any
abbrev pub entry_by :
    Sheet → Results → ℕ → List (List ℕ) → Option Kind → Result Entry FeedFault
entry_by sheet season events fields None = Err UnknownRecord
entry_by sheet season events fields (Some kind) =
    value_unless (tests_of sheet season events fields kind) (entry_in_fields sheet fields kind)

-- the entry that a record is, in this season, after so many events
abbrev pub entry_of :
    Sheet → Results → ℕ → Bool → List (List ℕ) → Result Entry FeedFault
entry_of sheet season events proofs fields =
    entry_by sheet season events fields (kind_of proofs (field 0 fields))

-- an entry may come in this season, after so many events: its event is one that the season may be
-- told, with room for it, and proofs follow only if they may
abbrev pub IsEntryAt : Results → ℕ → Bool → Entry → Type 0
IsEntryAt season events proofs (Change event) = IsEventOf season event × (events < most_events)
IsEntryAt season events proofs Ask = Unit {0}
IsEntryAt season events proofs Proofs = IsTrue proofs
IsEntryAt season events proofs End = Unit {0}
