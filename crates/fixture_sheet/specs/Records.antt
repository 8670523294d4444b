-- What a record makes of the sheet so far: a sheet with what it adds, or the first refusal. Before
-- the first record there is no sheet. Each definition makes its tests in the order in which they
-- refuse.
use Rattle.std.specs.Prelude.{ℕ, Bool, not, ◌||◌, ◌==◌, nat_le, nat_lt, List, [], ◌∷◌, ◌++◌, length}
use Rattle.std.specs.Prelude.{Option, None, Some, Result, Ok, Err, if◌then◌else◌, option_and_then}
use Rattle.std.specs.Prelude.{option_map, position, bytes_eq, codes, map}
use Rattle.std.specs.List.{list_any}
use Rattle.std.specs.Option.{ok_or}
use Rattle.league_core.specs.declared.sheet.Sheet.{Sheet}
use Rattle.league_core.specs.declared.sheet.Club.{Club}
use Rattle.league_core.specs.declared.sheet.Fixture.{Fixture}
use Rattle.league_core.specs.declared.sheet.Order.{Order}
use Rattle.league_core.specs.declared.sheet.Order.TheVariants.{HeadFirst, OverallFirst}
use Rattle.league_core.specs.game.Limits.{most_clubs, most_fixtures, most_lines, most_rank}
use Rattle.league_core.specs.game.Limits.{most_goal_limit, most_budget}
use Rattle.league_core.specs.game.Sheets.{is_line}
use Rattle.fixture_sheet.specs.declared.fault.SheetFault.{SheetFault}
use Rattle.fixture_sheet.specs.declared.fault.SheetFault.TheVariants.{NoLeague, BadField, ClubTwice}
use Rattle.fixture_sheet.specs.declared.fault.SheetFault.TheVariants.{UnknownClub, SelfMatch}
use Rattle.fixture_sheet.specs.declared.fault.SheetFault.TheVariants.{LineRange, TooMany}
use Rattle.fixture_sheet.specs.declared.fault.SheetFault.TheVariants.{TooFewClubs, UnknownRecord}
use Rattle.fixture_sheet.specs.declared.fault.SheetFault.TheVariants.{WrongWidth, LineTwice}
use Rattle.fixture_sheet.specs.declared.fault.SheetFault.TheVariants.{NoSeason}
use Rattle.fixture_sheet.specs.declared.progress.Progress.{Progress}
use Rattle.fixture_sheet.specs.Fields.{field}
use Rattle.fixture_sheet.specs.Readings.{SheetRules, and_then, content_taken_by, so_far, whole}
use Rattle.fixture_sheet.specs.Texts.{number_written, number_within, text_of, name_of}

-- the clubs' names, in the order of the sheet
abbrev pub names_of : Sheet → List (List ℕ)
names_of sheet = map (λ (club : Club). club.name) sheet.clubs

-- ---- league,NAME,L or league,NAME,L,B or league,NAME,L,B,ORDER

-- a sheet with nothing but its league
abbrev pub sheet_begun : List ℕ → ℕ → ℕ → Order → Sheet
sheet_begun name goal_limit budget order =
    record {
      name = name;
      clubs = [];
      fixtures = [];
      lines = [];
      goal_limit = goal_limit;
      budget = budget;
      order = order;
    }

-- the node budget: 1 to 50,000, or 2,000 if the record does not name one
abbrev pub budget_of : List (List ℕ) → Option ℕ
budget_of fields =
    if length fields == 3 then Some 2000 else number_within 1 most_budget (field 3 fields)

-- the order of the criteria that a word names
abbrev pub order_named : List ℕ → Option Order
order_named word =
    if bytes_eq word (codes "head_first") then Some HeadFirst
    else if bytes_eq word (codes "overall_first") then Some OverallFirst
    else None

-- the order of the criteria: the head-to-head record first if the record does not name one
abbrev pub order_in : List (List ℕ) → Option Order
order_in fields = if nat_lt (length fields) 5 then Some HeadFirst else order_named
    (field 4 fields)

-- the sheet that a league's record begins: a name, a goal limit from 1 to 20, a budget, and an
-- order
abbrev pub league_of : List (List ℕ) → Option Sheet
league_of fields =
    option_and_then (λ name.
    option_and_then (λ goal_limit.
    option_and_then (λ budget. option_map (λ order. sheet_begun name goal_limit budget order)
    (order_in fields))
    (budget_of fields))
    (number_within 1 most_goal_limit (field 2 fields)))
    (name_of (field 1 fields))

-- the first record
abbrev pub league_taken : List (List ℕ) → Result Sheet SheetFault
league_taken fields =
    if not (bytes_eq (field 0 fields) (codes "league")) then Err NoLeague
    else if nat_lt (length fields) 3 || nat_lt 5 (length fields) then Err WrongWidth
    else ok_or (league_of fields) BadField

-- ---- club,NAME,RANK

-- the number of the club that a field names, if it names one; what is not UTF-8 names none
abbrev pub club_named : Sheet → List ℕ → Option ℕ
club_named sheet field =
    option_and_then (λ name. position (bytes_eq name) (names_of sheet)) (text_of field)

-- a club of this name stands already
abbrev pub has_name : Sheet → List ℕ → Bool
has_name sheet name = list_any (bytes_eq name) (names_of sheet)

-- a match or a line came already
abbrev pub is_past_clubs : Sheet → Bool
is_past_clubs sheet = nat_lt 0 (length sheet.fixtures) || nat_lt 0 (length sheet.lines)

-- a club: a name, and a fixed rank from 1 to 999
abbrev pub club_of : List (List ℕ) → Option Club
club_of fields =
    option_and_then (λ name. option_map (λ rank. record { name = name; rank = rank })
    (number_within 1 most_rank (field 2 fields)))
    (name_of (field 1 fields))

-- a new club, if there is room
abbrev pub club_added : Sheet → Club → Result Sheet SheetFault
club_added sheet club =
    if has_name sheet club.name then Err ClubTwice
    else if nat_le most_clubs (length sheet.clubs) then Err TooMany
    else Ok (record sheet { clubs = sheet.clubs ++ club ∷ [] })

-- all clubs come before the first match or line
abbrev pub club_taken : Sheet → List (List ℕ) → Result Sheet SheetFault
club_taken sheet fields =
    if is_past_clubs sheet then Err UnknownRecord
    else if not (length fields == 3) then Err WrongWidth
    else and_then (club_added sheet) (ok_or (club_of fields) BadField)

-- ---- match,HOME,AWAY

-- there are not two clubs yet
abbrev pub has_few_clubs : Sheet → Bool
has_few_clubs sheet = nat_lt (length sheet.clubs) 2

-- a fixture of two clubs by their names
abbrev pub fixture_of : Sheet → List (List ℕ) → Option Fixture
fixture_of sheet fields =
    option_and_then (λ home. option_map (λ away. record { home = home; away = away })
    (club_named sheet (field 2 fields)))
    (club_named sheet (field 1 fields))

-- a fixture of two different clubs, if there is room
abbrev pub fixture_added : Sheet → Fixture → Result Sheet SheetFault
fixture_added sheet fixture =
    if fixture.home == fixture.away then Err SelfMatch
    else if nat_le most_fixtures (length sheet.fixtures) then Err TooMany
    else Ok (record sheet { fixtures = sheet.fixtures ++ fixture ∷ [] })

-- two clubs at least come before the first match
abbrev pub match_taken : Sheet → List (List ℕ) → Result Sheet SheetFault
match_taken sheet fields =
    if has_few_clubs sheet then Err TooFewClubs
    else if not (length fields == 3) then Err WrongWidth
    else and_then (fixture_added sheet) (ok_or (fixture_of sheet fields) UnknownClub)

-- ---- line,K

-- a new line that leaves a club on each side, if there is room
abbrev pub line_added : Sheet → ℕ → Result Sheet SheetFault
line_added sheet line =
    if not (is_line (length sheet.clubs) line) then Err LineRange
    else if list_any (λ other. other == line) sheet.lines then Err LineTwice
    else if nat_le most_lines (length sheet.lines) then Err TooMany
    else Ok (record sheet { lines = sheet.lines ++ line ∷ [] })

-- two clubs at least come before the first line
abbrev pub line_taken : Sheet → List (List ℕ) → Result Sheet SheetFault
line_taken sheet fields =
    if has_few_clubs sheet then Err TooFewClubs
    else if not (length fields == 2) then Err WrongWidth
    else and_then (line_added sheet) (ok_or (number_written (field 1 fields)) BadField)

-- ---- season

-- the sheet is whole, with two clubs at least
abbrev pub season_taken : Sheet → List (List ℕ) → Result Sheet SheetFault
season_taken sheet fields =
    if has_few_clubs sheet then Err TooFewClubs
    else if not (length fields == 1) then Err WrongWidth
    else Ok sheet

-- ---- any record

-- what came of a record of a league
abbrev pub SheetProgress : Type 0
SheetProgress = Progress Sheet Sheet

-- a record after the first one, by its first field
abbrev pub later_taken : Sheet → List (List ℕ) → Result SheetProgress SheetFault
later_taken sheet fields =
    if bytes_eq (field 0 fields) (codes "club") then and_then so_far (club_taken sheet fields)
    else if bytes_eq (field 0 fields) (codes "match") then and_then so_far (match_taken sheet
    fields)
    else if bytes_eq (field 0 fields) (codes "line") then and_then so_far (line_taken sheet fields)
    else if bytes_eq (field 0 fields) (codes "season") then and_then whole (season_taken sheet
    fields)
    else Err UnknownRecord

-- why a line that is no record is refused
abbrev pub refusal_of_no_record : Option Sheet → SheetFault
refusal_of_no_record None = NoLeague
refusal_of_no_record (Some sheet) = UnknownRecord

-- why an input that ends here is refused
abbrev pub fault_at_end : Option Sheet → SheetFault
fault_at_end None = NoLeague
fault_at_end (Some sheet) = NoSeason

-- a league's sheet
abbrev pub sheet_rules : SheetRules Sheet Sheet SheetFault
sheet_rules =
    record {
      first = league_taken;
      later = later_taken;
      no_record = refusal_of_no_record;
      at_end = fault_at_end;
    }

-- the content of a line
abbrev pub content_taken : Option Sheet → List ℕ → Result SheetProgress SheetFault
content_taken = content_taken_by sheet_rules
