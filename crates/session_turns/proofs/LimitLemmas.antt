-- The sheet that contents give is within the limits, by the definitions alone: each record keeps a
-- sheet so far within them, and `season` is taken only where there are two clubs.
use Rattle.std.proofs.Common.{◌≡◌, ℕ, ◌+◌, Bool, true, false, not, ◌&&◌, ◌==◌, nat_le, nat_lt}
use Rattle.std.proofs.Common.{List, [], ◌∷◌, ◌++◌, length, Option, Some, None, Result, Ok, Err}
use Rattle.std.proofs.Common.{bytes_eq, codes, refl, arith}
use Rattle.std.specs.Prelude.{if◌then◌else◌, option_and_then, option_map}
use Rattle.std.specs.List.{list_any}
use Rattle.std.specs.Option.{ok_or}
use Rattle.std.proofs.lemmas.Bool.{and_from, leb-true, leb-false, ltb-false}
use Rattle.std.proofs.lemmas.Bool.{lt-ltb, not_from_false, not-false}
use Rattle.league_core.specs.declared.sheet.Sheet.{Sheet}
use Rattle.league_core.specs.declared.sheet.Club.{Club}
use Rattle.league_core.specs.declared.sheet.Fixture.{Fixture}
use Rattle.league_core.specs.declared.sheet.Order.{Order}
use Rattle.league_core.specs.game.Limits.{most_clubs, most_fixtures, most_lines}
use Rattle.league_core.specs.game.Limits.{most_goal_limit, most_budget}
use Rattle.league_core.specs.game.Sheets.{IsWithinLimits, is_line}
use Rattle.port_core.specs.declared.line.ReadStop.{ReadStop}
use Rattle.port_core.specs.Contents.{Contents}
use Rattle.fixture_sheet.specs.declared.fault.SheetFault.{SheetFault}
use Rattle.fixture_sheet.specs.declared.fault.SheetFault.TheVariants as fault
use Rattle.fixture_sheet.specs.Sheets.{SheetStop}
use Rattle.fixture_sheet.specs.Records.{SheetProgress}
use Rattle.fixture_sheet.specs.declared.progress.Progress.TheVariants.{SoFar, Whole}
use Rattle.fixture_sheet.specs.Fields.{field, has_return, record_of}
use Rattle.fixture_sheet.specs.Texts.{name_of, number_within, number_written}
use Rattle.fixture_sheet.specs.inside.Drafts.{IsDraft}
use Rattle.fixture_sheet.specs.Readings.{and_then, reading_by, record_taken_if, so_far, whole}
use Rattle.fixture_sheet.specs.Records.{budget_of, club_added, club_of}
use Rattle.fixture_sheet.specs.Records.{club_taken, content_taken, fixture_added, fixture_of}
use Rattle.fixture_sheet.specs.Records.{has_few_clubs, has_name, is_past_clubs, later_taken}
use Rattle.fixture_sheet.specs.Records.{league_of, league_taken, line_added, line_taken}
use Rattle.fixture_sheet.specs.Records.{match_taken, order_in, sheet_rules}
use Rattle.fixture_sheet.specs.Records.{refusal_of_no_record, season_taken, sheet_begun}
use Rattle.fixture_sheet.specs.Sheets.{sheet_reading_from, sheet_reading_of}
use Rattle.fixture_sheet.proofs.DraftLemmas.{club-keeps, line-keeps}
use Rattle.run_ends.proofs.FieldLemmas.{Anything, Fits, Has, IsBetween, IsClub, IsMatchOf, IsNamed}
use Rattle.run_ends.proofs.FieldLemmas.{club-has, fits-either, fits-ok_or, fits-unless, fixture-has}
use Rattle.run_ends.proofs.FieldLemmas.{fixture-more, has-anything, has-map, has-then, name-has}
use Rattle.run_ends.proofs.FieldLemmas.{number-has}

-- ---- what is not refused

fits-then : {A B : Type 0} (P : A → Type 0) (Q : B → Type 0) (next : A → Result B SheetFault)
    (found : Result A SheetFault) → Fits P found → ((value : A) → P value → Fits Q (next value))
    → Fits Q (and_then next found)
fits-then P Q next (Ok value) fits behind = behind value fits
fits-then P Q next (Err why) fits behind = tt

-- ---- the first record

budget-has : (fields : List (List ℕ)) → Has (IsBetween 1 most_budget) (budget_of fields)
budget-has fields = by_test (length fields == 3)
  where
    by_test : (test : Bool) → Has (IsBetween 1 most_budget)
        (if test then Some 2000 else number_within 1 most_budget (field 3 fields))
    by_test true = (refl, refl)
    by_test false = number-has 1 most_budget (field 3 fields)

-- a sheet with nothing but its league
begun-is : (name : List ℕ) (goal_limit budget : ℕ) (order : Order) → IsNamed name
    → IsBetween 1 most_goal_limit goal_limit → IsBetween 1 most_budget budget
    → IsDraft (sheet_begun name goal_limit budget order)
begun-is name goal_limit budget order named goals nodes = record {
  name = named;
  most_clubs = omega arith;
  most_fixtures = omega arith;
  most_lines = omega arith;
  clubs = refl;
  different_names = refl;
  fixtures = refl;
  lines = refl;
  different_lines = refl;
  least_goal_limit = leb-true 1 goal_limit goals.0;
  most_goal_limit = leb-true goal_limit most_goal_limit goals.1;
  least_budget = leb-true 1 budget nodes.0;
  most_budget = leb-true budget most_budget nodes.1;
}

league-has : (fields : List (List ℕ)) → Has IsDraft (league_of fields)
league-has fields =
    has-then IsNamed IsDraft (λ name. with_name name) (name_of (field 1 fields))
    (name-has (field 1 fields))
    (λ name named. has-then (IsBetween 1 most_goal_limit) IsDraft
    (λ goal_limit. with_goals name goal_limit)
    (number_within 1 most_goal_limit (field 2 fields))
    (number-has 1 most_goal_limit (field 2 fields))
    (λ goal_limit goals. has-then (IsBetween 1 most_budget) IsDraft
    (λ budget. with_budget name goal_limit budget) (budget_of fields) (budget-has fields)
    (λ budget nodes. has-map Anything IsDraft (sheet_begun name goal_limit budget)
    (order_in fields) (has-anything (order_in fields))
    (λ order any. begun-is name goal_limit budget order named goals nodes))))
  where
    with_budget : List ℕ → ℕ → ℕ → Option Sheet
    with_budget name goal_limit budget =
        option_map (λ order. sheet_begun name goal_limit budget order) (order_in fields)

    with_goals : List ℕ → ℕ → Option Sheet
    with_goals name goal_limit = option_and_then (with_budget name goal_limit) (budget_of fields)

    with_name : List ℕ → Option Sheet
    with_name name =
        option_and_then (with_goals name) (number_within 1 most_goal_limit (field 2 fields))

league-fits : (fields : List (List ℕ)) → Fits IsDraft (league_taken fields)
league-fits fields =
    fits-unless IsDraft (not (bytes_eq (field 0 fields) (codes "league"))) fault.NoLeague _
    (λ is. fits-unless IsDraft _ fault.WrongWidth (ok_or (league_of fields) fault.BadField)
    (λ wide. fits-ok_or IsDraft (league_of fields) fault.BadField (league-has fields)))

-- ---- a club

club-added : (sheet : Sheet) (club : Club) → IsDraft sheet → is_past_clubs sheet ≡ false
    → IsClub club → Fits IsDraft (club_added sheet club)
club-added sheet club draft first is =
    fits-unless IsDraft (has_name sheet club.name) fault.ClubTwice _
    (λ fresh. fits-unless IsDraft (nat_le most_clubs (length sheet.clubs)) fault.TooMany
    (Ok (record sheet { clubs = sheet.clubs ++ club ∷ [] }))
    (λ room. club-keeps sheet sheet (sheet.clubs ++ club ∷ []) club refl draft is fresh
    (leb-false most_clubs (length sheet.clubs) room) first refl))

club-fits : (sheet : Sheet) (fields : List (List ℕ)) → IsDraft sheet
    → Fits IsDraft (club_taken sheet fields)
club-fits sheet fields draft =
    fits-unless IsDraft (is_past_clubs sheet) fault.UnknownRecord _
    (λ first. fits-unless IsDraft (not (length fields == 3)) fault.WrongWidth
    (and_then (club_added sheet) (ok_or (club_of fields) fault.BadField))
    (λ wide. fits-then IsClub IsDraft (club_added sheet) (ok_or (club_of fields) fault.BadField)
    (fits-ok_or IsClub (club_of fields) fault.BadField (club-has fields))
    (λ club is. club-added sheet club draft first is)))

-- ---- a match

fixture-added : (sheet : Sheet) (match : Fixture) → IsDraft sheet → IsMatchOf sheet match
    → Fits IsDraft (fixture_added sheet match)
fixture-added sheet match draft within =
    let clubs = length sheet.clubs in
    fits-unless IsDraft (match.home == match.away) fault.SelfMatch _
    (λ apart. fits-unless IsDraft (nat_le most_fixtures (length sheet.fixtures)) fault.TooMany
    (Ok (record sheet { fixtures = sheet.fixtures ++ match ∷ [] }))
    (λ room. fixture-more sheet match draft
    (and_from (nat_lt match.home clubs && nat_lt match.away clubs)
    (not (match.home == match.away))
    (and_from (nat_lt match.home clubs) (nat_lt match.away clubs)
    (lt-ltb match.home clubs within.0) (lt-ltb match.away clubs within.1))
    (not_from_false (match.home == match.away) apart))
    (leb-false most_fixtures (length sheet.fixtures) room)))

match-fits : (sheet : Sheet) (fields : List (List ℕ)) → IsDraft sheet
    → Fits IsDraft (match_taken sheet fields)
match-fits sheet fields draft =
    fits-unless IsDraft (has_few_clubs sheet) fault.TooFewClubs _
    (λ some. fits-unless IsDraft (not (length fields == 3)) fault.WrongWidth
    (and_then (fixture_added sheet) (ok_or (fixture_of sheet fields) fault.UnknownClub))
    (λ wide. fits-then (IsMatchOf sheet) IsDraft (fixture_added sheet)
    (ok_or (fixture_of sheet fields) fault.UnknownClub)
    (fits-ok_or (IsMatchOf sheet) (fixture_of sheet fields) fault.UnknownClub
    (fixture-has sheet fields))
    (λ match within. fixture-added sheet match draft within)))

-- ---- a line

line-added : (sheet : Sheet) (line : ℕ) → IsDraft sheet → Fits IsDraft (line_added sheet line)
line-added sheet line draft =
    fits-unless IsDraft (not (is_line (length sheet.clubs) line)) fault.LineRange _
    (λ range. fits-unless IsDraft (list_any (λ other. other == line) sheet.lines)
    fault.LineTwice _
    (λ fresh. fits-unless IsDraft (nat_le most_lines (length sheet.lines)) fault.TooMany
    (Ok (record sheet { lines = sheet.lines ++ line ∷ [] }))
    (λ room. line-keeps sheet sheet (sheet.lines ++ line ∷ []) line refl draft
    (not-false (is_line (length sheet.clubs) line) range) fresh
    (leb-false most_lines (length sheet.lines) room) refl)))

line-fits : (sheet : Sheet) (fields : List (List ℕ)) → IsDraft sheet
    → Fits IsDraft (line_taken sheet fields)
line-fits sheet fields draft =
    fits-unless IsDraft (has_few_clubs sheet) fault.TooFewClubs _
    (λ some. fits-unless IsDraft (not (length fields == 2)) fault.WrongWidth
    (and_then (line_added sheet) (ok_or (number_written (field 1 fields)) fault.BadField))
    (λ wide. fits-then Anything IsDraft (line_added sheet)
    (ok_or (number_written (field 1 fields)) fault.BadField)
    (fits-ok_or Anything (number_written (field 1 fields)) fault.BadField
    (has-anything (number_written (field 1 fields))))
    (λ line any. line-added sheet line draft)))

-- ---- the last record

season-fits : (sheet : Sheet) (fields : List (List ℕ)) → IsDraft sheet
    → Fits IsWithinLimits (season_taken sheet fields)
season-fits sheet fields draft =
    fits-unless IsWithinLimits (has_few_clubs sheet) fault.TooFewClubs _
    (λ some. fits-unless IsWithinLimits (not (length fields == 1)) fault.WrongWidth (Ok sheet)
    (λ wide. record {
      name = draft.name;
      two_clubs = ltb-false (length sheet.clubs) 2 some;
      most_clubs = draft.most_clubs;
      most_fixtures = draft.most_fixtures;
      most_lines = draft.most_lines;
      clubs = draft.clubs;
      different_names = draft.different_names;
      fixtures = draft.fixtures;
      lines = draft.lines;
      different_lines = draft.different_lines;
      least_goal_limit = draft.least_goal_limit;
      most_goal_limit = draft.most_goal_limit;
      least_budget = draft.least_budget;
      most_budget = draft.most_budget;
    }))

-- ---- any record

-- a sheet so far is one, or the whole sheet is within the limits
abbrev IsKept : SheetProgress → Type 0
IsKept (SoFar draft) = Has IsDraft draft
IsKept (Whole sheet) = IsWithinLimits sheet

later-fits : (sheet : Sheet) (fields : List (List ℕ)) → IsDraft sheet
    → Fits IsKept (later_taken sheet fields)
later-fits sheet fields draft =
    fits-either IsKept (bytes_eq (field 0 fields) (codes "club"))
    (and_then so_far (club_taken sheet fields)) _
    (fits-then IsDraft IsKept so_far (club_taken sheet fields) (club-fits sheet fields draft)
    (λ next is. is))
    (fits-either IsKept (bytes_eq (field 0 fields) (codes "match"))
    (and_then so_far (match_taken sheet fields)) _
    (fits-then IsDraft IsKept so_far (match_taken sheet fields) (match-fits sheet fields draft)
    (λ next is. is))
    (fits-either IsKept (bytes_eq (field 0 fields) (codes "line"))
    (and_then so_far (line_taken sheet fields)) _
    (fits-then IsDraft IsKept so_far (line_taken sheet fields) (line-fits sheet fields draft)
    (λ next is. is))
    (fits-either IsKept (bytes_eq (field 0 fields) (codes "season"))
    (and_then whole (season_taken sheet fields)) (Err fault.UnknownRecord)
    (fits-then IsWithinLimits IsKept whole (season_taken sheet fields)
    (season-fits sheet fields draft) (λ next is. is))
    tt)))

record-fits : (draft : Option Sheet) (found : Option (List (List ℕ))) → Has IsDraft draft
    → Fits IsKept (record_taken_if sheet_rules draft found)
record-fits draft None is = is
record-fits None (Some fields) is =
    fits-then IsDraft IsKept so_far (league_taken fields) (league-fits fields) (λ next begun. begun)
record-fits (Some sheet) (Some fields) is = later-fits sheet fields is

content-fits : (draft : Option Sheet) (content : List ℕ) → Has IsDraft draft
    → Fits IsKept (content_taken draft content)
content-fits draft content is =
    fits-unless IsKept (has_return content) (refusal_of_no_record draft)
    (record_taken_if sheet_rules draft (record_of content))
    (λ none. record-fits draft (record_of content) is)

-- ---- all of the contents

-- the sheet that is given, if one is, is within the limits
abbrev pub GivesLimits : Result Sheet SheetStop → Type 0
GivesLimits (Ok sheet) = IsWithinLimits sheet
GivesLimits (Err why) = Unit {0}

lines-limits : (lines : List (ℕ × List ℕ)) (ending : Result ℕ ReadStop) (draft : Option Sheet)
    → Has IsDraft draft → GivesLimits (sheet_reading_from lines ending draft).gives
lines-limits [] (Ok number) draft is = tt
lines-limits [] (Err stop) draft is = tt
lines-limits (line ∷ lines) ending draft is =
    by_line (lines-limits lines ending) (content_taken draft line.1) (content-fits draft line.1 is)
  where
    by_line : ((next : Option Sheet) → Has IsDraft next
        → GivesLimits (sheet_reading_from lines ending next).gives)
        → (found : Result SheetProgress SheetFault) → Fits IsKept found
        → GivesLimits (reading_by line.0 (record { lines = lines; ending = ending })
        (sheet_reading_from lines ending) found).gives
    by_line behind (Ok (SoFar next)) fits = behind next fits
    by_line behind (Ok (Whole sheet)) fits = fits
    by_line behind (Err why) fits = tt

-- a sheet that contents give is within the limits
pub sheet-limits : (contents : Contents)
    → GivesLimits (sheet_reading_of contents None).gives
sheet-limits contents = lines-limits contents.lines contents.ending None tt
