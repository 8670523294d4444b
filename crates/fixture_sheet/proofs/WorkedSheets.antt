-- Worked sheets, computed by the definitions: a first day of two clubs, the same with a line that
-- has no club outside, an empty input, and lines that fail two tests at once.
use Rattle.std.proofs.Common.{◌≡◌, ℕ, ◌+◌, List, [], ◌∷◌, None, Result, Ok, Err, codes, refl}
use lib.Utf8.{encode}
use Rattle.std.specs.Str.{chars, is_utf8}
use Rattle.csv.specs.Machine.{next_record}
use Rattle.csv.specs.Reading.{strip_bom}
use Rattle.league_core.specs.declared.sheet.Sheet.{Sheet}
use Rattle.league_core.specs.declared.sheet.Order.TheVariants.{HeadFirst}
use Rattle.fixture_sheet.specs.declared.fault.SheetFault.TheVariants.{NoLeague, LineRange, BadField}
use Rattle.fixture_sheet.specs.declared.fault.SheetFault.TheVariants.{UnknownClub, TooFewClubs}
use Rattle.fixture_sheet.specs.Sheets.{SheetStop}
use Rattle.fixture_sheet.specs.declared.fault.ReadingStop.TheVariants.{Fault}
use Rattle.fixture_sheet.specs.Sheets.{sheet_reading_of}

-- these lines with their numbers
pub numbered : List (List ℕ) → ℕ → List (ℕ × List ℕ)
numbered [] number = []
numbered (line ∷ lines) number = (number, line) ∷ numbered lines (number + 1)

-- what the lines of an input give, numbered from 1
pub given : List (List ℕ) → Result Sheet SheetStop
given lines =
    (sheet_reading_of (record { lines = numbered lines 1; ending = Ok 99 }) None).gives

-- two clubs, one match, one line
pub first_day : List ℕ → List (List ℕ)
first_day line =
    codes "league,Tiny,1" ∷ codes "club,A,1" ∷ codes "club,B,2" ∷ codes "match,A,B" ∷ line
    ∷ codes "season" ∷ []

-- the sheet of the first day
pub first_day-gives : given (first_day (codes "line,1"))
    ≡ Ok (record {
      name = codes "Tiny";
      clubs =
          record { name = codes "A"; rank = 1 } ∷ record { name = codes "B"; rank = 2 } ∷ [];
      fixtures = record { home = 0; away = 1 } ∷ [];
      lines = 1 ∷ [];
      goal_limit = 1;
      budget = 2000;
      order = HeadFirst;
    })
unfolding given numbered first_day next_record strip_bom is_utf8 chars encode
first_day-gives = refl

-- both clubs are inside the line
pub first_day-line : given (first_day (codes "line,2")) ≡ Err (Fault 5 LineRange)
unfolding given numbered first_day next_record strip_bom is_utf8 chars encode
first_day-line = refl

-- nothing was read
pub nothing-gives : given [] ≡ Err (Fault 99 NoLeague)
unfolding given numbered
nothing-gives = refl

-- a match with no club twice, and a name that stands with a rank of nothing
pub two-faults : (given (first_day (codes "match,C,C")) ≡ Err (Fault 5 UnknownClub))
    × (given (codes "league,T,1" ∷ codes "club,A,1" ∷ codes "club,A,0" ∷ []) ≡ Err (Fault 3
    BadField))
    × (given (codes "league,T,1" ∷ codes "line,x,y" ∷ []) ≡ Err (Fault 2 TooFewClubs))
unfolding given numbered first_day next_record strip_bom is_utf8 chars encode
two-faults = (refl, refl, refl)
