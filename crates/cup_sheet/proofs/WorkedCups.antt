-- Worked cups, computed by the definitions: two groups of three, and lines that fail one test or
-- two at once, of which the first refuses.
use Rattle.std.proofs.Common.{◌≡◌, ℕ, ◌+◌, List, [], ◌∷◌, ◌++◌, None, Result, Ok, Err, codes, refl}
use lib.Utf8.{encode}
use Rattle.std.specs.Str.{chars, is_utf8}
use Rattle.csv.specs.Machine.{next_record}
use Rattle.csv.specs.Reading.{strip_bom}
use Rattle.league_core.specs.declared.sheet.Sheet.{Sheet}
use Rattle.league_core.specs.declared.sheet.Fixture.{Fixture}
use Rattle.league_core.specs.declared.sheet.Club.{Club}
use Rattle.league_core.specs.declared.sheet.Order.TheVariants.{HeadFirst}
use Rattle.cup_sheet.specs.declared.cup.Cup.{Cup}
use Rattle.cup_sheet.specs.declared.fault.CupFault.TheVariants.{NoCup, NoSeason, UnknownRecord}
use Rattle.cup_sheet.specs.declared.fault.CupFault.TheVariants.{TooFewClubs, WrongWidth, BadField}
use Rattle.cup_sheet.specs.declared.fault.CupFault.TheVariants.{ClubTwice, UnknownClub, SelfMatch}
use Rattle.cup_sheet.specs.declared.fault.CupFault.TheVariants.{TooMany, TooFewGroups, QuotaRange}
use Rattle.fixture_sheet.specs.declared.fault.ReadingStop.TheVariants.{Fault}
use Rattle.cup_sheet.specs.CupReadings.{CupStop, cup_reading_of}

-- these lines with their numbers, from this one on
abbrev pub numbered_from : ℕ → List (List ℕ) → List (ℕ × List ℕ)
numbered_from number [] = []
numbered_from number (line ∷ lines) = (number, line) ∷ numbered_from (number + 1) lines

-- what the lines of an input give, numbered from 1
abbrev pub cup_given : List (List ℕ) → Result Cup CupStop
cup_given lines =
    (cup_reading_of (record { lines = numbered_from 1 lines; ending = Ok 99 }) None).gives

-- the first group, with its matches
abbrev pub group_one : List (List ℕ)
group_one =
    codes "group,One" ∷ codes "club,A,1" ∷ codes "club,B,2" ∷ codes "club,C,3"
    ∷ codes "match,A,B" ∷ codes "match,A,C" ∷ codes "match,B,C" ∷ []

-- the second group, with its matches
abbrev pub group_two : List (List ℕ)
group_two =
    codes "group,Two" ∷ codes "club,D,4" ∷ codes "club,E,5" ∷ codes "club,F,6"
    ∷ codes "match,D,E" ∷ codes "match,D,F" ∷ codes "match,E,F" ∷ []

-- a cup of both under this first record
abbrev pub mini : List ℕ → List (List ℕ)
mini head = head ∷ (group_one ++ group_two) ++ codes "season" ∷ []

-- a club
abbrev pub club_as : List ℕ → ℕ → Club
club_as name rank = record { name = name; rank = rank }

-- three matches of three clubs, each against each
abbrev pub round : List Fixture
round =
    record { home = 0; away = 1 } ∷ record { home = 0; away = 2 } ∷ record { home = 1; away = 2 }
    ∷ []

-- a group of these clubs
abbrev pub group_as : List ℕ → List Club → Sheet
group_as name clubs = record {
  name = name;
  clubs = clubs;
  fixtures = round;
  lines = [];
  goal_limit = 3;
  budget = 2000;
  order = HeadFirst;
}

-- the cup
abbrev pub mini_cup : ℕ → Cup
mini_cup quota = record {
  name = codes "Mini";
  groups =
      group_as (codes "One") (club_as (codes "A") 1 ∷ club_as (codes "B") 2
      ∷ club_as (codes "C") 3 ∷ [])
      ∷ group_as (codes "Two") (club_as (codes "D") 4 ∷ club_as (codes "E") 5
      ∷ club_as (codes "F") 6 ∷ [])
      ∷ [];
  quota = quota;
}

-- the sheet of the cup
pub mini-gives : cup_given (mini (codes "cup,Mini,3,2000,1")) ≡ Ok (mini_cup 1)
unfolding next_record strip_bom is_utf8 chars encode
mini-gives = refl

-- all of the runners-up would qualify, or none
pub mini-quota : (cup_given (mini (codes "cup,Mini,3,2000,2")) ≡ Err (Fault 16 QuotaRange))
    × (cup_given (mini (codes "cup,Mini,3,2000,0")) ≡ Err (Fault 16 QuotaRange))
unfolding next_record strip_bom is_utf8 chars encode
mini-quota = (refl, refl)

-- one line after the head of a cup
abbrev pub second_line : List ℕ → Result Cup CupStop
second_line line = cup_given (codes "cup,Mini,3,2000,1" ∷ line ∷ [])

-- one line after a group of two clubs
abbrev pub after_two : List ℕ → Result Cup CupStop
after_two line =
    cup_given (codes "cup,M,3,9,1" ∷ codes "group,G" ∷ codes "club,A,1" ∷ codes "club,B,2" ∷ line
    ∷ [])

-- one line after the first group
abbrev pub after_group : List ℕ → Result Cup CupStop
after_group line = cup_given (codes "cup,M,3,9,1" ∷ group_one ++ line ∷ [])

-- the head of a cup
pub heads : (cup_given [] ≡ Err (Fault 99 NoCup))
    × (cup_given (codes "league,L,3" ∷ []) ≡ Err (Fault 1 NoCup))
    × (cup_given (codes "cup,M,3,2000" ∷ []) ≡ Err (Fault 1 WrongWidth))
    × (cup_given (codes "cup,M,21,2000,1" ∷ []) ≡ Err (Fault 1 BadField))
    × (cup_given (codes "cup,M,3,2000,x" ∷ []) ≡ Err (Fault 1 BadField))
unfolding next_record strip_bom is_utf8 chars encode
heads = (refl, refl, refl, refl, refl)

-- what may not come second
pub seconds : (second_line (codes "cup,M,3,2000,1") ≡ Err (Fault 2 UnknownRecord))
    × (second_line (codes "club,A,1") ≡ Err (Fault 2 UnknownRecord))
    × (second_line (codes "match,A") ≡ Err (Fault 2 UnknownRecord))
    × (second_line (codes "season,1") ≡ Err (Fault 2 WrongWidth))
    × (second_line (codes "season") ≡ Err (Fault 2 TooFewGroups))
    × (second_line (codes "group,G") ≡ Err (Fault 99 NoSeason))
unfolding next_record strip_bom is_utf8 chars encode
seconds = (refl, refl, refl, refl, refl, refl)

-- a CR in a line
pub returns_inside : (cup_given ((codes "cup,M,3,9,1" ++ 13 ∷ codes "x") ∷ [])
    ≡ Err (Fault 1 NoCup))
    × (second_line (codes "group,G" ++ 13 ∷ codes "x") ≡ Err (Fault 2 UnknownRecord))
unfolding next_record strip_bom is_utf8 chars encode
returns_inside = (refl, refl)

-- two clubs are too few
pub twos : (after_two (codes "match,A") ≡ Err (Fault 5 TooFewClubs))
    × (after_two (codes "group") ≡ Err (Fault 5 TooFewClubs))
    × (after_two (codes "season,1") ≡ Err (Fault 5 TooFewClubs))
    × (after_two (codes "club,A,0") ≡ Err (Fault 5 BadField))
    × (after_two (codes "club,A,9") ≡ Err (Fault 5 ClubTwice))
unfolding next_record strip_bom is_utf8 chars encode
twos = (refl, refl, refl, refl, refl)

-- after a group
pub groups : (after_group (codes "club,X") ≡ Err (Fault 9 UnknownRecord))
    × (after_group (codes "match,A,D") ≡ Err (Fault 9 UnknownClub))
    × (after_group (codes "match,A,A") ≡ Err (Fault 9 SelfMatch))
    × (after_group (codes "season") ≡ Err (Fault 9 TooFewGroups))
unfolding next_record strip_bom is_utf8 chars encode
groups = (refl, refl, refl, refl)

-- a name that stands in another group, and a seventh club
pub elsewhere :
    (cup_given (codes "cup,M,3,9,1" ∷ group_one ++ codes "group,H" ∷ codes "club,C,9" ∷ [])
    ≡ Err (Fault 10 ClubTwice))
    × (cup_given (codes "cup,M,3,9,1" ∷ codes "group,G" ∷ codes "club,A,1" ∷ codes "club,B,2"
    ∷ codes "club,C,3" ∷ codes "club,D,4" ∷ codes "club,E,5" ∷ codes "club,F,6"
    ∷ codes "club,G,7" ∷ []) ≡ Err (Fault 9 TooMany))
unfolding next_record strip_bom is_utf8 chars encode
elsewhere = (refl, refl)
