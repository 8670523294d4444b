-- What the fields of a record write is in its range: a name, a number, a club, a match; and a match
-- more keeps a sheet so far within its limits.
use Rattle.std.proofs.Common.{◌≡◌, ℕ, ◌+◌, ◌<◌, Bool, true, false, ◌&&◌, nat_le}
use Rattle.std.proofs.Common.{List, [], ◌∷◌, ◌++◌, length, Option, Some, None, Result, Ok, Err}
use Rattle.std.proofs.Common.{bytes_eq, refl, ◌∙◌, arith}
use Rattle.std.specs.Prelude.{if◌then◌else◌, option_and_then, option_map, position}
use Rattle.std.specs.List.{list_all}
use Rattle.std.specs.Option.{ok_or}
use Rattle.std.specs.Str.{is_utf8}
use Rattle.std.proofs.lemmas.Bool.{and_parts, and_from}
use Rattle.std.proofs.lemmas.List.{length_push, length-map}
use Rattle.std.proofs.lemmas.List.Folds.{list_all-append}
use Rattle.std.proofs.lemmas.List.Quantifiers.{position-Some}
use Rattle.league_core.specs.declared.sheet.Sheet.{Sheet}
use Rattle.league_core.specs.declared.sheet.Club.{Club}
use Rattle.league_core.specs.declared.sheet.Fixture.{Fixture}
use Rattle.league_core.specs.game.Limits.{most_fixtures, most_rank}
use Rattle.league_core.specs.game.Sheets.{is_name, is_club, is_fixture}
use Rattle.fixture_sheet.specs.Fields.{field}
use Rattle.fixture_sheet.specs.Texts.{if_within, name_of, number_within, number_written, only_if}
use Rattle.fixture_sheet.specs.Texts.{text_of}
use Rattle.fixture_sheet.specs.inside.Drafts.{IsDraft}
use Rattle.fixture_sheet.specs.Records.{names_of}
use Rattle.fixture_sheet.specs.Records.{club_named, club_of}
use Rattle.fixture_sheet.specs.Records.{fixture_of}

-- ---- values that may be there

-- this is true of the value, where there is one
abbrev pub Has : {A : Type 0} → (A → Type 0) → Option A → Type 0
Has P None = Unit {0}
Has P (Some value) = P value

-- this is true of the value, where it is not refused
abbrev pub Fits : {A E : Type 0} → (A → Type 0) → Result A E → Type 0
Fits P (Ok value) = P value
Fits P (Err why) = Unit {0}

-- of any value nothing is known
abbrev pub Anything : {A : Type 0} → A → Type 0
Anything value = Unit {0}

pub has-anything : {A : Type 0} (found : Option A) → Has (Anything {A = A}) found
has-anything None = tt
has-anything (Some value) = tt

pub has-then : {A B : Type 0} (P : A → Type 0) (Q : B → Type 0) (next : A → Option B)
    (found : Option A) → Has P found → ((value : A) → P value → Has Q (next value))
    → Has Q (option_and_then next found)
has-then P Q next None has behind = tt
has-then P Q next (Some value) has behind = behind value has

pub has-map : {A B : Type 0} (P : A → Type 0) (Q : B → Type 0) (next : A → B)
    (found : Option A) → Has P found → ((value : A) → P value → Q (next value))
    → Has Q (option_map next found)
has-map P Q next None has behind = tt
has-map P Q next (Some value) has behind = behind value has

pub has-only : {A : Type 0} (P : A → Type 0) (test : Bool) (value : A) → (test ≡ true → P value)
    → Has P (only_if test value)
has-only P true value is = is refl
has-only P false value is = tt

pub fits-ok_or : {A E : Type 0} (P : A → Type 0) (found : Option A) (why : E) → Has P found
    → Fits P (ok_or found why)
fits-ok_or P None why has = tt
fits-ok_or P (Some value) why has = has

-- a test that refuses
pub fits-unless : {A E : Type 0} (P : A → Type 0) (test : Bool) (why : E)
    (rest : Result A E) → (test ≡ false → Fits P rest)
    → Fits P (if test then Err why else rest)
fits-unless P true why rest behind = tt
fits-unless P false why rest behind = behind refl

-- a test that chooses
pub fits-either : {A E : Type 0} (P : A → Type 0) (test : Bool) (first second : Result A E)
    → Fits P first → Fits P second → Fits P (if test then first else second)
fits-either P true first second one other = one
fits-either P false first second one other = other

-- ---- what fields write

-- a name
abbrev pub IsNamed : List ℕ → Type 0
IsNamed name = is_name name ≡ true

pub name-has : (bytes : List ℕ) → Has IsNamed (name_of bytes)
name-has bytes = by_test (is_name bytes) refl
  where
    by_test : (test : Bool) → is_name bytes ≡ test
        → Has IsNamed (if test then text_of bytes else None)
    by_test true is = has-only IsNamed (is_utf8 bytes) bytes (λ utf8. is)
    by_test false is = tt

-- a number in a range
abbrev pub IsBetween : ℕ → ℕ → ℕ → Type 0
IsBetween least most number = (nat_le least number ≡ true) × (nat_le number most ≡ true)

pub number-has : (least most : ℕ) (text : List ℕ)
    → Has (IsBetween least most) (number_within least most text)
number-has least most text =
    has-then Anything (IsBetween least most) (if_within least most) (number_written text)
    (has-anything (number_written text))
    (λ number any. has-only (IsBetween least most) (nat_le least number && nat_le number most)
    number (and_parts (nat_le least number) (nat_le number most)))

-- ---- a club

abbrev pub IsClub : Club → Type 0
IsClub club = is_club club ≡ true

pub club-has : (fields : List (List ℕ)) → Has IsClub (club_of fields)
club-has fields =
    has-then IsNamed IsClub (λ name. with_name name) (name_of (field 1 fields))
    (name-has (field 1 fields))
    (λ name named. has-map (IsBetween 1 most_rank) IsClub
    (λ rank. record { name = name; rank = rank }) (number_within 1 most_rank (field 2 fields))
    (number-has 1 most_rank (field 2 fields))
    (λ rank within. and_from (is_name name && nat_le 1 rank) (nat_le rank most_rank)
    (and_from (is_name name) (nat_le 1 rank) named within.0) within.1))
  where
    with_name : List ℕ → Option Club
    with_name name =
        option_map (λ rank. record { name = name; rank = rank })
        (number_within 1 most_rank (field 2 fields))

-- ---- a match

-- a club of the sheet
abbrev pub IsClubOf : Sheet → ℕ → Type 0
IsClubOf sheet club = club < length sheet.clubs

position-has : (sheet : Sheet) (name : List ℕ) (found : Option ℕ)
    → position (bytes_eq name) (names_of sheet) ≡ found → Has (IsClubOf sheet) found
position-has sheet name None is = tt
position-has sheet name (Some place) is =
    let inside = (position-Some (bytes_eq name) (names_of sheet) place [] is).0 in
    omega (arith, inside, length-map sheet.clubs (λ (club : Club). club.name))

pub named-has : (sheet : Sheet) (bytes : List ℕ) → Has (IsClubOf sheet) (club_named sheet bytes)
named-has sheet bytes =
    has-then Anything (IsClubOf sheet) (λ name. position (bytes_eq name) (names_of sheet))
    (text_of bytes) (has-anything (text_of bytes))
    (λ name any. position-has sheet name (position (bytes_eq name) (names_of sheet)) refl)

-- two clubs of the sheet
abbrev pub IsMatchOf : Sheet → Fixture → Type 0
IsMatchOf sheet match = IsClubOf sheet match.home × IsClubOf sheet match.away

pub fixture-has : (sheet : Sheet) (fields : List (List ℕ))
    → Has (IsMatchOf sheet) (fixture_of sheet fields)
fixture-has sheet fields =
    has-then (IsClubOf sheet) (IsMatchOf sheet) (λ home. with_home home)
    (club_named sheet (field 1 fields)) (named-has sheet (field 1 fields))
    (λ home first. has-map (IsClubOf sheet) (IsMatchOf sheet)
    (λ away. record { home = home; away = away }) (club_named sheet (field 2 fields))
    (named-has sheet (field 2 fields)) (λ away second. (first, second)))
  where
    with_home : ℕ → Option Fixture
    with_home home =
        option_map (λ away. record { home = home; away = away }) (club_named sheet (field 2 fields))

-- a match more keeps the limits
pub fixture-more : (sheet : Sheet) (match : Fixture) → IsDraft sheet
    → is_fixture (length sheet.clubs) match ≡ true → length sheet.fixtures < most_fixtures
    → IsDraft (record sheet { fixtures = sheet.fixtures ++ match ∷ [] })
fixture-more sheet match draft is room =
    let longer : length (sheet.fixtures ++ match ∷ []) ≡ length sheet.fixtures + 1 =
    length_push sheet.fixtures match in
    let known = is_fixture (length sheet.clubs) in
    record {
      name = draft.name;
      most_clubs = draft.most_clubs;
      most_fixtures = omega (arith, longer, room);
      most_lines = draft.most_lines;
      clubs = draft.clubs;
      different_names = draft.different_names;
      fixtures = list_all-append known sheet.fixtures (match ∷ [])
          ∙ and_from (list_all known sheet.fixtures) (known match && true) draft.fixtures
          (and_from (known match) true is refl);
      lines = draft.lines;
      different_lines = draft.different_lines;
      least_goal_limit = draft.least_goal_limit;
      most_goal_limit = draft.most_goal_limit;
      least_budget = draft.least_budget;
      most_budget = draft.most_budget;
    }
