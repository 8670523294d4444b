-- Lemmas on records: what is known of one that no test refuses.
use Rattle.std.proofs.Common.{◌≡◌, ◌<◌, ◌≤◌, ℕ, Bool, true, false, not, ◌&&◌, ◌==◌, nat_le, List}
use Rattle.std.proofs.Common.{[], length, Option, None, Some, is_some, option_and_then}
use Rattle.std.proofs.Common.{if◌then◌else◌, bytes_eq, codes, Result, Ok, Err, IfOk, refl, sym, ap}
use Rattle.std.proofs.Common.{subst, ◌∙◌, arith}
use Rattle.std.specs.List.{position}
use Rattle.std.specs.Str.Parse.{digits_value}
use Rattle.std.proofs.lemmas.Bool.{and_parts, leb-true, leb-false, le-leb, not-false, and_from}
use Rattle.std.proofs.lemmas.List.{length-map}
use Rattle.std.proofs.lemmas.List.Quantifiers.{position-Some}
use Rattle.league_core.specs.declared.sheet.Sheet.{Sheet}
use Rattle.league_core.specs.declared.sheet.Club.{Club}
use Rattle.league_core.specs.game.Limits.{most_deduction, most_events, most_goals}
use Rattle.league_core.specs.game.Results.{Results, is_score}
use Rattle.league_core.specs.game.Seasons.{IsSeasonOf}
use Rattle.fixture_sheet.specs.Fields.{field}
use Rattle.fixture_sheet.specs.Texts.{only_if, if_within, is_number, text_of}
use Rattle.fixture_sheet.specs.Records.{names_of}
use Rattle.fixture_sheet.specs.Records.{club_named}
use Rattle.result_log.specs.declared.entry.Entry.{Entry}
use Rattle.result_log.specs.declared.entry.Entry.TheVariants.{Change, Ask, Proofs, End}
use Rattle.result_log.specs.declared.kind.Kind.{Kind}
use Rattle.result_log.specs.declared.kind.Kind.TheVariants as kinds
use Rattle.result_log.specs.declared.fault.FeedFault.{FeedFault}
use Rattle.result_log.specs.declared.fault.FeedFault.TheVariants.{WrongWidth, UnknownFixture}
use Rattle.result_log.specs.declared.fault.FeedFault.TheVariants.{UnknownClub, BadGoals, BadPoints}
use Rattle.result_log.specs.declared.fault.FeedFault.TheVariants.{AlreadyPlayed, NotPlayed, LogFull}
use Rattle.result_log.specs.inside.Readings.{MayBeTold}
use Rattle.result_log.specs.Records.{IsEntryAt, club_in, entry_by, entry_of, entry_in_fields}
use Rattle.result_log.specs.Records.{fixture_in, found_number, names_a_club, has_fixture}
use Rattle.result_log.specs.Records.{has_goals}
use Rattle.result_log.specs.Records.{has_points, has_result, tells_a_score, is_event, is_for_club}
use Rattle.result_log.specs.Records.{is_for_fixture, is_for_played, is_for_unplayed}
use Rattle.result_log.specs.Records.{is_field_within}
use Rattle.result_log.specs.Records.{kind_of, score_in, tests_of, value_unless, width_of}

-- ---- ranges

in_range : (least most number : ℕ) (test : Bool)
    → test ≡ (nat_le least number && nat_le number most)
    → is_some (only_if test number) ≡ true → (least ≤ number) × (number ≤ most)
in_range least most number false is some = cc
in_range least most number true is some =
    let parts = and_parts (nat_le least number) (nat_le number most) (sym is) in
    (leb-true _ _ parts.0, leb-true _ _ parts.1)

number_in_range : (least most number : ℕ) (digits : Bool)
    → is_some (option_and_then (if_within least most) (only_if digits number)) ≡ true
    → (least ≤ number) × (number ≤ most)
number_in_range least most number false some = cc
number_in_range least most number true some =
    in_range least most number (nat_le least number && nat_le number most) refl some

-- a field that is in a range writes a number there
pub range-within : (least most : ℕ) (text : List ℕ) → is_field_within least most text ≡ true
    → (least ≤ digits_value 10 text) × (digits_value 10 text ≤ most)
range-within least most text within =
    number_in_range least most (digits_value 10 text) (is_number text) within

-- a fixture of the sheet
fixture-within : (sheet : Sheet) (fields : List (List ℕ)) → has_fixture sheet fields ≡ true
    → fixture_in fields < length sheet.fixtures
fixture-within sheet fields has =
    let range = range-within 1 (length sheet.fixtures) (field 1 fields) has in
    omega (arith, range.0, range.1)

-- a score that may be
score-within : (fields : List (List ℕ)) → has_goals fields ≡ true
    → is_score (score_in fields) ≡ true
score-within fields has =
    let parts = and_parts (is_field_within 0 most_goals (field 2 fields))
    (is_field_within 0 most_goals (field 3
    fields)) has in
    and_from _ _ (le-leb _ _ (range-within 0 most_goals (field 2 fields) parts.0).1)
    (le-leb _ _ (range-within 0 most_goals (field 3 fields) parts.1).1)

-- ---- the tests

same-ok : (value given : Entry) (told : Result Entry FeedFault) → told ≡ Ok value → told ≡ Ok given
    → value ≡ given
same-ok value given told is same = cc

-- a value that is given passed each test
passed : (test : Bool) (fault : FeedFault) (rest : Result Entry FeedFault) (given : Entry)
    → (if test then Err fault else rest) ≡ Ok given → (test ≡ false) × (rest ≡ Ok given)
passed true fault rest given told = cc
passed false fault rest given told = (refl, told)

-- what is known of a record of a kind that is an entry
record KnownOf (sheet : Sheet) (events : ℕ) (fields : List (List ℕ)) (kind : Kind) (entry : Entry)
    : Type 0 where
  fixture : (is_for_fixture kind && not (has_fixture sheet fields)) ≡ false
  club : (is_for_club kind && not (names_a_club sheet fields)) ≡ false
  goals : (tells_a_score kind && not (has_goals fields)) ≡ false
  points : (is_for_club kind && not (has_points fields)) ≡ false
  room : (is_event kind && nat_le most_events events) ≡ false
  is : entry_in_fields sheet fields kind ≡ entry

told_as : (sheet : Sheet) (season : Results) (events : ℕ) (fields : List (List ℕ)) (kind : Kind)
    (entry : Entry)
    → value_unless (tests_of sheet season events fields kind) (entry_in_fields sheet fields kind) ≡
    Ok
    entry
    → KnownOf sheet events fields kind entry
told_as sheet season events fields kind entry told =
    let width = passed (not (length fields == width_of kind)) WrongWidth _ entry told in
    let fixture = passed (is_for_fixture kind && not (has_fixture sheet fields)) UnknownFixture
    _ entry width.1 in
    let club = passed (is_for_club kind && not (names_a_club sheet fields)) UnknownClub
    _ entry fixture.1 in
    let goals = passed (tells_a_score kind && not (has_goals fields)) BadGoals _ entry club.1 in
    let points = passed (is_for_club kind && not (has_points fields)) BadPoints
    _ entry goals.1 in
    let played = passed (is_for_unplayed kind && has_result season (fixture_in fields))
    AlreadyPlayed _ entry points.1 in
    let open_yet = passed (is_for_played kind && not (has_result season (fixture_in fields)))
    NotPlayed _ entry played.1 in
    let room = passed (is_event kind && nat_le most_events events) LogFull
    _ entry open_yet.1 in
    record {
      fixture = fixture.0;
      club = club.0;
      goals = goals.0;
      points = points.0;
      room = room.0;
      is = same-ok _ _ _ refl room.1;
    }

-- the fixture of a record is one of the season's
fixture_of_season : (sheet : Sheet) (season : Results) (fields : List (List ℕ))
    → IsSeasonOf sheet season → not (has_fixture sheet fields) ≡ false
    → fixture_in fields < length season.scores
fixture_of_season sheet season fields of_sheet has =
    let inside = fixture-within sheet fields (not-false _ has) in
    let same = of_sheet.scores in
    omega arith

named-within : (sheet : Sheet) (name : Option (List ℕ)) (place : ℕ)
    → option_and_then (λ n. position (bytes_eq n) (names_of sheet)) name ≡ Some place
    → place < length (names_of sheet)
named-within sheet None place is = cc
named-within sheet (Some name) place is =
    (position-Some (bytes_eq name) (names_of sheet) place [] is).0

-- a name that is found stands among them
found-within : (names : List (List ℕ)) (found : Option ℕ)
    → ((place : ℕ) → found ≡ Some place → place < length names) → is_some found ≡ true
    → found_number found < length names
found-within names None inside some = cc
found-within names (Some place) inside some = inside place refl

-- the club of a record is one of the season's
club_of_season : (sheet : Sheet) (season : Results) (fields : List (List ℕ))
    → IsSeasonOf sheet season → names_a_club sheet fields ≡ true
    → club_in sheet fields < length season.deductions
club_of_season sheet season fields of_sheet has =
    let inside = found-within (names_of sheet) (club_named sheet (field 1 fields))
    (λ place is. named-within sheet (text_of (field 1 fields)) place is) has in
    omega (arith, inside, of_sheet.deductions, length-map sheet.clubs (λ (club : Club). club.name))

-- a record of a kind that is an entry may come
may_come : (sheet : Sheet) (season : Results) (events : ℕ) (proofs : Bool)
    (fields : List (List ℕ)) (kind : Kind) (entry : Entry) → IsSeasonOf sheet season
    → (kind ≡ kinds.Proofs → proofs ≡ true)
    → value_unless (tests_of sheet season events fields kind) (entry_in_fields sheet fields kind) ≡
    Ok
    entry
    → IsEntryAt season events proofs entry
may_come sheet season events proofs fields kinds.Result entry of_sheet allowed told =
    let known = told_as sheet season events fields kinds.Result entry told in
    subst (IsEntryAt season events proofs) known.is (
      (
        fixture_of_season sheet season fields of_sheet known.fixture,
        score-within fields (not-false _ known.goals),
      ),
      leb-false _ _ known.room,
    )
may_come sheet season events proofs fields kinds.Fix entry of_sheet allowed told =
    let known = told_as sheet season events fields kinds.Fix entry told in
    subst (IsEntryAt season events proofs) known.is (
      (
        fixture_of_season sheet season fields of_sheet known.fixture,
        score-within fields (not-false _ known.goals),
      ),
      leb-false _ _ known.room,
    )
may_come sheet season events proofs fields kinds.Void entry of_sheet allowed told =
    let known = told_as sheet season events fields kinds.Void entry told in
    subst (IsEntryAt season events proofs) known.is
    (fixture_of_season sheet season fields of_sheet known.fixture, leb-false _ _ known.room)
may_come sheet season events proofs fields kinds.Deduct entry of_sheet allowed told =
    let known = told_as sheet season events fields kinds.Deduct entry told in
    let points = range-within 0 most_deduction (field 2 fields) (not-false _ known.points) in
    subst (IsEntryAt season events proofs) known.is (
      (
        club_of_season sheet season fields of_sheet (not-false _ known.club),
        points.1,
      ),
      leb-false _ _ known.room,
    )
may_come sheet season events proofs fields kinds.Ask entry of_sheet allowed told =
    let known = told_as sheet season events fields kinds.Ask entry told in
    subst (IsEntryAt season events proofs) known.is tt
may_come sheet season events proofs fields kinds.Proofs entry of_sheet allowed told =
    let known = told_as sheet season events fields kinds.Proofs entry told in
    subst (IsEntryAt season events proofs) known.is (allowed refl)

-- `proofs` is a record only where proofs may follow
proofs_allowed : (a b c d e f proofs : Bool)
    → (if a then Some kinds.Result else if b then Some kinds.Fix else if c then Some kinds.Void
    else if d then Some kinds.Deduct else if e then Some kinds.Ask
    else if f && proofs then Some kinds.Proofs else None)
    ≡ Some kinds.Proofs → proofs ≡ true
proofs_allowed true b c d e f proofs is = cc
proofs_allowed false true c d e f proofs is = cc
proofs_allowed false false true d e f proofs is = cc
proofs_allowed false false false true e f proofs is = cc
proofs_allowed false false false false true f proofs is = cc
proofs_allowed false false false false false false proofs is = cc
proofs_allowed false false false false false true true is = refl
proofs_allowed false false false false false true false is = cc

-- an entry that a record is may come
pub entry_may_come : (sheet : Sheet) (season : Results) (events : ℕ) (proofs : Bool)
    (fields : List (List ℕ)) (entry : Entry) → IsSeasonOf sheet season
    → entry_of sheet season events proofs fields ≡ Ok entry → IsEntryAt season events proofs entry
entry_may_come sheet season events proofs fields entry of_sheet told =
    by_kind (kind_of proofs (field 0 fields)) refl told
  where
    by_kind : (found : Option Kind) → kind_of proofs (field 0 fields) ≡ found
        → entry_by sheet season events fields found ≡ Ok entry
        → IsEntryAt season events proofs entry
    by_kind None is told = cc
    by_kind (Some kind) is told =
        may_come sheet season events proofs fields kind entry of_sheet
        (λ proved. proofs_allowed (bytes_eq (field 0 fields) (codes "result"))
        (bytes_eq (field 0 fields) (codes "fix")) (bytes_eq (field 0 fields) (codes "void"))
        (bytes_eq (field 0 fields) (codes "deduct")) (bytes_eq (field 0 fields) (codes "ask"))
        (bytes_eq (field 0 fields) (codes "proofs")) proofs
        (is ∙ ap Some proved)) told

-- no record is the end of the input
pub entry_is_no_end : (sheet : Sheet) (season : Results) (events : ℕ) (proofs : Bool)
    (fields : List (List ℕ)) → entry_of sheet season events proofs fields ≡ Ok End → ⊥
entry_is_no_end sheet season events proofs fields told =
    by_kind (kind_of proofs (field 0 fields)) told
  where
    no_end : (kind : Kind) → entry_in_fields sheet fields kind ≡ End → ⊥
    no_end kinds.Result is = cc
    no_end kinds.Fix is = cc
    no_end kinds.Void is = cc
    no_end kinds.Deduct is = cc
    no_end kinds.Ask is = cc
    no_end kinds.Proofs is = cc

    by_kind : (found : Option Kind) → entry_by sheet season events fields found ≡ Ok End → ⊥
    by_kind None told = cc
    by_kind (Some kind) told = no_end kind (told_as sheet season events fields kind End told).is

-- the same of what a call answers
pub answer_may_come : (sheet : Sheet) (season : Results) (events : ℕ) (proofs : Bool)
    (fields : List (List ℕ)) (result : Result Entry FeedFault) → IsSeasonOf sheet season
    → result ≡ entry_of sheet season events proofs fields
    → IfOk result (λ entry. IsEntryAt season events proofs entry)
answer_may_come sheet season events proofs fields (Ok entry) of_sheet is =
    entry_may_come sheet season events proofs fields entry of_sheet (sym is)
answer_may_come sheet season events proofs fields (Err fault) of_sheet is = tt

pub answer_is_no_end : (sheet : Sheet) (season : Results) (events : ℕ) (proofs : Bool)
    (fields : List (List ℕ)) (result : Result Entry FeedFault)
    → result ≡ entry_of sheet season events proofs fields → result ≡ Ok End → ⊥
answer_is_no_end sheet season events proofs fields result is end =
    entry_is_no_end sheet season events proofs fields (sym is ∙ end)

-- an entry that is told may be told
pub answer_may_be_told : (season : Results) (events : ℕ) (proofs : Bool)
    (result : Result Entry FeedFault)
    → IfOk result (λ entry. IsEntryAt season events proofs entry) → (result ≡ Ok End → ⊥)
    → IfOk result (MayBeTold season events)
answer_may_be_told season events proofs (Ok (Change event)) may_come never = may_come
answer_may_be_told season events proofs (Ok Ask) may_come never = tt
answer_may_be_told season events proofs (Ok Proofs) may_come never = tt
answer_may_be_told season events proofs (Ok End) may_come never = never refl
answer_may_be_told season events proofs (Err fault) may_come never = tt
