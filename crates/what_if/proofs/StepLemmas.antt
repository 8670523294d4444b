-- Lemmas on steps: what is known of one that no test refuses, and what a line asks about.
use Rattle.std.proofs.Common.{◌≡◌, ℕ, Bool, true, false, not, ◌==◌, List, length, Option, None}
use Rattle.std.proofs.Common.{Some, if◌then◌else◌, Result, Ok, Err, refl, sym, ap, ◌∙◌, subst}
use Rattle.std.proofs.Common.{arith}
use Rattle.std.specs.Prelude.{IfOk, IfSome}
use Rattle.std.proofs.lemmas.Bool.{not-false}
use Rattle.league_core.specs.declared.sheet.Sheet.{Sheet}
use Rattle.league_core.specs.game.Results.{Results}
use Rattle.league_core.specs.game.Seasons.{IsSeasonOf}
use Rattle.fixture_sheet.specs.Fields.{field, has_return, record_of}
use Rattle.result_log.specs.declared.entry.Entry.{Entry}
use Rattle.result_log.specs.declared.entry.Entry.TheVariants.{Ask}
use Rattle.result_log.specs.declared.fault.FeedFault.{FeedFault}
use Rattle.result_log.specs.declared.fault.FeedFault.TheVariants.{UnknownRecord, WrongWidth}
use Rattle.result_log.specs.declared.fault.FeedFault.TheVariants.{UnknownFixture, AlreadyPlayed}
use Rattle.result_log.specs.Records.{entry_of, fixture_in, has_fixture, has_result, value_unless}
use Rattle.result_log.specs.inside.Readings.{MayBeTold}
use Rattle.result_log.specs.Feeds.{entry_in, given, parsed_if}
use Rattle.result_log.proofs.RecordLemmas.{entry_may_come, range-within}
use Rattle.what_if.specs.declared.step.Step.{Step}
use Rattle.what_if.specs.declared.step.Step.TheVariants as step
use Rattle.what_if.specs.Steps.{about_if, about_of, entry_step, forget, forgotten, is_when}
use Rattle.what_if.specs.Steps.{step_in, step_line, step_of, when_tests}
use Rattle.what_if.specs.inside.StepCalls.{IsStepAt, IsUnplayedFixture}
use Rattle.league_core.proofs.plain.Options.{none_there}

-- ---- the tests of a record

-- a value that is given passed the first test
unrefused : {A : Type 0} (test : Bool) (fault : FeedFault) (rest : Result A FeedFault) (value : A)
    → (if test then Err fault else rest) ≡ Ok value → (test ≡ false) × (rest ≡ Ok value)
unrefused true fault rest value told = cc
unrefused false fault rest value told = (refl, told)

same-value : {A : Type 0} (value other : A) (given : Result A FeedFault) → given ≡ Ok other
    → given ≡ Ok value → value ≡ other
same-value value other given is told = cc

-- a `when` that is not refused asks about a match that is still to be played
when-unplayed : (sheet : Sheet) (season : Results) (fields : List (List ℕ)) (found : Step)
    → value_unless (when_tests sheet season fields) (step.When (fixture_in fields)) ≡ Ok found
    → (found ≡ step.When (fixture_in fields))
    × IsUnplayedFixture sheet season (fixture_in fields)
when-unplayed sheet season fields found told =
    let width = unrefused (not (length fields == 2)) WrongWidth _ found told in
    let fixture = unrefused (not (has_fixture sheet fields)) UnknownFixture _ found width.1 in
    let played = unrefused (has_result season (fixture_in fields)) AlreadyPlayed _ found
    fixture.1 in
    let range = range-within 1 (length sheet.fixtures) (field 1 fields) (not-false _ fixture.0) in (
      same-value found (step.When (fixture_in fields)) (Ok (step.When (fixture_in fields))) refl
          played.1,
      (omega (arith, range.0, range.1), none_there _ played.0),
    )

-- a step of an entry is that of the entry that is given
entry-back : (told : Result Entry FeedFault) (found : Step) → entry_step told ≡ Ok found
    → (entry : Entry) × (found ≡ step.Entry entry) × (told ≡ Ok entry)
entry-back (Ok entry) found is =
    (entry, same-value found (step.Entry entry) (Ok (step.Entry entry)) refl is, refl)
entry-back (Err fault) found is = cc

-- ---- a record

-- the fixture that a step asks about
abbrev pub step_about : Step → Option ℕ
step_about (step.Entry entry) = None
step_about (step.When fixture) = Some fixture

-- what is known of a record whose step this is
record IsStepOf (sheet : Sheet) (season : Results) (events : ℕ) (fields : List (List ℕ))
    (asks : Bool) (found : Step) : Type 0 where
  may_come : IsSeasonOf sheet season → IsStepAt sheet season events found
  about : (if asks then Some (fixture_in fields) else None) ≡ step_about found

step-known : (sheet : Sheet) (season : Results) (events : ℕ) (fields : List (List ℕ))
    (asks : Bool) (found : Step)
    → (if asks then value_unless (when_tests sheet season fields) (step.When (fixture_in fields))
    else entry_step (entry_of sheet season events false fields)) ≡ Ok found
    → IsStepOf sheet season events fields asks found
step-known sheet season events fields true found told =
    let known = when-unplayed sheet season fields found told in
    record {
      may_come = λ of_sheet. subst (IsStepAt sheet season events) (sym known.0) known.1;
      about = ap step_about (sym known.0);
    }
step-known sheet season events fields false found told =
    let known = entry-back (entry_of sheet season events false fields) found told in
    record {
      may_come = λ of_sheet. subst (IsStepAt sheet season events) (sym known.1)
          (entry_may_come sheet season events false fields known.0 of_sheet known.2);
      about = ap step_about (sym known.1);
    }

-- an ask may be told
pub asked-may_be_told : {E : Type 0} (season : Results) (events : ℕ) (result : Result Step E)
    → IfOk result (λ found. forget found ≡ Ask)
    → IfOk result (λ found. MayBeTold season events (forget found))
asked-may_be_told {E} season events (Ok (step.When fixture)) asks = tt
asked-may_be_told {E} season events (Ok (step.Entry entry)) asks =
    subst (MayBeTold season events) (sym asks) tt
asked-may_be_told {E} season events (Err stop) asks = tt

-- ---- one line

given-back : (told : Result Step FeedFault) (found : Step) → given told ≡ Ok (Some found)
    → told ≡ Ok found
given-back (Ok other) found is = cc
given-back (Err fault) found is = cc

-- the record of a line that is a step
record HasRecord (sheet : Sheet) (season : Results) (events : ℕ) (returns : Bool)
    (line : Option (List (List ℕ))) (found : Step) : Type 0 where
  fields : List (List ℕ)
  plain : returns ≡ false
  is : line ≡ Some fields
  of : step_of sheet season events fields ≡ Ok found

has-record : (sheet : Sheet) (season : Results) (events : ℕ) (returns : Bool)
    (line : Option (List (List ℕ))) (found : Step)
    → (if returns then Err UnknownRecord else parsed_if (step_of sheet season events) line)
    ≡ Ok (Some found)
    → HasRecord sheet season events returns line found
has-record sheet season events true line found told = cc
has-record sheet season events false None found told = cc
has-record sheet season events false (Some fields) found told = record {
  fields = fields;
  plain = refl;
  is = refl;
  of = given-back (step_of sheet season events fields) found told;
}

module _ (sheet : Sheet) (season : Results) (events : ℕ) (content : List ℕ) where
  -- what is known of a line's step
  line-known : (found : Step) → step_in sheet season events content ≡ Ok (Some found)
      → (fields : List (List ℕ)) × (about_of content ≡ about_if (Some fields))
      × IsStepOf sheet season events fields (is_when fields) found
  line-known found told =
      let known = has-record sheet season events (has_return content) (record_of content) found
      told in
      let asked : Option (List (List ℕ)) → Bool → Option ℕ =
      λ line returns. if returns then None else about_if line in (
        known.fields,
        ap (asked (record_of content)) known.plain
            ∙ ap (λ line. asked line false) known.is,
        step-known sheet season events known.fields (is_when known.fields) found known.of,
      )

  -- it may come in the season
  pub step-may_come : (found : Step) → IsSeasonOf sheet season
      → step_in sheet season events content ≡ Ok (Some found)
      → IsStepAt sheet season events found
  step-may_come found of_sheet told = (line-known found told).2.may_come of_sheet

  -- it asks about the fixture that the content names
  pub step-about : (found : Step) → step_in sheet season events content ≡ Ok (Some found)
      → about_of content ≡ step_about found
  step-about found told =
      let known = line-known found told in known.1 ∙ known.2.about

  forgotten-back : (line : Result (Option Step) FeedFault) (entry : Entry)
      → forgotten line ≡ Ok (Some entry)
      → (found : Step) × (line ≡ Ok (Some found)) × (forget found ≡ entry)
  forgotten-back (Ok None) entry is = cc
  forgotten-back (Ok (Some found)) entry is = (found, refl, cc)
  forgotten-back (Err fault) entry is = cc

  asked-unplayed : (found : Step) → IsStepAt sheet season events found
      → IfSome (step_about found) (IsUnplayedFixture sheet season)
  asked-unplayed (step.Entry entry) may_come = tt
  asked-unplayed (step.When fixture) may_come = may_come

  -- a line that asks about a fixture asks about one of the sheet that has no score
  pub asks-unplayed : IsSeasonOf sheet season
      → step_line sheet season events content ≡ Ok (Some Ask)
      → IfSome (about_of content) (IsUnplayedFixture sheet season)
  asks-unplayed of_sheet told =
      let back = forgotten-back (step_in sheet season events content) Ask told in
      let P : Option ℕ → Type 0 = λ about. IfSome about (IsUnplayedFixture sheet season) in
      subst P (sym (step-about back.0 back.1))
      (asked-unplayed back.0 (step-may_come back.0 of_sheet back.1))

-- ---- a line that asks about no fixture

entry-same : (told : Result Entry FeedFault) → forgotten (given (entry_step told)) ≡ given told
entry-same (Ok entry) = refl
entry-same (Err fault) = refl

record-same : (sheet : Sheet) (season : Results) (events : ℕ) (fields : List (List ℕ))
    (asks : Bool) → (if asks then Some (fixture_in fields) else None) ≡ None
    → forgotten (given
    (if asks then value_unless (when_tests sheet season fields) (step.When (fixture_in fields))
    else entry_step (entry_of sheet season events false fields)))
    ≡ given (entry_of sheet season events false fields)
record-same sheet season events fields true no_one = cc
record-same sheet season events fields false no_one =
    entry-same (entry_of sheet season events false fields)

line-same : (sheet : Sheet) (season : Results) (events : ℕ) (returns : Bool)
    (line : Option (List (List ℕ))) → (if returns then None else about_if line) ≡ None
    → forgotten (if returns then Err UnknownRecord
    else parsed_if (step_of sheet season events) line)
    ≡ (if returns then Err UnknownRecord else parsed_if (entry_of sheet season events false) line)
line-same sheet season events true line no_one = refl
line-same sheet season events false None no_one = refl
line-same sheet season events false (Some fields) no_one =
    record-same sheet season events fields (is_when fields) no_one

-- it is read as in every feed
pub other-same : (sheet : Sheet) (season : Results) (events : ℕ) (content : List ℕ)
    → about_of content ≡ None
    → step_line sheet season events content ≡ entry_in sheet season events false content
other-same sheet season events content no_one =
    line-same sheet season events (has_return content) (record_of content) no_one
