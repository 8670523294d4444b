-- Lemmas on the line that a call passed last, whatever its record tells.
use Rattle.std.proofs.Common.{◌≡◌, ℕ, List, Option, None, Some, Result, Ok, Err, sym, ap, refl}
use Rattle.std.proofs.Common.{option_map, subst, true}
use Rattle.std.specs.Prelude.{IfOk, IfSome}
use mathlib.Core.Path.{fun_ext}
use Rattle.league_core.specs.game.Results.{Results}
use Rattle.port_core.specs.declared.line.Line.TheVariants as line
use Rattle.port_core.specs.Readers.{LineReaderView}
use Rattle.result_log.specs.declared.entry.Entry.{Entry}
use Rattle.result_log.specs.declared.entry.Entry.TheVariants.{Change, Ask, Proofs, End}
use Rattle.result_log.specs.declared.fault.FeedFault.{FeedFault}
use Rattle.result_log.specs.declared.fault.FeedStop.{FeedStop}
use Rattle.result_log.specs.declared.fault.FeedStop.TheVariants.{Fault, Read, OutOfMemory}
use Rattle.result_log.specs.Records.{IsEntryAt}
use Rattle.result_log.specs.Feeds.{found_as, line_as, parsed_in}
use Rattle.result_log.specs.inside.FeedParts.{LineEntry}
use Rattle.result_log.specs.inside.Calls.{AnswersLine, answer_there}
use Rattle.result_log.specs.inside.Readings.{IsParsedThere, MayBeTold, answer_as}

told-behind : (season : Results) (events : ℕ) (new : LineReaderView) (number : ℕ)
    (told : Result (Option Entry) FeedFault) (result : Option (Result Entry FeedStop))
    → number ≡ new.position.lines
    → AnswersLine number told result → IfSome result (λ given. IfOk given (MayBeTold season events))
    → answer_there new result ≡ Ok (line.Text number)
told-behind season events new number told None is answer never =
    ap (λ (n : ℕ). Ok (line.Text n)) (sym is)
told-behind season events new number told (Some (Ok (Change event))) is answer never =
    ap (λ (n : ℕ). Ok (line.Text n)) (sym is)
told-behind season events new number told (Some (Ok Ask)) is answer never =
    ap (λ (n : ℕ). Ok (line.Text n)) (sym is)
told-behind season events new number told (Some (Ok Proofs)) is answer never =
    ap (λ (n : ℕ). Ok (line.Text n)) (sym is)
told-behind season events new number told (Some (Ok End)) is answer never = absurd never
told-behind season events new number told (Some (Err (Fault refused fault))) is answer never =
    ap (λ (n : ℕ). Ok (line.Text n)) answer.0
told-behind season events new number told (Some (Err (Read stop))) is answer never = absurd answer
told-behind season events new number told (Some (Err OutOfMemory)) is answer never =
    ap (λ (n : ℕ). Ok (line.Text n)) (sym is)

module _ {T : Type 0} (entry : T → Entry) where
  -- an answer is one as an entry
  pub answers-as : (number : ℕ) (told : Result (Option T) FeedFault)
      (result : Option (Result T FeedStop)) → AnswersLine number told result
      → AnswersLine number (found_as entry told) (option_map (answer_as entry) result)
  answers-as number told None answer = ap (found_as entry) answer
  answers-as number told (Some (Ok found)) answer = ap (found_as entry) answer
  answers-as number told (Some (Err (Fault refused fault))) answer =
      (answer.0, ap (found_as entry) answer.1)
  answers-as number told (Some (Err (Read stop))) answer = answer
  answers-as number told (Some (Err OutOfMemory)) answer = tt

  module _ (tells : List (List ℕ) → Result T FeedFault) (text : List ℕ) where
    -- it is what the line tells
    pub parsed-there : (number : ℕ) (result : Option (Result T FeedStop))
        → AnswersLine number (parsed_in tells text) result
        → IfSome result (IsParsedThere entry tells text)
    parsed-there number None answer = tt
    parsed-there number (Some (Ok told)) answer = λ no_end. answer
    parsed-there number (Some (Err stop)) answer = tt

  module _ (season : Results) (events : ℕ) where
    parsed-as : (result : Option (Result T FeedStop))
        → IfSome result (λ given. IfOk given (λ told. MayBeTold season events (entry told)))
        → IfSome (option_map (answer_as entry) result)
        (λ given. IfOk given (MayBeTold season events))
    parsed-as None may = tt
    parsed-as (Some (Ok told)) may = may
    parsed-as (Some (Err stop)) may = tt

    entry-may_come : (found : Entry) → MayBeTold season events found
        → IsEntryAt season events true found
    entry-may_come (Change event) may = may
    entry-may_come Ask may = tt
    entry-may_come Proofs may = refl
    entry-may_come End may = absurd may

    -- what a line tells may come
    pub parsed-may_come : (result : Option (Result T FeedStop))
        → IfSome result (λ given. IfOk given (λ told. MayBeTold season events (entry told)))
        → IfSome result
        (λ given. IfOk given (λ told. IsEntryAt season events true (entry told)))
    parsed-may_come None may = tt
    parsed-may_come (Some (Ok told)) may = entry-may_come (entry told) may
    parsed-may_come (Some (Err stop)) may = tt

    -- what comes of a line came of the line passed last
    pub line-behind : (tells : List (List ℕ) → Result T FeedFault) (text : List ℕ)
        (new : LineReaderView) (number : ℕ) (result : Option (Result T FeedStop))
        → number ≡ new.position.lines → AnswersLine number (parsed_in tells text) result
        → IfSome result (λ given. IfOk given (λ told. MayBeTold season events (entry told)))
        → answer_there new (option_map (answer_as entry) result) ≡ Ok (line.Text number)
    line-behind tells text new number result is answer may =
        told-behind season events new number (line_as entry tells text)
        (option_map (answer_as entry) result) is
        (answers-as number (parsed_in tells text) result answer) (parsed-as result may)

-- ---- entries, as what they are

pub answer-same : (result : Result Entry FeedStop) → answer_as (λ told. told) result ≡ result
answer-same (Ok told) = refl
answer-same (Err stop) = refl

found-same : (found : Result (Option Entry) FeedFault) → found_as (λ told. told) found ≡ found
found-same (Ok None) = refl
found-same (Ok (Some told)) = refl
found-same (Err fault) = refl

pub entries-same : (tells : List (List ℕ) → Result Entry FeedFault)
    → line_as (λ told. told) tells ≡ parsed_in tells
entries-same tells = fun_ext (λ content. found-same (parsed_in tells content))

-- what is said of them as entries holds of them
pub as-entries : (IsSaid : LineEntry → Result Entry FeedStop → Type 0)
    (tells : List (List ℕ) → Result Entry FeedFault) (result : Result Entry FeedStop)
    → IsSaid (line_as (λ told. told) tells) (answer_as (λ told. told) result)
    → IsSaid (parsed_in tells) result
as-entries IsSaid tells result said =
    let P : LineEntry → Type 0 = λ found. IsSaid found (answer_as (λ told. told) result) in
    subst (IsSaid (parsed_in tells)) (answer-same result)
    (subst P (entries-same tells) said)
