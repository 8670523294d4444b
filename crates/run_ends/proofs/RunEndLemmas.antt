-- How a session ends: at a fault of its input, at its end, or while an answer is written.
use Rattle.std.proofs.Common.{◌≡◌, ℕ, Bool, List, [], ◌++◌, Option, Some, None, Err, ◌∙◌, refl, inl}
use Rattle.std.proofs.Common.{inr, subst, sym}
use Rattle.std.specs.Io.KnownBytes.{append_known}
use Rattle.port_core.specs.Contents.{contents_of}
use Rattle.port_core.specs.declared.line.ReadStop.TheVariants as read_stop
use Rattle.result_log.specs.declared.fault.FeedStop.{FeedStop}
use Rattle.result_log.specs.declared.fault.FeedStop.TheVariants as feed_stop
use Rattle.result_log.specs.inside.Calls.{CountsEntry}
use Rattle.answer_rows.specs.Parts.{IsMadeOf}
use Rattle.answer_rows.specs.inside.Outputs.{PutsSomePrefix}
use Rattle.run_ends.specs.declared.status.Status.{Status}
use Rattle.run_ends.specs.declared.status.Status.TheVariants.{Done, BadWords, BadSheet, BadFeed}
use Rattle.run_ends.specs.declared.status.Status.TheVariants.{ReadFault, WriteFault, OutOfMemory}
use Rattle.run_ends.specs.declared.status.Status.TheVariants.{NotProved, TooLong}
use Rattle.run_ends.specs.declared.run_end.Cause.{Cause}
use Rattle.run_ends.specs.declared.run_end.Cause.TheVariants as cause
use Rattle.run_ends.specs.declared.run_end.Fault.{Fault}
use Rattle.run_ends.specs.declared.run_end.RunEnd.TheVariants.{Complete, Refused}
use Rattle.run_ends.specs.InputEnds.{status_of_cause}
use Rattle.run_ends.specs.Rows.{fault_row}
use Rattle.run_ends.specs.Courses.{CourseOf, course_ended, with_asks}
use Rattle.run_ends.specs.Texts.{IsLastText, SessionKind}
use Rattle.run_ends.specs.Runs.{Counts, IsTextPrefix, IsWholeText, Serves}
use Rattle.run_ends.specs.inside.RunTurns.{AskEnds, EndGives, MayEndSession}
use Rattle.run_ends.specs.inside.Stops.{CountsEnd, CountsStop, FaultEnds, stop_of_feed}
use Rattle.run_ends.proofs.RunTextLemmas.{IsAnswered, Reached, front-answer, front-last}
use Rattle.run_ends.proofs.RunTextLemmas.{reached-answered, reached-front, reached-so_far}
use Rattle.run_ends.proofs.RunTextLemmas.{reached-start, reached-status, reached-text, text-left}
use Rattle.league_core.proofs.plain.Streams.{append_known-more, append_known-nothing}

-- no fault of the input ends a run as done
not_done : (cause : Cause) → status_of_cause cause ≡ Done → ⊥
not_done (cause.Sheet fault) is = cc
not_done (cause.Cup fault) is = cc
not_done (cause.Feed fault) is = cc
not_done cause.LineTooLong is = cc
not_done cause.InputTooLong is = cc
not_done cause.BadSave is = cc

-- nor with a fault of the source
not_read : (cause : Cause) → status_of_cause cause ≡ ReadFault → ⊥
not_read (cause.Sheet fault) is = cc
not_read (cause.Cup fault) is = cc
not_read (cause.Feed fault) is = cc
not_read cause.LineTooLong is = cc
not_read cause.InputTooLong is = cc
not_read cause.BadSave is = cc

-- nothing is asked any more, and the end of the input has this answered, if something
abbrev pub closed_by : {Play : Type 0} → Option Play → CourseOf Play
closed_by closing = record { asks = []; outcome = Complete; closing = closing }

module _ {Play : Type 0} (kind : SessionKind Play) (answered : IsAnswered kind) where
  -- a fault of the input comes after what was written
  abbrev pub Stopped : List ℕ → List ℕ → Fault → Type 0
  Stopped input written fault = Reached kind input written (course_ended (Refused fault))

  -- its whole text
  whole : (input written : List ℕ) (fault : Fault) (status : Status)
      → Stopped input written fault → status_of_cause fault.cause ≡ status
      → IsWholeText kind input status (written ++ fault_row fault)
  whole input written fault status stopped is = (
    reached-status kind input written (course_ended (Refused fault)) stopped ∙ is,
    reached-text kind input written (course_ended (Refused fault)) (fault_row fault) stopped refl
        refl,
  )

  -- a fault of the input serves
  pub fault-serves : (input written : List ℕ) (left : Option (List ℕ)) (told' : Bool)
      (old now0 now1 : Option (List ℕ)) (fault : Fault) (status : Status)
      → Stopped input written fault → now0 ≡ append_known old written
      → FaultEnds fault now0 now1 status → Serves kind (Some input) left told' old now1 status
  fault-serves input written left told' old now0 now1 fault Done stopped before ends =
      absurd (not_done fault.cause ends.0)
  fault-serves input written left told' old now0 now1 fault BadWords stopped before ends = (
    written ++ fault_row fault,
    append_known-more old now0 now1 written (fault_row fault) before ends.1,
    whole input written fault BadWords stopped ends.0,
  )
  fault-serves input written left told' old now0 now1 fault BadSheet stopped before ends = (
    written ++ fault_row fault,
    append_known-more old now0 now1 written (fault_row fault) before ends.1,
    whole input written fault BadSheet stopped ends.0,
  )
  fault-serves input written left told' old now0 now1 fault BadFeed stopped before ends = (
    written ++ fault_row fault,
    append_known-more old now0 now1 written (fault_row fault) before ends.1,
    whole input written fault BadFeed stopped ends.0,
  )
  fault-serves input written left told' old now0 now1 fault ReadFault stopped before ends =
      absurd (not_read fault.cause ends.0)
  fault-serves input written left told' old now0 now1 fault WriteFault stopped before ends = (
    written ++ ends.0,
    append_known-more old now0 now1 written ends.0 before ends.2,
    reached-front kind input written (course_ended (Refused fault)) ends.0 stopped
        (front-last kind (course_ended (Refused fault)) (fault_row fault) ends.0 refl refl ends.1),
  )
  fault-serves input written left told' old now0 now1 fault OutOfMemory stopped before ends = (
    written,
    ends ∙ before,
    reached-so_far kind answered input written (course_ended (Refused fault)) stopped,
  )
  fault-serves input written left told' old now0 now1 fault NotProved stopped before ends = (
    written ++ fault_row fault,
    append_known-more old now0 now1 written (fault_row fault) before ends.1,
    whole input written fault NotProved stopped ends.0,
  )
  fault-serves input written left told' old now0 now1 fault TooLong stopped before ends = (
    written ++ fault_row fault,
    append_known-more old now0 now1 written (fault_row fault) before ends.1,
    whole input written fault TooLong stopped ends.0,
  )

  -- running out of memory serves, and leaves what was written
  pub memory-serves : (input written : List ℕ) (left : Option (List ℕ)) (told' : Bool)
      (old now : Option (List ℕ)) (behind : CourseOf Play)
      → Reached kind input written behind → now ≡ append_known old written
      → Serves kind (Some input) left told' old now OutOfMemory
  memory-serves input written left told' old now behind there known =
      (written, known, reached-so_far kind answered input written behind there)

  -- a run that found no memory before it read
  pub serves-nothing : (input left : Option (List ℕ)) (told : Bool) (old : Option (List ℕ))
      → Serves kind input left told old old OutOfMemory
  serves-nothing None left told old = tt
  serves-nothing (Some input) left told old =
      let all = kind.course (contents_of input) in
      memory-serves input [] left told old old all (reached-start kind input all refl)
      (append_known-nothing old)

  -- ---- the end of the input

  module _ (input written : List ℕ) (left : Option (List ℕ)) (told' : Bool)
      (old now0 now1 : Option (List ℕ)) (closing : Option Play)
      (there : Reached kind input written (closed_by closing))
      (before : now0 ≡ append_known old written) where
    -- a prefix of what is written last was written
    closing-front : PutsSomePrefix (IsLastText kind.IsClosing Complete closing) now0 now1
        → (text : List ℕ) × (now1 ≡ append_known old text) × IsTextPrefix kind input text
    closing-front ends =
        let front = ends.2 in (
          written ++ front.0,
          append_known-more old now0 now1 written front.0 before front.2,
          reached-front kind input written (closed_by closing) front.0 there
              (front-last kind (closed_by closing) ends.0 front.0 refl ends.1 front.1),
        )

    -- the end of the input serves
    pub end-serves : (status : Status) → left ≡ Some []
        → EndGives (IsLastText kind.IsClosing Complete closing) now0 now1 status
        → Serves kind (Some input) left told' old now1 status
    end-serves Done none ends = (
      written ++ ends.0,
      append_known-more old now0 now1 written ends.0 before ends.2,
      (
        (
          reached-status kind input written (closed_by closing) there,
          reached-text kind input written (closed_by closing) ends.0 there refl ends.1,
        ),
        none,
      ),
    )
    end-serves BadWords none ends = absurd ends
    end-serves BadSheet none ends = absurd ends
    end-serves BadFeed none ends = absurd ends
    end-serves ReadFault none ends = absurd ends
    end-serves WriteFault none ends = closing-front ends
    end-serves OutOfMemory none ends = elim ends [
      | inl same ↦
          memory-serves input written left told' old now1 (closed_by closing) there
          (same ∙ before)
      | inr more ↦ closing-front more
    ]
    end-serves NotProved none ends = absurd ends
    end-serves TooLong none ends = absurd ends

  -- ---- an ask

  module _ (input written : List ℕ) (IsAnswer : List ℕ → Type 0) (asks : List Play)
      (behind : CourseOf Play) (left : Option (List ℕ)) (told' : Bool)
      (old now0 now1 : Option (List ℕ))
      (are : (answer : List ℕ) → IsAnswer answer → IsMadeOf kind.IsAnswer asks answer)
      (there : Reached kind input written (with_asks asks behind))
      (before : now0 ≡ append_known old written) where
    -- a prefix of an answer was written
    asked-front : PutsSomePrefix IsAnswer now0 now1
        → (text : List ℕ) × (now1 ≡ append_known old text) × IsTextPrefix kind input text
    asked-front ends =
        let front = ends.2 in
        let whole = reached-answered kind answered input written (with_asks asks behind) there in (
          written ++ front.0,
          append_known-more old now0 now1 written front.0 before front.2,
          reached-front kind input written (with_asks asks behind) front.0 there
              (front-answer kind asks behind ends.0 front.0 (are ends.0 ends.1) front.1
              (text-left kind asks behind whole)),
        )

    -- an ask that ends the run serves
    pub ask-serves : (status : Status) → AskEnds IsAnswer now0 now1 status
        → Serves kind (Some input) left told' old now1 status
    ask-serves Done ends = absurd ends
    ask-serves BadWords ends = absurd ends
    ask-serves BadSheet ends = absurd ends
    ask-serves BadFeed ends = absurd ends
    ask-serves ReadFault ends = absurd ends
    ask-serves WriteFault ends = asked-front ends
    ask-serves OutOfMemory ends = elim ends [
      | inl same ↦
          memory-serves input written left told' old now1 (with_asks asks behind) there
          (same ∙ before)
      | inr more ↦ asked-front more
    ]
    ask-serves NotProved ends = absurd ends
    ask-serves TooLong ends = absurd ends

-- ---- the counts of faults

-- a run that ends, if the source did not fail
pub counts-end : (reads reads' writes writes' : ℕ) (status : Status) → reads' ≡ reads
    → CountsEnd writes writes' status
    → Counts reads reads' writes writes' status × MayEndSession status
counts-end reads reads' writes writes' Done same counts = ((same, counts), tt)
counts-end reads reads' writes writes' BadWords same counts = absurd counts
counts-end reads reads' writes writes' BadSheet same counts = ((same, counts), tt)
counts-end reads reads' writes writes' BadFeed same counts = ((same, counts), tt)
counts-end reads reads' writes writes' ReadFault same counts = absurd counts
counts-end reads reads' writes writes' WriteFault same counts = ((same, counts), tt)
counts-end reads reads' writes writes' OutOfMemory same counts = ((same, counts), tt)
counts-end reads reads' writes writes' NotProved same counts = absurd counts
counts-end reads reads' writes writes' TooLong same counts = ((same, counts), tt)

-- a stop of a feed
pub counts-feed : (reads reads' writes writes' : ℕ) (stop : FeedStop) (status : Status)
    → CountsEntry reads reads' (Err stop) → CountsStop (stop_of_feed stop) writes writes' status
    → Counts reads reads' writes writes' status × MayEndSession status
counts-feed reads reads' writes writes' (feed_stop.Read read_stop.ReadFault) status rose counts =
    let P : Status → Type 0 =
    λ s. Counts reads reads' writes writes' s × MayEndSession s in
    subst P (sym counts.0) ((rose, counts.1), tt)
counts-feed reads reads' writes writes' stop status same counts =
    counts-end reads reads' writes writes' status same counts
