-- The way of a session, from line to line: where it begins, what lines lead on to, and what the
-- lines taken have answered if the source fails.
use Rattle.std.proofs.Common.{◌≡◌, ℕ, Bool, List, [], ◌++◌, Option, Some, Ok, refl, ap}
use Rattle.std.proofs.Common.{sym, ◌∙◌, subst, append-nil}
use Rattle.port_core.specs.Lines.{lines_of, HasNoLineFeed}
use Rattle.port_core.specs.Contents.{Contents, Position, start, number_at, ended, contents_from}
use Rattle.port_core.specs.Contents.{contents_of, with_lines}
use Rattle.port_core.specs.Readers.{LineReaderView, contents_after, contents_to_come, stream_of}
use Rattle.port_core.specs.inside.ReaderCalls.{Passes, PassesKnown, PassesTo}
use Rattle.port_core.proofs.ContentLemmas.{with_lines-append}
use Rattle.answer_rows.specs.Parts.{IsMadeOf}
use Rattle.run_ends.specs.declared.status.Status.TheVariants.{ReadFault}
use Rattle.run_ends.specs.Courses.{CourseOf, with_asks}
use Rattle.run_ends.specs.Texts.{AreAllAnswers, SessionKind, IsRefusedAtEnd}
use Rattle.run_ends.specs.Runs.{AreAnswersIn, Serves}
use Rattle.run_ends.specs.inside.Ways.{LeadsOn, Path}
use Rattle.league_core.proofs.plain.Streams.{append_known-nothing, prepend-nothing}

-- ---- the contents of lines that were passed

-- the contents of an input are those that the lines passed give, and then those after them
pub all-contents : (input after : List ℕ) (told told' : Bool) (to : Position)
    (given : List (ℕ × List ℕ)) → Passes start input told to after told' given
    → contents_of input ≡ with_lines given (contents_from to (lines_of after))
all-contents input after told told' to given passed =
    ap (contents_from start) passed.split ∙ passed.gives (lines_of after)

-- the lines passed, by themselves, give their contents, and end there
lines-alone : (input after : List ℕ) (told told' : Bool) (to : Position)
    (given : List (ℕ × List ℕ)) (passed : Passes start input told to after told' given)
    → contents_from start passed.lines ≡ with_lines given (ended (Ok (number_at to)))
lines-alone input after told told' to given passed =
    ap (contents_from start) (sym (append-nil passed.lines)) ∙ passed.gives []

-- ---- a reader that has given nothing

-- the contents to come are all contents
pub fresh-contents : (reader : LineReaderView) (input : Option (List ℕ))
    → reader ≡ record { held = []; text = []; position = start }
    → contents_to_come reader input ≡ contents_after start input
fresh-contents reader input is =
    ap (λ r. contents_to_come r input) is ∙ ap (contents_after start) (prepend-nothing input)

-- the lines that it passes are the first ones
pub fresh-passes : (reader new : LineReaderView) (input left : Option (List ℕ)) (told told' : Bool)
    (given : List (ℕ × List ℕ)) → reader ≡ record { held = []; text = []; position = start }
    → PassesTo reader new input left told told' given
    → PassesKnown start input told new.position (stream_of new left) told' given
fresh-passes reader new input left told told' given is passed =
    let P : LineReaderView → Type 0 = λ r. PassesTo r new input left told told' given in
    let Q : Option (List ℕ) → Type 0 =
    λ known. PassesKnown start known told new.position (stream_of new left) told' given in
    subst Q (prepend-nothing input) (subst P is passed)

module _ {Play : Type 0} (kind : SessionKind Play) where
  -- lines that lead on
  pub leads-on : (taken lines : List (ℕ × List ℕ)) (written : List ℕ)
      (from next : Contents → CourseOf Play) → LeadsOn kind taken written from
      → ((rest : Contents) → from (with_lines lines rest) ≡ next rest)
      → LeadsOn kind (taken ++ lines) written next
  leads-on taken lines written from next way leads = record {
    asks = way.asks;
    answers = way.answers;
    course = λ rest. ap kind.course (with_lines-append taken lines rest)
        ∙ way.course (with_lines lines rest)
        ∙ ap (with_asks way.asks) (leads rest);
  }

  -- the way over the first lines of an input, which lead on whatever follows them
  pub first-path : (input after : List ℕ) (told told' : Bool) (to : Position)
      (given : List (ℕ × List ℕ)) (from : Contents → CourseOf Play) (old : Option (List ℕ))
      → Passes start input told to after told' given
      → ((rest : Contents) → kind.course (with_lines given rest) ≡ from rest)
      → Path kind (Some input) told (Some after) told' to from old old
  first-path input after told told' to given from old passed leads = (
    given,
    [],
    append_known-nothing old,
    passed,
    record { asks = []; answers = refl; course = leads },
  )

  -- ---- a fault of the source

  -- the answers of the lines taken, from their course
  pub answers-in : (input after : List ℕ) (told told' : Bool) (to : Position)
      (given : List (ℕ × List ℕ)) (written : List ℕ) (course : CourseOf Play)
      (passed : Passes start input told to after told' given)
      → kind.course (with_lines given (ended (Ok (number_at to)))) ≡ course
      → AreAllAnswers kind (number_at to) course written
      → AreAnswersIn kind passed.lines written
  answers-in input after told told' to given written course passed is are =
      let alone = lines-alone input after told told' to given passed in
      let P : CourseOf Play → Type 0 = λ c. AreAllAnswers kind (number_at to) c written in (
        number_at to,
        ap (λ (c : Contents). c.ending) alone,
        subst P (sym (ap kind.course alone ∙ is)) are,
      )

  -- the source failed before anything was asked, where no line would be refused if the input ended
  -- there
  pub fails-unasked : (input held left : List ℕ) (told told' : Bool) (to : Position)
      (given : List (ℕ × List ℕ)) (old : Option (List ℕ)) (course : CourseOf Play)
      → Passes start input told to (held ++ left) told' given → HasNoLineFeed held
      → kind.course (with_lines given (ended (Ok (number_at to)))) ≡ course
      → course.asks ≡ [] → IsRefusedAtEnd (number_at to) course.outcome
      → Serves kind (Some input) (Some left) told' old old ReadFault
  fails-unasked input held left told told' to given old course passed no_feed is none at_end =
      let P : List Play → Type 0 = λ asks. IsMadeOf kind.IsAnswer asks [] in (
        [],
        append_known-nothing old,
        (
          passed.lines,
          held,
          no_feed,
          passed.split,
          passed.whole,
          answers-in input (held ++ left) told told' to given [] course passed is
              (subst P (sym none) refl, at_end),
        ),
      )
