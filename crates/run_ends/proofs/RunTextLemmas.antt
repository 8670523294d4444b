-- Texts of a course, from answers to its first asks on.
use Rattle.std.proofs.Common.{◌≡◌, ℕ, List, [], ◌∷◌, ◌++◌, refl, ap, sym, ◌∙◌, subst, append-nil}
use Rattle.std.proofs.lemmas.List.{append_assoc}
use Rattle.port_core.specs.Ports.{IsBytePrefix}
use Rattle.port_core.specs.Contents.{Contents, contents_of, with_lines}
use Rattle.answer_rows.specs.Parts.{IsMadeOf}
use Rattle.run_ends.specs.declared.run_end.RunEnd.{RunEnd}
use Rattle.run_ends.specs.declared.run_end.RunEnd.TheVariants.{Complete, Refused}
use Rattle.run_ends.specs.InputEnds.{status_of_outcome}
use Rattle.run_ends.specs.Rows.{fault_row}
use Rattle.run_ends.specs.Courses.{CourseOf, course_ended, with_asks}
use Rattle.run_ends.specs.Texts.{IsLastText, IsPrefixOf, IsTextOf, SessionKind}
use Rattle.run_ends.specs.Runs.{IsText, IsTextPrefix, session_status}
use Rattle.run_ends.specs.inside.Ways.{LeadsOn}

-- ---- answers

-- answers and then more answers
pub answers-append : {Play : Type 0} (IsAnswer : Play → List ℕ → Type 0) (asks others : List Play)
    (written more : List ℕ) → IsMadeOf IsAnswer asks written → IsMadeOf IsAnswer others more
    → IsMadeOf IsAnswer (asks ++ others) (written ++ more)
answers-append IsAnswer [] others written more first second =
    let P : List ℕ → Type 0 = λ t. IsMadeOf IsAnswer others (t ++ more) in
    subst P (sym first) second
answers-append IsAnswer (asked ∷ asks) others written more first second = (
  first.0,
  first.1 ++ more,
  ap (λ t. t ++ more) first.2 ∙ append_assoc first.0 first.1 more,
  first.3,
  answers-append IsAnswer asks others first.1 more first.4 second,
)

-- one answer
pub answers-one : {Play : Type 0} (IsAnswer : Play → List ℕ → Type 0) (asked : Play)
    (answer : List ℕ) → IsAnswer asked answer → IsMadeOf IsAnswer (asked ∷ []) answer
answers-one IsAnswer asked answer is = (answer, [], sym (append-nil answer), is, refl)

-- ---- whole texts

-- there are whole answers to these asks
abbrev pub HasAnswers : {Play : Type 0} → (Play → List ℕ → Type 0) → List Play → Type 0
HasAnswers IsAnswer asks = (text : List ℕ) × IsMadeOf IsAnswer asks text

-- what is written last there
abbrev pub HasLast : {Play : Type 0} → SessionKind Play → CourseOf Play → Type 0
HasLast kind course =
    (last : List ℕ) × IsLastText kind.IsClosing course.outcome course.closing last

-- the course has a whole text
abbrev pub HasText : {Play : Type 0} → SessionKind Play → CourseOf Play → Type 0
HasText kind course = HasAnswers kind.IsAnswer course.asks × HasLast kind course

-- each course has
abbrev pub IsAnswered : {Play : Type 0} → SessionKind Play → Type 0
IsAnswered kind = (contents : Contents) → HasText kind (kind.course contents)

-- so there are to the last of them
answers-behind : {Play : Type 0} (IsAnswer : Play → List ℕ → Type 0) (asks others : List Play)
    → HasAnswers IsAnswer (asks ++ others) → HasAnswers IsAnswer others
answers-behind IsAnswer [] others all = all
answers-behind IsAnswer (asked ∷ asks) others all =
    answers-behind IsAnswer asks others (all.1.1, all.1.4)

module _ {Play : Type 0} (kind : SessionKind Play) where
  -- and so has the course after some asks
  pub text-left : (asks : List Play) (course : CourseOf Play)
      → HasText kind (with_asks asks course) → HasText kind course
  text-left asks course all = (answers-behind kind.IsAnswer asks course.asks all.0, all.1)

  -- asks at the front that have answers
  pub text-front : (asks : List Play) (course : CourseOf Play)
      → HasAnswers kind.IsAnswer asks → HasText kind course → HasText kind (with_asks asks course)
  text-front asks course first more = (
    (
      first.0 ++ more.0.0,
      answers-append kind.IsAnswer asks course.asks first.0 more.0.0 first.1 more.0.1,
    ),
    more.1,
  )

  -- a course that is ended
  pub ended-there : (outcome : RunEnd) → HasText kind (course_ended outcome)
  ended-there Complete = (([], refl), ([], refl))
  ended-there (Refused fault) = (([], refl), (fault_row fault, refl))

  -- answers to the first asks, and a text of what comes after them
  text-behind : (asks : List Play) (behind : CourseOf Play) (written text : List ℕ)
      → IsMadeOf kind.IsAnswer asks written → IsTextOf kind behind text
      → IsTextOf kind (with_asks asks behind) (written ++ text)
  text-behind asks behind written text first whole = (
    written ++ whole.0,
    whole.1,
    answers-append kind.IsAnswer asks behind.asks written whole.0 first whole.2,
    whole.3,
    ap (λ t. written ++ t) whole.4 ∙ sym (append_assoc written whole.0 whole.1),
  )

  -- the same of a front
  front-behind : (asks : List Play) (behind : CourseOf Play) (written more : List ℕ)
      → IsMadeOf kind.IsAnswer asks written → IsPrefixOf kind behind more
      → IsPrefixOf kind (with_asks asks behind) (written ++ more)
  front-behind asks behind written more first front = (
    written ++ front.0,
    text-behind asks behind written front.0 first front.1,
    (
      front.2.0,
      append_assoc written more front.2.0 ∙ ap (λ t. written ++ t) front.2.1,
    ),
  )

  -- ---- fronts that end at an answer, in it, or in what is written last

  -- nothing is a front, where there is a whole text
  pub front-nothing : (behind : CourseOf Play) → HasText kind behind → IsPrefixOf kind behind []
  front-nothing behind there =
      let whole = there.0.0 ++ there.1.0 in
      (whole, (there.0.0, there.1.0, there.0.1, there.1.1, refl), (whole, refl))

  -- a prefix of what is written last, where nothing is asked any more
  pub front-last : (behind : CourseOf Play) (last part : List ℕ) → behind.asks ≡ []
      → IsLastText kind.IsClosing behind.outcome behind.closing last → IsBytePrefix part last
      → IsPrefixOf kind behind part
  front-last behind last part none is front =
      let P : List Play → Type 0 = λ asks. IsMadeOf kind.IsAnswer asks [] in
      (last, ([], last, subst P (sym none) refl, is, refl), front)

  -- a prefix of answers, where there is a whole text of what comes after them
  pub front-answer : (asks : List Play) (behind : CourseOf Play) (answer part : List ℕ)
      → IsMadeOf kind.IsAnswer asks answer → IsBytePrefix part answer → HasText kind behind
      → IsPrefixOf kind (with_asks asks behind) part
  front-answer asks behind answer part are front there =
      let rest = there.0.0 ++ there.1.0 in (
        answer ++ rest,
        text-behind asks behind answer rest are
            (there.0.0, there.1.0, there.0.1, there.1.1, refl),
        (front.0 ++ rest, sym (append_assoc part front.0 rest) ∙ ap (λ t. t ++ rest) front.1),
      )

-- ---- what a run knows of its input

-- these asks were answered, and this course comes after them
pub record Reached {Play : Type 0} (kind : SessionKind Play) (input written : List ℕ)
    (behind : CourseOf Play) : Type 0 where
  pub asks : List Play
  pub answers : IsMadeOf kind.IsAnswer asks written
  pub all : kind.course (contents_of input) ≡ with_asks asks behind

module _ {Play : Type 0} (kind : SessionKind Play) where
  -- nothing was read
  pub reached-start : (input : List ℕ) (behind : CourseOf Play)
      → kind.course (contents_of input) ≡ behind → Reached kind input [] behind
  reached-start input behind is = record { asks = []; answers = refl; all = is }

  -- lines were taken
  pub reached : (input : List ℕ) (taken : List (ℕ × List ℕ)) (written : List ℕ)
      (from : Contents → CourseOf Play) (rest : Contents) → LeadsOn kind taken written from
      → contents_of input ≡ with_lines taken rest → Reached kind input written (from rest)
  reached input taken written from rest way is = record {
    asks = way.asks;
    answers = way.answers;
    all = ap kind.course is ∙ way.course rest;
  }

  -- what comes after is another way to say it
  pub reached-as : (input written : List ℕ) (behind other : CourseOf Play)
      → Reached kind input written behind → behind ≡ other → Reached kind input written other
  reached-as input written behind other there is = record {
    asks = there.asks;
    answers = there.answers;
    all = there.all ∙ ap (with_asks there.asks) is;
  }

  -- a prefix of what comes after
  pub reached-front : (input written : List ℕ) (behind : CourseOf Play) (more : List ℕ)
      → Reached kind input written behind → IsPrefixOf kind behind more
      → IsTextPrefix kind input (written ++ more)
  reached-front input written behind more there front =
      let P : CourseOf Play → Type 0 = λ c. IsPrefixOf kind c (written ++ more) in
      subst P (sym there.all)
      (front-behind kind there.asks behind written more there.answers front)

  -- the whole text, where nothing is asked any more
  pub reached-text : (input written : List ℕ) (behind : CourseOf Play) (last : List ℕ)
      → Reached kind input written behind → behind.asks ≡ []
      → IsLastText kind.IsClosing behind.outcome behind.closing last
      → IsText kind input (written ++ last)
  reached-text input written behind last there none is =
      let P : CourseOf Play → Type 0 = λ c. IsTextOf kind c (written ++ last) in
      let Q : List Play → Type 0 = λ asks. IsMadeOf kind.IsAnswer asks written in
      let same : there.asks ++ behind.asks ≡ there.asks =
      ap (λ more. there.asks ++ more) none ∙ append-nil there.asks in
      subst P (sym there.all) (written, last, subst Q (sym same) there.answers, is, refl)

  -- and its status
  pub reached-status : (input written : List ℕ) (behind : CourseOf Play)
      → Reached kind input written behind
      → session_status kind input ≡ status_of_outcome behind.outcome
  reached-status input written behind there =
      ap (λ (c : CourseOf Play). status_of_outcome c.outcome) there.all

  module _ (answered : IsAnswered kind) where
    -- there is a whole text of what is left
    pub reached-answered : (input written : List ℕ) (behind : CourseOf Play)
        → Reached kind input written behind → HasText kind behind
    reached-answered input written behind there =
        let P : CourseOf Play → Type 0 = λ c. HasText kind c in
        text-left kind there.asks behind (subst P there.all (answered (contents_of input)))

    -- what was written so far
    pub reached-so_far : (input written : List ℕ) (behind : CourseOf Play)
        → Reached kind input written behind → IsTextPrefix kind input written
    reached-so_far input written behind there =
        let P : List ℕ → Type 0 = λ t. IsTextPrefix kind input t in
        subst P (append-nil written)
        (reached-front input written behind [] there
        (front-nothing kind behind (reached-answered input written behind there)))
