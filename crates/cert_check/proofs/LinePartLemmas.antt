-- Reports over any grammar: what the reading line by line comes to, and what the parts say of the
-- lines.
use Rattle.std.proofs.Common.{◌≡◌, ◌<◌, ◌≤◌, ℕ, ◌+◌, Bool, true, false, List, [], ◌∷◌, ◌++◌, length}
use Rattle.std.proofs.Common.{refl, sym, ap, ◌∙◌, subst, arith, append-nil}
use Rattle.std.specs.Prelude.{filter, if◌then◌else◌}
use Rattle.std.specs.List.{list_all}
use Rattle.std.proofs.lemmas.Bool.{false≢true, and_parts}
use Rattle.cert_check.specs.LineGrammars.{Next, bad, go, Ending, whole_at, bad_line, no_proof}
use Rattle.cert_check.specs.LineGrammars.{short, by_next, ending_by}
use Rattle.cert_check.specs.inside.LineParts.{PartGrammar, AreAllParts, unsettled_with, LeavesDue}
use Rattle.cert_check.specs.inside.LineParts.{Begins, IsBadLineAt, IsUnprovedAt, AreTooFew}
use Rattle.cert_check.proofs.NextLemmas.{go-same, bad-go, parts-join, parts-split, Parted}
use Rattle.cert_check.proofs.MachineLemmas.{count_with, nothing_due}
use Rattle.cert_check.proofs.TakenLemmas.{taken_shows}

module _ {Basis Line Due : Type 0} (grammar : PartGrammar Basis Line Due) (basis : Basis) where
  -- the grammar reads line by line what its parts are: a line that counts and goes on starts a
  -- part, each part starts so, something may stand for all that is due, and a line that does not
  -- count leaves what is due and is no row
  pub record ReadsParts : Type 0 where
    pub joins : (proved : Bool) (due : Due) (line : Line) (holds : Bool) (more : List Due)
        (lines : List Line) → grammar.counts line ≡ true
        → grammar.reads.after basis due line ≡ go holds more → (proved ≡ true → holds ≡ true)
        → AreAllParts grammar proved basis more lines
        → grammar.IsPart proved basis due (line ∷ lines)
    pub starts : (proved : Bool) (due : Due) (lines : List Line)
        → grammar.IsPart proved basis due lines
        → Parted grammar proved basis (grammar.reads.after basis) due lines
    pub some : (due : Due) → (lines : List Line) × grammar.IsPart false basis due lines
    pub passed : (due : Due) (line : Line) → grammar.counts line ≡ false
        → grammar.reads.after basis due line ≡ go true (due ∷ [])
    pub no_row : (line : Line) → grammar.counts line ≡ false
        → grammar.reads.is_unsettled line ≡ false

module _ {Basis Line Due : Type 0} (grammar : PartGrammar Basis Line Due) (basis : Basis)
    (agrees : ReadsParts grammar basis) where
  -- so many unsettled rows with those of these lines
  abbrev rows_with : ℕ → List Line → ℕ
  rows_with = unsettled_with grammar.reads.is_unsettled

  -- something stands for all that is due
  all_some : (dues : List Due) → (lines : List Line) × AreAllParts grammar false basis dues lines
  all_some [] = ([], refl)
  all_some (due ∷ dues) =
      let front = agrees.some due in
      let back = all_some dues in
      (front.0 ++ back.0, (front.0, back.0, front.1, back.1, refl))

  -- ---- one line

  -- a line that counts, with parts after it for what it leaves due and for what else was
  join_counted : (proved : Bool) (due : Due) (dues : List Due) (line : Line) (holds : Bool)
      (more : List Due) (lines : List Line) → grammar.counts line ≡ true
      → grammar.reads.after basis due line ≡ go holds more → (proved ≡ true → holds ≡ true)
      → AreAllParts grammar proved basis (more ++ dues) lines
      → AreAllParts grammar proved basis (due ∷ dues) (line ∷ lines)
  join_counted proved due dues line holds more lines counted goes so parts =
      let two = parts-split grammar proved basis more dues lines parts in (
        line ∷ two.0,
        two.1,
        agrees.joins proved due line holds more two.0 counted goes so two.2,
        two.3,
        ap (λ it. line ∷ it) two.4,
      )

  -- what a line leaves due that begins parts
  part_counted : (proved : Bool) (due : Due) (dues : List Due) (line : Line)
      (lines : List Line) → AreAllParts grammar proved basis (due ∷ dues) (line ∷ lines)
      → (holds : Bool) × (more : List Due) × (grammar.reads.after basis due line ≡ go holds more)
      × (proved ≡ true → holds ≡ true) × AreAllParts grammar proved basis (more ++ dues) lines
  part_counted proved due dues line lines parts =
      let first = agrees.starts proved due parts.0 parts.2 in
      let all : line ∷ lines ≡ first.0 ∷ (first.1 ++ parts.1) =
      parts.4 ∙ ap (λ it. it ++ parts.1) first.4 in
      let same : first.0 ≡ line = cc in
      let rest : first.1 ++ parts.1 ≡ lines = cc in
      let P : List Line → Type 0 = λ it. AreAllParts grammar proved basis (first.3 ++ dues) it in (
        first.2,
        first.3,
        ap (grammar.reads.after basis due) (sym same) ∙ first.5,
        first.6,
        subst P rest (parts-join grammar proved basis first.3 dues first.1 parts.1 first.8 parts.3),
      )

  -- any line with parts after it
  join_line : (proved : Bool) (due : Due) (dues : List Due) (line : Line) (holds : Bool)
      (more : List Due) (lines rest : List Line)
      → grammar.reads.after basis due line ≡ go holds more → (proved ≡ true → holds ≡ true)
      → AreAllParts grammar proved basis (more ++ dues) (filter grammar.counts lines ++ rest)
      → AreAllParts grammar proved basis (due ∷ dues) (filter grammar.counts (line ∷ lines) ++ rest)
  join_line proved due dues line holds more lines rest goes so parts =
      by_test (grammar.counts line) refl
    where
      kept : List Line
      kept = filter grammar.counts lines

      by_test : (test : Bool) → grammar.counts line ≡ test
          → AreAllParts grammar proved basis (due ∷ dues)
          ((if test then line ∷ kept else kept) ++ rest)
      by_test true counted =
          join_counted proved due dues line holds more (kept ++ rest) counted goes so parts
      by_test false passed =
          let same = go-same true holds (due ∷ []) more
          (sym (agrees.passed due line passed) ∙ goes) in
          let P : List Due → Type 0 =
          λ it. AreAllParts grammar proved basis (it ++ dues) (kept ++ rest) in
          subst P (sym same.1) parts

  -- what any line leaves due that begins parts
  part_line : (proved : Bool) (due : Due) (dues : List Due) (line : Line) (lines rest : List Line)
      → AreAllParts grammar proved basis (due ∷ dues) (filter grammar.counts (line ∷ lines) ++ rest)
      → (holds : Bool) × (more : List Due) × (grammar.reads.after basis due line ≡ go holds more)
      × (proved ≡ true → holds ≡ true)
      × AreAllParts grammar proved basis (more ++ dues) (filter grammar.counts lines ++ rest)
  part_line proved due dues line lines rest = by_test (grammar.counts line) refl
    where
      kept : List Line
      kept = filter grammar.counts lines

      by_test : (test : Bool) → grammar.counts line ≡ test
          → AreAllParts grammar proved basis (due ∷ dues)
          ((if test then line ∷ kept else kept) ++ rest)
          → (holds : Bool) × (more : List Due)
          × (grammar.reads.after basis due line ≡ go holds more) × (proved ≡ true → holds ≡ true)
          × AreAllParts grammar proved basis (more ++ dues) (kept ++ rest)
      by_test true counted parts = part_counted proved due dues line (kept ++ rest) parts
      by_test false passed parts =
          (true, due ∷ [], agrees.passed due line passed, λ _. refl, parts)

  -- ---- many lines

  -- the reading goes on after lines that pass
  pub passes_on : (before rest : List Line) (dues left : List Due)
      (at unsettled : ℕ) → LeavesDue grammar.reads basis before dues left
      → ending_by grammar.reads basis (before ++ rest) dues at unsettled ≡
      ending_by grammar.reads basis rest left (at + length before) (rows_with unsettled before)
  passes_on [] rest dues left at unsettled passed =
      ap (λ it. ending_by grammar.reads basis rest it at unsettled) passed
      ∙ ap (λ it. ending_by grammar.reads basis rest left it unsettled) (omega arith)
  passes_on (line ∷ before) rest [] left at unsettled passed = absurd passed
  passes_on (line ∷ before) rest (due ∷ dues) left at unsettled passed =
      ap (λ it. by_next it at
      (λ more. ending_by grammar.reads basis (before ++ rest) (more ++ dues) (at + 1)
      (count_with grammar.reads unsettled line))) passed.1
      ∙ passes_on before rest (passed.0 ++ dues) left (at + 1)
      (count_with grammar.reads unsettled line) passed.2
      ∙ ap (λ it. ending_by grammar.reads basis rest left it
      (rows_with (count_with grammar.reads unsettled line) before)) (omega arith)

  -- one line more begins what is due
  begins_on : (due : Due) (dues : List Due) (line : Line) (holds : Bool) (more : List Due)
      (lines : List Line) → grammar.reads.after basis due line ≡ go holds more
      → Begins grammar basis (more ++ dues) lines → Begins grammar basis (due ∷ dues) (line ∷ lines)
  begins_on due dues line holds more lines goes begins = (
    begins.0,
    join_line false due dues line holds more lines begins.0 goes
        (λ it. absurd (false≢true it)) begins.1,
  )

  -- and only if the others begin what it leaves
  begins_off : (due : Due) (dues : List Due) (line : Line) (lines : List Line)
      → Begins grammar basis (due ∷ dues) (line ∷ lines)
      → (holds : Bool) × (more : List Due) × (grammar.reads.after basis due line ≡ go holds more)
      × Begins grammar basis (more ++ dues) lines
  begins_off due dues line lines begins =
      let first = part_line false due dues line lines begins.0 begins.1 in
      (first.0, first.1, first.2, (begins.0, first.4))

  -- lines that pass begin what is due if those after them begin what is due there
  begins_through : (before lines : List Line) (dues left : List Due)
      → LeavesDue grammar.reads basis before dues left → Begins grammar basis left lines
      → Begins grammar basis dues (before ++ lines)
  begins_through [] lines dues left passed begins =
      let P : List Due → Type 0 = λ it. Begins grammar basis it lines in subst P (sym passed) begins
  begins_through (line ∷ before) lines [] left passed begins = absurd passed
  begins_through (line ∷ before) lines (due ∷ dues) left passed begins =
      begins_on due dues line true passed.0 (before ++ lines) passed.1
      (begins_through before lines (passed.0 ++ dues) left passed.2 begins)

  -- ---- what a reading comes to, and why

  data Comes (lines : List Line) (dues : List Due) (at unsettled : ℕ) (ending : Ending) : Type 0
    where
      all_shown : (taken rest : List Line) → lines ≡ taken ++ rest
          → LeavesDue grammar.reads basis taken dues []
          → ending ≡ whole_at (at + length taken) (rows_with unsettled taken)
          → Comes lines dues at unsettled ending
      refused : (place : ℕ) → IsBadLineAt grammar basis lines dues place
          → ending ≡ bad_line (at + place) → Comes lines dues at unsettled ending
      unshown : (place : ℕ) → IsUnprovedAt grammar basis lines dues place
          → ending ≡ no_proof (at + place) → Comes lines dues at unsettled ending
      missing : AreTooFew grammar basis lines dues → ending ≡ short
          → Comes lines dues at unsettled ending

  -- a line more that passes
  comes_on : (line : Line) (lines : List Line) (due : Due) (dues more : List Due)
      (at unsettled : ℕ) (ending : Ending) → grammar.reads.after basis due line ≡ go true more
      → Comes lines (more ++ dues) (at + 1) (count_with grammar.reads unsettled line) ending
      → Comes (line ∷ lines) (due ∷ dues) at unsettled ending
  comes_on line lines due dues more at unsettled ending goes
      (all_shown taken rest parts passed is) =
      all_shown (line ∷ taken) rest (ap (λ it. line ∷ it) parts) (more, goes, passed)
      (is ∙ ap (λ it. whole_at it (rows_with unsettled (line ∷ taken)))
      (omega arith))
  comes_on line lines due dues more at unsettled ending goes (refused place it is) =
      refused (place + 1)
      (record {
        before = line ∷ it.before;
        bad_one = it.bad_one;
        later = it.later;
        left = it.left;
        parts = ap (λ behind. line ∷ behind) it.parts;
        place = omega (arith, it.place);
        due = it.due;
        passed = (more, goes, it.passed);
        begins = begins_on due dues line true more it.before goes it.begins;
        ends =
            λ begins.
            let off = begins_off due dues line (it.before ++ it.bad_one ∷ []) begins in
            let P : List Due → Type 0 =
            λ left. Begins grammar basis (left ++ dues) (it.before ++ it.bad_one ∷ []) in
            it.ends (subst P (go-same off.0 true off.1 more (sym off.2 ∙ goes)).1 off.3);
      })
      (is ∙ ap bad_line (omega arith))
  comes_on line lines due dues more at unsettled ending goes (unshown place it is) =
      unshown (place + 1)
      (record {
        before = line ∷ it.before;
        unproved = it.unproved;
        later = it.later;
        due = it.due;
        left = it.left;
        more = it.more;
        parts = ap (λ behind. line ∷ behind) it.parts;
        place = omega (arith, it.place);
        passed = (more, goes, it.passed);
        fails = it.fails;
        begins = begins_on due dues line true more (it.before ++ it.unproved ∷ []) goes it.begins;
      })
      (is ∙ ap no_proof (omega arith))
  comes_on line lines due dues more at unsettled ending goes (missing it is) =
      missing
      (record {
        left = it.left;
        due = it.due;
        passed = (more, goes, it.passed);
        begins = begins_on due dues line true more lines goes it.begins;
      })
      is

  -- the first line
  comes_by : (line : Line) (lines : List Line) (due : Due) (dues : List Due) (at unsettled : ℕ)
      (rest : List Due → Ending) → ((more : List Due)
      → Comes lines (more ++ dues) (at + 1) (count_with grammar.reads unsettled line) (rest more))
      → (next : Next Due) → grammar.reads.after basis due line ≡ next
      → Comes (line ∷ lines) (due ∷ dues) at unsettled (by_next next at rest)
  comes_by line lines due dues at unsettled rest later bad is =
      refused 0
      (record {
        before = [];
        bad_one = line;
        later = lines;
        left = due ∷ dues;
        parts = refl;
        place = refl;
        due = omega arith;
        passed = refl;
        begins = all_some (due ∷ dues);
        ends =
            λ begins.
            let off = begins_off due dues line [] begins in
            bad-go off.0 off.1 (sym is ∙ off.2);
      })
      (ap bad_line (omega arith))
  comes_by line lines due dues at unsettled rest later (go false more) is =
      unshown 0
      (record {
        before = [];
        unproved = line;
        later = lines;
        due = due;
        left = dues;
        more = more;
        parts = refl;
        place = refl;
        passed = refl;
        fails = is;
        begins = begins_on due dues line false more [] is (all_some (more ++ dues));
      })
      (ap no_proof (omega arith))
  comes_by line lines due dues at unsettled rest later (go true more) is =
      comes_on line lines due dues more at unsettled (rest more) is (later more)

  -- each reading comes to what it comes to for one of these reasons
  comes : (lines : List Line) (dues : List Due) (at unsettled : ℕ)
      → Comes lines dues at unsettled (ending_by grammar.reads basis lines dues at unsettled)
  comes [] [] at unsettled =
      all_shown [] [] refl refl (ap (λ it. whole_at it unsettled) (omega arith))
  comes [] (due ∷ dues) at unsettled =
      missing
      (record {
        left = due ∷ dues;
        due = omega arith;
        passed = refl;
        begins = all_some (due ∷ dues);
      })
      refl
  comes (line ∷ lines) [] at unsettled =
      all_shown [] (line ∷ lines) refl refl (ap (λ it. whole_at it unsettled) (omega arith))
  comes (line ∷ lines) (due ∷ dues) at unsettled =
      let count = count_with grammar.reads unsettled line in
      comes_by line lines due dues at unsettled
      (λ more. ending_by grammar.reads basis lines (more ++ dues) (at + 1) count)
      (λ more. comes lines (more ++ dues) (at + 1) count) (grammar.reads.after basis due line) refl

  -- ---- the three stops

  -- a refused line does not fit
  pub bad_line_is : (lines : List Line) (dues : List Due) (at unsettled place : ℕ)
      → ending_by grammar.reads basis lines dues at unsettled ≡ bad_line (at + place)
      → IsBadLineAt grammar basis lines dues place
  bad_line_is lines dues at unsettled place ends =
      elim (comes lines dues at unsettled) [
        | all_shown taken rest parts passed is ↦ absurd cc
        | refused found it is ↦
            let same : at + found ≡ at + place = cc in
            subst (IsBadLineAt grammar basis lines dues) (omega (arith, same)) it
        | unshown found it is ↦ absurd cc
        | missing it is ↦ absurd cc
      ]

  -- a line that is named as no proof is the first that does not prove what it says
  pub no_proof_is : (lines : List Line) (dues : List Due) (at unsettled place : ℕ)
      → ending_by grammar.reads basis lines dues at unsettled ≡ no_proof (at + place)
      → IsUnprovedAt grammar basis lines dues place
  no_proof_is lines dues at unsettled place ends =
      elim (comes lines dues at unsettled) [
        | all_shown taken rest parts passed is ↦ absurd cc
        | refused found it is ↦ absurd cc
        | unshown found it is ↦
            let same : at + found ≡ at + place = cc in
            subst (IsUnprovedAt grammar basis lines dues) (omega (arith, same)) it
        | missing it is ↦ absurd cc
      ]

  -- if lines are said to be missing they are too few
  pub short_is : (lines : List Line) (dues : List Due) (at unsettled : ℕ)
      → ending_by grammar.reads basis lines dues at unsettled ≡ short
      → AreTooFew grammar basis lines dues
  short_is lines dues at unsettled ends =
      elim (comes lines dues at unsettled) [
        | all_shown taken rest parts passed is ↦ absurd cc
        | refused found it is ↦ absurd cc
        | unshown found it is ↦ absurd cc
        | missing it is ↦ it
      ]

  -- a line that does not fit is refused
  pub is_bad_line : (lines : List Line) (dues : List Due) (at unsettled place : ℕ)
      → IsBadLineAt grammar basis lines dues place
      → ending_by grammar.reads basis lines dues at unsettled ≡ bad_line (at + place)
  is_bad_line lines dues at unsettled place it =
      ap (λ all. ending_by grammar.reads basis all dues at unsettled) it.parts
      ∙ passes_on it.before (it.bad_one ∷ it.later) dues it.left at unsettled it.passed
      ∙ by_left it.left it.due
      (λ begins. it.ends (begins_through it.before (it.bad_one ∷ []) dues it.left it.passed
      begins))
      ∙ ap (λ number. bad_line (at + number)) (sym it.place)
    where
      count : ℕ
      count = rows_with unsettled it.before

      by_left : (left : List Due) → 0 < length left
          → (Begins grammar basis left (it.bad_one ∷ []) → ⊥)
          → ending_by grammar.reads basis (it.bad_one ∷ it.later) left (at + length it.before) count
          ≡ bad_line (at + length it.before)
      by_left [] some ends = absurd (omega arith)
      by_left (due ∷ dues) some ends = by_after (grammar.reads.after basis due it.bad_one) refl
        where
          by_after : (next : Next Due) → grammar.reads.after basis due it.bad_one ≡ next
              → by_next next (at + length it.before)
              (λ more. ending_by grammar.reads basis it.later (more ++ dues)
              (at + length it.before + 1)
              (count_with grammar.reads count it.bad_one))
              ≡ bad_line (at + length it.before)
          by_after bad is = refl
          by_after (go holds more) is =
              absurd (ends (begins_on due dues it.bad_one holds more [] is
              (all_some (more ++ dues))))

  -- the first line that does not prove what it says is named
  pub is_no_proof : (lines : List Line) (dues : List Due) (at unsettled place : ℕ)
      → IsUnprovedAt grammar basis lines dues place
      → ending_by grammar.reads basis lines dues at unsettled ≡ no_proof (at + place)
  is_no_proof lines dues at unsettled place it =
      let count = rows_with unsettled it.before in
      ap (λ all. ending_by grammar.reads basis all dues at unsettled) it.parts
      ∙ passes_on it.before (it.unproved ∷ it.later) dues (it.due ∷ it.left) at unsettled
      it.passed
      ∙ ap (λ next. by_next next (at + length it.before)
      (λ more. ending_by grammar.reads basis it.later (more ++ it.left) (at + length it.before + 1)
      (count_with grammar.reads count it.unproved))) it.fails
      ∙ ap (λ number. no_proof (at + number)) (sym it.place)

  -- if they are too few this is said
  pub is_short : (lines : List Line) (dues : List Due) (at unsettled : ℕ)
      → AreTooFew grammar basis lines dues
      → ending_by grammar.reads basis lines dues at unsettled ≡ short
  is_short lines dues at unsettled few =
      ap (λ all. ending_by grammar.reads basis all dues at unsettled) (sym (append-nil lines))
      ∙ passes_on lines [] dues few.left at unsettled few.passed ∙ by_left few.left few.due
    where
      by_left : (left : List Due) → 0 < length left
          → ending_by grammar.reads basis [] left (at + length lines)
          (rows_with unsettled lines) ≡ short
      by_left [] some = absurd (omega arith)
      by_left (due ∷ dues) some = refl

  -- ---- what is accepted

  -- what is read as whole is proved
  pub taken_is_proved : (lines : List Line) (dues : List Due) (at unsettled to found : ℕ)
      → ending_by grammar.reads basis lines dues at unsettled ≡ whole_at to found
      → (taken : List Line) × (rest : List Line) × (lines ≡ taken ++ rest)
      × (to ≡ at + length taken) × (found ≡ rows_with unsettled taken)
      × AreAllParts grammar true basis dues (filter grammar.counts taken)
  taken_is_proved lines dues at unsettled to found ends =
      taken_shows grammar basis (λ line. Unit {0})
      (record {
        joins = λ due line more later is_read counted goes parts.
            agrees.joins true due line true more later counted goes (λ _. refl) parts;
        passed = agrees.passed;
      }) lines dues at unsettled to found (λ index other inside. tt) ends

  -- of lines none of which counts the first does not
  first_passed : (line : Line) (lines : List Line) → filter grammar.counts (line ∷ lines) ≡ []
      → (grammar.counts line ≡ false) × (filter grammar.counts lines ≡ [])
  first_passed line lines = by_test (grammar.counts line) refl
    where
      by_test : (test : Bool) → grammar.counts line ≡ test
          → (if test then line ∷ filter grammar.counts lines else filter grammar.counts lines) ≡ []
          → (grammar.counts line ≡ false) × (filter grammar.counts lines ≡ [])
      by_test true is none = absurd cc
      by_test false is none = (is, none)

  -- lines without any that counts have no unsettled row
  none_counted : (lines : List Line) (unsettled : ℕ) → filter grammar.counts lines ≡ []
      → rows_with unsettled lines ≡ unsettled
  none_counted [] unsettled none = refl
  none_counted (line ∷ lines) unsettled none =
      let first = first_passed line lines none in
      ap (λ it. rows_with (if it then unsettled + 1 else unsettled) lines)
      (agrees.no_row line first.0)
      ∙ none_counted lines unsettled first.1

  -- none of them counts, so not all do if there is one
  not_all : (lines : List Line) → filter grammar.counts lines ≡ []
      → list_all grammar.counts lines ≡ true → length lines ≡ 0
  not_all [] none all = refl
  not_all (line ∷ lines) none all =
      absurd (false≢true (sym (first_passed line lines none).0
      ∙ (and_parts (grammar.counts line) (list_all grammar.counts lines) all).0))

  -- proved lines are read as whole
  abbrev pub IsRead : List Line → List Line → List Due → ℕ → ℕ → Type 0
  IsRead taken rest dues at unsettled =
      (to : ℕ) × (ending_by grammar.reads basis (taken ++ rest) dues at unsettled
      ≡ whole_at to (rows_with unsettled taken))
      × (to ≤ at + length taken)
      × (list_all grammar.counts taken ≡ true → to ≡ at + length taken)

  -- parts for something due are not without a line
  no_lines : (due : Due) (dues : List Due)
      → AreAllParts grammar true basis (due ∷ dues) [] → ⊥
  no_lines due dues parts =
      let first = agrees.starts true due parts.0 parts.2 in
      nil_not first.0 (first.1 ++ parts.1)
      (parts.4 ∙ ap (λ it. it ++ parts.1) first.4)
    where
      nil_not : (line : Line) (lines : List Line) → [] ≡ line ∷ lines → ⊥
      nil_not line lines same = cc

  -- if nothing is due the reading ends
  read_none : (taken rest : List Line) (at unsettled : ℕ)
      → filter grammar.counts taken ≡ [] → IsRead taken rest [] at unsettled
  read_none taken rest at unsettled none = (
    at,
    nothing_due grammar.reads basis (taken ++ rest) at unsettled
        ∙ ap (whole_at at) (sym (none_counted taken unsettled none)),
    omega arith,
    λ all. omega (arith, not_all taken none all),
  )

  -- proved lines are read as whole, whatever follows
  pub proved_is_taken : (taken rest : List Line) (dues : List Due)
      (at unsettled : ℕ) → AreAllParts grammar true basis dues (filter grammar.counts taken)
      → IsRead taken rest dues at unsettled
  proved_is_taken taken rest [] at unsettled parts =
      read_none taken rest at unsettled parts
  proved_is_taken [] rest (due ∷ dues) at unsettled parts =
      absurd (no_lines due dues parts)
  proved_is_taken (line ∷ taken) rest (due ∷ dues) at unsettled parts =
      let P : List Line → Type 0 = λ it. AreAllParts grammar true basis (due ∷ dues) it in
      let first = part_line true due dues line taken []
      (subst P (sym (append-nil (filter grammar.counts (line ∷ taken)))) parts) in
      let Q : List Line → Type 0 = λ it. AreAllParts grammar true basis (first.1 ++ dues) it in
      let later = proved_is_taken taken rest (first.1 ++ dues) (at + 1)
      (count_with grammar.reads unsettled line)
      (subst Q (append-nil (filter grammar.counts taken)) first.4) in (
        later.0,
        ap (λ next. by_next next at
            (λ more. ending_by grammar.reads basis (taken ++ rest) (more ++ dues) (at + 1)
            (count_with grammar.reads unsettled line)))
            (first.2 ∙ ap (λ it. go it first.1) (first.3 refl)) ∙ later.1,
        omega (arith, later.2),
        λ all.
            let ends = later.3 (and_parts (grammar.counts line) (list_all grammar.counts taken)
            all).1 in
            omega (arith, ends),
      )
