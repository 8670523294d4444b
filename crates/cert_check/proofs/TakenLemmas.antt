-- A reading over any grammar that is whole: if each line that goes on joins what its rest shows,
-- the lines that were taken show all that was due.
use Rattle.std.proofs.Common.{◌≡◌, ℕ, ◌+◌, Bool, true, false, List, [], ◌∷◌, ◌++◌, length}
use Rattle.std.proofs.Common.{refl, sym, ap, ◌∙◌, subst, arith}
use Rattle.std.specs.Prelude.{All, filter, if◌then◌else◌}
use Rattle.std.proofs.lemmas.List.Elements.{All-head, All-tail}
use Rattle.cert_check.specs.LineGrammars.{Next, bad, go, Ending, whole_at, by_next, ending_by}
use Rattle.cert_check.specs.inside.LineParts.{PartGrammar, AreAllParts, unsettled_with}
use Rattle.cert_check.proofs.MachineLemmas.{count_with}
use Rattle.cert_check.proofs.NextLemmas.{go-same, parts-split}

module _ {Basis Line Due : Type 0} (grammar : PartGrammar Basis Line Due) (basis : Basis)
    (IsRead : Line → Type 0) where
  -- a line that counts and goes on shows what is due with what its rest shows, and a line that does
  -- not count leaves it due
  pub record JoinsParts : Type 0 where
    pub joins : (due : Due) (line : Line) (more : List Due) (lines : List Line) → IsRead line
        → grammar.counts line ≡ true → grammar.reads.after basis due line ≡ go true more
        → AreAllParts grammar true basis more lines
        → grammar.IsPart true basis due (line ∷ lines)
    pub passed : (due : Due) (line : Line) → grammar.counts line ≡ false
        → grammar.reads.after basis due line ≡ go true (due ∷ [])

  -- lines that show what is due, from one position up to another, with the unsettled rows before
  -- them and with those among them
  abbrev pub AreTaken : List Line → List Due → ℕ → ℕ → ℕ → ℕ → Type 0
  AreTaken lines dues at unsettled to found =
      (taken : List Line) × (rest : List Line) × (lines ≡ taken ++ rest)
      × (to ≡ at + length taken)
      × (found ≡ unsettled_with grammar.reads.is_unsettled unsettled taken)
      × AreAllParts grammar true basis dues (filter grammar.counts taken)

module _ {Basis Line Due : Type 0} (grammar : PartGrammar Basis Line Due) (basis : Basis)
    (IsRead : Line → Type 0) (agrees : JoinsParts grammar basis IsRead) where
  -- one line before lines that show what it leaves due
  join_taken : (due : Due) (dues : List Due) (line : Line) (more : List Due) (lines : List Line)
      → IsRead line → grammar.reads.after basis due line ≡ go true more
      → AreAllParts grammar true basis (more ++ dues) (filter grammar.counts lines)
      → AreAllParts grammar true basis (due ∷ dues) (filter grammar.counts (line ∷ lines))
  join_taken due dues line more lines is_read goes parts = by_test (grammar.counts line) refl
    where
      kept : List Line
      kept = filter grammar.counts lines

      by_test : (test : Bool) → grammar.counts line ≡ test
          → AreAllParts grammar true basis (due ∷ dues) (if test then line ∷ kept else kept)
      by_test true counted =
          let two = parts-split grammar true basis more dues kept parts in (
            line ∷ two.0,
            two.1,
            agrees.joins due line more two.0 is_read counted goes two.2,
            two.3,
            ap (λ it. line ∷ it) two.4,
          )
      by_test false passes =
          let same = go-same true true (due ∷ []) more
          (sym (agrees.passed due line passes) ∙ goes) in
          let P : List Due → Type 0 = λ it. AreAllParts grammar true basis (it ++ dues) kept in
          subst P (sym same.1) parts

  -- by what the first line comes to
  taken_by : (line : Line) (lines : List Line) (due : Due) (dues : List Due)
      (at unsettled to found : ℕ) (rest : List Due → Ending) → IsRead line
      → ((more : List Due) → rest more ≡ whole_at to found
      → AreTaken grammar basis IsRead lines (more ++ dues) (at + 1)
      (count_with grammar.reads unsettled line) to found)
      → (next : Next Due) → grammar.reads.after basis due line ≡ next
      → by_next next at rest ≡ whole_at to found
      → AreTaken grammar basis IsRead (line ∷ lines) (due ∷ dues) at unsettled to found
  taken_by line lines due dues at unsettled to found rest is_read later bad is ends = absurd cc
  taken_by line lines due dues at unsettled to found rest is_read later (go false more) is ends =
      absurd cc
  taken_by line lines due dues at unsettled to found rest is_read later (go true more) is ends =
      let behind = later more ends in (
        line ∷ behind.0,
        behind.1,
        ap (λ it. line ∷ it) behind.2,
        omega (arith, behind.3),
        behind.4,
        join_taken due dues line more behind.0 is_read is behind.5,
      )

  -- what is read as whole shows what was due
  pub taken_shows : (lines : List Line) (dues : List Due) (at unsettled to found : ℕ)
      → All IsRead lines
      → ending_by grammar.reads basis lines dues at unsettled ≡ whole_at to found
      → AreTaken grammar basis IsRead lines dues at unsettled to found
  taken_shows [] [] at unsettled to found are ends =
      let same : at ≡ to = cc in
      let count : found ≡ unsettled = cc in ([], [], refl, omega (arith, same), count, refl)
  taken_shows [] (due ∷ dues) at unsettled to found are ends = absurd cc
  taken_shows (line ∷ lines) [] at unsettled to found are ends =
      let same : at ≡ to = cc in
      let count : found ≡ unsettled = cc in
      ([], line ∷ lines, refl, omega (arith, same), count, refl)
  taken_shows (line ∷ lines) (due ∷ dues) at unsettled to found are ends =
      let count = count_with grammar.reads unsettled line in
      taken_by line lines due dues at unsettled to found
      (λ more. ending_by grammar.reads basis lines (more ++ dues) (at + 1) count)
      (All-head IsRead line lines are)
      (λ more. taken_shows lines (more ++ dues) (at + 1) count to found
      (All-tail IsRead line lines are))
      (grammar.reads.after basis due line) refl ends
