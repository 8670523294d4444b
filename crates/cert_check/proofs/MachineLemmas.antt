-- A reading over any grammar falls into its grammar and its proofs, and lists of what is due are
-- read one after another.
use Rattle.std.proofs.Common.{◌≡◌, ℕ, ◌+◌, List, [], ◌∷◌, ◌++◌, drop, Option, Some, None}
use Rattle.std.proofs.Common.{true, false, refl, sym, ap, ◌∙◌, append_assoc, drop-drop}
use Rattle.std.proofs.Common.{if◌then◌else◌}
use Rattle.cert_check.specs.LineGrammars.{Next, bad, go, LineGrammar, Ending, whole_at, bad_line}
use Rattle.cert_check.specs.LineGrammars.{no_proof, short, by_next, ending_by}
use Rattle.cert_check.specs.inside.Pieces.{believed, believing, unproved_in, first_stop, go_on_by}

-- ---- going on

-- where the rest is the same, so is what is read
pub go_on_same : (ending : Ending) (rest other : ℕ → ℕ → Ending)
    → ((to count : ℕ) → rest to count ≡ other to count)
    → go_on_by ending rest ≡ go_on_by ending other
go_on_same (whole_at to count) rest other same = same to count
go_on_same (bad_line at) rest other same = refl
go_on_same (no_proof at) rest other same = refl
go_on_same short rest other same = refl

-- what goes on twice goes on once
pub go_on_twice : (ending : Ending) (rest later : ℕ → ℕ → Ending)
    → go_on_by (go_on_by ending rest) later
    ≡ go_on_by ending (λ to count. go_on_by (rest to count) later)
go_on_twice (whole_at to count) rest later = refl
go_on_twice (bad_line at) rest later = refl
go_on_twice (no_proof at) rest later = refl
go_on_twice short rest later = refl

-- the line that is put before an ending without one is the one that it names
named : (found : Option ℕ) (ending : Ending) → unproved_in ending ≡ None
    → unproved_in (first_stop found ending) ≡ found
named None ending none = none
named (Some at) ending none = refl

-- ---- one line

module _ {Due : Type 0} where
  -- the line where it is no proof, or one behind it
  abbrev pub unproved_by : Next Due → ℕ → (List Due → Option ℕ) → Option ℕ
  unproved_by bad at rest = None
  unproved_by (go false dues) at rest = Some at
  unproved_by (go true dues) at rest = rest dues

  -- one line splits the reading into grammar and proofs where the rest does
  step_splits : (next : Next Due) (at : ℕ) (ending grammar : List Due → Ending)
      (found : List Due → Option ℕ)
      → ((more : List Due) → ending more ≡ first_stop (found more) (grammar more))
      → by_next next at ending
      ≡ first_stop (unproved_by next at found) (by_next (believed next) at grammar)
  step_splits bad at ending grammar found same = refl
  step_splits (go false more) at ending grammar found same = refl
  step_splits (go true more) at ending grammar found same = same more

  -- one line that is believed is no stop of proofs where none is behind it
  step_believed : (next : Next Due) (at : ℕ) (grammar : List Due → Ending)
      → ((more : List Due) → unproved_in (grammar more) ≡ None)
      → unproved_in (by_next (believed next) at grammar) ≡ None
  step_believed bad at grammar none = refl
  step_believed (go holds more) at grammar none = none more

  -- one line of a reading of two lists
  step_goes_on : (next : Next Due) (at : ℕ) (whole part : List Due → Ending)
      (rest : ℕ → ℕ → Ending) → ((more : List Due) → whole more ≡ go_on_by (part more) rest)
      → by_next next at whole ≡ go_on_by (by_next next at part) rest
  step_goes_on bad at whole part rest same = refl
  step_goes_on (go false more) at whole part rest same = refl
  step_goes_on (go true more) at whole part rest same = same more

-- ---- lines

-- so many unsettled rows with this line
abbrev pub count_with : {Basis Line Due : Type 0} → LineGrammar Basis Line Due → ℕ → Line → ℕ
count_with grammar unsettled line = if grammar.is_unsettled line then unsettled + 1 else unsettled

module _ {Basis Line Due : Type 0} (grammar : LineGrammar Basis Line Due) (basis : Basis) where
  -- if nothing is due the reading ends
  pub nothing_due : (lines : List Line) (at unsettled : ℕ)
      → ending_by grammar basis lines [] at unsettled ≡ whole_at at unsettled
  nothing_due [] at unsettled = refl
  nothing_due (line ∷ lines) at unsettled = refl

  -- the first line that is no proof
  abbrev pub first_unproved : List Line → List Due → ℕ → Option ℕ
  first_unproved [] dues at = None
  first_unproved (line ∷ lines) [] at = None
  first_unproved (line ∷ lines) (due ∷ dues) at =
      unproved_by (grammar.after basis due line) at
      (λ more. first_unproved lines (more ++ dues) (at + 1))

  -- what lines come to is their first line that is no proof, else what the grammar says
  pub splits : (lines : List Line) (dues : List Due) (at unsettled : ℕ)
      → ending_by grammar basis lines dues at unsettled
      ≡ first_stop (first_unproved lines dues at)
      (ending_by (believing grammar) basis lines dues at unsettled)
  splits [] [] at unsettled = refl
  splits [] (due ∷ dues) at unsettled = refl
  splits (line ∷ lines) [] at unsettled = refl
  splits (line ∷ lines) (due ∷ dues) at unsettled =
      let count = count_with grammar unsettled line in
      step_splits (grammar.after basis due line) at
      (λ more. ending_by grammar basis lines (more ++ dues) (at + 1) count)
      (λ more. ending_by (believing grammar) basis lines (more ++ dues) (at + 1) count)
      (λ more. first_unproved lines (more ++ dues) (at + 1))
      (λ more. splits lines (more ++ dues) (at + 1) count)

  -- the grammar alone names no line as no proof
  pub grammar_believes : (lines : List Line) (dues : List Due) (at unsettled : ℕ)
      → unproved_in (ending_by (believing grammar) basis lines dues at unsettled) ≡ None
  grammar_believes [] [] at unsettled = refl
  grammar_believes [] (due ∷ dues) at unsettled = refl
  grammar_believes (line ∷ lines) [] at unsettled = refl
  grammar_believes (line ∷ lines) (due ∷ dues) at unsettled =
      let count = count_with grammar unsettled line in
      step_believed (grammar.after basis due line) at
      (λ more. ending_by (believing grammar) basis lines (more ++ dues) (at + 1) count)
      (λ more. grammar_believes lines (more ++ dues) (at + 1) count)

  -- the line that a reading names does not depend on what was counted before
  pub named_alone : (lines : List Line) (dues : List Due) (at unsettled : ℕ)
      → unproved_in (ending_by grammar basis lines dues at unsettled) ≡ first_unproved lines dues at
  named_alone lines dues at unsettled =
      ap unproved_in (splits lines dues at unsettled)
      ∙ named (first_unproved lines dues at)
      (ending_by (believing grammar) basis lines dues at unsettled)
      (grammar_believes lines dues at unsettled)

  -- two lists of things due are read one after another, where these lines are there
  goes_on_at : (all lines : List Line) (first later : List Due) (at unsettled : ℕ)
      → drop at all ≡ lines
      → ending_by grammar basis lines (first ++ later) at unsettled
      ≡ go_on_by (ending_by grammar basis lines first at unsettled)
      (λ to found. ending_by grammar basis (drop to all) later to found)
  goes_on_at all [] [] later at unsettled there =
      ap (λ it. ending_by grammar basis it later at unsettled) (sym there)
  goes_on_at all (line ∷ lines) [] later at unsettled there =
      ap (λ it. ending_by grammar basis it later at unsettled) (sym there)
  goes_on_at all [] (due ∷ dues) later at unsettled there = refl
  goes_on_at all (line ∷ lines) (due ∷ dues) later at unsettled there =
      let count = count_with grammar unsettled line in
      let next : drop (at + 1) all ≡ lines =
      sym (drop-drop 1 at all) ∙ ap (λ it. drop 1 it) there in
      step_goes_on (grammar.after basis due line) at
      (λ more. ending_by grammar basis lines (more ++ (dues ++ later)) (at + 1) count)
      (λ more. ending_by grammar basis lines (more ++ dues) (at + 1) count)
      (λ to found. ending_by grammar basis (drop to all) later to found)
      (λ more. ap (λ it. ending_by grammar basis lines it (at + 1) count)
      (sym (append_assoc more dues later))
      ∙ goes_on_at all lines (more ++ dues) later (at + 1) count next)

  -- two lists of things due are read one after another
  pub goes_on : (all : List Line) (first later : List Due) (at unsettled : ℕ)
      → ending_by grammar basis (drop at all) (first ++ later) at unsettled
      ≡ go_on_by (ending_by grammar basis (drop at all) first at unsettled)
      (λ to found. ending_by grammar basis (drop to all) later to found)
  goes_on all first later at unsettled =
      goes_on_at all (drop at all) first later at unsettled refl

  -- where nothing is no proof, the grammar says what the reading says
  pub grammar_where_proved : (lines : List Line) (dues : List Due) (at unsettled : ℕ)
      → unproved_in (ending_by grammar basis lines dues at unsettled) ≡ None
      → ending_by (believing grammar) basis lines dues at unsettled
      ≡ ending_by grammar basis lines dues at unsettled
  grammar_where_proved lines dues at unsettled proved =
      by_found (first_unproved lines dues at)
      (sym (named_alone lines dues at unsettled) ∙ proved) (splits lines dues at unsettled)
    where
      by_found : (found : Option ℕ) → found ≡ None
          → ending_by grammar basis lines dues at unsettled
          ≡ first_stop found (ending_by (believing grammar) basis lines dues at unsettled)
          → ending_by (believing grammar) basis lines dues at unsettled
          ≡ ending_by grammar basis lines dues at unsettled
      by_found None none same = sym same
      by_found (Some place) none same = absurd cc
