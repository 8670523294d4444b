-- What a reading over any grammar counts: lines, and rows of unsettled clubs.
use Rattle.std.proofs.Common.{◌≡◌, ◌≤◌, ℕ, ◌+◌, Bool, true, false, List, [], ◌∷◌, ◌++◌, length}
use Rattle.std.proofs.Common.{refl, ap, ◌∙◌, arith, length-append, if◌then◌else◌}
use Rattle.std.proofs.lemmas.Bool.{false≢true}
use Rattle.cert_check.specs.LineGrammars.{Next, bad, go, LineGrammar, Ending, whole_at, bad_line}
use Rattle.cert_check.specs.LineGrammars.{no_proof, short, by_next, ending_by}
use Rattle.cert_check.proofs.MachineLemmas.{count_with}

-- one more unsettled row at most
one_more : (unsettled : ℕ) (is : Bool)
    → (if is then unsettled + 1 else unsettled) ≤ unsettled + 1
one_more unsettled true = omega arith
one_more unsettled false = omega arith

-- more unsettled rows before
abbrev pub with_more : ℕ → Ending → Ending
with_more more (whole_at at unsettled) = whole_at at (more + unsettled)
with_more more (bad_line at) = bad_line at
with_more more (no_proof at) = no_proof at
with_more more short = short

one_shifted : (more unsettled : ℕ) (is : Bool)
    → (if is then more + unsettled + 1 else more + unsettled)
    ≡ more + (if is then unsettled + 1 else unsettled)
one_shifted more unsettled true = omega arith
one_shifted more unsettled false = refl

step_shifted : {Due : Type 0} (next : Next Due) (at more : ℕ) (far near : List Due → Ending)
    → ((dues : List Due) → far dues ≡ with_more more (near dues))
    → by_next next at far ≡ with_more more (by_next next at near)
step_shifted bad at more far near same = refl
step_shifted (go false dues) at more far near same = refl
step_shifted (go true dues) at more far near same = same dues

-- where a whole report ends, and what it counts
abbrev next_in : Ending → ℕ
next_in (whole_at at unsettled) = at
next_in _ = 0

abbrev unsettled_in : Ending → ℕ
unsettled_in (whole_at at unsettled) = unsettled
unsettled_in _ = 0

abbrev is_whole : Ending → Bool
is_whole (whole_at at unsettled) = true
is_whole _ = false

module _ {Basis Line Due : Type 0} (grammar : LineGrammar Basis Line Due) (basis : Basis) where
  -- what was counted before is counted still
  pub ending_shifted : (lines : List Line) (dues : List Due) (at more unsettled : ℕ)
      → ending_by grammar basis lines dues at (more + unsettled)
      ≡ with_more more (ending_by grammar basis lines dues at unsettled)
  ending_shifted [] [] at more unsettled = refl
  ending_shifted [] (due ∷ dues) at more unsettled = refl
  ending_shifted (line ∷ lines) [] at more unsettled = refl
  ending_shifted (line ∷ lines) (due ∷ dues) at more unsettled =
      let count = count_with grammar unsettled line in
      step_shifted (grammar.after basis due line) at more
      (λ rest. ending_by grammar basis lines (rest ++ dues) (at + 1)
      (count_with grammar (more + unsettled) line))
      (λ rest. ending_by grammar basis lines (rest ++ dues) (at + 1) count)
      (λ rest. ap (ending_by grammar basis lines (rest ++ dues) (at + 1))
      (one_shifted more unsettled (grammar.is_unsettled line))
      ∙ ending_shifted lines (rest ++ dues) (at + 1) more count)

  -- one line
  takes_by : (line : Line) (lines : List Line) (dues : List Due) (at unsettled next count : ℕ)
      (found : Next Due)
      → ((more : List Due) → ending_by grammar basis lines (more ++ dues) (at + 1)
      (count_with grammar unsettled line) ≡ whole_at next count
      → (at + 1 + length (more ++ dues) ≤ next)
      × (at + 1 + count ≤ count_with grammar unsettled line + next))
      → by_next found at (λ more. ending_by grammar basis lines (more ++ dues) (at + 1)
      (count_with grammar unsettled line)) ≡ whole_at next count
      → (at + (length dues + 1) ≤ next) × (at + count ≤ unsettled + next)
  takes_by line lines dues at unsettled next count bad rest ends =
      absurd (false≢true (ap is_whole ends))
  takes_by line lines dues at unsettled next count (go false more) rest ends =
      absurd (false≢true (ap is_whole ends))
  takes_by line lines dues at unsettled next count (go true more) rest ends =
      let taken = rest more ends in (
        omega (arith, taken.0, length-append more dues),
        omega (arith, taken.1, one_more unsettled (grammar.is_unsettled line)),
      )

  -- each thing due takes a line at least, and each unsettled row takes one
  pub takes_lines : (lines : List Line) (dues : List Due) (at unsettled next count : ℕ)
      → ending_by grammar basis lines dues at unsettled ≡ whole_at next count
      → (at + length dues ≤ next) × (at + count ≤ unsettled + next)
  takes_lines [] [] at unsettled next count is =
      (omega (arith, ap next_in is), omega (arith, ap next_in is, ap unsettled_in is))
  takes_lines [] (due ∷ dues) at unsettled next count is =
      absurd (false≢true (ap is_whole is))
  takes_lines (line ∷ lines) [] at unsettled next count is =
      (omega (arith, ap next_in is), omega (arith, ap next_in is, ap unsettled_in is))
  takes_lines (line ∷ lines) (due ∷ dues) at unsettled next count is =
      let taken = takes_by line lines dues at unsettled next count (grammar.after basis due line)
      (λ more. takes_lines lines (more ++ dues) (at + 1) (count_with grammar unsettled line) next
      count) is in
      (omega (arith, taken.0), taken.1)
