-- Lines read one by one, over any grammar: at each line there is a list of what must come yet, and
-- the line takes the first of them off, is refused, or proves nothing.
use Rattle.std.specs.Prelude.{ℕ, ◌+◌, Bool, true, false, List, [], ◌∷◌, ◌++◌, if◌then◌else◌}

-- a line when something is due: it may not come there; or it may, it proves what it says or does
-- not, and other things are due in its place
pub data Next (Due : Type 0) : Type 0 where
  bad : Next Due
  go : Bool → List Due → Next Due

-- a grammar: by what a part is judged, what each line makes of the first thing due; and which lines
-- are rows of unsettled clubs
pub record LineGrammar (Basis Line Due : Type 0) : Type 0 where
  pub after : Basis → Due → Line → Next Due
  pub is_unsettled : Line → Bool

-- what a report comes to: it is whole before this position, with so many unsettled rows; or the
-- line at this position may not come there; or it does not prove what it says; or lines are missing
pub data Ending : Type 0 where
  whole_at : ℕ → ℕ → Ending
  bad_line : ℕ → Ending
  no_proof : ℕ → Ending
  short : Ending

-- what a line comes to, and if the report goes on, what the rest of it comes to
abbrev pub by_next : {Due : Type 0} → Next Due → ℕ → (List Due → Ending) → Ending
by_next bad at rest = bad_line at
by_next (go false dues) at rest = no_proof at
by_next (go true dues) at rest = rest dues

-- what the lines from a position on come to if this is due, with so many unsettled rows so far
abbrev pub ending_by : {Basis Line Due : Type 0} → LineGrammar Basis Line Due → Basis
    → List Line → List Due → ℕ → ℕ → Ending
ending_by grammar basis [] [] at unsettled = whole_at at unsettled
ending_by grammar basis [] (due ∷ dues) at unsettled = short
ending_by grammar basis (line ∷ lines) [] at unsettled = whole_at at unsettled
ending_by grammar basis (line ∷ lines) (due ∷ dues) at unsettled =
    by_next (grammar.after basis due line) at
    (λ more. ending_by grammar basis lines (more ++ dues) (at + 1)
    (if grammar.is_unsettled line then unsettled + 1 else unsettled))
