-- What it means, over any grammar, that a call reads what is due: it leaves the rest to be read
-- from where it stops, whatever else is due; or the reading stops.
use Rattle.std.specs.Prelude.{◌≡◌, ◌<◌, ◌≤◌, ℕ, ◌+◌, ◌^◌, Bool, true, false, List, [], ◌∷◌, ◌++◌}
use Rattle.std.specs.Prelude.{length, drop, Result, Ok, Err}
use Rattle.kept_lines.specs.LineLists.{NumberedLine, line_number_at}
use Rattle.cert_check.specs.declared.item.PartRead.{PartRead}
use Rattle.cert_check.specs.declared.stop.Accepted.{Accepted}
use Rattle.cert_check.specs.declared.stop.CheckStop.{CheckStop}
use Rattle.cert_check.specs.declared.stop.CheckStop.TheVariants as stop
use Rattle.cert_check.specs.declared.stop.CheckStopAt.{CheckStopAt}
use Rattle.cert_check.specs.declared.stop.CheckStopAt.TheVariants as halt
use Rattle.cert_check.specs.LineGrammars.{LineGrammar, Next, bad, go, Ending, whole_at, bad_line}
use Rattle.cert_check.specs.LineGrammars.{no_proof, short, by_next, ending_by}

-- what is judged: by what, and which lines
pub record LinesView (Basis Line : Type 0) : Type 0 where
  pub basis : Basis
  pub tokens : List Line

-- what the lines from a position on come to, if this is due
abbrev pub rest_ending : {Basis Line Due : Type 0} → LineGrammar Basis Line Due
    → LinesView Basis Line → ℕ → List Due → ℕ → Ending
rest_ending grammar judged from dues unsettled =
    ending_by grammar judged.basis (drop from judged.tokens) dues from unsettled

-- a reading of so many lines stops so, whatever else is due
abbrev pub HaltsReading : {Due : Type 0} → ℕ → (List Due → ℕ → Ending) → CheckStopAt → Type 0
HaltsReading {Due} lines reading (halt.BadLine at) =
    (at < lines) × ((dues : List Due) (unsettled : ℕ) → reading dues unsettled ≡ bad_line at)
HaltsReading {Due} lines reading (halt.NoProof at) =
    (at < lines) × ((dues : List Due) (unsettled : ℕ) → reading dues unsettled ≡ no_proof at)
HaltsReading {Due} lines reading halt.Short =
    (dues : List Due) (unsettled : ℕ) → reading dues unsettled ≡ short
HaltsReading lines reading halt.OutOfMemory = Unit {0}

-- the position from which the rest is read; or why the reading stops
abbrev pub GoesOnReading : {Basis Line Due : Type 0} → LineGrammar Basis Line Due
    → LinesView Basis Line → (List Due → ℕ → Ending) → Result ℕ CheckStopAt → Type 0
GoesOnReading {Basis} {Line} {Due} grammar judged reading (Ok at) =
    (at ≤ length judged.tokens)
    × ((dues : List Due) (unsettled : ℕ)
    → reading dues unsettled ≡ rest_ending grammar judged at dues unsettled)
GoesOnReading grammar judged reading (Err stop) =
    HaltsReading (length judged.tokens) reading stop

-- ---- the next line

-- the next line that counts, with what is known of such a line; what it leaves of a thing due, and
-- how many rows it counts, being given
pub record IsNextLine {Basis Line Due : Type 0} (grammar : LineGrammar Basis Line Due)
    (IsCounted : Line → Type 0) (after : Basis → Due → Line → Next Due) (count : ℕ → Line → ℕ)
    (judged : LinesView Basis Line) (from at : ℕ) (line : Line) : Type 0
  where
    pub behind : from ≤ at
    pub within : at < length judged.tokens
    pub fits : at + 1 < 2 ^ 64
    pub there : drop at judged.tokens ≡ line ∷ drop (at + 1) judged.tokens
    pub counted : IsCounted line
    pub reads : (due : Due) (dues : List Due) (unsettled : ℕ)
        → rest_ending grammar judged from (due ∷ dues) unsettled
        ≡ by_next (after judged.basis due line) at
        (λ more. rest_ending grammar judged (at + 1) (more ++ dues) (count unsettled line))

-- a call that looks for the next line that counts: there is none if lines are missing
abbrev pub FindsNextLine : {Basis Line Due : Type 0} → LineGrammar Basis Line Due
    → (Line → Type 0) → (Basis → Due → Line → Next Due) → (ℕ → Line → ℕ)
    → LinesView Basis Line → ℕ → Result (ℕ × Line) CheckStopAt → Type 0
FindsNextLine grammar IsCounted after count judged from (Ok found) =
    IsNextLine grammar IsCounted after count judged from found.0 found.1
FindsNextLine {Basis} {Line} {Due} grammar IsCounted after count judged from (Err halt.Short) =
    (due : Due) (dues : List Due) (unsettled : ℕ)
    → rest_ending grammar judged from (due ∷ dues) unsettled ≡ short
FindsNextLine grammar IsCounted after count judged from (Err halt.OutOfMemory) = Unit {0}
FindsNextLine grammar IsCounted after count judged from (Err (halt.BadLine at)) = ⊥
FindsNextLine grammar IsCounted after count judged from (Err (halt.NoProof at)) = ⊥

-- what a call says of a node: true if it ends its tree, false if nodes are due after it
abbrev pub NodeSays : {Due : Type 0} → Next Due → ℕ → Due → Result Bool CheckStopAt → Type 0
NodeSays next at due (Ok true) = next ≡ go true []
NodeSays next at due (Ok false) = next ≡ go true (due ∷ [])
NodeSays next at due (Err (halt.BadLine place)) = (place ≡ at) × (next ≡ bad)
NodeSays {Due} next at due (Err (halt.NoProof place)) =
    (place ≡ at) × ((more : List Due) × (next ≡ go false more))
NodeSays next at due (Err halt.Short) = ⊥
NodeSays next at due (Err halt.OutOfMemory) = Unit {0}

-- ---- one thing due

-- the reading stops so, whatever else is due
abbrev pub HaltsBy : {Basis Line Due : Type 0} → LineGrammar Basis Line Due
    → LinesView Basis Line → ℕ → Due → CheckStopAt → Type 0
HaltsBy grammar judged from due stop =
    HaltsReading (length judged.tokens) (λ dues. rest_ending grammar judged from (due ∷ dues)) stop

-- the position from which the rest is read, if what was due is shown; or why the reading stops
abbrev pub GoesBy : {Basis Line Due : Type 0} → LineGrammar Basis Line Due
    → LinesView Basis Line → ℕ → Due → Result ℕ CheckStopAt → Type 0
GoesBy grammar judged from due result =
    GoesOnReading grammar judged (λ dues. rest_ending grammar judged from (due ∷ dues)) result

-- what is found in the place of what was due says what else is due, and how many rows it counts
abbrev pub GoesByFound : {Basis Line Due Found : Type 0} → LineGrammar Basis Line Due
    → LinesView Basis Line → ℕ → Due → (Found → List Due) → (Found → ℕ)
    → Result (ℕ × Found) CheckStopAt → Type 0
GoesByFound {Basis} {Line} {Due} grammar judged from due dues_of rows_of (Ok found) =
    (found.0 ≤ length judged.tokens)
    × ((dues : List Due) (unsettled : ℕ)
    → rest_ending grammar judged from (due ∷ dues) unsettled
    ≡ rest_ending grammar judged found.0 (dues_of found.1 ++ dues) (unsettled + rows_of found.1))
GoesByFound grammar judged from due dues_of rows_of (Err stop) =
    HaltsBy grammar judged from due stop

-- ---- several

-- the reading stops so when all of this is due, whatever else is
abbrev pub AllHaltBy : {Basis Line Due : Type 0} → LineGrammar Basis Line Due
    → LinesView Basis Line → ℕ → List Due → CheckStopAt → Type 0
AllHaltBy grammar judged from wanted stop =
    HaltsReading (length judged.tokens) (λ dues. rest_ending grammar judged from (wanted ++ dues))
    stop

-- the position from which the rest is read, when all of this is shown; or why the reading stops
abbrev pub GoesAfterBy : {Basis Line Due : Type 0} → LineGrammar Basis Line Due
    → LinesView Basis Line → ℕ → List Due → Result ℕ CheckStopAt → Type 0
GoesAfterBy grammar judged from wanted result =
    GoesOnReading grammar judged (λ dues. rest_ending grammar judged from (wanted ++ dues)) result

-- items are shown, with so many unsettled rows among them, or the reading stops
abbrev pub GoesOverBy : {Basis Line Due : Type 0} → LineGrammar Basis Line Due
    → LinesView Basis Line → ℕ → List Due → Result PartRead CheckStopAt → Type 0
GoesOverBy {Basis} {Line} {Due} grammar judged from wanted (Ok found) =
    (found.next ≤ length judged.tokens)
    × ((dues : List Due) (unsettled : ℕ)
    → rest_ending grammar judged from (wanted ++ dues) unsettled
    ≡ rest_ending grammar judged found.next dues (unsettled + found.unsettled))
GoesOverBy grammar judged from wanted (Err stop) = AllHaltBy grammar judged from wanted stop

-- what is due is shown up to a position, with so many unsettled rows, and the rest is still due
abbrev pub ReachesBy : {Basis Line Due : Type 0} → LineGrammar Basis Line Due
    → LinesView Basis Line → ℕ → List Due → ℕ → List Due → ℕ → Type 0
ReachesBy {Basis} {Line} {Due} grammar judged from wanted at left unsettled =
    (dues : List Due) (before : ℕ)
    → rest_ending grammar judged from (wanted ++ dues) before
    ≡ rest_ending grammar judged at (left ++ dues) (before + unsettled)

-- ---- the whole

-- a stop is at one of so many lines
abbrev pub IsStopWithin : ℕ → CheckStopAt → Type 0
IsStopWithin lines (halt.BadLine at) = at < lines
IsStopWithin lines (halt.NoProof at) = at < lines
IsStopWithin lines halt.Short = Unit {0}
IsStopWithin lines halt.OutOfMemory = Unit {0}

-- a stop by the number of its line
abbrev pub stop_by_number : List NumberedLine → CheckStopAt → CheckStop
stop_by_number lines (halt.BadLine at) = stop.BadLine (line_number_at lines at)
stop_by_number lines (halt.NoProof at) = stop.NoProof (line_number_at lines at)
stop_by_number lines halt.Short = stop.Short
stop_by_number lines halt.OutOfMemory = stop.OutOfMemory

-- a call that checks a part that comes to this ending: it is whole, with so many rows, and so far
-- it says what it has to; or the reading stops at a line, whose number is returned
abbrev pub ChecksWhole : Ending → List NumberedLine → ℕ → (ℕ → Type 0)
    → Result Accepted CheckStop → Type 0
ChecksWhole ending lines rows Says (Ok accepted) =
    (ending ≡ whole_at accepted.next accepted.unsettled) × (accepted.rows ≡ rows)
    × Says accepted.next
ChecksWhole ending lines rows Says (Err (stop.BadLine number)) =
    (at : ℕ) × (at < length lines) × (ending ≡ bad_line at) × (number ≡ line_number_at lines at)
ChecksWhole ending lines rows Says (Err (stop.NoProof number)) =
    (at : ℕ) × (at < length lines) × (ending ≡ no_proof at) × (number ≡ line_number_at lines at)
ChecksWhole ending lines rows Says (Err stop.Short) = ending ≡ short
ChecksWhole ending lines rows Says (Err stop.OutOfMemory) = Unit {0}
