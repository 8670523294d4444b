-- Over any grammar: what the next line that counts makes of the reading, and parts one after
-- another, each of which is shown or stops the reading.
use Rattle.std.proofs.Common.{◌≡◌, ℕ, ◌+◌, true, false, List, [], ◌∷◌, ◌++◌, Result, Ok, Err}
use Rattle.std.proofs.Common.{length, drop, refl, sym, ap, ◌∙◌, append_assoc, arith, append-nil}
use Rattle.kept_lines.specs.LineLists.{NumberedLine}
use Rattle.cert_check.specs.declared.item.PartRead.{PartRead}
use Rattle.cert_check.specs.declared.stop.CheckStopAt.{CheckStopAt}
use Rattle.cert_check.specs.declared.stop.CheckStopAt.TheVariants as halt
use Rattle.cert_check.specs.LineGrammars.{LineGrammar, Next, bad, go, Ending, whole_at, by_next}
use Rattle.cert_check.specs.inside.Goes.{LinesView, rest_ending, HaltsReading, GoesOnReading}
use Rattle.cert_check.specs.inside.Goes.{IsNextLine, HaltsBy, GoesBy, AllHaltBy, GoesAfterBy}
use Rattle.cert_check.specs.inside.Goes.{GoesOverBy, ReachesBy}
use Rattle.cert_check.specs.LineGrammars.{bad_line, no_proof, short}
use Rattle.cert_check.specs.inside.Goes.{ChecksWhole, IsStopWithin, stop_by_number}
use Rattle.cert_check.proofs.MachineLemmas.{nothing_due}

-- a reading that is another from some way on stops where that does
pub stops_along : {Due : Type 0} (lines : ℕ) (first second : List Due → ℕ → Ending)
    (others : List Due → List Due) (count : ℕ → ℕ)
    → ((dues : List Due) (unsettled : ℕ)
    → first dues unsettled ≡ second (others dues) (count unsettled))
    → (stop : CheckStopAt) → HaltsReading lines second stop → HaltsReading lines first stop
stops_along lines first second others count way (halt.BadLine place) stops =
    (stops.0, λ dues unsettled. way dues unsettled ∙ stops.1 (others dues) (count unsettled))
stops_along lines first second others count way (halt.NoProof place) stops =
    (stops.0, λ dues unsettled. way dues unsettled ∙ stops.1 (others dues) (count unsettled))
stops_along lines first second others count way halt.Short stops =
    λ dues unsettled. way dues unsettled ∙ stops (others dues) (count unsettled)
stops_along lines first second others count way halt.OutOfMemory stops = tt

module _ {Basis Line Due : Type 0} (grammar : LineGrammar Basis Line Due)
    (judged : LinesView Basis Line) where
  -- and goes on where that does
  pub goes_on_along : (first second : List Due → ℕ → Ending)
      → ((dues : List Due) (unsettled : ℕ) → first dues unsettled ≡ second dues unsettled)
      → (result : Result ℕ CheckStopAt) → GoesOnReading grammar judged second result
      → GoesOnReading grammar judged first result
  goes_on_along first second way (Ok to) goes =
      (goes.0, λ dues unsettled. way dues unsettled ∙ goes.1 dues unsettled)
  goes_on_along first second way (Err stop) goes =
      stops_along (length judged.tokens) first second (λ dues. dues) (λ count. count) way stop goes

  -- what is due at the end of a way stops the reading
  pub halts_along : (from at : ℕ) (first second : Due) (stop : CheckStopAt)
      → ((dues : List Due) (unsettled : ℕ)
      → rest_ending grammar judged from (first ∷ dues) unsettled
      ≡ rest_ending grammar judged at (second ∷ dues) unsettled)
      → HaltsBy grammar judged at second stop → HaltsBy grammar judged from first stop
  halts_along from at first second stop way halts =
      goes_on_along (λ dues. rest_ending grammar judged from (first ∷ dues))
      (λ dues. rest_ending grammar judged at (second ∷ dues)) way (Err stop) halts

  -- or is read
  pub goes_along : (from at : ℕ) (first second : Due) (result : Result ℕ CheckStopAt)
      → ((dues : List Due) (unsettled : ℕ)
      → rest_ending grammar judged from (first ∷ dues) unsettled
      ≡ rest_ending grammar judged at (second ∷ dues) unsettled)
      → GoesBy grammar judged at second result → GoesBy grammar judged from first result
  goes_along from at first second result way goes =
      goes_on_along (λ dues. rest_ending grammar judged from (first ∷ dues))
      (λ dues. rest_ending grammar judged at (second ∷ dues)) way result goes

  -- ---- the first of several

  -- the first stops the reading
  pub first_halts : (from : ℕ) (due : Due) (more : List Due) (stop : CheckStopAt)
      → HaltsBy grammar judged from due stop → AllHaltBy grammar judged from (due ∷ more) stop
  first_halts from due more stop halts =
      stops_along (length judged.tokens)
      (λ dues. rest_ending grammar judged from (due ∷ more ++ dues))
      (λ dues. rest_ending grammar judged from (due ∷ dues))
      (λ dues. more ++ dues) (λ count. count) (λ dues unsettled. refl) stop halts

  -- the first is read, and then the others are
  pub first_goes : (from at : ℕ) (due : Due) (more : List Due) (result : Result ℕ CheckStopAt)
      → GoesBy grammar judged from due (Ok at) → GoesAfterBy grammar judged at more result
      → GoesAfterBy grammar judged from (due ∷ more) result
  first_goes from at due more result goes later =
      goes_on_along (λ dues. rest_ending grammar judged from (due ∷ more ++ dues))
      (λ dues. rest_ending grammar judged at (more ++ dues))
      (λ dues unsettled. goes.1 (more ++ dues) unsettled) result later

  -- ---- piece by piece

  -- one piece more is shown
  pub reach_on : (from at unsettled : ℕ) (wanted first later : List Due) (found : PartRead)
      → ReachesBy grammar judged from wanted at (first ++ later) unsettled
      → GoesOverBy grammar judged at first (Ok found)
      → ReachesBy grammar judged from wanted found.next later (unsettled + found.unsettled)
  reach_on from at unsettled wanted first later found reaches goes = λ dues before.
      reaches dues before
      ∙ ap (λ due. rest_ending grammar judged at due (before + unsettled))
      (append_assoc first later dues)
      ∙ goes.1 (later ++ dues) (before + unsettled)
      ∙ ap (λ count. rest_ending grammar judged found.next (later ++ dues) count) (omega arith)

  -- a piece stops the reading
  pub reach_halt : (from at unsettled : ℕ) (wanted first later : List Due) (stop : CheckStopAt)
      → ReachesBy grammar judged from wanted at (first ++ later) unsettled
      → AllHaltBy grammar judged at first stop → AllHaltBy grammar judged from wanted stop
  reach_halt from at unsettled wanted first later stop reaches halts =
      stops_along (length judged.tokens) (λ dues. rest_ending grammar judged from (wanted ++ dues))
      (λ dues. rest_ending grammar judged at (first ++ dues))
      (λ dues. later ++ dues) (λ before. before + unsettled)
      (λ dues before. reaches dues before
      ∙ ap (λ due. rest_ending grammar judged at due (before + unsettled))
      (append_assoc first later dues)) stop halts

  -- if nothing is due the reading ends
  pub ends_whole : (at unsettled : ℕ)
      → rest_ending grammar judged at [] unsettled ≡ whole_at at unsettled
  ends_whole at unsettled =
      nothing_due grammar judged.basis (drop at judged.tokens) at unsettled

  -- nothing else being due
  pub all_due : (from : ℕ) (wanted : List Due) (ending : Ending)
      → ((dues : List Due) (unsettled : ℕ)
      → rest_ending grammar judged from (wanted ++ dues) unsettled ≡ ending)
      → rest_ending grammar judged from wanted 0 ≡ ending
  all_due from wanted ending is =
      ap (λ due. rest_ending grammar judged from due 0) (sym (append-nil wanted)) ∙ is [] 0

  -- all being shown, the reading ends
  pub all_shown_ends : (from : ℕ) (wanted : List Due) (found : PartRead)
      → GoesOverBy grammar judged from wanted (Ok found)
      → rest_ending grammar judged from wanted 0 ≡ whole_at found.next found.unsettled
  all_shown_ends from wanted found goes =
      ap (λ due. rest_ending grammar judged from due 0) (sym (append-nil wanted))
      ∙ goes.1 [] 0 ∙ ends_whole found.next (0 + found.unsettled)
      ∙ ap (whole_at found.next) (omega arith)

-- ---- the whole

module _ {Basis Line Due : Type 0} (grammar : LineGrammar Basis Line Due)
    (judged : LinesView Basis Line) (from : ℕ) (wanted : List Due) where
  -- a stop is at one of the lines
  pub halts_within : (lines : ℕ) (stop : CheckStopAt) → length judged.tokens ≡ lines
      → AllHaltBy grammar judged from wanted stop → IsStopWithin lines stop
  halts_within lines (halt.BadLine at) many halts = omega (arith, halts.0, many)
  halts_within lines (halt.NoProof at) many halts = omega (arith, halts.0, many)
  halts_within lines halt.Short many halts = tt
  halts_within lines halt.OutOfMemory many halts = tt

  -- what a stop of a part comes to by the number of its line
  pub stop_checks : (lines : List NumberedLine) (rows : ℕ) (Says : ℕ → Type 0)
      (stop : CheckStopAt) → length judged.tokens ≡ length lines
      → AllHaltBy grammar judged from wanted stop
      → ChecksWhole (rest_ending grammar judged from wanted 0) lines rows Says
      (Err (stop_by_number lines stop))
  stop_checks lines rows Says (halt.BadLine at) many halts = (
    at,
    omega (arith, halts.0, many),
    all_due grammar judged from wanted (bad_line at) halts.1,
    refl,
  )
  stop_checks lines rows Says (halt.NoProof at) many halts = (
    at,
    omega (arith, halts.0, many),
    all_due grammar judged from wanted (no_proof at) halts.1,
    refl,
  )
  stop_checks lines rows Says halt.Short many halts =
      all_due grammar judged from wanted short halts
  stop_checks lines rows Says halt.OutOfMemory many halts = tt

-- ---- the next line

module _ {Basis Line Due : Type 0} (grammar : LineGrammar Basis Line Due)
    {IsCounted : Line → Type 0} {after : Basis → Due → Line → Next Due} {count : ℕ → Line → ℕ}
    (judged : LinesView Basis Line) (from at : ℕ) (line : Line)
    (is : IsNextLine grammar IsCounted after count judged from at line) where
  -- a line that may not come
  pub next_is_bad : (due : Due) → after judged.basis due line ≡ bad
      → HaltsBy grammar judged from due (halt.BadLine at)
  next_is_bad due goes = (
    is.within,
    λ dues unsettled. is.reads due dues unsettled
        ∙ ap (λ next. by_next next at (λ rest. rest_ending grammar judged (at + 1) (rest ++ dues)
        (count unsettled line))) goes,
  )

  -- a line that does not prove what it says
  pub next_unproved : (due : Due) (more : List Due) → after judged.basis due line ≡ go false more
      → HaltsBy grammar judged from due (halt.NoProof at)
  next_unproved due more goes = (
    is.within,
    λ dues unsettled. is.reads due dues unsettled
        ∙ ap (λ next. by_next next at (λ rest. rest_ending grammar judged (at + 1) (rest ++ dues)
        (count unsettled line))) goes,
  )

  -- a line that goes on and is no row of an unsettled club
  pub next_reads : (due : Due) (more : List Due)
      → ((unsettled : ℕ) → count unsettled line ≡ unsettled)
      → after judged.basis due line ≡ go true more → (dues : List Due) (unsettled : ℕ)
      → rest_ending grammar judged from (due ∷ dues) unsettled
      ≡ rest_ending grammar judged (at + 1) (more ++ dues) unsettled
  next_reads due more quiet goes dues unsettled =
      is.reads due dues unsettled
      ∙ ap (λ next. by_next next at (λ rest. rest_ending grammar judged (at + 1) (rest ++ dues)
      (count unsettled line))) goes
      ∙ ap (rest_ending grammar judged (at + 1) (more ++ dues)) (quiet unsettled)

  -- a line after which nothing more is due of this
  pub next_ends : (due : Due) → ((unsettled : ℕ) → count unsettled line ≡ unsettled)
      → after judged.basis due line ≡ go true [] → GoesBy grammar judged from due (Ok (at + 1))
  next_ends due quiet goes = (omega (arith, is.within), next_reads due [] quiet goes)
