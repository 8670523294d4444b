-- The word of a list of events: what it is after one event more, and that it tells the epoch and
-- names the last event.
use Rattle.std.proofs.Common.{◌≡◌, ℕ, ◌+◌, ◌-◌, ◌*◌, ◌/◌, ◌<◌, ◌≤◌, IsTrue, Some}
use Rattle.std.proofs.Common.{List, [], ◌∷◌, ◌++◌, length, refl, ap, sym, ◌∙◌, arith}
use Rattle.std.proofs.Common.{length-append, leb, ltb, zero, suc, subst}
use Rattle.std.specs.Prelude.{slice_get}
use Rattle.std.proofs.lemmas.Bool.{and_parts, leb-true, ltb-true}
use Rattle.std.proofs.lemmas.Nat.{div-mul-add}
use Rattle.league_core.specs.declared.season.Event.{Event}
use Rattle.league_core.specs.declared.season.Event.TheVariants.{Set, Clear, Deduct}
use Rattle.league_core.specs.declared.season.Score.{Score}
use Rattle.league_core.specs.game.Results.{is_score}
use Rattle.league_core.specs.inside.Codes.{has_code}
use Rattle.epoch_cancel.specs.inside.Packs.{code_of, last_code, pack_of}

-- ---- codes

-- what a result with a code may be
set_within : (fixture : ℕ) (score : Score) → IsTrue (has_code (Set fixture score))
    → (fixture < 600) × (score.home ≤ 99) × (score.away ≤ 99)
set_within fixture score coded =
    let parts = and_parts (ltb fixture 600) (is_score score) coded in
    let goals = and_parts (leb score.home 99) (leb score.away 99) parts.1 in
    (ltb-true fixture 600 parts.0, leb-true score.home 99 goals.0, leb-true score.away 99 goals.1)

-- what a deduction with a code may be
deduct_within : (club points : ℕ) → IsTrue (has_code (Deduct club points))
    → (club < 24) × (points ≤ 99)
deduct_within club points coded =
    let parts = and_parts (ltb club 24) (leb points 99) coded in
    (ltb-true club 24 parts.0, leb-true points 99 parts.1)

-- a code fits into 32 bits
pub code_of-below : (event : Event) → IsTrue (has_code event) → code_of event < 4294967296
code_of-below (Set fixture score) coded =
    let within = set_within fixture score coded in omega (arith, within)
code_of-below (Clear fixture) coded =
    let within = ltb-true fixture 600 coded in omega (arith, within)
code_of-below (Deduct club points) coded =
    let within = deduct_within club points coded in omega (arith, within)

-- one code, one event
pub code_names_event : (event other : Event) → IsTrue (has_code event) → IsTrue (has_code other)
    → code_of event ≡ code_of other → event ≡ other
code_names_event (Set fixture score) (Set other theirs) coded coded' same =
    let a = set_within fixture score coded in
    let b = set_within other theirs coded' in
    let fixtures : fixture ≡ other = omega (arith, same, a, b) in
    let home : score.home ≡ theirs.home = omega (arith, same, a, b) in
    let away : score.away ≡ theirs.away = omega (arith, same, a, b) in
    λ i. Set (fixtures i) (record { home = home i; away = away i })
code_names_event (Set fixture score) (Clear other) coded coded' same =
    let a = set_within fixture score coded in absurd (omega (arith, same, a))
code_names_event (Set fixture score) (Deduct club points) coded coded' same =
    let a = set_within fixture score coded in absurd (omega (arith, same, a))
code_names_event (Clear fixture) (Set other theirs) coded coded' same =
    let b = set_within other theirs coded' in absurd (omega (arith, same, b))
code_names_event (Clear fixture) (Clear other) coded coded' same =
    let fixtures : fixture ≡ other = omega (arith, same) in ap Clear fixtures
code_names_event (Clear fixture) (Deduct club points) coded coded' same =
    let a = ltb-true fixture 600 coded in absurd (omega (arith, same, a))
code_names_event (Deduct club points) (Set other theirs) coded coded' same =
    let b = set_within other theirs coded' in absurd (omega (arith, same, b))
code_names_event (Deduct club points) (Clear other) coded coded' same =
    let b = ltb-true other 600 coded' in absurd (omega (arith, same, b))
code_names_event (Deduct club points) (Deduct other theirs) coded coded' same =
    let a = deduct_within club points coded in
    let b = deduct_within other theirs coded' in
    let clubs : club ≡ other = omega (arith, same, a, b) in
    let taken : points ≡ theirs = omega (arith, same, a, b) in
    λ i. Deduct (clubs i) (taken i)

-- ---- words

-- the last of one event more is that event
pub last_code-push : (log : List Event) (event : Event)
    → last_code (log ++ event ∷ []) ≡ code_of event
last_code-push [] event = refl
last_code-push (first ∷ []) event = refl
last_code-push (first ∷ next ∷ later) event = last_code-push (next ∷ later) event

-- the event at the last place is the last
last_code-at : (log : List Event) (event : Event) (place : ℕ) → length log ≡ suc place
    → slice_get log place ≡ Some event → last_code log ≡ code_of event
last_code-at [] event place many is = absurd (omega (arith, many))
last_code-at (first ∷ []) event zero many is = ap code_of (cc is)
last_code-at (first ∷ []) event (suc place) many is = absurd (omega (arith, many))
last_code-at (first ∷ next ∷ later) event zero many is = absurd (omega (arith, many))
last_code-at (first ∷ next ∷ later) event (suc place) many is =
    last_code-at (next ∷ later) event place (omega (arith, many)) is

-- the same, if the last place is one less than the length
pub last_code-get : (log : List Event) (event : Event)
    → slice_get log (length log - 1) ≡ Some event → last_code log ≡ code_of event
last_code-get [] event is = absurd cc
last_code-get (first ∷ later) event is =
    let place : length (first ∷ later) - 1 ≡ length later = omega arith in
    last_code-at (first ∷ later) event (length later) refl
    (subst (λ n. slice_get (first ∷ later) n ≡ Some event) place is)

-- the word of one event more
pub pack_of-push : (log : List Event) (event : Event)
    → pack_of (log ++ event ∷ []) ≡ (length log + 1) * 4294967296 + code_of event
pack_of-push log event =
    λ i. length-append log (event ∷ []) i * 4294967296 + last_code-push log event i

-- what is made of the count of earlier events and of the event's code is the word
pub is_pack : (log : List Event) (event : Event) (count word : ℕ)
    → word ≡ (count + 1) * 4294967296 + code_of event → count ≡ length log
    → word ≡ pack_of (log ++ event ∷ [])
is_pack log event count word made counted =
    made ∙ ap (λ n. (n + 1) * 4294967296 + code_of event) counted ∙ sym (pack_of-push log event)

-- the upper half of the word is the epoch
pub pack_of-epoch : (log : List Event) → last_code log < 4294967296
    → pack_of log / 4294967296 ≡ length log
pack_of-epoch log below = div-mul-add (length log) 4294967296 (last_code log) below

-- of one list with one event more, the word names the event
pub pack_names_event : (log : List Event) (event other : Event) → IsTrue (has_code event)
    → IsTrue (has_code other) → pack_of (log ++ event ∷ []) ≡ pack_of (log ++ other ∷ [])
    → event ≡ other
pack_names_event log event other coded coded' same =
    let base : ℕ = (length log + 1) * 4294967296 in
    let sums : base + code_of event ≡ base + code_of other =
    sym (pack_of-push log event) ∙ same ∙ pack_of-push log other in
    code_names_event event other coded coded' (omega (arith, sums))
