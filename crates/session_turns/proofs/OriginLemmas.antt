-- From what a session goes out on its way, and what it knows of its pool there, from round to
-- round.
use Rattle.std.proofs.Common.{◌≡◌, ℕ, ◌+◌, ◌<◌, ◌≤◌, Bool, false, List, [], ◌∷◌, length}
use Rattle.std.proofs.Common.{Option, Some, None, refl, ap, sym, ◌∙◌, subst, inl, inr}
use Rattle.std.proofs.Common.{arith, if◌then◌else◌, length-append}
use Rattle.std.specs.Prelude.{◌⊎◌, IfSome}
use Rattle.std.proofs.lemmas.Bool.Decides.{eqb_tells}
use Rattle.league_core.specs.declared.season.Event.{Event}
use Rattle.league_core.specs.game.Seasons.{epoch_of}
use Rattle.league_core.specs.search.Trees.{Tree}
use Rattle.result_log.specs.inside.FeedParts.{entry_after}
use Rattle.branch_pool.specs.inside.States.{PoolView}
use Rattle.verdict_run.proofs.ReportedLemmas.{unworked_changed}
use Rattle.plain_rounds.specs.inside.Reports.{ReportsTo, nothing_reported, one_report_more}
use Rattle.command_words.specs.declared.command.Mode.{Mode}
use Rattle.command_words.specs.declared.command.Mode.TheVariants.{WhatIf, Save, Resume}
use Rattle.session_turns.specs.Courses.{Origin, awaits_saved, saved_at, saved_since}
use Rattle.session_turns.specs.inside.Progress.{IsOpened, IsOriginOf, KeepsSaved, line_after}
use Rattle.session_turns.specs.inside.Progress.{round_line}
use Rattle.session_turns.specs.inside.RoundHalts.{IsReportedIn}
use Rattle.session_turns.specs.inside.Turns.{IsReportedSame, IsUnworked, IsUnworkedIn}

-- ---- how lines are read

-- no saved text must come any more
pub opened-awaits : (mode : Mode) (saved : Option (List (Option Tree))) → IsOpened mode saved
    → awaits_saved mode saved ≡ false
opened-awaits (Resume proofs) saved opened = ap (awaits_saved (Resume proofs)) opened.1
opened-awaits mode saved opened = refl

-- so lines are read as in a round
opened-reads : (mode : Mode) (origin : Origin) → IsOpened mode origin.saved
    → line_after mode origin ≡ round_line mode origin.sheet
opened-reads WhatIf origin opened = refl
opened-reads (Resume proofs) origin opened =
    ap (entry_after origin.sheet) (opened-awaits (Resume proofs) origin.saved opened)
opened-reads mode origin opened = refl

-- and so it is from an origin of a pool
pub origin-reads : (mode : Mode) (origin : Origin) (pool : PoolView) → IsOriginOf mode origin pool
    → line_after mode origin ≡ round_line mode pool.sheet
origin-reads mode origin pool of_pool =
    opened-reads mode origin of_pool.opened ∙ ap (round_line mode) of_pool.sheet

-- ---- what is known of a pool

-- the pool after an ask
pub origin-kept : (mode : Mode) (origin : Origin) (pool next : PoolView)
    → IsOriginOf mode origin pool → IsReportedSame pool next
    → KeepsSaved (saved_at origin pool.log) next → IsOriginOf mode origin next
origin-kept mode origin pool next of_pool same kept =
    let P : List Event → Type 0 =
    λ log. IfSome origin.saved (λ (trees : List (Option Tree)). origin.since ≤ epoch_of log) in
    let Q : List Event → Type 0 = λ log. KeepsSaved (saved_at origin log) next in
    record {
      sheet = of_pool.sheet ∙ sym same.0;
      opened = of_pool.opened;
      since = subst P (sym same.1) of_pool.since;
      kept = subst Q (sym same.1) kept;
    }

-- where no trees were saved, nothing is known
pub origin-none : (mode : Mode) (origin : Origin) (next : PoolView) → origin.sheet ≡ next.sheet
    → IsOpened mode origin.saved → origin.saved ≡ None → IsOriginOf mode origin next
origin-none mode origin next sheet opened none =
    let P : Option (List (Option Tree)) → Type 0 =
    λ saved. IfSome saved (λ (trees : List (Option Tree)). origin.since ≤ epoch_of next.log) in
    let Q : Option (List (Option Tree)) → Type 0 =
    λ saved. KeepsSaved (saved_since origin.since (epoch_of next.log) saved) next in
    record {
      sheet = sheet;
      opened = opened;
      since = subst P (sym none) tt;
      kept = subst Q (sym none) tt;
    }

-- an event was reported, or the pool is the same
pub reports-grow : (old new : PoolView) → ReportsTo old new
    → (new ≡ old) ⊎ (epoch_of old.log < epoch_of new.log)
reports-grow old new (nothing_reported pool) = inl refl
reports-grow old new (one_report_more first between last event before change) =
    let more : length last.log ≡ length between.log + 1 =
    ap (λ (pool : PoolView). length pool.log) change.after
    ∙ length-append between.log (event ∷ []) in
    elim (reports-grow first between before) [
      | inl same ↦
          let is : length between.log ≡ length first.log =
          ap (λ (pool : PoolView). length pool.log) same in
          inr (omega (arith, more, is))
      | inr grew ↦ inr (omega (arith, more, grew))
    ]

-- after more events nothing is known of saved trees any more
later-since : (saved : Option (List (Option Tree))) (since epoch epoch' : ℕ)
    → IfSome saved (λ (trees : List (Option Tree)). since ≤ epoch) → epoch < epoch'
    → IfSome saved (λ (trees : List (Option Tree)). since ≤ epoch')
later-since None since epoch epoch' before grew = tt
later-since (Some trees) since epoch epoch' before grew = omega (arith, before, grew)

later-kept : (saved : Option (List (Option Tree))) (since epoch epoch' : ℕ) (pool : PoolView)
    → IfSome saved (λ (trees : List (Option Tree)). since ≤ epoch) → epoch < epoch'
    → KeepsSaved (saved_since since epoch' saved) pool
later-kept None since epoch epoch' pool before grew = tt
later-kept (Some trees) since epoch epoch' pool before grew =
    let P : Bool → Type 0 = λ is. KeepsSaved (if is then Some trees else None) pool in
    elim (eqb_tells epoch' since) [
      | inl same ↦ absurd (omega (arith, same.1, before, grew))
      | inr other ↦ subst P (sym other.0) tt
    ]

-- the pool after a round without workers
reported-origin : (proofs : Bool) (origin : Origin) (pool next : PoolView)
    → IsOriginOf (Resume proofs) origin pool → next.sheet ≡ pool.sheet → ReportsTo pool next
    → IsOriginOf (Resume proofs) origin next
reported-origin proofs origin pool next of_pool same reported =
    let P : PoolView → Type 0 = λ p. IsOriginOf (Resume proofs) origin p in
    elim (reports-grow pool next reported) [
      | inl is ↦ subst P (sym is) of_pool
      | inr grew ↦ record {
        sheet = of_pool.sheet ∙ sym same;
        opened = of_pool.opened;
        since = later-since origin.saved origin.since (epoch_of pool.log) (epoch_of next.log)
            of_pool.since grew;
        kept = later-kept origin.saved origin.since (epoch_of pool.log) (epoch_of next.log) next
            of_pool.since grew;
      }
    ]

-- the pool after a round
pub origin-next : (mode : Mode) (origin : Origin) (pool next : PoolView)
    → IsOriginOf mode origin pool → next.sheet ≡ pool.sheet → IsReportedIn mode pool next
    → IsOriginOf mode origin next
origin-next (Resume proofs) origin pool next of_pool same reported =
    reported-origin proofs origin pool next of_pool same reported
origin-next mode origin pool next of_pool same reported =
    origin-none mode origin next (of_pool.sheet ∙ sym same) of_pool.opened of_pool.opened

-- ---- no work

-- reports alone leave the questions without work
pub reports-unworked : (old new : PoolView) → ReportsTo old new → IsUnworked old → IsUnworked new
reports-unworked old new (nothing_reported pool) unworked = unworked
reports-unworked old new (one_report_more first between last event before change) unworked =
    unworked_changed event between last change (reports-unworked first between before unworked)

-- so it is in the mode that has to
pub round-unworked : (mode : Mode) (old new : PoolView) → IsReportedIn mode old new
    → IsUnworkedIn mode old → IsUnworkedIn mode new
round-unworked Save old new reported unworked = reports-unworked old new reported unworked
round-unworked mode old new reported unworked = tt
