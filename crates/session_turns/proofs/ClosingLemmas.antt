-- What is written at the end of an input in the mode `save`.
use Rattle.std.proofs.Common.{◌≡◌, ℕ, Bool, List, [], Option, None, Result, Err, refl, ap, sym, ◌∙◌}
use Rattle.std.proofs.Common.{subst}
use Rattle.std.proofs.Common.{inl, inr}
use Rattle.std.specs.Prelude.{◌⊎◌}
use Rattle.league_core.specs.declared.sheet.Sheet.{Sheet}
use Rattle.league_core.specs.game.Results.{Results}
use Rattle.league_core.specs.game.Seasons.{season_after}
use Rattle.branch_pool.specs.inside.States.{PoolView}
use Rattle.answer_rows.specs.declared.output.OutputStop.{OutputStop}
use Rattle.answer_rows.specs.declared.output.OutputStop.TheVariants as output
use Rattle.answer_rows.specs.inside.Outputs.{PutsSomeText}
use Rattle.verdict_run.specs.inside.Working.{AreAllNew, IsSameLeague, WorksTo}
use Rattle.verdict_run.proofs.ReportedLemmas.{unworked_new}
use Rattle.verdict_run.proofs.ShownLemmas.{works_new}
use Rattle.pool_save.specs.SavedItems.{IsSavedOf}
use Rattle.command_words.specs.declared.command.Mode.{Mode}
use Rattle.command_words.specs.declared.command.Mode.TheVariants.{Verdicts, Table, Scores, WhatIf}
use Rattle.command_words.specs.declared.command.Mode.TheVariants.{Save, Resume, Decide, Check}
use Rattle.command_words.specs.declared.command.Mode.TheVariants.{Groups, GroupsCheck, Sample}
use Rattle.run_ends.specs.declared.status.Status.TheVariants.{Done, OutOfMemory}
use Rattle.run_ends.specs.declared.run_end.RunEnd.TheVariants.{Complete}
use Rattle.session_turns.specs.Plays.{Played}
use Rattle.session_turns.specs.inside.Turns.{IsLive, PutsClosing, closing_of}
use Rattle.league_core.proofs.plain.Streams.{append_known-nothing}
use Rattle.run_ends.specs.Texts.{IsLastText}
use Rattle.run_ends.specs.inside.RunTurns.{EndGives}
use Rattle.session_turns.specs.Texts.{IsSavedText}

-- no work was done on the trees before the end, so all of them are new
pub saved-new : (pool next : PoolView) → IsLive Save pool → WorksTo pool next → AreAllNew next
saved-new pool next live work = works_new pool next work (unworked_new pool live.unworked)

-- the modes that write nothing there
abbrev pub EndsPlain : Mode → Type 0
EndsPlain mode =
    ((proofs : Bool) × (mode ≡ Verdicts proofs)) ⊎ ((mode ≡ Table) ⊎ ((mode ≡ Scores)
    ⊎ ((mode ≡ WhatIf) ⊎ (((proofs : Bool) × (mode ≡ Resume proofs))
    ⊎ (((proofs : Bool) × (mode ≡ Decide proofs)) ⊎ (((wide : Bool) × (mode ≡ Check wide))
    ⊎ (((proofs : Bool) × (mode ≡ Groups proofs)) ⊎ ((mode ≡ GroupsCheck)
    ⊎ ((seed : ℕ) × (mode ≡ Sample seed))))))))))

closing-none : (mode : Mode) (pool : PoolView) → EndsPlain mode → closing_of mode pool ≡ None
closing-none mode pool (inl is) = ap (λ m. closing_of m pool) is.1
closing-none mode pool (inr (inl is)) = ap (λ m. closing_of m pool) is
closing-none mode pool (inr (inr (inl is))) = ap (λ m. closing_of m pool) is
closing-none mode pool (inr (inr (inr (inl is)))) = ap (λ m. closing_of m pool) is
closing-none mode pool (inr (inr (inr (inr (inl is))))) = ap (λ m. closing_of m pool) is.1
closing-none mode pool (inr (inr (inr (inr (inr (inl is)))))) = ap (λ m. closing_of m pool) is.1
closing-none mode pool (inr (inr (inr (inr (inr (inr (inl is))))))) =
    ap (λ m. closing_of m pool) is.1
closing-none mode pool (inr (inr (inr (inr (inr (inr (inr (inl is)))))))) =
    ap (λ m. closing_of m pool) is.1
closing-none mode pool (inr (inr (inr (inr (inr (inr (inr (inr (inl is))))))))) =
    ap (λ m. closing_of m pool) is
closing-none mode pool (inr (inr (inr (inr (inr (inr (inr (inr (inr is))))))))) =
    ap (λ m. closing_of m pool) is.1

pub plain-gives : (mode : Mode) (pool : PoolView) (old : Option (List ℕ)) → EndsPlain mode
    → EndGives (IsLastText IsSavedText Complete (closing_of mode pool)) old old Done
plain-gives mode pool old ends =
    let P : Option Played → Type 0 = λ closing. IsLastText IsSavedText Complete closing [] in
    ([], subst P (sym (closing-none mode pool ends)) refl, append_known-nothing old)

-- out of memory in the mode `save`
starved-as : (A : Type 0) (mode : Mode) (pool : PoolView) (old now : Option (List ℕ))
    (stop : OutputStop) → mode ≡ Save → stop ≡ output.OutOfMemory
    → PutsClosing {A = A} (closing_of Save pool) old now (Err stop)
    → EndGives (IsLastText IsSavedText Complete (closing_of mode pool)) old now OutOfMemory
starved-as A mode pool old now output.OutOfMemory is memory gives =
    subst (λ m. EndGives (IsLastText IsSavedText Complete (closing_of m pool)) old now OutOfMemory)
    (sym is) gives
starved-as A mode pool old now output.WriteFault is memory gives = cc

pub starved-gives : {A : Type 0} (mode : Mode) (pool : PoolView) (old now : Option (List ℕ))
    (result : Result A OutputStop) (stop : OutputStop) → result ≡ Err stop → mode ≡ Save
    → stop ≡ output.OutOfMemory → PutsClosing (closing_of Save pool) old now result
    → EndGives (IsLastText IsSavedText Complete (closing_of mode pool)) old now OutOfMemory
starved-gives {A = A} mode pool old now result stop same is memory gives =
    starved-as A mode pool old now stop is memory
    (subst (λ r. PutsClosing (closing_of Save pool) old now r) same gives)

-- a saved text of the pool after the work is one of what was played
pub closing-put : {A : Type 0} (pool next : PoolView) (old now : Option (List ℕ))
    (result : Result A OutputStop) → IsLive Save pool → IsSameLeague pool next
    → PutsSomeText (IsSavedOf next.sheet next.season) old now result
    → PutsClosing (closing_of Save pool) old now result
closing-put pool next old now result live same puts =
    let season = season_after pool.sheet pool.log in
    let P : Sheet → Type 0 = λ s. PutsSomeText (IsSavedOf s season) old now result in
    let Q : Results → Type 0 = λ r. PutsSomeText (IsSavedOf next.sheet r) old now result in
    subst P same.sheet (subst Q (same.season ∙ live.season) puts)
