-- The asks of a feed, one entry more at a time.
use Rattle.std.proofs.Common.{◌≡◌, ◌<◌, ◌≤◌, ◌^◌, ℕ, suc, ◌+◌, List, [], ◌∷◌, ◌++◌, take, drop}
use Rattle.std.proofs.Common.{length, get_or, refl, sym, ap, subst, ◌∙◌, arith, append_assoc}
use Rattle.std.proofs.Common.{append-nil, length-append, inl, inr}
use Rattle.std.specs.Prelude.{◌⊎◌}
use Rattle.std.proofs.Math.Nat.{eq-or-lt_of_le}
use Rattle.std.proofs.Math.ListN.{drop_of_length-le}
use Rattle.std.proofs.Math.Seq.{get_or-append_seam}
use Rattle.std.proofs.lemmas.List.{map-append, get_or_append_left, take-append-le, take_all}
use Rattle.std.proofs.lemmas.List.Elements.{All-nil, All-push}
use Rattle.league_core.specs.declared.sheet.Sheet.{Sheet}
use Rattle.league_core.specs.declared.season.Event.{Event}
use Rattle.league_core.specs.game.Seasons.{IsEventOf, season_after, unplayed_season}
use Rattle.league_core.specs.game.Seasons.{event_applied}
use Rattle.league_core.specs.game.Sheets.{IsWithinLimits}
use Rattle.league_core.proofs.TableLemmas.{season_after-push}
use Rattle.result_log.specs.declared.entry.Entry.{Entry}
use Rattle.result_log.specs.declared.entry.Entry.TheVariants.{Change, Ask, Proofs, End}
use Rattle.cert_check.specs.declared.expected.ReportKind.{ReportKind}
use Rattle.cert_check.specs.Machine.{basis_of}
use Rattle.par_check.specs.declared.asks.Asks.{Asks}
use Rattle.par_check.specs.Cuts.{AreAsks, bases_of}
use Rattle.par_check.specs.FeedAsks.{bases_from, AreAsksSoFar, TakesEntry}

-- epochs look at the events before them alone
bases_kept : (kind : ReportKind) (sheet : Sheet) (log more : List Event) (epochs : List ℕ)
    → ((k : ℕ) → k < length epochs → get_or epochs k 0 ≤ length log)
    → bases_of kind sheet (log ++ more) epochs ≡ bases_of kind sheet log epochs
bases_kept kind sheet log more [] far = refl
bases_kept kind sheet log more (epoch ∷ epochs) far =
    ap (λ it. basis_of kind sheet (season_after sheet it) epoch ∷ bases_of kind sheet (log ++ more)
    epochs)
    (take-append-le epoch log more (far 0 (omega arith)))
    ∙ ap (λ it. basis_of kind sheet (season_after sheet (take epoch log)) epoch ∷ it)
    (bases_kept kind sheet log more epochs (λ k within. far (suc k) (omega (arith, within))))

pub asks_none : (sheet : Sheet) (entries : List Entry) (log : List Event) (epochs : List ℕ)
    → log ≡ [] → epochs ≡ [] → AreAsksSoFar sheet entries 0 log epochs
asks_none sheet entries log epochs no_log no_epochs =
    let made : AreAsksSoFar sheet entries 0 [] [] = record {
      events = All-nil (IsEventOf (unplayed_season (length sheet.clubs) (length sheet.fixtures)));
      far = λ k within. absurd (omega (arith, within));
      in_order = λ k within. absurd (omega (arith, within));
      log_count = omega arith;
      ask_count = omega arith;
      bases = λ kind. refl;
    } in
    let P : List Event → Type 0 = λ it. AreAsksSoFar sheet entries 0 it [] in
    let Q : List ℕ → Type 0 = λ it. AreAsksSoFar sheet entries 0 log it in
    subst Q (sym no_epochs) (subst P (sym no_log) made)

-- an event more
pub event_on : (sheet : Sheet) (entries : List Entry) (at : ℕ) (log new : List Event)
    (epochs : List ℕ) (event : Event) → AreAsksSoFar sheet entries at log epochs
    → drop at entries ≡ Change event ∷ drop (at + 1) entries
    → IsEventOf (unplayed_season (length sheet.clubs) (length sheet.fixtures)) event
    → new ≡ log ++ event ∷ [] → AreAsksSoFar sheet entries (at + 1) new epochs
event_on sheet entries at log new epochs event are next one is =
    let long = length-append log (event ∷ []) in
    let rest = drop (at + 1) entries in
    let made : AreAsksSoFar sheet entries (at + 1) (log ++ event ∷ []) epochs = record {
      events = All-push (IsEventOf (unplayed_season (length sheet.clubs) (length sheet.fixtures)))
          log event are.events one;
      far = λ k within. omega (arith, are.far k within, long);
      in_order = are.in_order;
      log_count = omega (arith, are.log_count, long);
      ask_count = omega (arith, are.ask_count);
      bases = λ kind. ap (λ it. it ++ bases_from kind sheet (season_after sheet (log ++ event ∷ []))
          (length (log ++ event ∷ [])) rest)
          (bases_kept kind sheet log (event ∷ []) epochs are.far)
          ∙ ap (λ it. bases_of kind sheet log epochs ++ bases_from kind sheet it
          (length (log ++ event ∷ [])) rest) (season_after-push sheet log event)
          ∙ ap (λ it. bases_of kind sheet log epochs ++ bases_from kind sheet
          (event_applied (season_after sheet log) event) it rest) long
          ∙ ap (λ it. bases_of kind sheet log epochs ++ bases_from kind sheet (season_after sheet
          log)
          (length log) it) (sym next) ∙ are.bases kind;
    } in
    let P : List Event → Type 0 = λ it. AreAsksSoFar sheet entries (at + 1) it epochs in
    subst P (sym is) made

-- the epochs with that of an ask more
epoch_there : (epochs : List ℕ) (epoch most k : ℕ) → k < length (epochs ++ epoch ∷ [])
    → ((k : ℕ) → k < length epochs → get_or epochs k 0 ≤ most) → epoch ≤ most
    → get_or (epochs ++ epoch ∷ []) k 0 ≤ most
epoch_there epochs epoch most k within far last =
    by_place (eq-or-lt_of_le below)
  where
    below : k ≤ length epochs
    below = omega (arith, within, length-append epochs (epoch ∷ []))

    by_place : (k ≡ length epochs) ⊎ (k < length epochs) → get_or (epochs ++ epoch ∷ []) k 0 ≤ most
    by_place (inl here) = omega (
      arith,
      last,
      ap (λ it. get_or (epochs ++ epoch ∷ []) it 0) here,
      get_or-append_seam epochs epoch [] 0,
    )
    by_place (inr before) =
        omega (arith, far k before, get_or_append_left epochs (epoch ∷ []) 0 k before)

order_there : (epochs : List ℕ) (epoch k : ℕ) → k + 1 < length (epochs ++ epoch ∷ [])
    → ((k : ℕ) → k < length epochs → get_or epochs k 0 ≤ epoch)
    → ((k : ℕ) → k + 1 < length epochs → get_or epochs k 0 ≤ get_or epochs (k + 1) 0)
    → get_or (epochs ++ epoch ∷ []) k 0 ≤ get_or (epochs ++ epoch ∷ []) (k + 1) 0
order_there epochs epoch k within far order =
    by_place (eq-or-lt_of_le below)
  where
    below : k + 1 ≤ length epochs
    below = omega (arith, within, length-append epochs (epoch ∷ []))

    inside : k < length epochs
    inside = omega (arith, within, length-append epochs (epoch ∷ []))

    by_place : (k + 1 ≡ length epochs) ⊎ (k + 1 < length epochs)
        → get_or (epochs ++ epoch ∷ []) k 0 ≤ get_or (epochs ++ epoch ∷ []) (k + 1) 0
    by_place (inl here) = omega (
      arith,
      far k inside,
      get_or_append_left epochs (epoch ∷ []) 0 k inside,
      ap (λ it. get_or (epochs ++ epoch ∷ []) it 0) here,
      get_or-append_seam epochs epoch [] 0,
    )
    by_place (inr before) = omega (
      arith,
      order k before,
      get_or_append_left epochs (epoch ∷ []) 0 k inside,
      get_or_append_left epochs (epoch ∷ []) 0 (k + 1) before,
    )

-- an ask more
pub ask_on : (sheet : Sheet) (entries : List Entry) (at : ℕ) (log : List Event)
    (epochs new : List ℕ) → AreAsksSoFar sheet entries at log epochs
    → drop at entries ≡ Ask ∷ drop (at + 1) entries → new ≡ epochs ++ length log ∷ []
    → AreAsksSoFar sheet entries (at + 1) log new
ask_on sheet entries at log epochs new are next is =
    let epoch = length log in
    let rest = drop (at + 1) entries in
    let basis = λ (kind : ReportKind) (it : ℕ).
    basis_of kind sheet (season_after sheet (take it log)) it in
    let whole = λ (kind : ReportKind). ap (λ it. basis_of kind sheet (season_after sheet it) epoch)
    (take_all epoch log (omega arith)) in
    let made : AreAsksSoFar sheet entries (at + 1) log (epochs ++ epoch ∷ []) = record {
      events = are.events;
      far = λ k within. epoch_there epochs epoch epoch k within are.far (omega arith);
      in_order = λ k within. order_there epochs epoch k within are.far are.in_order;
      log_count = omega (arith, are.log_count);
      ask_count = omega (arith, are.ask_count, length-append epochs (epoch ∷ []));
      bases = λ kind. ap (λ it. it ++ bases_from kind sheet (season_after sheet log) epoch rest)
          (map-append (basis kind) epochs (epoch ∷ []))
          ∙ append_assoc (bases_of kind sheet log epochs) (basis kind epoch ∷ [])
          (bases_from kind sheet (season_after sheet log) epoch rest)
          ∙ ap (λ it. bases_of kind sheet log epochs
          ++ it ∷ bases_from kind sheet (season_after sheet log) epoch rest) (whole kind)
          ∙ ap (λ it. bases_of kind sheet log epochs ++ bases_from kind sheet (season_after sheet
          log)
          epoch it) (sym next) ∙ are.bases kind;
    } in
    let P : List ℕ → Type 0 = λ it. AreAsksSoFar sheet entries (at + 1) log it in
    subst P (sym is) made

-- an entry that is neither
pub other_on : (sheet : Sheet) (entries : List Entry) (at : ℕ) (log : List Event)
    (epochs : List ℕ) → AreAsksSoFar sheet entries at log epochs
    → ((kind : ReportKind)
    → bases_from kind sheet (season_after sheet log) (length log) (drop at entries)
    ≡ bases_from kind sheet (season_after sheet log) (length log) (drop (at + 1) entries))
    → AreAsksSoFar sheet entries (at + 1) log epochs
other_on sheet entries at log epochs are same = record {
  events = are.events;
  far = are.far;
  in_order = are.in_order;
  log_count = omega (arith, are.log_count);
  ask_count = omega (arith, are.ask_count);
  bases = λ kind. ap (λ it. bases_of kind sheet log epochs ++ it) (sym (same kind)) ∙ are.bases
      kind;
}

-- all entries are gone over
pub asks_are : (sheet : Sheet) (entries : List Entry) (at : ℕ) (asks : Asks)
    → IsWithinLimits sheet → at < 2 ^ 32
    → AreAsksSoFar sheet entries at asks.log.items asks.epochs.items → AreAsks sheet asks
asks_are sheet entries at asks limits few are = record {
  limits = limits;
  events = are.events;
  within = are.far;
  in_order = are.in_order;
  few = omega (arith, few, are.ask_count);
}

pub asks_whole : (kind : ReportKind) (sheet : Sheet) (entries : List Entry) (at : ℕ) (log : List
    Event)
    (epochs : List ℕ) → length entries ≤ at → AreAsksSoFar sheet entries at log epochs
    → bases_of kind sheet log epochs ≡ bases_from kind sheet (season_after sheet []) 0 entries
asks_whole kind sheet entries at log epochs all are =
    sym (append-nil (bases_of kind sheet log epochs))
    ∙ ap (λ it. bases_of kind sheet log epochs
    ++ bases_from kind sheet (season_after sheet log) (length log) it)
    (sym (drop_of_length-le entries all)) ∙ are.bases kind

-- what an entry adds
pub event_taken : (event : Event) (log new : List Event) (epochs : List ℕ)
    → new ≡ log ++ event ∷ [] → TakesEntry (Change event) log epochs new epochs
event_taken event log new epochs is sheet entries at are next one =
    event_on sheet entries at log new epochs event are next one is

pub ask_taken : (log : List Event) (epochs new : List ℕ)
    → new ≡ epochs ++ length log ∷ [] → TakesEntry Ask log epochs log new
ask_taken log epochs new is sheet entries at are next one =
    ask_on sheet entries at log epochs new are next is

pub proofs_taken : (log : List Event) (epochs : List ℕ) → TakesEntry Proofs log epochs log epochs
proofs_taken log epochs sheet entries at are next one =
    other_on sheet entries at log epochs are
    (λ kind. ap (bases_from kind sheet (season_after sheet log) (length log)) next)

pub end_taken : (log : List Event) (epochs : List ℕ) → TakesEntry End log epochs log epochs
end_taken log epochs sheet entries at are next one =
    other_on sheet entries at log epochs are
    (λ kind. ap (bases_from kind sheet (season_after sheet log) (length log)) next)
