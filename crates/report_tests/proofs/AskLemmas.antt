-- Two asks, one before an event and one after it.
use Rattle.std.proofs.Common.{◌≡◌, ℕ, zero, suc, ◌+◌, ◌<◌, ◌≤◌, ◌^◌, List, [], ◌∷◌, length, get_or}
use Rattle.std.proofs.Common.{arith, sym, subst, lit<}
use Rattle.std.proofs.lemmas.List.Elements.{All-cons, All-nil}
use Rattle.league_core.specs.declared.sheet.Sheet.{Sheet}
use Rattle.league_core.specs.declared.season.Event.{Event}
use Rattle.league_core.specs.game.Sheets.{IsWithinLimits}
use Rattle.league_core.specs.game.Seasons.{AreEventsOf, IsEventOf, unplayed_season}
use Rattle.par_check.specs.declared.asks.Asks.{Asks}
use Rattle.par_check.specs.Cuts.{AreAsks}

-- they are within one event
within_one : (at : ℕ) → at < 2 → get_or (0 ∷ 1 ∷ []) at 0 ≤ 1
within_one zero less = omega arith
within_one (suc zero) less = omega arith
within_one (suc (suc at)) less = absurd (omega arith)

-- they are in their order
in_order : (at : ℕ) → at + 1 < 2 → get_or (0 ∷ 1 ∷ []) at 0 ≤ get_or (0 ∷ 1 ∷ []) (at + 1) 0
in_order zero less = omega arith
in_order (suc at) less = absurd (omega arith)

-- the event is one of the sheet's
of_sheet : (sheet : Sheet) (event : Event)
    → IsEventOf (unplayed_season (length sheet.clubs) (length sheet.fixtures)) event
    → AreEventsOf sheet (event ∷ [])
of_sheet sheet event may_be =
    let P = IsEventOf (unplayed_season (length sheet.clubs) (length sheet.fixtures)) in
    All-cons P event [] may_be (All-nil P)

-- a checker takes them
pub are_two_asks : (sheet : Sheet) (asks : Asks) (event : Event) → IsWithinLimits sheet
    → IsEventOf (unplayed_season (length sheet.clubs) (length sheet.fixtures)) event
    → asks.log.items ≡ event ∷ [] → asks.epochs.items ≡ 0 ∷ 1 ∷ [] → AreAsks sheet asks
are_two_asks sheet asks event limits may_be log epochs = record {
  limits = limits;
  events = (let P : List Event → Type 0 = λ xs. AreEventsOf sheet xs in
      subst P (sym log) (of_sheet sheet event may_be));
  within = (let P : List Event → List ℕ → Type 0 = λ xs ns.
      (at : ℕ) → at < length ns → get_or ns at 0 ≤ length xs in
      subst (λ xs. P xs asks.epochs.items) (sym log)
      (subst (λ ns. P (event ∷ []) ns) (sym epochs) within_one));
  in_order = (let P : List ℕ → Type 0 = λ ns.
      (at : ℕ) → at + 1 < length ns → get_or ns at 0 ≤ get_or ns (at + 1) 0 in
      subst P (sym epochs) in_order);
  few = (let P : List ℕ → Type 0 = λ ns. length ns < 2 ^ 32 in subst P (sym epochs) (lit< tt));
}
