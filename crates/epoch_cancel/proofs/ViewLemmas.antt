-- Views beside the log: what fits still fits after each kind of change of a view.
use Rattle.std.proofs.Common.{◌≡◌, ◌≢◌, ℕ, ◌<◌, ◌≤◌, Bool, true, false, true≢false, nat_lt, List}
use Rattle.std.proofs.Common.{[], ◌∷◌, ◌++◌, length, set, refl, sym, ap, ◌∙◌, subst, ⊎_elim, arith}
use Rattle.std.proofs.Common.{length-append}
use Rattle.std.specs.Prelude.{if◌then◌else◌}
use Rattle.std.proofs.lemmas.Bool.{lt-ltb, ltb-false}
use mathlib.Core.Option.{some}
use mathlib.Core.List.{IsPrefix}
use lib.ListN.{get_elem?}
use Rattle.atomic_table.proofs.Lists.{at_set}
use Rattle.league_core.specs.declared.season.Event.{Event}
use Rattle.epoch_cancel.specs.declared.view.View.{View}
use Rattle.epoch_cancel.specs.inside.Views.{nobody, longer_of, view_told, view_looked, view_longer}
use Rattle.epoch_cancel.specs.inside.Views.{view_beside}
use Rattle.epoch_cancel.specs.inside.Rule.{FitsLog}
use Rattle.league_core.proofs.plain.Prefixes.{prefix_self, prefix_nothing, prefix_more}
use Rattle.league_core.proofs.plain.Prefixes.{prefix_whole}
use Rattle.league_core.proofs.plain.TruthValues.{if_either}

-- what does not own, owns nothing
owns_nothing : {A : Type 0} (owns : Bool) → owns ≡ false → owns ≡ true → A
owns_nothing owns foreign own = absurd (true≢false (sym own ∙ foreign))

-- ---- many views

-- if one view is put, and the others fit, all fit
pub fits_set : (seat : ℕ) (log : List Event) (views : List View) (by : ℕ) (view : View)
    → ((at : ℕ) (other : View) → at ≢ by → get_elem? views at ≡ some other
    → FitsLog seat log at other)
    → FitsLog seat log by view
    → (at : ℕ) (other : View) → get_elem? (set views by view) at ≡ some other
    → FitsLog seat log at other
fits_set seat log views by view others mine at other is =
    ⊎_elim
    (λ (x : (at ≡ by) × (view ≡ other)).
    subst (λ (y : ℕ × View). FitsLog seat log y.0 y.1) (λ i. (sym x.0 i, x.1 i)) mine)
    (λ (x : (at ≢ by) × (get_elem? views at ≡ some other)). others at other x.0 x.1)
    (at_set views by at view other is)

-- ---- one view

-- a list that is the log begins it
prefix_same : (list log : List Event) → list ≡ log → IsPrefix list log
prefix_same list log is = subst (λ xs. IsPrefix list xs) is (prefix_self list)

-- a spent view fits
pub nobody_fits : (seat : ℕ) (log : List Event) (by : ℕ) → FitsLog seat log by nobody
nobody_fits seat log by = record {
  owner = λ owns. owns_nothing false refl owns;
  list = prefix_nothing log;
  other = prefix_nothing log;
  newest = omega arith;
}

-- another's view fits a log that is longer by an event
pub others_told : (seat : ℕ) (log : List Event) (event : Event) (at : ℕ) (view : View)
    → at ≢ seat → FitsLog seat log at view → FitsLog seat (log ++ event ∷ []) at view
others_told seat log event at view apart fits = record {
  owner = λ owns. absurd (apart (fits.owner owns).0);
  list = prefix_more view.list log (event ∷ []) fits.list;
  other = prefix_more view.other log (event ∷ []) fits.other;
  newest = omega (arith, fits.newest, length-append log (event ∷ []));
}

-- the owner's view fits it, if it is longer too
pub owner_told : (seat : ℕ) (log : List Event) (event : Event) (by : ℕ) (view : View)
    → by ≡ seat → view.list ≡ log → FitsLog seat log by view
    → FitsLog seat (log ++ event ∷ []) by (view_told view event)
owner_told seat log event by view mine all fits =
    let now : view.list ++ event ∷ [] ≡ log ++ event ∷ [] = ap (λ xs. xs ++ event ∷ []) all in
    record {
      owner = λ _. (mine, now);
      list = prefix_same (view.list ++ event ∷ []) (log ++ event ∷ []) now;
      other = prefix_more view.other log (event ∷ []) fits.other;
      newest = omega (arith, fits.newest, length-append log (event ∷ []));
    }

-- a view that found the present epoch fits
pub looked_fits : (seat : ℕ) (log : List Event) (by : ℕ) (view : View) (epoch : ℕ)
    → epoch ≡ length log → FitsLog seat log by view → FitsLog seat log by (view_looked view epoch)
looked_fits seat log by view epoch present fits = record {
  owner = fits.owner;
  list = fits.list;
  other = fits.other;
  newest = omega (arith, present);
}

-- a copy that owns nothing fits
pub copy_fits : (seat : ℕ) (log : List Event) (by at : ℕ) (view copy : View) → copy.owns ≡ false
    → copy.list ≡ view.list → copy.other ≡ [] → copy.newest ≤ view.newest
    → FitsLog seat log by view → FitsLog seat log at copy
copy_fits seat log by at view copy foreign list other newest fits = record {
  owner = λ owns. owns_nothing copy.owns foreign owns;
  list = subst (λ xs. IsPrefix xs log) (sym list) fits.list;
  other = subst (λ xs. IsPrefix xs log) (sym other) (prefix_nothing log);
  newest = omega (arith, newest, fits.newest);
}

-- ---- two views

-- a view that took the longer list fits
pub longer_fits : (seat : ℕ) (log : List Event) (by at : ℕ) (view from : View)
    → view.owns ≡ false → FitsLog seat log by view → FitsLog seat log at from
    → FitsLog seat log by (view_longer view from)
longer_fits seat log by at view from foreign fits theirs = record {
  owner = λ owns. owns_nothing view.owns foreign owns;
  list = if_either (nat_lt (length view.list) (length from.list)) from.list view.list
      (λ xs. IsPrefix xs log) theirs.list fits.list;
  other = fits.list;
  newest = fits.newest;
}

-- a view that remembers another list fits
pub beside_fits : (seat : ℕ) (log : List Event) (by at : ℕ) (view from : View)
    → FitsLog seat log by view → FitsLog seat log at from
    → FitsLog seat log by (view_beside view from)
beside_fits seat log by at view from fits theirs = record {
  owner = fits.owner;
  list = fits.list;
  other = theirs.list;
  newest = fits.newest;
}

-- ---- the longer of two lists

-- the other, if it is longer
pub longer_of-longer : (list other : List Event) → length list < length other
    → longer_of list other ≡ other
longer_of-longer list other less =
    ap (λ which. if which then other else list) (lt-ltb (length list) (length other) less)

-- the other, if the first begins it
pub longer_of-begins : (list other : List Event) → IsPrefix list other
    → longer_of list other ≡ other
longer_of-begins list other begins = either (nat_lt (length list) (length other)) refl
  where
    either : (which : Bool) → nat_lt (length list) (length other) ≡ which
        → (if which then other else list) ≡ other
    either true is = refl
    either false is =
        prefix_whole list other begins (ltb-false (length list) (length other) is)
