-- Each step keeps the rule of the table, and tells its seat what it says.
use Rattle.std.proofs.Common.{◌≡◌, ◌≢◌, ℕ, zero, suc, ◌/◌, ◌<◌, ◌≤◌, true, false, IsTrue, All, List}
use Rattle.std.proofs.Common.{[], ◌∷◌, ◌++◌, length, set, refl, sym, ap, ◌∙◌, subst, ⊎_elim, arith}
use Rattle.std.specs.Prelude.{slice_index}
use Rattle.std.proofs.lemmas.List.Elements.{All-head, All-tail}
use mathlib.Core.Option.{none, some, some-ne-none, some-injective}
use mathlib.Core.List.{IsPrefix}
use lib.ListN.{get_elem?}
use Rattle.atomic_table.specs.Table.{Me, step, keeps, opening, Allows, Splits, Joins}
use Rattle.atomic_table.proofs.Lists.{at_set, at_snoc, set_again}
use Rattle.league_core.specs.declared.season.Event.{Event}
use Rattle.league_core.specs.inside.Codes.{has_code}
use Rattle.epoch_cancel.specs.declared.view.View.{View}
use Rattle.epoch_cancel.specs.inside.Packs.{last_code, pack_of}
use Rattle.epoch_cancel.specs.inside.Views.{owner_of, nobody, view_told, view_looked, view_longer}
use Rattle.epoch_cancel.specs.inside.Views.{view_beside}
use Rattle.epoch_cancel.specs.inside.Rule.{FitsLog, IsRuled}
use Rattle.epoch_cancel.specs.inside.Moves.{StoresWord, ComparesLists, FindsEpoch}
use Rattle.epoch_cancel.proofs.PackLemmas.{code_of-below, last_code-push, pack_of-epoch}
use Rattle.epoch_cancel.proofs.PackLemmas.{pack_names_event}
use Rattle.epoch_cancel.proofs.ViewLemmas.{fits_set, nobody_fits, others_told, owner_told}
use Rattle.epoch_cancel.proofs.ViewLemmas.{looked_fits, copy_fits, longer_fits, beside_fits}
use Rattle.league_core.proofs.plain.Prefixes.{prefix_self, prefix_nothing, prefix_shorter}

-- ---- the beginning

-- the event has a code
abbrev IsCoded : Event → Type 0
IsCoded event = IsTrue (has_code event)

-- the last code of events that have codes fits into 32 bits
last_code-below : (log : List Event) → All (λ event. IsTrue (has_code event)) log
    → last_code log < 4294967296
last_code-below [] coded = omega arith
last_code-below (event ∷ []) coded = code_of-below event (All-head IsCoded event [] coded)
last_code-below (event ∷ next ∷ later) coded =
    last_code-below (next ∷ later) (All-tail IsCoded event (next ∷ later) coded)

-- the table begins under its rule
pub begins_ruled : (log : List Event) (word : ℕ) → word ≡ pack_of log
    → All (λ event. IsTrue (has_code event)) log
    → IsRuled (opening (word ∷ []) [] (owner_of log))
begins_ruled log word is coded = record {
  seat = 0;
  log = log;
  word = ap (λ n. n ∷ []) is;
  code = last_code-below log coded;
  fits = one;
}
  where
    first : FitsLog 0 log 0 (owner_of log)
    first = record {
      owner = λ _. (refl, refl);
      list = prefix_self log;
      other = prefix_nothing log;
      newest = omega arith;
    }

    one : (by : ℕ) (view : View) → get_elem? (owner_of log ∷ []) by ≡ some view
        → FitsLog 0 log by view
    one zero view at = subst (FitsLog 0 log 0) (some-injective _ _ at) first
    one (suc by) view at = absurd (some-ne-none view (sym at))

-- ---- steps on the word

-- the owner stores the word of one event more
pub stores : (slots by : ℕ) (me : Me (Unit {0}) View) (event : Event) (next : ℕ)
    → me.0.owns ≡ true → IsTrue (has_code event) → next ≡ pack_of (me.0.list ++ event ∷ [])
    → Allows IsRuled slots by me 0 (λ _. next) (λ _. StoresWord (step slots 0 next 0 none) me next)
stores slots by me event next owns coded is state ruled many at small =
    let mine = ruled.fits by me.0 at in
    let own = mine.owner owns in
    let log = ruled.log in
    let view = view_told me.0 event in (
      view,
      keeps,
      tt,
      record {
        seat = ruled.seat;
        log = log ++ event ∷ [];
        word = ap (λ ws. set ws 0 next) ruled.word
            ∙ ap (λ n. n ∷ []) (is ∙ ap (λ xs. pack_of (xs ++ event ∷ [])) own.1);
        code = subst (λ n. n < 4294967296) (sym (last_code-push log event))
            (code_of-below event coded);
        fits = fits_set ruled.seat (log ++ event ∷ []) state.views by view
            (λ j other apart there. others_told ruled.seat log event j other
            (λ same. apart (same ∙ sym own.0)) (ruled.fits j other there))
            (owner_told ruled.seat log event by me.0 own.0 own.1 mine);
      },
      (
        (λ other coded' same. ap (view_told me.0)
            (pack_names_event me.0.list event other coded coded' (sym is ∙ same))),
        refl,
      ),
    )

-- a load leaves the word
word_stays : (words : List ℕ) (log : List Event) → words ≡ pack_of log ∷ []
    → set words 0 (slice_index words 0) ≡ pack_of log ∷ []
word_stays words log is = ap (λ ws. set ws 0 (slice_index ws 0)) is

-- a seat compares its two lists
pub compares : (slots by : ℕ) (me : Me (Unit {0}) View)
    → Allows IsRuled slots by me 0 (λ n. n) (ComparesLists (step slots 0 0 0 none) me)
compares slots by me state ruled many at small =
    let mine = ruled.fits by me.0 at in (
      me.0,
      keeps,
      tt,
      record {
        seat = ruled.seat;
        log = ruled.log;
        word = word_stays state.words ruled.log ruled.word;
        code = ruled.code;
        fits = fits_set ruled.seat ruled.log state.views by me.0
            (λ j other apart there. ruled.fits j other there) mine;
      },
      (
        refl,
        (λ owns. subst (λ xs. IsPrefix me.0.other xs) (sym (mine.owner owns).1) mine.other),
        (λ shorter. prefix_shorter me.0.other me.0.list ruled.log mine.other mine.list shorter),
      ),
    )

-- a worker finds the present epoch
pub finds : (slots by : ℕ) (me : Me (Unit {0}) View)
    → Allows IsRuled slots by me 0 (λ n. n) (FindsEpoch (step slots 0 0 0 none) me)
finds slots by me state ruled many at small =
    let mine = ruled.fits by me.0 at in
    let found = slice_index state.words 0 in
    let present : found / 4294967296 ≡ length ruled.log =
    ap (λ ws. slice_index ws 0 / 4294967296) ruled.word
    ∙ pack_of-epoch ruled.log ruled.code in
    let view = view_looked me.0 (found / 4294967296) in (
      view,
      keeps,
      tt,
      record {
        seat = ruled.seat;
        log = ruled.log;
        word = word_stays state.words ruled.log ruled.word;
        code = ruled.code;
        fits = fits_set ruled.seat ruled.log state.views by view
            (λ j other apart there. ruled.fits j other there)
            (looked_fits ruled.seat ruled.log by me.0 (found / 4294967296) present mine);
      },
      (
        refl,
        refl,
        subst (λ n. me.0.newest ≤ n) (sym present) mine.newest,
        (ruled.log, ap (λ ws. slice_index ws 0) ruled.word, present, mine.list),
      ),
    )

-- ---- seats cut in two, and joined

-- a seat keeps its view, and a new seat has a copy that owns nothing
pub copies : (by : ℕ) (view copy : View) → copy.owns ≡ false → copy.list ≡ view.list
    → copy.other ≡ [] → copy.newest ≤ view.newest → Splits IsRuled by view view copy
copies by view copy foreign list other newest state ruled at = record {
  seat = ruled.seat;
  log = ruled.log;
  word = ruled.word;
  code = ruled.code;
  fits = λ j it there. ⊎_elim
      (λ was. ruled.fits j it
      (subst (λ views. get_elem? views j ≡ some it) (set_again state.views by view at) was))
      (λ (same : copy ≡ it). subst (FitsLog ruled.seat ruled.log j) same
      (copy_fits ruled.seat ruled.log by j view copy foreign list other newest
      (ruled.fits by view at)))
      (at_snoc (set state.views by view) copy it j there);
}

-- a seat's view becomes one that fits if both fit, and the other seat is spent
joins : (by : ℕ) (view : View) (other : ℕ) (from both : View)
    → ((seat : ℕ) (log : List Event) → FitsLog seat log by view → FitsLog seat log other from
    → FitsLog seat log by both)
    → Joins IsRuled by view other from both nobody
joins by view other from both fit state ruled at apart there =
    let theirs = ⊎_elim
    (λ (x : (other ≡ by) × (both ≡ from)). absurd (apart x.0))
    (λ (x : (other ≢ by) × (get_elem? state.views other ≡ some from)).
    ruled.fits other from x.1)
    (at_set state.views by other both from there) in
    record {
      seat = ruled.seat;
      log = ruled.log;
      word = ruled.word;
      code = ruled.code;
      fits = fits_set ruled.seat ruled.log (set state.views by both) other nobody
          (λ j it _ is. fits_set ruled.seat ruled.log state.views by both
          (λ i that _ was. ruled.fits i that was)
          (fit ruled.seat ruled.log (ruled.fits by view at) theirs) j it is)
          (nobody_fits ruled.seat ruled.log other);
    }

-- a seat that does not own takes the longer list
pub takes_longer : (by : ℕ) (view : View) (other : ℕ) (from : View) → view.owns ≡ false
    → Joins IsRuled by view other from (view_longer view from) nobody
takes_longer by view other from foreign =
    joins by view other from (view_longer view from)
    (λ seat log fits theirs. longer_fits seat log by other view from foreign fits theirs)

-- a seat remembers another's list
pub remembers : (by : ℕ) (view : View) (other : ℕ) (from : View)
    → Joins IsRuled by view other from (view_beside view from) nobody
remembers by view other from =
    joins by view other from (view_beside view from)
    (λ seat log fits theirs. beside_fits seat log by other view from fits theirs)
