-- A cup has an answer after any events: an item for each club, one after another.
use Rattle.std.proofs.Common.{◌≡◌, ◌<◌, ℕ, zero, suc, ◌+◌, Bool, List, [], ◌∷◌, ◌++◌}
use Rattle.std.proofs.Common.{refl, sym, ap, ◌∙◌, subst, arith, append_assoc, append-nil}
use Rattle.std.specs.List.{range_with_len}
use Rattle.league_core.specs.game.Results.{Results}
use Rattle.answer_rows.specs.Parts.{IsMadeOf}
use Rattle.answer_rows.specs.Rows.{ask_row, verdict_row}
use Rattle.cup_sheet.specs.declared.cup.Cup.{Cup}
use Rattle.cup_sheet.specs.Cups.{AreSeasonsOf, IsCup, clubs_together}
use Rattle.cup_laws.specs.inside.CupTruths.{AreCupResults}
use Rattle.cup_text.specs.CupItems.{cup_club_name}
use Rattle.cup_answers.specs.CupTexts.{IsCupItemText, IsGroupsText, text_of_cup_lines}
use Rattle.cup_decided.proofs.ClubItemLemmas.{club_has_item}

-- ---- items one after another

-- one part more
made_next : (IsPart : ℕ → List ℕ → Type 0) (first count : ℕ) (text part : List ℕ)
    → IsMadeOf IsPart (range_with_len first count) text → IsPart (first + count) part
    → IsMadeOf IsPart (range_with_len first (suc count)) (text ++ part)
made_next IsPart first zero text part made is =
    let at : first + 0 ≡ first = omega arith in (
      part,
      [],
      ap (λ t. t ++ part) made ∙ sym (append-nil part),
      subst (λ n. IsPart n part) at is,
      refl,
    )
made_next IsPart first (suc count) text part made is =
    let at : first + suc count ≡ (first + 1) + count = omega arith in (
      made.0,
      made.1 ++ part,
      ap (λ t. t ++ part) made.2 ∙ append_assoc made.0 made.1 part,
      made.3,
      made_next IsPart (first + 1) count made.1 part made.4
          (subst (λ n. IsPart n part) at is),
    )

-- from the items of the first clubs on there are those of the others, if each has one
rest_of_items : (IsPart : ℕ → List ℕ → Type 0) (count more : ℕ) (text : List ℕ)
    → ((n : ℕ) → n < count + more → (part : List ℕ) × IsPart n part)
    → IsMadeOf IsPart (range_with_len 0 count) text
    → (rest : List ℕ) × IsMadeOf IsPart (range_with_len 0 (count + more)) (text ++ rest)
rest_of_items IsPart count zero text each made =
    let at : count ≡ count + 0 = omega arith in (
      [],
      subst (λ t. IsMadeOf IsPart (range_with_len 0 (count + 0)) t) (sym (append-nil text))
          (subst (λ n. IsMadeOf IsPart (range_with_len 0 n) text) at made),
    )
rest_of_items IsPart count (suc more) text each made =
    let here = each count (omega arith) in
    let own : 0 + count ≡ count = omega arith in
    let next = made_next IsPart 0 count text here.0 made
    (subst (λ n. IsPart n here.0) (sym own) here.1) in
    let at : suc count + more ≡ count + suc more = omega arith in
    let rest = rest_of_items IsPart (suc count) more (text ++ here.0)
    (λ n below. each n (omega (arith, below))) next in (
      here.0 ++ rest.0,
      subst (λ t. IsMadeOf IsPart (range_with_len 0 (count + suc more)) t)
          (append_assoc text here.0 rest.0)
          (subst (λ n. IsMadeOf IsPart (range_with_len 0 n) ((text ++ here.0) ++ rest.0)) at
          rest.1),
    )

-- the items of all clubs
pub cup_has_answer : (proofs : Bool) (cup : Cup) (seasons : List Results) (epoch : ℕ)
    → IsCup cup → AreSeasonsOf cup.groups seasons → AreCupResults seasons
    → (text : List ℕ) × IsGroupsText proofs cup seasons epoch text
cup_has_answer proofs cup seasons epoch is each results =
    let count = clubs_together cup.groups in
    let items = rest_of_items (IsCupItemText proofs cup seasons) 0 count []
    (λ club below.
    let item = club_has_item proofs cup seasons club is each results
    (omega (arith, below)) in (
      verdict_row cup.quota (cup_club_name cup club) item.0 ++ text_of_cup_lines item.1,
      (item.0, item.1, item.2, refl),
    )) refl in
    let at : 0 + count ≡ count = omega arith in
    let made = subst
    (λ n. IsMadeOf (IsCupItemText proofs cup seasons) (range_with_len 0 n) items.0) at items.1 in
    (ask_row epoch ++ items.0, (items.0, made, refl))
