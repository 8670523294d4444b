-- Ends at which the groups of a list have such candidates, and an end of the club's own group.
use Rattle.std.proofs.Common.{◌≡◌, ◌≢◌, ◌<◌, ◌≤◌, ℕ, zero, suc, ◌+◌, ℤ, true, not, ◌==◌}
use Rattle.std.proofs.Common.{List, [], ◌∷◌, length, None, Some, refl, sym, ap, ◌∙◌, subst, arith}
use Rattle.std.proofs.Common.{slice_index_or}
use Rattle.std.specs.Prelude.{slice_get, slice_set, All, unwrap_or, IsTrue}
use Rattle.std.proofs.lemmas.Bool.{false≢true, eq-eqb}
use Rattle.std.proofs.lemmas.List.Elements.{All-cons, All-nil}
use Rattle.league_core.specs.declared.sheet.Sheet.{Sheet}
use Rattle.league_core.specs.game.Results.{Results}
use Rattle.cup_sheet.specs.declared.cup.Cup.{Cup}
use Rattle.cup_sheet.specs.declared.question.GroupKind.{GroupKind}
use Rattle.cup_sheet.specs.CupLimits.{direct_places}
use Rattle.cup_sheet.specs.JointFinishes.{GroupState, states_of, states_from}
use Rattle.cup_sheet.specs.GroupQuestions.{holds_in_group}
use Rattle.cup_sheet.specs.LotLaws.{own_lots}
use Rattle.cup_sheet.specs.CupAnswers.{AreRising}
use Rattle.cup_laws.specs.inside.GroupWays.{CanHaveCandidate}
use Rattle.cup_laws.specs.inside.ChosenEnds.{ChosenEnd, AreChosen}
use Rattle.cup_laws.proofs.SideLemmas.{place_within}
use Rattle.cup_laws.proofs.PickedLemmas.{IsGroupEnd, end_put, ends_are_all, put_there}
use Rattle.cup_laws.proofs.PickedLemmas.{put_elsewhere, example_end}

-- a block has as many clubs as its sheet
pub count_at : (first : ℕ) (groups : List Sheet) (seasons : List Results) (k : ℕ)
    (group : GroupState) → slice_get (states_from first groups seasons) k ≡ Some group
    → group.block.count ≡ length group.sheet.clubs
count_at first [] seasons k group there = absurd (let c : None ≡ Some group = there in cc)
count_at first (sheet ∷ groups) [] k group there =
    absurd (let c : None ≡ Some group = there in cc)
count_at first (sheet ∷ groups) (season ∷ seasons) zero group there =
    let head : GroupState = record {
      block = record { first = first; count = length sheet.clubs };
      sheet = sheet;
      results = season;
    } in
    subst (λ it. it.block.count ≡ length it.sheet.clubs)
    (ap (λ found. unwrap_or found head) there) refl
count_at first (sheet ∷ groups) (season ∷ seasons) (suc k) group there =
    count_at (first + length sheet.clubs) groups seasons k group there

-- what rises from a number on is from it on
pub rising_bound : (least : ℕ) (numbers : List ℕ) → AreRising least numbers
    → All (λ number. least ≤ number) numbers
rising_bound least [] rising i d below = absurd (omega (arith, below))
rising_bound least (number ∷ numbers) rising zero d below = rising.0
rising_bound least (number ∷ numbers) rising (suc i) d below =
    omega (arith, rising.0, rising_bound (number + 1) numbers rising.1 i d (omega (arith, below)))

-- another group has, at its end, a candidate on this side of the key
abbrev pub ShownAt : Cup → List Results → GroupKind → GroupState → List ℤ → List ChosenEnd → ℕ
    → Type 0
ShownAt cup seasons kind mine key ends number =
    (group : GroupState) × (slice_get (states_of cup seasons) number ≡ Some group)
    × IsTrue (not (group.block.first == mine.block.first))
    × (end : ChosenEnd) × (slice_get ends number ≡ Some end)
    × (end.lots.candidate < length group.sheet.clubs)
    × (holds_in_group direct_places group.sheet
    (record { kind = kind; club = end.lots.candidate; key = key }) end.finish
    (own_lots end.lots) ≡ true)

-- an end in the place of another group changes nothing there
pub shown_kept : (cup : Cup) (seasons : List Results) (kind : GroupKind) (mine : GroupState)
    (key : List ℤ) (ends : List ChosenEnd) (k number : ℕ) (new : ChosenEnd) → k ≢ number
    → ShownAt cup seasons kind mine key ends number
    → ShownAt cup seasons kind mine key (slice_set ends k new) number
shown_kept cup seasons kind mine key ends k number new other shown = (
  shown.0,
  shown.1,
  shown.2,
  shown.3,
  put_elsewhere ends k number new other ∙ shown.4,
  shown.5,
  shown.6,
)

-- ends at which all groups of the list have one
abbrev pub AreFilled : Cup → List Results → GroupKind → GroupState → List ℤ → List ℕ → Type 0
AreFilled cup seasons kind mine key numbers =
    (ends : List ChosenEnd) × AreChosen 0 cup.groups seasons ends
    × All (ShownAt cup seasons kind mine key ends) numbers

pub filled : (cup : Cup) (seasons : List Results) (kind : GroupKind) (mine : GroupState)
    (key : List ℤ) (least : ℕ) (numbers : List ℕ) (ends : List ChosenEnd)
    → AreChosen 0 cup.groups seasons ends → AreRising least numbers
    → All (CanHaveCandidate cup seasons kind mine key) numbers
    → AreFilled cup seasons kind mine key numbers
filled cup seasons kind mine key least [] ends chosen rising all =
    (ends, chosen, All-nil (ShownAt cup seasons kind mine key ends))
filled cup seasons kind mine key least (number ∷ numbers) ends chosen rising all =
    let later = filled cup seasons kind mine key (number + 1) numbers ends chosen rising.1
    (λ i d below. all (suc i) d (omega (arith, below))) in
    let can = all 0 number (omega arith) in
    let group = can.0 in
    let made = example_end group (record { kind = kind; club = can.3; key = key })
    (count_at 0 cup.groups seasons number group can.1) can.4 can.5 in
    let new = made.0 in
    let inside : number < length later.0 = omega (
      arith,
      ends_are_all 0 cup.groups seasons later.0 later.1,
      place_within (states_of cup seasons) number group can.1,
    ) in (
      slice_set later.0 number new,
      end_put 0 cup.groups seasons later.0 number group new later.1 can.1 made.1,
      All-cons (ShownAt cup seasons kind mine key (slice_set later.0 number new)) number numbers (
        group,
        can.1,
        can.2,
        new,
        put_there later.0 number new inside,
        subst (λ (n : ℕ). n < length group.sheet.clubs) (sym made.2) can.4,
        subst (λ (n : ℕ). holds_in_group direct_places group.sheet
            (record { kind = kind; club = n; key = key }) new.finish (own_lots new.lots) ≡ true)
            (sym made.2) made.3,
      )
          (λ i d below.
          let bound = rising_bound (number + 1) numbers rising.1 i d below in
          shown_kept cup seasons kind mine key later.0 number (slice_index_or numbers i d) new
          (λ same. absurd (omega (arith, bound, same))) (later.2 i d below)),
    )

-- and an end of the club's own group
abbrev pub AreFilledWith : Cup → List Results → GroupKind → GroupState → List ℤ → List ℕ → ℕ
    → ChosenEnd → Type 0
AreFilledWith cup seasons kind mine key numbers k own =
    (ends : List ChosenEnd) × AreChosen 0 cup.groups seasons ends
    × All (ShownAt cup seasons kind mine key ends) numbers × (slice_get ends k ≡ Some own)

pub filled_with : (cup : Cup) (seasons : List Results) (kind : GroupKind) (mine : GroupState)
    (key : List ℤ) (numbers : List ℕ) (ends : List ChosenEnd) (k : ℕ) (own : ChosenEnd)
    → AreChosen 0 cup.groups seasons ends → AreRising 0 numbers
    → All (CanHaveCandidate cup seasons kind mine key) numbers
    → slice_get (states_of cup seasons) k ≡ Some mine → IsGroupEnd mine own
    → AreFilledWith cup seasons kind mine key numbers k own
filled_with cup seasons kind mine key numbers ends k own chosen rising all there is =
    let others = filled cup seasons kind mine key 0 numbers ends chosen rising all in
    let inside : k < length others.0 = omega (
      arith,
      ends_are_all 0 cup.groups seasons others.0 others.1,
      place_within (states_of cup seasons) k mine there,
    ) in (
      slice_set others.0 k own,
      end_put 0 cup.groups seasons others.0 k mine own others.1 there is,
      λ i d below.
          let number = slice_index_or numbers i d in
          let shown = others.2 i d below in
          shown_kept cup seasons kind mine key others.0 k number own
          (elsewhere number others.0 shown) shown,
      put_there others.0 k own inside,
    )
  where
    elsewhere : (number : ℕ) (before : List ChosenEnd)
        → ShownAt cup seasons kind mine key before number → k ≢ number
    elsewhere number before shown same =
        let both : Some mine ≡ Some shown.0 =
        sym there ∙ ap (slice_get (states_of cup seasons)) same ∙ shown.1 in
        let one : mine ≡ shown.0 = ap (λ found. unwrap_or found mine) both in
        false≢true (sym (ap not (eq-eqb mine.block.first mine.block.first refl))
        ∙ ap (λ (it : GroupState). not (it.block.first == mine.block.first)) one ∙ shown.2)
