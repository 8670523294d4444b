-- Other groups one after another: numbers in their order, ends that are changed, and what is known.
use Rattle.std.proofs.Common.{◌≡◌, ◌≢◌, ◌<◌, ◌≤◌, ℕ, zero, suc, ◌+◌, ℤ, true, not, ◌==◌}
use Rattle.std.proofs.Common.{List, [], ◌∷◌, ◌++◌, length, Some, None, refl, sym, ap, ◌∙◌}
use Rattle.std.proofs.Common.{subst, arith, slice_index_or, Bool, inl, inr, if◌then◌else◌}
use Rattle.std.specs.Prelude.{All, slice_get, slice_set, Option}
use Rattle.std.specs.Option.{IsSome}
use Rattle.std.proofs.lemmas.Bool.{false≢true, eq-eqb, lt-ltb}
use Rattle.std.proofs.lemmas.Bool.Decides.{nat_tests}
use Rattle.std.proofs.lemmas.List.{length-append, map-append}
use Rattle.std.proofs.lemmas.Option.{none-some, same_Some}
use Rattle.league_core.specs.declared.sheet.Sheet.{Sheet}
use Rattle.league_core.specs.declared.question.Claim.{Claim}
use Rattle.league_core.specs.declared.question.Claim.TheVariants.{Inside, Outside}
use Rattle.league_core.specs.game.Results.{Results}
use Rattle.league_core.proofs.plain.Slots.{slice_get-set_same, slice_get-set_other}
use Rattle.tree_arena.specs.declared.example.Example.{Example}
use Rattle.cup_sheet.specs.declared.cup.Cup.{Cup}
use Rattle.cup_sheet.specs.CupAnswers.{AreRising, listed_groups, shown_groups}
use Rattle.cup_sheet.specs.Cups.{IsCup}
use Rattle.cup_laws.proofs.GroupEndLemmas.{get_there}
use Rattle.runners_up.specs.declared.others.GroupAsked.{GroupAsked}
use Rattle.runners_up.specs.declared.others.GroupAsked.TheVariants.{Shown, Refuted, Spent}
use Rattle.runners_up.specs.declared.survey.EmptyGroup.{EmptyGroup}
use Rattle.runners_up.specs.declared.survey.OpenGroup.{OpenGroup}
use Rattle.runners_up.specs.declared.survey.GroupSurvey.{GroupSurvey}
use Rattle.runners_up.specs.inside.GroupsAsked.{IsGroupAsked}
use Rattle.runners_up.specs.inside.GroupSurveys.{IsOtherGroup, IsEmptyGroup, IsOpenGroup}
use Rattle.runners_up.specs.inside.GroupSurveys.{AreRisingTo, group_numbers, own_among}
use Rattle.runners_up.specs.inside.GroupSurveys.{AreAllCounted, IsSurveyed, IsGroupNoted}
use Rattle.runners_up.specs.inside.GroupSurveys.{IsSurveyOver}
use Rattle.runners_up.specs.inside.JointEnds.{IsGroupEnd, AreGroupEnds, IsShownGroup}

-- ---- lists that grow

-- one element more
all_pushed : {X : Type 0} (P : X → Type 0) (xs : List X) (last : X) → All P xs → P last
    → All P (xs ++ last ∷ [])
all_pushed P [] last all is zero d below = is
all_pushed P [] last all is (suc k) d below = absurd (omega (arith, below))
all_pushed P (x ∷ xs) last all is zero d below = all 0 d (omega arith)
all_pushed P (x ∷ xs) last all is (suc k) d below =
    all_pushed P xs last (λ i e inside. all (suc i) e (omega (arith, inside))) is k d
    (omega (arith, below))

-- a number after all
rising_pushed : (least : ℕ) (numbers : List ℕ) (bound : ℕ) → AreRising least numbers
    → All (λ (number : ℕ). number < bound) numbers → least ≤ bound
    → AreRising least (numbers ++ bound ∷ [])
rising_pushed least [] bound rising below room = (room, tt)
rising_pushed least (number ∷ numbers) bound rising below room = (
  rising.0,
  rising_pushed (number + 1) numbers bound rising.1
      (λ k d inside. below (suc k) d (omega (arith, inside)))
      (omega (arith, below 0 number (omega arith))),
)

-- the bound itself comes next
rise_next : (bound : ℕ) (numbers : List ℕ) → AreRisingTo bound numbers
    → AreRisingTo (bound + 1) (numbers ++ bound ∷ [])
rise_next bound numbers rise = record {
  rising = rising_pushed 0 numbers bound rise.rising rise.below (omega arith);
  below = all_pushed (λ (number : ℕ). number < bound + 1) numbers bound
      (λ k d inside. omega (arith, rise.below k d inside)) (omega arith);
}

-- or nothing does
rise_on : (bound : ℕ) (numbers : List ℕ) → AreRisingTo bound numbers
    → AreRisingTo (bound + 1) numbers
rise_on bound numbers rise = record {
  rising = rise.rising;
  below = λ k d inside. omega (arith, rise.below k d inside);
}

-- ---- ends that are changed

-- an end for another
pub end_changed : (groups : List Sheet) (seasons : List Results) (ends : List Example) (k : ℕ)
    (sheet : Sheet) (season : Results) (end : Example) → slice_get groups k ≡ Some sheet
    → slice_get seasons k ≡ Some season → AreGroupEnds groups seasons ends
    → IsGroupEnd sheet season end → AreGroupEnds groups seasons (slice_set ends k end)
end_changed [] seasons ends k sheet season end there season_there each is =
    absurd (none-some sheet there)
end_changed (group ∷ groups) [] ends k sheet season end there season_there each is = absurd each
end_changed (group ∷ groups) (own ∷ seasons) [] k sheet season end there season_there each is =
    absurd each
end_changed (group ∷ groups) (own ∷ seasons) (one ∷ ends) zero sheet season end there season_there
    each is =
    let same = same_Some group sheet there in
    let same_season = same_Some own season season_there in (
      subst (λ (it : Results). IsGroupEnd group it end) (sym same_season)
          (subst (λ (it : Sheet). IsGroupEnd it season end) (sym same) is),
      each.1,
    )
end_changed (group ∷ groups) (own ∷ seasons) (one ∷ ends) (suc k) sheet season end there
    season_there each is = (
      each.0,
      end_changed groups seasons ends k sheet season end there season_there each.1 is,
    )

-- as many ends as groups
pub ends_count : (groups : List Sheet) (seasons : List Results) (ends : List Example)
    → AreGroupEnds groups seasons ends → length ends ≡ length groups
ends_count [] [] [] each = refl
ends_count [] [] (end ∷ ends) each = absurd each
ends_count [] (season ∷ seasons) ends each = absurd each
ends_count (group ∷ groups) [] ends each = absurd each
ends_count (group ∷ groups) (season ∷ seasons) [] each = absurd each
ends_count (group ∷ groups) (season ∷ seasons) (end ∷ ends) each =
    ap suc (ends_count groups seasons ends each.1)

-- a group that is there is one of as many
there_below : (groups : List Sheet) (k : ℕ) (sheet : Sheet) → slice_get groups k ≡ Some sheet
    → k < length groups
there_below [] k sheet there = absurd (none-some sheet there)
there_below (group ∷ groups) zero sheet there = omega arith
there_below (group ∷ groups) (suc k) sheet there =
    let rest = there_below groups k sheet there in
    omega (arith, rest)

-- groups that are shown stay so if a later end is changed
shown_stay : (cup : Cup) (ends : List Example) (claim : Claim) (mine : ℕ) (key : List ℤ)
    (shown : List ℕ) (bound : ℕ) (end : Example) → AreRisingTo bound shown
    → All (IsShownGroup cup ends claim mine key) shown
    → All (IsShownGroup cup (slice_set ends bound end) claim mine key) shown
shown_stay cup ends claim mine key shown bound end rise are k d inside =
    let one = are k d inside in
    let number = slice_index_or shown k d in
    let less = rise.below k d inside in
    let other : number ≢ bound = λ same. omega (arith, less, same) in
    (one.0, one.1, one.2, slice_get-set_other ends bound number end other ∙ one.3, one.4, one.5)

-- ---- the group that is not asked

own_stays : (mine count : ℕ) → not (count == mine) ≡ true
    → own_among mine (count + 1) ≡ own_among mine count
own_stays mine count differ = grind (arith, nat_tests, differ)

own_passed : (mine : ℕ) → own_among mine (mine + 1) ≡ own_among mine mine + 1
own_passed mine = grind (arith, nat_tests)

-- ---- one group more

-- none at first
pub none_surveyed : (cup : Cup) (seasons : List Results) (claim : Claim) (key : List ℤ) (mine : ℕ)
    (before : List Example) (survey : GroupSurvey) → AreGroupEnds cup.groups seasons before
    → survey.ends.items ≡ before → survey.shown.items ≡ [] → survey.listed.items ≡ []
    → survey.unknown ≡ None → IsSurveyed cup seasons claim key mine before 0 survey
none_surveyed cup seasons claim key mine before survey each ends shown listed unknown =
    record {
      each = subst (λ (it : List Example). AreGroupEnds cup.groups seasons it) (sym ends) each;
      own = ap (λ it. slice_get it mine) ends;
      shown_rise = subst (λ (it : List ℕ). AreRisingTo 0 it) (sym shown) nothing;
      shown = subst (λ (it : List ℕ). All (IsShownGroup cup survey.ends.items claim mine key) it)
          (sym shown) (λ k d inside. absurd (omega (arith, inside)));
      listed_rise = subst (λ (it : List EmptyGroup). AreRisingTo 0 (group_numbers it)) (sym listed)
          nothing;
      listed = subst (λ (it : List EmptyGroup). All (IsEmptyGroup cup seasons claim key mine) it)
          (sym listed) (λ k d inside. absurd (omega (arith, inside)));
      counted = subst (λ (it : Option OpenGroup). AreAllCounted cup seasons claim key mine 0
          (length survey.shown.items) (length survey.listed.items) it) (sym unknown)
          (omega (arith, ap length shown, ap length listed, no_own mine));
    }
  where
    nothing : AreRisingTo 0 []
    nothing = record { rising = tt; below = λ k d inside. absurd (omega (arith, inside)) }

    no_own : (mine : ℕ) → own_among mine 0 ≡ 0
    no_own mine = grind (arith, nat_tests)

-- the club's own group is passed over
pub own_surveyed : (cup : Cup) (seasons : List Results) (claim : Claim) (key : List ℤ)
    (mine : ℕ) (before : List Example) (count : ℕ) (survey : GroupSurvey) → count ≡ mine
    → IsSurveyed cup seasons claim key mine before count survey
    → IsSurveyed cup seasons claim key mine before (count + 1) survey
own_surveyed cup seasons claim key mine before count survey same is = record {
  each = is.each;
  own = is.own;
  shown_rise = rise_on count survey.shown.items is.shown_rise;
  shown = is.shown;
  listed_rise = rise_on count (group_numbers survey.listed.items) is.listed_rise;
  listed = is.listed;
  counted = more survey.unknown is.counted;
}
  where
    more : (unknown : Option OpenGroup)
        → AreAllCounted cup seasons claim key mine count (length survey.shown.items)
        (length survey.listed.items) unknown
        → AreAllCounted cup seasons claim key mine (count + 1) (length survey.shown.items)
        (length survey.listed.items) unknown
    more None counted = omega (
      arith,
      counted,
      own_passed mine,
      ap (λ (n : ℕ). own_among mine (n + 1)) same,
      ap (own_among mine) same,
    )
    more (Some group) counted = counted

-- another count of those that are known
count_more : (cup : Cup) (seasons : List Results) (claim : Claim) (key : List ℤ)
    (mine count shown listed more_shown more_listed : ℕ) (unknown : Option OpenGroup)
    → not (count == mine) ≡ true → more_shown + more_listed ≡ shown + listed + 1
    → AreAllCounted cup seasons claim key mine count shown listed unknown
    → AreAllCounted cup seasons claim key mine (count + 1) more_shown more_listed unknown
count_more cup seasons claim key mine count shown listed more_shown more_listed None differ more
    counted =
    omega (arith, more, counted, own_stays mine count differ)
count_more cup seasons claim key mine count shown listed more_shown more_listed (Some group) differ
    more counted =
    counted

-- a group that is asked
pub group_surveyed : (cup : Cup) (seasons : List Results) (claim : Claim) (key : List ℤ)
    (mine : ℕ) (before : List Example) (count : ℕ) (sheet : Sheet) (season : Results)
    (asked : GroupAsked) (old new : GroupSurvey)
    → IsOtherGroup cup seasons mine count sheet season
    → IsGroupAsked sheet season claim key asked
    → IsSurveyed cup seasons claim key mine before count old → IsGroupNoted count asked old new
    → IsSurveyed cup seasons claim key mine before (count + 1) new
group_surveyed cup seasons claim key mine before count sheet season (Shown end) old new other asked
    is noted =
    let changed = slice_set old.ends.items count end in
    let inside = there_below cup.groups count sheet other.there in
    let many = ends_count cup.groups seasons old.ends.items is.each in
    let elsewhere : mine ≢ count = λ same. false≢true (ap not (sym (eq-eqb count mine (sym same)))
    ∙ other.differ) in
    let here : IsShownGroup cup changed claim mine key count = (
      sheet,
      end,
      other.there,
      slice_get-set_same old.ends.items count (slice_index_or old.ends.items count end) end
          (get_there old.ends.items count end (omega (arith, inside, many))),
      other.differ,
      asked.1,
    ) in
    let shown : All (IsShownGroup cup changed claim mine key) (old.shown.items ++ count ∷ []) =
    all_pushed (IsShownGroup cup changed claim mine key) old.shown.items count
    (shown_stay cup old.ends.items claim mine key old.shown.items count end is.shown_rise is.shown)
    here in
    record {
      each = subst (λ (it : List Example). AreGroupEnds cup.groups seasons it) (sym noted.0)
          (end_changed cup.groups seasons old.ends.items count sheet season end other.there
          other.season_there is.each asked.0);
      own = ap (λ (it : List Example). slice_get it mine) noted.0
          ∙ slice_get-set_other old.ends.items count mine end elsewhere ∙ is.own;
      shown_rise = subst (λ (it : List ℕ). AreRisingTo (count + 1) it) (sym noted.1)
          (rise_next count old.shown.items is.shown_rise);
      shown = subst (λ (it : List ℕ). All (IsShownGroup cup new.ends.items claim mine key) it)
          (sym noted.1) (subst (λ (it : List Example). All (IsShownGroup cup it claim mine key)
          (old.shown.items ++ count ∷ [])) (sym noted.0) shown);
      listed_rise = subst (λ (it : List EmptyGroup). AreRisingTo (count + 1) (group_numbers it))
          (sym noted.2) (rise_on count (group_numbers old.listed.items) is.listed_rise);
      listed = subst (λ (it : List EmptyGroup). All (IsEmptyGroup cup seasons claim key mine) it)
          (sym noted.2) is.listed;
      counted = subst (λ (it : Option OpenGroup). AreAllCounted cup seasons claim key mine
          (count + 1) (length new.shown.items) (length new.listed.items) it) (sym noted.3)
          (count_more cup seasons claim key mine count (length old.shown.items)
          (length old.listed.items) (length new.shown.items) (length new.listed.items) old.unknown
          other.differ (omega (
            arith,
            ap length noted.1,
            ap length noted.2,
            length-append old.shown.items (count ∷ []),
          )) is.counted);
    }
group_surveyed cup seasons claim key mine before count sheet season (Refuted trees) old new other
    asked is noted =
    let group : EmptyGroup = record { group = count; trees = trees } in
    let empty : IsEmptyGroup cup seasons claim key mine group = record {
      sheet = sheet;
      season = season;
      other = other;
      count = asked.0;
      refuted = asked.1;
    } in
    let numbers : group_numbers (old.listed.items ++ group ∷ [])
    ≡ group_numbers old.listed.items ++ count ∷ [] =
    map-append (λ (it : EmptyGroup). it.group) old.listed.items (group ∷ []) in
    record {
      each = subst (λ (it : List Example). AreGroupEnds cup.groups seasons it) (sym noted.0)
          is.each;
      own = ap (λ (it : List Example). slice_get it mine) noted.0 ∙ is.own;
      shown_rise = subst (λ (it : List ℕ). AreRisingTo (count + 1) it) (sym noted.1)
          (rise_on count old.shown.items is.shown_rise);
      shown = subst (λ (it : List ℕ). All (IsShownGroup cup new.ends.items claim mine key) it)
          (sym noted.1) (subst (λ (it : List Example). All (IsShownGroup cup it claim mine key)
          old.shown.items) (sym noted.0) is.shown);
      listed_rise = subst (λ (it : List EmptyGroup). AreRisingTo (count + 1) (group_numbers it))
          (sym noted.2) (subst (λ (it : List ℕ). AreRisingTo (count + 1) it) (sym numbers)
          (rise_next count (group_numbers old.listed.items) is.listed_rise));
      listed = subst (λ (it : List EmptyGroup). All (IsEmptyGroup cup seasons claim key mine) it)
          (sym noted.2) (all_pushed (IsEmptyGroup cup seasons claim key mine) old.listed.items group
          is.listed empty);
      counted = subst (λ (it : Option OpenGroup). AreAllCounted cup seasons claim key mine
          (count + 1) (length new.shown.items) (length new.listed.items) it) (sym noted.3)
          (count_more cup seasons claim key mine count (length old.shown.items)
          (length old.listed.items) (length new.shown.items) (length new.listed.items) old.unknown
          other.differ (omega (
            arith,
            ap length noted.1,
            ap length noted.2,
            length-append old.listed.items (group ∷ []),
          )) is.counted);
    }
group_surveyed cup seasons claim key mine before count sheet season (Spent spent) old new other
    asked is noted =
    let group : OpenGroup = record { group = count; spent = spent } in
    let unknown : IsOpenGroup cup seasons claim key mine group =
    record { sheet = sheet; season = season; other = other; spent = asked } in
    record {
      each = subst (λ (it : List Example). AreGroupEnds cup.groups seasons it) (sym noted.0)
          is.each;
      own = ap (λ (it : List Example). slice_get it mine) noted.0 ∙ is.own;
      shown_rise = subst (λ (it : List ℕ). AreRisingTo (count + 1) it) (sym noted.1)
          (rise_on count old.shown.items is.shown_rise);
      shown = subst (λ (it : List ℕ). All (IsShownGroup cup new.ends.items claim mine key) it)
          (sym noted.1) (subst (λ (it : List Example). All (IsShownGroup cup it claim mine key)
          old.shown.items) (sym noted.0) is.shown);
      listed_rise = subst (λ (it : List EmptyGroup). AreRisingTo (count + 1) (group_numbers it))
          (sym noted.2) (rise_on count (group_numbers old.listed.items) is.listed_rise);
      listed = subst (λ (it : List EmptyGroup). All (IsEmptyGroup cup seasons claim key mine) it)
          (sym noted.2) is.listed;
      counted = subst (λ (it : Option OpenGroup). AreAllCounted cup seasons claim key mine
          (count + 1) (length new.shown.items) (length new.listed.items) it) (sym noted.3) unknown;
    }

-- ---- when all are asked, or enough

-- so many groups show a side, and so many refute it: together as many as there are
both_sides : (cup : Cup) (claim : Claim) → IsCup cup
    → shown_groups cup claim + listed_groups cup claim ≡ length cup.groups
both_sides cup Outside is_cup = omega (arith, is_cup.most_quota)
both_sides cup Inside is_cup = omega (arith, is_cup.most_quota)

-- where all are counted, and neither many enough, one is not known
some_unknown : (cup : Cup) (seasons : List Results) (claim : Claim) (key : List ℤ)
    (mine count shown listed : ℕ) (unknown : Option OpenGroup) → IsCup cup
    → count ≡ length cup.groups → mine < count → shown < shown_groups cup claim
    → listed < listed_groups cup claim
    → AreAllCounted cup seasons claim key mine count shown listed unknown → IsSome unknown
some_unknown cup seasons claim key mine count shown listed (Some group) is_cup all inside
    few_shown few_listed known =
    refl
some_unknown cup seasons claim key mine count shown listed None is_cup all inside few_shown
    few_listed known =
    let own : own_among mine count ≡ 1 =
    ap (λ (b : Bool). if b then 1 else 0) (lt-ltb mine count inside) in
    absurd (omega (arith, all, known, own, few_shown, few_listed, both_sides cup claim is_cup))

pub one_is_open : (cup : Cup) (seasons : List Results) (claim : Claim) (key : List ℤ) (mine : ℕ)
    (before : List Example) (survey : GroupSurvey) → IsCup cup → mine < length cup.groups
    → IsSurveyOver cup seasons claim key mine before survey
    → length survey.shown.items < shown_groups cup claim
    → length survey.listed.items < listed_groups cup claim → IsSome survey.unknown
one_is_open cup seasons claim key mine before survey is_cup inside over few_shown few_listed =
    elim over.over as (λ _. IsSome survey.unknown) [
      | inl all ↦ some_unknown cup seasons claim key mine over.count
          (length survey.shown.items) (length survey.listed.items) survey.unknown is_cup all
          (omega (arith, all, inside)) few_shown few_listed over.asked.counted
      | inr (inl enough) ↦ absurd (omega (arith, enough, few_shown))
      | inr (inr enough) ↦ absurd (omega (arith, enough, few_listed))
    ]
