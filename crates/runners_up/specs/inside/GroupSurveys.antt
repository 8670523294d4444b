-- What all other groups come to, for a key: which have a candidate on the far side, which cannot
-- have one, and of which it is not known.
use Rattle.std.specs.Prelude.{◌≡◌, ◌⊎◌, ◌<◌, ◌≤◌, ℕ, ◌+◌, ℤ, not, ◌==◌, nat_lt, if◌then◌else◌}
use Rattle.std.specs.Prelude.{IsTrue, List, []}
use Rattle.std.specs.Prelude.{◌∷◌, ◌++◌, length, map, All, slice_get, slice_set, Some, Option, None}
use Rattle.league_core.specs.declared.sheet.Sheet.{Sheet}
use Rattle.league_core.specs.declared.question.Claim.{Claim}
use Rattle.league_core.specs.game.Results.{Results}
use Rattle.tree_arena.specs.declared.example.Example.{Example}
use Rattle.cup_sheet.specs.declared.cup.Cup.{Cup}
use Rattle.cup_sheet.specs.CupAnswers.{AreRising, listed_groups, shown_groups}
use Rattle.runners_up.specs.declared.others.GroupAsked.{GroupAsked}
use Rattle.runners_up.specs.declared.others.GroupAsked.TheVariants.{Shown, Refuted, Spent}
use Rattle.runners_up.specs.declared.survey.EmptyGroup.{EmptyGroup}
use Rattle.runners_up.specs.declared.survey.OpenGroup.{OpenGroup}
use Rattle.runners_up.specs.declared.survey.GroupSurvey.{GroupSurvey}
use Rattle.runners_up.specs.inside.GroupsAsked.{AreClubsRefuted, IsSpentOnClub}
use Rattle.runners_up.specs.inside.JointEnds.{AreGroupEnds, IsShownGroup}

-- the number is that of another group, with its season
pub record IsOtherGroup (cup : Cup) (seasons : List Results) (mine number : ℕ) (sheet : Sheet)
    (season : Results) : Type 0 where
  pub there : slice_get cup.groups number ≡ Some sheet
  pub season_there : slice_get seasons number ≡ Some season
  pub differ : IsTrue (not (number == mine))

-- no club of the group can be its candidate on the far side
pub record IsEmptyGroup (cup : Cup) (seasons : List Results) (claim : Claim) (key : List ℤ)
    (mine : ℕ) (group : EmptyGroup) : Type 0 where
  pub sheet : Sheet
  pub season : Results
  pub other : IsOtherGroup cup seasons mine group.group sheet season
  pub count : length group.trees.items ≡ length sheet.clubs
  pub refuted : AreClubsRefuted sheet season claim key group.trees.items

-- the budget was spent on a question about a club of the group
pub record IsOpenGroup (cup : Cup) (seasons : List Results) (claim : Claim) (key : List ℤ)
    (mine : ℕ) (group : OpenGroup) : Type 0 where
  pub sheet : Sheet
  pub season : Results
  pub other : IsOtherGroup cup seasons mine group.group sheet season
  pub spent : IsSpentOnClub sheet season claim key group.spent

-- numbers in their order, all less than a bound
pub record AreRisingTo (bound : ℕ) (numbers : List ℕ) : Type 0 where
  pub rising : AreRising 0 numbers
  pub below : All (λ (number : ℕ). number < bound) numbers

-- the numbers of groups
abbrev pub group_numbers : List EmptyGroup → List ℕ
group_numbers groups = map (λ (group : EmptyGroup). group.group) groups

-- a group is passed over: the club's own, if it is one of the first so many
abbrev pub own_among : ℕ → ℕ → ℕ
own_among mine count = if nat_lt mine count then 1 else 0

-- each of the groups is known, or one is not
abbrev pub AreAllCounted : Cup → List Results → Claim → List ℤ → ℕ → ℕ → ℕ → ℕ → Option OpenGroup
    → Type 0
AreAllCounted cup seasons claim key mine count shown listed None =
    shown + listed + own_among mine count ≡ count
AreAllCounted cup seasons claim key mine count shown listed (Some group) =
    IsOpenGroup cup seasons claim key mine group

-- what the first groups, so many, came to, if the ends were these before
pub record IsSurveyed (cup : Cup) (seasons : List Results) (claim : Claim) (key : List ℤ)
    (mine : ℕ) (before : List Example) (count : ℕ) (survey : GroupSurvey) : Type 0 where
  pub each : AreGroupEnds cup.groups seasons survey.ends.items
  pub own : slice_get survey.ends.items mine ≡ slice_get before mine
  pub shown_rise : AreRisingTo count survey.shown.items
  pub shown : All (IsShownGroup cup survey.ends.items claim mine key) survey.shown.items
  pub listed_rise : AreRisingTo count (group_numbers survey.listed.items)
  pub listed : All (IsEmptyGroup cup seasons claim key mine) survey.listed.items
  pub counted : AreAllCounted cup seasons claim key mine count (length survey.shown.items)
      (length survey.listed.items) survey.unknown

-- as many groups are shown as show the side, or as many are listed as refute it
abbrev pub AreGroupsEnough : Cup → Claim → ℕ → ℕ → Type 0
AreGroupsEnough cup claim shown listed =
    (shown_groups cup claim ≤ shown) ⊎ (listed_groups cup claim ≤ listed)

-- what the groups came to that were asked: all of them, or enough
pub record IsSurveyOver (cup : Cup) (seasons : List Results) (claim : Claim) (key : List ℤ)
    (mine : ℕ) (before : List Example) (survey : GroupSurvey) : Type 0 where
  pub count : ℕ
  pub asked : IsSurveyed cup seasons claim key mine before count survey
  pub over : (count ≡ length cup.groups)
      ⊎ AreGroupsEnough cup claim (length survey.shown.items) (length survey.listed.items)

-- one group more is kept
abbrev pub IsGroupNoted : ℕ → GroupAsked → GroupSurvey → GroupSurvey → Type 0
IsGroupNoted group (Shown end) old new =
    (new.ends.items ≡ slice_set old.ends.items group end)
    × (new.shown.items ≡ old.shown.items ++ group ∷ [])
    × (new.listed.items ≡ old.listed.items) × (new.unknown ≡ old.unknown)
IsGroupNoted group (Refuted trees) old new =
    (new.ends.items ≡ old.ends.items) × (new.shown.items ≡ old.shown.items)
    × (new.listed.items ≡ old.listed.items
    ++ record { group = group; trees = trees } ∷ [])
    × (new.unknown ≡ old.unknown)
IsGroupNoted group (Spent spent) old new =
    (new.ends.items ≡ old.ends.items) × (new.shown.items ≡ old.shown.items)
    × (new.listed.items ≡ old.listed.items)
    × (new.unknown ≡ Some (record { group = group; spent = spent }))
