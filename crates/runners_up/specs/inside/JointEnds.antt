-- How a cup ends if each of its groups ends in a given way: the finishes of all groups, and lots of
-- all clubs. These are the lots of the groups one after another, but that the clubs of one group
-- are drawn before all others, or after them; and what such an end shows of a club of that group.
use Rattle.std.specs.Prelude.{◌≡◌, ◌⊎◌, ◌<◌, ◌≤◌, ℕ, ◌+◌, ℤ, Bool, true, false, not}
use Rattle.std.specs.Prelude.{◌==◌}
use Rattle.std.specs.Prelude.{IsTrue, List, [], ◌∷◌, ◌++◌, length, map, filter, All, slice_get}
use Rattle.std.specs.Prelude.{Some}
use Rattle.league_core.specs.declared.sheet.Sheet.{Sheet}
use Rattle.league_core.specs.declared.question.Claim.{Claim}
use Rattle.league_core.specs.declared.question.Claim.TheVariants.{Inside, Outside}
use Rattle.league_core.specs.game.Results.{Results}
use Rattle.league_core.specs.game.Finishes.{IsFinishOf}
use Rattle.league_core.specs.game.Ranking.{are_lots, place_of}
use Rattle.league_core.specs.search.Keys.{key_of}
use Rattle.tree_arena.specs.declared.example.Example.{Example}
use Rattle.cup_sheet.specs.declared.cup.Cup.{Cup}
use Rattle.cup_sheet.specs.CupLimits.{direct_places}
use Rattle.cup_sheet.specs.Cups.{IsCup}
use Rattle.cup_sheet.specs.JointFinishes.{ClubBlock, is_in_block}
use Rattle.cup_sheet.specs.GroupQuestions.{holds_in_group}
use Rattle.cup_sheet.specs.KeyBounds.{place_kind, others_kind}
use Rattle.cup_sheet.specs.CupAnswers.{AreRising, IsCupExample, shown_groups}
use Rattle.cup_groups.specs.GroupStarts.{clubs_before}

-- ---- how the groups end

-- a group may end so: a finish of its season, and lots of its clubs
pub record IsGroupEnd (sheet : Sheet) (season : Results) (end : Example) : Type 0 where
  pub is_finish : IsFinishOf sheet season end.finish
  pub is_drawn : IsTrue (are_lots (length sheet.clubs) end.lots)

-- each of the groups may, and there is one end for each
abbrev pub AreGroupEnds : List Sheet → List Results → List Example → Type 0
AreGroupEnds [] [] [] = Unit {0}
AreGroupEnds (group ∷ groups) (season ∷ seasons) (end ∷ ends) =
    IsGroupEnd group season end × AreGroupEnds groups seasons ends
AreGroupEnds _ _ _ = ⊥

-- the finish of each group
abbrev pub group_finishes : List Example → List Results
group_finishes ends = map (λ (end : Example). end.finish) ends

-- the clubs of a group among those of the cup, by the group's number
abbrev pub block_of : List Sheet → ℕ → Sheet → ClubBlock
block_of groups number group =
    record { first = clubs_before groups number; count = length group.clubs }

-- ---- lots of all clubs

-- the lots of the groups one after another, the first club of them having this number in the cup
abbrev pub lots_from : ℕ → List Example → List ℕ
lots_from first [] = []
lots_from first (end ∷ ends) =
    map (λ (club : ℕ). first + club) end.lots ++ lots_from (first + length end.lots) ends

-- a club is drawn early: for qualifying one of the group, for missing one of another
abbrev pub is_drawn_early : Claim → ClubBlock → ℕ → Bool
is_drawn_early Inside block club = is_in_block block club
is_drawn_early Outside block club = not (is_in_block block club)

-- it is drawn early, or it is not
abbrev pub is_in_turn : Claim → ClubBlock → Bool → ℕ → Bool
is_in_turn claim block true club = is_drawn_early claim block club
is_in_turn claim block false club = not (is_drawn_early claim block club)

-- lots of the cup: those of the groups, the clubs that are drawn early before all others
abbrev pub joint_lots : Claim → ClubBlock → List Example → List ℕ
joint_lots claim block ends =
    filter (is_in_turn claim block true) (lots_from 0 ends)
    ++ filter (is_in_turn claim block false) (lots_from 0 ends)

-- ---- what is shown by it

-- a club of a group is its candidate, for missing with a key no less than this one, for qualifying
-- with one no greater
abbrev pub HasFarCandidate : Claim → List ℤ → Sheet → Example → Type 0
HasFarCandidate claim key sheet end =
    (other : ℕ) × (other < length sheet.clubs)
    × IsTrue (holds_in_group direct_places sheet
    (record { kind = others_kind claim; club = other; key = key }) end.finish end.lots)

-- the number is that of another group that has one
abbrev pub IsShownGroup : Cup → List Example → Claim → ℕ → List ℤ → ℕ → Type 0
IsShownGroup cup ends claim mine key number =
    (sheet : Sheet) × (end : Example) × (slice_get cup.groups number ≡ Some sheet)
    × (slice_get ends number ≡ Some end) × IsTrue (not (number == mine))
    × HasFarCandidate claim key sheet end

-- the club is its group's candidate, and so many other groups have one on the far side of its key
pub record IsShownByKey (cup : Cup) (ends : List Example) (claim : Claim) (mine own : ℕ)
    (sheet : Sheet) (end : Example) : Type 0 where
  pub candidate : place_of sheet end.finish end.lots own ≡ direct_places + 1
  pub shown : List ℕ
  pub count : shown_groups cup claim ≤ length shown
  pub rising : AreRising 0 shown
  pub others : All (IsShownGroup cup ends claim mine (key_of sheet end.finish own)) shown

-- its place alone shows the side, or its key
abbrev pub IsSideShown : Cup → List Example → Claim → ℕ → ℕ → Sheet → Example → Type 0
IsSideShown cup ends claim mine own sheet end =
    IsTrue (holds_in_group direct_places sheet
    (record { kind = place_kind claim; club = own; key = [] }) end.finish end.lots)
    ⊎ IsShownByKey cup ends claim mine own sheet end

-- the club of the cup is one of the group with this number, by its own number there
pub record IsClubAt (cup : Cup) (club mine own : ℕ) (sheet : Sheet) : Type 0 where
  pub there : slice_get cup.groups mine ≡ Some sheet
  pub inside : own < length sheet.clubs
  pub number : club ≡ clubs_before cup.groups mine + own

-- where the ends of the groups show a side for a club, the cup's end is an example of it
abbrev pub JointEndsShow : Type 0
JointEndsShow =
    (cup : Cup) (seasons : List Results) (ends : List Example) (claim : Claim)
    (club mine own : ℕ) (sheet : Sheet) (end : Example) → IsCup cup
    → AreGroupEnds cup.groups seasons ends → IsClubAt cup club mine own sheet
    → slice_get ends mine ≡ Some end → IsSideShown cup ends claim mine own sheet end
    → IsCupExample cup seasons claim club (group_finishes ends)
    (joint_lots claim (block_of cup.groups mine sheet) ends)
