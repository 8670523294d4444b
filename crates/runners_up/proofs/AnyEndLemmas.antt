-- Ends of groups one by one.
use Rattle.std.proofs.Common.{◌≡◌, ◌<◌, ◌≤◌, ℕ, zero, suc, ◌+◌, List, [], ◌∷◌, ◌++◌, length, take}
use Rattle.std.proofs.Common.{refl, sym, ap, subst, arith, slice_index_or}
use Rattle.std.specs.Prelude.{All}
use Rattle.league_core.specs.declared.sheet.Sheet.{Sheet}
use Rattle.league_core.specs.game.Results.{Results}
use Rattle.league_core.specs.game.Seasons.{IsLeague, IsSeasonOf}
use Rattle.tree_arena.specs.declared.example.Example.{Example}
use Rattle.cup_sheet.specs.Cups.{IsGroup, AreSeasonsOf}
use Rattle.runners_up.specs.inside.JointEnds.{IsGroupEnd, AreGroupEnds}

-- one group more
ends_next : (groups : List Sheet) (seasons : List Results) (ends : List Example) (k : ℕ)
    (sheet : Sheet) (season : Results) (end : Example) → k < length groups → k < length seasons
    → AreGroupEnds (take k groups) (take k seasons) ends
    → IsGroupEnd (slice_index_or groups k sheet) (slice_index_or seasons k season) end
    → AreGroupEnds (take (suc k) groups) (take (suc k) seasons) (ends ++ end ∷ [])
ends_next [] seasons ends k sheet season end inside seasons_in each is =
    absurd (omega (arith, inside))
ends_next (group ∷ groups) [] ends k sheet season end inside seasons_in each is =
    absurd (omega (arith, seasons_in))
ends_next (group ∷ groups) (own ∷ seasons) [] zero sheet season end inside seasons_in each is =
    (is, tt)
ends_next (group ∷ groups) (own ∷ seasons) (one ∷ ends) zero sheet season end inside seasons_in each
    is =
    absurd each
ends_next (group ∷ groups) (own ∷ seasons) [] (suc k) sheet season end inside seasons_in each is =
    absurd each
ends_next (group ∷ groups) (own ∷ seasons) (one ∷ ends) (suc k) sheet season end inside seasons_in
    each is = (
      each.0,
      ends_next groups seasons ends k sheet season end (omega (arith, inside))
          (omega (arith, seasons_in)) each.1 is,
    )

pub group_ends-next : (groups : List Sheet) (seasons : List Results) (ends : List Example) (k : ℕ)
    (sheet : Sheet) (season : Results) (end : Example) → k < length groups → k < length seasons
    → sheet ≡ slice_index_or groups k sheet → season ≡ slice_index_or seasons k season
    → AreGroupEnds (take k groups) (take k seasons) ends → IsGroupEnd sheet season end
    → AreGroupEnds (take (k + 1) groups) (take (k + 1) seasons) (ends ++ end ∷ [])
group_ends-next groups seasons ends k sheet season end inside seasons_in is season_is each group =
    let next : suc k ≡ k + 1 = omega arith in
    subst (λ (n : ℕ). AreGroupEnds (take n groups) (take n seasons) (ends ++ end ∷ [])) next
    (ends_next groups seasons ends k sheet season end inside seasons_in each
    (subst (λ (it : Results). IsGroupEnd (slice_index_or groups k sheet) it end) season_is
    (subst (λ (it : Sheet). IsGroupEnd it season end) is group)))

-- none at first
pub group_ends-none : (groups : List Sheet) (seasons : List Results)
    → AreGroupEnds (take 0 groups) (take 0 seasons) []
group_ends-none groups seasons = tt

-- a list is its first elements, as many as it has
pub take_whole : {X : Type 0} (xs : List X) (n : ℕ) → length xs ≤ n → take n xs ≡ xs
take_whole [] zero all = refl
take_whole [] (suc n) all = refl
take_whole (x ∷ xs) zero all = absurd (omega (arith, all))
take_whole (x ∷ xs) (suc n) all = ap (λ it. x ∷ it) (take_whole xs n (omega (arith, all)))

-- as many seasons as groups
pub seasons_count : (groups : List Sheet) (seasons : List Results) → AreSeasonsOf groups seasons
    → length seasons ≡ length groups
seasons_count [] [] of_sheets = refl
seasons_count [] (season ∷ seasons) of_sheets = absurd of_sheets
seasons_count (group ∷ groups) [] of_sheets = absurd of_sheets
seasons_count (group ∷ groups) (season ∷ seasons) of_sheets =
    ap suc (seasons_count groups seasons of_sheets.1)

-- each group with its season is a league
pub each_league : (goal_limit budget : ℕ) (groups : List Sheet) (seasons : List Results) (k : ℕ)
    (sheet : Sheet) (season : Results) → All (IsGroup goal_limit budget) groups
    → AreSeasonsOf groups seasons → k < length groups
    → sheet ≡ slice_index_or groups k sheet → season ≡ slice_index_or seasons k season
    → IsLeague sheet season
each_league goal_limit budget groups seasons k sheet season are of_sheets inside is season_is =
    record {
      limits = (subst (IsGroup goal_limit budget) (sym is) (are k sheet inside)).limits;
      of_sheet = subst (λ (it : Results). IsSeasonOf sheet it) (sym season_is)
          (subst (λ (it : Sheet). IsSeasonOf it (slice_index_or seasons k season)) (sym is)
          (season_at groups seasons k sheet season of_sheets inside));
    }
  where
    season_at : (groups : List Sheet) (seasons : List Results) (k : ℕ) (sheet : Sheet)
        (season : Results) → AreSeasonsOf groups seasons → k < length groups
        → IsSeasonOf (slice_index_or groups k sheet) (slice_index_or seasons k season)
    season_at [] seasons k sheet season of_sheets inside = absurd (omega (arith, inside))
    season_at (group ∷ groups) [] k sheet season of_sheets inside = absurd of_sheets
    season_at (group ∷ groups) (own ∷ seasons) zero sheet season of_sheets inside = of_sheets.0
    season_at (group ∷ groups) (own ∷ seasons) (suc k) sheet season of_sheets inside =
        season_at groups seasons k sheet season of_sheets.1 (omega (arith, inside))
