-- The lines of a joint finish, fixture by fixture and group by group.
use Rattle.std.proofs.Common.{◌≡◌, ℕ, ◌+◌, ◌<◌, ◌≤◌, suc, zero, List, [], ◌∷◌, ◌++◌, length, take}
use Rattle.std.proofs.Common.{get_or, slice_index_or, Option, None, ap, sym, ◌∙◌, arith, refl, ◌*◌}
use Rattle.std.proofs.lemmas.List.{append_assoc, append-nil, take_more, length-take-le, take_all}
use Rattle.std.specs.Prelude.{All}
use Rattle.league_core.specs.declared.season.Score.{Score}
use Rattle.league_core.specs.declared.sheet.Sheet.{Sheet}
use Rattle.league_core.specs.game.Results.{Results}
use Rattle.league_core.proofs.FinishLemmas.{may_all_end-length}
use Rattle.cup_sheet.specs.declared.cup.Cup.{Cup}
use Rattle.cup_sheet.specs.Cups.{IsCup, IsGroup, AreSeasonsOf}
use Rattle.cup_sheet.specs.JointFinishes.{AreFinishesOf}
use Rattle.runners_up.specs.inside.JointEnds.{group_finishes}
use Rattle.tree_arena.specs.declared.example.Example.{Example}
use Rattle.cup_text.specs.declared.cup_line.CupLine.{CupLine}
use Rattle.cup_text.specs.CupItems.{cup_score_if, group_scores_from, joint_scores_from}
use Rattle.cup_rows.specs.inside.JointLines.{scores_together, AreEndsAlike}

-- one more fixture
group_scores-push : (fixture : ℕ) (season finish : List (Option Score))
    (played ended : Option Score) → length finish ≡ length season
    → group_scores_from fixture (season ++ played ∷ []) (finish ++ ended ∷ [])
    ≡ group_scores_from fixture season finish
    ++ cup_score_if (fixture + length season) played ended
group_scores-push fixture [] [] played ended same =
    let here : fixture + 0 ≡ fixture = omega arith in
    append-nil (cup_score_if fixture played ended)
    ∙ ap (λ n. cup_score_if n played ended) (sym here)
group_scores-push fixture [] (other ∷ finish) played ended same = absurd (omega (arith, same))
group_scores-push fixture (other ∷ season) [] played ended same = absurd (omega (arith, same))
group_scores-push fixture (first ∷ season) (last ∷ finish) played ended same =
    let line = cup_score_if fixture first last in
    let lines = group_scores_from (fixture + 1) season finish in
    let there : fixture + 1 + length season ≡ fixture + length (first ∷ season) = omega arith in
    ap (λ t. line ++ t)
    (group_scores-push (fixture + 1) season finish played ended (omega (arith, same)))
    ∙ sym (append_assoc line lines (cup_score_if (fixture + 1 + length season) played ended))
    ∙ ap (λ n. (line ++ lines) ++ cup_score_if n played ended) there

-- a fixture more comes after the lines so far
pub group_scores-step : (start before after : List CupLine) (first : ℕ)
    (season finish : List (Option Score)) (i : ℕ) → i < length season
    → length finish ≡ length season
    → before ≡ start ++ group_scores_from first (take i season) (take i finish)
    → after ≡ before ++ cup_score_if (first + i) (get_or season i None) (get_or finish i None)
    → after ≡ start ++ group_scores_from first (take (i + 1) season) (take (i + 1) finish)
group_scores-step start before after first season finish i inside same before_is after_is =
    let few : length (take i season) ≡ i = length-take-le i season (omega arith) in
    let as_few : length (take i finish) ≡ i = length-take-le i finish (omega (arith, same)) in
    let lines = group_scores_from first (take i season) (take i finish) in
    let line = cup_score_if (first + i) (get_or season i None) (get_or finish i None) in
    let more : group_scores_from first (take (i + 1) season) (take (i + 1) finish)
    ≡ lines ++ line =
    ap (λ xs. group_scores_from first xs (take (i + 1) finish)) (take_more season i None inside)
    ∙ ap (group_scores_from first (take i season ++ get_or season i None ∷ []))
    (take_more finish i None (omega (arith, same)))
    ∙ group_scores-push first (take i season) (take i finish) (get_or season i None)
    (get_or finish i None) (as_few ∙ sym few)
    ∙ ap (λ n. lines ++ cup_score_if (first + n) (get_or season i None) (get_or finish i None)) few
    in
    after_is ∙ ap (λ t. t ++ line) before_is ∙ append_assoc start lines line
    ∙ ap (λ t. start ++ t) (sym more)

-- ---- groups

-- an end for each season
pub ends_as_many : (seasons : List Results) (ends : List Example) → AreEndsAlike seasons ends
    → length ends ≡ length seasons
ends_as_many [] [] alike = refl
ends_as_many [] (end ∷ ends) alike = elim alike [ ]
ends_as_many (season ∷ seasons) [] alike = elim alike [ ]
ends_as_many (season ∷ seasons) (end ∷ ends) alike = ap suc (ends_as_many seasons ends alike.1)

-- that of a group has its fixtures
pub ends_alike_at : (seasons : List Results) (ends : List Example) (group : ℕ) (season : Results)
    (end : Example) → AreEndsAlike seasons ends → group < length seasons
    → season ≡ slice_index_or seasons group season → end ≡ slice_index_or ends group end
    → length end.finish.scores ≡ length season.scores
ends_alike_at [] [] group season end alike inside here there = absurd (omega (arith, inside))
ends_alike_at [] (last ∷ ends) group season end alike inside here there = elim alike [ ]
ends_alike_at (first ∷ seasons) [] group season end alike inside here there = elim alike [ ]
ends_alike_at (first ∷ seasons) (last ∷ ends) zero season end alike inside here there =
    ap (λ (it : Example). length it.finish.scores) there ∙ alike.0
    ∙ sym (ap (λ (it : Results). length it.scores) here)
ends_alike_at (first ∷ seasons) (last ∷ ends) (suc group) season end alike inside here there =
    ends_alike_at seasons ends group season end alike.1 (omega (arith, inside)) here there

-- one group more
joint_scores-push : (fixture : ℕ) (seasons : List Results) (ends : List Example)
    (season : Results) (end : Example) → length ends ≡ length seasons
    → joint_scores_from fixture (seasons ++ season ∷ []) (group_finishes (ends ++ end ∷ []))
    ≡ joint_scores_from fixture seasons (group_finishes ends)
    ++ group_scores_from (fixture + scores_together seasons) season.scores end.finish.scores
joint_scores-push fixture [] [] season end same =
    let here : fixture + 0 ≡ fixture = omega arith in
    append-nil (group_scores_from fixture season.scores end.finish.scores)
    ∙ ap (λ n. group_scores_from n season.scores end.finish.scores) (sym here)
joint_scores-push fixture [] (other ∷ ends) season end same = absurd (omega (arith, same))
joint_scores-push fixture (other ∷ seasons) [] season end same = absurd (omega (arith, same))
joint_scores-push fixture (first ∷ seasons) (last ∷ ends) season end same =
    let line = group_scores_from fixture first.scores last.finish.scores in
    let next = fixture + length first.scores in
    let lines = joint_scores_from next seasons (group_finishes ends) in
    let there : next + scores_together seasons ≡ fixture + scores_together (first ∷ seasons) =
    omega arith in
    ap (λ t. line ++ t) (joint_scores-push next seasons ends season end (omega (arith, same)))
    ∙ sym (append_assoc line lines
    (group_scores_from (next + scores_together seasons) season.scores end.finish.scores))
    ∙ ap (λ n. (line ++ lines) ++ group_scores_from n season.scores end.finish.scores) there

-- the fixtures of one season more
pub together-next : (seasons : List Results) (group : ℕ) (season : Results)
    → group < length seasons → season ≡ slice_index_or seasons group season
    → scores_together (take (group + 1) seasons)
    ≡ scores_together (take group seasons) + length season.scores
together-next seasons group season inside here =
    ap scores_together (take_more seasons group season inside)
    ∙ pushed (take group seasons) (slice_index_or seasons group season)
    ∙ ap (λ (it : Results). scores_together (take group seasons) + length it.scores) (sym here)
  where
    pushed : (before : List Results) (last : Results)
        → scores_together (before ++ last ∷ []) ≡ scores_together before + length last.scores
    pushed [] last = omega arith
    pushed (first ∷ before) last =
        let rest = pushed before last in
        omega (arith, rest)

-- no more than all together
pub together-part : (seasons : List Results) (group : ℕ)
    → scores_together (take group seasons) ≤ scores_together seasons
together-part [] zero = omega arith
together-part [] (suc group) = omega arith
together-part (season ∷ seasons) zero = omega arith
together-part (season ∷ seasons) (suc group) =
    let rest = together-part seasons group in
    omega (arith, rest)

-- a group more comes after the lines so far
pub joint_scores-step : (start before after : List CupLine) (first : ℕ) (seasons : List Results)
    (ends : List Example) (group : ℕ) (season : Results) (end : Example)
    → group < length seasons → length ends ≡ length seasons
    → season ≡ slice_index_or seasons group season → end ≡ slice_index_or ends group end
    → first ≡ scores_together (take group seasons)
    → before ≡ start ++ joint_scores_from 0 (take group seasons) (group_finishes (take group ends))
    → after ≡ before ++ group_scores_from first season.scores end.finish.scores
    → after ≡ start
    ++ joint_scores_from 0 (take (group + 1) seasons) (group_finishes (take (group + 1) ends))
joint_scores-step start before after first seasons ends group season end inside same here there
    first_is before_is after_is =
    let few : length (take group seasons) ≡ group = length-take-le group seasons (omega arith) in
    let as_few : length (take group ends) ≡ group = length-take-le group ends (omega (arith, same))
    in
    let at : 0 + scores_together (take group seasons) ≡ first = omega (arith, first_is) in
    let lines = joint_scores_from 0 (take group seasons) (group_finishes (take group ends)) in
    let line = group_scores_from first season.scores end.finish.scores in
    let more : joint_scores_from 0 (take (group + 1) seasons)
    (group_finishes (take (group + 1) ends))
    ≡ lines ++ line =
    ap (λ xs. joint_scores_from 0 xs (group_finishes (take (group + 1) ends)))
    (take_more seasons group season inside)
    ∙ ap (λ it. joint_scores_from 0 (take group seasons ++ it ∷ [])
    (group_finishes (take (group + 1) ends)))
    (sym here)
    ∙ ap
    (λ them. joint_scores_from 0 (take group seasons ++ season ∷ []) (group_finishes them))
    (take_more ends group end (omega (arith, same)))
    ∙ ap
    (λ it. joint_scores_from 0 (take group seasons ++ season ∷ [])
    (group_finishes (take group ends ++ it ∷ [])))
    (sym there)
    ∙ joint_scores-push 0 (take group seasons) (take group ends) season end (as_few ∙ sym few)
    ∙ ap (λ n. lines ++ group_scores_from n season.scores end.finish.scores) at in
    after_is ∙ ap (λ t. t ++ line) before_is ∙ append_assoc start lines line
    ∙ ap (λ t. start ++ t) (sym more)

-- there is room for the fixtures of a group
pub joint_room : (seasons : List Results) (group : ℕ) (season : Results) (first : ℕ)
    → group < length seasons → season ≡ slice_index_or seasons group season
    → first ≡ scores_together (take group seasons) → scores_together seasons ≤ 720
    → first + length season.scores ≤ 720
joint_room seasons group season first inside here first_is few =
    omega (
      arith,
      first_is,
      together-next seasons group season inside here,
      together-part seasons (group + 1),
      few,
    )

-- after the last group the lines are those of all
pub joint_all : (start lines : List CupLine) (seasons : List Results) (ends : List Example)
    (group : ℕ) → length ends ≡ length seasons → length seasons ≤ group
    → lines ≡ start ++ joint_scores_from 0 (take group seasons) (group_finishes (take group ends))
    → lines ≡ start ++ joint_scores_from 0 seasons (group_finishes ends)
joint_all start lines seasons ends group same end is =
    is
    ∙ ap (λ xs. start ++ joint_scores_from 0 xs (group_finishes (take group ends)))
    (take_all group seasons end)
    ∙ ap (λ them. start ++ joint_scores_from 0 seasons (group_finishes them))
    (take_all group ends (omega (arith, same, end)))

-- ---- of a cup

-- the ends of a joint finish have the fixtures of the seasons
pub finishes_alike : (groups : List Sheet) (seasons : List Results) (ends : List Example)
    → AreFinishesOf groups seasons (group_finishes ends) → AreEndsAlike seasons ends
finishes_alike [] [] [] each = tt
finishes_alike [] [] (end ∷ ends) each = absurd each
finishes_alike [] (season ∷ seasons) [] each = absurd each
finishes_alike [] (season ∷ seasons) (end ∷ ends) each = absurd each
finishes_alike (group ∷ groups) [] [] each = absurd each
finishes_alike (group ∷ groups) [] (end ∷ ends) each = absurd each
finishes_alike (group ∷ groups) (season ∷ seasons) [] each = absurd each
finishes_alike (group ∷ groups) (season ∷ seasons) (end ∷ ends) each = (
  sym
      (may_all_end-length group.goal_limit season.scores end.finish.scores each.0.scores),
  finishes_alike groups seasons ends each.1,
)

-- seasons of groups have so many fixtures at most
few_scores : (goal_limit budget : ℕ) (groups : List Sheet) (seasons : List Results)
    → All (IsGroup goal_limit budget) groups → AreSeasonsOf groups seasons
    → scores_together seasons ≤ 60 * length groups
few_scores goal_limit budget [] [] all of_groups = omega arith
few_scores goal_limit budget [] (season ∷ seasons) all of_groups = absurd of_groups
few_scores goal_limit budget (group ∷ groups) [] all of_groups = absurd of_groups
few_scores goal_limit budget (group ∷ groups) (season ∷ seasons) all of_groups =
    let here = all 0 group (omega arith) in
    let rest = few_scores goal_limit budget groups seasons
    (λ k d below. all (suc k) d (omega (arith, below))) of_groups.1 in
    omega (arith, here.most_fixtures, of_groups.0.scores, rest)

-- those of a cup
pub few_cup_scores : (cup : Cup) (seasons : List Results) → IsCup cup
    → AreSeasonsOf cup.groups seasons → scores_together seasons ≤ 720
few_cup_scores cup seasons is of_cup =
    omega (
      arith,
      few_scores is.groups.0 is.groups.1 cup.groups seasons is.groups.2 of_cup,
      is.most_groups,
    )
