-- Weights of zones: how a proper split divides what there is to decide, and how many nodes a tree
-- has then.
use Rattle.std.proofs.Common.{◌≡◌, ℕ, suc, ◌+◌, ◌*◌, ◌^◌, ◌<◌, ◌≤◌, Bool, true, false, ◌==◌, List}
use Rattle.std.proofs.Common.{[], length, refl, sym, ap, ◌∙◌, subst, arith, length-append}
use Rattle.std.proofs.Math.Nat.{mul_comm, mul_assoc, pow-succ'}
use Rattle.std.proofs.lemmas.Nat.{mul-le, pow_pos}
use Rattle.std.proofs.lemmas.Bool.{and_parts, eqb-true, eq-eqb}
use Rattle.league_core.specs.declared.sheet.Sheet.{Sheet}
use Rattle.league_core.specs.declared.question.Question.{Question}
use Rattle.league_core.specs.declared.zone.Test.{Test}
use Rattle.league_core.specs.declared.zone.Test.TheVariants.{Home, Draw, HomeMost, AwayMost, Rival}
use Rattle.league_core.specs.declared.zone.Literal.{Literal}
use Rattle.league_core.specs.game.Results.{Results}
use Rattle.league_core.specs.game.Seasons.{IsSeasonOf}
use Rattle.league_core.specs.inside.FinishList.{ways_to_finish}
use Rattle.league_core.specs.search.Zones.{is_of_score, is_of_rival, with_test}
use Rattle.league_core.specs.search.Options.{has_finish}
use Rattle.league_core.specs.search.Trees.{Tree, open_leaf, lent_leaf, refuted_leaf, branch}
use Rattle.league_core.specs.search.Trees.{preorder, NodesMeet, new_count, has_open, is_spent}
use Rattle.league_core.specs.search.Splits.{is_proper, IsProperNode}
use Rattle.league_core.proofs.TreeLemmas.{length-preorder, new_count-le}
use Rattle.league_core.proofs.HalfLemmas.{options_kept, root_has_finish, half_has_finish}
use Rattle.reason_laws.specs.inside.Weights.{choices, finishes_in, unmarked_in, weight_of}
use Rattle.reason_laws.proofs.ChoiceLemmas.{finishes_some, finishes_divided, root_finishes}
use Rattle.reason_laws.proofs.MarkLemmas.{one_rival_marked, unmarked_kept, root_unmarked}
use Rattle.league_core.proofs.plain.Numbers.{divided, kept_divided, powers_sum}

-- a split by a score divides the weight through the finishes
score_divides : (sheet : Sheet) (season : Results) (question : Question) (zone : List Literal)
    (test : Test) → IsSeasonOf sheet season → is_of_score test ≡ true
    → is_proper sheet season question zone test ≡ true
    → weight_of sheet season question (with_test zone test true) + weight_of sheet season question
    (with_test zone test false) ≡ weight_of sheet season question zone
score_divides sheet season question zone test is_season of_score proper =
    divided (finishes_in sheet season (with_test zone test true))
    (finishes_in sheet season (with_test zone test false)) (finishes_in sheet season zone)
    (2 ^ unmarked_in sheet question (with_test zone test true))
    (2 ^ unmarked_in sheet question (with_test zone test false))
    (2 ^ unmarked_in sheet question zone)
    (finishes_divided sheet season question zone test is_season of_score proper)
    (ap (λ n. 2 ^ n) (unmarked_kept sheet question zone test true of_score))
    (ap (λ n. 2 ^ n) (unmarked_kept sheet question zone test false of_score))

-- a split by a rival divides it through the marks
rival_divides : (sheet : Sheet) (season : Results) (question : Question) (zone : List Literal)
    (test : Test) (rival : ℕ) → is_of_rival rival test ≡ true
    → is_proper sheet season question zone test ≡ true
    → weight_of sheet season question (with_test zone test true) + weight_of sheet season question
    (with_test zone test false) ≡ weight_of sheet season question zone
rival_divides sheet season question zone test rival of_rival proper =
    kept_divided (finishes_in sheet season (with_test zone test true))
    (finishes_in sheet season (with_test zone test false)) (finishes_in sheet season zone)
    (2 ^ unmarked_in sheet question (with_test zone test true))
    (2 ^ unmarked_in sheet question (with_test zone test false))
    (2 ^ unmarked_in sheet question zone)
    (ap choices (options_kept sheet season zone test true rival of_rival))
    (ap choices (options_kept sheet season zone test false rival of_rival))
    (powers_sum (unmarked_in sheet question (with_test zone test true))
    (unmarked_in sheet question (with_test zone test false)) (unmarked_in sheet question zone)
    (one_rival_marked sheet season question zone test true rival of_rival proper)
    (one_rival_marked sheet season question zone test false rival of_rival proper))

pub weights_divided : (sheet : Sheet) (season : Results) (question : Question)
    (zone : List Literal) (test : Test) → IsSeasonOf sheet season
    → is_proper sheet season question zone test ≡ true
    → weight_of sheet season question (with_test zone test true) + weight_of sheet season question
    (with_test zone test false) ≡ weight_of sheet season question zone
weights_divided sheet season question zone (Home fixture) is_season proper =
    score_divides sheet season question zone (Home fixture) is_season refl proper
weights_divided sheet season question zone (Draw fixture) is_season proper =
    score_divides sheet season question zone (Draw fixture) is_season refl proper
weights_divided sheet season question zone (HomeMost fixture most) is_season proper =
    score_divides sheet season question zone (HomeMost fixture most) is_season refl proper
weights_divided sheet season question zone (AwayMost fixture most) is_season proper =
    score_divides sheet season question zone (AwayMost fixture most) is_season refl proper
weights_divided sheet season question zone (Rival club) is_season proper =
    rival_divides sheet season question zone (Rival club) club (eq-eqb club club refl) proper

-- a zone with a finish weighs something
pub weight_some : (sheet : Sheet) (season : Results) (question : Question) (zone : List Literal)
    → has_finish sheet season zone ≡ true → 1 ≤ weight_of sheet season question zone
weight_some sheet season question zone some =
    mul-le 1 1 (finishes_in sheet season zone) (2 ^ unmarked_in sheet question zone)
    (finishes_some sheet season zone some) (pow_pos (unmarked_in sheet question zone))

pub halves_weigh_less : (sheet : Sheet) (season : Results) (question : Question)
    (zone : List Literal) (test : Test) (holds : Bool) → IsSeasonOf sheet season
    → has_finish sheet season zone ≡ true → is_proper sheet season question zone test ≡ true
    → (1 ≤ weight_of sheet season question (with_test zone test holds))
    × (weight_of sheet season question
    (with_test zone test holds) < weight_of sheet season question zone)
halves_weigh_less sheet season question zone test holds is_season some proper =
    let weighs = λ (b : Bool). weight_some sheet season question (with_test zone test b)
    (half_has_finish sheet season question zone test b some proper) in (
      weighs holds,
      less holds (weight_of sheet season question zone)
          (λ b. weight_of sheet season question (with_test zone test b)) (weighs true)
          (weighs false)
          (weights_divided sheet season question zone test is_season proper),
    )
  where
    less : (b : Bool) (whole : ℕ) (half : Bool → ℕ) → 1 ≤ half true → 1 ≤ half false
        → half true + half false ≡ whole → half b < whole
    less true whole half first second sum = omega arith
    less false whole half first second sum = omega arith

-- a tree has fewer nodes than twice the weight of its root's zone
pub nodes_below : (sheet : Sheet) (season : Results) (question : Question) (tree : Tree)
    (zone : List Literal) → IsSeasonOf sheet season → has_finish sheet season zone ≡ true
    → NodesMeet (IsProperNode sheet season question) zone tree
    → length (preorder tree) < 2 * weight_of sheet season question zone
nodes_below sheet season question open_leaf zone is_season some proper =
    let weighs = weight_some sheet season question zone some in omega arith
nodes_below sheet season question (lent_leaf number) zone is_season some proper =
    let weighs = weight_some sheet season question zone some in omega arith
nodes_below sheet season question (refuted_leaf reason fresh) zone is_season some proper =
    let weighs = weight_some sheet season question zone some in omega arith
nodes_below sheet season question (branch test fresh yes_half no_half) zone is_season some proper =
    let yes = nodes_below sheet season question yes_half (with_test zone test
    true) is_season
    (half_has_finish sheet season question zone test true some proper.0) proper.1 in
    let no = nodes_below sheet season question no_half (with_test zone test
    false) is_season
    (half_has_finish sheet season question zone test false some proper.0) proper.2 in
    let sum = weights_divided sheet season question zone test is_season proper.0 in
    omega (arith, length-append (preorder yes_half) (preorder no_half), yes, no, sum)

pub nodes_below_finishes : (sheet : Sheet) (season : Results) (question : Question) (tree : Tree)
    → IsSeasonOf sheet season → question.club < length sheet.clubs
    → NodesMeet (IsProperNode sheet season question) [] tree
    → length (preorder tree) < 2 ^ length sheet.clubs * ways_to_finish sheet.goal_limit
    season.scores
nodes_below_finishes sheet season question tree is_season club_in proper =
    subst (λ (n : ℕ). length (preorder tree) < n)
    (at_root (finishes_in sheet season []) (ways_to_finish sheet.goal_limit season.scores)
    (unmarked_in sheet question []) (length sheet.clubs) (root_finishes sheet season)
    (root_unmarked sheet question club_in))
    (nodes_below sheet season question tree [] is_season (root_has_finish sheet season) proper)
  where
    at_root : (finishes ways unmarked clubs : ℕ) → finishes ≡ ways → unmarked + 1 ≡ clubs
        → 2 * (finishes * 2 ^ unmarked) ≡ 2 ^ clubs * ways
    at_root finishes ways unmarked clubs same one_more =
        let next : suc unmarked ≡ clubs = omega arith in
        ap (λ n. 2 * n) (mul_comm finishes (2 ^ unmarked))
        ∙ sym (mul_assoc 2 (2 ^ unmarked) finishes)
        ∙ ap (λ n. n * finishes) (sym (pow-succ' 2 unmarked))
        ∙ ap (λ n. 2 ^ suc unmarked * n) same
        ∙ ap (λ n. 2 ^ n * ways) next

pub spent_below_finishes : (sheet : Sheet) (season : Results) (question : Question) (budget : ℕ)
    (tree : Tree) → IsSeasonOf sheet season → question.club < length sheet.clubs
    → NodesMeet (IsProperNode sheet season question) [] tree → is_spent budget tree ≡ true
    → budget < 2 ^ length sheet.clubs * ways_to_finish sheet.goal_limit season.scores
spent_below_finishes sheet season question budget tree is_season club_in proper spent =
    let used = eqb-true (new_count tree) budget (and_parts (new_count tree == budget)
    (has_open tree) spent).0 in
    omega (
      arith,
      new_count-le tree,
      length-preorder tree,
      nodes_below_finishes sheet season
          question tree is_season club_in proper,
      used,
    )
