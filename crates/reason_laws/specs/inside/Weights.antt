-- The weight of a zone: how much there is to decide in it at most. Each proper split divides it,
-- which bounds the nodes of a tree. Each statement is the contract of a function of src/splits.rt
-- that does nothing.
use Rattle.std.specs.Prelude.{◌≡◌, ◌≤◌, ◌<◌, ℕ, ◌+◌, ◌*◌, ◌^◌, Bool, true, false, not, IsTrue, List}
use Rattle.std.specs.Prelude.{[], ◌∷◌, length, count_by}
use Rattle.league_core.specs.declared.sheet.Sheet.{Sheet}
use Rattle.league_core.specs.declared.season.Score.{Score}
use Rattle.league_core.specs.declared.question.Question.{Question}
use Rattle.league_core.specs.declared.zone.Test.{Test}
use Rattle.league_core.specs.declared.zone.Literal.{Literal}
use Rattle.league_core.specs.game.Results.{Results}
use Rattle.league_core.specs.game.Seasons.{IsSeasonOf}
use Rattle.league_core.specs.inside.FinishList.{ways_to_finish}
use Rattle.league_core.specs.search.Zones.{is_of_score, is_of_rival, marked_before, marked_after}
use Rattle.league_core.specs.search.Zones.{is_marked, rivals_of, with_test}
use Rattle.league_core.specs.search.Options.{options_in, has_finish}
use Rattle.league_core.specs.search.Trees.{Tree, preorder, NodesMeet, is_spent}
use Rattle.league_core.specs.search.Splits.{is_proper, IsProperNode}

-- in how many ways one option can be taken for each fixture
abbrev pub choices : List (List Score) → ℕ
choices [] = 1
choices (options ∷ more) = length options * choices more

-- how many finishes the box of a zone has
abbrev pub finishes_in : Sheet → Results → List Literal → ℕ
finishes_in sheet season zone = choices (options_in sheet season zone)

-- how many rivals of the question's club the zone does not mark
abbrev pub unmarked_in : Sheet → Question → List Literal → ℕ
unmarked_in sheet question zone =
    count_by (λ rival. not (is_marked zone rival)) (rivals_of sheet question.club)

-- the number of finishes, doubled for each rival that is not marked
abbrev pub weight_of : Sheet → Results → Question → List Literal → ℕ
weight_of sheet season question zone =
    finishes_in sheet season zone * 2 ^ unmarked_in sheet question zone

-- a zone without a literal has all finishes of the season
abbrev pub TheRootHasAllFinishes : Type 0
TheRootHasAllFinishes =
    (sheet : Sheet) (season : Results)
    → finishes_in sheet season [] ≡ ways_to_finish sheet.goal_limit season.scores

-- a proper split by a score divides the finishes among its halves
abbrev pub ScoreTestsDivideFinishes : Type 0
ScoreTestsDivideFinishes =
    (sheet : Sheet) (season : Results) (question : Question) (zone : List Literal) (test : Test)
    → IsSeasonOf sheet season → IsTrue (is_of_score test)
    → IsTrue (is_proper sheet season question zone test)
    → finishes_in sheet season (with_test zone test true)
    + finishes_in sheet season (with_test zone test false)
    ≡ finishes_in sheet season zone

-- it marks no rival
abbrev pub ScoreTestsLeaveMarks : Type 0
ScoreTestsLeaveMarks =
    (zone : List Literal) (test : Test) (holds : Bool) (rival : ℕ) → IsTrue (is_of_score test)
    → (marked_before (with_test zone test holds) rival ≡ marked_before zone rival)
    × (marked_after (with_test zone test holds) rival ≡ marked_after zone rival)

-- a split by a rival takes no option away
abbrev pub RivalTestsLeaveOptions : Type 0
RivalTestsLeaveOptions =
    (sheet : Sheet) (season : Results) (zone : List Literal) (test : Test) (holds : Bool)
    (rival : ℕ) → IsTrue (is_of_rival rival test)
    → options_in sheet season (with_test zone test holds) ≡ options_in sheet season zone

-- a proper one leaves one rival fewer unmarked in each of its halves
abbrev pub RivalTestsMarkOne : Type 0
RivalTestsMarkOne =
    (sheet : Sheet) (season : Results) (question : Question) (zone : List Literal) (test : Test)
    (holds : Bool) (rival : ℕ) → IsTrue (is_of_rival rival test)
    → IsTrue (is_proper sheet season question zone test)
    → unmarked_in sheet question (with_test zone test holds) + 1 ≡ unmarked_in sheet question zone

-- so the weights of the halves of a proper split are together the weight of the zone
abbrev pub ProperSplitsDivideWeights : Type 0
ProperSplitsDivideWeights =
    (sheet : Sheet) (season : Results) (question : Question) (zone : List Literal) (test : Test)
    → IsSeasonOf sheet season → IsTrue (is_proper sheet season question zone test)
    → weight_of sheet season question (with_test zone test true)
    + weight_of sheet season question (with_test zone test false)
    ≡ weight_of sheet season question zone

-- in a zone with a finish each half weighs something, and less than the zone
abbrev pub HalvesWeighLess : Type 0
HalvesWeighLess =
    (sheet : Sheet) (season : Results) (question : Question) (zone : List Literal) (test : Test)
    (holds : Bool) → IsSeasonOf sheet season → IsTrue (has_finish sheet season zone)
    → IsTrue (is_proper sheet season question zone test)
    → (1 ≤ weight_of sheet season question (with_test zone test holds))
    × (weight_of sheet season question (with_test zone test holds)
    < weight_of sheet season question zone)

-- a tree whose splits are proper has fewer nodes than twice the weight of its root's zone, if that
-- has a finish
abbrev pub WeightsBoundTrees : Type 0
WeightsBoundTrees =
    (sheet : Sheet) (season : Results) (question : Question) (zone : List Literal) (tree : Tree)
    → IsSeasonOf sheet season → IsTrue (has_finish sheet season zone)
    → NodesMeet (IsProperNode sheet season question) zone tree
    → length (preorder tree) < 2 * weight_of sheet season question zone

-- a whole tree whose splits are proper has fewer nodes than the season has finishes, doubled for
-- each club
abbrev pub FinishesBoundTrees : Type 0
FinishesBoundTrees =
    (sheet : Sheet) (season : Results) (question : Question) (tree : Tree)
    → IsSeasonOf sheet season → question.club < length sheet.clubs
    → NodesMeet (IsProperNode sheet season question) [] tree
    → length (preorder tree)
    < 2 ^ length sheet.clubs * ways_to_finish sheet.goal_limit season.scores

-- so a tree whose splits are proper and whose new nodes use up a budget shows that the budget is
-- smaller than that
abbrev pub SpentTreesHaveSmallBudgets : Type 0
SpentTreesHaveSmallBudgets =
    (sheet : Sheet) (season : Results) (question : Question) (budget : ℕ) (tree : Tree)
    → IsSeasonOf sheet season → question.club < length sheet.clubs
    → NodesMeet (IsProperNode sheet season question) [] tree
    → IsTrue (is_spent budget tree)
    → budget < 2 ^ length sheet.clubs * ways_to_finish sheet.goal_limit season.scores
