-- What is shown of a group and of a cup is true: a refuted question about a group has no example,
-- and what an answer shows of a club holds at every joint finish. Each statement is the contract of
-- a function of src/laws.rt that does nothing.
use Rattle.std.specs.Prelude.{◌<◌, ℕ, ℤ, IsTrue, List, length, All}
use Rattle.league_core.specs.declared.sheet.Sheet.{Sheet}
use Rattle.league_core.specs.declared.question.Claim.TheVariants.{Inside, Outside}
use Rattle.league_core.specs.game.Results.{Results, are_results}
use Rattle.league_core.specs.game.Sheets.{IsWithinLimits}
use Rattle.cup_sheet.specs.declared.cup.Cup.{Cup}
use Rattle.cup_sheet.specs.Cups.{IsCup}
use Rattle.cup_sheet.specs.Qualifying.{IsClinchedInCup, IsLostInCup, IsPossibleInCup}
use Rattle.cup_sheet.specs.GroupQuestions.{GroupQuestion, HasGroupExample}
use Rattle.cup_sheet.specs.GroupTrees.{GroupTree, IsGroupRefutation}
use Rattle.cup_sheet.specs.CupAnswers.{HasCupExample, IsCupRefuted}

-- a question about a club of a group that has a refutation holds at no finish, whatever the lots
abbrev pub GroupRefutationsAreSound : Type 0
GroupRefutationsAreSound =
    (direct : ℕ) (sheet : Sheet) (season : Results) (question : GroupQuestion) (tree : GroupTree)
    → IsWithinLimits sheet → IsTrue (are_results season) → question.club < length sheet.clubs
    → IsGroupRefutation direct sheet season question tree
    → ¬ HasGroupExample direct sheet season question

-- each season has scores and deductions that may be
abbrev pub AreCupResults : List Results → Type 0
AreCupResults seasons = All (λ season. IsTrue (are_results season)) seasons

-- a club of which it is shown that it cannot miss qualifies at every joint finish
abbrev pub ClinchedIsTrueInCup : Type 0
ClinchedIsTrueInCup =
    (cup : Cup) (seasons : List Results) (club : ℕ) (key : List ℤ) (listed : List ℕ)
    → IsCup cup → AreCupResults seasons → IsCupRefuted cup seasons Outside club key listed
    → IsClinchedInCup cup seasons club

-- a club of which it is shown that it cannot qualify does so at none
abbrev pub LostIsTrueInCup : Type 0
LostIsTrueInCup =
    (cup : Cup) (seasons : List Results) (club : ℕ) (key : List ℤ) (listed : List ℕ)
    → IsCup cup → AreCupResults seasons → IsCupRefuted cup seasons Inside club key listed
    → IsLostInCup cup seasons club

-- examples of both sides show that it is possible
abbrev pub PossibleIsTrueInCup : Type 0
PossibleIsTrueInCup =
    (cup : Cup) (seasons : List Results) (club : ℕ) → HasCupExample cup seasons Inside club
    → HasCupExample cup seasons Outside club → IsPossibleInCup cup seasons club
