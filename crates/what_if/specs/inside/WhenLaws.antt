-- What holds of bases, of items given a zone and of answers about a match by the definitions alone:
-- each statement is the contract of a function of src/laws.rt that does nothing.
use Rattle.std.specs.Prelude.{◌≡◌, ◌<◌, ◌≤◌, ◌↔◌, ℕ, false, IsTrue, List, [], ◌++◌, length, map}
use Rattle.std.specs.Prelude.{None, slice_index_or}
use Rattle.league_core.specs.declared.sheet.Sheet.{Sheet}
use Rattle.league_core.specs.declared.question.Question.{Question}
use Rattle.league_core.specs.declared.zone.Literal.{Literal}
use Rattle.league_core.specs.game.Results.{Results, are_results}
use Rattle.league_core.specs.game.Seasons.{IsLeague, IsSeasonOf}
use Rattle.league_core.specs.search.Zones.{IsZoneFor, are_literals_true}
use Rattle.league_core.specs.search.Options.{has_finish, IsInBox}
use Rattle.league_core.specs.search.Trees.{Tree}
use Rattle.league_core.specs.inside.Lending.{lent_zones}
use Rattle.cert_text.specs.declared.proof_line.ProofLine.{ProofLine}
use Rattle.answer_rows.specs.declared.word.Word.{Word}
use Rattle.answer_rows.specs.Items.{IsItemShown}
use Rattle.what_if.specs.declared.outcome.Outcome.{Outcome}
use Rattle.what_if.specs.Bases.{base_of, is_base_of}
use Rattle.what_if.specs.Given.{IsItemGiven}
use Rattle.what_if.specs.WhenTexts.{IsWhenText}

-- the zones in which a match of the sheet ends so are bases
abbrev pub OutcomesAreBases : Type 0
OutcomesAreBases =
    (sheet : Sheet) (fixture : ℕ) (outcome : Outcome) → fixture < length sheet.fixtures
    → IsTrue (is_base_of sheet (base_of fixture outcome))

-- if the match is not played, and a side may score a goal, it can end each way
abbrev pub OutcomesHaveAFinish : Type 0
OutcomesHaveAFinish =
    (sheet : Sheet) (season : Results) (fixture : ℕ) (outcome : Outcome)
    → 1 ≤ sheet.goal_limit → slice_index_or season.scores fixture None ≡ None
    → IsTrue (has_finish sheet season (base_of fixture outcome))

-- a base is a zone for each question
abbrev pub BasesAreForQuestions : Type 0
BasesAreForQuestions =
    (sheet : Sheet) (question : Question) (base : List Literal)
    → IsTrue (is_base_of sheet base) → IsZoneFor sheet question base

-- a finish in the box of a base makes the literals of the base true, whatever the lots
abbrev pub BoxesOfBasesAreMembers : Type 0
BoxesOfBasesAreMembers =
    (sheet : Sheet) (season : Results) (club : ℕ) (base : List Literal)
    (finish : Results) (lots : List ℕ)
    → IsSeasonOf sheet season → IsTrue (is_base_of sheet base)
    → IsInBox sheet season base finish
    → IsTrue (are_literals_true sheet club finish lots base)

-- the zones that are lent below a base are those that are lent below the root, after the base
abbrev pub LoansStandBelowTheBase : Type 0
LoansStandBelowTheBase =
    (number : ℕ) (base : List Literal) (tree : Tree)
    → lent_zones number base tree
    ≡ map (λ (way : List Literal). base ++ way) (lent_zones number [] tree)

-- if no literal is asked for, an item is right and shown exactly when it is in the season, without
-- proofs
abbrev pub ItemsGivenNothing : Type 0
ItemsGivenNothing =
    (sheet : Sheet) (season : Results) (line club : ℕ) (word : Word) (lines : List ProofLine)
    → IsItemGiven sheet season [] line club word lines
    ↔ IsItemShown false sheet season line club word lines

-- there is an answer about each match of a league that is not played
abbrev pub OpenMatchesHaveAnswers : Type 0
OpenMatchesHaveAnswers =
    (sheet : Sheet) (season : Results) (epoch fixture : ℕ) → IsLeague sheet season
    → IsTrue (are_results season) → fixture < length sheet.fixtures
    → slice_index_or season.scores fixture None ≡ None
    → (text : List ℕ) × IsWhenText sheet season epoch fixture text
