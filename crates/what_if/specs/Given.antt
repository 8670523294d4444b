-- What an answer says of a line and a club given a zone: the word of the verdict given the zone,
-- and the proof lines that show it. Each example is a member of the zone, and each tree stands
-- below the zone; the whole budget is there for each question of each zone. No tree follows a club
-- that is clinched or lost.
use Rattle.std.specs.Prelude.{◌≡◌, ℕ, Bool, true, false, ◌||◌, IsTrue, List, [], map, All}
use Rattle.league_core.specs.declared.sheet.Sheet.{Sheet}
use Rattle.league_core.specs.declared.question.Question.{Question}
use Rattle.league_core.specs.declared.zone.Literal.{Literal}
use Rattle.league_core.specs.game.Results.{Results}
use Rattle.league_core.specs.search.GivenVerdicts.{IsExampleIn, IsClinchedGiven, IsLostGiven}
use Rattle.league_core.specs.search.Trees.{Tree, NodesMeet, is_spent}
use Rattle.league_core.specs.search.Splits.{AreReasonsTrue, IsUnitIfNew}
use Rattle.cert_text.specs.declared.proof_line.ProofLine.{ProofLine}
use Rattle.cert_text.specs.TreeLines.{are_tests_for, marked_lines, with_spent_head}
use Rattle.cert_text.specs.ExampleLines.{example_lines}
use Rattle.answer_rows.specs.NewTrees.{is_all_new}
use Rattle.answer_rows.specs.Items.{ShowsBothParts, answer_row, answer_rows}
use Rattle.answer_rows.specs.declared.word.Word.{Word}
use Rattle.answer_rows.specs.declared.word.Word.TheVariants.{Clinched, Lost, Possible, Unsettled}
use Rattle.answer_rows.specs.declared.word.Verdict.{Verdict}

-- a tree whose root has this zone, on which a budget was spent fairly: its tests are such as lines
-- have, exactly so many nodes are new, a leaf is open, each refuted leaf has a reason that holds in
-- its zone, each new node was one unit of work there, and each split and each refuted leaf is new.
-- The zone of a node is the root's, and after it the literals on the way from the root
pub record IsFairlySpentBelow (sheet : Sheet) (season : Results) (question : Question)
    (zone : List Literal) (budget : ℕ) (tree : Tree) : Type 0 where
  pub tests : IsTrue (are_tests_for sheet question tree)
  pub spent : IsTrue (is_spent budget tree)
  pub reasons : AreReasonsTrue sheet season question zone tree
  pub units : NodesMeet (IsUnitIfNew sheet season question) zone tree
  pub all_new : IsTrue (is_all_new tree)

-- what stands for a question given a zone: if it was spent a tree below the zone that shows it,
-- under its head; otherwise an example that is a member of the zone
abbrev pub ShowsPartGiven : Sheet → Results → List Literal → Question → Bool → List ProofLine
    → Type 0
ShowsPartGiven sheet season zone question true lines =
    (tree : Tree) × IsFairlySpentBelow sheet season question zone sheet.budget tree
    × (lines ≡ with_spent_head question.claim (marked_lines tree))
ShowsPartGiven sheet season zone question false lines =
    (finish : Results) × (lots : List ℕ) × IsExampleIn sheet season question zone finish lots
    × (lines ≡ example_lines question.claim season finish lots)

-- the item of a line and a club given a zone: the word is right, and the lines after it show what
-- they have to show
abbrev pub IsItemGiven : Sheet → Results → List Literal → ℕ → ℕ → Word → List ProofLine → Type 0
IsItemGiven sheet season zone line club Clinched lines =
    IsClinchedGiven sheet season zone club line × (lines ≡ [])
IsItemGiven sheet season zone line club Lost lines =
    IsLostGiven sheet season zone club line × (lines ≡ [])
IsItemGiven sheet season zone line club Possible lines =
    ShowsBothParts (ShowsPartGiven sheet season zone) false false line club lines
IsItemGiven sheet season zone line club Unsettled lines =
    (is_inside_spent : Bool) × (is_outside_spent : Bool)
    × IsTrue (is_inside_spent || is_outside_spent)
    × ShowsBothParts (ShowsPartGiven sheet season zone) is_inside_spent is_outside_spent line club
    lines

-- a verdict is right given the zone, and its lines show it
abbrev pub IsShownGiven : Sheet → Results → List Literal → Verdict ProofLine → Type 0
IsShownGiven sheet season zone verdict =
    IsItemGiven sheet season zone verdict.line verdict.club verdict.word verdict.proof.items

-- one verdict for each row of an answer, each of them right and shown given the zone
pub record AreVerdictsGiven (sheet : Sheet) (season : Results) (zone : List Literal)
    (verdicts : List (Verdict ProofLine)) : Type 0 where
  pub rows : map answer_row verdicts ≡ answer_rows sheet
  pub each : All (IsShownGiven sheet season zone) verdicts
