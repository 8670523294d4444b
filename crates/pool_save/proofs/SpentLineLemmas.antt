-- Lines in which no budget is said to be spent: those of examples and of trees without a head; and
-- what a question shows of which this is not said.
use Rattle.std.proofs.Common.{◌≡◌, ◌≢◌, ℕ, ◌+◌, Bool, true, false, ◌||◌, ◌==◌, List, [], ◌∷◌, ◌++◌}
use Rattle.std.proofs.Common.{map, Option, Some, None, refl, ap, ◌∙◌}
use Rattle.std.specs.Prelude.{is_some}
use Rattle.std.specs.List.{list_any}
use Rattle.std.proofs.lemmas.Bool.{or_from}
use Rattle.std.proofs.lemmas.List.Folds.{list_any-append}
use Rattle.league_core.specs.declared.sheet.Sheet.{Sheet}
use Rattle.league_core.specs.declared.season.Score.{Score}
use Rattle.league_core.specs.declared.question.Claim.{Claim}
use Rattle.league_core.specs.declared.question.Question.{Question}
use Rattle.league_core.specs.declared.tree.TreeNode.{TreeNode}
use Rattle.league_core.specs.declared.tree.TreeNode.TheVariants.{Split, Open, Lent, Refuted}
use Rattle.league_core.specs.game.Results.{Results}
use Rattle.league_core.specs.search.Trees.{Tree, preorder, is_refuted}
use Rattle.cert_text.specs.declared.proof_line.ProofLine.{ProofLine}
use Rattle.cert_text.specs.declared.proof_line.ProofLine.TheVariants as line
use Rattle.cert_text.specs.TreeLines.{plain_line, marked_line, plain_lines, marked_lines}
use Rattle.cert_text.specs.ExampleLines.{score_line_if, score_lines, lots_line, example_lines}
use Rattle.cert_text.specs.ExampleLines.{IsExampleInLines}
use Rattle.line_tokens.specs.LineRanges.{same_claim}
use Rattle.tree_arena.specs.declared.example.Example.{Example}
use Rattle.branch_pool.specs.declared.question_state.QuestionState.{QuestionState}
use Rattle.answer_rows.specs.declared.word.Word.{Word}
use Rattle.answer_rows.specs.declared.word.Word.TheVariants.{Clinched, Lost, Possible, Unsettled}
use Rattle.answer_rows.specs.Items.{AnswerRow, IsItemShown, RefutesIfAsked, ShowsPart}
use Rattle.answer_rows.specs.inside.ItemRanges.{lines_shown}
use Rattle.verdict_run.specs.inside.Kept.{TellsExample, TellsSeat}
use Rattle.verdict_run.specs.inside.Working.{is_known}
use Rattle.pool_save.specs.SavedAnswers.{is_spent_head, says_spent, IsShownUnspent}
use Rattle.pool_save.proofs.NearlyLemmas.{known_is_unspent}

-- ---- lines

-- neither of two lists says it, so both together do not
pub both_unspent : (claim : Claim) (first second : List ProofLine)
    → says_spent claim first ≡ false → says_spent claim second ≡ false
    → says_spent claim (first ++ second) ≡ false
both_unspent claim first second one two =
    list_any-append (is_spent_head claim) first second
    ∙ or_from (says_spent claim first) (says_spent claim second) one two

score_unspent : (claim : Claim) (fixture : ℕ) (played ended : Option Score)
    → says_spent claim (score_line_if fixture played ended) ≡ false
score_unspent claim fixture (Some played) ended = refl
score_unspent claim fixture None None = refl
score_unspent claim fixture None (Some ended) = refl

scores_unspent : (claim : Claim) (fixture : ℕ) (season finish : List (Option Score))
    → says_spent claim (score_lines fixture season finish) ≡ false
scores_unspent claim fixture [] finish = refl
scores_unspent claim fixture (played ∷ season) [] = refl
scores_unspent claim fixture (played ∷ season) (ended ∷ finish) =
    both_unspent claim (score_line_if fixture played ended)
    (score_lines (fixture + 1) season finish) (score_unspent claim fixture played ended)
    (scores_unspent claim (fixture + 1) season finish)

-- the lines of an example do not
pub example_unspent : (claim other : Claim) (season finish : Results) (lots : List ℕ)
    → says_spent claim (example_lines other season finish lots) ≡ false
example_unspent claim other season finish lots =
    both_unspent claim (score_lines 0 season.scores finish.scores) (lots_line lots ∷ [])
    (scores_unspent claim 0 season.scores finish.scores) refl

-- nor do those of nodes, without marks or with them
plain_nodes : (claim : Claim) (nodes : List TreeNode)
    → says_spent claim (map plain_line nodes) ≡ false
plain_nodes claim [] = refl
plain_nodes claim (Split test fresh ∷ nodes) = plain_nodes claim nodes
plain_nodes claim (Open ∷ nodes) = plain_nodes claim nodes
plain_nodes claim (Lent number ∷ nodes) = plain_nodes claim nodes
plain_nodes claim (Refuted reason fresh ∷ nodes) = plain_nodes claim nodes

marked_nodes : (claim : Claim) (nodes : List TreeNode)
    → says_spent claim (map marked_line nodes) ≡ false
marked_nodes claim [] = refl
marked_nodes claim (Split test true ∷ nodes) = marked_nodes claim nodes
marked_nodes claim (Split test false ∷ nodes) = marked_nodes claim nodes
marked_nodes claim (Open ∷ nodes) = marked_nodes claim nodes
marked_nodes claim (Lent number ∷ nodes) = marked_nodes claim nodes
marked_nodes claim (Refuted reason true ∷ nodes) = marked_nodes claim nodes
marked_nodes claim (Refuted reason false ∷ nodes) = marked_nodes claim nodes

-- nor does a refutation under its head
pub refutation_unspent : (claim : Claim) (tree : Tree)
    → says_spent claim (plain_lines tree) ≡ false
refutation_unspent claim tree = plain_nodes claim (preorder tree)

-- a tree on which the budget was spent says so of its own claim alone
pub other_unspent : (claim own : Claim) (tree : Tree) → same_claim own claim ≡ false
    → says_spent claim (line.Spent own ∷ marked_lines tree) ≡ false
other_unspent claim own tree differ =
    or_from (same_claim own claim) (says_spent claim (marked_lines tree)) differ
    (marked_nodes claim (preorder tree))

-- ---- items

in_lines_unspent : (sheet : Sheet) (season : Results) (question : Question)
    (lines : List ProofLine) (claim : Claim) → IsExampleInLines sheet season question lines
    → says_spent claim lines ≡ false
in_lines_unspent sheet season question lines claim shows =
    ap (says_spent claim) shows.3
    ∙ example_unspent claim question.claim season shows.0 shows.1

refuted_unspent : (proofs : Bool) (sheet : Sheet) (season : Results) (question : Question)
    (lines : List ProofLine) (claim : Claim) → RefutesIfAsked proofs sheet season question lines
    → says_spent claim lines ≡ false
refuted_unspent true sheet season question lines claim shows =
    ap (says_spent claim) shows.2 ∙ ap (says_spent claim) shows.1.2
    ∙ refutation_unspent claim shows.1.0
refuted_unspent false sheet season question lines claim shows = ap (says_spent claim) shows

-- a word that is known is shown without a spent budget
pub known_word_unspent : (proofs : Bool) (sheet : Sheet) (season : Results) (line club : ℕ)
    (word : Word) (lines : List ProofLine)
    → IsItemShown proofs sheet season line club word lines → word ≢ Unsettled
    → (claim : Claim) → says_spent claim lines ≡ false
known_word_unspent proofs sheet season line club Clinched lines shown known claim =
    refuted_unspent proofs sheet season _ lines claim shown.1
known_word_unspent proofs sheet season line club Lost lines shown known claim =
    refuted_unspent proofs sheet season _ lines claim shown.1
known_word_unspent proofs sheet season line club Possible lines shown known claim =
    ap (says_spent claim) shown.2
    ∙ both_unspent claim shown.0 shown.1
    (in_lines_unspent sheet season _ shown.0 claim shown.3)
    (in_lines_unspent sheet season _ shown.1 claim shown.4)
known_word_unspent proofs sheet season line club Unsettled lines shown known claim =
    absurd (known refl)

-- so is its item
pub known_item_unspent : (proofs : Bool) (sheet : Sheet) (season : Results)
    (trees : List (Option Tree)) (about : AnswerRow) (word : Word) (lines : List ProofLine)
    → IsItemShown proofs sheet season about.line about.club word lines → word ≢ Unsettled
    → IsShownUnspent sheet season trees about lines
known_item_unspent proofs sheet season trees about word lines shown known place question saved
    found own of_line of_club nearly =
    known_word_unspent proofs sheet season about.line about.club word lines shown known
    question.claim

-- fewer lines say no more
fewer_unspent : (proofs : Bool) (word : Word) (proof : List ProofLine) (claim : Claim)
    → says_spent claim proof ≡ false → says_spent claim (lines_shown proofs word proof) ≡ false
fewer_unspent true word proof claim unspent = unspent
fewer_unspent false Clinched proof claim unspent = refl
fewer_unspent false Lost proof claim unspent = refl
fewer_unspent false Possible proof claim unspent = unspent
fewer_unspent false Unsettled proof claim unspent = unspent

pub shown_lines_unspent : (proofs : Bool) (sheet : Sheet) (season : Results)
    (trees : List (Option Tree)) (about : AnswerRow) (word : Word) (proof : List ProofLine)
    → IsShownUnspent sheet season trees about proof
    → IsShownUnspent sheet season trees about (lines_shown proofs word proof)
shown_lines_unspent proofs sheet season trees about word proof unspent place question saved found
    own of_line of_club nearly =
    fewer_unspent proofs word proof question.claim
    (unspent place question saved found own of_line of_club nearly)

-- ---- one question

-- what is shown of a question about which something is known
pub known_seat_unspent : (sheet : Sheet) (season : Results) (seat : QuestionState)
    (lines : List ProofLine) (claim : Claim) → TellsSeat sheet season seat lines
    → is_known seat ≡ true → says_spent claim lines ≡ false
known_seat_unspent sheet season seat lines claim tells known = by seat.example refl tells
  where
    by : (kept : Option Example) → seat.example ≡ kept
        → TellsExample sheet season seat kept lines → says_spent claim lines ≡ false
    by (Some example) is told =
        ap (says_spent claim) told
        ∙ example_unspent claim seat.question.claim season example.finish example.lots
    by None is told =
        absurd (known_is_unspent (is_some seat.example) (is_refuted seat.tree)
        (seat.units == sheet.budget) known told.0)

part_unspent : (sheet : Sheet) (season : Results) (question : Question) (is_spent : Bool)
    (lines : List ProofLine) (claim : Claim) → ShowsPart sheet season question is_spent lines
    → same_claim question.claim claim ≡ false → says_spent claim lines ≡ false
part_unspent sheet season question true lines claim shows differ =
    ap (says_spent claim) shows.3 ∙ other_unspent claim question.claim shows.0 differ
part_unspent sheet season question false lines claim shows differ =
    in_lines_unspent sheet season question lines claim shows

-- what is shown of a question does not say it of the other claim
pub other_seat_unspent : (sheet : Sheet) (season : Results) (seat : QuestionState)
    (lines : List ProofLine) (claim : Claim) → TellsSeat sheet season seat lines
    → same_claim seat.question.claim claim ≡ false → says_spent claim lines ≡ false
other_seat_unspent sheet season seat lines claim tells differ = by seat.example tells
  where
    by : (kept : Option Example) → TellsExample sheet season seat kept lines
        → says_spent claim lines ≡ false
    by (Some example) told =
        ap (says_spent claim) told
        ∙ example_unspent claim seat.question.claim season example.finish example.lots
    by None told =
        part_unspent sheet season seat.question told.2 lines claim told.3 differ
