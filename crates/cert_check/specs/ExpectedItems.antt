-- What must come yet in a report, by what a part is judged, and what each line that may come leaves
-- due in its place. The forms and their order are this project's own.
use Rattle.std.specs.Prelude.{ℕ, ◌+◌, Bool, true, false, ◌&&◌, ◌==◌, nat_le}
use Rattle.std.specs.Prelude.{List, [], ◌∷◌, ◌++◌, length, Option, Some, None, codes, decimal}
use Rattle.std.specs.Prelude.{bytes_eq, if◌then◌else◌}
use Rattle.league_core.specs.declared.sheet.Sheet.{Sheet}
use Rattle.league_core.specs.declared.season.Score.{Score}
use Rattle.league_core.specs.declared.question.Claim.{Claim}
use Rattle.league_core.specs.declared.question.Claim.TheVariants.{Inside, Outside}
use Rattle.league_core.specs.declared.question.Question.{Question}
use Rattle.league_core.specs.declared.zone.Test.{Test}
use Rattle.league_core.specs.declared.zone.Literal.{Literal}
use Rattle.league_core.specs.game.Results.{Results}
use Rattle.league_core.specs.game.Ranking.{are_lots}
use Rattle.league_core.specs.game.Questions.{holds_at, full_question}
use Rattle.league_core.specs.search.Zones.{with_test}
use Rattle.cert_text.specs.declared.proof_line.ProofLine.{ProofLine}
use Rattle.cert_text.specs.declared.proof_line.ProofLine.TheVariants as line
use Rattle.fixture_sheet.specs.Fields.{field}
use Rattle.cert_text.specs.TreeLines.{is_test_for}
use Rattle.wide_lines.specs.declared.wide_reason.WideReason.{WideReason}
use Rattle.wide_lines.specs.declared.wide_reason.WideReason.TheVariants as why
use Rattle.wide_lines.specs.declared.wide_node.WideNode.{WideNode}
use Rattle.wide_lines.specs.declared.wide_node.WideNode.TheVariants as node
use Rattle.wide_lines.specs.WideReasons.{has_wide_reason}
use Rattle.line_tokens.specs.declared.token.Token.{Token}
use Rattle.line_tokens.specs.declared.token.Token.TheVariants.{Blank, Row, Proof, Near, Unknown}
use Rattle.line_tokens.specs.declared.row_word.RowWord.{RowWord}
use Rattle.line_tokens.specs.declared.row_word.RowWord.TheVariants.{Clinched, Lost, Possible}
use Rattle.line_tokens.specs.declared.row_word.RowWord.TheVariants.{Unsettled}
use Rattle.cert_check.specs.declared.expected.Head.{Head}
use Rattle.cert_check.specs.declared.expected.Head.TheVariants.{RefutedTree, SpentTree, Example}
use Rattle.line_tokens.specs.declared.tree_line.TreeKind.{TreeKind}
use Rattle.line_tokens.specs.declared.tree_line.TreeKind.TheVariants.{Refutation, Spent}
use Rattle.cert_check.specs.declared.expected.Tally.{Tally}
use Rattle.cert_check.specs.declared.expected.ReportKind.{ReportKind}
use Rattle.cert_check.specs.declared.expected.ReportKind.TheVariants.{Plain, Wide}
use Rattle.line_tokens.specs.LineRanges.{name_of_club, is_wide_reason_for, same_claim}
use Rattle.line_tokens.specs.TreeNodes.{wide_node_in}
use Rattle.cert_check.specs.LineGrammars.{Next, bad, go}

-- what a part of a report is judged by: the kind of the report, the sheet, and the season and the
-- epoch of its ask
pub record Basis : Type 0 where
  pub kind : ReportKind
  pub sheet : Sheet
  pub season : Results
  pub epoch : ℕ

-- what must come: the row of the ask; the row of a line and a club; a refutation, a spent tree or
-- an example of a question from its head on, or one of the last two; what stands for the two
-- questions of an unsettled row; the nodes of a tree for the zones that are still due, the first of
-- which comes next; the score of the fixture after those that have ended; the lots
pub data Expected : Type 0 where
  ask_row : Expected
  verdict_row : ℕ → ℕ → Expected
  tree_head : Question → Expected
  spent_head : Question → Expected
  finish_head : Question → Expected
  both_parts : ℕ → ℕ → Expected
  one_part : Question → Expected
  nodes : TreeKind → Question → List Literal → List (List Literal) → Tally → Expected
  score : Question → List (Option Score) → List (Option Score) → Expected
  lots : Question → List (Option Score) → Expected

-- ---- rows

-- the fields are the row of the ask, byte for byte
abbrev pub is_ask_row : ℕ → List (List ℕ) → Bool
is_ask_row epoch fields =
    (length fields == 2) && bytes_eq (field 0 fields) (codes "ask")
    && bytes_eq (field 1 fields) (decimal epoch)

-- the fields are a row about a line and a club, whatever its word
abbrev pub is_row_about : ℕ → List ℕ → List (List ℕ) → Bool
is_row_about line name fields =
    (length fields == 4) && bytes_eq (field 0 fields) (codes "verdict")
    && bytes_eq (field 1 fields) (decimal line) && bytes_eq (field 2 fields) name

-- the word that a text is
abbrev pub word_named : List ℕ → Option RowWord
word_named text =
    if bytes_eq text (codes "clinched") then Some Clinched
    else if bytes_eq text (codes "lost") then Some Lost
    else if bytes_eq text (codes "possible") then Some Possible
    else if bytes_eq text (codes "unsettled") then Some Unsettled
    else None

-- the word in a row, if the row is about the line and the club
abbrev pub word_if_about : Bool → List ℕ → Option RowWord
word_if_about is_about text = if is_about then word_named text else None

-- the word that a row says of a club and a line, if it is their row
abbrev pub word_in_row : ℕ → List ℕ → List (List ℕ) → Option RowWord
word_in_row line name fields = word_if_about (is_row_about line name fields) (field 3 fields)

-- ---- what a report's lines may name

-- a report of this kind may have such leaves: near ones stand in wide reports alone
abbrev pub may_have : ReportKind → WideReason → Bool
may_have kind (why.Plain reason) = true
may_have Plain (why.Near rival) = false
may_have Wide (why.Near rival) = true

-- a reason that a leaf of a tree for the question may have in a report of this kind
abbrev pub may_refute : ReportKind → Sheet → Question → WideReason → Bool
may_refute kind sheet question reason =
    may_have kind reason && is_wide_reason_for sheet question reason

-- a score with which an unplayed match may end
abbrev pub is_ending : Sheet → Score → Bool
is_ending sheet ending = nat_le ending.home sheet.goal_limit && nat_le ending.away sheet.goal_limit

-- ---- trees

-- one new node more, if the node is new
abbrev pub with_fresh : Bool → Tally → Tally
with_fresh false tally = tally
with_fresh true tally = record tally { news = tally.news + 1 }

-- an open leaf was there
abbrev pub with_open : Tally → Tally
with_open tally = record tally { some_open = true }

-- the tree may end with this tally: one on which the budget was spent has exactly so many new
-- nodes, and an open leaf
abbrev pub is_tally_whole : ℕ → TreeKind → Tally → Bool
is_tally_whole budget Refutation tally = true
is_tally_whole budget Spent tally = (tally.news == budget) && tally.some_open

-- what is due after a leaf: the next zone that is, or nothing more of the tree
abbrev pub after_leaf : Basis → TreeKind → Question → List (List Literal) → Tally → Bool
    → Next Expected
after_leaf basis kind question [] tally holds =
    go (holds && is_tally_whole basis.sheet.budget kind tally) []
after_leaf basis kind question (zone ∷ zones) tally holds =
    go holds (nodes kind question zone zones tally ∷ [])

-- what is due after a split: the half where its test is true, and later the other
abbrev pub after_split : TreeKind → Question → List Literal → List (List Literal) → Tally → Test
    → Next Expected
after_split kind question zone zones tally test =
    go true
    (nodes kind question (with_test zone test true) (with_test zone test false ∷ zones) tally ∷ [])

-- what is due after a node
abbrev pub after_node : Basis → TreeKind → Question → List Literal → List (List Literal) → Tally
    → WideNode → Next Expected
after_node basis kind question zone zones tally (node.Split test fresh) =
    if is_test_for basis.sheet question test
    then after_split kind question zone zones (with_fresh fresh tally) test else bad
after_node basis kind question zone zones tally (node.Refuted reason fresh) =
    if may_refute basis.kind basis.sheet question reason
    then after_leaf basis kind question zones (with_fresh fresh tally)
    (has_wide_reason basis.sheet basis.season question zone reason) else bad
after_node basis kind question zone zones tally node.Open =
    after_leaf basis kind question zones (with_open tally) true

-- what is due after a line that may stand for a node
abbrev pub after_node_if : Basis → TreeKind → Question → List Literal → List (List Literal)
    → Tally → Option WideNode → Next Expected
after_node_if basis kind question zone zones tally None = bad
after_node_if basis kind question zone zones tally (Some it) =
    after_node basis kind question zone zones tally it

-- ---- examples

-- what is due after these scores: the score of the next fixture that the season has none for, or
-- the lots
abbrev pub scores_due : Question → List (Option Score) → List (Option Score) → Expected
scores_due question ended [] = lots question ended
scores_due question ended (Some played ∷ left) = scores_due question (ended ++ Some played ∷ [])
    left
scores_due question ended (None ∷ left) = score question ended left

-- a finish with these scores
abbrev pub finish_with : Results → List (Option Score) → Results
finish_with season scores = record season { scores = scores }

-- ---- each line

-- the row of the ask
abbrev pub after_ask_row : Basis → List (List ℕ) → Next Expected
after_ask_row basis fields = if is_ask_row basis.epoch fields then go true [] else bad

-- what a word asks for
abbrev pub dues_of_word : ℕ → ℕ → RowWord → List Expected
dues_of_word line club Clinched = tree_head (full_question club line Outside) ∷ []
dues_of_word line club Lost = tree_head (full_question club line Inside) ∷ []
dues_of_word line club Possible =
    finish_head (full_question club line Inside)
    ∷ finish_head (full_question club line Outside) ∷ []
dues_of_word line club Unsettled = both_parts line club ∷ []

-- what is due after a row, if it has a word
abbrev pub promised : ℕ → ℕ → Option RowWord → Next Expected
promised line club None = bad
promised line club (Some word) = go true (dues_of_word line club word)

-- a head, if it is of this claim
abbrev pub if_of_claim : Claim → Claim → Head → Option Head
if_of_claim claim other head = if same_claim other claim then Some head else None

-- which head of this claim a line is
abbrev pub head_in : Claim → ProofLine → Option Head
head_in claim (line.Tree other) = if_of_claim claim other RefutedTree
head_in claim (line.Spent other) = if_of_claim claim other SpentTree
head_in claim (line.Finish other) = if_of_claim claim other Example
head_in claim _ = None

-- the nodes of a tree from its root on
abbrev pub whole_tree : TreeKind → Question → Expected
whole_tree kind question = nodes kind question [] [] (record { news = 0; some_open = false })

-- an example after its head
abbrev pub whole_example : Basis → Question → Expected
whole_example basis question = scores_due question [] basis.season.scores

-- a refutation's head
abbrev pub after_tree_head : Question → Option Head → Next Expected
after_tree_head question None = bad
after_tree_head question (Some RefutedTree) = go true (whole_tree Refutation question ∷ [])
after_tree_head question (Some SpentTree) = bad
after_tree_head question (Some Example) = bad

-- a spent tree's head
abbrev pub after_spent_head : Question → Option Head → Next Expected
after_spent_head question None = bad
after_spent_head question (Some RefutedTree) = bad
after_spent_head question (Some SpentTree) = go true (whole_tree Spent question ∷ [])
after_spent_head question (Some Example) = bad

-- an example's head
abbrev pub after_finish_head : Basis → Question → Option Head → Next Expected
after_finish_head basis question None = bad
after_finish_head basis question (Some RefutedTree) = bad
after_finish_head basis question (Some SpentTree) = bad
after_finish_head basis question (Some Example) = go true (whole_example basis question ∷ [])

-- the head of an example or of a spent tree
abbrev pub after_one_part : Basis → Question → Option Head → Next Expected
after_one_part basis question None = bad
after_one_part basis question (Some RefutedTree) = bad
after_one_part basis question (Some SpentTree) = go true (whole_tree Spent question ∷ [])
after_one_part basis question (Some Example) = go true (whole_example basis question ∷ [])

-- the first head after an unsettled row: after an example of inside only a spent tree of outside
-- may come
abbrev pub after_both_parts : Basis → Question → Question → Option Head → Next Expected
after_both_parts basis inside outside None = bad
after_both_parts basis inside outside (Some RefutedTree) = bad
after_both_parts basis inside outside (Some SpentTree) =
    go true (whole_tree Spent inside ∷ one_part outside ∷ [])
after_both_parts basis inside outside (Some Example) =
    go true (whole_example basis inside ∷ spent_head outside ∷ [])

-- the score of the fixture that is due
abbrev pub after_score : Basis → Question → List (Option Score) → List (Option Score) → ProofLine
    → Next Expected
after_score basis question ended left (line.Score fixture ending) =
    if (fixture == length ended) && is_ending basis.sheet ending
    then go true (scores_due question (ended ++ Some ending ∷ []) left ∷ []) else bad
after_score basis question ended left _ = bad

-- lots, if a list is lots
abbrev pub lots_if_drawn : Bool → List ℕ → Option (List ℕ)
lots_if_drawn is_drawn list = if is_drawn then Some list else None

-- the lots: they end the example, and the question has to hold with them
abbrev pub after_lots : Basis → Question → List (Option Score) → ProofLine → Next Expected
after_lots basis question ended (line.Lots list) =
    if are_lots (length basis.sheet.clubs) list.list
    then go (holds_at basis.sheet question (finish_with basis.season ended) list.list) [] else bad
after_lots basis question ended _ = bad

-- a row when something is due
abbrev pub after_row : Basis → Expected → List (List ℕ) → Next Expected
after_row basis ask_row fields = after_ask_row basis fields
after_row basis (verdict_row line club) fields =
    promised line club (word_in_row line (name_of_club basis.sheet club) fields)
after_row basis _ fields = bad

-- a proof line when something is due
abbrev pub after_proof : Basis → Expected → ProofLine → Next Expected
after_proof basis ask_row it = bad
after_proof basis (verdict_row line club) it = bad
after_proof basis (tree_head question) it =
    after_tree_head question (head_in question.claim it)
after_proof basis (spent_head question) it =
    after_spent_head question (head_in question.claim it)
after_proof basis (finish_head question) it =
    after_finish_head basis question (head_in question.claim it)
after_proof basis (both_parts line club) it =
    after_both_parts basis (full_question club line Inside) (full_question club line Outside)
    (head_in Inside it)
after_proof basis (one_part question) it =
    after_one_part basis question (head_in question.claim it)
after_proof basis (nodes kind question zone zones tally) it =
    after_node_if basis kind question zone zones tally (wide_node_in kind (Proof it))
after_proof basis (score question ended left) it = after_score basis question ended left it
after_proof basis (lots question ended) it = after_lots basis question ended it

-- a near leaf when something is due
abbrev pub after_near : Basis → Expected → ℕ → Bool → Next Expected
after_near basis (nodes kind question zone zones tally) rival fresh =
    after_node_if basis kind question zone zones tally (wide_node_in kind (Near rival fresh))
after_near basis _ rival fresh = bad

-- any line when something is due; a line that is passed over leaves it due
abbrev pub after : Basis → Expected → Token → Next Expected
after basis due Blank = go true (due ∷ [])
after basis due (Row fields) = after_row basis due fields
after basis due (Proof it) = after_proof basis due it
after basis due (Near rival fresh) = after_near basis due rival fresh
after basis due Unknown = bad
