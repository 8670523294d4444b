-- The grammar of a report by cases, over its lines without those that are passed over. With
-- `proved` true a part also proves what it says; with `proved` false it need not.
use Rattle.std.specs.Prelude.{◌≡◌, ◌⊎◌, ℕ, ◌+◌, Bool, ◌||◌, IsTrue, List}
use Rattle.std.specs.Prelude.{[], ◌∷◌, ◌++◌, length, map}
use Rattle.std.specs.Prelude.{Option, None, false}
use Rattle.std.specs.Bool.{OnTrue}
use Rattle.std.specs.List.{flat_map}
use Rattle.league_core.specs.declared.season.Score.{Score}
use Rattle.league_core.specs.declared.question.Claim.TheVariants.{Inside, Outside}
use Rattle.league_core.specs.declared.question.Question.{Question}
use Rattle.league_core.specs.declared.zone.Literal.{Literal}
use Rattle.league_core.specs.game.Finishes.{may_all_end}
use Rattle.league_core.specs.game.Ranking.{are_lots}
use Rattle.league_core.specs.game.Questions.{holds_at, full_question}
use Rattle.cert_text.specs.declared.proof_line.ProofLine.TheVariants as line
use Rattle.cert_text.specs.TreeLines.{is_test_for}
use Rattle.cert_text.specs.ExampleLines.{score_lines, lots_line}
use Rattle.wide_lines.specs.declared.wide_line.WideLine.{WideLine}
use Rattle.wide_lines.specs.declared.wide_node.WideNode.{WideNode}
use Rattle.wide_lines.specs.declared.wide_node.WideNode.TheVariants as node
use Rattle.wide_lines.specs.WideReasons.{has_wide_reason}
use Rattle.wide_lines.specs.WideTrees.{WideTree, wide_preorder, wide_new_count, has_wide_open}
use Rattle.wide_lines.specs.WideTrees.{WideNodesMeet}
use Rattle.wide_lines.specs.WideTreeLines.{plain_wide_line, marked_wide_line}
use Rattle.line_tokens.specs.declared.token.Token.{Token}
use Rattle.line_tokens.specs.declared.token.Token.TheVariants.{Row, Proof}
use Rattle.line_tokens.specs.declared.row_word.RowWord.{RowWord}
use Rattle.line_tokens.specs.declared.row_word.RowWord.TheVariants.{Clinched, Lost, Possible}
use Rattle.line_tokens.specs.declared.row_word.RowWord.TheVariants.{Unsettled}
use Rattle.line_tokens.specs.declared.tree_line.TreeKind.{TreeKind}
use Rattle.line_tokens.specs.declared.tree_line.TreeKind.TheVariants.{Refutation, Spent}
use Rattle.cert_check.specs.declared.expected.Tally.{Tally}
use Rattle.cert_check.specs.ExpectedItems.{Basis, Expected, ask_row, verdict_row, tree_head}
use Rattle.cert_check.specs.ExpectedItems.{spent_head}
use Rattle.cert_check.specs.ExpectedItems.{finish_head, both_parts, one_part, nodes, score, lots}
use Rattle.line_tokens.specs.RowFields.{ask_fields, verdict_fields}
use Rattle.line_tokens.specs.LineRanges.{name_of_club}
use Rattle.cert_check.specs.ExpectedItems.{is_tally_whole, finish_with, may_refute}
use Rattle.line_tokens.specs.Tokens.{counts, token_of_wide}
use Rattle.cert_check.specs.Machine.{report_grammar}
use Rattle.cert_check.specs.inside.LineParts.{PartGrammar, AreAllParts}

-- ---- trees

-- the node may stand in a tree of this kind: its test or its reason is one for the question, and a
-- proved leaf's reason holds in its zone
abbrev pub NodeFits : Bool → Basis → TreeKind → Question → List Literal → WideNode → Type 0
NodeFits proved basis kind question zone (node.Split test fresh) =
    IsTrue (is_test_for basis.sheet question test)
NodeFits proved basis kind question zone (node.Refuted reason fresh) =
    IsTrue (may_refute basis.kind basis.sheet question reason)
    × OnTrue proved (IsTrue (has_wide_reason basis.sheet basis.season question zone reason))
NodeFits proved basis Refutation question zone node.Open = ⊥
NodeFits proved basis Spent question zone node.Open = Unit {0}

-- each node of each tree may stand there; the trees' roots have these zones
abbrev pub TreesFit : Bool → Basis → TreeKind → Question → List (List Literal) → List WideTree
    → Type 0
TreesFit proved basis kind question [] [] = Unit {0}
TreesFit proved basis kind question [] (tree ∷ trees) = ⊥
TreesFit proved basis kind question (zone ∷ zones) [] = ⊥
TreesFit proved basis kind question (zone ∷ zones) (tree ∷ trees) =
    WideNodesMeet (NodeFits proved basis kind question) zone tree
    × TreesFit proved basis kind question zones trees

-- the line of a node in a tree of this kind
abbrev pub line_of_node : TreeKind → WideNode → WideLine
line_of_node Refutation it = plain_wide_line it
line_of_node Spent it = marked_wide_line it

-- the lines of a tree
abbrev pub lines_of_tree : TreeKind → WideTree → List Token
lines_of_tree kind tree = map (λ it. token_of_wide (line_of_node kind it)) (wide_preorder tree)

-- the lines of trees, one after another
abbrev pub lines_of_trees : TreeKind → List WideTree → List Token
lines_of_trees kind trees = flat_map (lines_of_tree kind) trees

-- the tally with the new nodes and the open leaves of a tree
abbrev pub with_tree : Tally → WideTree → Tally
with_tree tally tree =
    record {
      news = tally.news + wide_new_count tree;
      some_open = tally.some_open || has_wide_open tree;
    }

-- the tally after trees
abbrev pub tally_after : Tally → List WideTree → Tally
tally_after tally [] = tally
tally_after tally (tree ∷ trees) = tally_after (with_tree tally tree) trees

-- the lines are trees for these zones; proved, the tally with which they end is that of a whole
-- tree
abbrev pub AreTrees : Bool → Basis → TreeKind → Question → List (List Literal) → Tally → List Token
    → Type 0
AreTrees proved basis kind question zones tally tokens =
    (trees : List WideTree) × TreesFit proved basis kind question zones trees
    × OnTrue proved
    (IsTrue (is_tally_whole basis.sheet.budget kind (tally_after tally trees)))
    × (tokens ≡ lines_of_trees kind trees)

-- nothing was counted yet
abbrev pub no_tally : Tally
no_tally = record { news = 0; some_open = false }

-- one tree from its root on
abbrev pub IsTreeOf : Bool → Basis → TreeKind → Question → List Token → Type 0
IsTreeOf proved basis kind question tokens =
    AreTrees proved basis kind question ([] ∷ []) no_tally tokens

-- ---- examples

-- scores for the fixtures that are left, and lots; proved, the question holds with them
abbrev pub IsExampleFrom : Bool → Basis → Question → List (Option Score) → List (Option Score)
    → List Token → Type 0
IsExampleFrom proved basis question ended left tokens =
    (scores : List (Option Score)) × (drawn : List ℕ)
    × IsTrue (may_all_end basis.sheet.goal_limit left scores)
    × IsTrue (are_lots (length basis.sheet.clubs) drawn)
    × OnTrue proved (IsTrue (holds_at basis.sheet question
    (finish_with basis.season (ended ++ scores)) drawn))
    × (tokens ≡ map Proof (score_lines (length ended) left scores ++ lots_line drawn ∷ []))

-- lots alone
abbrev pub AreLotsOf : Bool → Basis → Question → List (Option Score) → List Token → Type 0
AreLotsOf proved basis question ended tokens =
    (drawn : List ℕ) × IsTrue (are_lots (length basis.sheet.clubs) drawn)
    × OnTrue proved
    (IsTrue (holds_at basis.sheet question (finish_with basis.season ended) drawn))
    × (tokens ≡ Proof (lots_line drawn) ∷ [])

-- ---- parts under their heads

-- a refutation
abbrev pub IsRefutationPart : Bool → Basis → Question → List Token → Type 0
IsRefutationPart proved basis question tokens =
    (rest : List Token) × IsTreeOf proved basis Refutation question rest
    × (tokens ≡ Proof (line.Tree question.claim) ∷ rest)

-- a tree on which the budget was spent
abbrev pub IsSpentPart : Bool → Basis → Question → List Token → Type 0
IsSpentPart proved basis question tokens =
    (rest : List Token) × IsTreeOf proved basis Spent question rest
    × (tokens ≡ Proof (line.Spent question.claim) ∷ rest)

-- an example
abbrev pub IsExamplePart : Bool → Basis → Question → List Token → Type 0
IsExamplePart proved basis question tokens =
    (rest : List Token) × IsExampleFrom proved basis question [] basis.season.scores rest
    × (tokens ≡ Proof (line.Finish question.claim) ∷ rest)

-- one of these two
abbrev pub IsOnePart : Bool → Basis → Question → List Token → Type 0
IsOnePart proved basis question tokens =
    IsExamplePart proved basis question tokens ⊎ IsSpentPart proved basis question tokens

-- one for each of two questions, at least one of the two a spent tree
abbrev pub AreBothParts : Bool → Basis → Question → Question → List Token → Type 0
AreBothParts proved basis inside outside tokens =
    (front : List Token) × (back : List Token)
    × ((IsExamplePart proved basis inside front × IsSpentPart proved basis outside back)
    ⊎ (IsSpentPart proved basis inside front × IsOnePart proved basis outside back))
    × (tokens ≡ front ++ back)

-- two examples
abbrev pub AreTwoExamples : Bool → Basis → Question → Question → List Token → Type 0
AreTwoExamples proved basis inside outside tokens =
    (front : List Token) × (back : List Token)
    × IsExamplePart proved basis inside front × IsExamplePart proved basis outside back
    × (tokens ≡ front ++ back)

-- ---- items

-- what comes after the row of a word
abbrev pub IsAfterReport : Bool → Basis → ℕ → ℕ → RowWord → List Token → Type 0
IsAfterReport proved basis line club Clinched tokens =
    IsRefutationPart proved basis (full_question club line Outside) tokens
IsAfterReport proved basis line club Lost tokens =
    IsRefutationPart proved basis (full_question club line Inside) tokens
IsAfterReport proved basis line club Possible tokens =
    AreTwoExamples proved basis (full_question club line Inside) (full_question club line Outside)
    tokens
IsAfterReport proved basis line club Unsettled tokens =
    AreBothParts proved basis (full_question club line Inside) (full_question club line Outside)
    tokens

-- an item: the row of a line and a club, and what its word asks for
abbrev pub IsItemLines : Bool → Basis → ℕ → ℕ → List Token → Type 0
IsItemLines proved basis line club tokens =
    (word : RowWord) × (rest : List Token) × IsAfterReport proved basis line club word rest
    × (tokens ≡ Row (verdict_fields line (name_of_club basis.sheet club) word) ∷ rest)

-- the lines that may stand for what is due
abbrev pub IsPartFor : Bool → Basis → Expected → List Token → Type 0
IsPartFor proved basis ask_row tokens = tokens ≡ Row (ask_fields basis.epoch) ∷ []
IsPartFor proved basis (verdict_row line club) tokens = IsItemLines proved basis line club tokens
IsPartFor proved basis (tree_head question) tokens = IsRefutationPart proved basis question tokens
IsPartFor proved basis (spent_head question) tokens = IsSpentPart proved basis question tokens
IsPartFor proved basis (finish_head question) tokens = IsExamplePart proved basis question tokens
IsPartFor proved basis (both_parts line club) tokens =
    AreBothParts proved basis (full_question club line Inside) (full_question club line Outside)
    tokens
IsPartFor proved basis (one_part question) tokens = IsOnePart proved basis question tokens
IsPartFor proved basis (nodes kind question zone zones tally) tokens =
    AreTrees proved basis kind question (zone ∷ zones) tally tokens
IsPartFor proved basis (score question ended left) tokens =
    IsExampleFrom proved basis question ended (None ∷ left) tokens
IsPartFor proved basis (lots question ended) tokens = AreLotsOf proved basis question ended tokens

-- the grammar of reports with these parts
abbrev pub report_parts : PartGrammar Basis Token Expected
report_parts = record { reads = report_grammar; counts = counts; IsPart = IsPartFor }

-- the lines are parts for what is due, one after another
abbrev pub AreParts : Bool → Basis → List Expected → List Token → Type 0
AreParts proved basis dues tokens = AreAllParts report_parts proved basis dues tokens
