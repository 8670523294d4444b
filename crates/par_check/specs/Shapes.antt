-- What the grammar alone has to remember of what is due: of a tree's zones their number, of the
-- scores that have ended how many they are.
use Rattle.std.specs.Prelude.{◌≡◌, ℕ, suc, zero, ◌+◌, Bool, ◌&&◌, ◌==◌, List, [], ◌∷◌, ◌++◌, length}
use Rattle.std.specs.Prelude.{map}
use Rattle.std.specs.Prelude.{Option, Some, None, if◌then◌else◌}
use Rattle.league_core.specs.declared.question.Question.{Question}
use Rattle.league_core.specs.declared.season.Score.{Score}
use Rattle.league_core.specs.game.Ranking.{are_lots}
use Rattle.cert_text.specs.declared.proof_line.ProofLine.{ProofLine}
use Rattle.cert_text.specs.declared.proof_line.ProofLine.TheVariants as line
use Rattle.cert_text.specs.TreeLines.{is_test_for}
use Rattle.wide_lines.specs.declared.wide_node.WideNode.{WideNode}
use Rattle.wide_lines.specs.declared.wide_node.WideNode.TheVariants as node
use Rattle.line_tokens.specs.declared.token.Token.{Token}
use Rattle.line_tokens.specs.declared.token.Token.TheVariants.{Blank, Row, Proof, Near, Unknown}
use Rattle.line_tokens.specs.declared.tree_line.TreeKind.{TreeKind}
use Rattle.cert_check.specs.ExpectedItems.{Basis, Expected, ask_row, verdict_row, tree_head}
use Rattle.cert_check.specs.ExpectedItems.{spent_head, finish_head, both_parts, one_part, nodes}
use Rattle.cert_check.specs.LineGrammars.{Next, bad, go, Ending, whole_at, bad_line, short}
use Rattle.cert_check.specs.ExpectedItems.{score, lots, after}
use Rattle.line_tokens.specs.TreeNodes.{wide_node_in}
use Rattle.cert_check.specs.ExpectedItems.{is_ending, may_refute}
use Rattle.cert_check.specs.Machine.{with_unsettled}
use Rattle.par_check.specs.FirstStops.{grammar_of}

-- what is due: a row or a head as it is; the nodes of a tree with so many zones behind the one that
-- is due; the score of a fixture by its number, with what the season has for those behind it; lots
pub data DueShape : Type 0 where
  as_it_is : Expected → DueShape
  some_nodes : TreeKind → Question → ℕ → DueShape
  some_score : Question → ℕ → List (Option Score) → DueShape
  some_lots : Question → DueShape

-- what is remembered of what is due
abbrev pub shape_of : Expected → DueShape
shape_of ask_row = as_it_is ask_row
shape_of (verdict_row line club) = as_it_is (verdict_row line club)
shape_of (tree_head question) = as_it_is (tree_head question)
shape_of (spent_head question) = as_it_is (spent_head question)
shape_of (finish_head question) = as_it_is (finish_head question)
shape_of (both_parts line club) = as_it_is (both_parts line club)
shape_of (one_part question) = as_it_is (one_part question)
shape_of (nodes kind question zone zones tally) = some_nodes kind question (length zones)
shape_of (score question ended left) = some_score question (length ended) left
shape_of (lots question ended) = some_lots question

-- the shapes of what a line leaves due, where it may come
abbrev pub shapes_in : Next Expected → Option (List DueShape)
shapes_in bad = None
shapes_in (go holds dues) = Some (map shape_of dues)

-- what is due behind a leaf
abbrev pub shapes_behind_leaf : TreeKind → Question → ℕ → List DueShape
shapes_behind_leaf kind question zero = []
shapes_behind_leaf kind question (suc zones) = some_nodes kind question zones ∷ []

-- what is due behind a node
abbrev pub shapes_behind_node : Basis → TreeKind → Question → ℕ → Option WideNode
    → Option (List DueShape)
shapes_behind_node basis kind question zones None = None
shapes_behind_node basis kind question zones (Some (node.Split test fresh)) =
    if is_test_for basis.sheet question test
    then Some (some_nodes kind question (suc zones) ∷ []) else None
shapes_behind_node basis kind question zones (Some (node.Refuted reason fresh)) =
    if may_refute basis.kind basis.sheet question reason
    then Some (shapes_behind_leaf kind question zones) else None
shapes_behind_node basis kind question zones (Some node.Open) =
    Some (shapes_behind_leaf kind question zones)

-- the next fixture for which the season has no score, or the lots
abbrev pub shape_of_scores : Question → ℕ → List (Option Score) → DueShape
shape_of_scores question at [] = some_lots question
shape_of_scores question at (Some played ∷ left) = shape_of_scores question (suc at) left
shape_of_scores question at (None ∷ left) = some_score question at left

-- what is due behind the score of a fixture
abbrev pub shapes_behind_score : Basis → Question → ℕ → List (Option Score) → ProofLine
    → Option (List DueShape)
shapes_behind_score basis question at left (line.Score fixture ending) =
    if (fixture == at) && is_ending basis.sheet ending
    then Some (shape_of_scores question (suc at) left ∷ []) else None
shapes_behind_score basis question at left _ = None

-- what is due behind the lots
abbrev pub shapes_behind_lots : Basis → ProofLine → Option (List DueShape)
shapes_behind_lots basis (line.Lots list) =
    if are_lots (length basis.sheet.clubs) list.list then Some [] else None
shapes_behind_lots basis _ = None

-- what is due behind a proof line, by what is remembered
abbrev pub shapes_behind_proof : Basis → DueShape → ProofLine → Option (List DueShape)
shapes_behind_proof basis (as_it_is due) it = shapes_in (after basis due (Proof it))
shapes_behind_proof basis (some_nodes kind question zones) it =
    shapes_behind_node basis kind question zones (wide_node_in kind (Proof it))
shapes_behind_proof basis (some_score question at left) it =
    shapes_behind_score basis question at left it
shapes_behind_proof basis (some_lots question) it = shapes_behind_lots basis it

-- what is due behind a near leaf
abbrev pub shapes_behind_near : Basis → DueShape → ℕ → Bool → Option (List DueShape)
shapes_behind_near basis (as_it_is due) rival fresh = shapes_in (after basis due (Near rival fresh))
shapes_behind_near basis (some_nodes kind question zones) rival fresh =
    shapes_behind_node basis kind question zones (wide_node_in kind (Near rival fresh))
shapes_behind_near basis _ rival fresh = None

-- what is due behind a row
abbrev pub shapes_behind_row : Basis → DueShape → List (List ℕ) → Option (List DueShape)
shapes_behind_row basis (as_it_is due) fields = shapes_in (after basis due (Row fields))
shapes_behind_row basis _ fields = None

-- what is due behind any line; one that is passed over leaves it due
abbrev pub shapes_after : Basis → DueShape → Token → Option (List DueShape)
shapes_after basis shape Blank = Some (shape ∷ [])
shapes_after basis shape (Row fields) = shapes_behind_row basis shape fields
shapes_after basis shape (Proof it) = shapes_behind_proof basis shape it
shapes_after basis shape (Near rival fresh) = shapes_behind_near basis shape rival fresh
shapes_after basis shape Unknown = None

-- what a line comes to by shapes
abbrev pub by_shapes : Option (List DueShape) → ℕ → (List DueShape → Ending) → Ending
by_shapes None at rest = bad_line at
by_shapes (Some shapes) at rest = rest shapes

-- what lines come to by shapes
abbrev pub shapes_ending : Basis → List Token → List DueShape → ℕ → ℕ → Ending
shapes_ending basis [] [] at unsettled = whole_at at unsettled
shapes_ending basis [] (shape ∷ shapes) at unsettled = short
shapes_ending basis (token ∷ tokens) [] at unsettled = whole_at at unsettled
shapes_ending basis (token ∷ tokens) (shape ∷ shapes) at unsettled =
    by_shapes (shapes_after basis shape token) at
    (λ more. shapes_ending basis tokens (more ++ shapes) (at + 1) (with_unsettled unsettled token))

-- ---- the law

-- the grammar alone says of lines what it says by the shapes of what is due
abbrev pub ShapesSuffice : Type 0
ShapesSuffice =
    (basis : Basis) (tokens : List Token) (dues : List Expected) (at unsettled : ℕ)
    → grammar_of basis tokens dues at unsettled
    ≡ shapes_ending basis tokens (map shape_of dues) at unsettled
