-- A line leaves due, by shapes, what it leaves due.
use Rattle.std.proofs.Common.{◌≡◌, ℕ, suc, ◌+◌, Bool, true, false, ◌&&◌, ◌==◌, List, [], ◌∷◌}
use Rattle.std.proofs.Common.{◌++◌, length, map, Option, Some, None, if◌then◌else◌}
use Rattle.std.proofs.Common.{refl, ap, ◌∙◌, arith, length-append}
use Rattle.std.proofs.lemmas.List.{map-append}
use Rattle.league_core.specs.declared.question.Question.{Question}
use Rattle.league_core.specs.declared.season.Score.{Score}
use Rattle.wide_lines.specs.declared.wide_node.WideNode.{WideNode}
use Rattle.wide_lines.specs.declared.wide_node.WideNode.TheVariants as node
use Rattle.league_core.specs.declared.zone.Literal.{Literal}
use Rattle.league_core.specs.game.Ranking.{are_lots}
use Rattle.cert_text.specs.declared.proof_line.ProofLine.{ProofLine}
use Rattle.cert_text.specs.declared.proof_line.ProofLine.TheVariants as line
use Rattle.cert_text.specs.TreeLines.{is_test_for}
use Rattle.line_tokens.specs.declared.token.Token.{Token}
use Rattle.line_tokens.specs.declared.token.Token.TheVariants.{Blank, Row, Proof, Near, Unknown}
use Rattle.line_tokens.specs.declared.tree_line.TreeKind.{TreeKind}
use Rattle.cert_check.specs.declared.expected.Tally.{Tally}
use Rattle.cert_check.specs.ExpectedItems.{Basis, Expected, ask_row, verdict_row, tree_head}
use Rattle.cert_check.specs.ExpectedItems.{spent_head}
use Rattle.cert_check.specs.ExpectedItems.{finish_head, both_parts, one_part, nodes, score, lots}
use Rattle.cert_check.specs.LineGrammars.{Next, bad, go, Ending, by_next}
use Rattle.cert_check.specs.ExpectedItems.{after, after_node_if, after_leaf}
use Rattle.line_tokens.specs.TreeNodes.{wide_node_in}
use Rattle.cert_check.specs.ExpectedItems.{is_ending, scores_due, may_refute}
use Rattle.cert_check.specs.ExpectedItems.{after_score}
use Rattle.cert_check.specs.ExpectedItems.{after_lots}
use Rattle.cert_check.specs.Machine.{report_grammar, with_unsettled}
use Rattle.cert_check.specs.inside.Pieces.{believed}
use Rattle.par_check.specs.FirstStops.{grammar_of}
use Rattle.par_check.specs.Shapes.{DueShape, shape_of, shapes_in, shapes_behind_leaf}
use Rattle.par_check.specs.Shapes.{shapes_behind_node, shapes_behind_near}
use Rattle.par_check.specs.Shapes.{shape_of_scores, shapes_behind_score, shapes_behind_lots}
use Rattle.par_check.specs.Shapes.{shapes_behind_proof, shapes_behind_row, shapes_after, by_shapes}
use Rattle.par_check.specs.Shapes.{shapes_ending, ShapesSuffice}

-- behind a leaf
leaf_shapes : (basis : Basis) (kind : TreeKind) (question : Question) (zones : List (List Literal))
    (tally : Tally) (holds : Bool)
    → shapes_in (after_leaf basis kind question zones tally holds)
    ≡ Some (shapes_behind_leaf kind question (length zones))
leaf_shapes basis kind question [] tally holds = refl
leaf_shapes basis kind question (zone ∷ zones) tally holds = refl

-- under a test
under_test : (test : Bool) (next : Next Expected) (shapes : Option (List DueShape))
    → shapes_in next ≡ shapes
    → shapes_in (if test then next else bad) ≡ (if test then shapes else None)
under_test true next shapes same = same
under_test false next shapes same = refl

-- behind a node
node_shapes : (basis : Basis) (kind : TreeKind) (question : Question) (zone : List Literal)
    (zones : List (List Literal)) (tally : Tally) (it : Option WideNode)
    → shapes_in (after_node_if basis kind question zone zones tally it)
    ≡ shapes_behind_node basis kind question (length zones) it
node_shapes basis kind question zone zones tally None = refl
node_shapes basis kind question zone zones tally (Some (node.Split test fresh)) =
    under_test (is_test_for basis.sheet question test) _ _ refl
node_shapes basis kind question zone zones tally (Some (node.Refuted reason fresh)) =
    under_test (may_refute basis.kind basis.sheet question reason) _ _
    (leaf_shapes basis kind question zones _ _)
node_shapes basis kind question zone zones tally (Some node.Open) =
    leaf_shapes basis kind question zones _ true

-- behind the scores that have ended
pub scores_shape : (question : Question) (ended left : List (Option Score)) (at : ℕ)
    → length ended ≡ at
    → shape_of (scores_due question ended left) ≡ shape_of_scores question at left
scores_shape question ended [] at long = refl
scores_shape question ended (Some played ∷ left) at long =
    scores_shape question (ended ++ Some played ∷ []) left (suc at)
    (omega (arith, long, length-append ended (Some played ∷ [])))
scores_shape question ended (None ∷ left) at long =
    ap (λ n. shape_of_scores question n (None ∷ left)) long

-- behind the score of a fixture
score_shapes : (basis : Basis) (question : Question) (ended left : List (Option Score))
    (it : ProofLine) → shapes_in (after_score basis question ended left it)
    ≡ shapes_behind_score basis question (length ended) left it
score_shapes basis question ended left (line.Score fixture ending) =
    under_test ((fixture == length ended) && is_ending basis.sheet ending) _ _
    (ap (λ shape. Some (shape ∷ [])) (scores_shape question (ended ++ Some ending ∷ []) left
    (suc (length ended)) (omega (arith, length-append ended (Some ending ∷ [])))))
score_shapes basis question ended left _ = refl

-- behind the lots
lots_shapes : (basis : Basis) (question : Question) (ended : List (Option Score)) (it : ProofLine)
    → shapes_in (after_lots basis question ended it) ≡ shapes_behind_lots basis it
lots_shapes basis question ended (line.Lots list) =
    under_test (are_lots (length basis.sheet.clubs) list.list) _ _ refl
lots_shapes basis question ended _ = refl

-- behind a proof line
proof_shapes : (basis : Basis) (due : Expected) (it : ProofLine)
    → shapes_in (after basis due (Proof it)) ≡ shapes_behind_proof basis (shape_of due) it
proof_shapes basis ask_row it = refl
proof_shapes basis (verdict_row line club) it = refl
proof_shapes basis (tree_head question) it = refl
proof_shapes basis (spent_head question) it = refl
proof_shapes basis (finish_head question) it = refl
proof_shapes basis (both_parts line club) it = refl
proof_shapes basis (one_part question) it = refl
proof_shapes basis (nodes kind question zone zones tally) it =
    node_shapes basis kind question zone zones tally (wide_node_in kind (Proof it))
proof_shapes basis (score question ended left) it = score_shapes basis question ended left it
proof_shapes basis (lots question ended) it = lots_shapes basis question ended it

-- behind a near leaf
near_shapes : (basis : Basis) (due : Expected) (rival : ℕ) (fresh : Bool)
    → shapes_in (after basis due (Near rival fresh))
    ≡ shapes_behind_near basis (shape_of due) rival fresh
near_shapes basis ask_row rival fresh = refl
near_shapes basis (verdict_row line club) rival fresh = refl
near_shapes basis (tree_head question) rival fresh = refl
near_shapes basis (spent_head question) rival fresh = refl
near_shapes basis (finish_head question) rival fresh = refl
near_shapes basis (both_parts line club) rival fresh = refl
near_shapes basis (one_part question) rival fresh = refl
near_shapes basis (nodes kind question zone zones tally) rival fresh =
    node_shapes basis kind question zone zones tally (wide_node_in kind (Near rival fresh))
near_shapes basis (score question ended left) rival fresh = refl
near_shapes basis (lots question ended) rival fresh = refl

-- behind a row
row_shapes : (basis : Basis) (due : Expected) (fields : List (List ℕ))
    → shapes_in (after basis due (Row fields)) ≡ shapes_behind_row basis (shape_of due) fields
row_shapes basis ask_row fields = refl
row_shapes basis (verdict_row line club) fields = refl
row_shapes basis (tree_head question) fields = refl
row_shapes basis (spent_head question) fields = refl
row_shapes basis (finish_head question) fields = refl
row_shapes basis (both_parts line club) fields = refl
row_shapes basis (one_part question) fields = refl
row_shapes basis (nodes kind question zone zones tally) fields = refl
row_shapes basis (score question ended left) fields = refl
row_shapes basis (lots question ended) fields = refl

-- behind any line
pub same_shapes : (basis : Basis) (due : Expected) (token : Token)
    → shapes_in (after basis due token) ≡ shapes_after basis (shape_of due) token
same_shapes basis due Blank = refl
same_shapes basis due (Row fields) = row_shapes basis due fields
same_shapes basis due (Proof it) = proof_shapes basis due it
same_shapes basis due (Near rival fresh) = near_shapes basis due rival fresh
same_shapes basis due Unknown = refl

-- one line of both readings
step_shapes : (next : Next Expected) (at : ℕ) (grammar : List Expected → Ending)
    (rest : List DueShape → Ending)
    → ((more : List Expected) → grammar more ≡ rest (map shape_of more))
    → by_next (believed next) at grammar ≡ by_shapes (shapes_in next) at rest
step_shapes bad at grammar rest same = refl
step_shapes (go holds more) at grammar rest same = same more

pub shapes_suffice : ShapesSuffice
unfolding report_grammar
shapes_suffice basis [] [] at unsettled = refl
shapes_suffice basis [] (due ∷ dues) at unsettled = refl
shapes_suffice basis (token ∷ tokens) [] at unsettled = refl
shapes_suffice basis (token ∷ tokens) (due ∷ dues) at unsettled =
    let count = with_unsettled unsettled token in
    let rest : List DueShape → Ending =
    λ more. shapes_ending basis tokens (more ++ map shape_of dues) (at + 1) count in
    step_shapes (after basis due token) at
    (λ more. grammar_of basis tokens (more ++ dues) (at + 1) count) rest
    (λ more. shapes_suffice basis tokens (more ++ dues) (at + 1) count
    ∙ ap (λ shapes. shapes_ending basis tokens shapes (at + 1) count)
    (map-append shape_of more dues))
    ∙ ap (λ found. by_shapes found at rest) (same_shapes basis due token)
