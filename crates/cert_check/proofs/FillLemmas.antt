-- Everything that is due can be met, as the grammar has it: a leaf for each zone, no goals for each
-- match that is left, lots in the order of the sheet.
use Rattle.std.proofs.Common.{◌≡◌, ℕ, zero, suc, true, false, List, [], ◌∷◌, ◌++◌, length, map}
use Rattle.std.proofs.Common.{Option, None, refl, inl, arith}
use Rattle.std.specs.Prelude.{IsTrue}
use Rattle.league_core.specs.declared.season.Score.{Score}
use Rattle.league_core.specs.declared.question.Claim.TheVariants.{Inside, Outside}
use Rattle.league_core.specs.declared.question.Question.{Question}
use Rattle.league_core.specs.declared.zone.Literal.{Literal}
use Rattle.league_core.specs.declared.zone.Reason.TheVariants.{Count}
use Rattle.league_core.specs.game.Ranking.{are_lots}
use Rattle.league_core.specs.game.Questions.{holds_at, full_question}
use Rattle.league_core.specs.inside.LotsFor.{lots_for_claim}
use Rattle.league_core.proofs.LotsLemmas.{lots_for_claim-are_lots}
use Rattle.league_core.proofs.FinishLemmas.{may_all_end-ended, ended_of}
use Rattle.cert_text.specs.declared.proof_line.ProofLine.TheVariants as line
use Rattle.cert_text.specs.ExampleLines.{score_lines, lots_line}
use Rattle.wide_lines.specs.declared.wide_reason.WideReason.TheVariants as why
use Rattle.wide_lines.specs.WideReasons.{has_wide_reason}
use Rattle.wide_lines.specs.WideTrees.{WideTree, refuted_leaf}
use Rattle.line_tokens.specs.declared.token.Token.{Token}
use Rattle.line_tokens.specs.declared.token.Token.TheVariants.{Row, Proof}
use Rattle.line_tokens.specs.declared.row_word.RowWord.TheVariants.{Clinched}
use Rattle.line_tokens.specs.declared.tree_line.TreeKind.{TreeKind}
use Rattle.line_tokens.specs.declared.tree_line.TreeKind.TheVariants.{Refutation, Spent}
use Rattle.cert_check.specs.declared.expected.Tally.{Tally}
use Rattle.cert_check.specs.ExpectedItems.{Basis, Expected, ask_row, verdict_row, tree_head}
use Rattle.cert_check.specs.ExpectedItems.{spent_head, finish_head, both_parts, one_part, nodes}
use Rattle.cert_check.specs.ExpectedItems.{score, lots}
use Rattle.line_tokens.specs.RowFields.{ask_fields, verdict_fields}
use Rattle.line_tokens.specs.LineRanges.{name_of_club}
use Rattle.cert_check.specs.ExpectedItems.{finish_with, is_tally_whole}
use Rattle.cert_check.specs.inside.Grammar.{IsPartFor, TreesFit, AreTrees, lines_of_trees}
use Rattle.cert_check.specs.inside.Grammar.{no_tally, IsExampleFrom, IsRefutationPart, IsSpentPart}
use Rattle.cert_check.specs.inside.Grammar.{IsExamplePart, tally_after}
use Rattle.league_core.proofs.plain.Options.{OnTrue-false}

-- a refuted leaf
some_leaf : WideTree
some_leaf = refuted_leaf (why.Plain Count) false

-- a leaf for each zone
leaves_for : List (List Literal) → List WideTree
leaves_for zones = map (λ _. some_leaf) zones

-- they fit
leaves_fit : (basis : Basis) (kind : TreeKind) (question : Question) (zones : List (List Literal))
    → TreesFit false basis kind question zones (leaves_for zones)
unfolding leaves_for some_leaf
leaves_fit basis kind question [] = tt
leaves_fit basis kind question (zone ∷ zones) = (
  (
    refl,
    OnTrue-false
        (IsTrue (has_wide_reason basis.sheet basis.season question zone (why.Plain Count))),
  ),
  leaves_fit basis kind question zones,
)

-- some nodes for zones
some_nodes : (basis : Basis) (kind : TreeKind) (question : Question) (zones : List (List Literal))
    (tally : Tally) → (tokens : List Token) × AreTrees false basis kind question zones tally tokens
some_nodes basis kind question zones tally = (
  lines_of_trees kind (leaves_for zones),
  (
    leaves_for zones,
    leaves_fit basis kind question zones,
    OnTrue-false (IsTrue (is_tally_whole basis.sheet.budget kind
        (tally_after tally (leaves_for zones)))),
    refl,
  ),
)

-- some lots of so many clubs
some_lots : (clubs : ℕ) → (drawn : List ℕ) × (are_lots clubs drawn ≡ true)
some_lots zero = ([], refl)
some_lots (suc clubs) = (
  lots_for_claim (suc clubs) 0 Inside,
  lots_for_claim-are_lots (suc clubs) 0 Inside (omega arith),
)

-- some rest of an example
some_rest : (basis : Basis) (question : Question) (ended left : List (Option Score))
    → (tokens : List Token) × IsExampleFrom false basis question ended left tokens
some_rest basis question ended left =
    let drawn = some_lots (length basis.sheet.clubs) in
    let scores = map ended_of left in (
      map Proof (score_lines (length ended) left scores ++ lots_line drawn.0 ∷ []),
      (
        scores,
        drawn.0,
        may_all_end-ended basis.sheet.goal_limit left,
        drawn.1,
        OnTrue-false (IsTrue (holds_at basis.sheet question (finish_with basis.season (ended ++
            scores))
            drawn.0)),
        refl,
      ),
    )

-- some refutation
some_refutation : (basis : Basis) (question : Question)
    → (tokens : List Token) × IsRefutationPart false basis question tokens
some_refutation basis question =
    let tree = some_nodes basis Refutation question ([] ∷ []) no_tally in
    (Proof (line.Tree question.claim) ∷ tree.0, (tree.0, tree.1, refl))

-- some spent tree
some_spent : (basis : Basis) (question : Question)
    → (tokens : List Token) × IsSpentPart false basis question tokens
some_spent basis question =
    let tree = some_nodes basis Spent question ([] ∷ []) no_tally in
    (Proof (line.Spent question.claim) ∷ tree.0, (tree.0, tree.1, refl))

-- some example
some_example : (basis : Basis) (question : Question)
    → (tokens : List Token) × IsExamplePart false basis question tokens
some_example basis question =
    let rest = some_rest basis question [] basis.season.scores in
    (Proof (line.Finish question.claim) ∷ rest.0, (rest.0, rest.1, refl))

-- some part for anything that is due
pub some_part : (basis : Basis) (due : Expected) → (tokens : List Token)
    × IsPartFor false basis due tokens
some_part basis ask_row = (Row (ask_fields basis.epoch) ∷ [], refl)
some_part basis (verdict_row number club) =
    let tree = some_refutation basis (full_question club number Outside) in (
      Row (verdict_fields number (name_of_club basis.sheet club) Clinched) ∷ tree.0,
      (Clinched, tree.0, tree.1, refl),
    )
some_part basis (tree_head question) = some_refutation basis question
some_part basis (spent_head question) = some_spent basis question
some_part basis (finish_head question) = some_example basis question
some_part basis (both_parts number club) =
    let front = some_example basis (full_question club number Inside) in
    let back = some_spent basis (full_question club number Outside) in
    (front.0 ++ back.0, (front.0, back.0, inl (front.1, back.1), refl))
some_part basis (one_part question) =
    let it = some_example basis question in (it.0, inl it.1)
some_part basis (nodes kind question zone zones tally) =
    some_nodes basis kind question (zone ∷ zones) tally
some_part basis (score question ended left) = some_rest basis question ended (None ∷ left)
some_part basis (lots question ended) =
    let drawn = some_lots (length basis.sheet.clubs) in (
      Proof (lots_line drawn.0) ∷ [],
      (
        drawn.0,
        drawn.1,
        OnTrue-false (IsTrue (holds_at basis.sheet question
            (finish_with basis.season ended) drawn.0)),
        refl,
      ),
    )
