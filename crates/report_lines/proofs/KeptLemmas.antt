-- Lines as a type holds them. The bits of a set past its width name no club: without them a line
-- has the same text, and a tree or an item shows the same.
use Rattle.std.proofs.Common.{◌≡◌, ℕ, ◌-◌, ◌^◌, true, false, ◌&&◌, eqb, List, [], ◌∷◌, ◌++◌, map}
use Rattle.std.proofs.Common.{refl, sym, ap, ap₂, ◌∙◌, arith}
use Rattle.std.specs.Prelude.{codes}
use Rattle.std.specs.List.{range_with_len}
use Rattle.std.specs.Int.{bit_at}
use Rattle.std.specs.Int.Bits.{bit_and}
use Rattle.std.proofs.lemmas.Bool.{ltb-true, lt-ltb}
use Rattle.std.proofs.lemmas.List.{map-append}
use Rattle.std.proofs.lemmas.Nat.{and_le_r}
use Rattle.league_core.specs.declared.sheet.Sheet.{Sheet}
use Rattle.league_core.specs.declared.club_set.ClubSet.{ClubSet}
use Rattle.league_core.specs.declared.question.Question.{Question}
use Rattle.league_core.specs.declared.zone.Literal.{Literal}
use Rattle.league_core.specs.declared.zone.Reason.{Reason}
use Rattle.league_core.specs.declared.zone.Reason.TheVariants.{Count, Window, Low, High, Tie}
use Rattle.league_core.specs.declared.tree.TreeNode.{TreeNode}
use Rattle.league_core.specs.declared.tree.TreeNode.TheVariants.{Split, Open, Lent, Refuted}
use Rattle.league_core.specs.game.Results.{Results}
use Rattle.league_core.specs.game.ClubSets.{clubs_below, clubs_in}
use Rattle.league_core.specs.search.Options.{has_finish}
use Rattle.league_core.specs.search.Reasons.{has_reason, refutes_by_low, refutes_by_high}
use Rattle.league_core.specs.search.Trees.{Tree, open_leaf, lent_leaf, refuted_leaf, branch}
use Rattle.league_core.specs.search.Trees.{preorder}
use Rattle.league_core.proofs.ClubSetLemmas.{filter_agree_in, has_club-range}
use Rattle.cert_text.specs.declared.proof_line.ProofLine.{ProofLine}
use Rattle.cert_text.specs.declared.proof_line.ProofLine.TheVariants as line
use Rattle.cert_text.specs.Lines.{Part, word, clubs, array_text, part_text, reason_parts}
use Rattle.cert_text.specs.Lines.{text_of_proof_line}
use Rattle.cert_text.specs.TreeLines.{marked_line, marked_lines}
use Rattle.cert_text.specs.ExampleLines.{text_of_proof_lines}
use Rattle.cert_text.specs.inside.Widths.{is_set_kept, is_reason_kept, is_line_kept}
use Rattle.league_core.proofs.plain.Numbers.{bit-kept}

-- ---- sets and reasons

-- a set without the bits past its width
abbrev pub kept_set : ClubSet → ClubSet
kept_set set = record { bits = bit_and set.bits (2 ^ 32 - 1) }

-- it has the same clubs
pub clubs-kept : (set : ClubSet) → clubs_in (kept_set set) ≡ clubs_in set
unfolding clubs_below
clubs-kept set =
    filter_agree_in (λ club. eqb (bit_at (bit_and set.bits (2 ^ 32 - 1)) club) 1)
    (λ club. eqb (bit_at set.bits club) 1) (range_with_len 0 32)
    (λ club within. ap (λ bit. eqb bit 1)
    (bit-kept set.bits club (ltb-true club 32 (sym (has_club-range 32 club) ∙ within))))

set-kept : (set : ClubSet) → is_set_kept (kept_set set) ≡ true
set-kept set =
    let below = and_le_r set.bits (2 ^ 32 - 1) in
    lt-ltb (bit_and set.bits (2 ^ 32 - 1)) (2 ^ 32) (omega (arith, below))

-- a reason with such a set
abbrev pub kept_reason : Reason → Reason
kept_reason Count = Count
kept_reason Window = Window
kept_reason (Low set) = Low (kept_set set)
kept_reason (High set) = High (kept_set set)
kept_reason Tie = Tie

pub reason-kept : (reason : Reason) → is_reason_kept (kept_reason reason) ≡ true
reason-kept Count = refl
reason-kept Window = refl
reason-kept (Low set) = set-kept set
reason-kept (High set) = set-kept set
reason-kept Tie = refl

-- it holds where the reason holds
pub has_reason-kept : (sheet : Sheet) (season : Results) (question : Question) (zone : List Literal)
    (reason : Reason) → has_reason sheet season question zone (kept_reason reason)
    ≡ has_reason sheet season question zone reason
unfolding has_reason
has_reason-kept sheet season question zone Count = refl
has_reason-kept sheet season question zone Window = refl
has_reason-kept sheet season question zone (Low set) =
    ap (λ list. has_finish sheet season zone
    && refutes_by_low sheet season question zone list) (clubs-kept set)
has_reason-kept sheet season question zone (High set) =
    ap (λ list. has_finish sheet season zone
    && refutes_by_high sheet season question zone list) (clubs-kept set)
has_reason-kept sheet season question zone Tie = refl

-- ---- lines

-- a line with such a reason
abbrev pub kept_line : ProofLine → ProofLine
kept_line (line.Tree claim) = line.Tree claim
kept_line (line.Spent claim) = line.Spent claim
kept_line (line.SpentWindow claim low high) = line.SpentWindow claim low high
kept_line (line.Split test) = line.Split test
kept_line (line.NewSplit test) = line.NewSplit test
kept_line (line.Leaf reason) = line.Leaf (kept_reason reason)
kept_line (line.NewLeaf reason) = line.NewLeaf (kept_reason reason)
kept_line line.OpenLeaf = line.OpenLeaf
kept_line (line.Finish claim) = line.Finish claim
kept_line (line.Score fixture score) = line.Score fixture score
kept_line (line.Lots lots) = line.Lots lots

-- a type holds it
pub line-kept : (shown : ProofLine) → is_line_kept (kept_line shown) ≡ true
line-kept (line.Tree claim) = refl
line-kept (line.Spent claim) = refl
line-kept (line.SpentWindow claim low high) = refl
line-kept (line.Split test) = refl
line-kept (line.NewSplit test) = refl
line-kept (line.Leaf reason) = reason-kept reason
line-kept (line.NewLeaf reason) = reason-kept reason
line-kept line.OpenLeaf = refl
line-kept (line.Finish claim) = refl
line-kept (line.Score fixture score) = refl
line-kept (line.Lots lots) = refl

parts-kept : (reason : Reason) → reason_parts (kept_reason reason) ≡ reason_parts reason
parts-kept Count = refl
parts-kept Window = refl
parts-kept (Low set) = ap (λ list. word (codes "low") ∷ clubs list ∷ []) (clubs-kept set)
parts-kept (High set) = ap (λ list. word (codes "high") ∷ clubs list ∷ []) (clubs-kept set)
parts-kept Tie = refl

-- it has the same text
pub text-kept : (shown : ProofLine)
    → text_of_proof_line (kept_line shown) ≡ text_of_proof_line shown
text-kept (line.Tree claim) = refl
text-kept (line.Spent claim) = refl
text-kept (line.SpentWindow claim low high) = refl
text-kept (line.Split test) = refl
text-kept (line.NewSplit test) = refl
text-kept (line.Leaf reason) =
    ap (λ (parts : List Part). array_text (map part_text (word (codes "leaf") ∷ parts)))
    (parts-kept reason)
text-kept (line.NewLeaf reason) =
    ap (λ (parts : List Part). array_text (map part_text (word (codes "new_leaf") ∷ parts)))
    (parts-kept reason)
text-kept line.OpenLeaf = refl
text-kept (line.Finish claim) = refl
text-kept (line.Score fixture score) = refl
text-kept (line.Lots lots) = refl

-- so have these
pub texts-kept : (lines : List ProofLine)
    → text_of_proof_lines (map kept_line lines) ≡ text_of_proof_lines lines
texts-kept [] = refl
texts-kept (shown ∷ lines) =
    ap₂ (λ (front back : List ℕ). (front ++ 10 ∷ []) ++ back) (text-kept shown) (texts-kept lines)

-- ---- trees

-- a node with such a reason
abbrev pub kept_node : TreeNode → TreeNode
kept_node (Split test fresh) = Split test fresh
kept_node Open = Open
kept_node (Lent number) = Lent number
kept_node (Refuted reason fresh) = Refuted (kept_reason reason) fresh

-- a tree of such nodes
abbrev pub kept_tree : Tree → Tree
kept_tree open_leaf = open_leaf
kept_tree (lent_leaf number) = lent_leaf number
kept_tree (refuted_leaf reason fresh) = refuted_leaf (kept_reason reason) fresh
kept_tree (branch test fresh yes_half no_half) =
    branch test fresh (kept_tree yes_half) (kept_tree no_half)

pub preorder-kept : (tree : Tree) → preorder (kept_tree tree) ≡ map kept_node (preorder tree)
preorder-kept open_leaf = refl
preorder-kept (lent_leaf number) = refl
preorder-kept (refuted_leaf reason fresh) = refl
preorder-kept (branch test fresh yes_half no_half) =
    ap₂ (λ (yes no : List TreeNode). Split test fresh ∷ (yes ++ no)) (preorder-kept yes_half)
    (preorder-kept no_half)
    ∙ ap (λ (nodes : List TreeNode). Split test fresh ∷ nodes)
    (sym (map-append kept_node (preorder yes_half) (preorder no_half)))

-- the lines of nodes, if each node's line is kept as the node is
pub lines-kept : {Node Line : Type 0} (keep : Node → Node) (kept : Line → Line)
    (shown : Node → Line) → ((node : Node) → shown (keep node) ≡ kept (shown node))
    → (nodes : List Node) → map shown (map keep nodes) ≡ map kept (map shown nodes)
lines-kept keep kept shown same [] = refl
lines-kept {Line = Line} keep kept shown same (node ∷ nodes) =
    ap₂ (λ (first : Line) (rest : List Line). first ∷ rest) (same node)
    (lines-kept keep kept shown same nodes)

marked-kept : (node : TreeNode) → marked_line (kept_node node) ≡ kept_line (marked_line node)
marked-kept (Split test true) = refl
marked-kept (Split test false) = refl
marked-kept Open = refl
marked-kept (Lent number) = refl
marked-kept (Refuted reason true) = refl
marked-kept (Refuted reason false) = refl

pub marked_lines-kept : (tree : Tree)
    → map kept_line (marked_lines tree) ≡ marked_lines (kept_tree tree)
marked_lines-kept tree =
    sym (lines-kept kept_node kept_line marked_line marked-kept (preorder tree))
    ∙ ap (map marked_line) (sym (preorder-kept tree))
