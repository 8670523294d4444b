-- What is read of a saved text stays sound line by line, and a whole one gives trees that may be
-- saved.
use Rattle.std.proofs.Common.{◌≡◌, ℕ, suc, zero, ◌+◌, ◌≤◌, Bool, true, false, List, []}
use Rattle.std.proofs.Common.{◌∷◌, ◌++◌}
use Rattle.std.proofs.Common.{length, drop, Option, Some, None, refl, sym, ap, ◌∙◌, subst}
use Rattle.std.proofs.Common.{length-append, arith, IfSome}
use Rattle.std.specs.Prelude.{IfOk, Result, Ok, Err, is_some, if◌then◌else◌}
use Rattle.std.specs.List.{slice_get}
use Rattle.std.proofs.lemmas.Option.{none-some, same_Some}
use Rattle.league_core.specs.declared.sheet.Sheet.{Sheet}
use Rattle.league_core.specs.declared.question.Question.{Question}
use Rattle.league_core.specs.declared.tree.TreeNode.{TreeNode}
use Rattle.league_core.specs.declared.tree.TreeNode.TheVariants.{Split, Open, Lent, Refuted}
use Rattle.league_core.specs.search.Trees.{Tree}
use Rattle.league_core.specs.search.TreeLists.{tree_of}
use Rattle.league_core.proofs.TreeLemmas.{NodesMeet-weaker}
use Rattle.league_core.proofs.TreeListLemmas.{preorder-tree_of}
use Rattle.tree_reuse.specs.Asked.{IsAskedNode, IsAskedTree}
use Rattle.line_tokens.specs.declared.token.Token.{Token}
use Rattle.line_tokens.specs.declared.token.Token.TheVariants.{Blank, Row, Proof, Near, Unknown}
use Rattle.line_tokens.specs.declared.tree_line.TreeKind.TheVariants.{Spent}
use Rattle.line_tokens.specs.LineRanges.{is_reason_for}
use Rattle.line_tokens.specs.TreeNodes.{node_in}
use Rattle.pool_save.specs.SavedTexts.{IsSavedNode, IsSavedTree, AreSavedTrees}
use Rattle.pool_save.specs.SavedTexts.{AreAskedTrees, AreFirstTreesOf}
use Rattle.pool_save.specs.SavedReadings.{SaveState, SaveStep, goes_on, whole, bad}
use Rattle.pool_save.specs.SavedReadings.{nothing_saved}
use Rattle.pool_save.specs.SavedReadings.{filled_places, is_row_of, is_end_row, item_begun}
use Rattle.pool_save.specs.SavedReadings.{row_taken}
use Rattle.pool_save.specs.SavedReadings.{may_split, leaf_taken, split_taken, node_taken}
use Rattle.pool_save.specs.SavedReadings.{node_taken_if, with_rival}
use Rattle.pool_save.specs.SavedReadings.{question_due, save_taken}
use Rattle.pool_save.specs.inside.SoFar.{IsDrafted, IsItemSoFar, IsSaveState}
use Rattle.pool_save.proofs.DraftLemmas.{draft_begun, open_taken, refuted_taken, split_drafted}
use Rattle.pool_save.proofs.DraftLemmas.{draft_whole, draft_is_read}

-- what a step gives is sound
abbrev pub IsSoundStep : Sheet → List Question → SaveStep → Type 0
IsSoundStep sheet asked (goes_on state) = IsSaveState sheet asked state
IsSoundStep sheet asked (whole trees) = AreSavedTrees sheet asked trees
IsSoundStep sheet asked bad = Unit {0}

-- nothing is
pub nothing_sound : (sheet : Sheet) (asked : List Question) → IsSaveState sheet asked nothing_saved
nothing_sound sheet asked = record { first = tt; item = refl }

-- ---- first trees

-- one more
first_more : (sheet : Sheet) (asked : List Question) (trees : List (Option Tree))
    (question : Question) (tree : Option Tree) → AreFirstTreesOf (IsSavedTree sheet) asked trees
    → slice_get asked (length trees) ≡ Some question → IfSome tree (IsSavedTree sheet question)
    → AreFirstTreesOf (IsSavedTree sheet) asked (trees ++ tree ∷ [])
first_more sheet [] [] question tree first there may = absurd (none-some question there)
first_more sheet [] (other ∷ trees) question tree first there may = absurd first
first_more sheet (own ∷ asked) [] question tree first there may =
    (subst (λ q. IfSome tree (IsSavedTree sheet q)) (sym (same_Some own question there)) may, tt)
first_more sheet (own ∷ asked) (other ∷ trees) question tree first there may =
    (first.0, first_more sheet asked trees question tree first.1 there may)

-- the questions that are left have none
all_filled : (sheet : Sheet) (asked : List Question) (trees : List (Option Tree))
    → AreFirstTreesOf (IsSavedTree sheet) asked trees
    → AreSavedTrees sheet asked (filled_places asked trees)
all_filled sheet [] [] first = tt
all_filled sheet [] (tree ∷ trees) first = absurd first
all_filled sheet (question ∷ asked) [] first = (tt, all_filled sheet asked [] tt)
all_filled sheet (question ∷ asked) (tree ∷ trees) first =
    (first.0, all_filled sheet asked trees first.1)

-- ---- rows

-- the first of the questions that are left
pub first_left : (asked rest : List Question) (question : Question) (place : ℕ)
    → drop place asked ≡ question ∷ rest
    → (slice_get asked place ≡ Some question) × (drop (suc place) asked ≡ rest)
first_left [] rest question zero left = absurd cc
first_left [] rest question (suc place) left = absurd cc
first_left (own ∷ asked) rest question zero left = (cc, cc)
first_left (own ∷ asked) rest question (suc place) left =
    first_left asked rest question place left

-- an item that begins
begun_sound : (sheet : Sheet) (asked rest : List Question) (trees : List (Option Tree))
    (fields : List (List ℕ)) → AreFirstTreesOf (IsSavedTree sheet) asked trees
    → drop (length trees) asked ≡ rest → IsSoundStep sheet asked (item_begun sheet rest trees
    fields)
begun_sound sheet asked [] trees fields first left = tt
begun_sound sheet asked (question ∷ rest) trees fields first left =
    by (is_row_of sheet question fields)
    (begun_sound sheet asked rest (trees ++ None ∷ []) fields
    (first_more sheet asked trees question None first here.0 tt)
    (ap (λ n. drop n asked) (length-append trees (None ∷ []) ∙ one_more (length trees)) ∙ here.1))
  where
    here : (slice_get asked (length trees) ≡ Some question)
        × (drop (suc (length trees)) asked ≡ rest)
    here = first_left asked rest question (length trees) left

    one_more : (n : ℕ) → n + 1 ≡ suc n
    one_more n = omega arith

    by : (test : Bool)
        → IsSoundStep sheet asked (item_begun sheet rest (trees ++ None ∷ []) fields)
        → IsSoundStep sheet asked
        (if test then goes_on (record { trees = trees; nodes = []; due = [] ∷ [] })
        else item_begun sheet rest (trees ++ None ∷ []) fields)
    by true more = record {
      first = first;
      item = subst (λ q. IsItemSoFar sheet q [] ([] ∷ [])) (sym here.0)
          (draft_begun sheet question [] refl);
    }
    by false more = more

-- a row
row_sound : (sheet : Sheet) (asked : List Question) (state : SaveState) (fields : List (List ℕ))
    (due : List (List ℕ)) → IsSaveState sheet asked state
    → IsSoundStep sheet asked (row_taken sheet asked state.trees fields due)
row_sound sheet asked state fields (rivals ∷ due) sound = tt
row_sound sheet asked state fields [] sound = by (is_end_row fields)
  where
    by : (test : Bool) → IsSoundStep sheet asked
        (if test then whole (filled_places asked state.trees)
        else item_begun sheet (drop (length state.trees) asked) state.trees fields)
    by true = all_filled sheet asked state.trees sound.first
    by false =
        begun_sound sheet asked (drop (length state.trees) asked) state.trees fields sound.first
        refl

-- ---- nodes

-- the tree that is made of the nodes, when nothing must come any more
made_may_be : (sheet : Sheet) (question : Question) (nodes : List TreeNode)
    → IsDrafted sheet question nodes [] → IfSome (tree_of nodes) (IsSavedTree sheet question)
made_may_be sheet question nodes drafted = by (tree_of nodes) refl
  where
    by : (read : Option Tree) → tree_of nodes ≡ read → IfSome read (IsSavedTree sheet question)
    by None is = tt
    by (Some tree) is =
        draft_whole sheet question nodes tree drafted (preorder-tree_of nodes tree is)

-- and there is one
pub made_there : (sheet : Sheet) (question : Question) (nodes : List TreeNode)
    → IsDrafted sheet question nodes [] → is_some (tree_of nodes) ≡ true
made_there sheet question nodes drafted = by (tree_of nodes) refl
  where
    by : (read : Option Tree) → tree_of nodes ≡ read → is_some read ≡ true
    by None is = absurd (draft_is_read sheet question nodes drafted is)
    by (Some tree) is = refl

-- a leaf
leaf_sound : (sheet : Sheet) (asked : List Question) (question : Question) (state : SaveState)
    (node : TreeNode) (due : List (List ℕ)) → AreFirstTreesOf (IsSavedTree sheet) asked state.trees
    → slice_get asked (length state.trees) ≡ Some question
    → IsDrafted sheet question (state.nodes ++ node ∷ []) due
    → IsSaveState sheet asked (leaf_taken state node due)
leaf_sound sheet asked question state node [] first there drafted = record {
  first = first_more sheet asked state.trees question (tree_of (state.nodes ++ node ∷ [])) first
      there (made_may_be sheet question (state.nodes ++ node ∷ []) drafted);
  item = refl;
}
leaf_sound sheet asked question state node (rivals ∷ due) first there drafted = record {
  first = first;
  item = subst (λ q. IsItemSoFar sheet q (state.nodes ++ node ∷ []) (rivals ∷ due)) (sym there)
      drafted;
}

-- a node
node_sound : (sheet : Sheet) (asked : List Question) (question : Question) (state : SaveState)
    (due : List (List ℕ)) (node : TreeNode) → AreFirstTreesOf (IsSavedTree sheet) asked state.trees
    → slice_get asked (length state.trees) ≡ Some question
    → IsItemSoFar sheet (Some question) state.nodes due
    → IsSoundStep sheet asked (node_taken sheet question state due node)
node_sound sheet asked question state [] node first there item = tt
node_sound sheet asked question state (rivals ∷ due) (Split test fresh) first there item =
    by (may_split sheet question rivals test) refl
  where
    by : (may : Bool) → may_split sheet question rivals test ≡ may → IsSoundStep sheet asked
        (if may then goes_on (split_taken state test fresh rivals due) else bad)
    by false is = tt
    by true is = record {
      first = first;
      item = subst (λ q. IsItemSoFar sheet q (state.nodes ++ Split test fresh ∷ [])
          (with_rival rivals test ∷ with_rival rivals test ∷ due)) (sym there)
          (split_drafted sheet question state.nodes rivals due test fresh item is);
    }
node_sound sheet asked question state (rivals ∷ due) Open first there item =
    leaf_sound sheet asked question state Open due first there
    (open_taken sheet question state.nodes rivals due item)
node_sound sheet asked question state (rivals ∷ due) (Lent number) first there item = tt
node_sound sheet asked question state (rivals ∷ due) (Refuted reason fresh) first there item =
    by (is_reason_for sheet question reason) refl
  where
    by : (may : Bool) → is_reason_for sheet question reason ≡ may → IsSoundStep sheet asked
        (if may then goes_on (leaf_taken state (Refuted reason fresh) due) else bad)
    by false is = tt
    by true is =
        leaf_sound sheet asked question state (Refuted reason fresh) due first there
        (refuted_taken sheet question state.nodes rivals due reason fresh item is)

-- a line
pub taken_sound : (sheet : Sheet) (asked : List Question) (state : SaveState) (token : Token)
    → IsSaveState sheet asked state
    → IsSoundStep sheet asked (save_taken sheet asked state token)
taken_sound sheet asked state Blank sound = sound
taken_sound sheet asked state (Row fields) sound =
    row_sound sheet asked state fields state.due sound
taken_sound sheet asked state (Near rival fresh) sound = tt
taken_sound sheet asked state Unknown sound = tt
taken_sound sheet asked state (Proof line) sound =
    by (slice_get asked (length state.trees)) refl (node_in Spent line)
  where
    by : (question : Option Question) → slice_get asked (length state.trees) ≡ question
        → (node : Option TreeNode)
        → IsSoundStep sheet asked (node_taken_if sheet question state node)
    by None is it = tt
    by (Some question) is None = tt
    by (Some question) is (Some node) =
        node_sound sheet asked question state state.due node sound.first is
        (subst (λ q. IsItemSoFar sheet q state.nodes state.due) is sound.item)

-- ---- how many nodes

-- a step adds one node at most
abbrev pub IsFewStep : ℕ → SaveStep → Type 0
IsFewStep nodes (goes_on state) = length state.nodes ≤ nodes + 1
IsFewStep nodes (whole trees) = Unit {0}
IsFewStep nodes bad = Unit {0}

begun_few : (sheet : Sheet) (rest : List Question) (trees : List (Option Tree))
    (fields : List (List ℕ)) (nodes : ℕ) → IsFewStep nodes (item_begun sheet rest trees fields)
begun_few sheet [] trees fields nodes = tt
begun_few sheet (question ∷ rest) trees fields nodes =
    by (is_row_of sheet question fields)
    (begun_few sheet rest (trees ++ None ∷ []) fields nodes)
  where
    by : (test : Bool) → IsFewStep nodes (item_begun sheet rest (trees ++ None ∷ []) fields)
        → IsFewStep nodes
        (if test then goes_on (record { trees = trees; nodes = []; due = [] ∷ [] })
        else item_begun sheet rest (trees ++ None ∷ []) fields)
    by true more = omega arith
    by false more = more

row_few : (sheet : Sheet) (asked : List Question) (trees : List (Option Tree))
    (fields : List (List ℕ)) (due : List (List ℕ)) (nodes : ℕ)
    → IsFewStep nodes (row_taken sheet asked trees fields due)
row_few sheet asked trees fields (rivals ∷ due) nodes = tt
row_few sheet asked trees fields [] nodes = by (is_end_row fields)
  where
    by : (test : Bool) → IsFewStep nodes (if test then whole (filled_places asked trees)
        else item_begun sheet (drop (length trees) asked) trees fields)
    by true = tt
    by false = begun_few sheet (drop (length trees) asked) trees fields nodes

-- the nodes with one more
node_more : (nodes : List TreeNode) (node : TreeNode)
    → length (nodes ++ node ∷ []) ≤ length nodes + 1
node_more nodes node = let more = length-append nodes (node ∷ []) in omega (arith, more)

leaf_few : (state : SaveState) (node : TreeNode) (due : List (List ℕ))
    → IsFewStep (length state.nodes) (goes_on (leaf_taken state node due))
leaf_few state node [] = omega arith
leaf_few state node (rivals ∷ due) = node_more state.nodes node

node_few : (sheet : Sheet) (question : Question) (state : SaveState) (due : List (List ℕ))
    (node : TreeNode)
    → IsFewStep (length state.nodes) (node_taken sheet question state due node)
node_few sheet question state [] node = tt
node_few sheet question state (rivals ∷ due) (Split test fresh) =
    by (may_split sheet question rivals test)
  where
    by : (may : Bool) → IsFewStep (length state.nodes)
        (if may then goes_on (split_taken state test fresh rivals due) else bad)
    by true = node_more state.nodes (Split test fresh)
    by false = tt
node_few sheet question state (rivals ∷ due) Open = leaf_few state Open due
node_few sheet question state (rivals ∷ due) (Lent number) = tt
node_few sheet question state (rivals ∷ due) (Refuted reason fresh) =
    by (is_reason_for sheet question reason)
  where
    by : (may : Bool) → IsFewStep (length state.nodes)
        (if may then goes_on (leaf_taken state (Refuted reason fresh) due) else bad)
    by true = leaf_few state (Refuted reason fresh) due
    by false = tt

pub taken_few : (sheet : Sheet) (asked : List Question) (state : SaveState) (token : Token)
    → IsFewStep (length state.nodes) (save_taken sheet asked state token)
taken_few sheet asked state Blank = omega arith
taken_few sheet asked state (Row fields) =
    row_few sheet asked state.trees fields state.due (length state.nodes)
taken_few sheet asked state (Near rival fresh) = tt
taken_few sheet asked state Unknown = tt
taken_few sheet asked state (Proof line) =
    by (question_due asked state) (node_in Spent line)
  where
    by : (question : Option Question) (node : Option TreeNode)
        → IsFewStep (length state.nodes) (node_taken_if sheet question state node)
    by None it = tt
    by (Some question) None = tt
    by (Some question) (Some node) = node_few sheet question state state.due node

-- ---- trees that are given

-- a saved tree is one that its question may go on from
saved_is_asked : (sheet : Sheet) (question : Question) (tree : Tree)
    → IsSavedTree sheet question tree → IsAskedTree sheet question tree
saved_is_asked sheet question tree saved =
    NodesMeet-weaker (IsSavedNode sheet question) (IsAskedNode sheet question)
    (λ zone node both. both.0) tree [] saved

saved_are_asked : (sheet : Sheet) (asked : List Question) (trees : List (Option Tree))
    → AreSavedTrees sheet asked trees → AreAskedTrees sheet asked trees
saved_are_asked sheet [] [] saved = tt
saved_are_asked sheet [] (tree ∷ trees) saved = absurd saved
saved_are_asked sheet (question ∷ asked) [] saved = absurd saved
saved_are_asked sheet (question ∷ asked) (None ∷ trees) saved =
    (tt, saved_are_asked sheet asked trees saved.1)
saved_are_asked sheet (question ∷ asked) (Some tree ∷ trees) saved =
    (saved_is_asked sheet question tree saved.0, saved_are_asked sheet asked trees saved.1)

-- so are those that a call gave
pub given_are_asked : {V E : Type 0} → (sheet : Sheet) (asked : List Question)
    (result : Result V E) (listed : V → List (Option Tree))
    → IfOk result (λ trees. AreSavedTrees sheet asked (listed trees))
    → IfOk result (λ trees. AreAskedTrees sheet asked (listed trees))
given_are_asked sheet asked (Ok trees) listed saved =
    saved_are_asked sheet asked (listed trees) saved
given_are_asked sheet asked (Err stop) listed saved = tt
