-- What is read so far, as the lists that are kept of it.
use Rattle.std.proofs.Common.{◌≡◌, ℕ, Bool, true, false, List, [], ◌∷◌, ◌++◌, length, map, reverse}
use Rattle.std.proofs.Common.{refl, sym, ap, ◌∙◌, Option, Some, None, ◌<◌, ◌≤◌, ◌+◌, drop, get_or}
use Rattle.std.proofs.Common.{length-append, append-nil, arith, subst, is_some}
use Rattle.std.specs.Prelude.{if◌then◌else◌}
use Rattle.std.proofs.lemmas.List.{map-append, reverse-append, drop_more, drop_all}
use Rattle.std.specs.List.{slice_get}
use Rattle.std.proofs.lemmas.Option.{none-some, slice_get_within}
use Rattle.league_core.specs.declared.sheet.Sheet.{Sheet}
use Rattle.league_core.specs.declared.question.Question.{Question}
use Rattle.league_core.specs.declared.club_set.ClubSet.{ClubSet}
use Rattle.league_core.specs.declared.tree.TreeNode.{TreeNode}
use Rattle.league_core.specs.declared.tree.TreeNode.TheVariants.{Split, Open, Refuted}
use Rattle.league_core.specs.declared.zone.Test.{Test}
use Rattle.league_core.specs.declared.zone.Reason.{Reason}
use Rattle.league_core.specs.search.TreeLists.{tree_of}
use Rattle.league_core.specs.game.ClubSets.{clubs_in}
use Rattle.league_core.specs.search.Trees.{Tree}
use Rattle.pool_save.specs.SavedReadings.{SaveState, leaf_taken, filled_places, item_begun}
use Rattle.pool_save.specs.SavedReadings.{is_row_of}
use Rattle.pool_save.specs.SavedReadings.{goes_on, bad, node_taken, node_taken_if}
use Rattle.pool_save.specs.SavedReadings.{question_due, save_taken}
use Rattle.pool_save.specs.SavedReadings.{may_split, split_taken, with_rival}
use Rattle.line_tokens.specs.declared.token.Token.{Token}
use Rattle.line_tokens.specs.declared.token.Token.TheVariants.{Blank, Row, Proof, Near, Unknown}
use Rattle.line_tokens.specs.declared.tree_line.TreeKind.TheVariants.{Spent}
use Rattle.line_tokens.specs.LineRanges.{is_reason_for}
use Rattle.line_tokens.specs.inside.NodeCalls.{node_of_token}
use Rattle.pool_save.specs.inside.SoFar.{IsDrafted, IsItemSoFar, IsSaveState}
use Rattle.pool_save.proofs.DraftLemmas.{open_taken, refuted_taken}
use Rattle.pool_save.proofs.SoFarLemmas.{made_there}

-- the part that comes next is kept last
pub turned : (due rest : List ClubSet) (set : ClubSet) → due ≡ rest ++ set ∷ []
    → reverse (map clubs_in due) ≡ clubs_in set ∷ reverse (map clubs_in rest)
turned due rest set is =
    ap (λ all. reverse (map clubs_in all)) is
    ∙ ap reverse (map-append clubs_in rest (set ∷ []))
    ∙ reverse-append (map clubs_in rest) (clubs_in set ∷ [])

-- a leaf when parts must come yet
pub leaf-goes_on : (state : SaveState) (node : TreeNode) (due : List (List ℕ)) → (due ≡ [] → ⊥)
    → leaf_taken state node due
    ≡ record state { nodes = state.nodes ++ node ∷ []; due = due }
leaf-goes_on state node [] some = absurd (some refl)
leaf-goes_on state node (rivals ∷ due) some = refl

-- while parts must come there is a question
pub question_there : (sheet : Sheet) (question : Option Question) (nodes : List TreeNode)
    (rivals : List ℕ) (due : List (List ℕ)) → IsItemSoFar sheet question nodes (rivals ∷ due)
    → (it : Question) × (question ≡ Some it) × IsDrafted sheet it nodes (rivals ∷ due)
question_there sheet None nodes rivals due item = absurd item
question_there sheet (Some question) nodes rivals due item = (question, refl, item)

-- ---- places filled_places

-- one more of the questions that are left has no item
pub filled_places-more : (asked : List Question) (trees : List (Option Tree))
    → length trees < length asked → filled_places asked (trees ++ None ∷ []) ≡ filled_places asked
    trees
filled_places-more [] trees some = absurd (omega (arith, some))
filled_places-more (question ∷ asked) [] some = refl
filled_places-more (question ∷ asked) (tree ∷ trees) some =
    ap (λ rest. tree ∷ rest) (filled_places-more asked trees (omega (arith, some)))

-- none is left
pub filled_places-all : (asked : List Question) (trees : List (Option Tree))
    → length asked ≤ length trees → filled_places asked trees ≡ trees
filled_places-all asked trees all =
    ap (λ rest. trees ++ map (λ question. None) rest) (drop_all (length trees) asked all)
    ∙ append-nil trees

-- ---- items

-- whether an item begins shows at the next question
pub begun-next : (sheet : Sheet) (asked : List Question) (trees : List (Option Tree))
    (fields : List (List ℕ)) (question : Question) → length trees < length asked
    → question ≡ get_or asked (length trees) question
    → item_begun sheet (drop (length trees) asked) trees fields
    ≡ (if is_row_of sheet question fields
    then goes_on (record { trees = trees; nodes = []; due = [] ∷ [] })
    else item_begun sheet (drop (length trees + 1) asked) (trees ++ None ∷ []) fields)
begun-next sheet asked trees fields question some read =
    ap (λ rest. item_begun sheet rest trees fields)
    (drop_more asked (length trees) question some
    ∙ ap (λ q. q ∷ drop (length trees + 1) asked) (sym read))

-- it does not begin there
pub begun-later : (sheet : Sheet) (asked : List Question) (trees : List (Option Tree))
    (fields : List (List ℕ)) (question : Question) → length trees < length asked
    → question ≡ get_or asked (length trees) question → is_row_of sheet question fields ≡ false
    → item_begun sheet (drop (length (trees ++ None ∷ [])) asked) (trees ++ None ∷ []) fields
    ≡ item_begun sheet (drop (length trees) asked) trees fields
begun-later sheet asked trees fields question some read other =
    ap (λ n. item_begun sheet (drop n asked) (trees ++ None ∷ []) fields)
    (length-append trees (None ∷ []))
    ∙ sym (begun-next sheet asked trees fields question some read
    ∙ ap (λ b. if b then goes_on (record { trees = trees; nodes = []; due = [] ∷ [] })
    else item_begun sheet (drop (length trees + 1) asked) (trees ++ None ∷ []) fields) other)

-- it does
pub begun-here : (sheet : Sheet) (asked : List Question) (trees : List (Option Tree))
    (fields : List (List ℕ)) (question : Question) → length trees < length asked
    → question ≡ get_or asked (length trees) question → is_row_of sheet question fields ≡ true
    → item_begun sheet (drop (length trees) asked) trees fields
    ≡ goes_on (record { trees = trees; nodes = []; due = [] ∷ [] })
begun-here sheet asked trees fields question some read same =
    begun-next sheet asked trees fields question some read
    ∙ ap (λ b. if b then goes_on (record { trees = trees; nodes = []; due = [] ∷ [] })
    else item_begun sheet (drop (length trees + 1) asked) (trees ++ None ∷ []) fields) same

-- no question is left
pub begun-never : (sheet : Sheet) (asked : List Question) (trees : List (Option Tree))
    (fields : List (List ℕ)) → length asked ≤ length trees
    → item_begun sheet (drop (length trees) asked) trees fields ≡ bad
begun-never sheet asked trees fields none =
    ap (λ rest. item_begun sheet rest trees fields) (drop_all (length trees) asked none)

-- ---- nodes

-- a line that stands for a node is taken as that node
pub node-taken : (sheet : Sheet) (asked : List Question) (state : SaveState) (token : Token)
    (node : TreeNode) → node_of_token Spent token ≡ Some node
    → save_taken sheet asked state token
    ≡ node_taken_if sheet (question_due asked state) state (Some node)
node-taken sheet asked state Blank node is = absurd (none-some node is)
node-taken sheet asked state (Row fields) node is = absurd (none-some node is)
node-taken sheet asked state (Proof line) node is =
    ap (node_taken_if sheet (question_due asked state) state) is
node-taken sheet asked state (Near rival fresh) node is = absurd (none-some node is)
node-taken sheet asked state Unknown node is = absurd (none-some node is)

-- all but what must come yet is as before
leaf-same : (trees : List (Option Tree)) (nodes : List TreeNode) (was now : List (List ℕ))
    (node : TreeNode) (due : List (List ℕ))
    → leaf_taken (record { trees = trees; nodes = nodes; due = was }) node due
    ≡ leaf_taken (record { trees = trees; nodes = nodes; due = now }) node due
leaf-same trees nodes was now node [] = refl
leaf-same trees nodes was now node (rivals ∷ due) = refl

module _ (sheet : Sheet) (asked : List Question) (now : SaveState) (trees : List (Option Tree))
    (nodes : List TreeNode) (all due : List (List ℕ)) (rivals : List ℕ) (question : Question)
    (view : record { trees = trees; nodes = nodes; due = all } ≡ now) (next : all ≡ rivals ∷ due)
    (there : slice_get asked (length trees) ≡ Some question) where
  -- what is read, with the part that comes next in front
  abbrev here : SaveState
  here = record { trees = trees; nodes = nodes; due = rivals ∷ due }

  same : now ≡ here
  same = sym view ∙ ap (λ it. record { trees = trees; nodes = nodes; due = it }) next

  -- what a node makes of it
  node-step : (node : TreeNode) → node_taken_if sheet (question_due asked now) now (Some node)
      ≡ node_taken sheet question here (rivals ∷ due) node
  node-step node =
      ap (λ state. node_taken_if sheet (question_due asked state) state (Some node)) same
      ∙ ap (λ q. node_taken_if sheet q here (Some node)) there

  -- a split that may not come there
  pub split-refused : (node : TreeNode) (test : Test) (fresh : Bool) → node ≡ Split test fresh
      → false ≡ may_split sheet question rivals test
      → bad ≡ node_taken_if sheet (question_due asked now) now (Some node)
  split-refused node test fresh is may =
      sym (ap (λ it. node_taken_if sheet (question_due asked now) now (Some it)) is
      ∙ node-step (Split test fresh)
      ∙ ap (λ b. if b then goes_on (split_taken here test fresh rivals due) else bad) (sym may))

  -- one that may
  pub split-goes : (node : TreeNode) (test : Test) (fresh : Bool) (after : List ℕ)
      → node ≡ Split test fresh → true ≡ may_split sheet question rivals test
      → after ≡ with_rival rivals test
      → goes_on (record {
        trees = trees;
        nodes = nodes ++ Split test fresh ∷ [];
        due = after ∷ after ∷ due;
      })
      ≡ node_taken_if sheet (question_due asked now) now (Some node)
  split-goes node test fresh after is may one =
      ap (λ it. goes_on (record {
        trees = trees;
        nodes = nodes ++ Split test fresh ∷ [];
        due = it ∷ it ∷ due;
      })) one
      ∙ sym (ap (λ it. node_taken_if sheet (question_due asked now) now (Some it)) is
      ∙ node-step (Split test fresh)
      ∙ ap (λ b. if b then goes_on (split_taken here test fresh rivals due) else bad) (sym may))

  -- a leaf with a reason that it may not have
  pub refuted-refused : (node : TreeNode) (reason : Reason) (fresh : Bool)
      → node ≡ Refuted reason fresh → false ≡ is_reason_for sheet question reason
      → bad ≡ node_taken_if sheet (question_due asked now) now (Some node)
  refuted-refused node reason fresh is may =
      sym (ap (λ it. node_taken_if sheet (question_due asked now) now (Some it)) is
      ∙ node-step (Refuted reason fresh)
      ∙ ap (λ b. if b then goes_on (leaf_taken here (Refuted reason fresh) due) else bad) (sym may))

  -- with one that it may
  pub refuted-goes : (node : TreeNode) (reason : Reason) (fresh : Bool)
      → node ≡ Refuted reason fresh → true ≡ is_reason_for sheet question reason
      → goes_on (leaf_taken (record { trees = trees; nodes = nodes; due = due })
      (Refuted reason fresh) due)
      ≡ node_taken_if sheet (question_due asked now) now (Some node)
  refuted-goes node reason fresh is may =
      ap goes_on (leaf-same trees nodes due (rivals ∷ due) (Refuted reason fresh) due)
      ∙ sym (ap (λ it. node_taken_if sheet (question_due asked now) now (Some it)) is
      ∙ node-step (Refuted reason fresh)
      ∙ ap (λ b. if b then goes_on (leaf_taken here (Refuted reason fresh) due) else bad) (sym may))

  -- an open leaf
  pub open-goes : (node : TreeNode) → node ≡ Open
      → goes_on (leaf_taken (record { trees = trees; nodes = nodes; due = due }) node due)
      ≡ node_taken_if sheet (question_due asked now) now (Some node)
  open-goes node is =
      ap (λ it. goes_on (leaf_taken (record { trees = trees; nodes = nodes; due = due }) it due)) is
      ∙ ap goes_on (leaf-same trees nodes due (rivals ∷ due) Open due)
      ∙ sym (ap (λ it. node_taken_if sheet (question_due asked now) now (Some it)) is
      ∙ node-step Open)

  -- the nodes so far are those of a tree that is being read
  drafted-here : IsSaveState sheet asked now → IsDrafted sheet question nodes (rivals ∷ due)
  drafted-here sound =
      let P : SaveState → Type 0 =
      λ s. IsItemSoFar sheet (slice_get asked (length s.trees)) s.nodes s.due in
      subst (λ q. IsItemSoFar sheet q nodes (rivals ∷ due)) there (subst P same sound.item)

  -- with a leaf in place of the last part they are those of a tree
  pub refuted-made : (reason : Reason) (fresh : Bool) → IsSaveState sheet asked now
      → true ≡ is_reason_for sheet question reason → due ≡ []
      → is_some (tree_of (nodes ++ Refuted reason fresh ∷ [])) ≡ true
  refuted-made reason fresh sound may none =
      made_there sheet question (nodes ++ Refuted reason fresh ∷ [])
      (subst (IsDrafted sheet question (nodes ++ Refuted reason fresh ∷ [])) none
      (refuted_taken sheet question nodes rivals due reason fresh (drafted-here sound) (sym may)))

  pub open-made : (node : TreeNode) → IsSaveState sheet asked now → node ≡ Open → due ≡ []
      → is_some (tree_of (nodes ++ node ∷ [])) ≡ true
  open-made node sound is none =
      ap (λ it. is_some (tree_of (nodes ++ it ∷ []))) is
      ∙ made_there sheet question (nodes ++ Open ∷ [])
      (subst (IsDrafted sheet question (nodes ++ Open ∷ [])) none
      (open_taken sheet question nodes rivals due (drafted-here sound)))

-- while parts must come there is a question
pub question_within : (sheet : Sheet) (asked : List Question) (now : SaveState)
    (trees : List (Option Tree)) (nodes : List TreeNode) (all due : List (List ℕ))
    (rivals : List ℕ) → record { trees = trees; nodes = nodes; due = all } ≡ now
    → all ≡ rivals ∷ due → IsSaveState sheet asked now → length trees < length asked
question_within sheet asked now trees nodes all due rivals view next sound =
    let P : SaveState → Type 0 =
    λ s. IsItemSoFar sheet (slice_get asked (length s.trees)) s.nodes s.due in
    let same : now ≡ record { trees = trees; nodes = nodes; due = rivals ∷ due } =
    sym view ∙ ap (λ it. record { trees = trees; nodes = nodes; due = it }) next in
    let found = question_there sheet (slice_get asked (length trees)) nodes rivals due
    (subst P same sound.item) in
    slice_get_within asked (length trees) found.0 found.1
