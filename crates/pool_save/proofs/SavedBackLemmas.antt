-- The lines of a saved text are read as its trees, one line after the other.
use Rattle.std.proofs.Common.{◌≡◌, ℕ, suc, Bool, true, false, not, ◌&&◌, ◌||◌}
use Rattle.std.proofs.Common.{List, [], ◌∷◌, ◌++◌, length, map, drop, Option, Some, None}
use Rattle.std.proofs.Common.{Result, Ok, refl, sym, ap, ◌∙◌, arith, append_assoc}
use Rattle.std.proofs.Common.{append-nil, bytes_eq, decimal, length-append}
use Rattle.std.specs.Prelude.{if◌then◌else◌}
use Rattle.std.specs.List.{slice_get, list_any, list_all}
use Rattle.std.proofs.lemmas.Bool.{and_parts, and_from, false≢true}
use Rattle.std.proofs.lemmas.List.{map-append}
use Rattle.league_core.specs.declared.sheet.Sheet.{Sheet}
use Rattle.league_core.specs.declared.question.Question.{Question}
use Rattle.league_core.specs.declared.zone.Literal.{Literal}
use Rattle.league_core.specs.declared.zone.Reason.{Reason}
use Rattle.league_core.specs.declared.zone.Test.{Test}
use Rattle.league_core.specs.declared.tree.TreeNode.{TreeNode}
use Rattle.league_core.specs.declared.tree.TreeNode.TheVariants.{Split, Open, Refuted}
use Rattle.league_core.specs.game.Sheets.{are_different}
use Rattle.league_core.specs.search.Zones.{with_test}
use Rattle.league_core.specs.search.Trees.{Tree, open_leaf, lent_leaf, refuted_leaf, branch}
use Rattle.league_core.specs.search.Trees.{preorder, NodesMeet}
use Rattle.league_core.specs.search.TreeLists.{tree_of}
use Rattle.league_core.proofs.TreeListLemmas.{reading_exact}
use Rattle.league_core.proofs.plain.Texts.{bytes_eq-itself}
use Rattle.port_core.specs.declared.line.ReadStop.{ReadStop}
use Rattle.port_core.specs.Contents.{Contents, with_lines}
use Rattle.cert_text.specs.Lines.{claim_word}
use Rattle.cert_text.specs.TreeLines.{marked_line, marked_lines}
use Rattle.line_tokens.specs.declared.token.Token.{Token}
use Rattle.line_tokens.specs.declared.token.Token.TheVariants.{Blank, Row, Proof, Near, Unknown}
use Rattle.line_tokens.specs.Tokens.{token_of, counted_lines}
use Rattle.line_tokens.specs.LineRanges.{is_reason_for, name_of_club}
use Rattle.pool_save.specs.SavedTexts.{IsSavedNode, AreSavedTrees, saved_fields}
use Rattle.pool_save.specs.SavedTexts.{saved_items_of, end_fields}
use Rattle.pool_save.specs.SavedReadings.{SaveState, SaveStep, goes_on, whole, bad}
use Rattle.pool_save.specs.SavedReadings.{SavedReading, nothing_saved, filled_places}
use Rattle.pool_save.specs.SavedReadings.{is_row_of, item_begun, row_taken, save_taken}
use Rattle.pool_save.specs.SavedReadings.{may_split, split_taken, leaf_taken, with_rival}
use Rattle.pool_save.specs.SavedReadings.{node_taken_if, saved_reading_by}
use Rattle.pool_save.specs.SavedReadings.{saved_reading_from, saved_reading_of}
use Rattle.pool_save.specs.inside.SavedLaws.{tokens_of_lines, same_row, HaveOwnRows}
use Rattle.pool_save.specs.inside.SoFar.{Marks}
use Rattle.pool_save.proofs.DraftLemmas.{marks_half, split_may_come}
use Rattle.pool_save.proofs.SoFarLemmas.{first_left}

-- ---- lines in turn

-- what a line leads to, if the reading goes on
abbrev then_on : SaveStep → (SaveState → SaveStep) → SaveStep
then_on (goes_on state) onward = onward state
then_on (whole trees) onward = whole trees
then_on bad onward = bad

-- what lines make of what is read so far
abbrev all_taken : Sheet → List Question → List Token → SaveState → SaveStep
all_taken sheet asked [] state = goes_on state
all_taken sheet asked (token ∷ tokens) state =
    then_on (save_taken sheet asked state token) (all_taken sheet asked tokens)

-- lines and then others
append-by : (sheet : Sheet) (asked : List Question) (first second : List Token)
    (between : SaveState) (step : SaveStep)
    → ((next : SaveState) → all_taken sheet asked first next ≡ goes_on between
    → all_taken sheet asked (first ++ second) next ≡ all_taken sheet asked second between)
    → then_on step (all_taken sheet asked first) ≡ goes_on between
    → then_on step (all_taken sheet asked (first ++ second)) ≡ all_taken sheet asked second between
append-by sheet asked first second between (goes_on next) more is = more next is
append-by sheet asked first second between (whole trees) more is = absurd cc
append-by sheet asked first second between bad more is = absurd cc

taken-append : (sheet : Sheet) (asked : List Question) (first second : List Token)
    (state between : SaveState) → all_taken sheet asked first state ≡ goes_on between
    → all_taken sheet asked (first ++ second) state ≡ all_taken sheet asked second between
taken-append sheet asked [] second state between is =
    ap (λ step. then_on step (all_taken sheet asked second)) is
taken-append sheet asked (token ∷ first) second state between is =
    append-by sheet asked first second between (save_taken sheet asked state token)
    (λ next. taken-append sheet asked first second next between) is

-- a line leads to the same by the same
same-by : (one other : SaveState → SaveStep) (step : SaveStep)
    → ((next : SaveState) → one next ≡ other next) → then_on step one ≡ then_on step other
same-by one other (goes_on next) same = same next
same-by one other (whole trees) same = refl
same-by one other bad same = refl

-- lines that are passed over change nothing
taken-counted : (sheet : Sheet) (asked : List Question) (tokens : List Token)
    (state : SaveState)
    → all_taken sheet asked (counted_lines tokens) state ≡ all_taken sheet asked tokens state
taken-counted sheet asked [] state = refl
taken-counted sheet asked (Blank ∷ tokens) state = taken-counted sheet asked tokens state
taken-counted sheet asked (Row fields ∷ tokens) state =
    same-by (all_taken sheet asked (counted_lines tokens)) (all_taken sheet asked tokens)
    (save_taken sheet asked state (Row fields)) (taken-counted sheet asked tokens)
taken-counted sheet asked (Proof line ∷ tokens) state =
    same-by (all_taken sheet asked (counted_lines tokens)) (all_taken sheet asked tokens)
    (save_taken sheet asked state (Proof line)) (taken-counted sheet asked tokens)
taken-counted sheet asked (Near rival fresh ∷ tokens) state =
    same-by (all_taken sheet asked (counted_lines tokens)) (all_taken sheet asked tokens)
    (save_taken sheet asked state (Near rival fresh)) (taken-counted sheet asked tokens)
taken-counted sheet asked (Unknown ∷ tokens) state =
    same-by (all_taken sheet asked (counted_lines tokens)) (all_taken sheet asked tokens)
    (save_taken sheet asked state Unknown) (taken-counted sheet asked tokens)

-- the reading of an input goes on after such lines
onward-by : (sheet : Sheet) (asked : List Question) (number : ℕ) (tokens : List Token)
    (rest between : Contents) (onward : SaveState → SavedReading) (state : SaveState)
    (given : SavedReading) (step : SaveStep)
    → ((next : SaveState) → all_taken sheet asked tokens next ≡ goes_on state
    → onward next ≡ given)
    → then_on step (all_taken sheet asked tokens) ≡ goes_on state
    → saved_reading_by number rest onward step ≡ given
onward-by sheet asked number tokens rest between onward state given (goes_on next) more is =
    more next is
onward-by sheet asked number tokens rest between onward state given (whole trees) more is =
    absurd cc
onward-by sheet asked number tokens rest between onward state given bad more is = absurd cc

reading-onward : (sheet : Sheet) (asked : List Question) (lines later : List (ℕ × List ℕ))
    (ending : Result ℕ ReadStop) (first last : SaveState)
    → all_taken sheet asked (tokens_of_lines lines) first ≡ goes_on last
    → saved_reading_from sheet asked (lines ++ later) ending first
    ≡ saved_reading_from sheet asked later ending last
reading-onward sheet asked [] later ending first last is =
    let same : first ≡ last = cc in ap (saved_reading_from sheet asked later ending) same
reading-onward sheet asked (line ∷ lines) later ending first last is =
    let rest : Contents = record { lines = lines ++ later; ending = ending } in
    onward-by sheet asked line.0 (tokens_of_lines lines) rest rest
    (saved_reading_from sheet asked (lines ++ later) ending) last
    (saved_reading_from sheet asked later ending last)
    (save_taken sheet asked first (token_of line.1))
    (λ next. reading-onward sheet asked lines later ending next last) is

-- ---- the nodes of a tree

-- what a part of a tree makes of the nodes so far
abbrev part_read : List (Option Tree) → List TreeNode → Tree → List (List ℕ) → SaveState
part_read trees nodes part [] =
    record { trees = trees ++ tree_of (nodes ++ preorder part) ∷ []; nodes = []; due = [] }
part_read trees nodes part (rivals ∷ due) =
    record { trees = trees; nodes = nodes ++ preorder part; due = rivals ∷ due }

module _ (sheet : Sheet) (asked : List Question) (trees : List (Option Tree))
    (question : Question) (there : slice_get asked (length trees) ≡ Some question) where
  -- what is read, where these rivals were asked
  abbrev at_part : List TreeNode → List ℕ → List (List ℕ) → SaveState
  at_part nodes rivals due = record { trees = trees; nodes = nodes; due = rivals ∷ due }

  -- a leaf
  leaf_read : (nodes : List TreeNode) (rivals : List ℕ) (due : List (List ℕ)) (part : Tree)
      (node : TreeNode) → preorder part ≡ node ∷ []
      → goes_on (leaf_taken (at_part nodes rivals due) node due)
      ≡ goes_on (part_read trees nodes part due)
  leaf_read nodes rivals [] part node is =
      ap (λ list. goes_on (record {
        trees = trees ++ tree_of (nodes ++ list) ∷ [];
        nodes = [];
        due = [];
      })) (sym is)
  leaf_read nodes rivals (next ∷ due) part node is =
      ap (λ list. goes_on (record {
        trees = trees;
        nodes = nodes ++ list;
        due = next ∷ due;
      })) (sym is)

  -- a refuted leaf, new or not
  refuted_read : (nodes : List TreeNode) (rivals : List ℕ) (due : List (List ℕ))
      (reason : Reason) (fresh : Bool) → is_reason_for sheet question reason ≡ true
      → all_taken sheet asked (Proof (marked_line (Refuted reason fresh)) ∷ [])
      (at_part nodes rivals due)
      ≡ goes_on (part_read trees nodes (refuted_leaf reason fresh) due)
  refuted_read nodes rivals due reason true may =
      ap (λ q. then_on (node_taken_if sheet q (at_part nodes rivals due)
      (Some (Refuted reason true))) goes_on) there
      ∙ ap (λ b. then_on
      (if b then goes_on (leaf_taken (at_part nodes rivals due) (Refuted reason true) due) else bad)
      goes_on) may
      ∙ leaf_read nodes rivals due (refuted_leaf reason true) (Refuted reason true) refl
  refuted_read nodes rivals due reason false may =
      ap (λ q. then_on (node_taken_if sheet q (at_part nodes rivals due)
      (Some (Refuted reason false))) goes_on) there
      ∙ ap (λ b. then_on
      (if b then goes_on (leaf_taken (at_part nodes rivals due) (Refuted reason false) due)
      else bad) goes_on) may
      ∙ leaf_read nodes rivals due (refuted_leaf reason false) (Refuted reason false) refl

  -- a split, new or not
  split_read : (nodes : List TreeNode) (rivals : List ℕ) (due : List (List ℕ)) (test : Test)
      (fresh : Bool) → may_split sheet question rivals test ≡ true
      → save_taken sheet asked (at_part nodes rivals due) (Proof (marked_line (Split test fresh)))
      ≡ goes_on (record {
        trees = trees;
        nodes = nodes ++ Split test fresh ∷ [];
        due = with_rival rivals test ∷ with_rival rivals test ∷ due;
      })
  split_read nodes rivals due test true may =
      ap (λ q. node_taken_if sheet q (at_part nodes rivals due) (Some (Split test true))) there
      ∙ ap (λ b. if b then goes_on (split_taken (at_part nodes rivals due) test true rivals due)
      else bad) may
  split_read nodes rivals due test false may =
      ap (λ q. node_taken_if sheet q (at_part nodes rivals due) (Some (Split test false))) there
      ∙ ap (λ b. if b then goes_on (split_taken (at_part nodes rivals due) test false rivals due)
      else bad) may

  -- the two parts after a split
  halves_read : (nodes : List TreeNode) (due : List (List ℕ)) (test : Test) (fresh : Bool)
      (yes_half no_half : Tree)
      → part_read trees ((nodes ++ Split test fresh ∷ []) ++ preorder yes_half) no_half due
      ≡ part_read trees nodes (branch test fresh yes_half no_half) due
  halves_read nodes [] test fresh yes_half no_half =
      ap (λ list. record { trees = trees ++ tree_of list ∷ []; nodes = []; due = [] })
      (append_assoc (nodes ++ Split test fresh ∷ []) (preorder yes_half) (preorder no_half)
      ∙ append_assoc nodes (Split test fresh ∷ []) (preorder yes_half ++ preorder no_half))
  halves_read nodes (rivals ∷ due) test fresh yes_half no_half =
      ap (λ list. record { trees = trees; nodes = list; due = rivals ∷ due })
      (append_assoc (nodes ++ Split test fresh ∷ []) (preorder yes_half) (preorder no_half)
      ∙ append_assoc nodes (Split test fresh ∷ []) (preorder yes_half ++ preorder no_half))

  -- a part of a tree, where these rivals are marked
  part_is_read : (tree : Tree) (nodes : List TreeNode) (rivals : List ℕ) (due : List (List ℕ))
      (zone : List Literal) → Marks rivals zone
      → NodesMeet (IsSavedNode sheet question) zone tree
      → all_taken sheet asked (map Proof (marked_lines tree)) (at_part nodes rivals due)
      ≡ goes_on (part_read trees nodes tree due)
  part_is_read open_leaf nodes rivals due zone marks saved =
      ap (λ q. then_on (node_taken_if sheet q (at_part nodes rivals due) (Some Open)) goes_on) there
      ∙ leaf_read nodes rivals due open_leaf Open refl
  part_is_read (lent_leaf number) nodes rivals due zone marks saved =
      absurd (false≢true saved.1)
  part_is_read (refuted_leaf reason fresh) nodes rivals due zone marks saved =
      refuted_read nodes rivals due reason fresh saved.1
  part_is_read (branch test fresh yes_half no_half) nodes rivals due zone marks saved =
      let may = split_may_come sheet question rivals zone test fresh marks saved.0 in
      let marked = with_rival rivals test in
      let lines_are : map Proof (marked_lines (branch test fresh yes_half no_half))
      ≡ Proof (marked_line (Split test fresh))
      ∷ (map Proof (marked_lines yes_half) ++ map Proof (marked_lines no_half)) =
      ap (λ lines. Proof (marked_line (Split test fresh)) ∷ map Proof lines)
      (map-append marked_line (preorder yes_half) (preorder no_half))
      ∙ ap (λ tokens. Proof (marked_line (Split test fresh)) ∷ tokens)
      (map-append Proof (marked_lines yes_half) (marked_lines no_half)) in
      ap (λ tokens. all_taken sheet asked tokens (at_part nodes rivals due)) lines_are
      ∙ ap (λ step. then_on step (all_taken sheet asked
      (map Proof (marked_lines yes_half) ++ map Proof (marked_lines no_half))))
      (split_read nodes rivals due test fresh may)
      ∙ taken-append sheet asked (map Proof (marked_lines yes_half))
      (map Proof (marked_lines no_half))
      (at_part (nodes ++ Split test fresh ∷ []) marked (marked ∷ due))
      (at_part ((nodes ++ Split test fresh ∷ []) ++ preorder yes_half) marked due)
      (part_is_read yes_half (nodes ++ Split test fresh ∷ []) marked (marked ∷ due)
      (with_test zone test true) (marks_half rivals test zone marks true) saved.1)
      ∙ part_is_read no_half ((nodes ++ Split test fresh ∷ []) ++ preorder yes_half) marked due
      (with_test zone test false) (marks_half rivals test zone marks false) saved.2
      ∙ ap goes_on (halves_read nodes due test fresh yes_half no_half)

  -- a whole tree
  pub tree_is_read : (tree : Tree) → NodesMeet (IsSavedNode sheet question) [] tree
      → all_taken sheet asked (map Proof (marked_lines tree)) (at_part [] [] [])
      ≡ goes_on (record { trees = trees ++ Some tree ∷ []; nodes = []; due = [] })
  tree_is_read tree saved =
      part_is_read tree [] [] [] [] (λ club below. refl) saved
      ∙ ap (λ read. goes_on (record { trees = trees ++ read ∷ []; nodes = []; due = [] }))
      ((reading_exact (preorder tree) tree).1 refl)

-- ---- items

not-true : (b : Bool) → not b ≡ true → b ≡ false
not-true true is = absurd (false≢true is)
not-true false is = refl

length-more : (trees : List (Option Tree)) (tree : Option Tree)
    → length (trees ++ tree ∷ []) ≡ suc (length trees)
length-more trees tree = let more = length-append trees (tree ∷ []) in omega (arith, more)

-- the row of a question is its row
pub own_row : (sheet : Sheet) (question : Question)
    → is_row_of sheet question (saved_fields sheet question) ≡ true
own_row sheet question =
    and_from (bytes_eq (decimal question.line) (decimal question.line)
    && bytes_eq (name_of_club sheet question.club) (name_of_club sheet question.club))
    (bytes_eq (claim_word question.claim) (claim_word question.claim))
    (and_from (bytes_eq (decimal question.line) (decimal question.line))
    (bytes_eq (name_of_club sheet question.club) (name_of_club sheet question.club))
    (bytes_eq-itself (decimal question.line))
    (bytes_eq-itself (name_of_club sheet question.club)))
    (bytes_eq-itself (claim_word question.claim))

-- the questions that are left after those without an item
left_behind : (asked pending rest : List Question) (trees : List (Option Tree))
    → drop (length trees) asked ≡ pending ++ rest
    → drop (length (trees ++ map (λ question. None) pending)) asked ≡ rest
left_behind asked [] rest trees left =
    ap (λ list. drop (length list) asked) (append-nil trees) ∙ left
left_behind asked (question ∷ pending) rest trees left =
    ap (λ list. drop (length list) asked)
    (sym (append_assoc trees (None ∷ []) (map (λ question. None) pending)))
    ∙ left_behind asked pending rest (trees ++ None ∷ [])
    (ap (λ n. drop n asked) (length-more trees None)
    ∙ (first_left asked (pending ++ rest) question (length trees) left).1)

-- an item begins after questions whose rows it has not
begun_behind : (sheet : Sheet) (pending rest : List Question) (question : Question)
    (trees : List (Option Tree)) (fields : List (List ℕ))
    → list_all (λ before. not (is_row_of sheet before fields)) pending ≡ true
    → is_row_of sheet question fields ≡ true
    → item_begun sheet (pending ++ question ∷ rest) trees fields
    ≡ goes_on (record {
      trees = trees ++ map (λ before. None) pending;
      nodes = [];
      due = [] ∷ [];
    })
begun_behind sheet [] rest question trees fields others own =
    ap (λ b. if b then goes_on (record { trees = trees; nodes = []; due = [] ∷ [] })
    else item_begun sheet rest (trees ++ None ∷ []) fields) own
    ∙ ap (λ list. goes_on (record { trees = list; nodes = []; due = [] ∷ [] }))
    (sym (append-nil trees))
begun_behind sheet (first ∷ pending) rest question trees fields others own =
    let parts = and_parts (not (is_row_of sheet first fields))
    (list_all (λ before. not (is_row_of sheet before fields)) pending) others in
    ap (λ b. if b then goes_on (record { trees = trees; nodes = []; due = [] ∷ [] })
    else item_begun sheet (pending ++ question ∷ rest) (trees ++ None ∷ []) fields)
    (not-true (is_row_of sheet first fields) parts.0)
    ∙ begun_behind sheet pending rest question (trees ++ None ∷ []) fields parts.1 own
    ∙ ap (λ list. goes_on (record { trees = list; nodes = []; due = [] ∷ [] }))
    (append_assoc trees (None ∷ []) (map (λ before. None) pending))

-- no question before one has its row
later_differs : (same : Question → Bool) (pending rest : List Question) (question : Question)
    → not (list_any same (pending ++ question ∷ rest)) ≡ true → not (same question) ≡ true
later_differs same [] rest question none = first (same question) none
  where
    first : (is : Bool) → not (is || list_any same rest) ≡ true → not is ≡ true
    first true none = none
    first false none = refl
later_differs same (other ∷ pending) rest question none =
    later_differs same pending rest question (second (same other) none)
  where
    second : (is : Bool) → not (is || list_any same (pending ++ question ∷ rest)) ≡ true
        → not (list_any same (pending ++ question ∷ rest)) ≡ true
    second true none = absurd (false≢true none)
    second false none = none

others_differ : (same : Question → Question → Bool) (pending rest : List Question)
    (question : Question) → are_different same (pending ++ question ∷ rest) ≡ true
    → list_all (λ before. not (same before question)) pending ≡ true
others_differ same [] rest question differ = refl
others_differ same (first ∷ pending) rest question differ =
    let parts = and_parts (not (list_any (same first) (pending ++ question ∷ rest)))
    (are_different same (pending ++ question ∷ rest)) differ in
    and_from (not (same first question)) (list_all (λ before. not (same before question)) pending)
    (later_differs (same first) pending rest question parts.0)
    (others_differ same pending rest question parts.1)

rest_differ : (same : Question → Question → Bool) (pending rest : List Question)
    → are_different same (pending ++ rest) ≡ true → are_different same rest ≡ true
rest_differ same [] rest differ = differ
rest_differ same (first ∷ pending) rest differ =
    rest_differ same pending rest
    (and_parts (not (list_any (same first) (pending ++ rest)))
    (are_different same (pending ++ rest)) differ).1

-- the items of the questions that are left are read, after those without an item
record AreItemsRead (sheet : Sheet) (asked : List Question) (trees : List (Option Tree))
    (pending rest : List Question) (saved : List (Option Tree)) : Type 0 where
  last : SaveState
  leads : all_taken sheet asked (saved_items_of sheet rest saved)
      (record { trees = trees; nodes = []; due = [] })
      ≡ goes_on last
  none_due : last.due ≡ []
  filled : filled_places asked last.trees
      ≡ trees ++ (map (λ question. None) pending ++ saved)

items_read : (sheet : Sheet) (asked : List Question) (rest pending : List Question)
    (trees saved : List (Option Tree)) → drop (length trees) asked ≡ pending ++ rest
    → are_different (same_row sheet) (pending ++ rest) ≡ true → AreSavedTrees sheet rest saved
    → AreItemsRead sheet asked trees pending rest saved
items_read sheet asked [] pending trees [] left differ are = record {
  last = record { trees = trees; nodes = []; due = [] };
  leads = refl;
  none_due = refl;
  filled = ap (λ list. trees ++ map (λ question. None) list) (left ∙ append-nil pending)
      ∙ ap (λ list. trees ++ list) (sym (append-nil (map (λ question. None) pending)));
}
items_read sheet asked [] pending trees (tree ∷ saved) left differ are = absurd are
items_read sheet asked (question ∷ rest) pending trees [] left differ are = absurd are
items_read sheet asked (question ∷ rest) pending trees (None ∷ saved) left differ are =
    let same = append_assoc pending (question ∷ []) rest in
    let later = items_read sheet asked rest (pending ++ question ∷ []) trees saved
    (left ∙ sym same) (ap (are_different (same_row sheet)) same ∙ differ) are.1 in
    record {
      last = later.last;
      leads = later.leads;
      none_due = later.none_due;
      filled = later.filled
          ∙ ap (λ list. trees ++ (list ++ saved))
          (map-append (λ before. None) pending (question ∷ []))
          ∙ ap (λ list. trees ++ list)
          (append_assoc (map (λ before. None) pending) (None ∷ []) saved);
    }
items_read sheet asked (question ∷ rest) pending trees (Some tree ∷ saved) left differ are =
    let first = trees ++ map (λ before. None) pending in
    let fields = saved_fields sheet question in
    let here = first_left asked rest question (length first)
    (left_behind asked pending (question ∷ rest) trees left) in
    let begun = ap (λ list. item_begun sheet list trees fields) left
    ∙ begun_behind sheet pending rest question trees fields
    (others_differ (same_row sheet) pending rest question differ) (own_row sheet question) in
    let taken = ap (λ step. then_on step (all_taken sheet asked (map Proof (marked_lines tree))))
    begun ∙ tree_is_read sheet asked first question here.0 tree are.0 in
    let later = items_read sheet asked rest [] (first ++ Some tree ∷ []) saved
    (ap (λ n. drop n asked) (length-more first (Some tree)) ∙ here.1)
    (rest_differ (same_row sheet) (question ∷ []) rest
    (rest_differ (same_row sheet) pending (question ∷ rest) differ)) are.1 in
    record {
      last = later.last;
      leads = taken-append sheet asked (Row fields ∷ map Proof (marked_lines tree))
          (saved_items_of sheet rest saved) (record { trees = trees; nodes = []; due = [] })
          (record { trees = first ++ Some tree ∷ []; nodes = []; due = [] }) taken
          ∙ later.leads;
      none_due = later.none_due;
      filled = later.filled ∙ append_assoc first (Some tree ∷ []) saved
          ∙ append_assoc trees (map (λ before. None) pending) (Some tree ∷ saved);
    }

-- ---- a whole text

pub saved_is_read : (sheet : Sheet) (asked : List Question) (trees : List (Option Tree))
    (lines : List (ℕ × List ℕ)) (last : ℕ × List ℕ) (rest : Contents)
    → HaveOwnRows sheet asked → AreSavedTrees sheet asked trees
    → counted_lines (tokens_of_lines lines) ≡ saved_items_of sheet asked trees
    → token_of last.1 ≡ Row end_fields
    → saved_reading_of sheet asked (with_lines (lines ++ last ∷ []) rest) nothing_saved
    ≡ record { gives = Ok trees; rest = rest }
saved_is_read sheet asked trees lines last rest own are items ends =
    let read = items_read sheet asked asked [] [] trees refl own are in
    let onward = saved_reading_from sheet asked rest.lines rest.ending in
    let led = sym (taken-counted sheet asked (tokens_of_lines lines) nothing_saved)
    ∙ ap (λ tokens. all_taken sheet asked tokens nothing_saved) items ∙ read.leads in
    ap (λ all. saved_reading_from sheet asked all rest.ending nothing_saved)
    (append_assoc lines (last ∷ []) rest.lines)
    ∙ reading-onward sheet asked lines (last ∷ rest.lines) rest.ending nothing_saved read.last led
    ∙ ap (λ token. saved_reading_by last.0 rest onward (save_taken sheet asked read.last token))
    ends
    ∙ ap (λ due. saved_reading_by last.0 rest onward
    (row_taken sheet asked read.last.trees end_fields due)) read.none_due
    ∙ ap (λ given. record { gives = Ok given; rest = rest }) read.filled
