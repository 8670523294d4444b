-- A saved text read line by line: what is read so far, what a line makes of it, and what a whole
-- input gives: the trees, the first line that no saved text has there, or the stop of the input.
use Rattle.std.specs.Prelude.{ℕ, Bool, false, not, ◌&&◌, ◌||◌, ◌==◌, List, [], ◌∷◌, ◌++◌, length}
use Rattle.std.specs.Prelude.{map, drop}
use Rattle.std.specs.Prelude.{filter, Option, Some, None, Result, Ok, Err, bytes_eq, codes, decimal}
use Rattle.std.specs.Prelude.{if◌then◌else◌}
use Rattle.std.specs.List.{slice_get, range_with_len}
use Rattle.league_core.specs.declared.sheet.Sheet.{Sheet}
use Rattle.league_core.specs.declared.question.Question.{Question}
use Rattle.league_core.specs.declared.zone.Test.{Test}
use Rattle.league_core.specs.declared.zone.Test.TheVariants.{Home, Draw, HomeMost, AwayMost, Rival}
use Rattle.league_core.specs.declared.tree.TreeNode.{TreeNode}
use Rattle.league_core.specs.declared.tree.TreeNode.TheVariants.{Split, Open, Lent, Refuted}
use Rattle.league_core.specs.game.Limits.{set_width}
use Rattle.league_core.specs.game.Sums.{has_club}
use Rattle.league_core.specs.search.Zones.{is_of_rival}
use Rattle.league_core.specs.search.Trees.{Tree}
use Rattle.league_core.specs.search.TreeLists.{tree_of}
use Rattle.port_core.specs.declared.line.ReadStop.{ReadStop}
use Rattle.port_core.specs.Contents.{Contents, ended}
use Rattle.fixture_sheet.specs.Fields.{field}
use Rattle.cert_text.specs.Lines.{claim_word}
use Rattle.cert_text.specs.TreeLines.{is_test_for}
use Rattle.line_tokens.specs.declared.token.Token.{Token}
use Rattle.line_tokens.specs.declared.token.Token.TheVariants.{Blank, Row, Proof, Near, Unknown}
use Rattle.line_tokens.specs.declared.tree_line.TreeKind.TheVariants.{Spent}
use Rattle.line_tokens.specs.Tokens.{token_of}
use Rattle.line_tokens.specs.LineRanges.{name_of_club, is_reason_for}
use Rattle.line_tokens.specs.TreeNodes.{node_in}
use Rattle.pool_save.specs.declared.stop.SaveStop.{SaveStop}
use Rattle.pool_save.specs.declared.stop.SaveStop.TheVariants.{BadSave, Read}

-- what is read so far: the trees of the first questions; the nodes of the next one's tree; and for
-- each part of it that must come yet, the rivals asked on the way there. While no tree is being
-- read, nothing must come
pub record SaveState : Type 0 where
  pub trees : List (Option Tree)
  pub nodes : List TreeNode
  pub due : List (List ℕ)

-- what a line makes of it: the reading goes on, or is over with these trees, or no saved text has
-- such a line there
pub data SaveStep : Type 0 where
  goes_on : SaveState → SaveStep
  whole : List (Option Tree) → SaveStep
  bad : SaveStep

-- nothing is read
abbrev pub nothing_saved : SaveState
nothing_saved = record { trees = []; nodes = []; due = [] }

-- ---- rows

-- the fields are the row of the question's item, byte for byte
abbrev pub is_row_of : Sheet → Question → List (List ℕ) → Bool
is_row_of sheet question fields =
    (length fields == 4) && bytes_eq (field 0 fields) (codes "saved")
    && bytes_eq (field 1 fields) (decimal question.line)
    && bytes_eq (field 2 fields) (name_of_club sheet question.club)
    && bytes_eq (field 3 fields) (claim_word question.claim)

-- the fields are the row after the items
abbrev pub is_end_row : List (List ℕ) → Bool
is_end_row fields = (length fields == 1) && bytes_eq (field 0 fields) (codes "saved_end")

-- the questions that are left have no item
abbrev pub filled_places : List Question → List (Option Tree) → List (Option Tree)
filled_places asked trees = trees ++ map (λ question. None) (drop (length trees) asked)

-- an item begins, of the first of the questions left that has this row; those before it have none
abbrev pub item_begun : Sheet → List Question → List (Option Tree) → List (List ℕ) → SaveStep
item_begun sheet [] trees fields = bad
item_begun sheet (question ∷ asked) trees fields =
    if is_row_of sheet question fields
    then goes_on (record { trees = trees; nodes = []; due = [] ∷ [] })
    else item_begun sheet asked (trees ++ None ∷ []) fields

-- a row when nothing must come of a tree, or something
abbrev pub row_taken : Sheet → List Question → List (Option Tree) → List (List ℕ) → List (List ℕ)
    → SaveStep
row_taken sheet asked trees fields [] =
    if is_end_row fields then whole (filled_places asked trees)
    else item_begun sheet (drop (length trees) asked) trees fields
row_taken sheet asked trees fields (rivals ∷ due) = bad

-- ---- nodes

-- the test is of one of these rivals
abbrev pub asks_one_of : List ℕ → Test → Bool
asks_one_of rivals (Home fixture) = false
asks_one_of rivals (Draw fixture) = false
asks_one_of rivals (HomeMost fixture most) = false
asks_one_of rivals (AwayMost fixture most) = false
asks_one_of rivals (Rival club) = has_club rivals club

-- a split by this test may come where these rivals were asked
abbrev pub may_split : Sheet → Question → List ℕ → Test → Bool
may_split sheet question rivals test =
    is_test_for sheet question test && not (asks_one_of rivals test)

-- the rivals with that of the test, in the order of their numbers
unfoldable pub with_rival : List ℕ → Test → List ℕ
with_rival rivals test =
    filter (λ club. has_club rivals club || is_of_rival club test) (range_with_len 0 set_width)

-- a leaf: the tree is read, if nothing must come of it any more
abbrev pub leaf_taken : SaveState → TreeNode → List (List ℕ) → SaveState
leaf_taken state node [] =
    record { trees = state.trees ++ tree_of (state.nodes ++ node ∷ []) ∷ []; nodes = []; due = [] }
leaf_taken state node (rivals ∷ due) =
    record state { nodes = state.nodes ++ node ∷ []; due = rivals ∷ due }

-- a split: two parts must come in place of one
abbrev pub split_taken : SaveState → Test → Bool → List ℕ → List (List ℕ) → SaveState
split_taken state test fresh rivals due =
    record state {
      nodes = state.nodes ++ Split test fresh ∷ [];
      due = with_rival rivals test ∷ with_rival rivals test ∷ due;
    }

-- a node of the question's tree
abbrev pub node_taken : Sheet → Question → SaveState → List (List ℕ) → TreeNode → SaveStep
node_taken sheet question state [] node = bad
node_taken sheet question state (rivals ∷ due) (Split test fresh) =
    if may_split sheet question rivals test
    then goes_on (split_taken state test fresh rivals due) else bad
node_taken sheet question state (rivals ∷ due) Open = goes_on (leaf_taken state Open due)
node_taken sheet question state (rivals ∷ due) (Lent number) = bad
node_taken sheet question state (rivals ∷ due) (Refuted reason fresh) =
    if is_reason_for sheet question reason
    then goes_on (leaf_taken state (Refuted reason fresh) due) else bad

-- a node, if the proof line is one, of the next question's tree, if there is a next one
abbrev pub node_taken_if : Sheet → Option Question → SaveState → Option TreeNode → SaveStep
node_taken_if sheet None state it = bad
node_taken_if sheet (Some question) state None = bad
node_taken_if sheet (Some question) state (Some it) =
    node_taken sheet question state state.due it

-- the question whose tree comes next
abbrev pub question_due : List Question → SaveState → Option Question
question_due asked state = slice_get asked (length state.trees)

-- ---- lines

-- what a line makes of what is read so far
abbrev pub save_taken : Sheet → List Question → SaveState → Token → SaveStep
save_taken sheet asked state Blank = goes_on state
save_taken sheet asked state (Row fields) = row_taken sheet asked state.trees fields state.due
save_taken sheet asked state (Proof line) =
    node_taken_if sheet (question_due asked state) state (node_in Spent line)
save_taken sheet asked state (Near rival fresh) = bad
save_taken sheet asked state Unknown = bad

-- a reading of a saved text: what it gives, and the contents after what it read
pub record SavedReading : Type 0 where
  pub gives : Result (List (Option Tree)) SaveStop
  pub rest : Contents

-- the input ends, or stops, before the line `saved_end`
abbrev pub saved_given_at_end : Result ℕ ReadStop → Result (List (Option Tree)) SaveStop
saved_given_at_end (Ok number) = Err (BadSave number)
saved_given_at_end (Err stop) = Err (Read stop)

-- what a line leads to, by what it makes of what is read so far
abbrev pub saved_reading_by : ℕ → Contents → (SaveState → SavedReading) → SaveStep → SavedReading
saved_reading_by number rest onward (goes_on state) = onward state
saved_reading_by number rest onward (whole trees) = record { gives = Ok trees; rest = rest }
saved_reading_by number rest onward bad = record { gives = Err (BadSave number); rest = rest }

-- the reading of these lines and this ending, from what is read so far on
abbrev pub saved_reading_from : Sheet → List Question → List (ℕ × List ℕ) → Result ℕ ReadStop
    → SaveState → SavedReading
saved_reading_from sheet asked [] ending state =
    record { gives = saved_given_at_end ending; rest = ended ending }
saved_reading_from sheet asked (line ∷ lines) ending state =
    saved_reading_by line.0 (record { lines = lines; ending = ending })
    (saved_reading_from sheet asked lines ending) (save_taken sheet asked state (token_of line.1))

-- the same of contents
abbrev pub saved_reading_of : Sheet → List Question → Contents → SaveState → SavedReading
saved_reading_of sheet asked contents state =
    saved_reading_from sheet asked contents.lines contents.ending state
