-- The lines of a tree about a group are read as its nodes, each of which may stand there and proves
-- what it says.
use Rattle.std.proofs.Common.{◌≡◌, Bool, true, false, ◌&&◌, List, [], ◌∷◌, ◌++◌}
use Rattle.std.proofs.Common.{Some, refl, sym, ap, ◌∙◌}
use Rattle.std.specs.Prelude.{option_map}
use Rattle.std.proofs.lemmas.Bool.{and_from, false≢true}
use Rattle.league_core.specs.declared.question.Question.{Question}
use Rattle.league_core.specs.declared.zone.Literal.{Literal}
use Rattle.league_core.specs.declared.zone.Test.{Test}
use Rattle.league_core.specs.game.Results.{are_results}
use Rattle.league_core.specs.game.Seasons.{IsLeague}
use Rattle.league_core.specs.search.Splits.{is_proper}
use Rattle.league_core.specs.search.Zones.{is_test_of, with_test}
use Rattle.wide_lines.proofs.RivalLemmas.{tests_with}
use Rattle.line_tokens.specs.LineRanges.{is_path_for}
use Rattle.line_tokens.specs.declared.tree_line.TreeKind.{TreeKind}
use Rattle.line_tokens.specs.declared.tree_line.TreeKind.TheVariants.{Refutation, Spent}
use Rattle.cert_check.specs.declared.expected.Tally.{Tally}
use Rattle.cert_check.specs.ExpectedItems.{is_tally_whole, with_fresh, with_open}
use Rattle.cert_check.specs.LineGrammars.{go}
use Rattle.cert_check.proofs.NextLemmas.{if-go}
use Rattle.cup_sheet.specs.declared.question.GroupReason.{GroupReason}
use Rattle.cup_sheet.specs.GroupQuestions.{GroupQuestion}
use Rattle.cup_sheet.specs.GroupTrees.{GroupTree, ZonesMeet, has_open_zone, open_zone}
use Rattle.cup_sheet.specs.GroupTrees.{refuted_zone, split_zone}
use Rattle.cup_text.specs.GroupNodeLines.{group_leaf_line, group_split_line, leaf_in_cup}
use Rattle.cup_text.specs.GroupNodeLines.{lines_of_group_tree, test_in_cup}
use Rattle.cup_grammar.specs.PlacedGroups.{CupBasis, PlacedGroup, is_group_test}
use Rattle.cup_grammar.specs.PlacedGroups.{is_reason_of_kind, own_node, refuted_node, split_node}
use Rattle.cup_grammar.specs.CupDues.{CupDue, after_group_leaf, after_group_node_if, nodes}
use Rattle.cup_grammar.proofs.CupRefutationLemmas.{neither}
use Rattle.cup_grammar.proofs.OwnNumberLemmas.{IsTold, kept_leaf, leaf_back, test_back}
use Rattle.cup_grammar.proofs.ReadsOnLemmas.{ReadsOn, reads_both}
use Rattle.cup_grammar.proofs.ToldNodeLemmas.{asked_place, holds_below, holds_kept, may_stand}
use Rattle.cup_grammar.proofs.ToldNodeLemmas.{proper_told, test_of_group, told}

-- new nodes are told as new where the budget was spent
abbrev pub marks_of : TreeKind → Bool
marks_of Refutation = false
marks_of Spent = true

-- the tally after the nodes of a tree
abbrev pub tally_through : TreeKind → GroupTree → Tally → Tally
tally_through kind open_zone tally = with_open tally
tally_through kind (refuted_zone reason fresh) tally = with_fresh (marks_of kind && fresh) tally
tally_through kind (split_zone test fresh yes_half no_half) tally =
    tally_through kind no_half
    (tally_through kind yes_half (with_fresh (marks_of kind && fresh) tally))

-- a tree of this kind may have open leaves, or has none
abbrev pub MayBeOpen : TreeKind → GroupTree → Type 0
MayBeOpen Refutation tree = has_open_zone tree ≡ false
MayBeOpen Spent tree = Unit {0}

open_halves : (kind : TreeKind) (test : Test) (fresh : Bool) (yes_half no_half : GroupTree)
    → MayBeOpen kind (split_zone test fresh yes_half no_half)
    → MayBeOpen kind yes_half × MayBeOpen kind no_half
open_halves Refutation test fresh yes_half no_half may =
    neither (has_open_zone yes_half) (has_open_zone no_half) may
open_halves Spent test fresh yes_half no_half may = (tt, tt)

module _ (basis : CupBasis) (group : PlacedGroup) (asked : GroupQuestion)
    (league : IsLeague group.sheet group.season) (results : are_results group.season ≡ true) where
  -- the question about the place, and whether a reason holds in a zone
  abbrev place : Question
  place = asked_place asked

  abbrev holds_in : List Literal → GroupReason → Bool
  holds_in zone said = holds_below group asked zone said

  -- ---- one line

  split_line : (kind : TreeKind) (test : Test) (fresh : Bool)
      → is_test_of group.sheet test ≡ true
      → own_node kind group
      (group_split_line (marks_of kind && fresh) (test_in_cup group.start test))
      ≡ Some (split_node test (marks_of kind && fresh))
  split_line Refutation test fresh inside =
      ap (option_map (λ own. split_node own false)) (test_back group test inside)
  split_line Spent test true inside =
      ap (option_map (λ own. split_node own true)) (test_back group test inside)
  split_line Spent test false inside =
      ap (option_map (λ own. split_node own false)) (test_back group test inside)

  leaf_line : (kind : TreeKind) (said : GroupReason) (fresh : Bool) → IsTold group place said
      → own_node kind group
      (group_leaf_line (marks_of kind && fresh) (leaf_in_cup group.start said))
      ≡ Some (refuted_node (kept_leaf said) (marks_of kind && fresh))
  leaf_line Refutation said fresh fits =
      ap (option_map (λ own. refuted_node own false)) (leaf_back group place said fits)
  leaf_line Spent said true fits =
      ap (option_map (λ own. refuted_node own true)) (leaf_back group place said fits)
  leaf_line Spent said false fits =
      ap (option_map (λ own. refuted_node own false)) (leaf_back group place said fits)

  -- what is due after a leaf
  abbrev leaf_dues : TreeKind → List (List Literal) → Tally → List CupDue
  leaf_dues kind [] tally = []
  leaf_dues kind (zone ∷ zones) tally = nodes kind group asked zone zones tally ∷ []

  -- the same before what else is
  abbrev pub dues_behind : TreeKind → List (List Literal) → Tally → List CupDue → List CupDue
  dues_behind kind [] tally more = more
  dues_behind kind (zone ∷ zones) tally more = nodes kind group asked zone zones tally ∷ more

  leaf_dues-before : (kind : TreeKind) (zones : List (List Literal)) (tally : Tally)
      (more : List CupDue) → leaf_dues kind zones tally ++ more ≡ dues_behind kind zones tally more
  leaf_dues-before kind [] tally more = refl
  leaf_dues-before kind (zone ∷ zones) tally more = refl

  -- the tree is whole where its last zone ends
  abbrev pub IsWholeAtEnd : TreeKind → List (List Literal) → Tally → Type 0
  IsWholeAtEnd kind [] tally = is_tally_whole group.sheet.budget kind tally ≡ true
  IsWholeAtEnd kind (zone ∷ zones) tally = Unit {0}

  leaf_goes : (kind : TreeKind) (zones : List (List Literal)) (tally : Tally) (holds : Bool)
      → holds ≡ true → IsWholeAtEnd kind zones tally
      → after_group_leaf kind group asked zones tally holds ≡ go true (leaf_dues kind zones tally)
  leaf_goes kind [] tally holds is whole =
      ap (λ it. go it [])
      (and_from holds (is_tally_whole group.sheet.budget kind tally) is whole)
  leaf_goes kind (zone ∷ zones) tally holds is whole =
      ap (λ it. go it (nodes kind group asked zone zones tally ∷ [])) is

  -- ---- all lines

  -- the facts of a tree below a zone
  abbrev pub AreTrueBelow : List Literal → GroupTree → Type 0
  AreTrueBelow zone tree =
      ZonesMeet (λ it said fresh. holds_in it said ≡ true) (λ it test fresh. Unit {0}) zone tree

  abbrev pub AreProperBelow : List Literal → GroupTree → Type 0
  AreProperBelow zone tree =
      ZonesMeet (λ it said fresh. Unit {0})
      (λ it test fresh. is_proper group.sheet group.season place it test ≡ true) zone tree

  -- the lines of a tree leave due what is due behind it
  pub reads_tree : (kind : TreeKind) (tree : GroupTree) (zone : List Literal)
      (zones : List (List Literal)) (tally : Tally) (more : List CupDue)
      → is_path_for group.sheet place zone ≡ true → MayBeOpen kind tree → AreTrueBelow zone tree
      → AreProperBelow zone tree → IsWholeAtEnd kind zones (tally_through kind tree tally)
      → ReadsOn basis (lines_of_group_tree (marks_of kind) group.start tree)
      (nodes kind group asked zone zones tally ∷ more)
      (dues_behind kind zones (tally_through kind tree tally) more)
  reads_tree Refutation open_zone zone zones tally more path may true_below proper whole =
      absurd (false≢true (sym may))
  reads_tree Spent open_zone zone zones tally more path may true_below proper whole = (
    leaf_dues Spent zones (with_open tally),
    leaf_goes Spent zones (with_open tally) true refl whole,
    leaf_dues-before Spent zones (with_open tally) more,
  )
  reads_tree kind (refuted_zone said fresh) zone zones tally more path may true_below proper
      whole =
      let fits = told group asked league results zone said path true_below in
      let next = with_fresh (marks_of kind && fresh) tally in
      let kept = kept_leaf said in (
        leaf_dues kind zones next,
        ap (after_group_node_if kind group asked zone zones tally) (leaf_line kind said fresh fits)
            ∙ if-go (is_reason_of_kind group asked kept)
            (after_group_leaf kind group asked zones next (holds_in zone kept))
            (may_stand group asked league results zone said fits true_below)
            ∙ leaf_goes kind zones next (holds_in zone kept) (holds_kept group asked league results
            zone said ∙ true_below)
            whole,
        leaf_dues-before kind zones next more,
      )
  reads_tree kind (split_zone test fresh yes_half no_half) zone zones tally more path may true_below
      proper whole =
      let fits = proper_told group asked league results zone test proper.0 in
      let halves = open_halves kind test fresh yes_half no_half may in
      let yes_zone = with_test zone test true in
      let no_zone = with_test zone test false in
      let next = with_fresh (marks_of kind && fresh) tally in
      let later = tally_through kind yes_half next in
      let due = nodes kind group asked yes_zone (no_zone ∷ zones) next in (
        due ∷ [],
        ap (after_group_node_if kind group asked zone zones tally)
            (split_line kind test fresh (test_of_group group asked league results test fits))
            ∙ if-go (is_group_test group asked test) (go true (due ∷ [])) fits,
        reads_both basis (lines_of_group_tree (marks_of kind) group.start yes_half)
            (lines_of_group_tree (marks_of kind) group.start no_half) (due ∷ more)
            (nodes kind group asked no_zone zones later ∷ more)
            (dues_behind kind zones (tally_through kind no_half later) more)
            (reads_tree kind yes_half yes_zone (no_zone ∷ zones) next more
            (tests_with group.sheet place zone test true path fits) halves.0 true_below.1 proper.1
            tt)
            (reads_tree kind no_half no_zone zones later more
            (tests_with group.sheet place zone test false path fits) halves.1 true_below.2 proper.2
            whole),
      )
