-- The lines of the nodes of a search are those of its tree: in a refutation without marks, in a
-- tree on which the budget was spent with them.
use Rattle.std.proofs.Common.{◌≡◌, true, false, ◌∷◌, ◌++◌, map, refl, ap, ◌∙◌}
use Rattle.std.proofs.lemmas.List.{map-append}
use Rattle.depth_search.specs.inside.Cases.{Cases, left_open, refuted, split, case_nodes}
use Rattle.cup_sheet.specs.declared.question.GroupReason.{GroupReason}
use Rattle.cup_groups.specs.declared.start.GroupStart.{GroupStart}
use Rattle.group_search.specs.inside.GroupTasks.{new_group_tree}
use Rattle.cup_text.specs.declared.cup_line.CupLine.TheVariants as line
use Rattle.cup_text.specs.GroupNodeLines.{test_in_cup, lines_of_group_tree}
use Rattle.cup_rows.specs.inside.GroupTreeLines.{refuted_node_line, spent_node_line}

pub plain_tree-lines : (start : GroupStart) (cases : Cases GroupReason)
    → map (refuted_node_line start) (case_nodes cases)
    ≡ lines_of_group_tree false start (new_group_tree cases)
plain_tree-lines start left_open = refl
plain_tree-lines start (refuted reason) = refl
plain_tree-lines start (split test yes_half no_half) =
    let head = line.Split (test_in_cup start test) in
    ap (λ lines. head ∷ lines)
    (map-append (refuted_node_line start) (case_nodes yes_half) (case_nodes no_half)
    ∙ ap (λ lines. lines ++ map (refuted_node_line start) (case_nodes no_half))
    (plain_tree-lines start yes_half)
    ∙ ap (λ lines. lines_of_group_tree false start (new_group_tree yes_half) ++ lines)
    (plain_tree-lines start no_half))

pub marked_tree-lines : (start : GroupStart) (cases : Cases GroupReason)
    → map (spent_node_line start) (case_nodes cases)
    ≡ lines_of_group_tree true start (new_group_tree cases)
marked_tree-lines start left_open = refl
marked_tree-lines start (refuted reason) = refl
marked_tree-lines start (split test yes_half no_half) =
    let head = line.NewSplit (test_in_cup start test) in
    ap (λ lines. head ∷ lines)
    (map-append (spent_node_line start) (case_nodes yes_half) (case_nodes no_half)
    ∙ ap (λ lines. lines ++ map (spent_node_line start) (case_nodes no_half))
    (marked_tree-lines start yes_half)
    ∙ ap (λ lines. lines_of_group_tree true start (new_group_tree yes_half) ++ lines)
    (marked_tree-lines start no_half))
