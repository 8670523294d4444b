-- The trees of a group's clubs, one by one.
use Rattle.std.proofs.Common.{◌≡◌, ℕ, ◌+◌, ◌<◌, List, [], ◌∷◌, ◌++◌, length, take, slice_index_or}
use Rattle.std.proofs.Common.{ap, sym, ◌∙◌, arith}
use Rattle.std.proofs.lemmas.List.{append_assoc, append-nil, take_more, length-take-le}
use Rattle.cup_sheet.specs.declared.question.GroupKind.{GroupKind}
use Rattle.cup_text.specs.declared.cup_line.CupLine.{CupLine}
use Rattle.runners_up.specs.inside.GroupsAsked.{GroupNodes}
use Rattle.cup_groups.specs.declared.start.GroupStart.{GroupStart}
use Rattle.cup_rows.specs.inside.GroupTreeLines.{group_tree_lines}
use Rattle.cup_rows.specs.inside.VerdictLines.{club_trees_from}

-- one club more
club_trees-push : (start : GroupStart) (kind : GroupKind) (club : ℕ) (trees : List GroupNodes)
    (nodes : GroupNodes) → club_trees_from start kind club (trees ++ nodes ∷ [])
    ≡ club_trees_from start kind club trees
    ++ group_tree_lines start kind (club + length trees) nodes.items
club_trees-push start kind club [] nodes =
    let here : club + 0 ≡ club = omega arith in
    append-nil (group_tree_lines start kind club nodes.items)
    ∙ ap (λ n. group_tree_lines start kind n nodes.items) (sym here)
club_trees-push start kind club (first ∷ trees) nodes =
    let line = group_tree_lines start kind club first.items in
    let lines = club_trees_from start kind (club + 1) trees in
    let there : club + 1 + length trees ≡ club + length (first ∷ trees) = omega arith in
    ap (λ t. line ++ t) (club_trees-push start kind (club + 1) trees nodes)
    ∙ sym (append_assoc line lines
    (group_tree_lines start kind (club + 1 + length trees) nodes.items))
    ∙ ap (λ n. (line ++ lines) ++ group_tree_lines start kind n nodes.items) there

-- the lines of a club more come after those so far
pub club_trees-step : (before_all before after : List CupLine) (start : GroupStart)
    (kind : GroupKind) (trees : List GroupNodes) (club : ℕ) (nodes : GroupNodes)
    → club < length trees → nodes ≡ slice_index_or trees club nodes
    → before ≡ before_all ++ club_trees_from start kind 0 (take club trees)
    → after ≡ before ++ group_tree_lines start kind club nodes.items
    → after ≡ before_all ++ club_trees_from start kind 0 (take (club + 1) trees)
club_trees-step before_all before after start kind trees club nodes inside here before_is after_is =
    let few : length (take club trees) ≡ club = length-take-le club trees (omega arith) in
    let at : 0 + length (take club trees) ≡ club = omega (arith, few) in
    let lines = club_trees_from start kind 0 (take club trees) in
    let line = group_tree_lines start kind club nodes.items in
    let more : club_trees_from start kind 0 (take (club + 1) trees) ≡ lines ++ line =
    ap (club_trees_from start kind 0) (take_more trees club nodes inside)
    ∙ ap (λ it. club_trees_from start kind 0 (take club trees ++ it ∷ [])) (sym here)
    ∙ club_trees-push start kind 0 (take club trees) nodes
    ∙ ap (λ n. lines ++ group_tree_lines start kind n nodes.items) at in
    after_is ∙ ap (λ t. t ++ line) before_is ∙ append_assoc before_all lines line
    ∙ ap (λ t. before_all ++ t) (sym more)
