-- What is kept of a question stays good: when a leaf of its tree is lent, comes back, or all come
-- back.
use Rattle.std.proofs.Common.{◌≡◌, ℕ, ◌+◌, ◌*◌, ◌<◌, ◌≤◌, true}
use Rattle.std.proofs.Common.{List, [], ◌∷◌, length, Option, Some, None, refl, sym, ap, ◌∙◌}
use Rattle.std.proofs.Common.{subst, arith}
use Rattle.std.specs.Prelude.{IfSome}
use Rattle.std.proofs.lemmas.Bool.{and_parts, ltb-true}
use Rattle.std.proofs.lemmas.List.Elements.{All-nil, All-cons}
use Rattle.league_core.specs.declared.sheet.Sheet.{Sheet}
use Rattle.league_core.specs.declared.question.Question.{Question}
use Rattle.league_core.specs.declared.zone.Literal.{Literal}
use Rattle.league_core.specs.game.Results.{Results}
use Rattle.league_core.specs.search.Trees.{Tree, open_leaf, NodesMeet, new_count, node_count}
use Rattle.league_core.specs.search.Trees.{has_open}
use Rattle.league_core.specs.inside.Lending.{lent_count, times_lent, lent_zones, put}
use Rattle.league_core.proofs.LendingLemmas.{length-lent_zones, times_lent-le}
use Rattle.league_core.proofs.LendingLemmas.{lent_count-all_opened, new_count-all_opened}
use Rattle.league_core.proofs.LendingLemmas.{node_count-all_opened}
use Rattle.league_core.proofs.PutLemmas.{new_count-put, lent_count-put, node_count-put}
use Rattle.league_core.proofs.NodeFactLemmas.{NodesMeet-put, NodesMeet-lend, NodesMeet-all_opened}
use Rattle.reason_core.specs.declared.piece.Piece.{Piece}
use Rattle.reason_core.specs.declared.finding.Finding.{Finding}
use Rattle.reason_core.specs.declared.finding.Finding.TheVariants.{Refuted, Split, Won}
use Rattle.reason_core.specs.inside.Dones.{IsTrueOf}
use Rattle.tree_arena.specs.declared.example.Example.{Example}
use Rattle.branch_pool.specs.declared.question_state.QuestionState.{QuestionState}
use Rattle.branch_pool.specs.inside.States.{is_workable, new_seat}
use Rattle.branch_pool.specs.inside.Steps.{seat_lent, seat_after, seat_recalled, leaf_after}
use Rattle.branch_pool.specs.inside.Steps.{units_after, example_after}
use Rattle.tree_arena.specs.inside.GoodNodes.{IsGoodNode}
use Rattle.branch_pool.specs.inside.Goodness.{IsGoodSeat, IsExampleOf}
use Rattle.tree_reuse.specs.Retargets.{most_kept}
use Rattle.tree_arena.proofs.GoodNodeLemmas.{open_is_good, lent_is_good}

-- ---- a leaf is lent

-- a number with one zone is lent once
pub lent_once : (number : ℕ) (tree : Tree) (zone : List Literal)
    → lent_zones number [] tree ≡ zone ∷ [] → times_lent number tree ≡ 1
lent_once number tree zone one =
    sym (length-lent_zones number tree []) ∙ ap length one

-- there is work within the budget
pub workable_within : (sheet : Sheet) (seat : QuestionState) → is_workable sheet seat ≡ true
    → (has_open seat.tree ≡ true) × (seat.units + seat.lent < sheet.budget)
workable_within sheet seat workable =
    let parts = and_parts _ _ workable in
    let more = and_parts _ _ parts.0 in
    (more.1, ltb-true (seat.units + seat.lent) sheet.budget parts.1)

-- a question of which a leaf was lent
pub seat_lent_good : (sheet : Sheet) (season : Results) (seat : QuestionState) (tree : Tree)
    (number : ℕ)
    (zone : List Literal) → IsGoodSeat sheet season seat → is_workable sheet seat ≡ true
    → put number open_leaf tree ≡ seat.tree → lent_zones number [] tree ≡ zone ∷ []
    → IsGoodSeat sheet season (seat_lent tree seat)
seat_lent_good sheet season seat tree number zone good workable leaf lent =
    let once = lent_once number tree zone lent in
    let news = new_count-put number open_leaf tree in
    let loans = lent_count-put number open_leaf tree in
    let nodes = node_count-put number open_leaf tree in
    let within = (workable_within sheet seat workable).1 in
    record {
      nodes = NodesMeet-lend (IsGoodNode sheet season seat.question) number tree []
          (λ z out fact. lent_is_good sheet season seat.question z out)
          (rw leaf good.nodes);
      units = good.units ∙ ap new_count (sym leaf) ∙ omega (arith, news, once);
      lent =
          let before : seat.lent ≡ lent_count (put number open_leaf tree)
          = good.lent ∙ ap lent_count (sym leaf) in
          omega (arith, loans, once, before);
      within = omega (arith, within);
      few =
          let before : node_count (put number open_leaf tree)
          ≤ most_kept + 2 * seat.units = rw leaf good.few in
          omega (arith, nodes, once, before);
      example = good.example;
    }

-- ---- a leaf comes back

-- what comes in place of a leaf lends nothing
pub leaf_lends_nothing : (number : ℕ) (finding : Option Finding)
    → times_lent number (leaf_after finding) ≡ 0
leaf_lends_nothing number (Some (Refuted reason)) = refl
leaf_lends_nothing number (Some (Split literal)) = refl
leaf_lends_nothing number (Some (Won finish lots)) = refl
leaf_lends_nothing number None = refl

-- it has as many new nodes as units, no lent leaf, and at most two nodes more for a unit
leaf_counts : (finding : Option Finding)
    → (new_count (leaf_after finding) ≡ units_after finding)
    × (lent_count (leaf_after finding) ≡ 0)
    × (node_count (leaf_after finding) ≤ 1 + 2 * units_after finding) × (units_after finding ≤ 1)
leaf_counts (Some (Refuted reason)) = (refl, refl, omega arith, omega arith)
leaf_counts (Some (Split literal)) = (refl, refl, omega arith, omega arith)
leaf_counts (Some (Won finish lots)) = (refl, refl, omega arith, omega arith)
leaf_counts None = (refl, refl, omega arith, omega arith)

-- its nodes are good in the zone of the piece
leaf_is_good : (sheet : Sheet) (piece : Piece) (finding : Option Finding)
    → IfSome finding (IsTrueOf sheet piece)
    → NodesMeet (IsGoodNode sheet piece.season piece.question) piece.zone.literals
    (leaf_after finding)
leaf_is_good sheet piece (Some (Refuted reason)) sound =
    record { proper = tt; refuted = sound; unit = λ new. (new, sound) }
leaf_is_good sheet piece (Some (Split literal)) sound = (
  record { proper = sound.proper; refuted = tt; unit = λ new. (new, sound) },
  open_is_good sheet piece.season piece.question _,
  open_is_good sheet piece.season piece.question _,
)
leaf_is_good sheet piece (Some (Won finish lots)) sound =
    open_is_good sheet piece.season piece.question piece.zone.literals
leaf_is_good sheet piece None sound =
    open_is_good sheet piece.season piece.question piece.zone.literals

-- the example that is kept then is one
example_is_true : (sheet : Sheet) (piece : Piece) (kept : Option Example)
    (finding : Option Finding) → IfSome finding (IsTrueOf sheet piece)
    → IfSome kept (IsExampleOf sheet piece.season piece.question)
    → IfSome (example_after kept finding) (IsExampleOf sheet piece.season piece.question)
example_is_true sheet piece (Some example) finding sound kept = kept
example_is_true sheet piece None (Some (Refuted reason)) sound kept = tt
example_is_true sheet piece None (Some (Split literal)) sound kept = tt
example_is_true sheet piece None (Some (Won finish lots)) sound kept = sound
example_is_true sheet piece None None sound kept = tt

-- a question of which a leaf came back with what was found in it
pub seat_after_good : (sheet : Sheet) (season : Results) (seat : QuestionState) (number : ℕ)
    (piece : Piece) (finding : Option Finding) → IsGoodSeat sheet season seat
    → IfSome finding (IsTrueOf sheet piece) → piece.season ≡ season
    → piece.question ≡ seat.question
    → lent_zones number [] seat.tree ≡ piece.zone.literals ∷ []
    → IsGoodSeat sheet season (seat_after number finding seat)
seat_after_good sheet season seat number piece finding good sound same_season same_question lent =
    let once = lent_once number seat.tree piece.zone.literals lent in
    let new = leaf_after finding in
    let counts = leaf_counts finding in
    let news = rw once at (new_count-put number new seat.tree) in
    let loans = rw once at (lent_count-put number new seat.tree) in
    let nodes = rw once at (node_count-put number new seat.tree) in
    let among = times_lent-le number seat.tree in
    let Node = IsGoodNode sheet season seat.question in
    let there : NodesMeet Node piece.zone.literals new =
    subst (λ s. NodesMeet (IsGoodNode sheet s seat.question) piece.zone.literals new)
    same_season (subst (λ q. NodesMeet (IsGoodNode sheet piece.season q) piece.zone.literals new)
    same_question (leaf_is_good sheet piece finding sound)) in
    let example : IfSome (example_after seat.example finding)
    (IsExampleOf sheet season seat.question) =
    subst (λ s. IfSome (example_after seat.example finding) (IsExampleOf sheet s seat.question))
    same_season (subst (λ q. IfSome (example_after seat.example finding)
    (IsExampleOf sheet piece.season q)) same_question
    (example_is_true sheet piece seat.example finding sound
    (subst (λ q. IfSome seat.example (IsExampleOf sheet piece.season q)) (sym same_question)
    (subst (λ s. IfSome seat.example (IsExampleOf sheet s seat.question)) (sym same_season)
    good.example)))) in
    record {
      nodes = NodesMeet-put Node number new seat.tree [] good.nodes
          (rw lent (All-cons (λ z. NodesMeet Node z new) piece.zone.literals [] there
          (All-nil (λ z. NodesMeet Node z new))));
      units = omega (arith, news, counts.0, good.units);
      lent = omega (arith, loans, counts.1, good.lent);
      within = omega (arith, once, among, counts.3, good.lent, good.within);
      few = omega (arith, nodes, counts.2, good.few);
      example = example;
    }

-- ---- all come back, and the beginning

-- a question with each lent leaf open again
pub seat_recalled_good : (sheet : Sheet) (season : Results) (seat : QuestionState)
    → IsGoodSeat sheet season seat → IsGoodSeat sheet season (seat_recalled seat)
seat_recalled_good sheet season seat good = record {
  nodes = NodesMeet-all_opened (IsGoodNode sheet season seat.question) seat.tree []
      (λ z number fact. open_is_good sheet season seat.question z) good.nodes;
  units = good.units ∙ sym (new_count-all_opened seat.tree);
  lent = sym (lent_count-all_opened seat.tree);
  within = omega (arith, good.within);
  few = rw (node_count-all_opened seat.tree) good.few;
  example = good.example;
}

-- a question without work
pub new_seat_good : (sheet : Sheet) (season : Results) (question : Question)
    → IsGoodSeat sheet season (new_seat question)
new_seat_good sheet season question = record {
  nodes = open_is_good sheet season question [];
  units = refl;
  lent = refl;
  within = omega arith;
  few = omega arith;
  example = tt;
}
