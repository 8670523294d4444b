-- A search stays a search as it reaches a node.
use Rattle.std.proofs.Common.{◌≡◌, ◌≢◌, ℕ, ◌+◌, ◌<◌, ◌≤◌, Bool, true, false, cond, List, [], ◌∷◌}
use Rattle.std.proofs.Common.{◌++◌, length, set, sym, ap, ◌∙◌, refl, subst, inl, inr, arith}
use Rattle.std.proofs.Common.{get_or-set_same, get_or-set_other}
use Rattle.std.proofs.lemmas.Bool.{cases_eq, cases_lt, both_ways}
use Rattle.std.proofs.lemmas.List.{get_or_append_left, get_or_past, get_or_push, length_push}
use Rattle.std.proofs.lemmas.List.{length-set}
use Rattle.std.proofs.lemmas.List.Sums.{sum_by-cons, sum_by-set}
use Rattle.flow_net.specs.declared.arcs.Arc.{Arc}
use Rattle.flow_net.specs.declared.arcs.Direction.{Direction}
use Rattle.flow_net.specs.declared.arcs.Direction.TheVariants.{Along, Against}
use Rattle.flow_net.specs.declared.search.Reach.{Reach}
use Rattle.flow_net.specs.inside.Flow.{arc_at}
use Rattle.flow_net.specs.inside.Cut.{marked}
use Rattle.flow_net.specs.inside.Direction.{head_of}
use Rattle.flow_net.specs.inside.Search.{IsOpen, IsReached, IsSearch, no_reach, reached_at}
use Rattle.flow_net.specs.inside.Search.{mark_count}

-- one mark counts one
abbrev one_if : Bool → ℕ
one_if mark = cond mark 1 0

-- there are no more marks than nodes
pub mark_count-le : (marks : List Bool) → mark_count marks ≤ length marks
mark_count-le [] = omega arith
mark_count-le (true ∷ marks) = omega (arith, mark_count-le marks, sum_by-cons one_if true marks)
mark_count-le (false ∷ marks) = omega (arith, mark_count-le marks, sum_by-cons one_if false marks)

-- a new mark is one more
pub mark_count-set : (marks : List Bool) (node : ℕ) → node < length marks
    → marked marks node ≡ false → mark_count (set marks node true) ≡ mark_count marks + 1
mark_count-set marks node below free =
    let change = sum_by-set one_if marks node true false below in
    omega (arith, change, ap one_if free)

-- if a node is free there are fewer marks than nodes
pub mark_count-lt : (marks : List Bool) (node : ℕ) → node < length marks → marked marks node ≡ false
    → mark_count marks < length marks
mark_count-lt marks node below free =
    omega (
      arith,
      mark_count-set marks node below free,
      mark_count-le (set marks node true),
      length-set marks node true,
    )

-- a new mark keeps the others
pub marked-set : (marks : List Bool) (node at : ℕ) → node < length marks → marked marks at ≡ true
    → marked (set marks node true) at ≡ true
marked-set marks node at below is_marked =
    elim (cases_eq at node) [
      | inl same ↦ ap (λ n. marked (set marks node true) n) same
          ∙ get_or-set_same marks node true false below
      | inr other ↦ get_or-set_other marks node at true false other ∙ is_marked
    ]

-- what is marked after was marked before, or is the new one
pub marked_before : (marks : List Bool) (node at : ℕ) → at ≢ node
    → marked (set marks node true) at ≡ marked marks at
marked_before marks node at other = get_or-set_other marks node at true false other

-- the older entries stay at their places
pub reach_at-append : (queue : List Reach) (reach : Reach) (place : ℕ) → place < length queue
    → reached_at (queue ++ reach ∷ []) place ≡ reached_at queue place
reach_at-append queue reach place below = get_or_append_left queue (reach ∷ []) no_reach place below

-- the new entry is the last
pub reach_at_push : (queue : List Reach) (reach : Reach) (place : ℕ) → length queue ≡ place
    → reached_at (queue ++ reach ∷ []) place ≡ reach
reach_at_push queue reach place last = get_or_push queue reach no_reach place last

-- both ends of an arc that served a step are marked
ends_marked : (arcs : List Arc) (flow : List ℕ) (marks : List Bool) (served way : Direction)
    (arc amount from to : ℕ) → IsOpen arcs flow served arc amount from to → marked marks from ≡ true
    → marked marks to ≡ true → marked marks (head_of way (arc_at arcs arc)) ≡ true
ends_marked arcs flow marks Along Along arc amount from to step is_from is_to =
    ap (marked marks) step.ends ∙ is_to
ends_marked arcs flow marks Along Against arc amount from to step is_from is_to =
    ap (marked marks) step.begins ∙ is_from
ends_marked arcs flow marks Against Along arc amount from to step is_from is_to =
    ap (marked marks) step.begins ∙ is_from
ends_marked arcs flow marks Against Against arc amount from to step is_from is_to =
    ap (marked marks) step.ends ∙ is_to

-- an entry and the one that it was reached from
record IsReachedBy (arcs : List Arc) (flow : List ℕ) (place : ℕ) (entry from : Reach) : Type 0 where
  earlier : entry.before < place
  step : IsOpen arcs flow entry.way entry.arc entry.room from.node entry.node
  narrows : entry.room ≤ from.room

-- they stand in the queue
IsReached-from : {arcs : List Arc} {flow : List ℕ} (queue : List Reach) (place : ℕ)
    (entry from : Reach) → entry ≡ reached_at queue place → from ≡ reached_at queue entry.before
    → IsReachedBy arcs flow place entry from → IsReached arcs flow queue place
IsReached-from {arcs} {flow} queue place entry from here before by =
    let at = subst (λ (f : Reach). IsReachedBy arcs flow place entry f) before by in
    let Found : Reach → Type 0 = λ e. IsReachedBy arcs flow place e (reached_at queue e.before) in
    let found = subst Found here at in
    record { earlier = found.earlier; step = found.step; narrows = found.narrows }

module _ (arcs : List Arc) (flow : List ℕ) (marks : List Bool) (queue : List Reach) (reach : Reach)
    (old : IsSearch arcs flow marks queue) (free : marked marks reach.node ≡ false)
    (in_range : reach.node < length marks) (earlier : reach.before < length queue)
    (step : IsOpen arcs flow reach.way reach.arc reach.room
    (reached_at queue reach.before).node reach.node)
    (narrows : reach.room ≤ (reached_at queue reach.before).room) (wide : 0 < reach.room) where
  -- no older step went over the arc of the new one
  new_arc : (older : ℕ) → 0 < older → older < length queue
      → (reached_at queue older).arc ≢ reach.arc
  new_arc older above below same =
      let entry = reached_at queue older in
      let is_reached = old.reached older above below in
      let end = ends_marked arcs flow marks entry.way reach.way entry.arc entry.room
      (reached_at queue entry.before).node entry.node is_reached.step
      (old.all_marked entry.before (omega (arith, is_reached.earlier)))
      (old.all_marked older below) in
      let at_new : marked marks reach.node ≡ true =
      sym (ap (marked marks) (ap (λ (n : ℕ). head_of reach.way (arc_at arcs n)) same
      ∙ step.ends)) ∙ end in
      both_ways (marked marks reach.node) free at_new

  -- the older entries stay reached
  IsReached-append : (place : ℕ) → place < length queue → IsReached arcs flow queue place
      → IsReached arcs flow (queue ++ reach ∷ []) place
  IsReached-append place below was =
      let here = sym (reach_at-append queue reach place below) in
      let before = sym (reach_at-append queue reach (reached_at queue place).before
      (omega (arith, was.earlier))) in
      let at : IsReachedBy arcs flow place (reached_at queue place)
      (reached_at queue (reached_at queue place).before) =
      record { earlier = was.earlier; step = was.step; narrows = was.narrows } in
      IsReached-from (queue ++ reach ∷ []) place (reached_at queue place)
      (reached_at queue (reached_at queue place).before) here before at

  -- the new entry is reached
  IsReached_push : IsReached arcs flow (queue ++ reach ∷ []) (length queue)
  IsReached_push =
      IsReached-from (queue ++ reach ∷ []) (length queue) reach (reached_at queue reach.before)
      (sym (reach_at_push queue reach (length queue) refl))
      (sym (reach_at-append queue reach reach.before earlier))
      (record { earlier = earlier; step = step; narrows = narrows })

  pub IsSearch-reach : IsSearch arcs flow (set marks reach.node true) (queue ++ reach ∷ [])
  IsSearch-reach =
      let longer = length_push queue reach in
      record {
        some = omega (arith, longer);
        counted = mark_count-set marks reach.node in_range free ∙ ap (λ n. n + 1) old.counted
            ∙ sym longer;
        all_marked = λ place below. elim (cases_eq place (length queue)) [
          | inl last ↦ rw (reach_at_push queue reach place (sym last))
              (get_or-set_same marks reach.node true false in_range)
          | inr older ↦
              let within : place < length queue = omega (arith, longer) in
              rw (reach_at-append queue reach place within)
              (marked-set marks reach.node (reached_at queue place).node in_range
              (old.all_marked place within))
        ];
        listed = λ node is_marked. elim (cases_eq node reach.node) [
          | inl same ↦ (
            length queue,
            omega (arith, longer),
            ap (λ (r : Reach). r.node) (reach_at_push queue reach (length queue) refl) ∙ sym same,
          )
          | inr other ↦
              let was = old.listed node (sym (marked_before marks reach.node node other)
              ∙ is_marked) in (
                was.0,
                omega (arith, longer, was.1),
                ap (λ (r : Reach). r.node) (reach_at-append queue reach was.0 was.1) ∙ was.2,
              )
        ];
        reached = λ place above below. elim (cases_eq place (length queue)) [
          | inl last ↦ subst (λ (n : ℕ). IsReached arcs flow (queue ++ reach ∷ []) n)
              (sym last) IsReached_push
          | inr older ↦
              let within : place < length queue = omega (arith, longer) in
              IsReached-append place within (old.reached place above within)
        ];
        wide = λ place below. elim (cases_eq place (length queue)) [
          | inl last ↦ rw (reach_at_push queue reach place (sym last)) wide
          | inr older ↦
              let within : place < length queue = omega (arith, longer) in
              rw (reach_at-append queue reach place within) (old.wide place within)
        ];
        apart = λ older newer above order below.
            let older_in : older < length queue = omega (arith, longer) in
            rw (reach_at-append queue reach older older_in)
            (elim (cases_eq newer (length queue)) [
              | inl last ↦ rw (reach_at_push queue reach newer (sym last))
                  (new_arc older above older_in)
              | inr not_last ↦
                  let within : newer < length queue = omega (arith, longer) in
                  rw (reach_at-append queue reach newer within)
                  (old.apart older newer above order within)
            ]);
      }

-- only nodes are marked
pub marked-lt : (marks : List Bool) (node : ℕ) → marked marks node ≡ true → node < length marks
marked-lt marks node is_marked =
    elim (cases_lt node (length marks)) [
      | inl below ↦ below
      | inr past ↦ absurd (both_ways (marked marks node)
          (get_or_past marks node false past) is_marked)
    ]
