-- What a search has reached stays reached as it goes on.
use Rattle.std.proofs.Common.{◌≡◌, ℕ, ◌-◌, ◌<◌, Bool, true, List, get_or, ap, ◌∙◌, subst, inl}
use Rattle.std.proofs.Common.{inr, arith}
use Rattle.std.proofs.lemmas.Bool.{cases_eq, cases_lt}
use Rattle.flow_net.specs.declared.arcs.Arc.{Arc}
use Rattle.flow_net.specs.declared.arcs.Direction.{Direction}
use Rattle.flow_net.specs.declared.search.Search.{Search}
use Rattle.flow_net.specs.inside.Flow.{arc_at}
use Rattle.flow_net.specs.inside.Cut.{marked}
use Rattle.flow_net.specs.inside.Direction.{head_of, room_of}
use Rattle.flow_net.specs.inside.Lists.{IsNewest}
use Rattle.flow_net.specs.inside.Search.{IsGrown, IsScanned, IsSized}

-- two times nothing lost is nothing lost
pub IsGrown-trans : (old between new : Search) → IsGrown old between → IsGrown between new
    → IsGrown old new
IsGrown-trans old between new first second = record {
  nodes = second.nodes ∙ first.nodes;
  marks = λ node h. second.marks node (first.marks node h);
  longer = omega (arith, first.longer, second.longer);
  entries = λ place h. second.entries place (omega (arith, first.longer)) ∙ first.entries place h;
  capacity = omega (arith, first.capacity, second.capacity);
}

-- the queue keeps its room for each node
pub IsSized-grown : (nodes : ℕ) (old new : Search) → IsGrown old new → IsSized nodes old
    → IsSized nodes new
IsSized-grown nodes old new grown sized =
    record {
      one_each = grown.nodes ∙ sized.one_each;
      room =
          omega (arith, grown.capacity, sized.room);
    }

-- what was looked at stays looked at
pub IsScanned-grown : (arcs : List Arc) (flow : List ℕ) (way : Direction) (old new : Search)
    (node low : ℕ) → IsGrown old new → IsScanned arcs flow way old.reached.items node low
    → IsScanned arcs flow way new.reached.items node low
IsScanned-grown arcs flow way old new node low grown scanned = record {
  reached = λ arc above below at room. grown.marks (head_of way (arc_at arcs arc))
      (scanned.reached arc above below at room);
}

-- with the newest arc that is left looked at, all from the next older one on are
pub IsScanned-next : (arcs : List Arc) (flow : List ℕ) (way : Direction) (marks : List Bool)
    (node name older : ℕ) → 0 < name → IsNewest way arcs node (name - 1) older
    → IsScanned arcs flow way marks node name
    → (0 < room_of way (arc_at arcs (name - 1)) (get_or flow (name - 1) 0)
    → marked marks (head_of way (arc_at arcs (name - 1))) ≡ true)
    → IsScanned arcs flow way marks node older
IsScanned-next arcs flow way marks node name older some newest scanned here = record {
  reached = λ arc above below at room.
      elim (cases_eq arc (name - 1)) [
        | inl same ↦ ap (λ (n : ℕ). marked marks (head_of way (arc_at arcs n))) same
            ∙ here (subst (λ (n : ℕ). 0 < room_of way (arc_at arcs n) (get_or flow n 0)) same room)
        | inr other ↦ elim (cases_lt arc (name - 1)) [
          | inl below_name ↦ absurd (newest.newest arc above below_name at)
          | inr above_name ↦ scanned.reached arc (omega arith) below at room
        ]
      ];
}
