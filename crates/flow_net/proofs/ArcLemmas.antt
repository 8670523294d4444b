-- The arcs of a list that has gained one, and the ends of arcs.
use Rattle.std.proofs.Common.{◌≡◌, ℕ, ◌<◌, List, [], ◌∷◌, ◌++◌, length}
use Rattle.std.proofs.lemmas.List.{get_or_append_left, get_or_push}
use Rattle.flow_net.specs.declared.arcs.Arc.{Arc}
use Rattle.flow_net.specs.declared.arcs.Direction.{Direction}
use Rattle.flow_net.specs.declared.arcs.Direction.TheVariants.{Along, Against}
use Rattle.flow_net.specs.inside.Flow.{arc_at, no_arc}
use Rattle.flow_net.specs.inside.Direction.{head_of, tail_of}
use Rattle.flow_net.specs.inside.Graph.{HasEnds}

-- the older arcs stay at their places
pub arc_at-append : (arcs : List Arc) (arc : Arc) (place : ℕ) → place < length arcs
    → arc_at (arcs ++ arc ∷ []) place ≡ arc_at arcs place
arc_at-append arcs arc place h = get_or_append_left arcs (arc ∷ []) no_arc place h

-- the new arc is the last
pub arc_at_push : (arcs : List Arc) (arc : Arc) (place : ℕ) → length arcs ≡ place
    → arc_at (arcs ++ arc ∷ []) place ≡ arc
arc_at_push arcs arc place h = get_or_push arcs arc no_arc place h

-- both ends of an arc are nodes, whichever way it is gone over
pub head_in_range : {nodes : ℕ} (way : Direction) (arc : Arc) → HasEnds nodes arc
    → head_of way arc < nodes
head_in_range Along arc ends = ends.to
head_in_range Against arc ends = ends.from

pub tail_in_range : {nodes : ℕ} (way : Direction) (arc : Arc) → HasEnds nodes arc
    → tail_of way arc < nodes
tail_in_range Along arc ends = ends.from
tail_in_range Against arc ends = ends.to
