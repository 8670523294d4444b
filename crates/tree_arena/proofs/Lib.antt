-- The arena: trees of one node, marks and lists of nodes, trees, weights, links, what each call
-- does, lent leaves, the order of leaves and which one is lent, rooms, the way that is kept, lists
-- of nodes, how an arena is made, with its leaves in order; then zones, and
-- leaves that are good nodes.
pub mod LeafLemmas
pub mod MarkLemmas
pub mod ShapeLemmas
pub mod WeightLemmas
pub mod LinkLemmas
pub mod ArenaLemmas
pub mod FindLemmas
pub mod LiveLemmas
pub mod EndLemmas
pub mod LendLemmas
pub mod RoomLemmas
pub mod LastPathLemmas
pub mod KeptRoomLemmas
pub mod VisitLemmas
pub mod FillLemmas
pub mod BuildLemmas
pub mod OrderLemmas
pub mod ListLemmas
pub mod ZoneLemmas
pub mod GoodNodeLemmas
