-- Lists that know for how many items more they have room, so that these can be put in without a
-- refusal.
use Rattle.std.specs.Prelude.{ℕ, List}

-- the items in their order, and how many more can be put in without taking memory
pub record RoomyListView (T : Type 0) : Type 0 where
  pub items : List T
  pub room : ℕ
