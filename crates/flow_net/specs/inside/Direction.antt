-- The two ways over an arc: along it a flow grows, against it a flow is taken back.
use Rattle.std.specs.Prelude.{ℕ, ◌+◌, ◌-◌}
use Rattle.flow_net.specs.declared.arcs.Arc.{Arc}
use Rattle.flow_net.specs.declared.arcs.Direction.{Direction}
use Rattle.flow_net.specs.declared.arcs.Direction.TheVariants.{Along, Against}

-- where a step over the arc begins
abbrev pub tail_of : Direction → Arc → ℕ
tail_of Along arc = arc.from
tail_of Against arc = arc.to

-- where a step over the arc ends
abbrev pub head_of : Direction → Arc → ℕ
head_of Along arc = arc.to
head_of Against arc = arc.from

-- how much more can be sent over an arc that carries so much
abbrev pub room_of : Direction → Arc → ℕ → ℕ
room_of Along arc amount = arc.capacity - amount
room_of Against arc amount = amount

-- what an arc carries once an amount more is sent over it
abbrev pub sent_over : Direction → ℕ → ℕ → ℕ
sent_over Along amount more = amount + more
sent_over Against amount more = amount - more
