-- What the calls of the lock say of tickets, of what was seen, and of the front; what is seen of a
-- worker's badge; then what lies under the lock, and what a round has before a call picks it.
pub mod Lends
pub mod Badges
pub mod States
pub mod Brands
