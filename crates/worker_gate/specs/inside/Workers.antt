-- What a worker has in hand, what it goes on with, and how it ends, by what its badge has seen and
-- was told.
use Rattle.std.specs.Prelude.{◌≡◌, ℕ, true, List, length}
use Rattle.league_core.specs.declared.sheet.Sheet.{Sheet}
use Rattle.league_core.specs.declared.season.Event.{Event}
use Rattle.league_core.specs.declared.question.Question.{Question}
use Rattle.league_core.specs.game.Results.{Results}
use Rattle.league_core.specs.game.Seasons.{season_after}
use Rattle.league_core.specs.game.Sheets.{IsWithinLimits}
use Rattle.branch_pool.specs.declared.ticket.Ticket.{Ticket}
use Rattle.pool_lock.specs.inside.Badges.{BadgeView}
use Rattle.pool_lock.specs.inside.Lends.{IsTakenFrom, IsWorkAfter}
use Rattle.worker_gate.specs.declared.next.Next.{Next}
use Rattle.worker_gate.specs.declared.next.Next.TheVariants as next
use Rattle.worker_gate.specs.declared.worker.WorkerEnd.{WorkerEnd}
use Rattle.worker_gate.specs.declared.worker.WorkerEnd.TheVariants.{Over, Memory}

-- ---- what a worker has

-- a crew's sheet is that of its job, and within the limits
abbrev pub IsCrewFor : Sheet → Sheet → Type 0
IsCrewFor sheet own = (own ≡ sheet) × IsWithinLimits own

-- a solver of this sheet and season has a ticket for them, which is work after these events
abbrev pub HasWork : Sheet → List Event → Sheet → Results → Ticket → Type 0
HasWork sheet events own season ticket =
    (own ≡ sheet) × (season ≡ ticket.piece.season) × IsWorkAfter sheet events ticket

-- a solver of this sheet and season works in the pool itself, after so many events, which are these
abbrev pub WorksInPool : Sheet → List Event → ℕ → Sheet → Results → Type 0
WorksInPool sheet events epoch own season =
    (epoch ≡ length events) × (own ≡ sheet) × (season ≡ season_after sheet events)

-- a solver is still one of the same sheet and season
abbrev pub IsSameSolver : {W : Type 0} → (W → Sheet) → (W → Results) → W → W → Type 0
IsSameSolver sheet season old new = (sheet new ≡ sheet old) × (season new ≡ season old)

-- ---- what it goes on with

-- what comes next: a ticket is work after the events that the badge has seen, and all is over only
-- if the last answer to a taking by it said so; running out of memory is free
abbrev pub IsNextFor : Sheet → BadgeView → Next → Type 0
IsNextFor sheet badge (next.Work ticket) = IsWorkAfter sheet badge.list ticket
IsNextFor sheet badge next.Over = badge.is_over ≡ true
IsNextFor sheet badge next.Memory = Unit {0}

-- a ticket that comes next is one that a pool of these events lends
abbrev pub IsNextFrom : Sheet → List Question → List Event → Next → Type 0
IsNextFrom sheet questions events (next.Work ticket) = IsTakenFrom sheet questions events ticket
IsNextFrom sheet questions events next.Over = Unit {0}
IsNextFrom sheet questions events next.Memory = Unit {0}

-- a worker ends because all is over only if the last answer to a taking by its badge said so;
-- running out of memory is free
abbrev pub IsEndFor : BadgeView → WorkerEnd → Type 0
IsEndFor badge Over = badge.is_over ≡ true
IsEndFor badge Memory = Unit {0}
