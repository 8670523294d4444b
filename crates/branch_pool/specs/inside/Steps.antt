-- The steps of a pool: what is taken, what is given back, what is reported. Whatever a step does
-- not name stays as it was, the sheet and the questions always. Which open leaf is lent is left
-- free here; `Calls.antt` says which one a call lends.
use Rattle.std.specs.Prelude.{◌≡◌, ◌<◌, ℕ, ◌+◌, ◌-◌, Bool, true, false, ◌&&◌, IsTrue, ◌⊎◌, List}
use Rattle.std.specs.Prelude.{[], ◌∷◌, ◌++◌, length, map, Option, Some, None, slice_set, bytes_eq}
use Rattle.std.specs.Prelude.{if◌then◌else◌}
use Rattle.std.specs.List.{slice_get}
use Rattle.league_core.specs.declared.sheet.Sheet.{Sheet}
use Rattle.league_core.specs.declared.season.Event.{Event}
use Rattle.league_core.specs.game.Limits.{most_events}
use Rattle.league_core.specs.game.Results.{Results}
use Rattle.league_core.specs.game.Seasons.{IsEventOf, event_applied}
use Rattle.league_core.specs.game.Finishes.{may_all_end}
use Rattle.league_core.specs.search.Trees.{Tree, open_leaf, refuted_leaf, branch}
use Rattle.league_core.specs.inside.Lending.{lent_zones, put, all_opened}
use Rattle.reason_core.specs.declared.done.Done.{Done}
use Rattle.reason_core.specs.declared.finding.Finding.{Finding}
use Rattle.reason_core.specs.declared.finding.Finding.TheVariants.{Refuted, Split, Won}
use Rattle.reason_core.specs.inside.Dones.{IsFor, IsTrueDone, finding_of}
use Rattle.tree_reuse.specs.Asked.{IsAskedTree}
use Rattle.tree_reuse.specs.Retargets.{retargeted}
use Rattle.tree_arena.specs.declared.example.Example.{Example}
use Rattle.branch_pool.specs.declared.question_state.QuestionState.{QuestionState}
use Rattle.branch_pool.specs.declared.question_state.Loan.{Loan}
use Rattle.branch_pool.specs.declared.ticket.Ticket.{Ticket}
use Rattle.branch_pool.specs.declared.ticket.Gave.{Gave}
use Rattle.branch_pool.specs.declared.ticket.Gave.TheVariants.{Kept, Stale}
use Rattle.branch_pool.specs.inside.States.{PoolView, present_epoch, is_workable, loan_at}
use Rattle.branch_pool.specs.inside.States.{free_number, with_loan, out_count}

-- ---- take

-- what is out with a ticket
abbrev pub loan_of : Ticket → Loan
loan_of ticket =
    record { epoch = ticket.epoch; place = ticket.place; zone = ticket.piece.zone }

-- a question with this tree, in which one leaf more is lent
abbrev pub seat_lent : Tree → QuestionState → QuestionState
seat_lent tree seat = record seat { tree = tree; lent = seat.lent + 1 }

-- one leaf of a question is lent, so that this is its tree
abbrev pub pool_lent : PoolView → Ticket → QuestionState → Tree → PoolView
pool_lent pool ticket seat tree = record pool {
  seats = slice_set pool.seats ticket.place (seat_lent tree seat);
  loans = with_loan pool.loans ticket.number (loan_of ticket);
}

-- a leaf is lent: it was open, of a question with work; it is lent under the least number that was
-- free, and out in the present epoch with the season, the question and its zone
pub record TakesLeaf (old : PoolView) (ticket : Ticket) (new : PoolView) : Type 0 where
  pub seat : QuestionState
  pub tree : Tree
  pub found : slice_get old.seats ticket.place ≡ Some seat
  pub workable : IsTrue (is_workable old.sheet seat)
  pub number : ticket.number ≡ free_number old.loans
  pub leaf : put ticket.number open_leaf tree ≡ seat.tree
  pub zone : lent_zones ticket.number [] tree ≡ ticket.piece.zone.literals ∷ []
  pub epoch : ticket.epoch ≡ present_epoch old
  pub season : ticket.piece.season ≡ old.season
  pub question : ticket.piece.question ≡ seat.question
  pub after : new ≡ pool_lent old ticket seat tree

-- ---- give

-- a ticket of the present epoch is of its season, of the question at its place, and of the leaf
-- that is lent under its number
pub record IsPresent (pool : PoolView) (ticket : Ticket) : Type 0 where
  pub seat : QuestionState
  pub found : slice_get pool.seats ticket.place ≡ Some seat
  pub season : ticket.piece.season ≡ pool.season
  pub question : ticket.piece.question ≡ seat.question
  pub zone : lent_zones ticket.number [] seat.tree ≡ ticket.piece.zone.literals ∷ []

-- the ticket is one of the pool's: its number is out with its epoch, its place and its zone, and
-- if it is of the present epoch, the pool has the rest of it too
pub record IsOwnTicket (pool : PoolView) (ticket : Ticket) : Type 0 where
  pub out : loan_at pool.loans ticket.number ≡ Some (loan_of ticket)
  pub present : ticket.epoch ≡ present_epoch pool → IsPresent pool ticket

-- what comes in place of a leaf: a refuted leaf or a split, marked new; or it is open again
abbrev pub leaf_after : Option Finding → Tree
leaf_after (Some (Refuted reason)) = refuted_leaf reason true
leaf_after (Some (Split literal)) = branch literal.test true open_leaf open_leaf
leaf_after (Some (Won finish lots)) = open_leaf
leaf_after None = open_leaf

-- a refutation and a split are one unit of work
abbrev pub units_after : Option Finding → ℕ
units_after (Some (Refuted reason)) = 1
units_after (Some (Split literal)) = 1
units_after (Some (Won finish lots)) = 0
units_after None = 0

-- the example that was found, if one was
abbrev pub example_in : Option Finding → Option Example
example_in (Some (Refuted reason)) = None
example_in (Some (Split literal)) = None
example_in (Some (Won finish lots)) = Some (record { finish = finish; lots = lots })
example_in None = None

-- the first example that is found is kept
abbrev pub example_after : Option Example → Option Finding → Option Example
example_after (Some example) finding = Some example
example_after None finding = example_in finding

-- a question of which the leaf under a number came back, with what was found in it
abbrev pub seat_after : ℕ → Option Finding → QuestionState → QuestionState
seat_after number finding seat = record seat {
  tree = put number (leaf_after finding) seat.tree;
  units = seat.units + units_after finding;
  lent = seat.lent - 1;
  example = example_after seat.example finding;
}

-- nothing is out under the number any more
abbrev pub loans_home : List (Option Loan) → ℕ → List (Option Loan)
loans_home loans number = slice_set loans number None

-- what was done is kept: the ticket is one of the pool's, of the present epoch; what was done comes
-- in place of its leaf, and its number comes home
pub record Keeps (old : PoolView) (ticket : Ticket) (done : Done) (new : PoolView) : Type 0 where
  pub own : IsOwnTicket old ticket
  pub epoch : ticket.epoch ≡ present_epoch old
  pub seat : QuestionState
  pub found : slice_get old.seats ticket.place ≡ Some seat
  pub after : new ≡ record old {
    seats = slice_set old.seats ticket.place (seat_after ticket.number (finding_of done) seat);
    loans = loans_home old.loans ticket.number;
  }

-- the ticket is one of the pool's, of an earlier epoch: its number comes home, and nothing else
-- changes
pub record ComesHome (old : PoolView) (ticket : Ticket) (new : PoolView) : Type 0 where
  pub own : IsOwnTicket old ticket
  pub epoch : ticket.epoch < present_epoch old
  pub after : new ≡ record old { loans = loans_home old.loans ticket.number }

-- the ticket is none of the pool's: nothing changes
pub record IsStrange (old : PoolView) (ticket : Ticket) (new : PoolView) : Type 0 where
  pub strange : ¬ IsOwnTicket old ticket
  pub after : new ≡ old

-- what was done is not kept, and the epoch that is answered is the present one
pub record IsStale (old : PoolView) (ticket : Ticket) (told : ℕ) (new : PoolView) : Type 0 where
  pub epoch : told ≡ present_epoch old
  pub cause : ComesHome old ticket new ⊎ IsStrange old ticket new

-- a ticket is given back, with what was done
abbrev pub Gives : PoolView → Ticket → Done → Gave → PoolView → Type 0
Gives old ticket done Kept new = Keeps old ticket done new
Gives old ticket done (Stale epoch) new = IsStale old ticket epoch new

-- what may be given: what was done is about the ticket's piece, and true
pub record MayBeGiven (pool : PoolView) (ticket : Ticket) (done : Done) : Type 0 where
  pub is_for : IsFor done ticket.piece
  pub sound : IsTrueDone pool.sheet done

-- ---- change

-- the season may still end like this finish
abbrev pub may_end_as : Sheet → Results → Results → Bool
may_end_as sheet season finish =
    bytes_eq finish.deductions season.deductions
    && may_all_end sheet.goal_limit season.scores finish.scores

-- an example stays if the new season may still end like it
abbrev pub example_kept : Sheet → Results → Option Example → Option Example
example_kept sheet season None = None
example_kept sheet season (Some example) =
    if may_end_as sheet season example.finish then Some example else None

-- a question in a new season: its tree is carried over, and it has no unit yet
abbrev pub seat_changed : Sheet → Results → QuestionState → QuestionState
seat_changed sheet season seat = record seat {
  tree = retargeted sheet season seat.question seat.tree;
  units = 0;
  lent = 0;
  example = example_kept sheet season seat.example;
}

-- an event is reported; what is out stays out
abbrev pub pool_changed : Event → PoolView → PoolView
pool_changed event pool =
    let season = event_applied pool.season event in
    record pool {
      season = season;
      log = pool.log ++ event ∷ [];
      seats = map (seat_changed pool.sheet season) pool.seats;
    }

-- an event is reported that the season may take, if there is room in the log
pub record Changes (old : PoolView) (event : Event) (new : PoolView) : Type 0 where
  pub room : length old.log < most_events
  pub may_be : IsEventOf old.season event
  pub after : new ≡ pool_changed event old

-- ---- adopt

-- a question with what its season leaves of another tree, of which no unit is its own
abbrev pub seat_adopted : Sheet → Results → Tree → QuestionState → QuestionState
seat_adopted sheet season tree seat = record seat {
  tree = retargeted sheet season seat.question tree;
  units = 0;
}

-- what the season leaves of a tree takes the place of a question's own, if no number is out;
-- whoever made the tree, its tests are such as the question's trees may ask
pub record Adopts (old : PoolView) (place : ℕ) (tree : Tree) (new : PoolView) : Type 0 where
  pub seat : QuestionState
  pub found : slice_get old.seats place ≡ Some seat
  pub home : out_count old.loans ≡ 0
  pub asked : IsAskedTree old.sheet seat.question tree
  pub after : new ≡ record old {
    seats = slice_set old.seats place (seat_adopted old.sheet old.season tree seat);
  }

-- ---- start, shut, recall

-- events may come
abbrev pub pool_opened : PoolView → PoolView
pool_opened pool = record pool { is_open = true }

-- no event will come
abbrev pub pool_shut : PoolView → PoolView
pool_shut pool = record pool { is_open = false }

-- a question with each lent leaf open again
abbrev pub seat_recalled : QuestionState → QuestionState
seat_recalled seat = record seat { tree = all_opened seat.tree; lent = 0 }

-- each lent leaf is open again, and nothing is out
abbrev pub pool_recalled : PoolView → PoolView
pool_recalled pool = record pool { seats = map seat_recalled pool.seats; loans = [] }
