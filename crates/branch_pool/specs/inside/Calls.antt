-- What the calls answer, beside the steps that they make: which leaf comes next, when there is
-- nothing to do, and how far a question is.
use Rattle.std.specs.Prelude.{◌≡◌, ◌≢◌, ℕ, Bool, true, false, ◌&&◌, ◌||◌, ◌==◌, nat_lt}
use Rattle.std.specs.Prelude.{is_some}
use Rattle.std.specs.Prelude.{IsTrue, length, position, Option, Some, None}
use Rattle.std.specs.Prelude.{if◌then◌else◌}
use Rattle.std.specs.List.{slice_get}
use Rattle.std.specs.Option.{option_or, option_map}
use Rattle.league_core.specs.declared.sheet.Sheet.{Sheet}
use Rattle.league_core.specs.game.Results.{Results}
use Rattle.league_core.specs.game.Seasons.{IsSeasonOf}
use Rattle.league_core.specs.game.Questions.{IsQuestionOf}
use Rattle.league_core.specs.search.Zones.{IsZoneFor}
use Rattle.league_core.specs.search.Options.{has_finish}
use Rattle.league_core.specs.search.Trees.{Tree, is_refuted}
use Rattle.reason_core.specs.declared.finding.Finding.{Finding}
use Rattle.tree_arena.specs.inside.Calls.{IsFirstLent}
use Rattle.tree_arena.specs.declared.example.Example.{Example}
use Rattle.branch_pool.specs.declared.discarded.Discarded.{Discarded}
use Rattle.branch_pool.specs.declared.question_state.QuestionState.{QuestionState}
use Rattle.branch_pool.specs.declared.ticket.Answer.{Answer}
use Rattle.branch_pool.specs.declared.ticket.Answer.TheVariants as answer
use Rattle.branch_pool.specs.declared.ticket.Gave.{Gave}
use Rattle.branch_pool.specs.declared.ticket.Gave.TheVariants.{Kept, Stale}
use Rattle.branch_pool.specs.declared.ticket.Ticket.{Ticket}
use Rattle.branch_pool.specs.declared.ticket.Took.{Took}
use Rattle.branch_pool.specs.declared.ticket.Took.TheVariants.{Lent, Rest, Over, OutOfMemory}
use Rattle.branch_pool.specs.inside.States.{PoolView, is_workable, has_work, out_count}
use Rattle.branch_pool.specs.inside.Steps.{TakesLeaf, example_in}

-- ---- take

-- there is work for the question, and none of it is out
abbrev pub is_untouched : Sheet → QuestionState → Bool
is_untouched sheet seat = is_workable sheet seat && (seat.lent == 0)

-- the place of the question that comes next: the first with work of which nothing is out, or else
-- the first with work
abbrev pub next_place : PoolView → Option ℕ
next_place pool =
    option_or (position (is_untouched pool.sheet) pool.seats)
    (position (is_workable pool.sheet) pool.seats)

-- work may come: of an event that is reported, or of what is out
abbrev pub may_go_on : PoolView → Bool
may_go_on pool = pool.is_open || nat_lt 0 (out_count pool.loans)

-- the leaf that comes next is lent: it is of the question that comes next, the first of its tree
-- that is open, depth first, the half where a test is true first
pub record LendsNext (old : PoolView) (ticket : Ticket) (new : PoolView) : Type 0 where
  pub takes : TakesLeaf old ticket new
  pub next : next_place old ≡ Some ticket.place
  pub first : IsFirstLent ticket.number takes.tree

-- there is no work now, and the pool is as before
pub record HasNoWork (old : PoolView) (goes_on : Bool) (new : PoolView) : Type 0 where
  pub none : has_work old ≡ false
  pub later : may_go_on old ≡ goes_on
  pub same : new ≡ old

-- what `take` did, by its answer
abbrev pub Taking : PoolView → Took → PoolView → Type 0
Taking old (Lent ticket) new = LendsNext old ticket new
Taking old Rest new = HasNoWork old true new
Taking old Over new = HasNoWork old false new
Taking old OutOfMemory new = new ≡ old

-- what a worker needs to know of a ticket: it is of the pool's epoch, and its piece is one of the
-- sheet that has a finish
pub record IsFit (pool : PoolView) (ticket : Ticket) : Type 0 where
  pub epoch : ticket.epoch ≡ length pool.log
  pub season : IsSeasonOf pool.sheet ticket.piece.season
  pub same_season : ticket.piece.season ≡ pool.season
  pub question : IsQuestionOf pool.sheet ticket.piece.question
  pub zone : IsZoneFor pool.sheet ticket.piece.question ticket.piece.zone.literals
  pub has_finish : IsTrue (has_finish pool.sheet ticket.piece.season ticket.piece.zone.literals)

-- a ticket that was lent is fit
abbrev pub IsFitIfLent : PoolView → Took → Type 0
IsFitIfLent pool (Lent ticket) = IsFit pool ticket
IsFitIfLent pool Rest = Unit {0}
IsFitIfLent pool Over = Unit {0}
IsFitIfLent pool OutOfMemory = Unit {0}

-- a spare season is not spare any more if it is this one, and otherwise is as before
abbrev pub IsSpareUsed : Results → Option Results → Option Results → Type 0
IsSpareUsed season old new = (old ≡ Some season → new ≡ None) × (old ≢ Some season → new ≡ old)

-- what is left of a spare season: it goes along with a ticket that is lent, if it is the season
-- of the pool
abbrev pub LeavesSpare : Results → Took → Option Results → Option Results → Type 0
LeavesSpare season (Lent ticket) old new = IsSpareUsed season old new
LeavesSpare season Rest old new = new ≡ old
LeavesSpare season Over old new = new ≡ old
LeavesSpare season OutOfMemory old new = new ≡ old

-- ---- give

-- the example that was found, if another is kept already
abbrev pub example_over : Option Example → Option Finding → Option Example
example_over None finding = None
example_over (Some example) finding = example_in finding

-- the example that is left over: if what was found is kept, the one beside another; if it is stale,
-- any
abbrev pub IsExampleLeft : PoolView → Ticket → Option Finding → Gave → Option Example → Type 0
IsExampleLeft old ticket finding Kept left =
    (seat : QuestionState) → slice_get old.seats ticket.place ≡ Some seat
    → left ≡ example_over seat.example finding
IsExampleLeft old ticket finding (Stale epoch) left = left ≡ example_in finding

-- what is left over when a ticket is given back: the season and the zone of its piece, and the
-- example that is not kept
pub record LeavesOver (old : PoolView) (ticket : Ticket) (finding : Option Finding) (gave : Gave)
    (left : Discarded) : Type 0 where
  pub season : left.season ≡ Some ticket.piece.season
  pub zone : left.zone ≡ ticket.piece.zone
  pub example : IsExampleLeft old ticket finding gave left.example

-- what `give` tells of epochs: what is kept is of the present one, and what is stale is told it
abbrev pub IsEpochSaid : PoolView → Ticket → Gave → Type 0
IsEpochSaid pool ticket Kept = ticket.epoch ≡ length pool.log
IsEpochSaid pool ticket (Stale epoch) = epoch ≡ length pool.log

-- ---- looks

-- how far a question is that has no example
abbrev pub answer_without : Bool → Bool → Answer
answer_without true spent = answer.Refuted
answer_without false true = answer.Spent
answer_without false false = answer.NotYet

-- how far a question is: it has an example; or each leaf is refuted; or it has as many units as its
-- budget; or none of these
abbrev pub answer_of : Sheet → QuestionState → Answer
answer_of sheet seat =
    if is_some seat.example then answer.Won
    else answer_without (is_refuted seat.tree) (seat.units == sheet.budget)

-- how far the question at a place is
abbrev pub pool_answer : PoolView → ℕ → Option Answer
pool_answer pool place = option_map (answer_of pool.sheet) (slice_get pool.seats place)

-- the tree of the question at a place
abbrev pub tree_at : PoolView → ℕ → Option Tree
tree_at pool place = option_map (λ seat. seat.tree) (slice_get pool.seats place)

-- the example of the question at a place, if one is kept
abbrev pub example_at : PoolView → ℕ → Option (Option Example)
example_at pool place = option_map (λ seat. seat.example) (slice_get pool.seats place)
