-- What the type of pools keeps means that a pool is good, and that what is lent is fit for work.
use Rattle.std.proofs.Common.{◌≡◌, ℕ, suc, true, List, [], ◌∷◌, length, map, Some, IsTrue, refl}
use Rattle.std.proofs.Common.{sym, ap, ◌∙◌, subst, arith, get_or}
use Rattle.std.specs.List.{slice_get, All}
use Rattle.std.specs.Option.{option_map}
use Rattle.std.proofs.lemmas.Option.{slice_get-map, slice_get-get_or}
use Rattle.std.proofs.lemmas.List.Elements.{All-weaker, All-head}
use Rattle.league_core.specs.declared.sheet.Sheet.{Sheet}
use Rattle.league_core.specs.declared.zone.Literal.{Literal}
use Rattle.league_core.specs.game.Results.{Results}
use Rattle.league_core.specs.game.Seasons.{IsSeasonOf}
use Rattle.league_core.specs.inside.Codes.{has_code}
use Rattle.league_core.specs.game.Questions.{IsQuestionOf}
use Rattle.league_core.specs.search.Zones.{IsZoneFor}
use Rattle.league_core.specs.search.Options.{has_finish}
use Rattle.league_core.specs.search.Trees.{Tree, open_leaf, NodesMeet}
use Rattle.league_core.specs.inside.Lending.{lent_count, lent_zones, put}
use Rattle.league_core.specs.search.Splits.{IsProperNode, IsReasonTrue, IsUnitIfNew}
use Rattle.league_core.proofs.HalfLemmas.{root_has_finish, nodes_have_finish}
use Rattle.league_core.proofs.LendingLemmas.{length-lent_zones, lent_count-none}
use Rattle.league_core.proofs.LogLemmas.{season_after_of, log_has_codes}
use Rattle.league_core.proofs.NodeFactLemmas.{NodesMeet-lend, NodesMeet-lent}
use Rattle.league_core.proofs.TreeLemmas.{NodesMeet-weaker}
use Rattle.reason_laws.proofs.HalfMarkLemmas.{proper_trees}
use Rattle.reason_laws.proofs.SplitLemmas.{leaves_cover}
use Rattle.tree_reuse.proofs.RetargetLemmas.{proper_tests}
use Rattle.branch_pool.specs.declared.question_state.QuestionState.{QuestionState}
use Rattle.branch_pool.specs.declared.ticket.Ticket.{Ticket}
use Rattle.branch_pool.specs.inside.States.{PoolView, present_epoch, out_count}
use Rattle.branch_pool.specs.inside.Steps.{TakesLeaf, pool_lent}
use Rattle.tree_arena.specs.inside.GoodNodes.{IsGoodNode}
use Rattle.branch_pool.specs.inside.Goodness.{IsGoodSeat, IsSoundPool, IsCovered}
use Rattle.branch_pool.specs.inside.Goodness.{zones_due}
use Rattle.branch_pool.specs.inside.Goodness.{AreLeavesRefuted, IsExampleTrue, AreUnitsTrue, IsGood}
use Rattle.branch_pool.specs.inside.QuestionStates.{MayBeCarried}
use Rattle.branch_pool.specs.inside.Calls.{IsFit}
use Rattle.branch_pool.proofs.SlotLemmas.{nothing_out}
use Rattle.league_core.proofs.plain.Slots.{All-at}

-- the splits of a good question are proper
pub seat_proper : (sheet : Sheet) (season : Results) (seat : QuestionState)
    → IsGoodSeat sheet season seat
    → NodesMeet (IsProperNode sheet season seat.question) [] seat.tree
seat_proper sheet season seat good =
    NodesMeet-weaker (IsGoodNode sheet season seat.question)
    (IsProperNode sheet season seat.question) (λ zone node fact. fact.proper) seat.tree []
    good.nodes

seat_covered : (sheet : Sheet) (season : Results) (seat : QuestionState)
    → IsGoodSeat sheet season seat
    → IsCovered sheet season seat
seat_covered sheet season seat good =
    let proper = seat_proper sheet season seat good in
    record {
      proper = proper;
      finishes = nodes_have_finish sheet season seat.question seat.tree []
          (root_has_finish sheet season) proper;
      cover = leaves_cover sheet season seat.question seat.tree;
    }

seat_refuted : (sheet : Sheet) (season : Results) (seat : QuestionState)
    → IsGoodSeat sheet season seat
    → AreLeavesRefuted sheet season seat
seat_refuted sheet season seat good =
    NodesMeet-weaker (IsGoodNode sheet season seat.question)
    (IsReasonTrue sheet season seat.question) (λ zone node fact. fact.refuted) seat.tree []
    good.nodes

seat_units : (sheet : Sheet) (season : Results) (seat : QuestionState)
    → IsGoodSeat sheet season seat
    → AreUnitsTrue sheet season seat
seat_units sheet season seat good = record {
  nodes = NodesMeet-weaker (IsGoodNode sheet season seat.question)
      (IsUnitIfNew sheet season seat.question) (λ zone node fact. fact.unit) seat.tree []
      good.nodes;
  count = good.units;
  within = omega (arith, good.within, good.lent);
}

-- what is kept is a good pool
pub sound_is_good : (pool : PoolView) → IsSoundPool pool → IsGood pool
sound_is_good pool sound = record {
  log = record {
    limits = sound.limits;
    season = sound.season;
    most_events = sound.most_events;
    events = sound.events;
  };
  cover = All-weaker (IsGoodSeat pool.sheet pool.season) (IsCovered pool.sheet pool.season)
      (seat_covered pool.sheet pool.season) pool.seats sound.seats;
  refuted = All-weaker (IsGoodSeat pool.sheet pool.season)
      (AreLeavesRefuted pool.sheet pool.season) (seat_refuted pool.sheet pool.season) pool.seats
      sound.seats;
  examples = All-weaker (IsGoodSeat pool.sheet pool.season)
      (IsExampleTrue pool.sheet pool.season) (λ seat good. good.example) pool.seats sound.seats;
  units = All-weaker (IsGoodSeat pool.sheet pool.season) (AreUnitsTrue pool.sheet pool.season)
      (seat_units pool.sheet pool.season) pool.seats sound.seats;
  loans = record { epochs = sound.loans; leaves = sound.due };
}

-- the season is one of the sheet
pub sound_season : (pool : PoolView) → IsSoundPool pool → IsSeasonOf pool.sheet pool.season
sound_season pool sound = rw sound.season (season_after_of pool.sheet pool.log)

-- each event has a code
pub sound_codes : (pool : PoolView) → IsSoundPool pool → All (λ event. IsTrue (has_code event))
    pool.log
sound_codes pool sound = log_has_codes pool.sheet pool.log sound.limits sound.events

-- there are as many seats as questions
pub sound_places : (pool : PoolView) → IsSoundPool pool → length pool.seats ≡ length pool.questions
sound_places pool sound =
    sym (length-asked pool.seats) ∙ ap length sound.asked
  where
    length-asked : (seats : List QuestionState)
        → length (map (λ (seat : QuestionState). seat.question) seats) ≡ length seats
    length-asked [] = refl
    length-asked (seat ∷ seats) = ap suc (length-asked seats)

-- the question of a seat is the one at its place
pub asked_there : (pool : PoolView) (place : ℕ) (seat : QuestionState) → IsSoundPool pool
    → slice_get pool.seats place ≡ Some seat
    → slice_get pool.questions place ≡ Some seat.question
asked_there pool place seat sound found =
    ap (λ asked. slice_get asked place) (sym sound.asked)
    ∙ slice_get-map (λ (s : QuestionState). s.question) pool.seats place
    ∙ ap (option_map (λ (s : QuestionState). s.question)) found

-- the question of a seat is one of the sheet
pub seat_question : (pool : PoolView) (place : ℕ) (seat : QuestionState) → IsSoundPool pool
    → slice_get pool.seats place ≡ Some seat → IsQuestionOf pool.sheet seat.question
seat_question pool place seat sound found =
    All-at (IsQuestionOf pool.sheet) pool.questions place seat.question sound.questions
    (asked_there pool place seat sound found)

-- the zone of a leaf that is lent is one for its question, and has a finish
pub lent_zone_fits : (sheet : Sheet) (season : Results) (seat : QuestionState) (tree : Tree)
    (number : ℕ)
    (zone : List Literal) → IsGoodSeat sheet season seat → put number open_leaf tree ≡ seat.tree
    → lent_zones number [] tree ≡ zone ∷ []
    → IsZoneFor sheet seat.question zone × (has_finish sheet season zone ≡ true)
lent_zone_fits sheet season seat tree number zone good leaf lent = (
  All-head (IsZoneFor sheet seat.question) zone []
      (subst (All (IsZoneFor sheet seat.question)) lent (NodesMeet-lent
      (λ z node. IsZoneFor sheet seat.question z) number tree []
      (proper_trees sheet season seat.question tree proper))),
  All-head (λ z. has_finish sheet season z ≡ true) zone []
      (subst (All (λ z. has_finish sheet season z ≡ true)) lent (NodesMeet-lent
      (λ z node. has_finish sheet season z ≡ true) number tree []
      (nodes_have_finish sheet season seat.question tree [] (root_has_finish sheet season)
      proper))),
)
  where
    proper : NodesMeet (IsProperNode sheet season seat.question) [] tree
    proper = NodesMeet-lend (IsProperNode sheet season seat.question) number tree []
        (λ z out fact. tt) (rw leaf (seat_proper sheet season seat good))

-- what was lent is fit for work
pub taken_is_fit : (old : PoolView) (ticket : Ticket) (new : PoolView) → IsSoundPool old
    → TakesLeaf old ticket new → IsFit new ticket
taken_is_fit old ticket new sound takes =
    subst (λ pool. IsFit pool ticket) (sym takes.after) fit
  where
    fits : IsZoneFor old.sheet takes.seat.question ticket.piece.zone.literals
        × (has_finish old.sheet old.season ticket.piece.zone.literals ≡ true)
    fits = lent_zone_fits old.sheet old.season takes.seat takes.tree ticket.number
        ticket.piece.zone.literals
        (All-at (IsGoodSeat old.sheet old.season) old.seats ticket.place takes.seat sound.seats
        takes.found) takes.leaf takes.zone

    fit : IsFit (pool_lent old ticket takes.seat takes.tree) ticket
    fit = record {
      epoch = takes.epoch;
      season = rw takes.season (sound_season old sound);
      same_season = takes.season;
      question = rw takes.question (seat_question old ticket.place takes.seat sound takes.found);
      zone = rw takes.question fits.0;
      has_finish = rw takes.season fits.1;
    }

-- each question may be carried over to another season
pub seats_ready : (pool : PoolView) → IsSoundPool pool → All (MayBeCarried pool.sheet) pool.seats
seats_ready pool sound k d within = record {
  club = (seat_question pool k _ sound (slice_get-get_or pool.seats k d within)).club;
  tests = proper_tests pool.sheet pool.season (get_or pool.seats k d).question []
      (get_or pool.seats k d).tree
      (seat_proper pool.sheet pool.season (get_or pool.seats k d) (sound.seats k d within));
}

-- if nothing is out, no leaf is lent
pub none_lent_at : (pool : PoolView) (place : ℕ) (seat : QuestionState) → IsSoundPool pool
    → out_count pool.loans ≡ 0 → slice_get pool.seats place ≡ Some seat
    → lent_count seat.tree ≡ 0
none_lent_at pool place seat sound home found =
    lent_count-none seat.tree (λ number.
    sym (length-lent_zones number seat.tree [])
    ∙ ap length (sound.due number place seat found
    ∙ ap (zones_due (present_epoch pool) place) (nothing_out pool.loans number home)))
