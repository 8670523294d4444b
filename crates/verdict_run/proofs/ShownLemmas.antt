-- What is kept of a question shows what is known of it: a refuted tree that there is no example, a
-- spent one that the budget was used up, and a great enough budget never is.
use Rattle.std.proofs.Common.{◌≡◌, ℕ, ◌*◌, ◌^◌, ◌<◌, ◌≤◌, true, false, List, []}
use Rattle.std.proofs.Common.{length}
use Rattle.std.proofs.Common.{IsTrue, sym, ap, ◌∙◌, subst, arith, inl, inr, Option, Some}
use Rattle.std.proofs.Common.{None, get_or}
use Rattle.std.specs.Prelude.{All, is_some, IfSome}
use Rattle.std.specs.List.{slice_get}
use Rattle.std.proofs.lemmas.Bool.{cases_Bool, or_from}
use Rattle.std.proofs.lemmas.List.{get_or-map, length-map}
use Rattle.std.proofs.lemmas.List.Elements.{All-set}
use Rattle.std.proofs.lemmas.Option.{get_or_from_slice_get, slice_get_within, slice_get-get_or}
use Rattle.league_core.specs.declared.sheet.Sheet.{Sheet}
use Rattle.league_core.specs.declared.question.Question.{Question}
use Rattle.league_core.specs.game.Results.{Results, are_results}
use Rattle.league_core.specs.game.Seasons.{IsSeasonOf, IsLeague}
use Rattle.league_core.specs.inside.FinishList.{ways_to_finish}
use Rattle.league_core.specs.game.Questions.{IsExample}
use Rattle.league_core.specs.search.Trees.{is_refuted}
use Rattle.league_core.specs.search.Splits.{IsReasonTrue, IsUnitIfNew, AreReasonsTrue}
use Rattle.league_core.proofs.LogLemmas.{season_after_of, season_after_results}
use Rattle.league_core.proofs.TreeLemmas.{NodesMeet-weaker}
use Rattle.reason_laws.proofs.WeightLemmas.{spent_below_finishes}
use Rattle.cert_text.specs.TreeLines.{IsRefutationTree, IsFairSpentTree, are_tests_for}
use Rattle.cert_text.proofs.ProperLemmas.{proper_tests}
use Rattle.tree_arena.specs.declared.example.Example.{Example}
use Rattle.branch_pool.specs.declared.question_state.QuestionState.{QuestionState}
use Rattle.branch_pool.specs.inside.States.{PoolView, out_count, has_work}
use Rattle.branch_pool.specs.inside.Goodness.{IsSoundPool, IsGoodSeat, IsExampleOf}
use Rattle.tree_arena.specs.inside.GoodNodes.{IsGoodNode}
use Rattle.reason_core.specs.inside.Dones.{finding_of}
use Rattle.branch_pool.specs.inside.Steps.{seat_lent, seat_after, leaf_after}
use Rattle.branch_pool.proofs.RunLemmas.{no_work_answers}
use Rattle.branch_pool.specs.inside.Runs.{WorksNext}
use Rattle.branch_pool.proofs.GoodLemmas.{seat_proper}
use Rattle.verdict_run.specs.inside.Working.{WorksTo, no_turn, one_turn_more, is_settled, is_known}
use Rattle.verdict_run.specs.inside.Working.{AreSettled, AreAllNew, AreDecided, IsEnough}
use Rattle.answer_rows.specs.NewTrees.{is_all_new}
use Rattle.answer_rows.proofs.NewTreeLemmas.{is_all_new-put, is_all_new-lend}
use Rattle.verdict_run.proofs.NewTreeLemmas.{leaf_is_new}
use Rattle.verdict_run.proofs.SettledLemmas.{seat_spent, settled_at, IsOnlySeat}
use Rattle.verdict_run.proofs.WorkLemmas.{works_home}

-- ---- trees

-- the reasons of a good question's refuted leaves hold
reasons_hold : (sheet : Sheet) (season : Results) (seat : QuestionState)
    → IsGoodSeat sheet season seat
    → AreReasonsTrue sheet season seat.question [] seat.tree
reasons_hold sheet season seat good =
    NodesMeet-weaker (IsGoodNode sheet season seat.question)
    (IsReasonTrue sheet season seat.question) (λ zone node fact. fact.refuted) seat.tree []
    good.nodes

-- its tests are such as lines have
tests_good : (sheet : Sheet) (season : Results) (seat : QuestionState) → IsLeague sheet season
    → are_results season ≡ true → IsGoodSeat sheet season seat
    → are_tests_for sheet seat.question seat.tree ≡ true
tests_good sheet season seat league results good =
    proper_tests sheet season seat.question seat.tree [] league results
    (seat_proper sheet season seat good)

-- a tree that is refuted is a refutation
pub refutes_seat : (sheet : Sheet) (season : Results) (seat : QuestionState) → IsLeague sheet season
    → are_results season ≡ true → IsGoodSeat sheet season seat
    → is_refuted seat.tree ≡ true → IsRefutationTree sheet season seat.question seat.tree
refutes_seat sheet season seat league results good refuted = record {
  tests = tests_good sheet season seat league results good;
  refuted = refuted;
  reasons = reasons_hold sheet season seat good;
}

-- a tree on which the budget is used up was spent fairly
pub spends_seat : (sheet : Sheet) (season : Results) (seat : QuestionState) → IsLeague sheet season
    → are_results season ≡ true → IsGoodSeat sheet season seat → is_known seat ≡ false
    → is_settled sheet seat ≡ true
    → IsFairSpentTree sheet season seat.question sheet.budget seat.tree
spends_seat sheet season seat league results good unknown settled = record {
  tree_spent = record {
    tests = tests_good sheet season seat league results good;
    spent = seat_spent sheet season seat good unknown settled;
    reasons = reasons_hold sheet season seat good;
  };
  units =
      NodesMeet-weaker (IsGoodNode sheet season seat.question)
      (IsUnitIfNew sheet season seat.question) (λ zone node fact. fact.unit) seat.tree []
      good.nodes;
}

-- ---- a great enough budget

-- no question spends it
pub seat_decided : (sheet : Sheet) (season : Results) (seat : QuestionState)
    → IsSeasonOf sheet season
    → seat.question.club < length sheet.clubs → IsEnough sheet season
    → IsGoodSeat sheet season seat → is_settled sheet seat ≡ true → is_known seat ≡ true
seat_decided sheet season seat is_season club_in enough good settled =
    elim (cases_Bool (is_known seat)) as (λ _. is_known seat ≡ true) [
      | inl known ↦ known
      | inr unknown ↦
          let spent = seat_spent sheet season seat good unknown settled in
          let small = spent_below_finishes sheet season seat.question sheet.budget seat.tree
          is_season club_in (seat_proper sheet season seat good) spent in
          let great : 2 ^ length sheet.clubs * ways_to_finish sheet.goal_limit season.scores
          ≤ sheet.budget = enough in
          absurd (omega (arith, small, great))
    ]

-- ---- trees that are all new

-- after a turn they are all new again
turn_new : (old new : PoolView) → WorksNext old new → AreAllNew old → AreAllNew new
turn_new old new turn all =
    let IsNew : QuestionState → Type 0 = λ seat. is_all_new seat.tree ≡ true in
    let place = turn.ticket.place in
    let was = turn.taken.takes.seat in
    let lent = seat_lent turn.taken.takes.tree was in
    let seats = old.seats in
    let old_new : is_all_new was.tree ≡ true =
    ap (λ (seat : QuestionState). is_all_new seat.tree)
    (sym (get_or_from_slice_get seats place was was turn.taken.takes.found))
    ∙ all place was (slice_get_within seats place was turn.taken.takes.found) in
    let lent_new : is_all_new turn.taken.takes.tree ≡ true =
    is_all_new-lend turn.ticket.number turn.taken.takes.tree
    (ap is_all_new turn.taken.takes.leaf ∙ old_new) in
    let between_all : AreAllNew turn.between =
    let P : List QuestionState → Type 0 = λ xs. All IsNew xs in
    subst P (sym (ap (λ pool. pool.seats) turn.taken.takes.after))
    (All-set IsNew seats place lent lent_new all) in
    let found = turn.kept.found in
    let held = turn.kept.seat in
    let held_new : is_all_new held.tree ≡ true =
    ap (λ (seat : QuestionState). is_all_new seat.tree)
    (sym (get_or_from_slice_get turn.between.seats place held held found))
    ∙ between_all place held (slice_get_within turn.between.seats place held found) in
    let given = seat_after turn.ticket.number (finding_of turn.done) held in
    let given_is_new : is_all_new given.tree ≡ true =
    is_all_new-put turn.ticket.number (leaf_after (finding_of turn.done)) held.tree
    (leaf_is_new (finding_of turn.done))
    held_new in
    let P : List QuestionState → Type 0 = λ xs. All IsNew xs in
    subst P (sym (ap (λ pool. pool.seats) turn.kept.after))
    (All-set IsNew turn.between.seats place given given_is_new between_all)

-- so they are after any number of turns
pub works_new : (old new : PoolView) → WorksTo old new → AreAllNew old → AreAllNew new
works_new old new (no_turn pool) all = all
works_new old new (one_turn_more first between last before turn) all =
    turn_new between last turn (works_new first between before all)

-- ---- pools

-- a pool's season is one of its sheet
pub pool_league : (pool : PoolView) → IsSoundPool pool → IsLeague pool.sheet pool.season
pool_league pool sound =
    let P : Results → Type 0 = λ season. IsSeasonOf pool.sheet season in
    record {
      limits = sound.limits;
      of_sheet = subst P (sym sound.season) (season_after_of pool.sheet pool.log);
    }

-- with scores and deductions that may be
pub pool_results : (pool : PoolView) → IsSoundPool pool → are_results pool.season ≡ true
pool_results pool sound =
    ap are_results sound.season ∙ season_after_results pool.sheet pool.log sound.events

-- the question at a place
pub question_at : (pool : PoolView) (place : ℕ) (seat : QuestionState) (question : Question)
    → IsSoundPool
    pool
    → slice_get pool.seats place ≡ Some seat → slice_get pool.questions place ≡ Some question
    → seat.question ≡ question
question_at pool place seat question sound found asked =
    let inside = slice_get_within pool.seats place seat found in
    sym (ap (λ (s : QuestionState). s.question)
    (get_or_from_slice_get pool.seats place seat seat found))
    ∙ sym (get_or-map (λ (s : QuestionState). s.question) pool.seats place seat question inside)
    ∙ ap (λ (qs : List Question). get_or qs place question) sound.asked
    ∙ get_or_from_slice_get pool.questions place question question asked

-- what is true of all questions is true of that at a place
pub seat_meets : (P : QuestionState → Type 0) (seats : List QuestionState) (place : ℕ)
    (seat : QuestionState) → All P seats
    → slice_get seats place ≡ Some seat → P seat
seat_meets P seats place seat all found =
    subst P (get_or_from_slice_get seats place seat seat found)
    (all place seat (slice_get_within seats place seat found))

-- each question is about one of the clubs
pub club_of_seat : (pool : PoolView) → IsSoundPool pool → (place : ℕ) (d : QuestionState)
    → place < length pool.seats
    → (get_or pool.seats place d).question.club < length pool.sheet.clubs
club_of_seat pool good place d inside =
    let question = (get_or pool.seats place d).question in
    let asked : get_or pool.questions place question ≡ question =
    ap (λ (qs : List Question). get_or qs place question) (sym good.asked)
    ∙ get_or-map (λ (s : QuestionState). s.question) pool.seats place d question inside in
    let few : length pool.questions ≡ length pool.seats =
    ap (λ (qs : List Question). length qs) (sym good.asked)
    ∙ length-map pool.seats (λ (s : QuestionState). s.question) in
    let P : Question → Type 0 = λ q. q.club < length pool.sheet.clubs in
    subst P asked (good.questions place question (omega (arith, few, inside))).club

-- ---- the one question of a pool

-- an example of it
pub only_won : (pool : PoolView) (question : Question) (seat : QuestionState) (example : Example)
    → IsOnlySeat pool question seat → seat.example ≡ Some example
    → IsExample pool.sheet pool.season question example.finish example.lots
only_won pool question seat example only is =
    let P : Option Example → Type 0 =
    λ kept. IfSome kept (IsExampleOf pool.sheet pool.season seat.question) in
    let Q : Question → Type 0 =
    λ q. IsExample pool.sheet pool.season q example.finish example.lots in
    subst Q only.asks (subst P is only.good.example)

-- a tree that refutes it
pub only_refuted : (pool : PoolView) (question : Question) (seat : QuestionState) → IsSoundPool pool
    → IsOnlySeat pool question seat → is_refuted seat.tree ≡ true
    → IsRefutationTree pool.sheet pool.season question seat.tree × IsTrue (is_all_new seat.tree)
only_refuted pool question seat sound only refuted =
    let Q : Question → Type 0 = λ q. IsRefutationTree pool.sheet pool.season q seat.tree in (
      subst Q only.asks (refutes_seat pool.sheet pool.season seat (pool_league pool sound)
          (pool_results pool sound) only.good refuted),
      only.all_new,
    )

-- a tree on which its budget was spent
pub only_spent : (pool : PoolView) (question : Question) (seat : QuestionState) → IsSoundPool pool
    → IsOnlySeat pool question seat → seat.example ≡ None → is_refuted seat.tree ≡ false
    → IsFairSpentTree pool.sheet pool.season question pool.sheet.budget seat.tree
    × IsTrue (is_all_new seat.tree)
only_spent pool question seat sound only none refuted =
    let Q : Question → Type 0 =
    λ q. IsFairSpentTree pool.sheet pool.season q pool.sheet.budget seat.tree in
    let unknown : is_known seat ≡ false =
    or_from (is_some seat.example) (is_refuted seat.tree) (ap is_some none) refuted in (
      subst Q only.asks (spends_seat pool.sheet pool.season seat (pool_league pool sound)
          (pool_results pool sound) only.good unknown only.settled),
      only.all_new,
    )

-- ---- the end of the work

-- what holds after some turns, when there is no work left and nothing is out
pub record IsFinished (old new : PoolView) : Type 0 where
  pub home : out_count new.loans ≡ 0
  pub settled : AreSettled new
  pub enough : IsEnough new.sheet new.season → AreDecided new

-- so it is when the turns come to an end
pub turns_end : (old last new : PoolView) → WorksTo old last → new ≡ last
    → out_count old.loans ≡ 0 → has_work last ≡ false → IsSoundPool new → IsFinished old new
turns_end old last new work same home idle sound =
    let out : out_count new.loans ≡ 0 =
    ap (λ pool. out_count pool.loans) same ∙ works_home old last work ∙ home in
    let none : has_work new ≡ false = ap has_work same ∙ idle in
    let settled : AreSettled new = λ place. no_work_answers new place sound out none in
    record {
      home = out;
      settled = settled;
      enough = λ great place d inside.
          let seat = get_or new.seats place d in
          seat_decided new.sheet new.season seat (pool_league new sound).of_sheet
          (club_of_seat new sound place d inside) great (sound.seats place d inside)
          (settled_at new place seat settled (slice_get-get_or new.seats place d inside));
    }
