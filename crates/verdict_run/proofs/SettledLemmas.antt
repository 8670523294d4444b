-- If no number is out and there is no work left, the work on each question is done: what that means
-- for its tree and its units.
use Rattle.std.proofs.Common.{◌≡◌, ◌≢◌, ℕ, Bool, true, false}
use Rattle.std.proofs.Common.{◌||◌, ◌==◌, List, [], ◌∷◌, length, Option, Some, refl}
use Rattle.std.proofs.Common.{sym}
use Rattle.std.proofs.Common.{ap, ◌∙◌, subst, arith, if◌then◌else◌, inl, inr, map}
use Rattle.std.proofs.Common.{◌++◌}
use Rattle.std.specs.Option.{option_map}
use Rattle.std.specs.Prelude.{is_some, All}
use Rattle.std.specs.List.{slice_get}
use Rattle.std.proofs.lemmas.Bool.{true≢false, false≢true, and_from, or_parts}
use Rattle.std.proofs.lemmas.Bool.{cases_Bool}
use Rattle.std.proofs.lemmas.Bool.{eq-eqb, eqb-true}
use Rattle.std.proofs.lemmas.List.Elements.{All-head, All-tail}
use Rattle.league_core.specs.declared.sheet.Sheet.{Sheet}
use Rattle.league_core.specs.declared.question.Question.{Question}
use Rattle.league_core.specs.game.Results.{Results}
use Rattle.league_core.specs.search.Trees.{has_open, is_refuted, is_spent, new_count}
use Rattle.league_core.specs.inside.Lending.{lent_count}
use Rattle.league_core.proofs.LendingLemmas.{settled_is_refuted}
use Rattle.tree_arena.specs.declared.example.Example.{Example}
use Rattle.branch_pool.specs.declared.question_state.QuestionState.{QuestionState}
use Rattle.branch_pool.specs.declared.ticket.Answer.TheVariants.{Won, NotYet}
use Rattle.branch_pool.specs.inside.Calls.{answer_without, answer_of}
use Rattle.branch_pool.specs.inside.States.{PoolView}
use Rattle.branch_pool.specs.inside.Goodness.{IsSoundPool, IsGoodSeat}
use Rattle.answer_rows.specs.NewTrees.{is_all_new}
use Rattle.verdict_run.specs.inside.Working.{is_settled, AreSettled, is_known, AreAllNew}

-- by what is not settled
not_yet_by : (won refuted used : Bool) → (won || refuted || used) ≡ false
    → (if won then Won else answer_without refuted used) ≡ NotYet
not_yet_by true refuted used open_yet = absurd (true≢false open_yet)
not_yet_by false true used open_yet = absurd (true≢false open_yet)
not_yet_by false false true open_yet = absurd (true≢false open_yet)
not_yet_by false false false open_yet = refl

-- if no question is answered by `NotYet`, the work on each is done
pub settled_at : (pool : PoolView) (place : ℕ) (seat : QuestionState) → AreSettled pool
    → slice_get pool.seats place ≡ Some seat → is_settled pool.sheet seat ≡ true
settled_at pool place seat settled found =
    elim (cases_Bool (is_settled pool.sheet seat)) as (λ _. is_settled pool.sheet seat ≡ true) [
      | inl known ↦ known
      | inr unknown ↦ absurd (settled place (ap (option_map (answer_of pool.sheet)) found
          ∙ ap Some (not_yet_by (is_some seat.example) (is_refuted seat.tree)
          (seat.units == pool.sheet.budget) unknown)))
    ]

-- ---- a question whose budget is used up

-- what is neither won nor refuted is spent
spent_by : (example : Option Example) (refuted : Bool) (units budget : ℕ)
    → (is_some example || refuted) ≡ false
    → (is_some example || refuted || (units == budget)) ≡ true → units ≡ budget
spent_by example refuted units budget unknown settled =
    let P : Bool → Type 0 = λ b. (b || (units == budget)) ≡ true in
    eqb-true units budget (subst P unknown settled)

-- such a tree has as many new nodes as the budget, and an open leaf
pub seat_spent : (sheet : Sheet) (season : Results) (seat : QuestionState)
    → IsGoodSeat sheet season seat
    → is_known seat ≡ false → is_settled sheet seat ≡ true
    → is_spent sheet.budget seat.tree ≡ true
seat_spent sheet season seat good unknown settled =
    let used = spent_by seat.example (is_refuted seat.tree) seat.units sheet.budget unknown settled
    in
    let within = good.within in
    let lent : lent_count seat.tree ≡ 0 = omega (arith, used, within, good.lent) in
    let count : new_count seat.tree ≡ sheet.budget = sym good.units ∙ used in
    let shut : is_refuted seat.tree ≡ false = (or_parts _ _ unknown).1 in
    and_from (new_count seat.tree == sheet.budget) (has_open seat.tree)
    (eq-eqb (new_count seat.tree) sheet.budget count)
    (some_open (has_open seat.tree) (λ none.
    false≢true (sym shut ∙ settled_is_refuted seat.tree none lent)))
  where
    some_open : (ready : Bool) → ready ≢ false → ready ≡ true
    some_open true not_shut = refl
    some_open false not_shut = absurd (not_shut refl)

-- ---- facts of nodes

-- ---- the one question of a pool

-- what holds of the one question of a pool on which the work is done
pub record IsOnlySeat (pool : PoolView) (question : Question) (seat : QuestionState) : Type 0 where
  pub good : IsGoodSeat pool.sheet pool.season seat
  pub asks : seat.question ≡ question
  pub settled : is_settled pool.sheet seat ≡ true
  pub all_new : is_all_new seat.tree ≡ true

-- the last seat of a pool with one question asks this question
only_asks : (question : Question) (rest : List QuestionState) (seat : QuestionState)
    → map (λ (s : QuestionState). s.question) (rest ++ seat ∷ []) ≡ question ∷ []
    → seat.question ≡ question
only_asks question [] seat is = cc
only_asks question (first ∷ []) seat is = absurd (cc)
only_asks question (first ∷ second ∷ rest) seat is = absurd (cc)

-- what is true of all is true of the last
all_last : (P : QuestionState → Type 0) (rest : List QuestionState) (seat : QuestionState)
    → All P (rest ++ seat ∷ [])
    → P seat
all_last P [] seat all = All-head P seat [] all
all_last P (first ∷ rest) seat all = all_last P rest seat (All-tail P first (rest ++ seat ∷ []) all)

-- the last comes after the others
last_at : (rest : List QuestionState) (seat : QuestionState)
    → slice_get (rest ++ seat ∷ []) (length rest) ≡ Some seat
last_at [] seat = refl
last_at (first ∷ rest) seat = last_at rest seat

pub only_seat : (pool : PoolView) (question : Question) (rest : List QuestionState)
    (seat : QuestionState)
    → IsSoundPool pool → pool.questions ≡ question ∷ [] → AreSettled pool → AreAllNew pool
    → pool.seats ≡ rest ++ seat ∷ [] → IsOnlySeat pool question seat
only_seat pool question rest seat sound asked settled all_new are =
    let New : QuestionState → Type 0 = λ s. is_all_new s.tree ≡ true in
    let last : (P : QuestionState → Type 0) → All P pool.seats → P seat =
    λ P all. let Q : List QuestionState → Type 0 = λ seats. All P seats in
    all_last P rest seat (subst Q are all) in
    record {
      good = last (IsGoodSeat pool.sheet pool.season) sound.seats;
      asks = only_asks question rest seat
          (ap (map (λ (s : QuestionState). s.question)) (sym are) ∙ sound.asked ∙ asked);
      settled = settled_at pool (length rest) seat settled
          (ap (λ seats. slice_get seats (length rest)) are ∙ last_at rest seat);
      all_new = last New all_new;
    }
