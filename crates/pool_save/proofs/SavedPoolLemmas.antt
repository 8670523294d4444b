-- A pool that took up saved trees: each question whose saved tree was nearly done is nearly known,
-- and stays so.
use Rattle.std.proofs.Common.{◌≡◌, ℕ, zero, suc, List, [], ◌∷◌, map, Option, Some, None, refl, sym}
use Rattle.std.proofs.Common.{ap, ◌∙◌, set, subst}
use Rattle.std.specs.List.{slice_get}
use Rattle.std.specs.Option.{option_map}
use Rattle.std.proofs.lemmas.Option.{none-some, same_Some, slice_get-map}
use Rattle.league_core.specs.declared.sheet.Sheet.{Sheet}
use Rattle.league_core.specs.declared.question.Question.{Question}
use Rattle.league_core.specs.game.Results.{Results}
use Rattle.league_core.specs.search.Trees.{Tree}
use Rattle.reason_core.specs.inside.Dones.{finding_of}
use Rattle.branch_pool.specs.declared.question_state.QuestionState.{QuestionState}
use Rattle.branch_pool.specs.inside.States.{PoolView, new_seat}
use Rattle.branch_pool.specs.inside.Steps.{seat_lent, seat_after}
use Rattle.branch_pool.specs.inside.Runs.{WorksNext}
use Rattle.verdict_run.specs.inside.Working.{WorksTo, no_turn, one_turn_more}
use Rattle.verdict_run.proofs.WorkLemmas.{works_same}
use Rattle.branch_pool.specs.inside.Adoptions.{seat_adopted_if, seats_adopted, pool_adopted}
use Rattle.pool_save.specs.inside.TakingUp.{TakesUp}
use Rattle.pool_save.specs.NearlyDone.{IsNearlyDone}
use Rattle.pool_save.specs.inside.Nearly.{IsNearlyKnown, IsNewIfNone}
use Rattle.pool_save.specs.inside.SavedPools.{AreNearlySaved}
use Rattle.pool_save.proofs.NearlyLemmas.{taken_nearly, work_nearly}

-- ---- saved trees that are taken up

new_if_none : (question : Question) (saved : Option Tree)
    → IsNewIfNone (new_seat question) saved
new_if_none question None = refl
new_if_none question (Some tree) = tt

-- the question stays
taken_question : (sheet : Sheet) (season : Results) (question : Question) (saved : Option Tree)
    → (seat_adopted_if sheet season saved (new_seat question)).question ≡ question
taken_question sheet season question None = refl
taken_question sheet season question (Some tree) = refl

-- of new questions those whose saved trees were nearly done are nearly known
seats_nearly : (sheet : Sheet) (season : Results) (asked : List Question)
    (trees : List (Option Tree)) (place : ℕ) (seat : QuestionState) (saved : Option Tree)
    → slice_get (seats_adopted sheet season (map new_seat asked) trees) place ≡ Some seat
    → slice_get trees place ≡ Some saved → IsNearlyDone sheet season seat.question saved
    → IsNearlyKnown sheet season seat
seats_nearly sheet season asked [] place seat saved found own nearly =
    absurd (none-some saved own)
seats_nearly sheet season [] (tree ∷ trees) place seat saved found own nearly =
    absurd (none-some seat found)
seats_nearly sheet season (question ∷ asked) (tree ∷ trees) zero seat saved found own nearly =
    let is : seat_adopted_if sheet season tree (new_seat question) ≡ seat =
    same_Some (seat_adopted_if sheet season tree (new_seat question)) seat found in
    let asks : seat.question ≡ question =
    sym (ap (λ (s : QuestionState). s.question) is)
    ∙ taken_question sheet season question tree in
    let P : Question → Type 0 = λ q. IsNearlyDone sheet season q saved in
    let Q : Option Tree → Type 0 = λ t. IsNearlyDone sheet season question t in
    subst (IsNearlyKnown sheet season) is
    (taken_nearly sheet season (new_seat question) tree (new_if_none question tree)
    (subst Q (sym (same_Some tree saved own)) (subst P asks nearly)))
seats_nearly sheet season (question ∷ asked) (tree ∷ trees) (suc place) seat saved found own
    nearly =
    seats_nearly sheet season asked trees place seat saved found own nearly

pub taken_nearly_saved : (old taken : PoolView) (trees : List (Option Tree))
    → TakesUp old trees taken → old.seats ≡ map new_seat old.questions
    → AreNearlySaved taken trees
taken_nearly_saved old taken trees takes fresh =
    subst (λ (pool : PoolView). AreNearlySaved pool trees) (sym takes) there
  where
    there : AreNearlySaved (pool_adopted old trees) trees
    there place seat saved found own nearly =
        seats_nearly old.sheet old.season old.questions trees place seat saved
        (ap (λ (seats : List QuestionState).
        slice_get (seats_adopted old.sheet old.season seats trees) place) (sym fresh) ∙ found)
        own nearly

-- ---- work

-- the question of a place
abbrev asks : QuestionState → Question
asks seat = seat.question

-- what is written at a place asks what was asked there
written_asks : (seats : List QuestionState) (place : ℕ) (was now : QuestionState)
    → slice_get seats place ≡ Some was → now.question ≡ was.question
    → map asks (set seats place now) ≡ map asks seats
written_asks [] place was now found same = refl
written_asks (first ∷ seats) zero was now found same =
    ap (λ (q : Question). q ∷ map asks seats)
    (same ∙ ap asks (sym (same_Some first was found)))
written_asks (first ∷ seats) (suc place) was now found same =
    ap (λ (qs : List Question). first.question ∷ qs)
    (written_asks seats place was now found same)

-- a turn changes no question
turn_asks : (old new : PoolView) → WorksNext old new → map asks new.seats ≡ map asks old.seats
turn_asks old new turn =
    let there = turn.ticket.place in
    let was = turn.taken.takes.seat in
    ap (λ (pool : PoolView). map asks pool.seats) turn.kept.after
    ∙ written_asks turn.between.seats there turn.kept.seat
    (seat_after turn.ticket.number (finding_of turn.done) turn.kept.seat) turn.kept.found refl
    ∙ ap (λ (pool : PoolView). map asks pool.seats) turn.taken.takes.after
    ∙ written_asks old.seats there was (seat_lent turn.taken.takes.tree was)
    turn.taken.takes.found refl

works_asks : (old new : PoolView) → WorksTo old new → map asks new.seats ≡ map asks old.seats
works_asks old new (no_turn pool) = refl
works_asks old new (one_turn_more first between last before turn) =
    turn_asks between last turn ∙ works_asks first between before

-- where the same is asked place by place, both states of a place have one question
same_asks : (before after : List QuestionState) (place : ℕ) (was now : QuestionState)
    → map asks after ≡ map asks before → slice_get before place ≡ Some was
    → slice_get after place ≡ Some now → now.question ≡ was.question
same_asks before after place was now same found there =
    same_Some now.question was.question
    (sym (slice_get-map asks after place ∙ ap (option_map asks) there)
    ∙ ap (λ (qs : List Question). slice_get qs place) same
    ∙ slice_get-map asks before place ∙ ap (option_map asks) found)

pub works_nearly_saved : (old new : PoolView) (trees : List (Option Tree)) → WorksTo old new
    → AreNearlySaved old trees → AreNearlySaved new trees
works_nearly_saved old new trees work nearly place seat saved found own done =
    work_nearly old new place work before seat found
  where
    before : (was : QuestionState) → slice_get old.seats place ≡ Some was
        → IsNearlyKnown old.sheet old.season was
    before was at =
        let same = works_same old new work in
        let P : Sheet → Type 0 = λ s. IsNearlyDone s new.season seat.question saved in
        let Q : Results → Type 0 = λ r. IsNearlyDone old.sheet r seat.question saved in
        let R : Question → Type 0 = λ q. IsNearlyDone old.sheet old.season q saved in
        nearly place was saved at own
        (subst R (same_asks old.seats new.seats place was seat (works_asks old new work) at found)
        (subst Q same.season (subst P same.sheet done)))
