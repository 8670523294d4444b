-- A question that is nearly known stays so while its pool is worked on, and is known when the work
-- is done: where a reason holds no fair split can be found.
use Rattle.std.proofs.Common.{◌≡◌, ℕ, zero, suc, Bool, ◌+◌, ◌≤◌, true, false, ◌||◌, ◌==◌}
use Rattle.std.proofs.Common.{List, [], ◌∷◌}
use Rattle.std.proofs.Common.{length, Option, Some, None, refl, sym, ap, ◌∙◌, set, subst, arith}
use Rattle.std.proofs.Common.{inl, inr}
use Rattle.std.specs.Prelude.{is_some, if◌then◌else◌}
use Rattle.std.specs.Option.{option_map}
use Rattle.std.specs.List.{slice_get, All}
use Rattle.std.proofs.lemmas.Bool.{false≢true, cases_Bool, eqb-true, eqb-false}
use Rattle.std.proofs.lemmas.Bool.{or_left, or_right, or_cases}
use Rattle.std.proofs.lemmas.Option.{same_Some, none-some}
use Rattle.std.proofs.lemmas.List.Elements.{All-nil, All-cons, All-head}
use Rattle.league_core.specs.declared.sheet.Sheet.{Sheet}
use Rattle.league_core.specs.declared.question.Question.{Question}
use Rattle.league_core.specs.declared.zone.Literal.{Literal}
use Rattle.league_core.specs.declared.zone.Reason.{Reason}
use Rattle.league_core.specs.declared.tree.TreeNode.TheVariants.{Open}
use Rattle.league_core.specs.game.Results.{Results}
use Rattle.league_core.specs.search.Reasons.{has_reason}
use Rattle.league_core.specs.search.Splits.{IsFairSplit}
use Rattle.league_core.specs.search.Trees.{Tree, open_leaf, refuted_leaf, NodesMeet, is_refuted}
use Rattle.league_core.specs.inside.Lending.{times_lent, lent_count, lent_zones, put}
use Rattle.league_core.proofs.LendingLemmas.{length-lent_zones, settled_is_refuted}
use Rattle.league_core.proofs.NodeFactLemmas.{NodesMeet-put, NodesMeet-lend}
use Rattle.reason_core.specs.declared.piece.Piece.{Piece}
use Rattle.reason_core.specs.declared.done.Done.{Done}
use Rattle.reason_core.specs.declared.done.Done.TheVariants.{Refuted, Split, Won, Undone}
use Rattle.reason_core.specs.inside.Dones.{IsFor, IsTrueDone, finding_of}
use Rattle.tree_arena.specs.declared.example.Example.{Example}
use Rattle.branch_pool.specs.declared.question_state.QuestionState.{QuestionState}
use Rattle.branch_pool.specs.inside.States.{PoolView}
use Rattle.branch_pool.specs.inside.Steps.{seat_lent, seat_after, example_after}
use Rattle.branch_pool.specs.inside.Runs.{WorksNext, IsWorked}
use Rattle.league_core.proofs.plain.Slots.{slice_get-set_same, slice_get-set_other}
use Rattle.verdict_run.specs.inside.Working.{WorksTo, no_turn, one_turn_more, is_settled, is_known}
use Rattle.verdict_run.proofs.WorkLemmas.{turn_same}
use Rattle.tree_reuse.proofs.RetargetLemmas.{open_leaf_stays}
use Rattle.branch_pool.specs.declared.ticket.Answer.TheVariants as answer
use Rattle.branch_pool.specs.inside.States.{out_count}
use Rattle.branch_pool.specs.inside.Calls.{answer_of, answer_without, pool_answer}
use Rattle.branch_pool.specs.inside.Goodness.{IsSoundPool}
use Rattle.branch_pool.proofs.GoodLemmas.{none_lent_at}
use Rattle.verdict_run.specs.inside.Working.{AreSettled, FinishesWork}
use Rattle.verdict_run.proofs.SettledLemmas.{settled_at}
use Rattle.branch_pool.specs.inside.Adoptions.{seat_adopted_if, seats_adopted, pool_adopted}
use Rattle.pool_save.specs.inside.TakingUp.{TakesUp}
use Rattle.pool_save.specs.NearlyDone.{HasReasonIfOpen, IsNearlyRefuted}
use Rattle.tree_arena.specs.OpenCounts.{open_count}
use Rattle.pool_save.specs.inside.Nearly.{IsNearlyKnown, IsNearlyAt, IsNewIfNone}
use Rattle.pool_save.specs.NearlyDone.{IsNearlyDone}
use Rattle.pool_save.proofs.OpenLemmas.{open_count-put, open_count-none, NodesMeet-opened}

-- ---- one question

-- an example that is kept stays
example_stays : (kept : Option Example) (done : Done) → is_some kept ≡ true
    → is_some (example_after kept (finding_of done)) ≡ true
example_stays (Some example) done some = refl
example_stays None done some = absurd (false≢true some)

-- one that is found is kept, where there was none
example_found : (kept : Option Example) (done : Done) (piece : Piece) (finish : Results)
    (lots : List ℕ) → done ≡ Won piece finish lots
    → is_some (example_after kept (finding_of done)) ≡ true
example_found (Some example) done piece finish lots is = refl
example_found None done piece finish lots is = rw is refl

-- a question whose leaf was refuted
refuted_nearly : (sheet : Sheet) (season : Results) (seat : QuestionState) (tree : Tree)
    (number : ℕ) (zone : List Literal) (reason : Reason)
    → IsNearlyRefuted sheet season seat.question seat.units seat.tree
    → put number open_leaf tree ≡ seat.tree → lent_zones number [] tree ≡ zone ∷ []
    → IsNearlyRefuted sheet season seat.question (seat.units + 1)
    (put number (refuted_leaf reason true) tree)
refuted_nearly sheet season seat tree number zone reason nearly leaf lent =
    let Fact = HasReasonIfOpen sheet season seat.question in
    let once : times_lent number tree ≡ 1 = sym (length-lent_zones number tree [])
    ∙ ap length lent in
    let before = rw once at (open_count-put number open_leaf tree) in
    let after = rw once at (open_count-put number (refuted_leaf reason true) tree) in
    let was : seat.units + open_count (put number open_leaf tree) ≤ sheet.budget =
    rw leaf nearly.few in
    record {
      reasons = NodesMeet-put Fact number (refuted_leaf reason true) tree []
          (NodesMeet-lend Fact number tree [] (λ z out fact. tt) (rw leaf nearly.reasons))
          (rw lent (All-cons (λ z. NodesMeet Fact z (refuted_leaf reason true)) zone [] tt
          (All-nil (λ z. NodesMeet Fact z (refuted_leaf reason true)))));
      few = omega (arith, before, after, was);
    }

-- no leaf of it can be split fairly
split_never : (sheet : Sheet) (season : Results) (seat : QuestionState) (tree : Tree) (number : ℕ)
    (zone : List Literal) → IsNearlyRefuted sheet season seat.question seat.units seat.tree
    → put number open_leaf tree ≡ seat.tree → lent_zones number [] tree ≡ zone ∷ []
    → ((reason : Reason) → has_reason sheet season seat.question zone reason ≡ false) → ⊥
split_never sheet season seat tree number zone nearly leaf lent none =
    let Fact = HasReasonIfOpen sheet season seat.question in
    let open_there = NodesMeet-opened Fact number tree [] (rw leaf nearly.reasons) in
    let found : (reason : Reason) × (has_reason sheet season seat.question zone reason ≡ true) =
    All-head (λ z. Fact z Open) zone [] (subst (All (λ z. Fact z Open)) lent open_there) in
    false≢true (sym (none found.0) ∙ found.1)

-- what came of a turn at it
given_nearly : (sheet : Sheet) (season : Results) (seat : QuestionState) (tree : Tree) (number : ℕ)
    (piece : Piece) (done : Done) → IsNearlyKnown sheet season seat
    → put number open_leaf tree ≡ seat.tree
    → lent_zones number [] tree ≡ piece.zone.literals ∷ []
    → piece.season ≡ season → piece.question ≡ seat.question
    → IsFor done piece → IsTrueDone sheet done → IsWorked done
    → IsNearlyKnown sheet season (seat_after number (finding_of done) (seat_lent tree seat))
given_nearly sheet season seat tree number piece done
    (inl known) leaf lent in_season asks is_for sound worked =
    inl (example_stays seat.example done known)
given_nearly sheet season seat tree number piece (Refuted own reason)
    (inr nearly) leaf lent in_season asks is_for sound worked =
    inr (refuted_nearly sheet season seat tree number piece.zone.literals reason nearly leaf lent)
given_nearly sheet season seat tree number piece (Split own literal)
    (inr nearly) leaf lent in_season asks is_for sound worked =
    let P : Piece → Type 0 = λ p.
    IsFairSplit sheet p.season p.question p.zone.literals literal.test in
    let Q : Results → Type 0 = λ r.
    IsFairSplit sheet r piece.question piece.zone.literals literal.test in
    let R : Question → Type 0 = λ q.
    IsFairSplit sheet season q piece.zone.literals literal.test in
    let fair = subst R asks (subst Q in_season (subst P is_for sound)) in
    absurd (split_never sheet season seat tree number piece.zone.literals nearly leaf lent
    fair.no_reason)
given_nearly sheet season seat tree number piece (Won own finish lots)
    (inr nearly) leaf lent in_season asks is_for sound worked =
    inl (example_found seat.example (Won own finish lots) own finish lots refl)
given_nearly sheet season seat tree number piece Undone
    (inr nearly) leaf lent in_season asks is_for sound worked = absurd worked

-- ---- a turn

pub turn_nearly : (old new : PoolView) (place : ℕ) → WorksNext old new → IsNearlyAt old place
    → IsNearlyAt new place
turn_nearly old new place turn nearly seat found =
    let same = turn_same old new turn in
    let P : Sheet → Type 0 = λ s. IsNearlyKnown s new.season seat in
    let Q : Results → Type 0 = λ r. IsNearlyKnown old.sheet r seat in
    subst P (sym same.sheet) (subst Q (sym same.season) by_place)
  where
    there : ℕ
    there = turn.ticket.place

    was : QuestionState
    was = turn.taken.takes.seat

    lent : QuestionState
    lent = seat_lent turn.taken.takes.tree was

    between : turn.between.seats ≡ set old.seats there lent
    between = ap (λ (p : PoolView). p.seats) turn.taken.takes.after

    held : turn.kept.seat ≡ lent
    held = sym (same_Some lent turn.kept.seat
        (sym (slice_get-set_same old.seats there was lent turn.taken.takes.found)
        ∙ ap (λ xs. slice_get xs there) (sym between) ∙ turn.kept.found))

    given : QuestionState
    given = seat_after turn.ticket.number (finding_of turn.done) lent

    after : new.seats ≡ set (set old.seats there lent) there given
    after = ap (λ (p : PoolView). p.seats) turn.kept.after
        ∙ ap (λ xs. set xs there
        (seat_after turn.ticket.number (finding_of turn.done) turn.kept.seat)) between
        ∙ ap (λ s. set (set old.seats there lent) there
        (seat_after turn.ticket.number (finding_of turn.done) s)) held

    seen : slice_get (set (set old.seats there lent) there given) place ≡ Some seat
    seen = ap (λ xs. slice_get xs place) (sym after) ∙ found

    same_sheet : turn.between.sheet ≡ old.sheet
    same_sheet = ap (λ (p : PoolView). p.sheet) turn.taken.takes.after

    by_place : IsNearlyKnown old.sheet old.season seat
    by_place = elim (cases_Bool (place == there)) as
        (λ _. IsNearlyKnown old.sheet old.season seat) [
          | inl here ↦
              let same_place = eqb-true place there here in
              let is : given ≡ seat = same_Some given seat
              (sym (slice_get-set_same (set old.seats there lent) there lent given
              (slice_get-set_same old.seats there was lent turn.taken.takes.found))
              ∙ ap (slice_get (set (set old.seats there lent) there given)) (sym same_place)
              ∙ seen) in
              let before : IsNearlyKnown old.sheet old.season was = nearly was
              (ap (slice_get old.seats) same_place ∙ turn.taken.takes.found) in
              let S : Sheet → Type 0 = λ s. IsTrueDone s turn.done in
              subst (IsNearlyKnown old.sheet old.season) is
              (given_nearly old.sheet old.season was turn.taken.takes.tree turn.ticket.number
              turn.ticket.piece turn.done before turn.taken.takes.leaf turn.taken.takes.zone
              turn.taken.takes.season turn.taken.takes.question turn.given.is_for
              (subst S same_sheet turn.given.sound) turn.worked)
          | inr elsewhere ↦
              let other = eqb-false place there elsewhere in
              nearly seat
              (sym (slice_get-set_other old.seats there place lent other)
              ∙ sym (slice_get-set_other (set old.seats there lent) there place given other)
              ∙ seen)
        ]

pub work_nearly : (old new : PoolView) (place : ℕ) → WorksTo old new → IsNearlyAt old place
    → IsNearlyAt new place
work_nearly old new place (no_turn pool) nearly = nearly
work_nearly old new place (one_turn_more first middle last before turn) nearly =
    turn_nearly middle last place turn (work_nearly first middle place before nearly)

-- ---- the end

-- with no unit left no leaf is open, and so each is refuted
pub nearly_known : (sheet : Sheet) (season : Results) (seat : QuestionState)
    → IsNearlyKnown sheet season seat → lent_count seat.tree ≡ 0
    → is_settled sheet seat ≡ true → is_known seat ≡ true
nearly_known sheet season seat (inl known) none settled =
    or_left (is_some seat.example) (is_refuted seat.tree) known
nearly_known sheet season seat (inr nearly) none settled =
    elim (or_cases (is_some seat.example || is_refuted seat.tree) (seat.units == sheet.budget)
    settled) as (λ _. is_known seat ≡ true) [
      | inl known ↦ known
      | inr used ↦
          let all = eqb-true seat.units sheet.budget used in
          let few = nearly.few in
          or_right (is_some seat.example) (is_refuted seat.tree)
          (settled_is_refuted seat.tree
          (open_count-none seat.tree (omega (arith, all, few))) none)
    ]

-- a question that is known is not spent
pub known_is_unspent : (won refuted spent : Bool) → (won || refuted) ≡ true
    → (if won then answer.Won else answer_without refuted spent) ≡ answer.Spent → ⊥
known_is_unspent true refuted spent known same = cc
known_is_unspent false true spent known same = cc
known_is_unspent false false spent known same = absurd (false≢true known)

-- so the pool does not answer that it is
nearly_unspent : (pool : PoolView) (place : ℕ) → IsNearlyAt pool place → IsSoundPool pool
    → out_count pool.loans ≡ 0 → AreSettled pool → pool_answer pool place ≡ Some answer.Spent → ⊥
nearly_unspent pool place nearly sound home settled spent =
    by (slice_get pool.seats place) refl spent
  where
    by : (found : Option QuestionState) → slice_get pool.seats place ≡ found
        → option_map (answer_of pool.sheet) found ≡ Some answer.Spent → ⊥
    by None at same = absurd (none-some answer.Spent same)
    by (Some seat) at same =
        known_is_unspent (is_some seat.example) (is_refuted seat.tree)
        (seat.units == pool.sheet.budget)
        (nearly_known pool.sheet pool.season seat (nearly seat at)
        (none_lent_at pool place seat sound home at) (settled_at pool place seat settled at))
        (same_Some (answer_of pool.sheet seat) answer.Spent same)

-- ---- saved trees

-- what is taken up at a place
taken_at : (sheet : Sheet) (season : Results) (seats : List QuestionState)
    (trees : List (Option Tree)) (place : ℕ) (seat : QuestionState) (saved : Option Tree)
    → slice_get seats place ≡ Some seat → slice_get trees place ≡ Some saved
    → slice_get (seats_adopted sheet season seats trees) place
    ≡ Some (seat_adopted_if sheet season saved seat)
taken_at sheet season [] trees place seat saved found own = absurd (none-some seat found)
taken_at sheet season (first ∷ seats) [] place seat saved found own =
    absurd (none-some saved own)
taken_at sheet season (first ∷ seats) (tree ∷ trees) zero seat saved found own =
    ap (λ s. Some (seat_adopted_if sheet season tree s)) (same_Some first seat found)
    ∙ ap (λ t. Some (seat_adopted_if sheet season t seat)) (same_Some tree saved own)
taken_at sheet season (first ∷ seats) (tree ∷ trees) (suc place) seat saved found own =
    taken_at sheet season seats trees place seat saved found own

-- a question that goes on from a saved tree that was nearly done is nearly refuted
pub taken_nearly : (sheet : Sheet) (season : Results) (seat : QuestionState) (saved : Option Tree)
    → IsNewIfNone seat saved → IsNearlyDone sheet season seat.question saved
    → IsNearlyKnown sheet season (seat_adopted_if sheet season saved seat)
taken_nearly sheet season seat (Some tree) fresh nearly = inr nearly
taken_nearly sheet season seat None fresh nearly =
    subst (IsNearlyKnown sheet season) (sym fresh)
    (inr (subst (IsNearlyRefuted sheet season seat.question 0)
    (open_leaf_stays sheet season seat.question open_leaf refl) nearly))

pub saved_unspent : (old taken new : PoolView) (trees : List (Option Tree)) (place : ℕ)
    (seat : QuestionState) (saved : Option Tree)
    → TakesUp old trees taken → FinishesWork taken new → IsSoundPool new
    → slice_get old.seats place ≡ Some seat → slice_get trees place ≡ Some saved
    → IsNewIfNone seat saved → IsNearlyDone old.sheet old.season seat.question saved
    → pool_answer new place ≡ Some answer.Spent → ⊥
saved_unspent old taken new trees place seat saved takes finishes sound found own fresh nearly =
    nearly_unspent new place
    (work_nearly taken new place finishes.work
    (subst (λ pool. IsNearlyAt pool place) (sym takes) there))
    sound finishes.home finishes.settled
  where
    there : IsNearlyAt (pool_adopted old trees) place
    there other at =
        subst (IsNearlyKnown old.sheet old.season)
        (same_Some (seat_adopted_if old.sheet old.season saved seat) other
        (sym (taken_at old.sheet old.season old.seats trees place seat saved found own) ∙ at))
        (taken_nearly old.sheet old.season seat saved fresh nearly)
