-- A pool on which the work is finished, as a saved text: each of its trees may be saved and is
-- worth it, and its items go out one after the other.
use Rattle.std.proofs.Common.{◌≡◌, inl, inr, ℕ, suc, ◌+◌, ◌<◌, Bool, true, false, not, ◌&&◌}
use Rattle.std.proofs.Common.{List, [], ◌∷◌, ◌++◌, length, map, drop, get_or, Option, Some, None}
use Rattle.std.proofs.Common.{Result, Ok, Err, refl, sym, ap, ◌∙◌, subst, arith, add-one}
use Rattle.std.specs.Prelude.{All, IfSome, IsTrue}
use Rattle.std.specs.List.{slice_get}
use Rattle.std.proofs.lemmas.Bool.{and_parts}
use Rattle.std.proofs.lemmas.List.Elements.{All-head, All-tail}
use Rattle.std.proofs.lemmas.Option.{get_or_from_slice_get, slice_get_within, slice_get-get_or}
use Rattle.std.proofs.Math.Seq.{drop-cons}
use Rattle.league_core.specs.declared.sheet.Sheet.{Sheet}
use Rattle.league_core.specs.declared.question.Question.{Question}
use Rattle.league_core.specs.declared.zone.Literal.{Literal}
use Rattle.league_core.specs.game.Results.{Results}
use Rattle.league_core.specs.search.Zones.{with_test, is_test_of, is_of_rival}
use Rattle.league_core.specs.search.Trees.{Tree, open_leaf, lent_leaf, refuted_leaf, branch}
use Rattle.league_core.specs.search.Trees.{NodesMeet, is_refuted}
use Rattle.league_core.specs.search.Splits.{IsReasonTrue, AreReasonsTrue}
use Rattle.league_core.specs.inside.Lending.{lent_count}
use Rattle.league_core.proofs.TreeLemmas.{NodesMeet-weaker}
use Rattle.tree_reuse.specs.Asked.{IsAskedNode}
use Rattle.tree_reuse.proofs.RetargetLemmas.{proper_asked}
use Rattle.cert_text.specs.Ranges.{is_in_range, is_test_in_range}
use Rattle.cert_text.specs.TreeLines.{are_tests_for, marked_lines}
use Rattle.cert_text.proofs.ProperLemmas.{proper_tests}
use Rattle.cert_text.proofs.TreeRangeLemmas.{marked_lines_in_range}
use Rattle.line_tokens.proofs.FitLemmas.{FitsAsLine, lines_fit}
use Rattle.tree_arena.specs.declared.example.Example.{Example}
use Rattle.branch_pool.specs.declared.question_state.QuestionState.{QuestionState}
use Rattle.branch_pool.specs.inside.States.{PoolView, out_count}
use Rattle.tree_arena.specs.inside.GoodNodes.{IsGoodNode}
use Rattle.branch_pool.specs.inside.Goodness.{IsSoundPool, IsGoodSeat, IsExampleOf}
use Rattle.branch_pool.proofs.GoodLemmas.{none_lent_at, seat_proper, seat_question}
use Rattle.answer_rows.specs.declared.output.OutputStop.{OutputStop}
use Rattle.answer_rows.specs.declared.output.OutputStop.TheVariants.{WriteFault, OutOfMemory}
use Rattle.answer_rows.specs.NewTrees.{is_all_new}
use Rattle.answer_rows.specs.Parts.{IsMadeOf}
use Rattle.answer_rows.specs.inside.Outputs.{Puts, PutsSomeText}
use Rattle.answer_rows.specs.AskedQuestions.{questions_of}
use Rattle.verdict_run.specs.inside.Parts.{IsDoneSeat}
use Rattle.verdict_run.specs.inside.Working.{AreAllNew, AreSettled}
use Rattle.verdict_run.proofs.PartLemmas.{done_at, done_refuted, done_spent}
use Rattle.verdict_run.proofs.ShownLemmas.{pool_league, pool_results, seat_meets}
use Rattle.answer_rows.proofs.PartLemmas.{all_lines}
use Rattle.pool_save.specs.SavedTexts.{IsSavedNode, IsSavedTree}
use Rattle.pool_save.specs.SavedItems.{IsItemSaved, IsSavedOf, IsWorthSaving}
use Rattle.pool_save.specs.inside.WrittenPools.{item_of_seat, items_of_seats, saved_text_of}

-- ---- a question of a pool

-- what is kept of it is good
seat_good : (pool : PoolView) (place : ℕ) (seat : QuestionState) → IsSoundPool pool
    → slice_get pool.seats place ≡ Some seat → IsGoodSeat pool.sheet pool.season seat
seat_good pool place seat sound found =
    seat_meets (IsGoodSeat pool.sheet pool.season) pool.seats place seat sound.seats found

-- its tests are such as lines have
seat_tests : (pool : PoolView) (place : ℕ) (seat : QuestionState) → IsSoundPool pool
    → slice_get pool.seats place ≡ Some seat
    → are_tests_for pool.sheet seat.question seat.tree ≡ true
seat_tests pool place seat sound found =
    proper_tests pool.sheet pool.season seat.question seat.tree [] (pool_league pool sound)
    (pool_results pool sound)
    (seat_proper pool.sheet pool.season seat (seat_good pool place seat sound found))

-- its reasons hold
seat_reasons : (pool : PoolView) (place : ℕ) (seat : QuestionState) → IsSoundPool pool
    → slice_get pool.seats place ≡ Some seat
    → AreReasonsTrue pool.sheet pool.season seat.question [] seat.tree
seat_reasons pool place seat sound found =
    NodesMeet-weaker (IsGoodNode pool.sheet pool.season seat.question)
    (IsReasonTrue pool.sheet pool.season seat.question) (λ zone node fact. fact.refuted) seat.tree
    [] (seat_good pool place seat sound found).nodes

-- it is about a club of the sheet
pub seat_in_range : (pool : PoolView) (place : ℕ) (seat : QuestionState) (sheet : Sheet)
    → IsSoundPool pool → slice_get pool.seats place ≡ Some seat → sheet ≡ pool.sheet
    → seat.question.club < length sheet.clubs
seat_in_range pool place seat sheet sound found same =
    let P : Sheet → Type 0 = λ s. seat.question.club < length s.clubs in
    subst P (sym same) (seat_question pool place seat sound found).club

-- the lines of its tree have a form
pub seat_lines : (pool : PoolView) (place : ℕ) (seat : QuestionState) → IsSoundPool pool
    → slice_get pool.seats place ≡ Some seat
    → All (λ line. IsTrue (is_in_range line)) (marked_lines seat.tree)
seat_lines pool place seat sound found =
    all_lines (marked_lines seat.tree)
    (marked_lines_in_range pool.sheet pool.season seat.question seat.tree
    (seat_tests pool place seat sound found) (seat_reasons pool place seat sound found))

-- ---- a tree that may be saved

-- a tree of tests that may be asked, whose lines say what may be said of the question, and of which
-- no leaf is lent
saved_below : (sheet : Sheet) (question : Question) (tree : Tree) (zone : List Literal)
    → lent_count tree ≡ 0 → NodesMeet (IsAskedNode sheet question) zone tree
    → NodesMeet (FitsAsLine sheet question) zone tree
    → NodesMeet (IsSavedNode sheet question) zone tree
saved_below sheet question open_leaf zone none asked fits = (asked, refl)
saved_below sheet question (lent_leaf number) zone none asked fits = absurd (omega (arith, none))
saved_below sheet question (refuted_leaf reason fresh) zone none asked fits = (asked, fits)
saved_below sheet question (branch test fresh yes_half no_half) zone none asked fits =
    let front = (and_parts (is_test_in_range test && is_test_of sheet test)
    (not (is_of_rival question.club test)) fits.0).0 in (
      (asked.0, (and_parts (is_test_in_range test) (is_test_of sheet test) front).0),
      saved_below sheet question yes_half (with_test zone test true) (omega (arith, none)) asked.1
          fits.1,
      saved_below sheet question no_half (with_test zone test false) (omega (arith, none)) asked.2
          fits.2,
    )

seat_saved : (pool : PoolView) (place : ℕ) (seat : QuestionState) → IsSoundPool pool
    → out_count pool.loans ≡ 0 → slice_get pool.seats place ≡ Some seat
    → IsSavedTree pool.sheet seat.question seat.tree
seat_saved pool place seat sound home found =
    saved_below pool.sheet seat.question seat.tree [] (none_lent_at pool place seat sound home
    found)
    (proper_asked pool.sheet pool.season seat.question [] seat.tree
    (seat_proper pool.sheet pool.season seat (seat_good pool place seat sound found)))
    (lines_fit pool.sheet pool.season seat.question seat.tree [] refl
    (seat_tests pool place seat sound found) (seat_reasons pool place seat sound found))

-- ---- a tree that is worth it

worth_by : (sheet : Sheet) (season : Results) (seat : QuestionState)
    → IsDoneSeat sheet season seat → is_all_new seat.tree ≡ true → (example : Option Example)
    → seat.example ≡ example → (refuted : Bool) → is_refuted seat.tree ≡ refuted
    → IsWorthSaving sheet season seat.question seat.tree
worth_by sheet season seat done new (Some example) kept refuted is =
    let P : Option Example → Type 0 =
    λ it. IfSome it (IsExampleOf sheet season seat.question) in
    inr (inr (example.finish, example.lots, subst P kept done.good.example))
worth_by sheet season seat done new None kept true is =
    inl (done_refuted sheet season seat done is)
worth_by sheet season seat done new None kept false is =
    inr (inl (done_spent sheet season seat done kept is, new))

-- ---- items

-- what a finished pool has of its question is an item
item_at : (pool : PoolView) (place : ℕ) (seat : QuestionState) → IsSoundPool pool
    → out_count pool.loans ≡ 0 → AreSettled pool → AreAllNew pool
    → slice_get pool.seats place ≡ Some seat
    → IsItemSaved pool.sheet pool.season seat.question (item_of_seat pool.sheet seat)
item_at pool place seat sound home settled new found = record {
  tree = seat.tree;
  may_be = seat_saved pool place seat sound home found;
  worth = worth_by pool.sheet pool.season seat
      (done_at pool place seat pool.sheet pool.season sound settled found refl refl)
      (seat_meets (λ (s : QuestionState). is_all_new s.tree ≡ true) pool.seats place seat new
      found) seat.example refl (is_refuted seat.tree) refl;
  lines = refl;
}

-- so its text is made of items
items_are : (sheet : Sheet) (season : Results) (seats : List QuestionState)
    → All (λ (seat : QuestionState). IsItemSaved sheet season seat.question
    (item_of_seat sheet seat)) seats
    → IsMadeOf (IsItemSaved sheet season) (map (λ (seat : QuestionState). seat.question) seats)
    (items_of_seats sheet seats)
items_are sheet season [] all = refl
items_are sheet season (seat ∷ seats) all =
    let IsItem : QuestionState → Type 0 =
    λ it. IsItemSaved sheet season it.question (item_of_seat sheet it) in (
      item_of_seat sheet seat,
      items_of_seats sheet seats,
      refl,
      All-head IsItem seat seats all,
      items_are sheet season seats (All-tail IsItem seat seats all),
    )

saved_text_is : (pool : PoolView) → IsSoundPool pool → pool.questions ≡ questions_of pool.sheet
    → out_count pool.loans ≡ 0 → AreSettled pool → AreAllNew pool
    → IsSavedOf pool.sheet pool.season (saved_text_of pool)
saved_text_is pool sound asked home settled new =
    let P : List Question → Type 0 = λ questions.
    IsMadeOf (IsItemSaved pool.sheet pool.season) questions (items_of_seats pool.sheet pool.seats)
    in
    record {
      items = items_of_seats pool.sheet pool.seats;
      each = subst P (sound.asked ∙ asked)
          (items_are pool.sheet pool.season pool.seats (λ place d inside.
          item_at pool place (get_or pool.seats place d) sound home settled new
          (slice_get-get_or pool.seats place d inside)));
      lines = refl;
    }

-- it goes out as a saved text of the season, or a prefix of it does
pub saved_put : {A : Type 0} (pool : PoolView) (old now : Option (List ℕ))
    (result : Result A OutputStop) → IsSoundPool pool
    → pool.questions ≡ questions_of pool.sheet → out_count pool.loans ≡ 0 → AreSettled pool
    → AreAllNew pool → Puts (saved_text_of pool) old now result
    → PutsSomeText (IsSavedOf pool.sheet pool.season) old now result
saved_put {A} pool old now (Ok done) sound asked home settled new puts =
    (saved_text_of pool, saved_text_is pool sound asked home settled new, puts)
saved_put {A} pool old now (Err WriteFault) sound asked home settled new puts =
    (saved_text_of pool, saved_text_is pool sound asked home settled new, puts)
saved_put {A} pool old now (Err OutOfMemory) sound asked home settled new puts =
    inr (saved_text_of pool, saved_text_is pool sound asked home settled new, puts)

-- ---- one after the other

-- the next of the items that are left
pub items-next : (pool : PoolView) (place : ℕ) (seat : QuestionState) (sheet : Sheet)
    → slice_get pool.seats place ≡ Some seat → sheet ≡ pool.sheet
    → items_of_seats pool.sheet (drop place pool.seats)
    ≡ item_of_seat sheet seat ++ items_of_seats pool.sheet (drop (place + 1) pool.seats)
items-next pool place seat sheet found same =
    let later = items_of_seats pool.sheet (drop (suc place) pool.seats) in
    let inside = slice_get_within pool.seats place seat found in
    ap (items_of_seats pool.sheet) (drop-cons pool.seats place seat inside)
    ∙ ap (λ s. item_of_seat pool.sheet s ++ later)
    (get_or_from_slice_get pool.seats place seat seat found)
    ∙ ap (λ s. item_of_seat s seat ++ later) (sym same)
    ∙ ap (λ n. item_of_seat sheet seat ++ items_of_seats pool.sheet (drop n pool.seats))
    (sym (add-one place))
