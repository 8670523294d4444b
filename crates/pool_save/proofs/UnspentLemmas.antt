-- The verdicts of a pool that took up saved trees, when the work is done: of no question whose
-- saved tree was nearly done they say that the budget was spent.
use Rattle.std.proofs.Common.{◌≡◌, ℕ, zero, suc, ◌+◌, ◌*◌, Bool, true, false, not, ◌&&◌, List, []}
use Rattle.std.proofs.Common.{◌∷◌, ◌++◌, length, map, get_or, Option, Some, refl, sym, ap, ◌∙◌}
use Rattle.std.proofs.Common.{subst, arith}
use Rattle.std.specs.Prelude.{All, codes, decimal}
use Rattle.std.specs.List.{slice_get, list_any}
use Rattle.std.specs.Option.{option_map}
use Rattle.std.proofs.lemmas.Bool.{and_parts, false≢true, not-true}
use Rattle.std.proofs.lemmas.Option.{none-some, same_Some, slice_get-map, slice_get-get_or}
use Rattle.std.proofs.lemmas.Option.{slice_get_within, get_or_from_slice_get}
use Rattle.league_core.specs.declared.sheet.Sheet.{Sheet}
use Rattle.league_core.specs.declared.question.Claim.{Claim}
use Rattle.league_core.specs.declared.question.Claim.TheVariants.{Inside, Outside}
use Rattle.league_core.specs.declared.question.Question.{Question}
use Rattle.league_core.specs.game.Questions.{full_question}
use Rattle.league_core.specs.game.Results.{Results}
use Rattle.league_core.specs.game.Sheets.{are_different}
use Rattle.league_core.specs.search.Trees.{Tree}
use Rattle.league_core.proofs.plain.Slots.{All-at, none_at}
use Rattle.cert_text.specs.declared.proof_line.ProofLine.{ProofLine}
use Rattle.cert_text.specs.Lines.{claim_word}
use Rattle.line_tokens.specs.LineRanges.{name_of_club, same_claim}
use Rattle.branch_pool.specs.declared.question_state.QuestionState.{QuestionState}
use Rattle.branch_pool.specs.inside.Goodness.{IsSoundPool}
use Rattle.branch_pool.specs.inside.States.{PoolView, new_seat, out_count}
use Rattle.branch_pool.proofs.GoodLemmas.{none_lent_at, sound_places}
use Rattle.answer_rows.specs.declared.word.Word.{Word}
use Rattle.answer_rows.specs.declared.word.Word.TheVariants.{Clinched, Lost, Possible, Unsettled}
use Rattle.answer_rows.specs.declared.word.Verdict.{Verdict}
use Rattle.answer_rows.specs.Items.{AnswerRow, AreVerdictsOf, IsItemShown, IsShownVerdict}
use Rattle.answer_rows.specs.Items.{answer_row, answer_rows}
use Rattle.answer_rows.specs.AskedQuestions.{questions_of}
use Rattle.verdict_run.specs.inside.Kept.{AreOfPool, IsOfPool, TellsBoth, TellsOthers}
use Rattle.verdict_run.specs.inside.Parts.{AsksBoth}
use Rattle.verdict_run.specs.inside.Working.{AreSettled, is_known}
use Rattle.verdict_run.proofs.SettledLemmas.{settled_at}
use Rattle.verdict_run.proofs.ShownLemmas.{question_at}
use Rattle.verdict_run.proofs.VerdictLemmas.{asks_both}
use Rattle.pool_save.specs.NearlyDone.{IsNearlyDone}
use Rattle.pool_save.specs.inside.SavedLaws.{same_row}
use Rattle.pool_save.specs.inside.SavedPools.{AreNearlySaved, IsUnspentVerdict}
use Rattle.pool_save.specs.SavedReadings.{is_row_of}
use Rattle.pool_save.specs.SavedAnswers.{says_spent}
use Rattle.pool_save.proofs.NearlyLemmas.{nearly_known}
use Rattle.pool_save.proofs.OwnRowLemmas.{questions_have_own_rows}
use Rattle.pool_save.proofs.SavedBackLemmas.{own_row}
use Rattle.pool_save.proofs.SpentLineLemmas.{both_unspent, known_word_unspent}
use Rattle.pool_save.proofs.SpentLineLemmas.{known_seat_unspent, other_seat_unspent}

-- ---- places

-- two questions about one line and one club, with one claim, have one row
rows_same : (sheet : Sheet) (question other : Question) → other.line ≡ question.line
    → other.club ≡ question.club → other.claim ≡ question.claim
    → same_row sheet question other ≡ true
rows_same sheet question other of_line of_club of_claim =
    let fields : ℕ → ℕ → Claim → List (List ℕ) =
    λ line club claim. codes "saved" ∷ decimal line ∷ name_of_club sheet club
    ∷ claim_word claim ∷ [] in
    ap (is_row_of sheet question)
    (ap (λ (n : ℕ). fields n other.club other.claim) of_line
    ∙ ap (λ (n : ℕ). fields question.line n other.claim) of_club
    ∙ ap (λ (c : Claim). fields question.line question.club c) of_claim)
    ∙ own_row sheet question

-- of questions that all differ none stands at two places
one_place : (same : Question → Question → Bool) (asked : List Question) (first second : ℕ)
    (one other : Question) → are_different same asked ≡ true → slice_get asked first ≡ Some one
    → slice_get asked second ≡ Some other → same one other ≡ true → same other one ≡ true
    → first ≡ second
one_place same [] first second one other differ here there alike back =
    absurd (none-some one here)
one_place same (question ∷ asked) zero zero one other differ here there alike back = refl
one_place same (question ∷ asked) zero (suc second) one other differ here there alike back =
    let parts = and_parts (not (list_any (same question) asked)) (are_different same asked)
    differ in
    let none = none_at (same question) asked second other
    (not-true (list_any (same question) asked) parts.0) there in
    absurd (false≢true (sym none
    ∙ ap (λ (q : Question). same q other) (same_Some question one here) ∙ alike))
one_place same (question ∷ asked) (suc first) zero one other differ here there alike back =
    let parts = and_parts (not (list_any (same question) asked)) (are_different same asked)
    differ in
    let none = none_at (same question) asked first one
    (not-true (list_any (same question) asked) parts.0) here in
    absurd (false≢true (sym none
    ∙ ap (λ (q : Question). same q one) (same_Some question other there) ∙ back))
one_place same (question ∷ asked) (suc first) (suc second) one other differ here there alike
    back =
    ap suc (one_place same asked first second one other
    (and_parts (not (list_any (same question) asked)) (are_different same asked) differ).1
    here there alike back)

-- so with the questions about a sheet
question_place : (pool : PoolView) (first second : ℕ) (one other : Question)
    → IsSoundPool pool → pool.questions ≡ questions_of pool.sheet
    → slice_get pool.questions first ≡ Some one → slice_get pool.questions second ≡ Some other
    → one.line ≡ other.line → one.club ≡ other.club → one.claim ≡ other.claim
    → first ≡ second
question_place pool first second one other sound asked here there of_line of_club of_claim =
    one_place (same_row pool.sheet) pool.questions first second one other
    (ap (are_different (same_row pool.sheet)) asked
    ∙ questions_have_own_rows pool.sheet sound.limits) here there
    (rows_same pool.sheet one other (sym of_line) (sym of_club) (sym of_claim))
    (rows_same pool.sheet other one of_line of_club of_claim)

-- ---- seats

-- what is kept of a question stands at its place
record HasSeat (pool : PoolView) (place : ℕ) (question : Question) : Type 0 where
  pub seat : QuestionState
  pub found : slice_get pool.seats place ≡ Some seat
  pub asks : seat.question ≡ question

seat_there : (pool : PoolView) (place : ℕ) (question : Question) → IsSoundPool pool
    → slice_get pool.questions place ≡ Some question → HasSeat pool place question
seat_there pool place question sound asked =
    let within = slice_get_within pool.questions place question asked in
    let many = sound_places pool sound in
    let seat = get_or pool.seats place (new_seat question) in
    let found : slice_get pool.seats place ≡ Some seat =
    slice_get-get_or pool.seats place (new_seat question) (omega (arith, within, many)) in
    record {
      seat = seat;
      found = found;
      asks = question_at pool place seat question sound found asked;
    }

-- ---- the two questions of a row

-- something is known of one of them, and its claim is not that of the other
claims_unspent : (pool : PoolView) (place : ℕ) (lines : List ProofLine) (claim : Claim)
    (inside outside : QuestionState) → slice_get pool.seats place ≡ Some inside
    → slice_get pool.seats (place + 1) ≡ Some outside → inside.question.claim ≡ Inside
    → outside.question.claim ≡ Outside
    → (claim ≡ Inside → is_known inside ≡ true) → (claim ≡ Outside → is_known outside ≡ true)
    → TellsBoth pool place lines → says_spent claim lines ≡ false
claims_unspent pool place lines Inside inside outside here there is_in is_out in_known out_known
    tells =
    ap (says_spent Inside) tells.2
    ∙ both_unspent Inside tells.0 tells.1
    (known_seat_unspent pool.sheet pool.season inside tells.0 Inside (tells.3 inside here)
    (in_known refl))
    (other_seat_unspent pool.sheet pool.season outside tells.1 Inside (tells.4 outside there)
    (ap (λ (c : Claim). same_claim c Inside) is_out))
claims_unspent pool place lines Outside inside outside here there is_in is_out in_known out_known
    tells =
    ap (says_spent Outside) tells.2
    ∙ both_unspent Outside tells.0 tells.1
    (other_seat_unspent pool.sheet pool.season inside tells.0 Outside (tells.3 inside here)
    (ap (λ (c : Claim). same_claim c Outside) is_in))
    (known_seat_unspent pool.sheet pool.season outside tells.1 Outside (tells.4 outside there)
    (out_known refl))

-- by the word
word_unspent : (pool : PoolView) (place : ℕ) (verdict : Verdict ProofLine) (word : Word)
    (claim : Claim)
    → verdict.word ≡ word → IsShownVerdict pool.sheet pool.season verdict
    → IsOfPool pool place verdict
    → (TellsBoth pool place verdict.proof.items → says_spent claim verdict.proof.items ≡ false)
    → says_spent claim verdict.proof.items ≡ false
word_unspent pool place verdict word claim is shown of both =
    let P : Word → Type 0 = λ w.
    IsItemShown true pool.sheet pool.season verdict.line verdict.club w verdict.proof.items in
    let Q : Word → Type 0 = λ w. TellsOthers pool place w verdict.proof.items in
    by word (subst P is shown) (subst Q is of.others)
  where
    by : (w : Word)
        → IsItemShown true pool.sheet pool.season verdict.line verdict.club w verdict.proof.items
        → TellsOthers pool place w verdict.proof.items
        → says_spent claim verdict.proof.items ≡ false
    by Clinched one other =
        known_word_unspent true pool.sheet pool.season verdict.line verdict.club Clinched
        verdict.proof.items one (λ e. cc) claim
    by Lost one other =
        known_word_unspent true pool.sheet pool.season verdict.line verdict.club Lost
        verdict.proof.items one (λ e. cc) claim
    by Possible one other =
        known_word_unspent true pool.sheet pool.season verdict.line verdict.club Possible
        verdict.proof.items one (λ e. cc) claim
    by Unsettled one other = both other

-- ---- one verdict

module _ (pool : PoolView) (trees : List (Option Tree)) (sound : IsSoundPool pool)
    (asked : pool.questions ≡ questions_of pool.sheet) (home : out_count pool.loans ≡ 0)
    (settled : AreSettled pool) (nearly : AreNearlySaved pool trees) where
  -- a question whose saved tree was nearly done is known
  nearly_done_known : (place : ℕ) (question : Question) (saved : Option Tree)
      (it : HasSeat pool place question) → slice_get trees place ≡ Some saved
      → IsNearlyDone pool.sheet pool.season question saved → is_known it.seat ≡ true
  nearly_done_known place question saved it own done =
      let P : Question → Type 0 = λ q. IsNearlyDone pool.sheet pool.season q saved in
      nearly_known pool.sheet pool.season it.seat
      (nearly place it.seat saved it.found own (subst P (sym it.asks) done))
      (none_lent_at pool place it.seat sound home it.found)
      (settled_at pool place it.seat settled it.found)

  -- so is the state at each place where this question stands
  known_there : (place here : ℕ) (question other : Question) (saved : Option Tree)
      (it : HasSeat pool here other) → slice_get pool.questions place ≡ Some question
      → slice_get pool.questions here ≡ Some other
      → question.line ≡ other.line → question.club ≡ other.club → question.claim ≡ other.claim
      → slice_get trees place ≡ Some saved
      → IsNearlyDone pool.sheet pool.season question saved → is_known it.seat ≡ true
  known_there place here question other saved it found there of_line of_club of_claim own done =
      let same = question_place pool place here question other sound asked found there of_line
      of_club of_claim in
      let mine = seat_there pool place question sound found in
      ap is_known (same_Some it.seat mine.seat
      (sym it.found ∙ ap (slice_get pool.seats) (sym same) ∙ mine.found))
      ∙ nearly_done_known place question saved mine own done

  row_unspent : (row : ℕ) (verdict : Verdict ProofLine)
      → AsksBoth pool (2 * row) (answer_row verdict)
      → IsShownVerdict pool.sheet pool.season verdict → IsOfPool pool (2 * row) verdict
      → IsUnspentVerdict pool.sheet pool.season trees verdict
  row_unspent row verdict both shown of place question saved found own of_line of_club done =
      let inside = seat_there pool (2 * row) (full_question verdict.club verdict.line Inside) sound
      both.inside in
      let outside = seat_there pool (2 * row + 1)
      (full_question verdict.club verdict.line Outside) sound both.outside in
      let here : slice_get pool.questions place ≡ Some question =
      ap (λ (qs : List Question). slice_get qs place) asked ∙ found in
      word_unspent pool (2 * row) verdict verdict.word question.claim refl shown of
      (claims_unspent pool (2 * row) verdict.proof.items question.claim inside.seat outside.seat
      inside.found outside.found (ap (λ (q : Question). q.claim) inside.asks)
      (ap (λ (q : Question). q.claim) outside.asks)
      (λ is. known_there place (2 * row) question
      (full_question verdict.club verdict.line Inside) saved inside here both.inside of_line
      of_club is own done)
      (λ is. known_there place (2 * row + 1) question
      (full_question verdict.club verdict.line Outside) saved outside here both.outside of_line
      of_club is own done))

  -- ---- all of them

  -- both questions of the row of a verdict stand where they are looked for
  row_asks_both : (verdicts : List (Verdict ProofLine)) (row : ℕ) (verdict : Verdict ProofLine)
      → map answer_row verdicts ≡ answer_rows pool.sheet
      → slice_get verdicts row ≡ Some verdict → AsksBoth pool (2 * row) (answer_row verdict)
  row_asks_both verdicts row verdict are found =
      let about = answer_row verdict in
      let there : slice_get (answer_rows pool.sheet) row ≡ Some about =
      ap (λ (rows : List AnswerRow). slice_get rows row) (sym are)
      ∙ slice_get-map answer_row verdicts row ∙ ap (option_map answer_row) found in
      subst (AsksBoth pool (2 * row))
      (get_or_from_slice_get (answer_rows pool.sheet) row about about there)
      (asks_both pool row about asked
      (slice_get_within (answer_rows pool.sheet) row about there))

  all_unspent : (verdicts : List (Verdict ProofLine))
      → AreVerdictsOf pool.sheet pool.season verdicts
      → AreOfPool pool verdicts → All (IsUnspentVerdict pool.sheet pool.season trees) verdicts
  all_unspent verdicts are of row d within =
      let verdict = get_or verdicts row d in
      let found : slice_get verdicts row ≡ Some verdict = slice_get-get_or verdicts row d within in
      row_unspent row verdict (row_asks_both verdicts row verdict are.rows found)
      (All-at (IsShownVerdict pool.sheet pool.season) verdicts row verdict are.each found)
      (of row verdict found)

pub verdicts_unspent : (pool : PoolView) (trees : List (Option Tree))
    (verdicts : List (Verdict ProofLine))
    → IsSoundPool pool → pool.questions ≡ questions_of pool.sheet → out_count pool.loans ≡ 0
    → AreSettled pool → AreNearlySaved pool trees
    → AreVerdictsOf pool.sheet pool.season verdicts → AreOfPool pool verdicts
    → All (IsUnspentVerdict pool.sheet pool.season trees) verdicts
verdicts_unspent pool trees verdicts sound asked home settled nearly are of =
    all_unspent pool trees sound asked home settled nearly verdicts are of
