-- What an answer says comes from what the pool keeps: of one question, of the two of a row, and of
-- all rows so far.
use Rattle.std.proofs.Common.{◌≡◌, ◌≢◌, ℕ, ◌+◌, ◌*◌, Bool, true, false, List, [], ◌∷◌, ◌++◌, length}
use Rattle.std.proofs.Common.{Option, Some, None, refl, sym, ap, ◌∙◌, subst, inl, inr, ◌||◌, ◌==◌}
use Rattle.std.proofs.Common.{if◌then◌else◌}
use Rattle.std.specs.Prelude.{is_some}
use Rattle.std.specs.List.{slice_get}
use Rattle.std.proofs.lemmas.Bool.{false≢true}
use Rattle.std.proofs.lemmas.Option.{same_Some, none-some}
use Rattle.league_core.specs.declared.sheet.Sheet.{Sheet}
use Rattle.league_core.specs.declared.question.Question.{Question}
use Rattle.league_core.specs.game.Results.{Results}
use Rattle.league_core.specs.search.Trees.{is_refuted}
use Rattle.cert_text.specs.declared.proof_line.ProofLine.{ProofLine}
use Rattle.cert_text.specs.ExampleLines.{example_lines}
use Rattle.tree_arena.specs.declared.example.Example.{Example}
use Rattle.branch_pool.specs.declared.question_state.QuestionState.{QuestionState}
use Rattle.branch_pool.specs.declared.ticket.Answer.{Answer}
use Rattle.branch_pool.specs.declared.ticket.Answer.TheVariants as answer
use Rattle.branch_pool.specs.inside.States.{PoolView}
use Rattle.branch_pool.specs.inside.Calls.{answer_of, answer_without}
use Rattle.answer_rows.specs.declared.part.PartKind.{PartKind}
use Rattle.answer_rows.specs.declared.part.PartKind.TheVariants.{Won, Refuted, Spent}
use Rattle.answer_rows.specs.declared.part.Part.{Part}
use Rattle.answer_rows.specs.declared.word.Word.{Word}
use Rattle.answer_rows.specs.declared.word.Word.TheVariants as word
use Rattle.answer_rows.specs.declared.word.Verdict.{Verdict}
use Rattle.answer_rows.specs.Items.{ShowsPart}
use Rattle.answer_rows.specs.inside.AnswerParts.{IsPart, IsAnswerPart, word_by, proof_by}
use Rattle.verdict_run.specs.inside.Parts.{IsDoneSeat}
use Rattle.answer_rows.specs.NewTrees.{is_all_new}
use Rattle.verdict_run.specs.inside.Kept.{lines_of_refuted, lines_of_spent, TellsExample, IsOfSeat}
use Rattle.verdict_run.specs.inside.Kept.{IsOfPlace, IsFoundAt, TellsPlace, TellsBoth, TellsOthers}
use Rattle.verdict_run.specs.inside.Kept.{IsOfPool, AreOfPool}
use Rattle.league_core.proofs.plain.Slots.{at_pushed}

-- ---- answers

-- what the pool answers, by what is kept
abbrev answer_by : Option Example → Bool → Bool → Answer
answer_by example refuted used =
    if is_some example then answer.Won else answer_without refuted used

-- a question that the pool says is refuted has no example, and a refuted tree
refuted_by : (example : Option Example) (refuted used : Bool)
    → answer_by example refuted used ≡ answer.Refuted → (example ≡ None) × (refuted ≡ true)
refuted_by (Some example) refuted used is = absurd (cc)
refuted_by None true used is = (refl, refl)
refuted_by None false true is = absurd (cc)
refuted_by None false false is = absurd (cc)

pub refuted_is : (sheet : Sheet) (seat : QuestionState) → answer_of sheet seat ≡ answer.Refuted
    → (seat.example ≡ None) × (is_refuted seat.tree ≡ true)
refuted_is sheet seat is =
    refuted_by seat.example (is_refuted seat.tree) (seat.units == sheet.budget) is

-- one that is done, has no example and no refuted tree is said to be spent
spent_by : (example : Option Example) (refuted used : Bool) → example ≡ None → refuted ≡ false
    → (is_some example || refuted || used) ≡ true
    → answer_by example refuted used ≡ answer.Spent
spent_by (Some example) refuted used none not_refuted settled =
    absurd (none-some example (sym none))
spent_by None true used none not_refuted settled = absurd (false≢true (sym not_refuted))
spent_by None false true none not_refuted settled = refl
spent_by None false false none not_refuted settled = absurd (false≢true settled)

-- ---- one question

-- the example that is kept comes from what is kept
pub won_of_seat : (sheet : Sheet) (season : Results) (seat : QuestionState) (example : Example)
    (part : Part ProofLine)
    → seat.example ≡ Some example
    → part.lines.items
    ≡ example_lines seat.question.claim season example.finish example.lots
    → IsOfSeat sheet season seat part
won_of_seat sheet season seat example part is lines = record {
  refuted = λ answered.
      absurd (none-some example (sym (refuted_is sheet seat answered).0 ∙ is));
  others = λ _. subst (λ (kept : Option Example). TellsExample sheet season seat kept
      part.lines.items) (sym is) lines;
}

-- so does a refuted tree
pub refuted_of_seat : (sheet : Sheet) (season : Results) (seat : QuestionState)
    (part : Part ProofLine)
    → part.kind ≡ Refuted → part.lines.items ≡ lines_of_refuted seat
    → IsOfSeat sheet season seat part
refuted_of_seat sheet season seat part known lines =
    record { refuted = λ _. (known, lines); others = λ other. absurd (other known) }

-- what stands for a question that is not refuted
shows_other : (sheet : Sheet) (season : Results) (question : Question) (known : PartKind)
    (lines : List ProofLine) → known ≢ Refuted → IsPart sheet season question known lines
    → (is_spent : Bool) × ShowsPart sheet season question is_spent lines
shows_other sheet season question Won lines other shows = (false, shows)
shows_other sheet season question Refuted lines other shows = absurd (other refl)
shows_other sheet season question Spent lines other shows = (true, shows)

-- and what is known if the budget was spent
pub spent_of_seat : (sheet : Sheet) (season : Results) (seat : QuestionState)
    (part : Part ProofLine)
    → IsDoneSeat sheet season seat → seat.example ≡ None → is_refuted seat.tree ≡ false
    → IsAnswerPart sheet season seat.question part
    → (is_all_new seat.tree ≡ true → part.lines.items ≡ lines_of_spent seat)
    → IsOfSeat sheet season seat part
spent_of_seat sheet season seat part done none not_refuted shown lines = record {
  refuted = λ answered. absurd (false≢true (sym not_refuted ∙ (refuted_is sheet seat answered).1));
  others = λ other.
      let what = shows_other sheet season seat.question part.kind part.lines.items other
      shown.shows in
      subst (λ (kept : Option Example). TellsExample sheet season seat kept part.lines.items)
      (sym none) (
        spent_by seat.example (is_refuted seat.tree) (seat.units == sheet.budget) none
            not_refuted done.settled,
        lines,
        what.0,
        what.1,
      );
}

-- ---- places

-- what comes from the seat that stands at a place comes from that place
pub of_place : (pool : PoolView) (place : ℕ) (seat : QuestionState) (sheet : Sheet)
    (season : Results)
    (part : Part ProofLine) → slice_get pool.seats place ≡ Some seat → sheet ≡ pool.sheet
    → season ≡ pool.season → IsOfSeat sheet season seat part → IsOfPlace pool place part
of_place pool place seat sheet season part found same_sheet same_season of_seat other there =
    let P : Sheet → Type 0 = λ s. IsOfSeat s season seat part in
    let Q : Results → Type 0 = λ r. IsOfSeat pool.sheet r seat part in
    let R : QuestionState → Type 0 = λ s. IsOfSeat pool.sheet pool.season s part in
    subst R (same_Some seat other (sym found ∙ there))
    (subst Q same_season (subst P same_sheet of_seat))

-- if nothing is found at a place, no tree is refuted there
pub none_found : (pool : PoolView) (place : ℕ) (found : Option (Part ProofLine))
    → ((part : Part ProofLine) → found ≢ Some part) → IsFoundAt pool place found
    → (seat : QuestionState)
    → slice_get pool.seats place ≡ Some seat → is_refuted seat.tree ≡ false
none_found pool place None none_is at seat there = at seat there
none_found pool place (Some part) none_is at seat there = absurd (none_is part refl)

-- ---- the two questions of a row

-- a verdict that refutes the second question, by its own tree
pub outside_of_pool : (pool : PoolView) (place : ℕ) (verdict : Verdict ProofLine)
    → ((seat : QuestionState) → slice_get pool.seats place ≡ Some seat
    → answer_of pool.sheet seat ≡ answer.Refuted → ⊥)
    → ((seat : QuestionState) → slice_get pool.seats (place + 1) ≡ Some seat
    → verdict.proof.items ≡ lines_of_refuted seat)
    → verdict.word ≡ word.Clinched → IsOfPool pool place verdict
outside_of_pool pool place verdict not_refuted lines is = record {
  inside = λ seat there answered. absurd (not_refuted seat there answered);
  outside = λ seat there answered. (is, lines seat there);
  others = subst (λ (w : Word). TellsOthers pool place w verdict.proof.items) (sym is) tt;
}

-- a verdict that refutes the first question, if the second one's tree is not refuted
pub inside_of_pool : (pool : PoolView) (place : ℕ) (verdict : Verdict ProofLine)
    (inside : Part ProofLine)
    → ((seat : QuestionState) → slice_get pool.seats (place + 1) ≡ Some seat
    → is_refuted seat.tree ≡ false)
    → IsOfPlace pool place inside → verdict.word ≡ word.Lost
    → verdict.proof.items ≡ inside.lines.items → IsOfPool pool place verdict
inside_of_pool pool place verdict inside not_refuted one is are = record {
  inside = λ seat there answered. (is, are ∙ ((one seat there).refuted answered).1);
  outside = λ seat there answered.
      absurd (false≢true (sym (not_refuted seat there) ∙ (refuted_is pool.sheet seat answered).1));
  others = subst (λ (w : Word). TellsOthers pool place w verdict.proof.items) (sym is) tt;
}

-- a verdict of two parts, of which the second question's tree is not refuted
pub parts_of_pool : (pool : PoolView) (place : ℕ) (verdict : Verdict ProofLine)
    (inside outside : Part ProofLine)
    → ((seat : QuestionState) → slice_get pool.seats (place + 1) ≡ Some seat
    → is_refuted seat.tree ≡ false)
    → IsOfPlace pool place inside → IsOfPlace pool (place + 1) outside
    → verdict.word ≡ word_by inside.kind outside.kind
    → verdict.proof.items ≡ proof_by verdict.word inside.lines.items outside.lines.items
    → IsOfPool pool place verdict
parts_of_pool pool place verdict inside outside not_refuted one two is are = record {
  inside = λ seat there answered.
      let found = (one seat there).refuted answered in
      let lost : verdict.word ≡ word.Lost =
      is ∙ ap (λ (k : PartKind). word_by k outside.kind) found.0 in (
        lost,
        are ∙ ap (λ (w : Word). proof_by w inside.lines.items outside.lines.items) lost ∙ found.1,
      );
  outside = λ seat there answered.
      absurd (false≢true (sym (not_refuted seat there) ∙ (refuted_is pool.sheet seat answered).1));
  others = subst (λ (w : Word). TellsOthers pool place w verdict.proof.items) (sym is)
      (others_by inside.kind outside.kind (λ k. (λ seat there. (one seat there).others k))
      (λ k. (λ seat there. (two seat there).others k))
      (are ∙ ap (λ (w : Word). proof_by w inside.lines.items outside.lines.items) is));
}
  where
    both : TellsPlace pool place inside.lines.items
        → TellsPlace pool (place + 1) outside.lines.items
        → verdict.proof.items ≡ inside.lines.items ++ outside.lines.items
        → TellsBoth pool place verdict.proof.items
    both first second lines = (inside.lines.items, outside.lines.items, lines, first, second)

    others_by : (first second : PartKind)
        → (first ≢ Refuted → TellsPlace pool place inside.lines.items)
        → (second ≢ Refuted → TellsPlace pool (place + 1) outside.lines.items)
        → verdict.proof.items
        ≡ proof_by (word_by first second) inside.lines.items outside.lines.items
        → TellsOthers pool place (word_by first second) verdict.proof.items
    others_by Refuted second in_part out_part lines = tt
    others_by Won Refuted in_part out_part lines = tt
    others_by Won Won in_part out_part lines = both (in_part (λ e. cc)) (out_part (λ e. cc)) lines
    others_by Won Spent in_part out_part lines =
        both (in_part (λ e. cc)) (out_part (λ e. cc)) lines
    others_by Spent Refuted in_part out_part lines = tt
    others_by Spent Won in_part out_part lines =
        both (in_part (λ e. cc)) (out_part (λ e. cc)) lines
    others_by Spent Spent in_part out_part lines =
        both (in_part (λ e. cc)) (out_part (λ e. cc)) lines

-- ---- row by row

-- one verdict more
pub pushed_of_pool : (pool : PoolView) (count : ℕ) (verdicts : List (Verdict ProofLine))
    (verdict : Verdict ProofLine)
    → length verdicts ≡ count → AreOfPool pool verdicts → IsOfPool pool (2 * count) verdict
    → AreOfPool pool (verdicts ++ verdict ∷ [])
pushed_of_pool pool count verdicts verdict many so_far one row found there =
    elim (at_pushed verdicts verdict row found there) as (λ _. IsOfPool pool (2 * row) found) [
      | inl before ↦ so_far row found before
      | inr end ↦ subst (λ (v : Verdict ProofLine). IsOfPool pool (2 * row) v) end.1
          (subst (λ (n : ℕ). IsOfPool pool (2 * n) verdict) (sym (end.0 ∙ many)) one)
    ]

-- none yet
pub none_of_pool : (pool : PoolView) → AreOfPool pool []
none_of_pool pool row verdict there = absurd (none-some verdict there)
