-- What is known of a question on which the work is done, as a part of an answer.
use Rattle.std.proofs.Common.{◌≡◌, ℕ, Bool, true, false, ◌&&◌, List}
use Rattle.std.proofs.Common.{length}
use Rattle.std.proofs.Common.{refl, sym, ap, ◌∙◌, subst, arith, get_or, Option}
use Rattle.std.proofs.Common.{Some, None}
use Rattle.std.specs.Prelude.{is_some, IfSome}
use Rattle.std.specs.List.{slice_get, list_all}
use Rattle.std.proofs.lemmas.Bool.{false≢true, or_from}
use Rattle.std.proofs.lemmas.List.{get_or-map, length-map}
use Rattle.std.proofs.lemmas.List.Folds.{list_all-append}
use Rattle.std.proofs.lemmas.Option.{slice_get_within, get_or_from_slice_get}
use Rattle.league_core.specs.declared.sheet.Sheet.{Sheet}
use Rattle.league_core.specs.declared.question.Question.{Question}
use Rattle.league_core.specs.game.Results.{Results}
use Rattle.league_core.specs.game.Questions.{IsQuestionOf}
use Rattle.league_core.specs.search.Trees.{Tree, open_leaf, lent_leaf, refuted_leaf, branch}
use Rattle.league_core.specs.search.Trees.{preorder, is_refuted}
use Rattle.cert_text.specs.declared.proof_line.ProofLine.{ProofLine}
use Rattle.cert_text.specs.TreeLines.{IsRefutationTree, IsFairSpentTree}
use Rattle.branch_pool.specs.declared.question_state.QuestionState.{QuestionState}
use Rattle.branch_pool.specs.inside.States.{PoolView}
use Rattle.branch_pool.specs.inside.Goodness.{IsSoundPool, IsGoodSeat}
use Rattle.answer_rows.specs.declared.part.Part.{Part}
use Rattle.answer_rows.specs.NewTrees.{is_all_new, is_not_old}
use Rattle.verdict_run.specs.inside.Working.{AreSettled, IsEnough}
use Rattle.answer_rows.specs.inside.AnswerParts.{IsAnswerPart, IsRefutedPart}
use Rattle.verdict_run.specs.inside.Parts.{IsPartAt, IsRefutedAt}
use Rattle.verdict_run.specs.inside.Parts.{IsDoneSeat}
use Rattle.verdict_run.proofs.SettledLemmas.{settled_at}
use Rattle.verdict_run.proofs.ShownLemmas.{pool_league, pool_results, question_at, seat_meets}
use Rattle.verdict_run.proofs.ShownLemmas.{refutes_seat, spends_seat, seat_decided}

-- ---- new trees

-- a tree is all new if its list is
pub is_all_new-list : (tree : Tree) → list_all is_not_old (preorder tree) ≡ is_all_new tree
is_all_new-list open_leaf = refl
is_all_new-list (lent_leaf number) = refl
is_all_new-list (refuted_leaf reason fresh) = leaf fresh
  where
    leaf : (b : Bool) → (b && true) ≡ b
    leaf true = refl
    leaf false = refl
is_all_new-list (branch test fresh yes_half no_half) =
    ap (λ b. fresh && b) (list_all-append is_not_old (preorder yes_half) (preorder no_half))
    ∙ ap (λ b. fresh && (b && list_all is_not_old (preorder no_half))) (is_all_new-list yes_half)
    ∙ ap (λ b. fresh && (is_all_new yes_half && b)) (is_all_new-list no_half)
    ∙ regroup fresh (is_all_new yes_half) (is_all_new no_half)
  where
    regroup : (a b c : Bool) → (a && (b && c)) ≡ (a && b && c)
    regroup true b c = refl
    regroup false b c = refl

-- ---- questions on which the work is done

-- the question at a place of a pool
pub done_at : (pool : PoolView) (place : ℕ) (seat : QuestionState) (sheet : Sheet)
    (season : Results)
    → IsSoundPool pool → AreSettled pool → slice_get pool.seats place ≡ Some seat
    → sheet ≡ pool.sheet → season ≡ pool.season → IsDoneSeat sheet season seat
done_at pool place seat sheet season sound settled found same_sheet same_season =
    let question = seat.question in
    let asked : IsQuestionOf pool.sheet question = asked_at pool place seat sound found in
    let here : IsDoneSeat pool.sheet pool.season seat = record {
      league = pool_league pool sound;
      results = pool_results pool sound;
      asked = asked;
      good = seat_meets (IsGoodSeat pool.sheet pool.season) pool.seats place seat sound.seats found;
      settled = settled_at pool place seat settled found;
    } in
    let P : Sheet → Type 0 = λ s. IsDoneSeat s season seat in
    let Q : Results → Type 0 = λ r. IsDoneSeat pool.sheet r seat in
    subst P (sym same_sheet) (subst Q (sym same_season) here)
  where
    asked_at : (p : PoolView) (i : ℕ) (s : QuestionState) → IsSoundPool p
        → slice_get p.seats i ≡ Some s
        → IsQuestionOf p.sheet s.question
    asked_at p i s good at =
        let inside = slice_get_within p.seats i s at in
        let few : length p.questions ≡ length p.seats =
        ap (λ (qs : List Question). length qs) (sym good.asked)
        ∙ length-map p.seats (λ (x : QuestionState). x.question) in
        let is : get_or p.questions i s.question ≡ s.question =
        ap (λ (qs : List Question). get_or qs i s.question) (sym good.asked)
        ∙ get_or-map (λ (x : QuestionState). x.question) p.seats i s s.question inside
        ∙ ap (λ (x : QuestionState). x.question) (get_or_from_slice_get p.seats i s s at) in
        subst (λ (q : Question). IsQuestionOf p.sheet q) is
        (good.questions i s.question (omega (arith, few, inside)))

-- a part of the question at a place
pub part_at : (pool : PoolView) (place : ℕ) (seat : QuestionState) (sheet : Sheet)
    (season : Results)
    (part : Part ProofLine) → IsSoundPool pool → slice_get pool.seats place ≡ Some seat
    → sheet ≡ pool.sheet → season ≡ pool.season → IsAnswerPart sheet season seat.question part
    → IsPartAt pool place part
part_at pool place seat sheet season part sound found same_sheet same_season part_of =
    λ question asked.
    let P : Sheet → Type 0 = λ s. IsAnswerPart s season seat.question part in
    let Q : Results → Type 0 = λ r. IsAnswerPart pool.sheet r seat.question part in
    let R : Question → Type 0 = λ q. IsAnswerPart pool.sheet pool.season q part in
    subst R (question_at pool place seat question sound found asked)
    (subst Q same_season (subst P same_sheet part_of))

-- a part that refutes it
pub refuted_there : (pool : PoolView) (place : ℕ) (seat : QuestionState) (sheet : Sheet)
    (season : Results)
    (part : Part ProofLine) → IsSoundPool pool → slice_get pool.seats place ≡ Some seat
    → sheet ≡ pool.sheet → season ≡ pool.season → IsRefutedPart sheet season seat.question part
    → IsRefutedAt pool place part
refuted_there pool place seat sheet season part sound found same_sheet same_season refuted =
    λ question asked. record {
      kind = refuted.kind;
      part_of = part_at pool place seat sheet season part sound found same_sheet same_season
          refuted.part_of question asked;
    }

-- a refuted tree refutes
pub done_refuted : (sheet : Sheet) (season : Results) (seat : QuestionState)
    → IsDoneSeat sheet season seat
    → is_refuted seat.tree ≡ true → IsRefutationTree sheet season seat.question seat.tree
done_refuted sheet season seat done refuted =
    refutes_seat sheet season seat done.league done.results done.good refuted

-- what is neither won nor refuted is spent
pub done_spent : (sheet : Sheet) (season : Results) (seat : QuestionState)
    → IsDoneSeat sheet season seat
    → seat.example ≡ None → is_refuted seat.tree ≡ false
    → IsFairSpentTree sheet season seat.question sheet.budget seat.tree
done_spent sheet season seat done none refuted =
    spends_seat sheet season seat done.league done.results done.good
    (or_from (is_some seat.example) (is_refuted seat.tree) (ap is_some none) refuted) done.settled

-- which a great enough budget never is
pub done_enough : (sheet : Sheet) (season : Results) (seat : QuestionState)
    → IsDoneSeat sheet season seat
    → seat.example ≡ None → is_refuted seat.tree ≡ false → IsEnough sheet season → ⊥
done_enough sheet season seat done none refuted enough =
    false≢true (sym (or_from (is_some seat.example) (is_refuted seat.tree) (ap is_some none)
    refuted)
    ∙ seat_decided sheet season seat done.league.of_sheet done.asked.club enough done.good
    done.settled)

-- what follows from a fact of the part, if there is one
pub some_weaker : (found : Option (Part ProofLine)) (P Q : Part ProofLine → Type 0)
    → ((part : Part ProofLine) → P part → Q part)
    → IfSome found P → IfSome found Q
some_weaker None P Q gives fact = tt
some_weaker (Some part) P Q gives fact = gives part fact
