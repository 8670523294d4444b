-- The questions of a sheet by the rows of an answer, and the verdict of a row from what is known of
-- its two questions.
use Rattle.std.proofs.Common.{◌≡◌, ◌≢◌, ℕ, zero, suc, ◌+◌, ◌*◌, ◌<◌, ◌≤◌, true, false}
use Rattle.std.proofs.Common.{List, [], ◌∷◌, ◌++◌, length, Vec, Global, refl, sym, ap, ◌∙◌}
use Rattle.std.proofs.Common.{subst, arith, map, get_or, take, Some, append_assoc}
use Rattle.std.specs.Prelude.{All, pos}
use Rattle.std.specs.List.{slice_get, list_all, flat_map, range_with_len}
use Rattle.std.proofs.lemmas.Option.{slice_get-get_or, get_or_from_slice_get, slice_get_within}
use Rattle.std.proofs.lemmas.List.{take_more, take_all, map-append, length-map, length-take-le}
use Rattle.std.proofs.lemmas.List.Elements.{All-nil, All-cons, All-append}
use Rattle.league_core.specs.declared.sheet.Sheet.{Sheet}
use Rattle.league_core.specs.declared.question.Claim.TheVariants.{Inside, Outside}
use Rattle.league_core.specs.declared.question.Question.{Question}
use Rattle.league_core.specs.game.Results.{Results}
use Rattle.league_core.specs.game.Questions.{full_question, IsQuestionOf}
use Rattle.league_core.specs.game.Verdicts.{IsClinched, IsLost}
use Rattle.cert_text.specs.declared.proof_line.ProofLine.{ProofLine}
use Rattle.league_core.proofs.OneVerdictLemmas.{clinched_or_lost}
use Rattle.cert_text.specs.Ranges.{is_in_range}
use Rattle.cert_text.specs.TreeLines.{IsRefutationTree}
use Rattle.branch_pool.specs.declared.question_state.QuestionState.{QuestionState}
use Rattle.branch_pool.specs.declared.ticket.Answer.TheVariants as answer
use Rattle.branch_pool.specs.inside.States.{PoolView}
use Rattle.branch_pool.specs.inside.Calls.{answer_of}
use Rattle.branch_pool.specs.inside.Goodness.{IsSoundPool, IsGoodSeat}
use Rattle.answer_rows.specs.declared.part.PartKind.{PartKind}
use Rattle.answer_rows.specs.declared.part.PartKind.TheVariants.{Won, Refuted, Spent}
use Rattle.answer_rows.specs.declared.part.Part.{Part}
use Rattle.answer_rows.specs.declared.word.Word.{Word}
use Rattle.answer_rows.specs.declared.word.Word.TheVariants.{Clinched, Lost, Unsettled}
use Rattle.answer_rows.specs.declared.word.Verdict.{Verdict}
use Rattle.answer_rows.specs.AskedQuestions.{both_questions, questions_of_line, questions_of}
use Rattle.verdict_run.specs.inside.Working.{IsEnough}
use Rattle.answer_rows.specs.Items.{AnswerRow, answer_rows, answer_rows_of, IsItemShown}
use Rattle.answer_rows.specs.Items.{RefutesIfAsked, answer_row, IsShownVerdict, AreVerdictsOf}
use Rattle.answer_rows.specs.inside.ItemRanges.{IsInRange, AreInRange}
use Rattle.verdict_run.specs.inside.Verdicts.{AreKnownIfEnough}
use Rattle.answer_rows.specs.inside.AnswerParts.{IsPart, IsAnswerPart, IsRefutedPart}
use Rattle.verdict_run.specs.inside.Parts.{AsksBoth}
use Rattle.verdict_run.specs.inside.Parts.{IsAnswered}
use Rattle.answer_rows.specs.inside.AnswerParts.{word_by, proof_by}
use Rattle.verdict_run.specs.inside.Kept.{IsOfPool, AreOfPool}
use Rattle.answer_rows.proofs.PartLemmas.{refutation_is_true}
use Rattle.verdict_run.proofs.ShownLemmas.{refutes_seat, seat_meets}
use Rattle.verdict_run.proofs.ShownLemmas.{pool_league, pool_results, question_at}
use Rattle.verdict_run.proofs.KeptLemmas.{none_of_pool, pushed_of_pool, refuted_is}
use Rattle.answer_rows.proofs.PartLemmas.{range_by, all_lines}

-- ---- rows

-- both questions of a row
abbrev pub both_of : AnswerRow → List Question
both_of row = both_questions row.line row.club

-- the questions about a line, by its rows
line_by_rows : (line from count : ℕ)
    → flat_map (both_questions line) (range_with_len from count)
    ≡ flat_map both_of (map (λ club. record { line = line; club = club }) (range_with_len from
    count))
line_by_rows line from zero = refl
line_by_rows line from (suc count) =
    ap (λ qs. both_questions line from ++ qs) (line_by_rows line (from + 1) count)

-- questions of rows one after another
flat_map_both : (rows more : List AnswerRow)
    → flat_map both_of (rows ++ more) ≡ flat_map both_of rows ++ flat_map both_of more
flat_map_both [] more = refl
flat_map_both (row ∷ rows) more =
    ap (λ qs. both_of row ++ qs) (flat_map_both rows more)
    ∙ sym (append_assoc (both_of row) (flat_map both_of rows) (flat_map both_of more))

-- all questions, by the rows of an answer
lines_by_rows : (clubs : ℕ) (lines : List ℕ)
    → flat_map (questions_of_line clubs) lines
    ≡ flat_map both_of (flat_map (answer_rows_of clubs) lines)
unfolding questions_of_line
lines_by_rows clubs [] = refl
lines_by_rows clubs (line ∷ lines) =
    ap (λ qs. qs ++ flat_map (questions_of_line clubs) lines) (line_by_rows line 0 clubs)
    ∙ ap (λ qs. flat_map both_of (answer_rows_of clubs line) ++ qs) (lines_by_rows clubs lines)
    ∙ sym (flat_map_both (answer_rows_of clubs line) (flat_map (answer_rows_of clubs) lines))

-- two questions a row
length-both : (rows : List AnswerRow) → length (flat_map both_of rows) ≡ 2 * length rows
length-both [] = omega arith
length-both (row ∷ rows) = omega (arith, length-both rows)

-- a row's questions stand at twice its place and after
both_at : (rows : List AnswerRow) (i : ℕ) (row : AnswerRow) → slice_get rows i ≡ Some row
    → (slice_get (flat_map both_of rows) (2 * i) ≡ Some (full_question row.club row.line Inside))
    × (slice_get (flat_map both_of rows) (2 * i + 1)
    ≡ Some (full_question row.club row.line Outside))
both_at [] i row is = absurd (cc)
both_at (first ∷ rows) zero row is =
    let same : first ≡ row = cc in (
      ap (λ r. Some (full_question r.club r.line Inside)) same,
      ap (λ r. Some (full_question r.club r.line Outside)) same,
    )
both_at (first ∷ rows) (suc i) row is =
    let rest = both_at rows i row is in
    let here : 2 * suc i ≡ suc (suc (2 * i)) = omega arith in
    let there : 2 * suc i + 1 ≡ suc (suc (2 * i + 1)) = omega arith in (
      ap (slice_get (flat_map both_of (first ∷ rows))) here ∙ rest.0,
      ap (slice_get (flat_map both_of (first ∷ rows))) there ∙ rest.1,
    )

-- as many questions as two a row
pub two_a_row : (sheet : Sheet) → length (questions_of sheet) ≡ 2 * length (answer_rows sheet)
two_a_row sheet =
    ap (λ (qs : List Question). length qs) (lines_by_rows (length sheet.clubs) sheet.lines)
    ∙ length-both (answer_rows sheet)

-- both questions of each row stand where they are looked for
pub asks_both : (pool : PoolView) (i : ℕ) (d : AnswerRow)
    → pool.questions ≡ questions_of pool.sheet → i < length (answer_rows pool.sheet)
    → AsksBoth pool (2 * i) (get_or (answer_rows pool.sheet) i d)
asks_both pool i d asked inside =
    let rows = answer_rows pool.sheet in
    let row = get_or rows i d in
    let both = both_at rows i row (slice_get-get_or rows i d inside) in
    let are : pool.questions ≡ flat_map both_of rows =
    asked ∙ lines_by_rows (length pool.sheet.clubs) pool.sheet.lines in
    record {
      inside = ap (λ (qs : List Question). slice_get qs (2 * i)) are ∙ both.0;
      outside = ap (λ (qs : List Question). slice_get qs (2 * i + 1)) are ∙ both.1;
    }

-- ---- verdicts

-- a refutation shows that its question has no example
lost_shown : (sheet : Sheet) (season : Results) (line club : ℕ) (lines : List ProofLine)
    → club < length sheet.clubs
    → RefutesIfAsked true sheet season (full_question club line Inside) lines
    → IsLost sheet season club line
lost_shown sheet season line club lines inside shows =
    refutation_is_true sheet season (full_question club line Inside) shows.1.0 inside shows.1.1

clinched_shown : (sheet : Sheet) (season : Results) (line club : ℕ) (lines : List ProofLine)
    → club < length sheet.clubs
    → RefutesIfAsked true sheet season (full_question club line Outside) lines
    → IsClinched sheet season club line
clinched_shown sheet season line club lines inside shows =
    refutation_is_true sheet season (full_question club line Outside) shows.1.0 inside shows.1.1

-- the word and its lines, by what is known
pub shown_by : (sheet : Sheet) (season : Results) (line club : ℕ) (inside outside : PartKind)
    (first second : List ProofLine) → club < length sheet.clubs
    → IsPart sheet season (full_question club line Inside) inside first
    → IsPart sheet season (full_question club line Outside) outside second
    → IsItemShown true sheet season line club (word_by inside outside)
    (proof_by (word_by inside outside) first second)
shown_by sheet season line club Refuted outside first second club_in one two =
    (lost_shown sheet season line club first club_in one, one)
shown_by sheet season line club Won Refuted first second club_in one two =
    (clinched_shown sheet season line club second club_in two, two)
shown_by sheet season line club Won Won first second club_in one two =
    (first, second, refl, one, two)
shown_by sheet season line club Won Spent first second club_in one two =
    (false, true, refl, (first, second, refl, one, two))
shown_by sheet season line club Spent Refuted first second club_in one two =
    (clinched_shown sheet season line club second club_in two, two)
shown_by sheet season line club Spent Won first second club_in one two =
    (true, false, refl, (first, second, refl, one, two))
shown_by sheet season line club Spent Spent first second club_in one two =
    (true, true, refl, (first, second, refl, one, two))

-- if nothing is spent nothing is unsettled
known_by : (inside outside : PartKind) → inside ≢ Spent → outside ≢ Spent
    → word_by inside outside ≢ Unsettled
known_by Refuted outside one two = λ e. cc
known_by Won Refuted one two = λ e. cc
known_by Won Won one two = λ e. cc
known_by Won Spent one two = λ e. two refl
known_by Spent Refuted one two = λ e. one refl
known_by Spent Won one two = λ e. one refl
known_by Spent Spent one two = λ e. one refl

-- a verdict about a row's club, with such lines
in_range_of : (sheet : Sheet) (question : Question) (row : AnswerRow) (word : Word)
    (proof : Vec ProofLine Global) → question ≡ full_question row.club row.line Inside
    → row.club < length sheet.clubs → list_all is_in_range proof.items ≡ true
    → IsInRange is_in_range sheet (record {
      line = question.line;
      club = question.club;
      word = word;
      proof = proof;
    })
in_range_of sheet question row word proof is club_in all =
    let P : ℕ → Type 0 = λ club. club < length sheet.clubs in
    record {
      club = subst P (sym (ap (λ (q : Question). q.club) is)) club_in;
      lines = all_lines proof.items all;
    }

-- the verdict of a row whose questions have these parts
pub answered_by : (pool : PoolView) (row : AnswerRow) (question : Question)
    (inside outside : Part ProofLine)
    (proof : Vec ProofLine Global) → question ≡ full_question row.club row.line Inside
    → row.club < length pool.sheet.clubs
    → IsAnswerPart pool.sheet pool.season (full_question row.club row.line Inside) inside
    → IsAnswerPart pool.sheet pool.season (full_question row.club row.line Outside) outside
    → (IsEnough pool.sheet pool.season → inside.kind ≢ Spent)
    → (IsEnough pool.sheet pool.season → outside.kind ≢ Spent)
    → proof.items ≡ proof_by (word_by inside.kind outside.kind) inside.lines.items
    outside.lines.items
    → IsAnswered pool row (record {
      line = question.line;
      club = question.club;
      word = word_by inside.kind outside.kind;
      proof = proof;
    })
answered_by pool row question inside outside proof is club_in one two few_one few_two are =
    let word = word_by inside.kind outside.kind in
    let inside_word = word in
    let P : List ProofLine → Type 0 =
    λ lines. IsItemShown true pool.sheet pool.season row.line row.club word lines in
    let Q : Question → Type 0 = λ q. IsItemShown true pool.sheet pool.season q.line q.club word
    proof.items in
    record {
      is_row = ap (λ q. record { line = q.line; club = q.club }) is;
      shown = subst Q (sym is) (subst P (sym are) (shown_by pool.sheet pool.season row.line row.club
          inside.kind outside.kind inside.lines.items outside.lines.items club_in one.shows
          two.shows));
      in_range = in_range_of pool.sheet question row inside_word proof is club_in
          (ap (list_all is_in_range) are
          ∙ range_by word inside.lines.items outside.lines.items one.in_range two.in_range);
      enough = λ great. known_by inside.kind outside.kind (few_one great) (few_two great);
    }

-- the verdict of a row whose `Inside` is refuted
pub answered_lost : (pool : PoolView) (row : AnswerRow) (question : Question)
    (inside : Part ProofLine)
    → question ≡ full_question row.club row.line Inside → row.club < length pool.sheet.clubs
    → IsAnswerPart pool.sheet pool.season (full_question row.club row.line Inside) inside
    → inside.kind ≡ Refuted
    → IsAnswered pool row (record {
      line = question.line;
      club = question.club;
      word = Lost;
      proof = inside.lines;
    })
answered_lost pool row question inside is club_in one known =
    let R : PartKind → Type 0 = λ k. IsPart pool.sheet pool.season
    (full_question row.club row.line Inside) k inside.lines.items in
    let shows = subst R known one.shows in
    let Q : Question → Type 0 = λ q. IsItemShown true pool.sheet pool.season q.line q.club Lost
    inside.lines.items in
    record {
      is_row = ap (λ q. record { line = q.line; club = q.club }) is;
      shown = subst Q (sym is) (
        lost_shown pool.sheet pool.season row.line row.club inside.lines.items club_in shows,
        shows,
      );
      in_range = in_range_of pool.sheet question row Lost inside.lines is club_in one.in_range;
      enough = λ great e. cc;
    }

-- the verdict of a row whose `Outside` is refuted
pub answered_clinched : (pool : PoolView) (row : AnswerRow) (question : Question)
    (outside : Part ProofLine)
    → question ≡ full_question row.club row.line Inside → row.club < length pool.sheet.clubs
    → IsRefutedPart pool.sheet pool.season (full_question row.club row.line Outside) outside
    → IsAnswered pool row (record {
      line = question.line;
      club = question.club;
      word = Clinched;
      proof = outside.lines;
    })
answered_clinched pool row question outside is club_in two =
    let R : PartKind → Type 0 = λ k. IsPart pool.sheet pool.season
    (full_question row.club row.line Outside) k outside.lines.items in
    let shows = subst R two.kind two.part_of.shows in
    let Q : Question → Type 0 = λ q. IsItemShown true pool.sheet pool.season q.line q.club
    Clinched outside.lines.items in
    record {
      is_row = ap (λ q. record { line = q.line; club = q.club }) is;
      shown = subst Q (sym is) (
        clinched_shown pool.sheet pool.season row.line row.club outside.lines.items club_in
            shows,
        shows,
      );
      in_range = in_range_of pool.sheet question row Clinched outside.lines is club_in
          two.part_of.in_range;
      enough = λ great e. cc;
    }

-- ---- places

-- the question at a place of a list
abbrev pub asked_at : List Question → ℕ → Question
asked_at questions place =
    get_or questions place
    (record { club = 0; line = 0; claim = Inside; low = pos 0; high = pos 0 })

-- at the place of a row it is the question of `Inside`
pub asks_inside : (pool : PoolView) (place : ℕ) (row : AnswerRow) (questions : List Question)
    → questions ≡ pool.questions → AsksBoth pool place row
    → asked_at questions place ≡ full_question row.club row.line Inside
asks_inside pool place row questions same asks =
    ap (λ (qs : List Question). asked_at qs place) same
    ∙ get_or_from_slice_get pool.questions place (full_question row.club row.line Inside) _
    asks.inside

-- a row is about one of the clubs
pub row_club : (pool : PoolView) (place : ℕ) (row : AnswerRow) → IsSoundPool pool
    → AsksBoth pool place row → row.club < length pool.sheet.clubs
row_club pool place row sound asks =
    let question = full_question row.club row.line Inside in
    let P : Question → Type 0 = λ q. IsQuestionOf pool.sheet q in
    (subst P (get_or_from_slice_get pool.questions place question question asks.inside)
    (sound.questions place question
    (slice_get_within pool.questions place question asks.inside))).club

-- if the second question of a row is refuted, the first one is not
pub not_refuted_too : (pool : PoolView) (place : ℕ) (row : AnswerRow) (outside : Part ProofLine)
    (seat : QuestionState) → IsSoundPool pool → AsksBoth pool place row
    → IsRefutedPart pool.sheet pool.season (full_question row.club row.line Outside) outside
    → slice_get pool.seats place ≡ Some seat → answer_of pool.sheet seat ≡ answer.Refuted → ⊥
not_refuted_too pool place row outside seat sound asks two there answered =
    let club_in = row_club pool place row sound asks in
    let league = pool_league pool sound in
    let results = pool_results pool sound in
    let question = full_question row.club row.line Inside in
    let R : PartKind → Type 0 = λ k. IsPart pool.sheet pool.season
    (full_question row.club row.line Outside) k outside.lines.items in
    let Q : Question → Type 0 = λ q. IsRefutationTree pool.sheet pool.season q seat.tree in
    clinched_or_lost pool.sheet pool.season row.club row.line sound.limits results club_in
    (clinched_shown pool.sheet pool.season row.line row.club outside.lines.items club_in
    (subst R two.kind two.part_of.shows))
    (refutation_is_true pool.sheet pool.season question seat.tree club_in
    (subst Q (question_at pool place seat question sound there asks.inside)
    (refutes_seat pool.sheet pool.season seat league results
    (seat_meets (IsGoodSeat pool.sheet pool.season) pool.seats place seat sound.seats there)
    (refuted_is pool.sheet seat answered).1)))

-- ---- row by row

-- the verdicts of the first rows
pub record AreAnswered (pool : PoolView) (count : ℕ) (verdicts : List (Verdict ProofLine)) :
    Type 0 where
  pub rows : map answer_row verdicts ≡ take count (answer_rows pool.sheet)
  pub each : All (IsShownVerdict pool.sheet pool.season) verdicts
  pub in_range : AreInRange is_in_range pool.sheet verdicts
  pub enough : AreKnownIfEnough pool.sheet pool.season verdicts
  pub of_pool : AreOfPool pool verdicts

-- none yet
pub none_answered : (pool : PoolView) → AreAnswered pool 0 []
none_answered pool = record {
  rows = refl;
  each = All-nil (IsShownVerdict pool.sheet pool.season);
  in_range = All-nil (IsInRange is_in_range pool.sheet);
  enough = λ great. All-nil (λ (v : Verdict ProofLine). v.word ≢ Unsettled);
  of_pool = none_of_pool pool;
}

-- one more
pub one_answered : (pool : PoolView) (count : ℕ) (verdicts after : List (Verdict ProofLine))
    (verdict : Verdict ProofLine) (d : AnswerRow) → count < length (answer_rows pool.sheet)
    → AreAnswered pool count verdicts
    → IsAnswered pool (get_or (answer_rows pool.sheet) count d) verdict
    → IsOfPool pool (2 * count) verdict
    → after ≡ verdicts ++ verdict ∷ [] → AreAnswered pool (count + 1) after
one_answered pool count verdicts after verdict d inside so_far one of_pool are =
    let rows = answer_rows pool.sheet in
    let many : length verdicts ≡ count =
    sym (length-map verdicts answer_row)
    ∙ ap (λ (rs : List AnswerRow). length rs) so_far.rows
    ∙ length-take-le count rows (omega arith) in
    let P : List (Verdict ProofLine) → Type 0 = λ vs. AreAnswered pool (count + 1) vs in
    subst P (sym are) (record {
      rows = map-append answer_row verdicts (verdict ∷ [])
          ∙ ap (λ rs. rs ++ answer_row verdict ∷ []) so_far.rows
          ∙ ap (λ row. take count rows ++ row ∷ []) one.is_row
          ∙ sym (take_more rows count d inside);
      each = All-append (IsShownVerdict pool.sheet pool.season) verdicts (verdict ∷ []) so_far.each
          (All-cons (IsShownVerdict pool.sheet pool.season) verdict [] one.shown
          (All-nil (IsShownVerdict pool.sheet pool.season)));
      in_range =
          All-append (IsInRange is_in_range pool.sheet) verdicts (verdict ∷ []) so_far.in_range
          (All-cons (IsInRange is_in_range pool.sheet) verdict [] one.in_range
          (All-nil (IsInRange is_in_range pool.sheet)));
      enough = λ great.
          let K : Verdict ProofLine → Type 0 = λ v. v.word ≢ Unsettled in
          All-append K verdicts (verdict ∷ []) (so_far.enough great)
          (All-cons K verdict [] (one.enough great) (All-nil K));
      of_pool = pushed_of_pool pool count verdicts verdict many so_far.of_pool of_pool;
    })

-- all rows are there
pub all_answered : (pool : PoolView) (count : ℕ) (verdicts : List (Verdict ProofLine))
    → AreAnswered pool count verdicts → length (answer_rows pool.sheet) ≤ count
    → AreVerdictsOf pool.sheet pool.season verdicts
all_answered pool count verdicts so_far all = record {
  rows = so_far.rows ∙ take_all count (answer_rows pool.sheet) all;
  each = so_far.each;
}
