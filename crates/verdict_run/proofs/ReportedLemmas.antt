-- A season that is reported to a new pool: the deductions club by club, then the scores fixture by
-- fixture.
use Rattle.std.proofs.Common.{◌≡◌, ℕ, zero, suc, ◌+◌, ◌<◌, ◌≤◌, true, List, [], ◌∷◌, length, refl}
use Rattle.std.proofs.Common.{ap}
use Rattle.std.proofs.Common.{sym, ◌∙◌, arith, set, get_or, map, add-one, Some, None}
use Rattle.std.proofs.Common.{nat_le}
use Rattle.std.proofs.Common.{subst}
use Rattle.std.specs.Prelude.{replicate, All}
use Rattle.std.specs.List.{list_all}
use Rattle.std.proofs.lemmas.Bool.{and_parts, leb-true}
use Rattle.std.proofs.lemmas.List.{length-replicate, length_push}
use Rattle.std.proofs.lemmas.List.Elements.{All-nil, All-cons}
use Rattle.league_core.specs.declared.sheet.Sheet.{Sheet}
use Rattle.league_core.specs.declared.season.Score.{Score}
use Rattle.league_core.specs.declared.season.Event.{Event}
use Rattle.league_core.specs.declared.season.Event.TheVariants.{Set, Deduct}
use Rattle.league_core.specs.declared.question.Question.{Question}
use Rattle.league_core.specs.game.Results.{Results, are_results, is_score_or_none}
use Rattle.league_core.specs.game.Seasons.{event_applied}
use Rattle.tree_reuse.specs.Retargets.{retargeted}
use Rattle.branch_pool.specs.declared.question_state.QuestionState.{QuestionState}
use Rattle.branch_pool.specs.inside.States.{PoolView, new_seat}
use Rattle.branch_pool.specs.inside.Steps.{Changes, seat_changed}
use Rattle.answer_rows.specs.declared.solved.Solved.{Solved}
use Rattle.answer_rows.specs.NewTrees.{is_all_new}
use Rattle.verdict_run.specs.inside.Working.{AreAllNew}
use Rattle.verdict_run.specs.inside.Solving.{IsSolved}
use Rattle.verdict_run.specs.inside.SeasonReports.{reported, season_reported, HasBeenReported}

-- as long as the list that is reported
pub length-reported : {A : Type 0} (count : ℕ) (none : A) (xs : List A)
    → length (reported count none xs) ≡ length xs
length-reported zero none xs = length-replicate (length xs) none
length-reported (suc count) none [] = refl
length-reported (suc count) none (x ∷ xs) = ap suc (length-reported count none xs)

-- all is reported
pub reported-all : {A : Type 0} (none : A) (xs : List A) → reported (length xs) none xs ≡ xs
reported-all none [] = refl
reported-all none (x ∷ xs) = ap (λ rest. x ∷ rest) (reported-all none xs)

-- one more is reported
set-reported : {A : Type 0} (count : ℕ) (none d : A) (xs : List A) → count < length xs
    → set (reported count none xs) count (get_or xs count d) ≡ reported (suc count) none xs
set-reported count none d [] inside = absurd (omega (arith, inside))
set-reported zero none d (x ∷ xs) inside = refl
set-reported (suc count) none d (x ∷ xs) inside =
    ap (λ rest. x ∷ rest) (set-reported count none d xs (omega (arith, inside)))

pub reported-set : {A : Type 0} (count : ℕ) (none d : A) (xs : List A) → count < length xs
    → set (reported count none xs) count (get_or xs count d) ≡ reported (count + 1) none xs
reported-set count none d xs inside =
    set-reported count none d xs inside ∙ ap (λ n. reported n none xs) (sym (add-one count))

-- what is not reported stands there already
same-reported : {A : Type 0} (count : ℕ) (none d : A) (xs : List A) → count < length xs
    → get_or xs count d ≡ none → reported (suc count) none xs ≡ reported count none xs
same-reported count none d [] inside is = absurd (omega (arith, inside))
same-reported zero none d (x ∷ xs) inside is = ap (λ y. y ∷ replicate (length xs) none) is
same-reported (suc count) none d (x ∷ xs) inside is =
    ap (λ rest. x ∷ rest) (same-reported count none d xs (omega (arith, inside)) is)

pub reported-same : {A : Type 0} (count : ℕ) (none d : A) (xs : List A) → count < length xs
    → get_or xs count d ≡ none → reported (count + 1) none xs ≡ reported count none xs
reported-same count none d xs inside is =
    ap (λ n. reported n none xs) (add-one count) ∙ same-reported count none d xs inside is

-- ---- seasons

-- a question without work stays one
seat_unreported : (sheet : Sheet) (season : Results) (question : Question)
    → seat_changed sheet season (new_seat question) ≡ new_seat question
unfolding retargeted
seat_unreported sheet season question = refl

-- so do all of them
seats_unreported : (sheet : Sheet) (season : Results) (questions : List Question)
    → map (seat_changed sheet season) (map new_seat questions) ≡ map new_seat questions
seats_unreported sheet season [] = refl
seats_unreported sheet season (question ∷ questions) =
    ap (λ seat. seat ∷ map (seat_changed sheet season) (map new_seat questions))
    (seat_unreported sheet season question)
    ∙ ap (λ seats. new_seat question ∷ seats) (seats_unreported sheet season questions)

-- an event leaves a pool on which no work was done as it is but for the season
pub unworked_changed : (event : Event) (old new : PoolView) → Changes old event new
    → old.seats ≡ map new_seat old.questions → new.seats ≡ map new_seat new.questions
unworked_changed event old new changes unworked =
    ap (λ pool. pool.seats) changes.after
    ∙ ap (map (seat_changed old.sheet (event_applied old.season event))) unworked
    ∙ seats_unreported old.sheet (event_applied old.season event) old.questions
    ∙ ap (map new_seat) (sym (ap (λ pool. pool.questions) changes.after))

-- the pool after an event, if the event reports the next club or fixture
change_reported : (whole : Results) (clubs fixtures more_clubs more_fixtures : ℕ) (event : Event)
    (old new : PoolView) → HasBeenReported whole clubs fixtures old → Changes old event new
    → event_applied (season_reported clubs fixtures whole) event
    ≡ season_reported more_clubs more_fixtures whole
    → clubs + fixtures + 1 ≡ more_clubs + more_fixtures
    → HasBeenReported whole more_clubs more_fixtures new
change_reported whole clubs fixtures more_clubs more_fixtures event old new so_far changes is one =
    let after = changes.after in
    record {
      season = ap (λ pool. pool.season) after ∙ ap (λ s. event_applied s event) so_far.season
          ∙ is;
      seats = unworked_changed event old new changes so_far.seats;
      loans = ap (λ pool. pool.loans) after ∙ so_far.loans;
      events =
          let more : length new.log ≡ length old.log + 1 =
          ap (λ pool. length pool.log) after ∙ length_push old.log event in
          let few = so_far.events in
          omega (arith, more, few, one);
    }

-- a deduction is reported
pub deduction_reported : (whole : Results) (club points : ℕ) (old new : PoolView)
    → club < length whole.deductions → points ≡ get_or whole.deductions club 0
    → HasBeenReported whole club 0 old → Changes old (Deduct club points) new
    → HasBeenReported whole (club + 1) 0 new
deduction_reported whole club points old new inside is so_far changes =
    change_reported whole club 0 (club + 1) 0 (Deduct club points) old new so_far changes
    (ap (λ ds. record { scores = reported 0 None whole.scores; deductions = ds })
    (ap (set
    (reported club 0 whole.deductions) club) is ∙ reported-set club 0 0 whole.deductions inside))
    (omega arith)

-- a club without one
pub deduction_none : (whole : Results) (club : ℕ) (pool : PoolView)
    → club < length whole.deductions → get_or whole.deductions club 0 ≡ 0
    → HasBeenReported whole club 0 pool → HasBeenReported whole (club + 1) 0 pool
deduction_none whole club pool inside none so_far = record {
  season = so_far.season
      ∙ ap (λ ds. record { scores = reported 0 None whole.scores; deductions = ds })
      (sym (reported-same club 0 0 whole.deductions inside none));
  seats = so_far.seats;
  loans = so_far.loans;
  events = let few = so_far.events in omega (arith, few);
}

-- a score is reported
pub score_reported : (whole : Results) (clubs fixture : ℕ) (score : Score) (old new : PoolView)
    → fixture < length whole.scores → get_or whole.scores fixture None ≡ Some score
    → HasBeenReported whole clubs fixture old → Changes old (Set fixture score) new
    → HasBeenReported whole clubs (fixture + 1) new
score_reported whole clubs fixture score old new inside is so_far changes =
    change_reported whole clubs fixture clubs (fixture + 1)
    (Set fixture score) old new so_far changes
    (ap (λ ss. record { scores = ss; deductions = reported clubs 0 whole.deductions })
    (ap (set (reported fixture None whole.scores) fixture) (sym is)
    ∙ reported-set fixture None None whole.scores inside))
    (omega arith)

-- a fixture without one
pub score_none : (whole : Results) (clubs fixture : ℕ) (pool : PoolView)
    → fixture < length whole.scores → get_or whole.scores fixture None ≡ None
    → HasBeenReported whole clubs fixture pool → HasBeenReported whole clubs (fixture + 1) pool
score_none whole clubs fixture pool inside none so_far = record {
  season = so_far.season
      ∙ ap (λ ss. record { scores = ss; deductions = reported clubs 0 whole.deductions })
      (sym (reported-same fixture None None whole.scores inside none));
  seats = so_far.seats;
  loans = so_far.loans;
  events = let few = so_far.events in omega (arith, few);
}

-- if all is reported, the whole season is
pub whole_reported : (whole : Results)
    → season_reported (length whole.deductions) (length whole.scores) whole ≡ whole
whole_reported whole =
    ap (λ ss. record {
      scores = ss;
      deductions = reported (length whole.deductions) 0 whole.deductions;
    }) (reported-all None whole.scores)
    ∙ ap (λ ds. record { scores = whole.scores; deductions = ds }) (reported-all 0 whole.deductions)

-- a season that is reported has as many fixtures and clubs as the whole one
pub reported_scores : (whole : Results) (clubs fixtures : ℕ) (pool : PoolView)
    → HasBeenReported whole clubs fixtures pool → length pool.season.scores ≡ length whole.scores
reported_scores whole clubs fixtures pool so_far =
    ap (λ season. length season.scores) so_far.season ∙ length-reported fixtures None whole.scores

pub reported_deductions : (whole : Results) (clubs fixtures : ℕ) (pool : PoolView)
    → HasBeenReported whole clubs fixtures pool → length pool.season.deductions ≡ length
    whole.deductions
reported_deductions whole clubs fixtures pool so_far =
    ap (λ season. length season.deductions) so_far.season ∙ length-reported clubs 0 whole.deductions

-- a deduction of results is at most 99
pub deduction_within : (whole : Results) (club : ℕ) → are_results whole ≡ true
    → club < length whole.deductions → get_or whole.deductions club 0 ≤ 99
deduction_within whole club may inside =
    let parts = and_parts (list_all is_score_or_none whole.scores)
    (list_all (λ points. nat_le points 99) whole.deductions) may in
    within whole.deductions club inside parts.1
  where
    within : (points : List ℕ) (i : ℕ) → i < length points
        → list_all (λ p. nat_le p 99) points ≡ true → get_or points i 0 ≤ 99
    within [] i inside all = absurd (omega (arith, inside))
    within (p ∷ points) zero inside all =
        leb-true p 99 (and_parts (nat_le p 99) (list_all (λ q. nat_le q 99) points) all).0
    within (p ∷ points) (suc i) inside all =
        within points i (omega (arith, inside))
        (and_parts (nat_le p 99) (list_all (λ q. nat_le q 99) points) all).1

-- a pool on which no work was done has nothing but open leaves
pub unworked_new : (pool : PoolView) → pool.seats ≡ map new_seat pool.questions → AreAllNew pool
unworked_new pool unworked =
    let New : QuestionState → Type 0 = λ seat. is_all_new seat.tree ≡ true in
    let P : List QuestionState → Type 0 = λ seats. All New seats in
    subst P (sym unworked) (all pool.questions)
  where
    all : (questions : List Question)
        → All (λ (seat : QuestionState). is_all_new seat.tree ≡ true) (map new_seat questions)
    all [] = All-nil (λ (seat : QuestionState). is_all_new seat.tree ≡ true)
    all (question ∷ questions) =
        All-cons (λ (seat : QuestionState). is_all_new seat.tree ≡ true) (new_seat question)
        (map new_seat questions) refl (all questions)

-- so has one to which only a season was reported
pub unreported_new : (whole : Results) (clubs fixtures : ℕ) (pool : PoolView)
    → HasBeenReported whole clubs fixtures pool → AreAllNew pool
unreported_new whole clubs fixtures pool so_far = unworked_new pool so_far.seats

-- what is found of a question is found of an equal one, of an equal season and sheet
pub solved_same : (sheet other : Sheet) (season later : Results) (question : Question)
    (found : Solved) → other ≡ sheet → later ≡ season → IsSolved other later question found
    → IsSolved sheet season question found
solved_same sheet other season later question found same_sheet same_season solved =
    let P : Sheet → Type 0 = λ s. IsSolved s later question found in
    let Q : Results → Type 0 = λ r. IsSolved sheet r question found in
    subst Q same_season (subst P same_sheet solved)
