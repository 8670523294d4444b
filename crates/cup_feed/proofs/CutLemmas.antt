-- Scores and deductions that are written one after another, and seasons that are cut group by
-- group.
use Rattle.std.proofs.Common.{◌≡◌, ◌<◌, ℕ, zero, suc, ◌+◌, Bool, true, List, [], ◌∷◌, ◌++◌}
use Rattle.std.proofs.Common.{length, take, drop, refl, sym, ap, ◌∙◌, arith}
use Rattle.std.proofs.Common.{nat_le, slice_index_or, Option, None, ◌-◌, append_assoc}
use Rattle.std.specs.Prelude.{slice_set}
use Rattle.std.specs.List.{list_all}
use Rattle.std.proofs.lemmas.Bool.{and_parts, and_from}
use Rattle.std.proofs.lemmas.List.{length-drop, drop-drop}
use Rattle.league_core.specs.declared.sheet.Sheet.{Sheet}
use Rattle.league_core.specs.declared.season.Score.{Score}
use Rattle.league_core.specs.game.Results.{Results, are_results, is_score_or_none}
use Rattle.cup_sheet.specs.Cups.{clubs_together}
use Rattle.cup_sheet.specs.CupFeeds.{results_by_group}
use Rattle.cup_feed.specs.inside.GroupLimits.{fixtures_together}

-- what all pass, the first so many pass
pub list_all-take : {X : Type 0} (p : X → Bool) (n : ℕ) (xs : List X) → list_all p xs ≡ true
    → list_all p (take n xs) ≡ true
list_all-take p zero xs all = refl
list_all-take p (suc n) [] all = refl
list_all-take p (suc n) (x ∷ xs) all =
    let both = and_parts (p x) (list_all p xs) all in
    and_from (p x) (list_all p (take n xs)) both.0 (list_all-take p n xs both.1)

-- those behind them
pub list_all-drop : {X : Type 0} (p : X → Bool) (n : ℕ) (xs : List X) → list_all p xs ≡ true
    → list_all p (drop n xs) ≡ true
list_all-drop p zero xs all = all
list_all-drop p (suc n) [] all = refl
list_all-drop p (suc n) (x ∷ xs) all =
    list_all-drop p n xs (and_parts (p x) (list_all p xs) all).1

-- ---- what is written one after another

-- one more of a list is written over another
set_written : {X : Type 0} (xs old : List X) (i : ℕ) (d : X) → length old ≡ length xs
    → i < length xs
    → slice_set (take i xs ++ drop i old) i (slice_index_or xs i d)
    ≡ take (suc i) xs ++ drop (suc i) old
set_written [] old i d same below = absurd (omega (arith, below))
set_written (x ∷ xs) [] i d same below = absurd (omega (arith, same))
set_written (x ∷ xs) (first ∷ old) zero d same below = refl
set_written (x ∷ xs) (first ∷ old) (suc i) d same below =
    ap (λ rest. x ∷ rest) (set_written xs old i d (omega (arith, same)) (omega (arith, below)))

written_next : {X : Type 0} (xs old : List X) (i : ℕ) (d : X) → length old ≡ length xs
    → i < length xs
    → slice_set (take i xs ++ drop i old) i (slice_index_or xs i d)
    ≡ take (i + 1) xs ++ drop (i + 1) old
written_next xs old i d same below =
    let next : suc i ≡ i + 1 = omega arith in
    set_written xs old i d same below ∙ ap (λ n. take n xs ++ drop n old) next

-- one score more
pub score_written : (xs : List (Option Score)) (i at : ℕ) (first so_far next : Results)
    → length first.scores ≡ length xs → i < length xs → at ≡ i
    → so_far ≡ record first { scores = take i xs ++ drop i first.scores }
    → next ≡ record so_far { scores = slice_set so_far.scores at (slice_index_or xs i None) }
    → next ≡ record first { scores = take (i + 1) xs ++ drop (i + 1) first.scores }
score_written xs i at first so_far next same below is_at is written =
    written
    ∙ ap (λ (it : Results).
    record it { scores = slice_set it.scores at (slice_index_or xs i None) }) is
    ∙ ap (λ n. record first {
      scores =
          slice_set (take i xs ++ drop i first.scores) n (slice_index_or xs i None);
    }) is_at
    ∙ ap (λ it. record first { scores = it }) (written_next xs first.scores i None same below)

-- one deduction more
pub deduction_written : (xs : List ℕ) (i at : ℕ) (first so_far next : Results)
    → length first.deductions ≡ length xs → i < length xs → at ≡ i
    → so_far ≡ record first { deductions = take i xs ++ drop i first.deductions }
    → next ≡ record so_far { deductions = slice_set so_far.deductions at (slice_index_or xs i 0) }
    → next ≡ record first { deductions = take (i + 1) xs ++ drop (i + 1) first.deductions }
deduction_written xs i at first so_far next same below is_at is written =
    written
    ∙ ap (λ (it : Results).
    record it { deductions = slice_set it.deductions at (slice_index_or xs i 0) }) is
    ∙ ap (λ n. record first {
      deductions =
          slice_set (take i xs ++ drop i first.deductions) n (slice_index_or xs i 0);
    }) is_at
    ∙ ap (λ it. record first { deductions = it }) (written_next xs first.deductions i 0 same below)

-- ---- one group more

-- what is left of results that may be may be
pub results_left : (results : Results) (many few fixture club : ℕ) → are_results results ≡ true
    → are_results (record {
      scores = take many (drop fixture results.scores);
      deductions = take few (drop club results.deductions);
    }) ≡ true
results_left results many few fixture club may_be =
    let low : ℕ → Bool = λ points. nat_le points 99 in
    let both = and_parts (list_all is_score_or_none results.scores)
    (list_all low results.deductions) may_be in
    and_from (list_all is_score_or_none (take many (drop fixture results.scores)))
    (list_all low (take few (drop club results.deductions)))
    (list_all-take is_score_or_none many (drop fixture results.scores)
    (list_all-drop is_score_or_none fixture results.scores both.0))
    (list_all-take low few (drop club results.deductions)
    (list_all-drop low club results.deductions both.1))

-- all that is left of a list
all_left : {X : Type 0} (n : ℕ) (xs : List X)
    → take (length xs - n) (drop n xs) ≡ drop n xs
all_left n xs =
    ap (λ many. take many (drop n xs)) (sym (length-drop n xs)) ∙ take_whole (drop n xs)
  where
    take_whole : {X : Type 0} (xs : List X) → take (length xs) xs ≡ xs
    take_whole [] = refl
    take_whole (x ∷ xs) = ap (λ rest. x ∷ rest) (take_whole xs)

-- the seasons so far, and those of the groups from a place on out of what is left
abbrev pub IsCutSoFar : List Sheet → Results → List Results → ℕ → ℕ → ℕ → Type 0
IsCutSoFar groups results seasons i fixture club =
    (results_by_group groups results
    ≡ seasons ++ results_by_group (drop i groups) (record {
      scores = drop fixture results.scores;
      deductions = drop club results.deductions;
    }))
    × (fixture + fixtures_together (drop i groups) ≡ length results.scores)
    × (club + clubs_together (drop i groups) ≡ length results.deductions)

-- an element of a list and what is behind it
drop_here : {X : Type 0} (xs : List X) (i : ℕ) (d : X) → i < length xs
    → drop i xs ≡ slice_index_or xs i d ∷ drop (suc i) xs
drop_here [] i d below = absurd (omega (arith, below))
drop_here (x ∷ xs) zero d below = refl
drop_here (x ∷ xs) (suc i) d below = drop_here xs i d (omega (arith, below))

-- one season more
pub cut_next : (groups : List Sheet) (results : Results) (seasons next : List Results)
    (i fixture club fixtures clubs : ℕ) (group : Sheet) (own : Results)
    → IsCutSoFar groups results seasons i fixture club → i < length groups
    → group ≡ slice_index_or groups i group → fixtures ≡ length group.fixtures
    → clubs ≡ length group.clubs
    → own ≡ record {
      scores = take (length group.fixtures)
          (take (length results.scores - fixture) (drop fixture results.scores));
      deductions = take (length group.clubs)
          (take (length results.deductions - club) (drop club results.deductions));
    }
    → next ≡ seasons ++ own ∷ []
    → IsCutSoFar groups results next (i + 1) (fixture + fixtures) (club + clubs)
cut_next groups results seasons next i fixture club fixtures clubs group own so_far below is
    are_fixtures are_clubs own_is next_is =
    let scores = drop fixture results.scores in
    let taken = drop club results.deductions in
    let after = drop (i + 1) groups in
    let step : suc i ≡ i + 1 = omega arith in
    let here : drop i groups ≡ group ∷ after =
    drop_here groups i group below ∙ ap (λ it. it ∷ drop (suc i) groups) (sym is)
    ∙ ap (λ n. group ∷ drop n groups) step in
    let mine : Results = record {
      scores = take (length group.fixtures) scores;
      deductions = take (length group.clubs) taken;
    } in
    let own_same : own ≡ mine =
    own_is
    ∙ ap (λ it. record {
      scores = take (length group.fixtures) it;
      deductions = take (length group.clubs)
          (take (length results.deductions - club) taken);
    }) (all_left fixture results.scores)
    ∙ ap (λ it. record {
      scores = take (length group.fixtures) scores;
      deductions = take (length group.clubs) it;
    }) (all_left club results.deductions) in
    let scores_left : drop (length group.fixtures) scores
    ≡ drop (fixture + fixtures) results.scores =
    drop-drop (length group.fixtures) fixture results.scores
    ∙ ap (λ n. drop (fixture + n) results.scores) (sym are_fixtures) in
    let taken_left : drop (length group.clubs) taken ≡ drop (club + clubs) results.deductions =
    drop-drop (length group.clubs) club results.deductions
    ∙ ap (λ n. drop (club + n) results.deductions) (sym are_clubs) in
    let rest = results_by_group after (record {
      scores = drop (fixture + fixtures) results.scores;
      deductions = drop (club + clubs) results.deductions;
    }) in (
      so_far.0
          ∙ ap (λ it. seasons ++ results_by_group it
          (record { scores = scores; deductions = taken })) here
          ∙ ap (λ it. seasons ++ mine ∷ results_by_group after (record {
            scores = it;
            deductions = drop (length group.clubs) taken;
          })) scores_left
          ∙ ap (λ it. seasons ++ mine ∷ results_by_group after (record {
            scores = drop (fixture + fixtures) results.scores;
            deductions = it;
          })) taken_left
          ∙ sym (append_assoc seasons (mine ∷ []) rest)
          ∙ ap (λ it. it ++ rest) (ap (λ it. seasons ++ it ∷ []) (sym own_same) ∙ sym next_is),
      omega (arith, so_far.1, ap fixtures_together here, are_fixtures),
      omega (arith, so_far.2, ap clubs_together here, are_clubs),
    )
