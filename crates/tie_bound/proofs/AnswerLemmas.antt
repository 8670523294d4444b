-- Answers: what is said of each club of a group in turn, and what the steps of the sure order say.
use Rattle.std.proofs.Common.{◌≡◌, ◌≢◌, ◌⊎◌, inl, inr, ℕ, ◌+◌, ◌<◌, ℤ, pos, neg_ℤ, ◌+ℤ◌, ◌-ℤ◌}
use Rattle.std.proofs.Common.{Bool, true, false, nat_lt, ◌&&◌, ◌||◌, ◌==◌, cond, List, [], ◌∷◌}
use Rattle.std.proofs.Common.{◌++◌}
use Rattle.std.proofs.Common.{slice_index}
use Rattle.std.proofs.Common.{refl, sym, ap, ◌∙◌, arith}
use Rattle.std.proofs.lemmas.Bool.{false≢true, cases_eq, cases_lt, eq-eqb, ne_eqb}
use Rattle.std.proofs.lemmas.Bool.{lt-ltb, le-ltb, cases_Bool}
use Rattle.std.proofs.lemmas.Int.{ints}
use Rattle.league_core.specs.declared.sheet.Sheet.{Sheet}
use Rattle.league_core.proofs.SeenLemmas.{seen_before}
use Rattle.league_core.proofs.WalkLemmas.{stands_after}
use Rattle.league_core.specs.declared.season.Score.{Score}
use Rattle.league_core.specs.declared.sure.Sure.{Sure}
use Rattle.league_core.specs.declared.sure.Sure.TheVariants.{Above, Below, Level, Unknown}
use Rattle.league_core.specs.game.Results.{Results}
use Rattle.league_core.specs.game.Sums.{has_club, match_points, worth_to, worth_among}
use Rattle.league_core.specs.game.Ahead.{rank_of}
use Rattle.league_core.specs.search.PointRanges.{Range, one_value, added, range_from}
use Rattle.league_core.specs.search.PointRanges.{points_together, deducted_from, points_range}
use Rattle.league_core.specs.search.SureOrder.{sure_by_range, sure_by_ranges, sure_then}
use Rattle.league_core.specs.search.SureOrder.{sure_by_points, is_level, is_apart, record_ranges}
use Rattle.league_core.specs.search.SureOrder.{overall_ranges, first_sum_ranges}
use Rattle.tie_criteria.specs.declared.measure.Measure.TheVariants.{Points, Difference, Goals}
use Rattle.tie_criteria.specs.declared.measure.Measure.TheVariants.{AwayGoals, Wins, AwayWins}
use Rattle.tie_criteria.specs.declared.measure.Measure.{Measure}
use Rattle.tie_criteria.specs.inside.Measures.{worth_of}
use Rattle.tie_bound.specs.declared.answer_sets.Answers.{Answers}
use Rattle.tie_bound.specs.declared.parts.Parts.{Parts}
use Rattle.tie_bound.specs.declared.sums.Sums.{Sums}
use Rattle.tie_bound.specs.inside.IntRanges.{as_range}
use Rattle.tie_bound.specs.inside.Sums.{range_by, sums_at}
use Rattle.tie_bound.specs.inside.Tables.{AreSums}
use Rattle.tie_bound.specs.inside.Answers.{record_ranges_of, first_ranges_of, ranges_of}
use Rattle.tie_bound.specs.inside.Answers.{overall_ranges_of, by_table, by_overall_table}
use Rattle.tie_bound.specs.inside.Answers.{is_sure_by}
use Rattle.tie_bound.specs.inside.Answers.{answer_at, AreLevelIn, StepDecides, IsStepIn}

-- an answer is put in the place of one, and the others stay
pub record IsPut (at : ℕ) (answer : Sure) (old new : Answers) : Type 0 where
  pub is : (other : ℕ) → answer_at new other ≡ cond (at == other) answer (answer_at old other)

put_here : (at : ℕ) (answer : Sure) (old new : Answers) → IsPut at answer old new
    → answer_at new at ≡ answer
put_here at answer old new put =
    put.is at ∙ ap (λ b. cond b answer (answer_at old at)) (eq-eqb at at refl)

put_beside : (at club : ℕ) (answer : Sure) (old new : Answers) → IsPut at answer old new
    → club ≢ at → answer_at new club ≡ answer_at old club
put_beside at club answer old new put apart =
    put.is club
    ∙ ap (λ b. cond b answer (answer_at old club)) (ne_eqb at club (λ same. apart (sym same)))

-- what is said of the clubs of a list, and of no others
pub record AreSaidOf (wanted : ℕ → Sure) (seen : List ℕ) (answers : Answers) : Type 0 where
  pub is : (club : ℕ) → answer_at answers club ≡ cond (has_club seen club) (wanted club) Unknown

pub none_said : (wanted : ℕ → Sure) (answers : Answers)
    → ((club : ℕ) → answer_at answers club ≡ Unknown) → AreSaidOf wanted [] answers
none_said wanted answers none = record { is = none }

-- of the next one nothing is said yet
pub next_unsaid : (wanted : ℕ → Sure) (seen : List ℕ) (at : ℕ) (answers : Answers)
    → AreSaidOf wanted seen answers → has_club seen at ≡ false → answer_at answers at ≡ Unknown
next_unsaid wanted seen at answers so_far is_new =
    so_far.is at ∙ ap (λ b. cond b (wanted at) Unknown) is_new

-- one answer more
pub said_more : (wanted : ℕ → Sure) (seen : List ℕ) (at : ℕ) (answer : Sure) (now new : Answers)
    → AreSaidOf wanted seen now → IsPut at answer now new → answer ≡ wanted at
    → AreSaidOf wanted (seen ++ at ∷ []) new
said_more wanted seen at answer now new so_far put same = record {
  is = λ club. by_club club (cases_eq club at);
}
  where
    by_club : (club : ℕ) → (club ≡ at) ⊎ (club ≢ at)
        → answer_at new club ≡ cond (has_club (seen ++ at ∷ []) club) (wanted club) Unknown
    by_club club (inl here) =
        ap (answer_at new) here
        ∙ put_here at answer now new put
        ∙ same
        ∙ ap wanted (sym here)
        ∙ ap (λ b. cond b (wanted club) Unknown)
        (sym (ap (has_club (seen ++ at ∷ [])) here ∙ stands_after seen at []))
    by_club club (inr apart) =
        put_beside at club answer now new put apart
        ∙ so_far.is club
        ∙ ap (λ b. cond b (wanted club) Unknown) (seen_before seen at club apart)

-- a step by something else that says the same of each club of the group
pub step_as : (group : List ℕ) (said next : ℕ → Sure) (old new : Answers)
    → IsStepIn group said old new
    → ((club : ℕ) → has_club group club ≡ true → said club ≡ next club)
    → IsStepIn group next old new
step_as group said next old new step same = record {
  inside = λ club has. step.inside club has
      ∙ ap (sure_then (answer_at old club)) (same club has);
  outside = step.outside;
}

-- a step by what is said of the clubs of a group
pub step_by_said : (wanted : ℕ → Sure) (group : List ℕ) (said old new : Answers)
    → AreSaidOf wanted group said → IsStepIn group (answer_at said) old new
    → IsStepIn group wanted old new
step_by_said wanted group said old new are step =
    step_as group (answer_at said) wanted old new step
    (λ club has. are.is club ∙ ap (λ b. cond b (wanted club) Unknown) has)

-- if an answer is not level the next step changes nothing
pub not_level_keeps : (answer next : Sure) → is_level answer ≡ false
    → sure_then answer next ≡ answer
not_level_keeps Above next is = refl
not_level_keeps Below next is = refl
not_level_keeps Level next is = absurd (false≢true (sym is))
not_level_keeps Unknown next is = refl

pub not_level : (clubs : ℕ) (answers : Answers) (group : List ℕ) (club : ℕ)
    → AreLevelIn clubs answers group → club < clubs → has_club group club ≡ false
    → is_level (answer_at answers club) ≡ false
not_level clubs answers group club level low out =
    sym (ap (λ b. b && is_level (answer_at answers club)) (lt-ltb club clubs low))
    ∙ sym (level club) ∙ out

-- no club outside a group is level
abbrev pub AreOthersDecided : ℕ → Answers → List ℕ → Type 0
AreOthersDecided clubs answers group =
    (club : ℕ) → club < clubs → has_club group club ≡ false
    → is_level (answer_at answers club) ≡ false

pub others_decided : (clubs : ℕ) (answers : Answers) (group : List ℕ)
    → AreLevelIn clubs answers group → AreOthersDecided clubs answers group
others_decided clubs answers group level club low out = not_level clubs answers group club level
    low out

pub others_stay : (clubs : ℕ) (next : ℕ → Sure) (group : List ℕ) (old new : Answers)
    → AreOthersDecided clubs old group → IsStepIn group next old new
    → AreOthersDecided clubs new group
others_stay clubs next group old new decided step club low out =
    ap is_level (step.outside club out) ∙ decided club low out

pub step_decides : (clubs : ℕ) (next : ℕ → Sure) (group : List ℕ) (old new : Answers)
    → AreOthersDecided clubs old group → IsStepIn group next old new
    → StepDecides clubs next old new
step_decides clubs next group old new decided step club low =
    elim (cases_Bool (has_club group club)) as
    (λ _. answer_at new club ≡ sure_then (answer_at old club) (next club)) [
      | inl has ↦ step.inside club has
      | inr out ↦
          step.outside club out
          ∙ sym (not_level_keeps (answer_at old club) (next club) (decided club low out))
    ]

pub is_level-then : (a b : Sure) → is_level (sure_then a b) ≡ (is_level a && is_level b)
is_level-then Above b = refl
is_level-then Below b = refl
is_level-then Level b = refl
is_level-then Unknown b = refl

-- the points of one club
pub points_range-one : (sheet : Sheet) (season : Results) (options : List (List Score)) (club : ℕ)
    → points_range sheet season options (club ∷ []) ≡ added
    (range_from (worth_to match_points club) sheet.fixtures options)
    (one_value (pos 0 -ℤ pos (slice_index season.deductions club)))
points_range-one sheet season options club =
    let alone : points_together (club ∷ []) ≡ worth_to match_points club = λ i match score. without
    (worth_to match_points club match score) i in
    ap (λ v. added (range_from v sheet.fixtures options)
    (one_value (pos 0 -ℤ deducted_from season (club ∷ [])))) alone
    ∙ ap (λ n. added (range_from (worth_to match_points club) sheet.fixtures options)
    (one_value (pos 0 -ℤ n))) (without (pos (slice_index season.deductions club)))
  where
    without : (n : ℤ) → (n +ℤ pos 0) ≡ n
    without n = omega (arith, ints)

-- the records and the sums of a table are those of its club
pub record_ranges_of-is : (sheet : Sheet) (options : List (List Score)) (group : List ℕ)
    (table : List Sums) (club : ℕ) → AreSums (worth_among group) sheet.fixtures options table
    → record_ranges_of (sums_at table club) ≡ record_ranges sheet options group club
record_ranges_of-is sheet options group table club are =
    let points = are.each club Points in
    let difference = are.each club Difference in
    let goals = are.each club Goals in
    (λ j. points j ∷ difference j ∷ goals j ∷ [])

-- of a club whose sums over all matches a table has
abbrev pub HasSums : Sheet → List (List Score) → List Sums → ℕ → Type 0
HasSums sheet options table club =
    (measure : Measure) → range_by (sums_at table club) measure
    ≡ range_from (worth_to (worth_of measure) club) sheet.fixtures options

pub first_ranges_of-is : (sheet : Sheet) (options : List (List Score)) (table : List Sums)
    (club : ℕ)
    → HasSums sheet options table club
    → first_ranges_of (sums_at table club) ≡ first_sum_ranges sheet options club
first_ranges_of-is sheet options table club has =
    let difference = has Difference in
    let goals = has Goals in
    (λ j. difference j ∷ goals j ∷ [])

pub overall_ranges_of-is : (sheet : Sheet) (options : List (List Score)) (table : List Sums)
    (club : ℕ) → HasSums sheet options table club
    → overall_ranges_of (sums_at table club) (rank_of sheet club)
    ≡ overall_ranges sheet options club
overall_ranges_of-is sheet options table club has =
    let difference = has Difference in
    let goals = has Goals in
    let away_goals = has AwayGoals in
    let wins = has Wins in
    let away_wins = has AwayWins in
    (λ j. difference j ∷ goals j ∷ away_goals j ∷ wins j ∷ away_wins j ∷ one_value
    (neg_ℤ (pos (rank_of sheet club))) ∷ [])

-- the test of one club by the sums that were read from the table
pub is_sure_by-read : (parts : Parts) (table : List Sums) (club other : ℕ) (sums own : Sums)
    (sure : Bool) → sums ≡ sums_at table other → own ≡ sums_at table club
    → sure ≡ (is_level (sure_by_ranges (ranges_of parts sums) (ranges_of parts own))
    || is_apart (ranges_of parts sums) (ranges_of parts own))
    → sure ≡ is_sure_by parts table club other
is_sure_by-read parts table club other sums own sure sums_are own_is is =
    is
    ∙ ap (λ (s : Sums). is_level (sure_by_ranges (ranges_of parts s) (ranges_of parts own))
    || is_apart (ranges_of parts s) (ranges_of parts own)) sums_are
    ∙ ap (λ (s : Sums).
    is_level (sure_by_ranges (ranges_of parts (sums_at table other)) (ranges_of parts s))
    || is_apart (ranges_of parts (sums_at table other)) (ranges_of parts s)) own_is

-- the answers by the sums that were read
pub by_table-read : (parts : Parts) (table : List Sums) (club rival : ℕ) (sums own : Sums)
    → sums ≡ sums_at table rival → own ≡ sums_at table club
    → sure_by_ranges (ranges_of parts sums) (ranges_of parts own) ≡ by_table parts table club rival
by_table-read parts table club rival sums own sums_are own_is =
    ap (λ (s : Sums). sure_by_ranges (ranges_of parts s) (ranges_of parts own)) sums_are
    ∙ ap (λ (s : Sums). sure_by_ranges (ranges_of parts (sums_at table rival)) (ranges_of parts s))
    own_is

pub by_overall_table-read : (sheet : Sheet) (table : List Sums) (club rival : ℕ) (sums own : Sums)
    (rank own_rank : ℕ) → sums ≡ sums_at table rival → own ≡ sums_at table club
    → rank ≡ rank_of sheet rival → own_rank ≡ rank_of sheet club
    → sure_by_ranges (overall_ranges_of sums rank) (overall_ranges_of own own_rank)
    ≡ by_overall_table sheet table
    club rival
by_overall_table-read sheet table club rival sums own rank own_rank sums_are own_is rank_is
    own_rank_is =
    ap (λ (s : Sums). sure_by_ranges (overall_ranges_of s rank) (overall_ranges_of own own_rank))
    sums_are
    ∙ ap (λ (n : ℕ). sure_by_ranges (overall_ranges_of (sums_at table rival) n)
    (overall_ranges_of own own_rank))
    rank_is
    ∙ ap (λ (s : Sums). sure_by_ranges
    (overall_ranges_of (sums_at table rival) (rank_of sheet rival))
    (overall_ranges_of s own_rank)) own_is
    ∙ ap (λ (n : ℕ). sure_by_ranges (overall_ranges_of (sums_at table rival) (rank_of sheet rival))
    (overall_ranges_of (sums_at table club) n)) own_rank_is

-- the answer by points, from the points of both that were found
pub by_points-read : (sheet : Sheet) (season : Results) (options : List (List Score))
    (table : List Sums) (rival club : ℕ) (points own : Range)
    → AreSums worth_to sheet.fixtures options table
    → points ≡ added (as_range (sums_at table rival).points)
    (one_value (pos 0 -ℤ pos (slice_index season.deductions rival)))
    → own ≡ added (as_range (sums_at table club).points)
    (one_value (pos 0 -ℤ pos (slice_index season.deductions club)))
    → sure_by_range points own ≡ sure_by_points sheet season options rival club
by_points-read sheet season options table rival club points own are points_are own_are =
    ap (λ r. sure_by_range r own) (whole rival points points_are)
    ∙ ap (sure_by_range (points_range sheet season options (rival ∷ []))) (whole club own own_are)
  where
    whole : (x : ℕ) (range : Range) → range ≡ added (as_range (sums_at table x).points)
        (one_value (pos 0 -ℤ pos (slice_index season.deductions x)))
        → range ≡ points_range sheet season options (x ∷ [])
    whole x range is =
        is
        ∙ ap (λ r. added r (one_value (pos 0 -ℤ pos (slice_index season.deductions x))))
        (are.each x Points)
        ∙ sym (points_range-one sheet season options x)

-- the points of a club by the sums and the season that were read
pub points-read : (read season : Results) (table : List Sums) (club : ℕ) (sums : Sums)
    → read ≡ season → sums ≡ sums_at table club
    → added (as_range sums.points) (one_value (pos 0 -ℤ pos (slice_index read.deductions club))) ≡
    added (as_range (sums_at table club).points)
    (one_value (pos 0 -ℤ pos (slice_index season.deductions club)))
points-read read season table club sums season_is sums_are =
    ap (λ (s : Sums). added (as_range s.points)
    (one_value (pos 0 -ℤ pos (slice_index read.deductions club)))) sums_are
    ∙ ap (λ (r : Results). added (as_range (sums_at table club).points)
    (one_value (pos 0 -ℤ pos (slice_index r.deductions club)))) season_is

-- the answers of the clubs below a number, and of no others
pub record AreAnswersBelow (wanted : ℕ → Sure) (count : ℕ) (answers : Answers) : Type 0 where
  pub is : (club : ℕ) → answer_at answers club ≡ cond (nat_lt club count) (wanted club) Unknown

pub none_below : (wanted : ℕ → Sure) (answers : Answers)
    → ((club : ℕ) → answer_at answers club ≡ Unknown) → AreAnswersBelow wanted 0 answers
none_below wanted answers none = record {
  is = λ club. none club
      ∙ ap (λ b. cond b (wanted club) Unknown) (sym (le-ltb club 0 (omega arith)));
}

-- the next one is open
pub next_open : (wanted : ℕ → Sure) (count : ℕ) (answers : Answers)
    → AreAnswersBelow wanted count answers → answer_at answers count ≡ Unknown
next_open wanted count answers so_far =
    so_far.is count
    ∙ ap (λ b. cond b (wanted count) Unknown) (le-ltb count count (omega arith))

-- one answer more
pub answers_more : (wanted : ℕ → Sure) (count : ℕ) (answer : Sure) (now new : Answers)
    → AreAnswersBelow wanted count now → IsPut count answer now new → answer ≡ wanted count
    → AreAnswersBelow wanted (count + 1) new
answers_more wanted count answer now new so_far put same = record {
  is = λ club. at club (cases_eq club count);
}
  where
    beyond : (club : ℕ) → club ≢ count → nat_lt club count ≡ nat_lt club (count + 1)
    beyond club other =
        elim (cases_lt club count) as (λ _. nat_lt club count ≡ nat_lt club (count + 1)) [
          | inl below ↦ lt-ltb club count below ∙ sym (lt-ltb club (count + 1) (omega arith))
          | inr past ↦
              le-ltb club count past
              ∙ sym (le-ltb club (count + 1) (omega (arith, past, other)))
        ]

    at : (club : ℕ) → (club ≡ count) ⊎ (club ≢ count)
        → answer_at new club ≡ cond (nat_lt club (count + 1)) (wanted club) Unknown
    at club (inl is_next) =
        ap (answer_at new) is_next
        ∙ put_here count answer now new put
        ∙ same
        ∙ ap wanted (sym is_next)
        ∙ ap (λ b. cond b (wanted club) Unknown) (sym (lt-ltb club (count + 1) (omega arith)))
    at club (inr other) =
        put_beside count club answer now new put other
        ∙ so_far.is club
        ∙ ap (λ b. cond b (wanted club) Unknown) (beyond club other)
