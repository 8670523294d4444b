-- The rounds of the sure order: what is judged so far, and the group that is still level.
use Rattle.std.proofs.Common.{◌≡◌, ◌≢◌, ◌⊎◌, inl, inr, ℕ, suc, ◌<◌, ◌≤◌, Bool, true, false, ◌&&◌}
use Rattle.std.proofs.Common.{◌==◌, ltb, List, length, filter, refl, sym, ap, ◌∙◌, subst}
use Rattle.std.proofs.lemmas.Bool.{eq-eqb, ne_eqb, cases_lt, le-ltb}
use Rattle.league_core.specs.declared.sheet.Sheet.{Sheet}
use Rattle.league_core.specs.declared.season.Score.{Score}
use Rattle.league_core.specs.declared.sure.Sure.{Sure}
use Rattle.league_core.specs.declared.sure.Sure.TheVariants.{Unknown}
use Rattle.league_core.specs.search.SureOrder.{sure_then, is_level, by_record_ranges}
use Rattle.league_core.specs.search.SureOrder.{by_overall_ranges, is_surely_in, are_all_sure}
use Rattle.league_core.specs.search.SureOrder.{sure_within, sure_in}
use Rattle.league_core.specs.game.ClubSets.{clubs_below}
use Rattle.league_core.proofs.ClubSetLemmas.{clubs_below-filter}
use Rattle.league_core.specs.game.Sums.{has_club}
use Rattle.league_core.proofs.SureLemmas.{sure_then-assoc, sure_then-level}
use Rattle.tie_bound.specs.declared.answer_sets.Answers.{Answers}
use Rattle.tie_bound.specs.inside.Answers.{answer_at, AreLevelIn, StepDecides}
use Rattle.tie_bound.proofs.AnswerLemmas.{is_level-then}
use Rattle.tie_bound.proofs.AnswerLemmas.{not_level, not_level_keeps}

-- one round of the sure order within a group: if it is not sure who shares the club's record
-- nothing more is, if all share it the sums over all matches decide, and else the round is made
-- again among those who do
abbrev smaller_group : Sheet → List (List Score) → List ℕ → ℕ → List ℕ
smaller_group sheet options group club = filter (is_surely_in sheet options group club) group

abbrev after_record : ℕ → Sheet → List (List Score) → List ℕ → ℕ → ℕ → Bool → Bool → Sure
after_record times sheet options group rival club sure whole =
    elim sure [
      | false ↦ Unknown
      | true ↦ elim whole [
        | true ↦ by_overall_ranges sheet options rival club
        | false ↦ sure_within times sheet options (smaller_group sheet options group club) rival
            club
      ]
    ]

within_open : (times : ℕ) (sheet : Sheet) (options : List (List Score)) (group : List ℕ)
    (rival club : ℕ) → are_all_sure sheet options group club ≡ false
    → sure_within (suc times) sheet options group rival club
    ≡ sure_then (by_record_ranges sheet options group rival club) Unknown
within_open times sheet options group rival club open_ =
    ap (λ b. sure_then (by_record_ranges sheet options group rival club)
    (after_record times sheet options group rival club b
    (length (smaller_group sheet options group club) == length group))) open_

within_whole : (times : ℕ) (sheet : Sheet) (options : List (List Score)) (group : List ℕ)
    (rival club : ℕ) → are_all_sure sheet options group club ≡ true
    → length (smaller_group sheet options group club) ≡ length group
    → sure_within (suc times) sheet options group rival club
    ≡ sure_then (by_record_ranges sheet options group rival club)
    (by_overall_ranges sheet options rival club)
within_whole times sheet options group rival club sure whole =
    ap (λ b. sure_then (by_record_ranges sheet options group rival club)
    (after_record times sheet options group rival club b
    (length (smaller_group sheet options group club) == length group))) sure
    ∙ ap (λ b. sure_then (by_record_ranges sheet options group rival club)
    (after_record times sheet options group rival club true b))
    (eq-eqb (length (smaller_group sheet options group club)) (length group) whole)

within_deeper : (times : ℕ) (sheet : Sheet) (options : List (List Score)) (group : List ℕ)
    (rival club : ℕ) → are_all_sure sheet options group club ≡ true
    → (length (smaller_group sheet options group club) ≢ length group)
    → sure_within (suc times) sheet options group rival club
    ≡ sure_then (by_record_ranges sheet options group rival club)
    (sure_within times sheet options (smaller_group sheet options group club) rival club)
within_deeper times sheet options group rival club sure fewer =
    ap (λ b. sure_then (by_record_ranges sheet options group rival club)
    (after_record times sheet options group rival club b
    (length (smaller_group sheet options group club) == length group))) sure
    ∙ ap (λ b. sure_then (by_record_ranges sheet options group rival club)
    (after_record times sheet options group rival club true b))
    (ne_eqb (length (smaller_group sheet options group club)) (length group) fewer)

-- the zone in which a club is judged, by its options, and what is to be judged of each rival
pub record Judging : Type 0 where
  pub sheet : Sheet
  pub options : List (List Score)
  pub club : ℕ
  pub wanted : ℕ → Sure

-- what is judged so far: each club's answer, and the rounds to come for those that are level, who
-- are the group
pub record IsJudged (task : Judging) (times : ℕ) (group : List ℕ) (answers : Answers) : Type 0
  where
    pub order : (rival : ℕ) → rival < length task.sheet.clubs
        → task.wanted rival
        ≡ sure_then (answer_at answers rival)
        (sure_within times task.sheet task.options group rival task.club)
    pub level : AreLevelIn (length task.sheet.clubs) answers group

-- each answer is the wanted one
abbrev pub AreWanted : Judging → Answers → Type 0
AreWanted task answers =
    (rival : ℕ) → rival < length task.sheet.clubs → answer_at answers rival ≡ task.wanted rival

-- the criteria within a group are wanted, and as many rounds are to come as it has clubs
abbrev pub task_in : Sheet → List (List Score) → List ℕ → ℕ → Answers → Judging
task_in sheet options group club answers = record {
  sheet = sheet;
  options = options;
  club = club;
  wanted = λ rival. sure_then (answer_at answers rival) (sure_in sheet options group rival club);
}

pub judged_first : (sheet : Sheet) (options : List (List Score)) (club times : ℕ) (group : List ℕ)
    (answers : Answers) → AreLevelIn (length sheet.clubs) answers group → times ≡ length group
    → IsJudged (task_in sheet options group club answers) times group answers
judged_first sheet options club times group answers level all = record {
  order = λ rival within.
      ap (λ n. sure_then (answer_at answers rival)
      (sure_within n sheet options group rival club)) (sym all);
  level = level;
}

-- a last step after the records
judged_last : (task : Judging) (times : ℕ) (group : List ℕ) (answers taken last : Answers)
    (next : ℕ → Sure) → IsJudged task times group answers
    → StepDecides (length task.sheet.clubs)
    (λ rival. by_record_ranges task.sheet task.options group rival task.club) answers taken
    → StepDecides (length task.sheet.clubs) next taken last
    → ((rival : ℕ) → sure_within times task.sheet task.options group rival task.club
    ≡ sure_then (by_record_ranges task.sheet task.options group rival task.club) (next rival))
    → AreWanted task last
judged_last task times group answers taken last next judged takes lasts round rival within =
    lasts rival within
    ∙ ap (λ a. sure_then a (next rival)) (takes rival within)
    ∙ sure_then-assoc (answer_at answers rival)
    (by_record_ranges task.sheet task.options group rival task.club) (next rival)
    ∙ ap (sure_then (answer_at answers rival)) (sym (round rival))
    ∙ sym (judged.order rival within)

-- if it is not sure who shares the record, nothing more is
pub judged_open : (task : Judging) (times : ℕ) (group : List ℕ) (answers taken last : Answers)
    → IsJudged task (suc times) group answers
    → StepDecides (length task.sheet.clubs)
    (λ rival. by_record_ranges task.sheet task.options group rival task.club) answers taken
    → StepDecides (length task.sheet.clubs) (λ rival. Unknown) taken last
    → are_all_sure task.sheet task.options group task.club ≡ false → AreWanted task last
judged_open task times group answers taken last judged takes lasts not_sure =
    judged_last task (suc times) group answers taken last (λ _. Unknown) judged takes lasts
    (λ rival. within_open times task.sheet task.options group rival task.club not_sure)

-- if the whole group shares it, the sums over all matches decide
pub judged_whole : (task : Judging) (times : ℕ) (group level : List ℕ)
    (answers taken last : Answers) → IsJudged task (suc times) group answers
    → StepDecides (length task.sheet.clubs)
    (λ rival. by_record_ranges task.sheet task.options group rival task.club) answers taken
    → StepDecides (length task.sheet.clubs)
    (λ rival. by_overall_ranges task.sheet task.options rival task.club) taken last
    → are_all_sure task.sheet task.options group task.club ≡ true
    → level ≡ filter (is_surely_in task.sheet task.options group task.club) group
    → length level ≡ length group → AreWanted task last
judged_whole task times group level answers taken last judged takes lasts sure is whole =
    judged_last task (suc times) group answers taken last
    (λ rival. by_overall_ranges task.sheet task.options rival task.club) judged takes lasts
    (λ rival. within_whole times task.sheet task.options group rival task.club sure
    (ap length (sym is) ∙ whole))

-- else the round is made again
pub judged_deeper : (task : Judging) (times : ℕ) (group level : List ℕ)
    (answers taken : Answers) → IsJudged task (suc times) group answers
    → StepDecides (length task.sheet.clubs)
    (λ rival. by_record_ranges task.sheet task.options group rival task.club) answers taken
    → are_all_sure task.sheet task.options group task.club ≡ true
    → level ≡ filter (is_surely_in task.sheet task.options group task.club) group
    → (length level ≢ length group) → AreLevelIn (length task.sheet.clubs) taken level
    → IsJudged task times level taken
judged_deeper task times group level answers taken judged takes sure is fewer level_of = record {
  order = λ rival within.
      let record_ranges_of = by_record_ranges task.sheet task.options group rival task.club in
      judged.order rival within
      ∙ ap (sure_then (answer_at answers rival))
      (within_deeper times task.sheet task.options group rival task.club sure
      (λ e. fewer (ap length is ∙ e)))
      ∙ sym (sure_then-assoc (answer_at answers rival) record_ranges_of
      (sure_within times task.sheet task.options
      (smaller_group task.sheet task.options group task.club) rival task.club))
      ∙ ap (λ a. sure_then a (sure_within times task.sheet task.options
      (smaller_group task.sheet task.options group task.club) rival task.club))
      (sym (takes rival within))
      ∙ ap (λ g. sure_then (answer_at taken rival)
      (sure_within times task.sheet task.options g rival task.club)) (sym is);
  level = level_of;
}

-- with no round to come each answer is the wanted one
pub judged_all : (task : Judging) (group : List ℕ) (answers : Answers)
    → IsJudged task 0 group answers → AreWanted task answers
judged_all task group answers judged rival within =
    sym (judged.order rival within ∙ sure_then-level (answer_at answers rival))

-- a club that is level no more has its answer
pub judged_apart : (task : Judging) (times : ℕ) (group : List ℕ) (answers : Answers) (club : ℕ)
    → IsJudged task times group answers → club < length task.sheet.clubs
    → has_club group club ≡ false → answer_at answers club ≡ task.wanted club
judged_apart task times group answers club judged low out =
    sym (judged.order club low
    ∙ not_level_keeps (answer_at answers club)
    (sure_within times task.sheet task.options group club task.club)
    (not_level (length task.sheet.clubs) answers group club judged.level low out))

-- one round less
pub one_less : (task : Judging) (left next : ℕ) (group : List ℕ) (answers : Answers)
    → left ≡ suc next → IsJudged task left group answers → IsJudged task (suc next) group answers
one_less task left next group answers same judged =
    let P : ℕ → Type 0 = λ n. IsJudged task n group answers in
    subst P same judged

-- the clubs of a group that are level after a step are those that the step leaves level
pub level_is : (clubs group bits : ℕ) (answers taken : Answers) (step : ℕ → Sure)
    → AreLevelIn clubs answers (clubs_below 32 group) → StepDecides clubs step answers taken
    → AreLevelIn clubs taken (clubs_below 32 bits)
    → clubs_below 32 bits ≡ filter (λ other. is_level (step other)) (clubs_below 32 group)
level_is clubs group bits answers taken step group_level takes level =
    clubs_below-filter 32 bits group (λ other. is_level (step other))
    (λ x. level x ∙ at x (cases_lt x clubs)
    ∙ ap (λ b. b && is_level (step x)) (sym (group_level x)))
  where
    both : (b c d : Bool) → (b && (c && d)) ≡ ((b && c) && d)
    both true c d = refl
    both false c d = refl

    at : (x : ℕ) → (x < clubs) ⊎ (clubs ≤ x)
        → (ltb x clubs && is_level (answer_at taken x))
        ≡ ((ltb x clubs && is_level (answer_at answers x)) && is_level (step x))
    at x (inl below) =
        ap (λ a. ltb x clubs && is_level a) (takes x below)
        ∙ ap (λ b. ltb x clubs && b) (is_level-then (answer_at answers x) (step x))
        ∙ both (ltb x clubs) (is_level (answer_at answers x)) (is_level (step x))
    at x (inr past) =
        ap (λ b. b && is_level (answer_at taken x)) (le-ltb x clubs past)
        ∙ sym (ap (λ b. (b && is_level (answer_at answers x)) && is_level (step x))
        (le-ltb x clubs past))
