-- The proposed finish, fixture by fixture.
use Rattle.std.proofs.Math.Nat.{eq-or-lt_of_le}
use Rattle.std.proofs.Common.{false, inl, inr, ◌≡◌, ◌<◌, ◌+◌, ℕ, zero, suc, Bool, true, List, []}
use Rattle.std.proofs.Common.{◌∷◌, Option, Some, None, IsSome, is_some, length, get_or, set, refl}
use Rattle.std.proofs.Common.{sym, ap, ap₂, subst, ◌∙◌, arith}
use Rattle.std.specs.List.{list_all}
use Rattle.std.proofs.lemmas.Bool.{false≢true, and_parts, cases_eq}
use Rattle.std.proofs.lemmas.List.{ext_get_or, get_or-set_same, get_or-set_other, length-set}
use Rattle.league_core.specs.declared.sheet.Sheet.{Sheet}
use Rattle.league_core.specs.declared.sheet.Fixture.{Fixture}
use Rattle.league_core.specs.declared.season.Score.{Score}
use Rattle.league_core.specs.declared.question.Question.{Question}
use Rattle.league_core.specs.declared.zone.Literal.{Literal}
use Rattle.league_core.specs.game.Results.{Results, is_score, is_score_or_none, are_results}
use Rattle.league_core.specs.game.Seasons.{IsSeasonOf}
use Rattle.league_core.specs.game.Sheets.{IsWithinLimits}
use Rattle.league_core.specs.game.Finishes.{may_end}
use Rattle.league_core.specs.search.Options.{meets, options_of, options_in, has_option, has_finish}
use Rattle.league_core.specs.search.Proposals.{is_wished, first_option, first_options}
use Rattle.league_core.specs.search.Proposals.{proposed_finish}
use Rattle.league_core.proofs.OptionLemmas.{length-options_from, get_or-options_from}
use Rattle.league_core.proofs.OptionLemmas.{has_score-options_of}
use Rattle.league_core.proofs.ProposalLemmas.{is_some-first_option, first_option_is}
use Rattle.league_core.proofs.FinishLemmas.{may_end_is_score}
use Rattle.league_core.proofs.LiteralLemmas as literals
use Rattle.score_box.specs.inside.Unplayed.{is_unplayed, unplayed_in}
use Rattle.score_box.proofs.SplitLemmas.{keeps_played}
use Rattle.example_finish.specs.declared.wishes.Wishes.{Wishes}
use Rattle.example_finish.specs.declared.outcome.Outcome.{Outcome}
use Rattle.example_finish.specs.inside.FirstOutcomes.{IsOutcomeOf, HasOutcome}
use Rattle.example_finish.specs.inside.Wished.{has_wish, AreWishesOf}
use Rattle.example_finish.proofs.UnplayedLemmas.{each_fixture}
use Rattle.league_core.proofs.plain.Lists.{list_all-at}
use Rattle.league_core.proofs.plain.Options.{some_is}

-- if the zone has a finish each fixture has an option
has_option-at : (sheet : Sheet) (season : Results) (zone : List Literal) (k : ℕ)
    → has_finish sheet season zone ≡ true → k < length season.scores
    → has_option (get_or (options_in sheet season zone) k []) ≡ true
has_option-at sheet season zone k some within =
    let long = length-options_from sheet.goal_limit zone 0 season.scores in
    literals.option_at sheet season zone k some (omega (arith, long))

-- so a first one
pub option_is_there : (sheet : Sheet) (season : Results) (zone : List Literal) (k : ℕ)
    (home away : Bool) (found : Option Score) → has_finish sheet season zone ≡ true
    → k < length season.scores
    → found ≡ first_option home away (get_or (options_in sheet season zone) k [])
    → IsSome found
option_is_there sheet season zone k home away found some within is =
    some_is found (ap is_some is
    ∙ is_some-first_option home away (get_or (options_in sheet season zone) k [])
    ∙ has_option-at sheet season zone k some within)

pub option_is_score : (sheet : Sheet) (season : Results) (zone : List Literal) (k : ℕ)
    (home away : Bool) (score : Score) → IsWithinLimits sheet → are_results season ≡ true
    → k < length season.scores
    → first_option home away (get_or (options_in sheet season zone) k []) ≡ Some score
    → is_score score ≡ true
option_is_score sheet season zone k home away score limits results within is =
    let played = get_or season.scores k None in
    let options = options_of sheet.goal_limit zone k played in
    let there : get_or (options_in sheet season zone) k [] ≡ options =
    get_or-options_from sheet.goal_limit zone 0 season.scores k within
    ∙ ap (λ (f : ℕ). options_of sheet.goal_limit zone f played) (omega arith) in
    let one = (first_option_is home away options score
    (sym (ap (first_option home away) there) ∙ is)).option in
    let both = sym (has_score-options_of sheet.goal_limit zone k played score) ∙ one in
    may_end_is_score sheet.goal_limit played score (omega (arith, limits.most_goal_limit))
    (list_all-at is_score_or_none season.scores k None within
    (and_parts (list_all is_score_or_none season.scores) _ results).0)
    (and_parts (meets zone k score) (may_end sheet.goal_limit played (Some score)) both).1

-- the sides of a fixture that is none
abbrev pub no_sides : Fixture
no_sides = record { home = 0; away = 0 }

-- what a fixture takes, if its sides are these
abbrev pub option_at : Wishes → Sheet → Results → List Literal → ℕ → Fixture → Option Score
option_at wishes sheet season zone k sides =
    first_option (has_wish wishes.near sides.home wishes.claim)
    (has_wish wishes.near sides.away wishes.claim) (get_or (options_in sheet season zone) k [])

-- a fixture has taken the first of its options
abbrev pub HasTaken : Wishes → Sheet → Results → List Literal → Results → ℕ → Type 0
HasTaken wishes sheet season zone finish k =
    get_or finish.scores k None
    ≡ option_at wishes sheet season zone k (get_or sheet.fixtures k no_sides)

-- those of the list before a place have, and so has each that is played
pub record HaveTaken (wishes : Wishes) (sheet : Sheet) (season : Results) (zone : List Literal)
    (finish : Results) (number : ℕ) : Type 0 where
  pub deductions : finish.deductions ≡ season.deductions
  pub long : length finish.scores ≡ length season.scores
  pub taken : (j : ℕ) → j < number → HasTaken wishes sheet season zone finish
      (get_or (unplayed_in season.scores) j 0)
  pub played : (k : ℕ) → is_unplayed (get_or season.scores k None) ≡ false
      → HasTaken wishes sheet season zone finish k

-- a match that is played has its score for its one option
pub played_is_taken : (wishes : Wishes) (sheet : Sheet) (season : Results) (zone : List Literal)
    (k : ℕ) → has_finish sheet season zone ≡ true
    → is_unplayed (get_or season.scores k None) ≡ false
    → HasTaken wishes sheet season zone season k
played_is_taken wishes sheet season zone k some played =
    let sides = get_or sheet.fixtures k no_sides in
    let found = keeps_played sheet season zone some k played in
    found.1 ∙ sym (ap (first_option (has_wish wishes.near sides.home wishes.claim)
    (has_wish wishes.near sides.away wishes.claim)) found.2)

-- if one takes its own, the others stay as they are
keeps_taken : (wishes : Wishes) (sheet : Sheet) (season : Results) (zone : List Literal)
    (finish : Results) (k other : ℕ) (score : Score) → k < length finish.scores
    → option_at wishes sheet season zone k (get_or sheet.fixtures k no_sides) ≡ Some score
    → HasTaken wishes sheet season zone finish other
    → HasTaken wishes sheet season zone
    (record finish { scores = set finish.scores k (Some score) }) other
keeps_taken wishes sheet season zone finish k other score within is taken =
    elim (cases_eq other k) as (λ _. HasTaken wishes sheet season zone
    (record finish { scores = set finish.scores k (Some score) }) other) [
      | inl same ↦
          subst (HasTaken wishes sheet season zone
          (record finish { scores = set finish.scores k (Some score) })) (sym same)
          (get_or-set_same finish.scores k (Some score) None within ∙ sym is)
      | inr apart ↦
          get_or-set_other finish.scores k other (Some score) None apart ∙ taken
    ]

-- the next one takes its own
pub have_taken-next : (wishes : Wishes) (sheet : Sheet) (season : Results) (zone : List Literal)
    (finish : Results) (i k : ℕ) (score : Score)
    → HaveTaken wishes sheet season zone finish i
    → k ≡ get_or (unplayed_in season.scores) i 0 → k < length season.scores
    → option_at wishes sheet season zone k (get_or sheet.fixtures k no_sides) ≡ Some score
    → HaveTaken wishes sheet season zone
    (record finish { scores = set finish.scores k (Some score) }) (i + 1)
have_taken-next wishes sheet season zone finish i k score so_far here within is =
    let inside : k < length finish.scores = omega (arith, so_far.long) in
    record {
      deductions = so_far.deductions;
      long = length-set finish.scores k (Some score) ∙ so_far.long;
      taken = λ j below.
          elim (eq-or-lt_of_le {n = j} {m = i} (omega arith)) as
          (λ _. HasTaken wishes sheet season zone
          (record finish { scores = set finish.scores k (Some score) })
          (get_or (unplayed_in season.scores) j 0)) [
            | inl same ↦
                subst (HasTaken wishes sheet season zone
                (record finish { scores = set finish.scores k (Some score) }))
                (here ∙ ap (λ (n : ℕ). get_or (unplayed_in season.scores) n 0) (sym same))
                (get_or-set_same finish.scores k (Some score) None inside ∙ sym is)
            | inr before ↦
                keeps_taken wishes sheet season zone finish k
                (get_or (unplayed_in season.scores) j 0) score inside is (so_far.taken j before)
          ];
      played = λ other is_played.
          keeps_taken wishes sheet season zone finish k other score inside is
          (so_far.played other is_played);
    }

-- the first options, fixture by fixture
pub first_options-at : (wished : ℕ → Bool) (matches : List Fixture) (options : List (List Score))
    (k : ℕ) (d : Fixture) → k < length matches → length matches ≡ length options
    → get_or (first_options wished matches options) k None
    ≡ first_option (wished (get_or matches k d).home) (wished (get_or matches k d).away)
    (get_or options k [])
first_options-at wished [] options k d within same = absurd (omega arith)
first_options-at wished (match ∷ matches) [] k d within same = absurd (omega arith)
first_options-at wished (match ∷ matches) (one ∷ options) zero d within same = refl
first_options-at wished (match ∷ matches) (one ∷ options) (suc k) d within same =
    first_options-at wished matches options k d (omega arith) (omega arith)

pub length-first_options : (wished : ℕ → Bool) (matches : List Fixture) (options : List (List
    Score))
    → length matches ≡ length options
    → length (first_options wished matches options) ≡ length options
length-first_options wished [] [] same = refl
length-first_options wished [] (one ∷ options) same = absurd (omega arith)
length-first_options wished (match ∷ matches) [] same = absurd (omega arith)
length-first_options wished (match ∷ matches) (one ∷ options) same =
    ap suc (length-first_options wished matches options (omega arith))

-- if all have, that is the proposed finish
pub all_have_taken : (wishes : Wishes) (sheet : Sheet) (season : Results) (zone : List Literal)
    (question : Question) (finish : Results) → IsSeasonOf sheet season
    → HaveTaken wishes sheet season zone finish (length (unplayed_in season.scores))
    → AreWishesOf zone question wishes
    → finish ≡ proposed_finish sheet season question zone
unfolding proposed_finish
all_have_taken wishes sheet season zone question finish of_sheet all are =
    let wished = λ (club : ℕ). is_wished zone question.club club question.claim in
    let options = options_in sheet season zone in
    let long = length-options_from sheet.goal_limit zone 0 season.scores in
    let same : length sheet.fixtures ≡ length options = sym of_sheet.scores ∙ sym long in
    let scores =
    ext_get_or None finish.scores (first_options wished sheet.fixtures options)
    (all.long ∙ sym long ∙ sym (length-first_options wished sheet.fixtures options same))
    (λ k within.
    let below : k < length sheet.fixtures = omega (arith, all.long, of_sheet.scores) in
    each_fixture (HasTaken wishes sheet season zone finish) season.scores all.taken
    (λ j inside played. all.played j played) k (omega (arith, all.long))
    ∙ ap₂ (λ (x y : Bool). first_option x y (get_or options k []))
    (are (get_or sheet.fixtures k no_sides).home) (are (get_or sheet.fixtures k no_sides).away)
    ∙ sym (first_options-at wished sheet.fixtures options k no_sides below same)) in
    λ i. record { scores = scores i; deductions = all.deductions i }

-- what a fixture takes stands in the proposed finish
pub taken_in_finish : (wishes : Wishes) (sheet : Sheet) (season : Results) (zone : List Literal)
    (question : Question) (k : ℕ) (d : Fixture) (score : Score) → IsSeasonOf sheet season
    → k < length season.scores → AreWishesOf zone question wishes
    → option_at wishes sheet season zone k (get_or sheet.fixtures k d) ≡ Some score
    → get_or (proposed_finish sheet season question zone).scores k None ≡ Some score
unfolding proposed_finish
taken_in_finish wishes sheet season zone question k d score of_sheet within are taken =
    let wished = λ (club : ℕ). is_wished zone question.club club question.claim in
    let options = options_in sheet season zone in
    let long = length-options_from sheet.goal_limit zone 0 season.scores in
    let same : length sheet.fixtures ≡ length options = sym of_sheet.scores ∙ sym long in
    let below : k < length sheet.fixtures = omega (arith, of_sheet.scores) in
    first_options-at wished sheet.fixtures options k d below same
    ∙ sym (ap₂ (λ (x y : Bool). first_option x y (get_or options k []))
    (are (get_or sheet.fixtures k d).home) (are (get_or sheet.fixtures k d).away))
    ∙ taken

-- and its outcome is that of the first option
pub outcome_in_finish : (wishes : Wishes) (sheet : Sheet) (season : Results)
    (zone : List Literal) (question : Question) (k : ℕ) (d : Fixture) (outcome : Outcome)
    → IsSeasonOf sheet season → has_finish sheet season zone ≡ true
    → k < length season.scores → AreWishesOf zone question wishes
    → ((score : Score)
    → option_at wishes sheet season zone k (get_or sheet.fixtures k d) ≡ Some score
    → IsOutcomeOf outcome score)
    → HasOutcome (get_or (proposed_finish sheet season question zone).scores k None) outcome
outcome_in_finish wishes sheet season zone question k d outcome of_sheet some within are each =
    by (option_at wishes sheet season zone k (get_or sheet.fixtures k d)) refl
  where
    by : (found : Option Score)
        → option_at wishes sheet season zone k (get_or sheet.fixtures k d) ≡ found
        → HasOutcome (get_or (proposed_finish sheet season question zone).scores k None) outcome
    by None is =
        let sides = get_or sheet.fixtures k d in
        absurd (false≢true (sym (ap is_some is)
        ∙ is_some-first_option (has_wish wishes.near sides.home wishes.claim)
        (has_wish wishes.near sides.away wishes.claim) (get_or (options_in sheet season zone) k [])
        ∙ has_option-at sheet season zone k some within))
    by (Some score) is =
        subst (λ o. HasOutcome o outcome)
        (sym (taken_in_finish wishes sheet season zone question k d score of_sheet within are is))
        (each score is)
