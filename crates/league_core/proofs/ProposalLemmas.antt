-- The order in which scores are proposed, the first of some options by it, and the proposed finish.
use Rattle.std.proofs.Common.{◌≡◌, ◌≢◌, ◌⊎◌, inl, inr, ◌+◌, ℕ, ℤ, pos, neg_ℤ, Bool, true, false}
use Rattle.std.proofs.Common.{List, [], ◌∷◌, length, fold, Some, None, is_some, Ordering, Less}
use Rattle.std.proofs.Common.{Equal, Greater, is_lt, is_gt, if◌then◌else◌, refl, sym, ap, ap₂}
use Rattle.std.proofs.Common.{subst, ◌∙◌, arith}
use Rattle.std.specs.Cmp.{IsTotalOrder}
use Rattle.std.specs.List.{list_all}
use Rattle.std.specs.Ordering.{ordering_reverse}
use Rattle.std.proofs.lemmas.Bool.{false≢true, true≢false, and_from, or_left, or_right, or_cases}
use Rattle.std.proofs.lemmas.Cmp.{on_total, tied_itself, upto}
use Rattle.std.proofs.lemmas.Int.{ints}
use Rattle.league_core.specs.declared.sheet.Sheet.{Sheet}
use Rattle.league_core.specs.declared.sheet.Fixture.{Fixture}
use Rattle.league_core.specs.declared.season.Score.{Score}
use Rattle.league_core.specs.declared.question.Question.{Question}
use Rattle.league_core.specs.declared.zone.Literal.{Literal}
use Rattle.league_core.specs.game.Results.{Results}
use Rattle.league_core.specs.game.Seasons.{IsSeasonOf}
use Rattle.league_core.specs.game.Finishes.{same_score, IsFinishOf}
use Rattle.league_core.specs.game.HeadToHead.{greater_first, by_first_difference}
use Rattle.league_core.specs.search.Options.{options_in, has_score, has_option, has_finish}
use Rattle.league_core.specs.search.Options.{take_options, IsInBox}
use Rattle.league_core.specs.search.Proposals.{is_wished, wishes_met, option_order, first_of_two}
use Rattle.league_core.specs.search.Proposals.{first_option, IsFirstOption, first_options}
use Rattle.league_core.specs.search.Proposals.{proposed_finish}
use Rattle.league_core.proofs.StandingLemmas.{by_first_difference_total}
use Rattle.league_core.proofs.OptionLemmas.{same_score-true, same_score-itself, has_score-first}
use Rattle.league_core.proofs.OptionLemmas.{length-options_from}
use Rattle.league_core.proofs.BoxLemmas.{box_is_finish}
use Rattle.league_core.proofs.plain.Orderings.{then-equal, not_gt_less, not_gt_from_turned}

-- ---- the order

-- whatever the two sides are wished, the scores are in one order
pub option_order_total : (home away : Bool) → IsTotalOrder (option_order home away)
option_order_total home away = on_total (wishes_met home away) by_first_difference_total

greater_first-equal : (number other : ℤ) → greater_first number other ≡ Equal → number ≡ other
greater_first-equal number other h = grind (arith, ints)

-- lists that differ nowhere are the same
pub by_first_difference-equal : (numbers others : List ℤ)
    → by_first_difference numbers others ≡ Equal → numbers ≡ others
by_first_difference-equal [] [] h = refl
by_first_difference-equal [] (other ∷ others) h = absurd (let e : Less ≡ Equal = h in cc)
by_first_difference-equal (number ∷ numbers) [] h = absurd (let e : Greater ≡ Equal = h in cc)
by_first_difference-equal (number ∷ numbers) (other ∷ others) h =
    let parts = then-equal (greater_first number other) (by_first_difference numbers others) h in
    ap₂ (λ (n : ℤ) (ns : List ℤ). n ∷ ns) (greater_first-equal number other parts.0)
    (by_first_difference-equal numbers others parts.1)

-- the sum of the goals and those at home make a score
wishes_met-same : (home away : Bool) (score other : Score)
    → wishes_met home away score ≡ wishes_met home away other → score ≡ other
wishes_met-same home away score other same =
    let sums : neg_ℤ (pos (score.home + score.away)) ≡ neg_ℤ (pos (other.home + other.away)) = cc in
    let homes : pos score.home ≡ pos other.home = cc in
    let home_same : score.home ≡ other.home = omega (arith, ints) in
    let away_same : score.away ≡ other.away = omega (arith, ints) in
    λ i. record { home = home_same i; away = away_same i }

-- no two scores share a place
pub option_order-equal : (home away : Bool) (score other : Score)
    → option_order home away score other ≡ Equal → score ≡ other
option_order-equal home away score other h =
    wishes_met-same home away score other
    (by_first_difference-equal (wishes_met home away score) (wishes_met home away other) h)

-- ---- the first of two

-- a score is no later than another
abbrev IsUpTo : Bool → Bool → Score → Score → Type 0
IsUpTo home away score other = is_gt (option_order home away score other) ≡ false

up_to_itself : (home away : Bool) (score : Score) → IsUpTo home away score score
up_to_itself home away score = ap is_gt (tied_itself (option_order_total home away) score)

-- what one of two is, the other if the test holds
of_two : (P : Score → Type 0) (test : Bool) (score other : Score) → (test ≡ true → P other)
    → (test ≡ false → P score) → P (if test then other else score)
of_two P true score other changed kept = changed refl
of_two P false score other changed kept = kept refl

-- the first of two is no later than either
two_up_to_one : (home away : Bool) (score other : Score)
    → IsUpTo home away (first_of_two home away score other) score
two_up_to_one home away score other =
    of_two (λ first. IsUpTo home away first score) (is_lt (option_order home away other score))
    score other (not_gt_less (option_order home away other score))
    (λ _. up_to_itself home away score)

two_up_to_other : (home away : Bool) (score other : Score)
    → IsUpTo home away (first_of_two home away score other) other
two_up_to_other home away score other =
    of_two (λ first. IsUpTo home away first other) (is_lt (option_order home away other score))
    score other (λ _. up_to_itself home away other)
    (λ not_before. ap is_gt ((option_order_total home away).antisymm score other)
    ∙ not_gt_from_turned (option_order home away other score) not_before)

-- it is one of the two
two_is_one : (home away : Bool) (score other : Score)
    → (first_of_two home away score other ≡ score) ⊎ (first_of_two home away score other ≡ other)
two_is_one home away score other =
    of_two (λ first. (first ≡ score) ⊎ (first ≡ other))
    (is_lt (option_order home away other score)) score other (λ _. inr refl) (λ _. inl refl)

-- ---- the first of a list

-- the first so far, and one of those that follow
abbrev first_from : Bool → Bool → Score → List Score → Score
first_from home away score options = fold (first_of_two home away) score options

-- it is no later than the first so far
first_from_start : (home away : Bool) (score : Score) (options : List Score)
    → IsUpTo home away (first_from home away score options) score
first_from_start home away score [] = up_to_itself home away score
first_from_start home away score (other ∷ options) =
    let next = first_of_two home away score other in
    upto (option_order_total home away) (first_from home away next options) next score
    (first_from_start home away next options) (two_up_to_one home away score other)

-- nor than any that follows
first_from_each : (home away : Bool) (score : Score) (options : List Score) (third : Score)
    → has_score options third ≡ true → IsUpTo home away (first_from home away score options) third
first_from_each home away score [] third is = absurd (false≢true is)
first_from_each home away score (other ∷ options) third is =
    let next = first_of_two home away score other in
    let whole = first_from home away next options in
    elim (or_cases (same_score third other) (has_score options third) is) as
    (λ _. IsUpTo home away whole third) [
      | inl same ↦
          subst (λ s. IsUpTo home away whole s) (sym (same_score-true third other same))
          (upto (option_order_total home away) whole next other
          (first_from_start home away next options) (two_up_to_other home away score other))
      | inr later ↦ first_from_each home away next options third later
    ]

-- it is one of them
first_from_is : (home away : Bool) (score : Score) (options : List Score)
    → has_score (score ∷ options) (first_from home away score options) ≡ true
first_from_is home away score [] = has_score-first score []
first_from_is home away score (other ∷ options) =
    let next = first_of_two home away score other in
    let whole = first_from home away next options in
    elim (or_cases (same_score whole next) (has_score options whole)
    (first_from_is home away next options)) as
    (λ _. has_score (score ∷ other ∷ options) whole ≡ true) [
      | inl same ↦ picked whole (same_score-true whole next same)
      | inr later ↦
          or_right (same_score whole score) (has_score (other ∷ options) whole)
          (or_right (same_score whole other) (has_score options whole) later)
    ]
  where
    picked : (whole : Score) → whole ≡ first_of_two home away score other
        → has_score (score ∷ other ∷ options) whole ≡ true
    picked whole is =
        elim (two_is_one home away score other) as
        (λ _. has_score (score ∷ other ∷ options) whole ≡ true) [
          | inl one ↦
              or_left (same_score whole score) (has_score (other ∷ options) whole)
              (same_score-itself whole score (is ∙ one))
          | inr two ↦
              or_right (same_score whole score) (has_score (other ∷ options) whole)
              (or_left (same_score whole other) (has_score options whole)
              (same_score-itself whole other (is ∙ two)))
        ]

-- no later is: the other is not taken before it
not_before : (home away : Bool) (score other : Score) → IsUpTo home away score other
    → option_order home away other score ≢ Less
not_before home away score other up before =
    true≢false (sym (ap (λ o. is_gt (ordering_reverse o)) before)
    ∙ sym (ap is_gt ((option_order_total home away).antisymm score other)) ∙ up)

-- of two scores that are not taken before each other there is one
neither_before : (home away : Bool) (score other : Score)
    → option_order home away other score ≢ Less → option_order home away score other ≢ Less
    → score ≡ other
neither_before home away score other behind ahead =
    option_order-equal home away score other
    (level (option_order home away score other) (option_order home away other score)
    ((option_order_total home away).antisymm other score) behind ahead)
  where
    level : (o back : Ordering) → back ≡ ordering_reverse o → back ≢ Less → o ≢ Less → o ≡ Equal
    level Less back turned behind ahead = absurd (ahead refl)
    level Equal back turned behind ahead = refl
    level Greater back turned behind ahead = absurd (behind turned)

-- the first option is first
first_is : (home away : Bool) (score : Score) (options : List Score)
    → IsFirstOption home away (score ∷ options) (first_from home away score options)
first_is home away score options =
    let whole = first_from home away score options in
    record {
      option = first_from_is home away score options;
      first = λ other is. not_before home away whole other (no_later other is);
    }
  where
    no_later : (other : Score) → has_score (score ∷ options) other ≡ true
        → IsUpTo home away (first_from home away score options) other
    no_later other is =
        elim (or_cases (same_score other score) (has_score options other) is) as
        (λ _. IsUpTo home away (first_from home away score options) other) [
          | inl same ↦
              subst (λ s. IsUpTo home away (first_from home away score options) s)
              (sym (same_score-true other score same))
              (first_from_start home away score options)
          | inr later ↦ first_from_each home away score options other later
        ]

-- there is one first
pub first_is_one : (home away : Bool) (options : List Score) (score other : Score)
    → IsFirstOption home away options score → IsFirstOption home away options other
    → score ≡ other
first_is_one home away options score other one two =
    neither_before home away score other (one.first other two.option)
    (two.first score one.option)

-- so to be the first option is to be first
pub first_option_is : (home away : Bool) (options : List Score) (score : Score)
    → first_option home away options ≡ Some score → IsFirstOption home away options score
first_option_is home away [] score is = absurd (let e : None ≡ Some score = is in cc)
first_option_is home away (first ∷ options) score is =
    let same : first_from home away first options ≡ score = cc in
    subst (λ s. IsFirstOption home away (first ∷ options) s) same
    (first_is home away first options)

pub first_option_of : (home away : Bool) (options : List Score) (score : Score)
    → IsFirstOption home away options score → first_option home away options ≡ Some score
first_option_of home away [] score is = absurd (false≢true is.option)
first_option_of home away (first ∷ options) score is =
    ap Some (first_is_one home away (first ∷ options) (first_from home away first options) score
    (first_is home away first options) is)

-- there is one if there is an option
pub is_some-first_option : (home away : Bool) (options : List Score)
    → is_some (first_option home away options) ≡ has_option options
is_some-first_option home away [] = refl
is_some-first_option home away (score ∷ options) = refl

-- lists of the same scores have the same first
pub first_option-same : (home away : Bool) (options others : List Score)
    → ((score : Score) → has_score options score ≡ has_score others score)
    → first_option home away options ≡ first_option home away others
first_option-same home away [] [] same = refl
first_option-same home away [] (other ∷ others) same =
    absurd (false≢true (same other ∙ has_score-first other others))
first_option-same home away (score ∷ options) others same =
    let whole = first_from home away score options in
    let first = first_is home away score options in
    sym (first_option_of home away others whole (record {
      option = sym (same whole) ∙ first.option;
      first = λ other is. first.first other (same other ∙ is);
    }))

-- ---- the proposed finish

-- if each fixture has an option, each takes one
first_options_taken : (wished : ℕ → Bool) (matches : List Fixture) (options : List (List Score))
    → length matches ≡ length options → list_all has_option options ≡ true
    → take_options options (first_options wished matches options) ≡ true
first_options_taken wished [] [] same some = refl
first_options_taken wished [] (options ∷ more) same some = absurd (omega arith)
first_options_taken wished (match ∷ matches) [] same some = absurd (omega arith)
first_options_taken wished (match ∷ matches) ([] ∷ more) same some = absurd (false≢true some)
first_options_taken wished (match ∷ matches) ((score ∷ options) ∷ more) same some =
    let home = wished match.home in
    let away = wished match.away in
    and_from (has_score (score ∷ options) (first_from home away score options))
    (take_options more (first_options wished matches more))
    (first_from_is home away score options)
    (first_options_taken wished matches more (omega arith) some)

-- so what is proposed is in the zone's box
pub proposed_in_box : (sheet : Sheet) (season : Results) (question : Question) (zone : List Literal)
    → IsSeasonOf sheet season → has_finish sheet season zone ≡ true
    → IsInBox sheet season zone (proposed_finish sheet season question zone)
unfolding proposed_finish has_finish
proposed_in_box sheet season question zone of_sheet some = record {
  deductions = refl;
  scores = first_options_taken
      (λ (club : ℕ). is_wished zone question.club club question.claim) sheet.fixtures
      (options_in sheet season zone)
      (sym of_sheet.scores ∙ sym (length-options_from sheet.goal_limit zone 0 season.scores)) some;
}

-- and is a finish of the season
pub proposed_is_finish : (sheet : Sheet) (season : Results) (question : Question)
    (zone : List Literal) → IsSeasonOf sheet season → has_finish sheet season zone ≡ true
    → IsFinishOf sheet season (proposed_finish sheet season question zone)
proposed_is_finish sheet season question zone of_sheet some =
    box_is_finish sheet season zone (proposed_finish sheet season question zone)
    (proposed_in_box sheet season question zone of_sheet some)
