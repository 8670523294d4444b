-- Tests of outcomes, by the outcomes that are left.
use Rattle.std.proofs.Common.{◌≡◌, ◌⊎◌, inl, inr, ◌<◌, ℕ, Bool, true, false, ◌&&◌, ◌||◌, List, []}
use Rattle.std.proofs.Common.{◌∷◌, Option, Some, None, length, get_or, refl, sym, ap, subst, ◌∙◌}
use Rattle.std.proofs.Common.{arith}
use Rattle.std.specs.List.{list_any}
use Rattle.std.proofs.lemmas.Bool.{false≢true, true≢false, or_left, or_right, or_cases, cases_Bool}
use Rattle.std.proofs.lemmas.Bool.{and_from}
use Rattle.league_core.specs.declared.sheet.Sheet.{Sheet}
use Rattle.league_core.specs.declared.season.Score.{Score}
use Rattle.league_core.specs.declared.question.Question.{Question}
use Rattle.league_core.specs.declared.zone.Test.TheVariants.{Home, Draw}
use Rattle.league_core.specs.declared.zone.Literal.{Literal}
use Rattle.league_core.specs.game.Results.{Results}
use Rattle.league_core.specs.game.Seasons.{IsSeasonOf}
use Rattle.league_core.specs.game.Finishes.{same_score}
use Rattle.league_core.specs.search.Options.{meets, options_of, options_in, has_score}
use Rattle.league_core.specs.search.Options.{has_one_outcome, same_outcome, is_home_win, is_draw}
use Rattle.league_core.specs.search.Options.{is_away_win}
use Rattle.league_core.specs.search.Splits.{are_outcomes_fixed}
use Rattle.league_core.proofs.OptionLemmas.{same_score-true, has_score-first, all_options}
use Rattle.league_core.proofs.OptionLemmas.{each_option, length-options_from}
use Rattle.league_core.proofs.OutcomeLemmas.{outcome_cases, one_of_three, no_won_draw}
use Rattle.league_core.proofs.OutcomeLemmas.{no_two_winners, no_lost_draw, same_outcome-home}
use Rattle.league_core.proofs.OutcomeLemmas.{same_outcome-draw, same_outcome-away}
use Rattle.league_core.proofs.OutcomeLemmas.{same_outcome-itself, same_outcome-joined}
use Rattle.league_core.proofs.OptionTestLemmas.{any_gives, any_shows}
use Rattle.league_core.proofs.LiteralLemmas.{options_at}
use Rattle.score_box.specs.inside.ZoneBoxViews.{ZoneBoxView, HasFinish}
use Rattle.score_box.specs.inside.Unplayed.{is_unplayed, unplayed_in}
use Rattle.branch_rules.specs.declared.left.Outcomes.{Outcomes}
use Rattle.branch_rules.specs.inside.Choices.{IsOutcomeSplit, options_at_fixture}
use Rattle.branch_rules.specs.inside.Outcomes.{AreOutcomesOf}
use Rattle.example_finish.proofs.UnplayedLemmas.{each_fixture}
use Rattle.branch_rules.proofs.SplitLemmas.{home_is_proper, draw_is_proper}
use Rattle.league_core.proofs.plain.Lists.{all_from}

-- ---- one outcome, or several

-- of options with one outcome any two have the same
one_outcome_same : (options : List Score) → has_one_outcome options ≡ true → (score other : Score)
    → has_score options score ≡ true → has_score options other ≡ true
    → same_outcome score other ≡ true
one_outcome_same [] one score other is other_is = absurd (false≢true is)
one_outcome_same (first ∷ options) one score other is other_is =
    same_outcome-joined first score other
    (with_first score (or_cases (same_score score first) (has_score options score) is))
    (with_first other (or_cases (same_score other first) (has_score options other) other_is))
  where
    with_first : (s : Score) → (same_score s first ≡ true) ⊎ (has_score options s ≡ true)
        → same_outcome first s ≡ true
    with_first s (inl same) =
        ap (same_outcome first) (same_score-true s first same) ∙ same_outcome-itself first
    with_first s (inr later) = each_option (same_outcome first) options one s later

-- if any two have the same, they have one
one_outcome_from : (options : List Score)
    → ((score other : Score) → has_score options score ≡ true → has_score options other ≡ true
    → same_outcome score other ≡ true) → has_one_outcome options ≡ true
one_outcome_from [] same = refl
one_outcome_from (first ∷ options) same =
    all_options (same_outcome first) options (λ score is.
    same first score (has_score-first first options)
    (or_right (same_score score first) (has_score options score) is))

-- an outcome that is not left is no option's
not_left : (test : Score → Bool) (options : List Score) (left : Bool) (score : Score)
    → left ≡ list_any test options → has_score options score ≡ true → test score ≡ true
    → left ≡ true
not_left test options left score is_left is passed = is_left ∙ any_shows test options score is
    passed

-- if neither a home win nor a draw is left beside others, one outcome is left
pub one_is_left : (options : List Score) (left : Outcomes) → AreOutcomesOf options left
    → (left.wins && (left.draws || left.losses)) ≡ false
    → (left.draws && (left.wins || left.losses)) ≡ false → has_one_outcome options ≡ true
one_is_left options left are no_home no_draw =
    one_outcome_from options (λ score other is other_is.
    let won = λ (s : Score) (here : has_score options s ≡ true).
    not_left is_home_win options left.wins s are.wins here in
    let drawn = λ (s : Score) (here : has_score options s ≡ true).
    not_left is_draw options left.draws s are.draws here in
    let lost = λ (s : Score) (here : has_score options s ≡ true).
    not_left is_away_win options left.losses s are.losses here in
    outcome_cases score
    (λ sw. outcome_cases other
    (λ tw. same_outcome-home score other sw tw)
    (λ td. absurd (home_beside_draw (won score is sw) (drawn other other_is td)))
    (λ tl. absurd (home_beside_loss (won score is sw) (lost other other_is tl))))
    (λ sd. outcome_cases other
    (λ tw. absurd (home_beside_draw (won other other_is tw) (drawn score is sd)))
    (λ td. same_outcome-draw score other sd td)
    (λ tl. absurd (draw_beside_loss (drawn score is sd) (lost other other_is tl))))
    (λ sl. outcome_cases other
    (λ tw. absurd (home_beside_loss (won other other_is tw) (lost score is sl)))
    (λ td. absurd (draw_beside_loss (drawn other other_is td) (lost score is sl)))
    (λ tl. same_outcome-away score other sl tl)))
  where
    home_beside_draw : left.wins ≡ true → left.draws ≡ true → ⊥
    home_beside_draw w d =
        false≢true (sym no_home ∙ and_from left.wins (left.draws || left.losses) w
        (or_left left.draws left.losses d))

    home_beside_loss : left.wins ≡ true → left.losses ≡ true → ⊥
    home_beside_loss w l =
        false≢true (sym no_home ∙ and_from left.wins (left.draws || left.losses) w
        (or_right left.draws left.losses l))

    draw_beside_loss : left.draws ≡ true → left.losses ≡ true → ⊥
    draw_beside_loss d l =
        false≢true (sym no_draw ∙ and_from left.draws (left.wins || left.losses) d
        (or_right left.wins left.losses l))

-- two options of different outcomes are several
several_left : (options : List Score) (score other : Score) → has_score options score ≡ true
    → has_score options other ≡ true
    → (same_outcome score other ≡ true → ⊥) → has_one_outcome options ≡ false
several_left options score other is other_is different =
    elim (cases_Bool (has_one_outcome options)) as (λ _. has_one_outcome options ≡ false) [
      | inl one ↦ absurd (different (one_outcome_same options one score other is other_is))
      | inr not_so ↦ not_so
    ]

-- ---- the splits

no_home_win : (score : Score) → (is_draw score ≡ true) ⊎ (is_away_win score ≡ true)
    → is_home_win score ≡ false
no_home_win score other =
    elim (cases_Bool (is_home_win score)) as (λ _. is_home_win score ≡ false) [
      | inl wins ↦ elim other as (λ _. is_home_win score ≡ false) [
        | inl draws ↦ absurd (no_won_draw score wins draws)
        | inr loses ↦ absurd (no_two_winners score wins loses)
      ]
      | inr not_so ↦ not_so
    ]

no_drawn : (score : Score) → (is_home_win score ≡ true) ⊎ (is_away_win score ≡ true)
    → is_draw score ≡ false
no_drawn score other =
    elim (cases_Bool (is_draw score)) as (λ _. is_draw score ≡ false) [
      | inl draws ↦ elim other as (λ _. is_draw score ≡ false) [
        | inl wins ↦ absurd (no_won_draw score wins draws)
        | inr loses ↦ absurd (no_lost_draw score draws loses)
      ]
      | inr not_so ↦ not_so
    ]

-- of two outcomes that are left one has an option
either_left : (one two : Score → Bool) (options : List Score) (first second : Bool)
    → first ≡ list_any one options → second ≡ list_any two options → (first || second) ≡ true
    → (score : Score) × (has_score options score ≡ true)
    × ((one score ≡ true) ⊎ (two score ≡ true))
either_left one two options first second is_first is_second either =
    elim (or_cases first second either) as (λ _. (score : Score)
    × (has_score options score ≡ true) × ((one score ≡ true) ⊎ (two score ≡ true))) [
      | inl is ↦
          let found = any_gives one options (sym is_first ∙ is) in
          (found.0, found.1, inl found.2)
      | inr is ↦
          let found = any_gives two options (sym is_second ∙ is) in
          (found.0, found.1, inr found.2)
    ]

-- a home win beside others splits
pub home_splits : (setting : ZoneBoxView) (question : Question) (fixture : ℕ) (left : Outcomes)
    → IsSeasonOf setting.sheet setting.season → HasFinish setting
    → fixture < length setting.season.scores
    → AreOutcomesOf (options_at_fixture setting fixture) left → left.wins ≡ true
    → (left.draws || left.losses) ≡ true → IsOutcomeSplit setting question (Home fixture)
home_splits setting question fixture left of_sheet some within are wins others =
    let options = options_at_fixture setting fixture in
    let one = any_gives is_home_win options (sym are.wins ∙ wins) in
    let other = either_left is_draw is_away_win options left.draws left.losses are.draws are.losses
    others in
    record {
      outcome = refl;
      proper = home_is_proper setting.sheet setting.season question setting.zone fixture of_sheet
          some within (record {
            one = one.0;
            has_one = one.1;
            passed = one.2;
            other = other.0;
            has_other = other.1;
            failed = no_home_win other.0 other.2;
          });
      fixture = fixture;
      in_range = within;
      several = several_left options one.0 other.0 one.1 other.1 (λ same.
          one_of_three {P = ⊥} one.0 other.0 same
          (λ f s. true≢false (sym s ∙ no_home_win other.0 other.2))
          (λ f s. no_won_draw one.0 one.2 f)
          (λ f s. no_two_winners one.0 one.2 f));
    }

-- so does a draw
pub draw_splits : (setting : ZoneBoxView) (question : Question) (fixture : ℕ) (left : Outcomes)
    → IsSeasonOf setting.sheet setting.season → HasFinish setting
    → fixture < length setting.season.scores
    → AreOutcomesOf (options_at_fixture setting fixture) left → left.draws ≡ true
    → (left.wins || left.losses) ≡ true → IsOutcomeSplit setting question (Draw fixture)
draw_splits setting question fixture left of_sheet some within are draws others =
    let options = options_at_fixture setting fixture in
    let one = any_gives is_draw options (sym are.draws ∙ draws) in
    let other = either_left is_home_win is_away_win options left.wins left.losses are.wins
    are.losses others in
    record {
      outcome = refl;
      proper = draw_is_proper setting.sheet setting.season question setting.zone fixture of_sheet
          some within (record {
            one = one.0;
            has_one = one.1;
            passed = one.2;
            other = other.0;
            has_other = other.1;
            failed = no_drawn other.0 other.2;
          });
      fixture = fixture;
      in_range = within;
      several = several_left options one.0 other.0 one.1 other.1 (λ same.
          one_of_three {P = ⊥} one.0 other.0 same
          (λ f s. no_won_draw one.0 f one.2)
          (λ f s. true≢false (sym s ∙ no_drawn other.0 other.2))
          (λ f s. no_lost_draw one.0 one.2 f));
    }

-- ---- all fixtures

-- a fixture that was played has one outcome
played_has_one : (sheet : Sheet) (season : Results) (zone : List Literal) (k : ℕ)
    → k < length season.scores → is_unplayed (get_or season.scores k None) ≡ false
    → has_one_outcome (get_or (options_in sheet season zone) k []) ≡ true
played_has_one sheet season zone k within played =
    subst (λ options. has_one_outcome options ≡ true)
    (sym (options_at sheet.goal_limit zone season.scores k within))
    (of_played (get_or season.scores k None) played)
  where
    of_played : (ended : Option Score) → is_unplayed ended ≡ false
        → has_one_outcome (options_of sheet.goal_limit zone k ended) ≡ true
    of_played None is = absurd (true≢false is)
    of_played (Some score) is =
        elim (cases_Bool (meets zone k score)) as
        (λ _. has_one_outcome (options_of sheet.goal_limit zone k (Some score)) ≡ true) [
          | inl kept ↦ rw kept refl
          | inr dropped ↦ rw dropped refl
        ]

-- if each fixture that is not played has one outcome, each has
pub outcomes_fixed : (sheet : Sheet) (season : Results) (zone : List Literal)
    → ((j : ℕ) → j < length (unplayed_in season.scores)
    → has_one_outcome (get_or (options_in sheet season zone)
    (get_or (unplayed_in season.scores) j 0) []) ≡ true)
    → are_outcomes_fixed sheet season zone ≡ true
outcomes_fixed sheet season zone each =
    let long = length-options_from sheet.goal_limit zone 0 season.scores in
    all_from has_one_outcome (options_in sheet season zone) [] (λ k below.
    each_fixture (λ n. has_one_outcome (get_or (options_in sheet season zone) n []) ≡ true)
    season.scores each (played_has_one sheet season zone) k (omega (arith, long)))
