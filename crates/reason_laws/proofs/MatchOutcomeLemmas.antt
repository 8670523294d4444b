-- The three outcomes of one match: each member of the zone without a literal has one of them.
use Rattle.std.proofs.Common.{ℕ, false, List, [], ◌∷◌, refl, inl, inr}
use Rattle.std.specs.Prelude.{◌↔◌, ◌⊎◌}
use Rattle.std.proofs.lemmas.Bool.{and_parts}
use Rattle.league_core.specs.declared.sheet.Sheet.{Sheet}
use Rattle.league_core.specs.declared.question.Claim.TheVariants.{Inside, Outside}
use Rattle.league_core.specs.declared.question.Question.{Question}
use Rattle.league_core.specs.declared.zone.Test.TheVariants.{Home, Draw}
use Rattle.league_core.specs.declared.zone.Literal.{Literal}
use Rattle.league_core.specs.game.Results.{Results}
use Rattle.league_core.specs.game.Questions.{IsExample, full_question}
use Rattle.league_core.specs.game.Verdicts.{HasExample, HasNoExample, IsClinched, IsLost}
use Rattle.league_core.specs.search.Zones.{is_literal_true, are_literals_true, IsMember}
use Rattle.league_core.specs.search.GivenVerdicts.{HasExampleIn, HoldsNowhereIn, IsClinchedGiven}
use Rattle.league_core.specs.search.GivenVerdicts.{IsLostGiven}
use Rattle.league_core.specs.search.OutcomeZones.{home_win_zone, draw_zone, away_win_zone}
use Rattle.league_core.proofs.GivenLemmas.{none_anywhere, some_anywhere}
use Rattle.reason_laws.proofs.SplitLemmas.{either_half}

-- the home side does not win
abbrev no_home_win : ℕ → List Literal
no_home_win fixture = record { test = Home fixture; yes = false } ∷ []

-- that the home side does not win need not be said of a draw
drawn_alone : (sheet : Sheet) (season : Results) (club fixture : ℕ) (finish : Results)
    (lots : List ℕ)
    → IsMember sheet season club
    (record { test = Home fixture; yes = false } ∷ draw_zone fixture) finish lots
    → IsMember sheet season club (draw_zone fixture) finish lots
drawn_alone sheet season club fixture finish lots member = record {
  is_finish = member.is_finish;
  is_drawn = member.is_drawn;
  literals = (and_parts (is_literal_true sheet club finish lots
      (record { test = Home fixture; yes = false }))
      (are_literals_true sheet club finish lots (draw_zone fixture)) member.literals).1;
}

-- each finish with lots has one of the three outcomes
one_outcome : (sheet : Sheet) (season : Results) (question : Question) (fixture : ℕ)
    (finish : Results) (lots : List ℕ) → IsExample sheet season question finish lots
    → IsMember sheet season question.club (home_win_zone fixture) finish lots
    ⊎ IsMember sheet season question.club (draw_zone fixture) finish lots
    ⊎ IsMember sheet season question.club (away_win_zone fixture) finish lots
one_outcome sheet season question fixture finish lots example =
    elim (either_half sheet season question.club [] (Home fixture) finish lots root) as
    (λ _. IsMember sheet season question.club (home_win_zone fixture) finish lots
    ⊎ IsMember sheet season question.club (draw_zone fixture) finish lots
    ⊎ IsMember sheet season question.club (away_win_zone fixture) finish lots) [
      | inl home ↦ inl home
      | inr other ↦ inr (later other)
    ]
  where
    root : IsMember sheet season question.club [] finish lots
    root = record {
      is_finish = example.is_finish;
      is_drawn = example.is_drawn;
      literals = refl;
    }

    later : IsMember sheet season question.club (no_home_win fixture) finish lots
        → IsMember sheet season question.club (draw_zone fixture) finish lots
        ⊎ IsMember sheet season question.club (away_win_zone fixture) finish lots
    later other =
        elim (either_half sheet season question.club
        (no_home_win fixture) (Draw fixture) finish lots other) as
        (λ _. IsMember sheet season question.club (draw_zone fixture) finish lots
        ⊎ IsMember sheet season question.club (away_win_zone fixture) finish lots) [
          | inl drawn ↦ inl
              (drawn_alone sheet season question.club fixture finish lots drawn)
          | inr away ↦ inr away
        ]

pub outcomes_refute : (sheet : Sheet) (season : Results) (question : Question) (fixture : ℕ)
    → HasNoExample sheet season question
    ↔ (HoldsNowhereIn sheet season question (home_win_zone fixture)
    × HoldsNowhereIn sheet season question (draw_zone fixture)
    × HoldsNowhereIn sheet season question (away_win_zone fixture))
outcomes_refute sheet season question fixture = (
  λ none. (
    none_anywhere sheet season question (home_win_zone fixture) none,
    none_anywhere sheet season question (draw_zone fixture) none,
    none_anywhere sheet season question (away_win_zone fixture) none,
  ),
  λ all finish lots example. ended all finish lots example,
)
  where
    ended : HoldsNowhereIn sheet season question (home_win_zone fixture)
        × HoldsNowhereIn sheet season question (draw_zone fixture)
        × HoldsNowhereIn sheet season question (away_win_zone fixture)
        → (finish : Results) (lots : List ℕ) → IsExample sheet season question finish lots → ⊥
    ended all finish lots example =
        elim (one_outcome sheet season question fixture finish lots example) as (λ _. ⊥) [
          | inl home ↦ all.0 finish lots home example.holds
          | inr (inl drawn) ↦ all.1 finish lots drawn example.holds
          | inr (inr away) ↦ all.2 finish lots away example.holds
        ]

pub outcomes_show : (sheet : Sheet) (season : Results) (question : Question) (fixture : ℕ)
    → HasExample sheet season question
    ↔ (HasExampleIn sheet season question (home_win_zone fixture)
    ⊎ HasExampleIn sheet season question (draw_zone fixture)
    ⊎ HasExampleIn sheet season question (away_win_zone fixture))
outcomes_show sheet season question fixture = (there, back)
  where
    there : HasExample sheet season question
        → HasExampleIn sheet season question (home_win_zone fixture)
        ⊎ HasExampleIn sheet season question (draw_zone fixture)
        ⊎ HasExampleIn sheet season question (away_win_zone fixture)
    there has =
        elim (one_outcome sheet season question fixture has.0 has.1 has.2) as
        (λ _. HasExampleIn sheet season question (home_win_zone fixture)
        ⊎ HasExampleIn sheet season question (draw_zone fixture)
        ⊎ HasExampleIn sheet season question (away_win_zone fixture)) [
          | inl home ↦ inl (has.0, has.1, record { example = has.2; member = home })
          | inr (inl drawn) ↦ inr (inl (has.0, has.1, record { example = has.2; member = drawn }))
          | inr (inr away) ↦ inr (inr (has.0, has.1, record { example = has.2; member = away }))
        ]

    back : HasExampleIn sheet season question (home_win_zone fixture)
        ⊎ HasExampleIn sheet season question (draw_zone fixture)
        ⊎ HasExampleIn sheet season question (away_win_zone fixture)
        → HasExample sheet season question
    back (inl home) = some_anywhere sheet season question (home_win_zone fixture) home
    back (inr (inl drawn)) = some_anywhere sheet season question (draw_zone fixture) drawn
    back (inr (inr away)) = some_anywhere sheet season question (away_win_zone fixture) away

pub clinched_by_outcomes : (sheet : Sheet) (season : Results) (club line fixture : ℕ)
    → IsClinched sheet season club line
    ↔ (IsClinchedGiven sheet season (home_win_zone fixture) club line
    × IsClinchedGiven sheet season (draw_zone fixture) club line
    × IsClinchedGiven sheet season (away_win_zone fixture) club line)
clinched_by_outcomes sheet season club line fixture =
    outcomes_refute sheet season (full_question club line Outside) fixture

pub lost_by_outcomes : (sheet : Sheet) (season : Results) (club line fixture : ℕ)
    → IsLost sheet season club line
    ↔ (IsLostGiven sheet season (home_win_zone fixture) club line
    × IsLostGiven sheet season (draw_zone fixture) club line
    × IsLostGiven sheet season (away_win_zone fixture) club line)
lost_by_outcomes sheet season club line fixture =
    outcomes_refute sheet season (full_question club line Inside) fixture
