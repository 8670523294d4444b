-- A turning key exists: the list of all finishes is gone through, each with the lots in which one
-- club is drawn first and the club right after it.
use Rattle.std.proofs.Common.{◌≡◌, ◌≢◌, ◌⊎◌, ℕ, ◌<◌, ℤ, Bool, true, not, ◌&&◌, ◌==◌}
use Rattle.std.proofs.Common.{nat_lt, List, length, Option, refl, sym, subst, ◌∙◌, ap, inl, inr}
use Rattle.std.proofs.lemmas.Bool.{false≢true, and_parts, and_from, eq-eqb, ne_eqb}
use Rattle.std.proofs.lemmas.Bool.{eqb-true, lt-ltb, ltb-true, cases_Bool}
use Rattle.std.proofs.lemmas.List.Elements.{All-contains}
use Rattle.league_core.specs.declared.sheet.Sheet.{Sheet}
use Rattle.league_core.specs.declared.season.Score.{Score}
use Rattle.league_core.specs.declared.question.Claim.{Claim}
use Rattle.league_core.specs.game.Results.{Results}
use Rattle.league_core.specs.game.Finishes.{may_all_end}
use Rattle.league_core.specs.game.Ranking.{place_of}
use Rattle.league_core.specs.inside.FinishList.{finishes_of}
use Rattle.league_core.specs.search.Keys.{key_of, is_key_from}
use Rattle.league_core.proofs.FinishListLemmas.{finishes_listed}
use Rattle.league_core.proofs.plain.Runs.{some_below}
use Rattle.club_keys.proofs.KeyOrderLemmas.{from_itself}
use Rattle.cup_sheet.specs.CupLimits.{direct_places}
use Rattle.cup_sheet.specs.declared.question.GroupKind.TheVariants.{SecondAtLeast}
use Rattle.cup_sheet.specs.GroupQuestions.{IsGroupExample}
use Rattle.cup_sheet.specs.KeyBounds.{far_key, CanBeCandidateWith, IsBeyond, IsTurningKey}
use Rattle.group_search.specs.inside.SecondLots.{second_lots}
use Rattle.group_search.proofs.SecondLotsLemmas.{HasSecondLots, second_by_some}
use Rattle.group_search.proofs.SecondLotsLemmas.{second_lots-are_lots}
use Rattle.turning_keys.proofs.NearestKeyLemmas.{nearest_or_none}

-- an example of a question about a candidate has its place and its key
pub candidate_parts : (sheet : Sheet) (season : Results) (club : ℕ) (key : List ℤ)
    (finish : Results) (lots : List ℕ) → IsGroupExample direct_places sheet season
    (record { kind = SecondAtLeast; club = club; key = key }) finish lots
    → place_of sheet finish lots club ≡ 2
candidate_parts sheet season club key finish lots example =
    eqb-true (place_of sheet finish lots club) 2
    (and_parts (place_of sheet finish lots club == 2)
    (is_key_from key (key_of sheet finish club)) example.holds).0

module _ (sheet : Sheet) (season : Results) (club : ℕ) (below : club < length sheet.clubs) where
  -- the finish with these scores
  finish_with : List (Option Score) → Results
  finish_with scores = record { scores = scores; deductions = season.deductions }

  -- with the one club drawn first, these lots leave the club second
  is_second_after : Results → ℕ → Bool
  is_second_after finish first =
      nat_lt first (length sheet.clubs) && (not (first == club)
      && (place_of sheet finish (second_lots (length sheet.clubs) first club) club == 2))

  is_other : (first : ℕ) → not (first == club) ≡ true → first ≢ club
  is_other first apart same =
      false≢true (sym (ap not (eq-eqb first club same)) ∙ apart)

  second_passes : (finish : Results) (first : ℕ) → first < length sheet.clubs → first ≢ club
      → place_of sheet finish (second_lots (length sheet.clubs) first club) club ≡ 2
      → is_second_after finish first ≡ true
  unfolding is_second_after
  second_passes finish first first_in different place =
      let lots = second_lots (length sheet.clubs) first club in
      and_from (nat_lt first (length sheet.clubs))
      (not (first == club) && (place_of sheet finish lots club == 2))
      (lt-ltb first (length sheet.clubs) first_in)
      (and_from (not (first == club)) (place_of sheet finish lots club == 2)
      (ap not (ne_eqb first club different)) (eq-eqb (place_of sheet finish lots club) 2 place))

  passes_second : (finish : Results) (first : ℕ) → is_second_after finish first ≡ true
      → HasSecondLots sheet finish club
  unfolding is_second_after
  passes_second finish first passes =
      let lots = second_lots (length sheet.clubs) first club in
      let parts = and_parts (nat_lt first (length sheet.clubs))
      (not (first == club) && (place_of sheet finish lots club == 2)) passes in
      let more = and_parts (not (first == club)) (place_of sheet finish lots club == 2) parts.1 in (
        first,
        ltb-true first (length sheet.clubs) parts.0,
        is_other first more.0,
        eqb-true (place_of sheet finish lots club) 2 more.1,
      )

  -- some club, drawn first, leaves it second, or none does
  second_or_not : (finish : Results)
      → HasSecondLots sheet finish club ⊎ (HasSecondLots sheet finish club → ⊥)
  second_or_not finish =
      elim (some_below (is_second_after finish) (length sheet.clubs))
      as (λ _. HasSecondLots sheet finish club ⊎ (HasSecondLots sheet finish club → ⊥)) [
        | inl found ↦ inl (passes_second finish found.0 found.1)
        | inr none ↦ inr (λ some. false≢true (sym (none some.0 some.1)
            ∙ second_passes finish some.0 some.1 some.2 some.3))
      ]

  -- the scores are those of a finish, at which some lots leave the club second
  abbrev EndsSecond : List (Option Score) → Type 0
  EndsSecond scores =
      (may_all_end sheet.goal_limit season.scores scores ≡ true)
      × HasSecondLots sheet (finish_with scores) club

  ends_second_or_not : (scores : List (Option Score))
      → EndsSecond scores ⊎ (EndsSecond scores → ⊥)
  ends_second_or_not scores =
      elim (cases_Bool (may_all_end sheet.goal_limit season.scores scores))
      as (λ _. EndsSecond scores ⊎ (EndsSecond scores → ⊥)) [
        | inl may ↦ elim (second_or_not (finish_with scores))
            as (λ _. EndsSecond scores ⊎ (EndsSecond scores → ⊥)) [
              | inl second ↦ inl (may, second)
              | inr not_second ↦ inr (λ ends. not_second ends.1)
            ]
        | inr may_not ↦ inr (λ ends. false≢true (sym may_not ∙ ends.0))
      ]

  -- the club's key there
  key_with : List (Option Score) → List ℤ
  key_with scores = key_of sheet (finish_with scores) club

  -- such scores show the club as the candidate with that key
  candidate_by : (scores : List (Option Score)) → EndsSecond scores
      → CanBeCandidateWith direct_places sheet season club (key_with scores)
  unfolding finish_with key_with
  candidate_by scores ends =
      let lots = second_lots (length sheet.clubs) ends.1.0 club in (
        finish_with scores,
        lots,
        record {
          is_finish = record { deductions = refl; scores = ends.0 };
          is_drawn =
              second_lots-are_lots (length sheet.clubs) ends.1.0 club ends.1.1 below ends.1.2;
          holds =
              and_from (place_of sheet (finish_with scores) lots club == 2)
              (is_key_from (key_with scores) (key_with scores))
              (eq-eqb (place_of sheet (finish_with scores) lots club) 2 ends.1.3)
              (from_itself (key_with scores));
        },
        refl,
      )

  -- each key with which it can be the candidate comes of such scores
  abbrev ComesOf : List ℤ → Type 0
  ComesOf key = (scores : List (Option Score)) × EndsSecond scores × (key_with scores ≡ key)

  comes_of : (key : List ℤ) → CanBeCandidateWith direct_places sheet season club key → ComesOf key
  unfolding finish_with key_with
  comes_of key can =
      let finish = can.0 in
      let same : finish_with finish.scores ≡ finish =
      ap (λ (taken : List ℕ). record { scores = finish.scores; deductions = taken })
      (sym can.2.is_finish.deductions) in (
        finish.scores,
        (
          can.2.is_finish.scores,
          second_by_some sheet (finish_with finish.scores) can.1 club
              (ap (λ (it : Results). place_of sheet it can.1 club) same
              ∙ candidate_parts sheet season club key finish can.1 can.2),
        ),
        ap (λ (it : Results). key_of sheet it club) same ∙ can.3,
      )

  -- so some key is the turning key
  pub turning_key_exists : (claim : Claim)
      → (key : List ℤ) × IsTurningKey direct_places sheet season claim club key
  turning_key_exists claim =
      elim (nearest_or_none EndsSecond key_with claim ends_second_or_not
      (finishes_of sheet.goal_limit season.scores))
      as (λ _. (key : List ℤ) × IsTurningKey direct_places sheet season claim club key) [
        | inl best ↦ (
          key_with best.0,
          inl (
            candidate_by best.0 best.1,
            λ key can.
                let from = comes_of key can in
                subst (λ (it : List ℤ). IsBeyond claim (key_with best.0) it) from.2
                (All-contains (λ scores. EndsSecond scores
                → IsBeyond claim (key_with best.0) (key_with scores))
                (finishes_of sheet.goal_limit season.scores) from.0 best.2
                ((finishes_listed sheet.goal_limit season.scores from.0).1 from.1.0) from.1),
          ),
        )
        | inr none ↦ (
          far_key claim,
          inr (
            λ key can.
                let from = comes_of key can in
                All-contains (λ scores. EndsSecond scores → ⊥)
                (finishes_of sheet.goal_limit season.scores) from.0 none
                ((finishes_listed sheet.goal_limit season.scores from.0).1 from.1.0) from.1,
            refl,
          ),
        )
      ]
