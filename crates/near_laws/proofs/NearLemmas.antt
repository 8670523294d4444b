-- The near reason is sound: at a member of the zone with the club's points in the window the rival
-- and the club are level on points, and the clubs level with them are a group in which nobody is
-- surely wrong.
use Rattle.std.proofs.Common.{◌≡◌, ℕ, ℤ, ◌<◌, ◌≤ℤ◌, Bool, true, not, ◌&&◌, ◌||◌, ◌==◌, List, []}
use Rattle.std.proofs.Common.{◌∷◌, length, filter, nat_le, sym, ap, ◌∙◌, inl, inr, arith}
use Rattle.std.specs.Prelude.{int_le}
use Rattle.std.specs.List.{list_all, list_any}
use Rattle.std.proofs.lemmas.Int.{ints, clamps}
use Rattle.std.proofs.lemmas.Bool.{true≢false, and_parts, or_cases, eqb-true, not-true}
use Rattle.league_core.specs.declared.sheet.Sheet.{Sheet}
use Rattle.league_core.specs.declared.question.Question.{Question}
use Rattle.league_core.specs.declared.season.Score.{Score}
use Rattle.league_core.specs.declared.zone.Literal.{Literal}
use Rattle.league_core.specs.game.Results.{Results}
use Rattle.league_core.specs.game.Sums.{has_club, points_of}
use Rattle.league_core.specs.game.Ranking.{tied_group_of, ranks_before}
use Rattle.league_core.specs.game.Questions.{holds_at}
use Rattle.league_core.specs.search.Zones.{marked_before, marked_after, IsMember}
use Rattle.league_core.specs.search.Options.{has_finish, IsInBox}
use Rattle.league_core.specs.search.PointRanges.{least_points_of, most_points_of, own_most}
use Rattle.league_core.specs.search.PointRanges.{own_least}
use Rattle.league_core.proofs.OrderingLemmas.{greater_first-same}
use Rattle.league_core.proofs.RankingLemmas.{tied_group_of-tied, ranks_before-both}
use Rattle.league_core.proofs.TableLemmas.{ranks_before-points}
use Rattle.reason_laws.proofs.MemberLemmas.{member_in_box, points_in_box}
use Rattle.reason_laws.proofs.MarkedOrderLemmas.{points_not_before, before_is, after_is}
use Rattle.reason_laws.proofs.ReasonLemmas.{holds_parts}
use Rattle.near_laws.specs.Fits.{fit_options, have_fit, is_able, is_surely_on}
use Rattle.near_laws.specs.SureLeads.{leads_surely}
use Rattle.near_laws.specs.Groups.{groups_with}
use Rattle.near_laws.specs.Near.{most_loose, is_wrong_in, has_wrong, able_rivals, is_held}
use Rattle.near_laws.specs.Near.{are_all_groups_wrong, cannot_both_have}
use Rattle.near_laws.specs.Near.{is_pressed_from_behind, is_pressed_from_ahead}
use Rattle.near_laws.specs.Near.{refutes_by_near, has_near_reason}
use Rattle.near_laws.proofs.FitLemmas.{int_le-says, fit_are_left, able_is, settled_is, of_one}
use Rattle.near_laws.proofs.GroupLemmas.{any_member, each_group}
use Rattle.near_laws.proofs.MadeGroupLemmas.{IsMadeOf, turned}
use Rattle.near_laws.proofs.SureLeadLemmas.{surely_ahead}
use Rattle.near_laws.proofs.LevelRivalLemmas.{has_points_of, level_rivals, level_on, on_from}
use Rattle.near_laws.proofs.LevelRivalLemmas.{made_of_level, made_on, ahead_ranks_before}

-- at a finish in the box, with the club on the points
module _ (sheet : Sheet) (season : Results) (zone : List Literal) (finish : Results) (club : ℕ)
    (points : ℤ) (box : IsInBox sheet season zone finish)
    (club_in : club < length sheet.clubs) (club_on : points_of sheet finish club ≡ points) where
  abbrev on : ℕ → Bool
  on = has_points_of sheet finish club

  abbrev able : List ℕ
  able = able_rivals sheet season zone points club

  abbrev level : List ℕ
  level = level_rivals sheet season zone finish club points

  abbrev fits : List ℕ → List (List Score)
  fits = fit_options sheet season zone points

  -- the rivals on the points without this one
  abbrev others_than : ℕ → List ℕ
  others_than rival = filter (λ other. not (other == rival)) level

  -- who leads surely in the group of those on the points ranks before the other
  leads_rank_before : (lots : List ℕ) (front back : ℕ) (others : List ℕ)
      → IsMadeOf (tied_group_of sheet finish club) others front back
      → points_of sheet finish front ≡ points → points_of sheet finish back ≡ points
      → leads_surely sheet (fit_options sheet season zone points) front back others ≡ true
      → ranks_before sheet finish lots front back ≡ true
  leads_rank_before lots front back others made front_on back_on leads =
      ahead_ranks_before sheet finish lots (tied_group_of sheet finish club) front back
      (front_on ∙ sym back_on)
      (tied_group_of-tied sheet finish club front
      (greater_first-same (points_of sheet finish club) (points_of sheet finish front)
      (club_on ∙ sym front_on)))
      (surely_ahead sheet season zone finish points (tied_group_of sheet finish club) others front
      back box
      (made_on sheet season zone finish club points box club_in club_on others front back made)
      made leads)

  -- so no rival on the points is surely wrong
  wrong_says : (lots : List ℕ) → IsMember sheet season club zone finish lots → (rival : ℕ)
      → has_club level rival ≡ true
      → is_wrong_in sheet (fit_options sheet season zone points) zone club level rival ≡ true → ⊥
  wrong_says lots member rival among wrong =
      elim (or_cases
      (marked_after zone rival && leads_surely sheet fits rival club (others_than rival))
      (marked_before zone rival && leads_surely sheet fits club rival (others_than rival))
      wrong) as (λ _. ⊥) [
        | inl after ↦
            let parts = and_parts (marked_after zone rival)
            (leads_surely sheet fits rival club (others_than rival)) after in
            true≢false
            (sym (leads_rank_before lots rival club (others_than rival) made rival_on club_on
            parts.1)
            ∙ after_is sheet club finish lots zone rival member.literals parts.0)
        | inr before ↦
            let parts = and_parts (marked_before zone rival)
            (leads_surely sheet fits club rival (others_than rival)) before in
            ranks_before-both sheet finish lots rival club
            (before_is sheet club finish lots zone rival member.literals parts.0)
            (leads_rank_before lots club rival (others_than rival)
            (turned (tied_group_of sheet finish club) (others_than rival) rival club made) club_on
            rival_on parts.1)
      ]
    where
      rival_on : points_of sheet finish rival ≡ points
      rival_on = level_on sheet season zone finish club points box club_in club_on rival among

      made : IsMadeOf (tied_group_of sheet finish club) (others_than rival) rival club
      made = made_of_level sheet season zone finish club points box club_in club_on rival among

  -- and a rival that is held on the points, with the one that is on them, is
  held_says : (rival other : ℕ) → points_of sheet finish rival ≡ points
      → is_held sheet season zone points rival other ≡ true
      → points_of sheet finish other ≡ points
  held_says rival other rival_on held =
      elim (or_cases (other == rival) (is_surely_on sheet season zone points other) held) as
      (λ _. points_of sheet finish other ≡ points) [
        | inl same ↦ ap (points_of sheet finish) (eqb-true other rival same) ∙ rival_on
        | inr settled ↦ settled_is sheet season zone finish points other box settled
      ]

  -- a rival that is held on the points has no fit score left against the club
  abbrev is_barred : ℕ → ℕ → Bool
  is_barred rival other = is_held sheet season zone points rival other
      && not (have_fit sheet season zone points (club ∷ other ∷ []))

  -- the club and the rival are not both on the points if they cannot be
  pub cannot_says : (lots : List ℕ) → IsMember sheet season club zone finish lots → (rival : ℕ)
      → points_of sheet finish rival ≡ points
      → cannot_both_have sheet season zone points club rival ≡ true → ⊥
  cannot_says lots member rival rival_on cannot =
      elim (or_cases ((not (is_able sheet season zone points club)
      || not (is_able sheet season zone points rival)) || list_any (is_barred rival) able)
      (are_all_groups_wrong sheet season zone points club rival) cannot) as (λ _. ⊥) [
        | inl one ↦
            elim (or_cases (not (is_able sheet season zone points club)
            || not (is_able sheet season zone points rival)) (list_any (is_barred rival) able)
            one) as (λ _. ⊥) [
              | inl unable ↦
                  elim (or_cases (not (is_able sheet season zone points club))
                  (not (is_able sheet season zone points rival)) unable) as (λ _. ⊥) [
                    | inl own ↦ true≢false
                        (sym (able_is sheet season zone finish points club box club_on)
                        ∙ not-true (is_able sheet season zone points club) own)
                    | inr its ↦ true≢false
                        (sym (able_is sheet season zone finish points rival box rival_on)
                        ∙ not-true (is_able sheet season zone points rival) its)
                  ]
              | inr some ↦ any_member (is_barred rival) able (λ other has. barred_says other) some
            ]
        | inr groups ↦
            any_member
            (is_wrong_in sheet (fit_options sheet season zone points) zone club level) level
            (wrong_says lots member)
            (each_group
            (has_wrong sheet (fit_options sheet season zone points) zone club)
            (is_held sheet season zone points rival) on able
            (λ other held. on_from sheet season zone finish club points box club_in club_on other
            (held_says rival other rival_on held))
            (and_parts (nat_le (length
            (filter (λ other. not (is_held sheet season zone points rival other)) able)) most_loose)
            (list_all (has_wrong sheet (fit_options sheet season zone points) zone club)
            (groups_with (is_held sheet season zone points rival) able)) groups).1)
      ]
    where
      barred_says : (other : ℕ) → is_barred rival other ≡ true → ⊥
      barred_says other is =
          let parts = and_parts (is_held sheet season zone points rival other)
          (not (have_fit sheet season zone points (club ∷ other ∷ []))) is in
          let other_on = held_says rival other rival_on parts.0 in
          true≢false
          (sym (fit_are_left sheet season zone finish points (club ∷ other ∷ []) box
          (two other other_on))
          ∙ not-true (have_fit sheet season zone points (club ∷ other ∷ [])) parts.1)
        where
          two : (other : ℕ) → points_of sheet finish other ≡ points → (third : ℕ)
              → has_club (club ∷ other ∷ []) third ≡ true → points_of sheet finish third ≡ points
          two other other_on third has =
              elim (or_cases (club == third) (has_club (other ∷ []) third) has) as
              (λ _. points_of sheet finish third ≡ points) [
                | inl same ↦ sym (ap (points_of sheet finish) (eqb-true club third same)) ∙ club_on
                | inr later ↦ of_one (λ c. points_of sheet finish c ≡ points) other third other_on
                    later
              ]

-- if the near reason holds, the question holds at no member
pub near_says : (sheet : Sheet) (season : Results) (question : Question) (zone : List Literal)
    (rival : ℕ) (finish : Results) (lots : List ℕ) → question.club < length sheet.clubs
    → has_near_reason sheet season question zone rival ≡ true
    → IsMember sheet season question.club zone finish lots
    → holds_at sheet question finish lots ≡ true → ⊥
unfolding has_near_reason
near_says sheet season question zone rival finish lots club_in reason member holds =
    let window = holds_parts sheet question finish lots holds in
    let box = member_in_box sheet season question.club zone finish lots member in
    let own = points_in_box sheet season zone finish (question.club ∷ []) box in
    let its = points_in_box sheet season zone finish (rival ∷ []) box in
    elim (or_cases (is_pressed_from_behind sheet season question zone rival
    && cannot_both_have sheet season zone (own_most sheet season question zone) question.club rival)
    (is_pressed_from_ahead sheet season question zone rival
    && cannot_both_have sheet season zone (own_least sheet season question zone) question.club
    rival)
    (and_parts (has_finish sheet season zone)
    (refutes_by_near sheet season question zone rival) reason).1) as (λ _. ⊥) [
      | inl behind ↦
          let parts = and_parts (is_pressed_from_behind sheet season question zone rival)
          (cannot_both_have sheet season zone (own_most sheet season question zone) question.club
          rival) behind in
          let pressed = and_parts (marked_after zone rival)
          (int_le (own_most sheet season question zone)
          (least_points_of sheet season zone (rival ∷ []))) parts.0 in
          let least = int_le-says (own_most sheet season question zone)
          (least_points_of sheet season zone (rival ∷ [])) pressed.1 in
          let most : points_of sheet finish question.club ≤ℤ own_most sheet season question zone =
          omega (arith, ints, clamps) in
          let order = points_not_before sheet finish lots rival question.club
          (after_is sheet question.club finish lots zone rival member.literals pressed.0) in
          cannot_says sheet season zone finish question.club
          (own_most sheet season question zone) box club_in (omega (arith, ints)) lots member rival
          (omega (arith, ints)) parts.1
      | inr ahead ↦
          let parts = and_parts (is_pressed_from_ahead sheet season question zone rival)
          (cannot_both_have sheet season zone (own_least sheet season question zone) question.club
          rival) ahead in
          let pressed = and_parts (marked_before zone rival)
          (int_le (most_points_of sheet season zone (rival ∷ []))
          (own_least sheet season question zone)) parts.0 in
          let most = int_le-says (most_points_of sheet season zone (rival ∷ []))
          (own_least sheet season question zone) pressed.1 in
          let least : own_least sheet season question zone ≤ℤ points_of sheet finish question.club =
          omega (arith, ints, clamps) in
          let order = ranks_before-points sheet finish lots rival question.club
          (before_is sheet question.club finish lots zone rival member.literals pressed.0) in
          cannot_says sheet season zone finish question.club
          (own_least sheet season question zone) box club_in (omega (arith, ints)) lots member rival
          (omega (arith, ints)) parts.1
    ]
