-- What leads say of two clubs of a group is true at a finish at which all clubs of the group end on
-- the points: so who leads surely is ahead.
use Rattle.std.proofs.Common.{◌≡◌, ℕ, ℤ, pos, neg_ℤ, ◌-ℤ◌, Bool, true, false, ◌||◌, ◌==◌, cond}
use Rattle.std.proofs.Common.{List, [], ◌∷◌, ◌++◌, map, filter, Option, Some, None, Less, refl, sym}
use Rattle.std.proofs.Common.{ap, ◌∙◌, inl, inr}
use Rattle.std.specs.Ordering.{is_le}
use Rattle.std.proofs.Math.Bool.{or-true}
use Rattle.std.proofs.lemmas.Bool.{false≢true, or_cases, eqb-true, eq-eqb}
use Rattle.league_core.specs.declared.sheet.Sheet.{Sheet}
use Rattle.league_core.specs.declared.season.Score.{Score}
use Rattle.league_core.specs.declared.zone.Literal.{Literal}
use Rattle.league_core.specs.game.Results.{Results}
use Rattle.league_core.specs.game.Sums.{Worth, has_club, worth_to, worth_among, sum_of, points_of}
use Rattle.league_core.specs.game.HeadToHead.{by_head_to_head}
use Rattle.league_core.specs.game.Ahead.{rank_of, by_overall, standing_in}
use Rattle.league_core.specs.search.Options.{IsInBox}
use Rattle.league_core.proofs.ClubLemmas.{has_club-append}
use Rattle.league_core.proofs.plain.Filters.{filter-true}
use Rattle.near_laws.specs.Fits.{fit_options}
use Rattle.near_laws.specs.Leads.{Lead, by_lead, at_most, worth_against, margins, least_lead}
use Rattle.near_laws.specs.SureLeads.{record_worths, first_worths, overall_worths, pair_lead}
use Rattle.near_laws.specs.SureLeads.{lead_against, first_lead, with_part, tail_lead}
use Rattle.near_laws.specs.SureLeads.{group_lead, even_record, any_group_lead, leads_surely}
use Rattle.near_laws.proofs.LeadLemmas.{Bounds, HasSize, sums_of, at_most_first, at_most_second}
use Rattle.near_laws.proofs.LeadLemmas.{least_lead_bounds, ahead_is, level_is, least_lead_size}
use Rattle.near_laws.proofs.MarginLemmas.{by_lead-margins, sums_of-margins, compare_by_margins}
use Rattle.near_laws.proofs.MarginLemmas.{margins_in_same}
use Rattle.near_laws.proofs.FitLemmas.{takes_fit}
use Rattle.near_laws.proofs.GroupLemmas.{record_in, record_against, share, total_bounds, group_of}
use Rattle.near_laws.proofs.AheadLemmas.{AreTrue, decided_ahead}
use Rattle.near_laws.proofs.InTurnLemmas.{IsFrom, from_append}
use Rattle.near_laws.proofs.MadeGroupLemmas.{IsMadeOf, same_parts}

with_part_bounds : (part : ℤ) (lead : Lead) (numbers : List ℤ) → Bounds lead numbers
    → Bounds (with_part part lead) (numbers ++ part ∷ [])
with_part_bounds part None numbers bounds = absurd bounds
with_part_bounds part (Some low) numbers bounds = from_append low numbers part bounds

-- a sum over all matches, or else the part of the rank
abbrev part : Sheet → Results → ℕ → Option Worth → ℤ
part sheet finish club (Some worth) = sum_of worth sheet finish club
part sheet finish club None = neg_ℤ (pos (rank_of sheet club))

-- by the sums over all matches and the rank two clubs compare as their margins say
compare_overall : (sheet : Sheet) (finish : Results) (front back : ℕ)
    → by_overall sheet finish front back
    ≡ by_lead (sums_of (margins worth_to overall_worths front back) sheet.fixtures finish.scores
    ++ (neg_ℤ (pos (rank_of sheet front)) -ℤ neg_ℤ (pos (rank_of sheet back))) ∷ [])
compare_overall sheet finish front back =
    by_lead-margins (part sheet finish front) (part sheet finish back)
    (map Some overall_worths ++ None ∷ [])
    ∙ ap (λ (numbers : List ℤ). by_lead (numbers
    ++ (neg_ℤ (pos (rank_of sheet front)) -ℤ neg_ℤ (pos (rank_of sheet back))) ∷ []))
    (sym (sums_of-margins worth_to overall_worths front back sheet.fixtures finish.scores))

-- at a finish at which the two clubs and the others end on the points
module _ (sheet : Sheet) (season : Results) (zone : List Literal) (finish : Results) (points : ℤ)
    (group others : List ℕ) (front back : ℕ) where
  abbrev fits : List ℕ → List (List Score)
  fits = fit_options sheet season zone points

  abbrev AreOn : Type 0
  AreOn = (club : ℕ) → has_club (others ++ front ∷ back ∷ []) club ≡ true
      → points_of sheet finish club ≡ points

  abbrev record_of : (ℕ → Bool) → List ℤ
  record_of keep =
      record_in (group_of keep others front back) front back sheet.fixtures finish.scores

  abbrev totals : List Worth → List ℤ
  totals worths = sums_of (margins worth_to worths front back) sheet.fixtures finish.scores

  abbrev rank_margin : ℤ
  rank_margin = neg_ℤ (pos (rank_of sheet front)) -ℤ neg_ℤ (pos (rank_of sheet back))

  -- the record in a part is that of who is kept
  compare_part : (keep : ℕ → Bool) → IsMadeOf group others front back → keep front ≡ true
      → keep back ≡ true
      → by_head_to_head sheet finish (filter keep group) front back
      ≡ by_lead (record_in (group_of keep others front back) front back sheet.fixtures
      finish.scores)
  compare_part keep made in_front in_back =
      compare_by_margins (worth_among (filter keep group)) record_worths front back sheet.fixtures
      finish.scores
      ∙ ap by_lead (margins_in_same (filter keep group) (group_of keep others front back)
      record_worths front back sheet.fixtures finish.scores
      (same_parts group others front back keep made in_front in_back))

  two_on : AreOn → (club : ℕ) → has_club (front ∷ back ∷ []) club ≡ true
      → points_of sheet finish club ≡ points
  two_on on club has =
      on club (has_club-append others (front ∷ back ∷ []) club
      ∙ ap (λ b. has_club others club || b) has ∙ or-true (has_club others club))

  three_on : AreOn → (rival : ℕ) → has_club others rival ≡ true → (club : ℕ)
      → has_club (front ∷ back ∷ rival ∷ []) club ≡ true → points_of sheet finish club ≡ points
  three_on on rival among club has =
      elim (or_cases (front == club) ((back == club) || ((rival == club) || false)) has) as
      (λ _. points_of sheet finish club ≡ points) [
        | inl is ↦ two_on on club (ap (λ b. b || ((back == club) || false)) is)
        | inr later ↦
            elim (or_cases (back == club) ((rival == club) || false) later) as
            (λ _. points_of sheet finish club ≡ points) [
              | inl is ↦ two_on on club
                  (ap (λ b. (front == club) || (b || false)) is ∙ or-true (front == club))
              | inr last ↦
                  elim (or_cases (rival == club) false last) as
                  (λ _. points_of sheet finish club ≡ points) [
                    | inl is ↦ on club
                        (has_club-append others (front ∷ back ∷ []) club
                        ∙ ap (λ b. b || has_club (front ∷ back ∷ []) club)
                        (ap (has_club others) (sym (eqb-true rival club is)) ∙ among))
                    | inr none ↦ absurd (false≢true none)
                  ]
            ]
      ]

  pair_bounds : IsInBox sheet season zone finish → AreOn
      → Bounds (pair_lead sheet fits front back)
      (record_in (front ∷ back ∷ []) front back sheet.fixtures finish.scores)
  pair_bounds box on =
      least_lead_bounds (margins (worth_among (front ∷ back ∷ [])) record_worths front back)
      sheet.fixtures (fits (front ∷ back ∷ [])) finish.scores
      (takes_fit sheet season zone finish points (front ∷ back ∷ []) box (two_on on))

  against_bounds : IsInBox sheet season zone finish → AreOn → (rival : ℕ)
      → has_club others rival ≡ true
      → Bounds (lead_against sheet fits front back rival)
      (record_against rival front back sheet.fixtures finish.scores)
  against_bounds box on rival among =
      least_lead_bounds (margins (worth_against rival) record_worths front back) sheet.fixtures
      (fits (front ∷ back ∷ rival ∷ [])) finish.scores
      (takes_fit sheet season zone finish points (front ∷ back ∷ rival ∷ []) box
      (three_on on rival among))

  -- who stays away adds at most what is even, and who comes at most its lead
  any_bounds : IsInBox sheet season zone finish → AreOn → (keep : ℕ → Bool) (rival : ℕ)
      → has_club others rival ≡ true
      → Bounds (Some (at_most even_record (lead_against sheet fits front back rival)))
      (share keep front back sheet.fixtures finish.scores rival)
  any_bounds box on keep rival among = chosen (keep rival)
    where
      size : HasSize 3 (lead_against sheet fits front back rival)
      size = least_lead_size (margins (worth_against rival) record_worths front back)
          sheet.fixtures (fits (front ∷ back ∷ rival ∷ []))

      chosen : (b : Bool)
          → IsFrom (at_most even_record (lead_against sheet fits front back rival))
          (cond b (record_against rival front back sheet.fixtures finish.scores) even_record)
      chosen true =
          at_most_second 3 even_record (lead_against sheet fits front back rival)
          (record_against rival front back sheet.fixtures finish.scores) refl size
          (against_bounds box on rival among)
      chosen false =
          at_most_first 3 even_record (lead_against sheet fits front back rival) refl size

  whole_bounds : IsInBox sheet season zone finish → AreOn → IsMadeOf group others front back
      → Bounds (group_lead sheet fits front back others)
      (record_in (group_of (λ club. true) others front back) front back sheet.fixtures
      finish.scores)
  whole_bounds box on made =
      total_bounds (pair_lead sheet fits front back) (lead_against sheet fits front back)
      (λ club. true) others front back sheet.fixtures finish.scores made.once made.no_front
      made.no_back (pair_bounds box on) (against_bounds box on)

  part_bounds : IsInBox sheet season zone finish → AreOn → IsMadeOf group others front back
      → (keep : ℕ → Bool)
      → Bounds (any_group_lead sheet fits front back others)
      (record_in (group_of keep others front back) front back sheet.fixtures
      finish.scores)
  part_bounds box on made keep =
      total_bounds (pair_lead sheet fits front back)
      (λ rival. Some (at_most even_record (lead_against sheet fits front back rival)))
      keep others front back sheet.fixtures finish.scores made.once made.no_front made.no_back
      (pair_bounds box on) (any_bounds box on keep)

  sums_bounds : IsInBox sheet season zone finish → AreOn → (worths : List Worth)
      → Bounds (least_lead (margins worth_to worths front back) sheet.fixtures
      (fits (front ∷ back ∷ [])))
      (sums_of (margins worth_to worths front back) sheet.fixtures finish.scores)
  sums_bounds box on worths =
      least_lead_bounds (margins worth_to worths front back) sheet.fixtures
      (fits (front ∷ back ∷ [])) finish.scores
      (takes_fit sheet season zone finish points (front ∷ back ∷ []) box (two_on on))

  leads_are_true : IsInBox sheet season zone finish → AreOn → IsMadeOf group others front back
      → AreTrue sheet finish group front back (group_lead sheet fits front back others)
      (any_group_lead sheet fits front back others) (first_lead sheet fits front back)
      (tail_lead sheet fits front back)
  leads_are_true box on made = record {
    whole_ahead = λ ahead.
        ap (λ (g : List ℕ). by_head_to_head sheet finish g front back) (sym (filter-true group))
        ∙ compare_part (λ club. true) made refl refl
        ∙ ahead_is (group_lead sheet fits front back others) (record_of (λ club. true))
        (whole_bounds box on made) ahead;
    part_ahead = λ ahead keep in_front in_back.
        compare_part keep made in_front in_back
        ∙ ahead_is (any_group_lead sheet fits front back others) (record_of keep)
        (part_bounds box on made keep) ahead;
    part_level = λ level keep in_front in_back.
        ap is_le (compare_part keep made in_front in_back)
        ∙ level_is (any_group_lead sheet fits front back others) (record_of keep)
        (part_bounds box on made keep) level;
    first_ahead = λ ahead.
        compare_by_margins worth_to first_worths front back sheet.fixtures finish.scores
        ∙ ahead_is (first_lead sheet fits front back) (totals first_worths)
        (sums_bounds box on first_worths) ahead;
    first_level = λ level.
        ap is_le (compare_by_margins worth_to first_worths front back sheet.fixtures finish.scores)
        ∙ level_is (first_lead sheet fits front back) (totals first_worths)
        (sums_bounds box on first_worths) level;
    last_ahead = λ ahead.
        compare_overall sheet finish front back
        ∙ ahead_is (tail_lead sheet fits front back) (totals overall_worths ++ rank_margin ∷ [])
        (with_part_bounds rank_margin
        (least_lead (margins worth_to overall_worths front back) sheet.fixtures
        (fits (front ∷ back ∷ [])))
        (totals overall_worths) (sums_bounds box on overall_worths)) ahead;
  }

  -- who leads surely is ahead
  pub surely_ahead : IsInBox sheet season zone finish → AreOn → IsMadeOf group others front back
      → leads_surely sheet fits front back others ≡ true
      → standing_in sheet finish group front back ≡ Less
  surely_ahead box on made leads =
      decided_ahead sheet.order sheet finish group front back
      (group_lead sheet fits front back others) (any_group_lead sheet fits front back others)
      (first_lead sheet fits front back) (tail_lead sheet fits front back)
      (leads_are_true box on made)
      (made.same front ∙ has_front)
      leads
    where
      has_front : has_club (others ++ front ∷ back ∷ []) front ≡ true
      has_front =
          has_club-append others (front ∷ back ∷ []) front
          ∙ ap (λ b. has_club others front || (b || has_club (back ∷ []) front))
          (eq-eqb front front refl)
          ∙ or-true (has_club others front)
