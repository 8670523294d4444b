-- A match with a result is added for both of its clubs.
use Rattle.std.proofs.Common.{◌≡◌, ◌≢◌, ℕ, ℤ, pos, ◌+◌, ◌*◌, ◌<◌, ◌⊎◌, Bool, true}
use Rattle.std.proofs.Common.{false, cond, [], ◌∷◌}
use Rattle.std.proofs.Common.{refl, sym, ◌∙◌, subst, inl, inr}
use Rattle.std.proofs.Common.{arith}
use Rattle.std.proofs.lemmas.Bool.{cases_eq}
use Rattle.league_core.specs.declared.sheet.Fixture.{Fixture}
use Rattle.league_core.specs.declared.season.Score.{Score}
use Rattle.league_core.specs.game.Sums.{Worth}
use Rattle.league_core.specs.game.Sums.{has_club, worth_to}
use Rattle.near_laws.specs.Leads.{worth_against}
use Rattle.near_bound.specs.declared.margin.Margin.{Margin}
use Rattle.near_bound.specs.declared.played.PlayedPart.{PlayedPart}
use Rattle.near_bound.specs.inside.Margins.{IsMarginBy, IsMarginWithin, IsMarginSum}
use Rattle.near_bound.specs.inside.PlayedParts.{no_margin, margin_listed}
use Rattle.near_bound.specs.inside.PlayedParts.{club_margin, pair_margin, ArePartsNear}
use Rattle.near_bound.specs.inside.PlayedParts.{AddsValue, AreSidesIn, AddsSide, AddsPlayedMatch}
use Rattle.near_bound.proofs.GroupWorthLemmas.{nothing_to}
use Rattle.near_bound.proofs.MarginLemmas.{margin_wider}
use Rattle.near_bound.proofs.PlayedLemmas.{none_within}
use Rattle.near_bound.proofs.PlayedLemmas.{by_same, sum_with_none, sum_near, worth_home}
use Rattle.near_bound.proofs.PlayedLemmas.{worth_away, against_in, against_out, plays_home}
use Rattle.near_bound.proofs.PlayedLemmas.{plays_away, stays_out, not_there, both_sizes}

module _ (match : Fixture) (score : Score) (home away : Margin) (old mid new : PlayedPart)
    (sides : AreSidesIn match)
    (home_is : IsMarginBy (λ worth. worth score.home score.away false) home)
    (home_near : IsMarginWithin 255 home)
    (away_is : IsMarginBy (λ worth. worth score.away score.home true) away)
    (away_near : IsMarginWithin 255 away)
    (first : AddsSide match.home match.away home old mid)
    (second : AddsSide match.away match.home away mid new) where
  -- no value is added where both sides leave a margin as it is
  kept_margin : (value : Worth → ℤ) (before after : Margin) → after ≡ before
      → ((worth : Worth) → value worth ≡ pos 0) → AddsValue value before after
  kept_margin value before after same zero = (
    no_margin,
    by_same (λ worth. pos 0) value no_margin (record {
      points = refl;
      difference = refl;
      goals = refl;
      away_goals = refl;
      wins = refl;
      away_wins = refl;
    }) (λ worth. sym (zero worth)),
    none_within 255,
    subst (λ (m : Margin). IsMarginSum before no_margin m) (sym same) (sum_with_none before),
  )

  adds_to_club : (club : ℕ) → (club ≡ match.home) ⊎ (club ≢ match.home)
      → (club ≡ match.away) ⊎ (club ≢ match.away)
      → AddsValue (λ worth. worth_to worth club match score) (club_margin old club)
      (club_margin new club)
  adds_to_club club (inl same) at = (
    home,
    by_same (λ worth. worth score.home score.away false)
        (λ worth. worth_to worth club match score) home home_is
        (λ worth. sym (worth_home worth club match score same)),
    home_near,
    subst (λ (m : Margin). IsMarginSum (club_margin old club) home m)
        (sym (second.others club (λ e. sides.apart (sym same ∙ e))))
        (subst (λ (n : ℕ). IsMarginSum (club_margin old n) home (club_margin mid n)) (sym same)
        first.own),
  )
  adds_to_club club (inr other) (inl same) = (
    away,
    by_same (λ worth. worth score.away score.home true)
        (λ worth. worth_to worth club match score) away away_is
        (λ worth. sym (worth_away worth club match score other same)),
    away_near,
    subst (λ (m : Margin). IsMarginSum m away (club_margin new club)) (first.others club other)
        (subst (λ (n : ℕ). IsMarginSum (club_margin mid n) away (club_margin new n)) (sym same)
        second.own),
  )
  adds_to_club club (inr other) (inr also) =
      kept_margin (λ worth. worth_to worth club match score) (club_margin old club)
      (club_margin new club) (second.others club also ∙ first.others club other)
      (λ worth. nothing_to worth club match score (stays_out match club other also))

  -- the pair's own places
  place_other : (club rival a b : ℕ) → club < 32 → rival < 32 → a < 32 → b < 32
      → (club ≢ a) ⊎ (rival ≢ b) → 32 * club + rival ≢ 32 * a + b
  place_other club rival a b club_in rival_in a_in b_in (inl apart) =
      λ e. apart (omega (arith, e, rival_in, b_in))
  place_other club rival a b club_in rival_in a_in b_in (inr apart) =
      λ e. apart (omega (arith, e, rival_in, b_in))

  -- a place of neither side stays as it is
  kept_pair : (club rival : ℕ) → club < 32 → rival < 32
      → (club ≢ match.home) ⊎ (rival ≢ match.away) → (club ≢ match.away) ⊎ (rival ≢ match.home)
      → ((worth : Worth) → worth_against rival worth club match score ≡ pos 0)
      → AddsValue (λ worth. worth_against rival worth club match score)
      (pair_margin old club rival) (pair_margin new club rival)
  kept_pair club rival club_in rival_in one two zero =
      kept_margin (λ worth. worth_against rival worth club match score)
      (pair_margin old club rival) (pair_margin new club rival)
      (second.other_pairs (32 * club + rival)
      (place_other club rival match.away match.home club_in rival_in sides.away sides.home two)
      ∙ first.other_pairs (32 * club + rival)
      (place_other club rival match.home match.away club_in rival_in sides.home sides.away one))
      zero

  at_home : (club rival : ℕ) → club < 32 → rival < 32 → club ≢ rival → club ≡ match.home
      → (rival ≡ match.away) ⊎ (rival ≢ match.away)
      → AddsValue (λ worth. worth_against rival worth club match score)
      (pair_margin old club rival) (pair_margin new club rival)
  at_home club rival club_in rival_in apart same (inl away_same) = (
    home,
    by_same (λ worth. worth score.home score.away false)
        (λ worth. worth_against rival worth club match score) home home_is
        (λ worth. sym (against_in worth club rival match score
        (plays_away match rival away_same) ∙ worth_home worth club match score same)),
    home_near,
    subst (λ (m : Margin). IsMarginSum (pair_margin old club rival) home m)
        (sym (second.other_pairs (32 * club + rival)
        (place_other club rival match.away match.home club_in rival_in sides.away sides.home
        (inl (λ e. sides.apart (sym same ∙ e))))))
        (subst (λ (n : ℕ). IsMarginSum (pair_margin old club n) home (pair_margin mid club n))
        (sym away_same)
        (subst (λ (n : ℕ). IsMarginSum (pair_margin old n match.away) home
        (pair_margin mid n match.away)) (sym same) first.pair)),
  )
  at_home club rival club_in rival_in apart same (inr not_away) =
      kept_pair club rival club_in rival_in (inr not_away)
      (inl (λ e. sides.apart (sym same ∙ e)))
      (λ worth. against_out worth club rival match score
      (not_there match rival (stays_out match rival (λ e. apart (same ∙ sym e)) not_away)))

  away_from_home : (club rival : ℕ) → club < 32 → rival < 32 → club ≢ rival
      → club ≢ match.home → club ≡ match.away → (rival ≡ match.home) ⊎ (rival ≢ match.home)
      → AddsValue (λ worth. worth_against rival worth club match score)
      (pair_margin old club rival) (pair_margin new club rival)
  away_from_home club rival club_in rival_in apart other same (inl home_same) = (
    away,
    by_same (λ worth. worth score.away score.home true)
        (λ worth. worth_against rival worth club match score) away away_is
        (λ worth. sym (against_in worth club rival match score
        (plays_home match rival home_same) ∙ worth_away worth club match score other same)),
    away_near,
    subst (λ (m : Margin). IsMarginSum m away (pair_margin new club rival))
        (first.other_pairs (32 * club + rival)
        (place_other club rival match.home match.away club_in rival_in sides.home sides.away
        (inl other)))
        (subst (λ (n : ℕ). IsMarginSum (pair_margin mid club n) away (pair_margin new club n))
        (sym home_same)
        (subst (λ (n : ℕ). IsMarginSum (pair_margin mid n match.home) away
        (pair_margin new n match.home)) (sym same) second.pair)),
  )
  away_from_home club rival club_in rival_in apart other same (inr not_home) =
      kept_pair club rival club_in rival_in (inl other) (inr not_home)
      (λ worth. against_out worth club rival match score
      (not_there match rival (stays_out match rival not_home (λ e. apart (same ∙ sym e)))))

  zero_either : (b : Bool) (number : ℤ) → number ≡ pos 0 → cond b number (pos 0) ≡ pos 0
  zero_either true number zero = zero
  zero_either false number zero = refl

  adds_to_pair : (club rival : ℕ) → club < 32 → rival < 32 → club ≢ rival
      → (club ≡ match.home) ⊎ (club ≢ match.home) → (club ≡ match.away) ⊎ (club ≢ match.away)
      → AddsValue (λ worth. worth_against rival worth club match score)
      (pair_margin old club rival) (pair_margin new club rival)
  adds_to_pair club rival club_in rival_in apart (inl same) at =
      at_home club rival club_in rival_in apart same (cases_eq rival match.away)
  adds_to_pair club rival club_in rival_in apart (inr other) (inl same) =
      away_from_home club rival club_in rival_in apart other same (cases_eq rival match.home)
  adds_to_pair club rival club_in rival_in apart (inr other) (inr also) =
      kept_pair club rival club_in rival_in (inl other) (inl also)
      (λ worth. zero_either (has_club (match.home ∷ match.away ∷ []) rival)
      (worth_to worth club match score)
      (nothing_to worth club match score (stays_out match club other also)))

  -- a place is as near as before, or by one match less
  place_near : (played : ℕ) (place : ℕ) → ArePartsNear old played
      → (place ≡ 32 * match.home + match.away) ⊎ (place ≢ 32 * match.home + match.away)
      → (place ≡ 32 * match.away + match.home) ⊎ (place ≢ 32 * match.away + match.home)
      → IsMarginWithin (255 * (played + 1)) (margin_listed new.pairs place)
  place_near played place near (inl same) (inl also) = absurd
      (place_other match.home match.away match.away match.home sides.home sides.away sides.away
      sides.home (inl sides.apart) (sym same ∙ also))
  place_near played place near (inl same) (inr other) =
      subst (λ (m : Margin). IsMarginWithin (255 * (played + 1)) m)
      (sym (second.other_pairs place other))
      (subst (λ (n : ℕ). IsMarginWithin (255 * (played + 1)) (margin_listed mid.pairs n))
      (sym same)
      (margin_wider (255 * played + 255) (255 * (played + 1))
      (pair_margin mid match.home match.away)
      (omega arith)
      (sum_near (255 * played) 255 (pair_margin old match.home match.away) home
      (pair_margin mid match.home match.away) first.pair
      (near.pairs (32 * match.home + match.away)) home_near)))
  place_near played place near (inr other) (inl same) =
      subst (λ (n : ℕ). IsMarginWithin (255 * (played + 1)) (margin_listed new.pairs n)) (sym same)
      (margin_wider (255 * played + 255) (255 * (played + 1))
      (pair_margin new match.away match.home)
      (omega arith)
      (sum_near (255 * played) 255 (pair_margin mid match.away match.home) away
      (pair_margin new match.away match.home) second.pair
      (subst (λ (m : Margin). IsMarginWithin (255 * played) m)
      (sym (first.other_pairs (32 * match.away + match.home)
      (λ e. other (same ∙ e)))) (near.pairs (32 * match.away + match.home))) away_near))
  place_near played place near (inr other) (inr also) =
      subst (λ (m : Margin). IsMarginWithin (255 * (played + 1)) m)
      (sym (second.other_pairs place also ∙ first.other_pairs place other))
      (margin_wider (255 * played) (255 * (played + 1)) (margin_listed old.pairs place)
      (omega arith) (near.pairs place))

  pub adds_match : AddsPlayedMatch match score old new
  adds_match = record {
    clubs = λ club. adds_to_club club (cases_eq club match.home) (cases_eq club match.away);
    pairs = λ club rival club_in rival_in apart.
        adds_to_pair club rival club_in rival_in apart (cases_eq club match.home)
        (cases_eq club match.away);
    near = λ played near. record {
      clubs = λ club.
          let at = adds_to_club club (cases_eq club match.home) (cases_eq club match.away) in
          margin_wider (255 * played + 255) (255 * (played + 1)) (club_margin new club)
          (omega arith)
          (sum_near (255 * played) 255 (club_margin old club) at.0 (club_margin new club) at.3
          (near.clubs club) at.2);
      pairs = λ place.
          place_near played place near (cases_eq place (32 * match.home + match.away))
          (cases_eq place (32 * match.away + match.home));
    };
    keeps = record {
      unplayed = second.keeps.unplayed ∙ first.keeps.unplayed;
      count = second.keeps.count ∙ first.keeps.count;
    };
    sizes = both_sizes old mid new first.sizes second.sizes;
  }
