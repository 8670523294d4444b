-- The points of a match, as what it gives to a club; and points added over matches.
use Rattle.std.proofs.Common.{◌≡◌, ◌≢◌, ℕ, ℤ, pos, ◌+◌, ◌<◌, ◌+ℤ◌, ◌-ℤ◌, ◌≤◌, true}
use Rattle.std.proofs.Common.{false}
use Rattle.std.proofs.Common.{cond, ◌==◌, List, [], ◌∷◌, length, get_or, drop, refl, sym, ap, ◌∙◌}
use Rattle.std.proofs.Common.{eq-eqb, arith}
use Rattle.std.proofs.lemmas.Int.{ints}
use Rattle.std.proofs.lemmas.Bool.{ne_eqb, false≢true}
use Rattle.league_core.specs.declared.sheet.Fixture.{Fixture}
use Rattle.league_core.specs.declared.season.Score.{Score}
use Rattle.league_core.specs.game.Sums.{match_points}
use Rattle.league_core.specs.search.Options.{has_score}
use Rattle.league_core.specs.search.PointRanges.{Range, range_of, range_from, points_together}
use Rattle.league_core.specs.search.PointRanges.{added, one_value}
use Rattle.league_core.proofs.OptionLemmas.{has_score-first}
use Rattle.league_core.proofs.PointRangeLemmas.{range_of-same}
use Rattle.league_core.proofs.PointRangeLemmas.{range_from-more, range_from-all}
use Rattle.league_core.proofs.RangeLemmas.{range_of-none, added-assoc, added-none}
use Rattle.near_bound.specs.declared.points.PointEnds.{PointEnds}
use Rattle.near_bound.specs.inside.Points.{range_of_ends, side_points}

-- where no score is left there is no option
pub no_options : (options : List Score) → ((score : Score) → has_score options score ≡ false)
    → options ≡ []
no_options [] none = refl
no_options (first ∷ options) none = absurd
    (false≢true (sym (none first) ∙ has_score-first first options))

-- what a match gives to a side, as what it gives to the club
pub at_home_alone : (match : Fixture) (club : ℕ) (options : List Score) → match.home ≡ club
    → range_of (side_points false) options ≡ range_of (points_together (club ∷ []) match) options
at_home_alone match club options home =
    range_of-same (side_points false) (points_together (club ∷ []) match) options
    (λ score. plain score
    ∙ ap (λ b. cond b (match_points score.home score.away false)
    (cond (match.away == club) (match_points score.away score.home true) (pos 0)) +ℤ pos 0)
    (sym (eq-eqb match.home club home)))
  where
    plain : (score : Score) → side_points false score
        ≡ (match_points score.home score.away false +ℤ pos 0)
    plain score = omega (arith, ints)

pub away_alone : (match : Fixture) (club : ℕ) (options : List Score) → match.home ≢ club
    → match.away ≡ club
    → range_of (side_points true) options ≡ range_of (points_together (club ∷ []) match) options
away_alone match club options not_home away =
    range_of-same (side_points true) (points_together (club ∷ []) match) options
    (λ score. plain score
    ∙ ap (λ b. cond b (match_points score.away score.home true) (pos 0) +ℤ pos 0)
    (sym (eq-eqb match.away club away))
    ∙ ap (λ b. cond b (match_points score.home score.away false)
    (cond (match.away == club) (match_points score.away score.home true) (pos 0)) +ℤ pos 0)
    (sym (ne_eqb match.home club not_home)))
  where
    plain : (score : Score) → side_points true score
        ≡ (match_points score.away score.home true +ℤ pos 0)
    plain score = omega (arith, ints)

pub not_there : (match : Fixture) (club : ℕ) (options : List Score) → match.home ≢ club
    → match.away ≢ club
    → one_value (pos 0) ≡ range_of (points_together (club ∷ []) match) options
not_there match club options not_home not_away =
    sym (range_of-none options)
    ∙ range_of-same (λ score. pos 0) (points_together (club ∷ []) match) options
    (λ score.
    ap (λ b. cond b (match_points score.away score.home true) (pos 0) +ℤ pos 0)
    (sym (ne_eqb match.away club not_away))
    ∙ ap (λ b. cond b (match_points score.home score.away false)
    (cond (match.away == club) (match_points score.away score.home true) (pos 0)) +ℤ pos 0)
    (sym (ne_eqb match.home club not_home)))

-- one match more
pub points_more : (value : Fixture → Score → ℤ) (matches : List Fixture)
    (options : List (List Score)) (count : ℕ) (old here new : PointEnds) (d : Fixture)
    → count < length matches → count < length options
    → added (range_of_ends old) (range_from value (drop count matches) (drop count options))
    ≡ range_from value matches options
    → range_of_ends here ≡ range_of (value (get_or matches count d)) (get_or options count [])
    → new.least ≡ old.least +ℤ here.least → new.most ≡ old.most +ℤ here.most
    → added (range_of_ends new)
    (range_from value (drop (count + 1) matches) (drop (count + 1) options))
    ≡ range_from value matches options
points_more value matches options count old here new d inside there so_far here_is low high =
    let rest = range_from value (drop (count + 1) matches) (drop (count + 1) options) in
    (λ i. added (record { least = low i; greatest = high i }) rest)
    ∙ added-assoc (range_of_ends old) (range_of_ends here) rest
    ∙ ap (λ r. added (range_of_ends old) (added r rest)) here_is
    ∙ ap (added (range_of_ends old)) (sym (range_from-more value matches options count d inside
    there))
    ∙ so_far

-- no match is left
pub all_points : (value : Fixture → Score → ℤ) (matches : List Fixture)
    (options : List (List Score)) (count : ℕ) (won : PointEnds) → length matches ≤ count
    → added (range_of_ends won) (range_from value (drop count matches) (drop count options))
    ≡ range_from value matches options
    → range_of_ends won ≡ range_from value matches options
all_points value matches options count won all so_far =
    sym (added-none (range_of_ends won))
    ∙ ap (added (range_of_ends won)) (sym (range_from-all value matches options count all))
    ∙ so_far

-- points less what is taken off
pub less_off : (won ends : PointEnds) (all : Range) (off : ℕ) → range_of_ends won ≡ all
    → ends.least ≡ won.least -ℤ pos off → ends.most ≡ won.most -ℤ pos off
    → range_of_ends ends ≡ added all (one_value (pos 0 -ℤ (pos off +ℤ pos 0)))
less_off won ends all off is low high =
    let least : ends.least ≡ all.least +ℤ (pos 0 -ℤ (pos off +ℤ pos 0)) =
    omega (arith, ints, low, ap (λ (r : Range). r.least) is) in
    let most : ends.most ≡ all.greatest +ℤ (pos 0 -ℤ (pos off +ℤ pos 0)) =
    omega (arith, ints, high, ap (λ (r : Range). r.greatest) is) in
    (λ i. record { least = least i; greatest = most i })
