-- The place of a club, by where it stands before the lots, and by its points alone.
use Rattle.std.proofs.Common.{◌≡◌, ℕ, ◌+◌, ◌<◌, ◌≤◌, Bool, true, false, ◌&&◌, ◌||◌, nat_cmp, List}
use Rattle.std.proofs.Common.{length, refl, ap, ◌∙◌, arith}
use Rattle.std.specs.declared.cmp.Ordering.{Ordering}
use Rattle.std.specs.Ordering.{is_eq, is_lt, ordering_then}
use Rattle.std.proofs.lemmas.Bool.{or_right}
use Rattle.std.proofs.lemmas.Cmp.{tied_itself}
use Rattle.league_core.specs.declared.sheet.Sheet.{Sheet}
use Rattle.league_core.specs.declared.question.Claim.TheVariants.{Inside, Outside}
use Rattle.league_core.specs.declared.club_set.ClubSet.{ClubSet}
use Rattle.league_core.specs.game.Results.{Results}
use Rattle.league_core.specs.game.Sheets.{IsWithinLimits, clubs_of}
use Rattle.league_core.specs.game.Sums.{has_club}
use Rattle.league_core.specs.game.ClubSets.{clubs_in}
use Rattle.league_core.specs.game.Ahead.{standing_in}
use Rattle.league_core.specs.game.Ranking.{ranks_before, place_of, tied_group_of, lot_of}
use Rattle.league_core.specs.inside.LotsFor.{lots_for_claim, order_without_lots}
use Rattle.league_core.proofs.RankingLemmas.{ranks_before-itself}
use Rattle.league_core.proofs.ClubCountLemmas.{length-passing}
use Rattle.final_rank.proofs.TierLemmas.{by_points_total}
use Rattle.final_rank.proofs.SpanLemmas.{best_place_of-around, worst_place_of-around}
use Rattle.example_finish.specs.declared.standing.Standing.{Standing}
use Rattle.example_finish.specs.inside.GroupStandings.{IsStandingOf, by_points_in}
use Rattle.league_core.proofs.plain.Counts.{count_fewer, count_misses}
use Rattle.league_core.proofs.plain.Orderings.{first_allows, first_decides}

-- first in the lots a club comes right after the clubs ahead of it
pub place_inside : (sheet : Sheet) (season : Results) (club : ℕ) (standing : Standing)
    → IsWithinLimits sheet
    → IsStandingOf (order_without_lots sheet season) (clubs_of sheet) club standing
    → 1 + length (clubs_in standing.ahead)
    ≡ place_of sheet season (lots_for_claim (length sheet.clubs) club Inside) club
place_inside sheet season club standing limits is =
    let most = limits.most_clubs in
    best_place_of-around sheet season club
    (record { ahead = standing.ahead; level = standing.level }) (omega arith)
    (record { ahead = is.ahead; level = is.level })

-- last in the lots it comes after these and all others that are level with it
pub place_outside : (sheet : Sheet) (season : Results) (club : ℕ) (standing : Standing)
    (both : ClubSet) → IsWithinLimits sheet → club < length sheet.clubs
    → IsStandingOf (order_without_lots sheet season) (clubs_of sheet) club standing
    → ((x : ℕ) → has_club (clubs_in both) x
    ≡ (has_club (clubs_in standing.ahead) x || has_club (clubs_in standing.level) x))
    → length (clubs_in both)
    ≡ place_of sheet season (lots_for_claim (length sheet.clubs) club Outside) club
place_outside sheet season club standing both limits below is union =
    let most = limits.most_clubs in
    worst_place_of-around sheet season club
    (record { ahead = standing.ahead; level = standing.level }) both (omega arith) below
    (record { ahead = is.ahead; level = is.level }) union

-- each club with more points comes before
pub behind_by_points : (sheet : Sheet) (season : Results) (lots : List ℕ) (club : ℕ)
    (tier : Standing) → IsWithinLimits sheet
    → IsStandingOf (by_points_in sheet season) (clubs_of sheet) club tier
    → 1 + length (clubs_in tier.ahead) ≤ place_of sheet season lots club
behind_by_points sheet season lots club tier limits is =
    let most = limits.most_clubs in
    let long = length-passing sheet tier.ahead (λ x. is_lt (by_points_in sheet season x club))
    (omega arith) is.ahead in
    let fewer = count_fewer (λ x. is_lt (by_points_in sheet season x club))
    (λ x. ranks_before sheet season lots x club) (length sheet.clubs)
    (λ x. first_decides (by_points_in sheet season x club)
    (ordering_then (standing_in sheet season (tied_group_of sheet season x) x club)
    (nat_cmp (lot_of lots x) (lot_of lots club)))) in
    omega (arith, long, fewer)

-- and no others but clubs on as many points
pub before_by_points : (sheet : Sheet) (season : Results) (lots : List ℕ) (club : ℕ)
    (tier : Standing) (both : ClubSet) → IsWithinLimits sheet → club < length sheet.clubs
    → IsStandingOf (by_points_in sheet season) (clubs_of sheet) club tier
    → ((x : ℕ) → has_club (clubs_in both) x
    ≡ (has_club (clubs_in tier.ahead) x || has_club (clubs_in tier.level) x))
    → place_of sheet season lots club ≤ length (clubs_in both)
before_by_points sheet season lots club tier both limits below is union =
    let most = limits.most_clubs in
    let order : ℕ → Ordering = λ x. by_points_in sheet season x club in
    let among = λ (x : ℕ).
    union x ∙ (λ i. is.ahead x i || is.level x i)
    ∙ together (has_club (clubs_of sheet) x) (is_lt (order x)) (is_eq (order x)) in
    let long = length-passing sheet both (λ x. is_lt (order x) || is_eq (order x))
    (omega arith) among in
    let fewer = count_misses (λ x. ranks_before sheet season lots x club)
    (λ x. is_lt (order x) || is_eq (order x)) (length sheet.clubs) club below
    (λ x. first_allows (order x)
    (ordering_then (standing_in sheet season (tied_group_of sheet season x) x club)
    (nat_cmp (lot_of lots x) (lot_of lots club))))
    (ranks_before-itself sheet season lots club)
    (or_right (is_lt (order club)) (is_eq (order club))
    (ap is_eq (tied_itself (by_points_total sheet season) club))) in
    omega (arith, long, fewer)
  where
    together : (a b c : Bool) → ((a && b) || (a && c)) ≡ (a && (b || c))
    together true b c = refl
    together false b c = refl
