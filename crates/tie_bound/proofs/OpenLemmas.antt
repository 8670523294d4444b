-- Sums over what is played and the open matches of a group, from one such match to the next.
use Rattle.std.proofs.Common.{◌≡◌, ℕ, zero, suc, ◌+◌, ◌-◌, ◌<◌, ◌≤◌, true, false, length, subst}
use Rattle.std.proofs.Common.{arith}
use Rattle.league_core.specs.declared.club_set.ClubSet.{ClubSet}
use Rattle.league_core.specs.game.Sums.{worth_to, worth_among}
use Rattle.league_core.specs.game.ClubSets.{clubs_in}
use Rattle.score_box.specs.inside.Unplayed.{unplayed_in, open_match, are_open_among}
use Rattle.score_box.specs.inside.ZoneBoxViews.{ZoneBoxView}
use Rattle.tie_bound.specs.declared.sums.Sums.{Sums}
use Rattle.tie_bound.specs.inside.Boxes.{options_in_box}
use Rattle.tie_bound.specs.inside.Sums.{RangesGrowBy}
use Rattle.tie_bound.specs.inside.Tables.{open_options, open_range}
use Rattle.tie_bound.proofs.RowLemmas.{IsOpenSoFar, open_more}
use Rattle.tie_bound.proofs.TableLemmas.{counted_grows, uncounted_grows}

-- the club's sums over what is played and the first open matches, as far as they are of the group
abbrev pub IsSoFarAmong : ZoneBoxView → ClubSet → ℕ → ℕ → Sums → Type 0
IsSoFarAmong box group place club sums =
    IsOpenSoFar (worth_among (clubs_in group)) box.sheet.fixtures box.season.scores
    (options_in_box box) (unplayed_in box.season.scores) place club sums

-- open matches that are not of the group leave them as they are
over_others : (box : ZoneBoxView) (group : ClubSet) (from many club : ℕ) (sums : Sums)
    → from + many ≤ length (unplayed_in box.season.scores)
    → ((place : ℕ) → from ≤ place → place < from + many → are_open_among box group place ≡ false)
    → IsSoFarAmong box group from club sums → IsSoFarAmong box group (from + many) club sums
over_others box group from zero club sums within none so_far =
    let is : from ≡ from + zero = omega arith in
    subst (λ (place : ℕ). IsSoFarAmong box group place club sums) is so_far
over_others box group from (suc many) club sums within none so_far =
    let is : (from + many) + 1 ≡ from + suc many = omega arith in
    subst (λ (place : ℕ). IsSoFarAmong box group place club sums) is
    (open_more (worth_among (clubs_in group)) box.sheet.fixtures box.season.scores
    (options_in_box box) (unplayed_in box.season.scores) (from + many) club sums sums
    (omega arith)
    (over_others box group from many club sums (omega arith)
    (λ place past before. none place past (omega arith)) so_far)
    (uncounted_grows (clubs_in group)
    (open_match box.sheet.fixtures box.season.scores (from + many))
    (open_options box (from + many)) club sums (none (from + many) (omega arith) (omega arith))))

-- so up to the next match that is of the group
pub up_to_next : (box : ZoneBoxView) (group : ClubSet) (from next club : ℕ) (sums : Sums)
    → from ≤ next → next ≤ length (unplayed_in box.season.scores)
    → ((place : ℕ) → from ≤ place → place < next → are_open_among box group place ≡ false)
    → IsSoFarAmong box group from club sums → IsSoFarAmong box group next club sums
up_to_next box group from next club sums past within none so_far =
    let is : from + (next - from) ≡ next = omega arith in
    subst (λ (place : ℕ). IsSoFarAmong box group place club sums) is
    (over_others box group from (next - from) club sums (omega arith)
    (λ place later before. none place later (omega arith)) so_far)

-- and with that match too
pub with_next : (box : ZoneBoxView) (group : ClubSet) (place club : ℕ) (old new : Sums)
    → place < length (unplayed_in box.season.scores) → are_open_among box group place ≡ true
    → IsSoFarAmong box group place club old
    → RangesGrowBy (open_range worth_to box place club) old new
    → IsSoFarAmong box group (place + 1) club new
with_next box group place club old new within counts so_far grows =
    open_more (worth_among (clubs_in group)) box.sheet.fixtures box.season.scores
    (options_in_box box) (unplayed_in box.season.scores) place club old new within so_far
    (counted_grows (clubs_in group)
    (open_match box.sheet.fixtures box.season.scores place)
    (open_options box place) club old new counts grows)
