-- What the reasons and sums of a zone say of its members, and what it means that none holds, by the
-- definitions alone: each statement is the contract of a function of src/laws.rt that does nothing.
use Rattle.std.specs.Prelude.{◌≡◌, ℕ, ◌<◌, ◌≤ℤ◌, IsTrue, List, length}
use Rattle.league_core.specs.declared.sheet.Sheet.{Sheet}
use Rattle.league_core.specs.declared.question.Question.{Question}
use Rattle.league_core.specs.declared.zone.Literal.{Literal}
use Rattle.league_core.specs.declared.zone.Reason.{Reason}
use Rattle.league_core.specs.declared.zone.Reason.TheVariants.{Window, Tie}
use Rattle.league_core.specs.game.Results.{Results}
use Rattle.league_core.specs.game.Sums.{points_of}
use Rattle.league_core.specs.game.Ranking.{are_lots}
use Rattle.league_core.specs.game.Questions.{holds_at, IsExample}
use Rattle.league_core.specs.inside.LotsFor.{lots_for_claim, IsFavoured}
use Rattle.league_core.specs.search.Zones.{IsMember}
use Rattle.league_core.specs.search.PointRanges.{total_of, least_points_of, most_points_of}
use Rattle.league_core.specs.search.Reasons.{has_reason}
use Rattle.league_core.specs.search.Options.{is_single, IsInBox}

-- a member of a zone takes an option of each fixture there
abbrev pub MembersAreInTheBox : Type 0
MembersAreInTheBox =
    (sheet : Sheet) (season : Results) (club : ℕ) (zone : List Literal)
    (finish : Results) (lots : List ℕ)
    → IsMember sheet season club zone finish lots → IsInBox sheet season zone finish

-- the points of any set of clubs lie between the least and the most that it can have in the zone
abbrev pub PointsAreInTheirRange : Type 0
PointsAreInTheirRange =
    (sheet : Sheet) (season : Results) (zone : List Literal) (finish : Results) (clubs : List ℕ)
    → IsInBox sheet season zone finish
    → (least_points_of sheet season zone clubs ≤ℤ total_of (points_of sheet finish) clubs)
    × (total_of (points_of sheet finish) clubs ≤ℤ most_points_of sheet season zone clubs)

-- if a reason holds, the question holds at no member of the zone, whatever the lots
abbrev pub ReasonsAreSound : Type 0
ReasonsAreSound =
    (sheet : Sheet) (season : Results) (question : Question) (zone : List Literal)
    (reason : Reason) (finish : Results) (lots : List ℕ)
    → question.club < length sheet.clubs
    → IsTrue (has_reason sheet season question zone reason)
    → IsMember sheet season question.club zone finish lots
    → ¬ IsTrue (holds_at sheet question finish lots)

-- if each fixture has one option, one finish takes them, and no other does
abbrev pub SingleZonesHaveOneFinish : Type 0
SingleZonesHaveOneFinish =
    (sheet : Sheet) (season : Results) (zone : List Literal) → IsTrue (is_single sheet season zone)
    → (finish : Results) × IsInBox sheet season zone finish
    × ((other : Results) → IsInBox sheet season zone other → other ≡ finish)

-- if each fixture has one option, and neither the window nor the criteria are a reason, the finish
-- that takes these options is an example with any lots that favour the claim
abbrev pub SingleZonesAreDecided : Type 0
SingleZonesAreDecided =
    (sheet : Sheet) (season : Results) (question : Question) (zone : List Literal)
    (finish : Results) (lots : List ℕ)
    → question.club < length sheet.clubs → IsTrue (is_single sheet season zone)
    → ¬ IsTrue (has_reason sheet season question zone Window)
    → ¬ IsTrue (has_reason sheet season question zone Tie)
    → IsInBox sheet season zone finish → IsTrue (are_lots (length sheet.clubs) lots)
    → IsFavoured question.claim (length sheet.clubs) lots question.club
    → IsExample sheet season question finish lots

-- among them with the lots that put the club first, or last
abbrev pub SingleZonesAreDecidedByTwoLots : Type 0
SingleZonesAreDecidedByTwoLots =
    (sheet : Sheet) (season : Results) (question : Question) (zone : List Literal)
    (finish : Results)
    → question.club < length sheet.clubs → IsTrue (is_single sheet season zone)
    → ¬ IsTrue (has_reason sheet season question zone Window)
    → ¬ IsTrue (has_reason sheet season question zone Tie)
    → IsInBox sheet season zone finish
    → IsExample sheet season question finish
    (lots_for_claim (length sheet.clubs) question.club question.claim)
