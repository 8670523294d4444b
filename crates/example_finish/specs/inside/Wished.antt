-- Which clubs the proposed finish of a zone wishes points, as a set and a claim.
use Rattle.std.specs.Prelude.{◌≡◌, ℕ, ◌<◌, Bool, false, not, List, length, slice_index_or}
use Rattle.league_core.specs.declared.club_set.ClubSet.{ClubSet}
use Rattle.league_core.specs.declared.question.Claim.{Claim}
use Rattle.league_core.specs.declared.question.Claim.TheVariants.{Inside, Outside}
use Rattle.league_core.specs.declared.question.Question.{Question}
use Rattle.league_core.specs.declared.zone.Literal.{Literal}
use Rattle.league_core.specs.game.Sums.{has_club}
use Rattle.league_core.specs.game.ClubSets.{clubs_in}
use Rattle.league_core.specs.search.Proposals.{is_wished}
use Rattle.example_finish.specs.declared.wishes.Wishes.{Wishes}

-- the clubs of the set are wished points for a place inside the line, all others for one outside it
abbrev pub has_wish : ClubSet → ℕ → Claim → Bool
has_wish near club Inside = has_club (clubs_in near) club
has_wish near club Outside = not (has_club (clubs_in near) club)

-- they are wished to the clubs that the proposed finish of the zone wishes points
abbrev pub AreWishesOf : List Literal → Question → Wishes → Type 0
AreWishesOf zone question wishes =
    (club : ℕ)
    → has_wish wishes.near club wishes.claim ≡ is_wished zone question.club club question.claim

-- the table says of each number of a club whether it is wished points
pub record AreWished (wishes : Wishes) (table : List Bool) : Type 0 where
  pub long : length table ≡ 24
  pub each : (club : ℕ) → club < 24
      → slice_index_or table club false ≡ has_wish wishes.near club wishes.claim
