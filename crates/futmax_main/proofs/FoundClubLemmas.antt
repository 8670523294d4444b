-- The clubs of which something was found so far.
use Rattle.std.proofs.Common.{◌≡◌, ◌∙◌, ◌<◌, ◌+◌, ℕ, List, [], ◌∷◌, ◌++◌, ap, refl, sym}
use Rattle.std.specs.Prelude.{All}
use Rattle.std.specs.List.{range_with_len}
use Rattle.std.proofs.lemmas.List.{map-append}
use Rattle.std.proofs.lemmas.List.Elements.{All-nil, All-push}
use Rattle.league_core.specs.game.Results.{Results}
use Rattle.league_core.proofs.plain.Runs.{range_with_len-suc}
use Rattle.cup_sheet.specs.declared.cup.Cup.{Cup}
use Rattle.cup_sheet.specs.Cups.{clubs_together}
use Rattle.runners_up.specs.declared.finding.ClubFinding.{ClubFinding}
use Rattle.runners_up.specs.inside.ClubFindings.{IsClubFinding}
use Rattle.cup_rows.specs.declared.found.FoundClub.{FoundClub}
use Rattle.cup_rows.specs.inside.FoundClubs.{IsFoundClub, found_clubs}

-- those before a club, in their order
pub record AreFoundBefore (cup : Cup) (seasons : List Results) (count : ℕ) (all : List FoundClub)
    : Type 0 where
  pub clubs : found_clubs all ≡ range_with_len 0 count
  pub each : All (IsFoundClub cup seasons) all

pub found-none : (cup : Cup) (seasons : List Results) → AreFoundBefore cup seasons 0 []
found-none cup seasons = record { clubs = refl; each = All-nil (IsFoundClub cup seasons) }

pub found-next : (cup : Cup) (seasons : List Results) (club : ℕ) (all : List FoundClub)
    (finding : ClubFinding) → club < clubs_together cup.groups
    → AreFoundBefore cup seasons club all → IsClubFinding cup seasons club finding
    → AreFoundBefore cup seasons (club + 1) (all ++ record { club = club; finding = finding } ∷ [])
found-next cup seasons club all finding in_range before is =
    let found : FoundClub = record { club = club; finding = finding } in
    record {
      clubs =
          map-append (λ (f : FoundClub). f.club) all (found ∷ [])
          ∙ ap (λ clubs. clubs ++ club ∷ []) before.clubs
          ∙ sym (range_with_len-suc club);
      each =
          All-push (IsFoundClub cup seasons) all found before.each
          (record { in_range = in_range; finding = is });
    }
