-- The best and the worst place of a club: those with the lots that favour it most and least.
use Rattle.std.proofs.Common.{◌≡◌, ℕ, ◌<◌, ◌≤◌, true, List, length, sym, subst}
use Rattle.league_core.specs.declared.sheet.Sheet.{Sheet}
use Rattle.league_core.specs.declared.question.Claim.TheVariants.{Inside, Outside}
use Rattle.league_core.specs.game.Results.{Results}
use Rattle.league_core.specs.game.Ranking.{are_lots, place_of}
use Rattle.league_core.specs.inside.LotsFor.{lots_for_claim, best_place_of, worst_place_of}
use Rattle.league_core.proofs.LotsLemmas.{place_of-first, place_of-last, lots_for_claim-are_lots}
use Rattle.league_core.proofs.LotsLemmas.{lots_for_claim-favoured}
use Rattle.final_rank.specs.Places.{IsBestPlace, IsWorstPlace}

-- with the club first in the lots it has its best place
pub best_is : (sheet : Sheet) (season : Results) (club place : ℕ) → club < length sheet.clubs
    → place ≡ best_place_of sheet season club → IsBestPlace sheet season club place
best_is sheet season club place below is =
    let clubs = length sheet.clubs in
    let best = lots_for_claim clubs club Inside in
    let P : ℕ → Type 0 = λ n.
    (other : List ℕ) → are_lots clubs other ≡ true → n ≤ place_of sheet season other club in
    record {
      some = (best, lots_for_claim-are_lots clubs club Inside below, sym is);
      least = subst P (sym is) (λ other drawn.
          place_of-first sheet season other best club (lots_for_claim-favoured clubs club Inside));
    }

-- with the club last in the lots it has its worst place
pub worst_is : (sheet : Sheet) (season : Results) (club place : ℕ) → club < length sheet.clubs
    → place ≡ worst_place_of sheet season club → IsWorstPlace sheet season club place
worst_is sheet season club place below is =
    let clubs = length sheet.clubs in
    let worst = lots_for_claim clubs club Outside in
    let P : ℕ → Type 0 = λ n.
    (other : List ℕ) → are_lots clubs other ≡ true → place_of sheet season other club ≤ n in
    record {
      some = (worst, lots_for_claim-are_lots clubs club Outside below, sym is);
      greatest = subst P (sym is) (λ other drawn.
          place_of-last sheet season other worst club (lots_for_claim-favoured clubs club Outside));
    }
