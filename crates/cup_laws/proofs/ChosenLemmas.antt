-- Ends of groups that were chosen one by one make a joint finish.
use Rattle.std.proofs.Common.{◌≡◌, ℕ, ◌+◌, List, [], ◌∷◌, length, refl, sym, ap, ◌∙◌, subst}
use Rattle.std.proofs.Common.{arith}
use Rattle.league_core.specs.declared.sheet.Sheet.{Sheet}
use Rattle.league_core.specs.game.Ranking.{are_lots}
use Rattle.league_core.specs.game.Results.{Results}
use Rattle.cup_sheet.specs.Cups.{clubs_together}
use Rattle.cup_sheet.specs.JointFinishes.{AreFinishesOf}
use Rattle.cup_sheet.specs.LotLaws.{AreLaid, lots_together, own_lots, joined_lots}
use Rattle.cup_sheet.proofs.JoinedLotsLemmas.{joined_agree}
use Rattle.cup_laws.specs.inside.ChosenEnds.{ChosenEnd, AreChosen, finishes_of_ends, lots_of_ends}
use Rattle.cup_laws.specs.inside.ChosenEnds.{ChosenEndsAreJoint}

-- each finish is one of its group
pub chosen_finishes : (first : ℕ) (groups : List Sheet) (seasons : List Results)
    (ends : List ChosenEnd) → AreChosen first groups seasons ends
    → AreFinishesOf groups seasons (finishes_of_ends ends)
chosen_finishes first [] [] [] chosen = tt
chosen_finishes first [] [] (end ∷ ends) chosen = absurd chosen
chosen_finishes first [] (season ∷ seasons) ends chosen = absurd chosen
chosen_finishes first (group ∷ groups) [] ends chosen = absurd chosen
chosen_finishes first (group ∷ groups) (season ∷ seasons) [] chosen = absurd chosen
chosen_finishes first (group ∷ groups) (season ∷ seasons) (end ∷ ends) chosen =
    (chosen.1, chosen_finishes (first + length group.clubs) groups seasons ends chosen.3)

-- the lots of the groups follow one another
pub chosen_laid : (first : ℕ) (groups : List Sheet) (seasons : List Results)
    (ends : List ChosenEnd) → AreChosen first groups seasons ends
    → AreLaid first (lots_of_ends ends)
chosen_laid first [] [] [] chosen = tt
chosen_laid first [] [] (end ∷ ends) chosen = absurd chosen
chosen_laid first [] (season ∷ seasons) ends chosen = absurd chosen
chosen_laid first (group ∷ groups) [] ends chosen = absurd chosen
chosen_laid first (group ∷ groups) (season ∷ seasons) [] chosen = absurd chosen
chosen_laid first (group ∷ groups) (season ∷ seasons) (end ∷ ends) chosen =
    let count : end.lots.block.count ≡ length group.clubs = ap (λ it. it.count) chosen.0 in (
      ap (λ it. it.first) chosen.0,
      ap (λ n. are_lots n (own_lots end.lots)) count ∙ chosen.2,
      subst (λ (n : ℕ). AreLaid n (lots_of_ends ends)) (ap (λ n. first + n) (sym count))
          (chosen_laid (first + length group.clubs) groups seasons ends chosen.3),
    )

-- they have the clubs of the cup together
pub chosen_clubs : (first : ℕ) (groups : List Sheet) (seasons : List Results)
    (ends : List ChosenEnd) → AreChosen first groups seasons ends
    → lots_together (lots_of_ends ends) ≡ clubs_together groups
chosen_clubs first [] [] [] chosen = refl
chosen_clubs first [] [] (end ∷ ends) chosen = absurd chosen
chosen_clubs first [] (season ∷ seasons) ends chosen = absurd chosen
chosen_clubs first (group ∷ groups) [] ends chosen = absurd chosen
chosen_clubs first (group ∷ groups) (season ∷ seasons) [] chosen = absurd chosen
chosen_clubs first (group ∷ groups) (season ∷ seasons) (end ∷ ends) chosen =
    let count : end.lots.block.count ≡ length group.clubs = ap (λ it. it.count) chosen.0 in
    let rest = chosen_clubs (first + length group.clubs) groups seasons ends chosen.3 in
    omega (arith, count, rest)

pub chosen_joint : ChosenEndsAreJoint
chosen_joint cup seasons ends order chosen same =
    let agree = joined_agree (lots_of_ends ends) order
    (chosen_laid 0 cup.groups seasons ends chosen) same in (
      record {
        each = chosen_finishes 0 cup.groups seasons ends chosen;
        drawn = ap (λ n. are_lots n (joined_lots (lots_of_ends ends) order))
            (sym (chosen_clubs 0 cup.groups seasons ends chosen))
            ∙ agree.drawn;
      },
      agree,
    )
