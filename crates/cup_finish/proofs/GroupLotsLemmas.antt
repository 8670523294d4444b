-- The lots of a cup within a group are lots of the group.
use Rattle.std.proofs.Common.{◌≡◌, ◌≤◌, ℕ, ◌+◌, true, List, length, sym, subst}
use Rattle.league_core.specs.game.Ranking.{are_lots}
use Rattle.cup_sheet.specs.JointFinishes.{ClubBlock, lots_within}
use Rattle.cup_sheet.proofs.CupLotsLemmas.{as_many_lots}
use Rattle.cup_sheet.proofs.WithinLotsLemmas.{restricted_drawn}

-- they are so many
pub own_drawn : (block : ClubBlock) (lots own : List ℕ) → block.first + block.count ≤ length lots
    → are_lots (length lots) lots ≡ true → own ≡ lots_within block lots
    → are_lots block.count own ≡ true
own_drawn block lots own room drawn is =
    subst (λ (it : List ℕ). are_lots block.count it ≡ true) (sym is)
    (restricted_drawn block (length lots) lots room drawn)

-- and no others are among them
pub own_whole : (block : ClubBlock) (lots own : List ℕ) → block.first + block.count ≤ length lots
    → are_lots (length lots) lots ≡ true → own ≡ lots_within block lots
    → are_lots (length own) own ≡ true
own_whole block lots own room drawn is =
    let whole = own_drawn block lots own room drawn is in
    subst (λ (n : ℕ). are_lots n own ≡ true) (sym (as_many_lots block.count own whole)) whole
