use Rattle.std.proofs.Common.{◌≡◌, ◌+◌, ◌≤◌, ◌&&◌, ◌||◌, ℕ, Bool, cond, nat_lt, sym, ap, ◌∙◌, arith}
use Rattle.league_core.specs.game.Sums.{has_club}
use Rattle.league_core.specs.game.ClubSets.{clubs_in}
use Rattle.league_core.specs.game.Ranking.{ranks_before, lot_of}
use Rattle.final_rank.proofs.TierLemmas.{ranks_before-around}
use Rattle.final_rank.proofs.places.place.Goals as goal
use Rattle.league_core.proofs.plain.TruthValues.{one_if-most, bool_byte-is}
use Rattle.league_core.proofs.plain.Counts.{count_by-range_suc}

pub loop-other-preserved : goal.loop-other-preserved
loop-other-preserved c =
    let lots = c.args.lots.now in
    let other = c.loop-other.other in
    let around = c.in_ok-around.around in
    let before : ℕ → Bool = λ x. ranks_before c.args.sheet.now c.args.season.now lots x
    c.args.club in
    let more = count_by-range_suc before other in
    let test : c.is_before.result ≡ before other =
    c.is_before.ensures
    ∙ ap (λ n. has_club (clubs_in around.ahead) other ||
    (has_club (clubs_in around.level) other && nat_lt (lot_of lots other) n))
    c.lot_of-lot.ensures
    ∙ ranks_before-around c.args.sheet.now c.args.season.now lots c.args.club other around
    (omega arith) c.in_ok-around.ensures in
    let counted : c.from-before.result ≡ cond (before other) 1 0 =
    c.from-before.ensures ∙ bool_byte-is c.is_before.result
    ∙ ap (λ (b : Bool). cond {A = ℕ} b 1 0) test in
    let one : cond (before other) 1 0 ≤ 1 = one_if-most (before other) in
    ((λ i. c.loop-other.invariant.0 i + counted i) ∙ sym more, omega arith)
