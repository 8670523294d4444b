use Rattle.std.proofs.Common.{◌≡◌, ℕ, false, take, map}
use Rattle.std.specs.List.{concat}
use Rattle.league_core.specs.game.Sums.{has_club}
use Rattle.league_core.specs.game.ClubSets.{clubs_in}
use Rattle.final_rank.proofs.around.Around.of.Given as goal

-- the clubs of the blocks that were passed are ahead, and the club is not of them
abbrev pub invariant-loop-block : goal.invariant-loop-block
invariant-loop-block l = record {
  ahead : (x : ℕ) → has_club (clubs_in l.ahead) x ≡ has_club
      (concat (take l.block-index (map clubs_in l.blocks))) x;
  missing : has_club (concat (take l.block-index (map clubs_in l.blocks))) l.club ≡ false;
}
