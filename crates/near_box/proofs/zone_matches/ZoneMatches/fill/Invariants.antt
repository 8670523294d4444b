use Rattle.std.proofs.Common.{◌≡◌, length}
use Rattle.near_box.specs.inside.ZoneMatches.{HaveResults}
use Rattle.near_box.proofs.ZoneMatchLemmas.{AreFirstFilled}
use Rattle.near_box.proofs.zone_matches.ZoneMatches.fill.Given as goal

-- the matches so far are filled in, and each result is in its place
abbrev pub invariant-loop-i : goal.invariant-loop-i
invariant-loop-i l =
    (l.self.played ≡ l.initial.self.played) × (length l.self.matches ≡ 600)
    × HaveResults l.zone_box.season.scores l.self.matches
    × AreFirstFilled l.zone_box l.i l.self.matches
