use Rattle.std.proofs.Common.{◌≡◌, List, drop}
use Rattle.std.specs.List.{list_all}
use Rattle.league_core.specs.declared.zone.Literal.{Literal}
use Rattle.league_core.specs.search.Options.{options_in, has_option}
use Rattle.near_bound.specs.inside.ZonesLeft.{StandsFor}
use Rattle.near_bound.proofs.zone_left.ZoneLeft.has_finish.Given as goal

-- each match so far has a score
abbrev pub invariant-loop-i : goal.invariant-loop-i
invariant-loop-i l =
    (zone : List Literal) → StandsFor l.self zone
    → list_all has_option (options_in l.self.sheet.now l.self.season.now zone)
    ≡ list_all has_option (drop l.i (options_in l.self.sheet.now l.self.season.now zone))
