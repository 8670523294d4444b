use Rattle.std.proofs.Common.{◌≤◌, drop, length, map, ℕ}
use Rattle.league_core.specs.game.Sheets.{clubs_of}
use Rattle.cup_sheet.specs.KeyBounds.{others_kind}
use Rattle.club_keys.specs.inside.KeyEnds.{key_parts}
use Rattle.cup_grammar.specs.CupDues.{others_due, tree_head}
use Rattle.cup_check.specs.inside.CupGoes.{ReachesInCup}
use Rattle.cup_check.proofs.report.CupReport.group_trees.Given as goal

abbrev pub invariant-loop-club : goal.invariant-loop-club
invariant-loop-club l =
    (l.at ≤ length l.self.tokens)
    × ReachesInCup l.self l.from (others_due l.claim (key_parts l.key) l.group) l.at
    (map (λ (club : ℕ). tree_head l.group (record {
      kind = others_kind l.claim;
      club = club;
      key = key_parts l.key;
    })) (drop l.club (clubs_of l.group.sheet))) 0
