-- Each season has a table, whatever lots are drawn. The statement is the contract of a function of
-- src/table_laws.rt that does nothing.
use Rattle.std.specs.Prelude.{ℕ, IsTrue, List, length}
use Rattle.league_core.specs.declared.sheet.Sheet.{Sheet}
use Rattle.league_core.specs.game.Results.{Results}
use Rattle.league_core.specs.game.Ranking.{are_lots, IsTable}

-- for any lots, some list of the clubs is the table
abbrev pub EachSeasonHasATable : Type 0
EachSeasonHasATable =
    (sheet : Sheet) (season : Results) (lots : List ℕ)
    → IsTrue (are_lots (length sheet.clubs) lots)
    → (table : List ℕ) × IsTable sheet season lots table
