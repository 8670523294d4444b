-- What a round has in common before a call picks it.
use Rattle.std.specs.Prelude.{[]}
use Rattle.atomic_table.specs.Seated.{TableId}
use Rattle.league_core.specs.declared.sheet.Sheet.{Sheet}
use Rattle.league_core.specs.declared.sheet.Order.TheVariants.{HeadFirst}

-- no table in particular
abbrev pub no_table : TableId
no_table = record {
  words = 0;
  slots = 0;
  views_name = 0;
  atom = 0;
  block = 0;
  offset = 0;
  slot_names = [];
}

-- no sheet in particular
abbrev pub no_sheet : Sheet
no_sheet = record {
  name = [];
  clubs = [];
  fixtures = [];
  lines = [];
  goal_limit = 0;
  budget = 0;
  order = HeadFirst;
}
