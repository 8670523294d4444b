-- The JSON values that stand for proof lines: what inner functions build, and what a line's text
-- reads as. What the text is does not rest on them.
use Rattle.std.specs.Prelude.{ℕ, List, map}
use Rattle.serde_json.specs.Data.{Data, number, string, array, unsigned}
use Rattle.serde_json.specs.Find.{of_integer}
use Rattle.serde_json.specs.View.{items_of}
use Rattle.cert_text.specs.Lines.{Part, word, whole, points, clubs, number_in_text}

-- a list of clubs by their numbers in texts
abbrev pub clubs_value : List ℕ → Data
clubs_value list = array (items_of (map (λ club. number (unsigned (number_in_text club))) list))

-- a part as a JSON value: a string, a number, or an array of clubs
abbrev pub part_value : Part → Data
part_value (word name) = string name
part_value (whole n) = number (unsigned n)
part_value (points n) = number (of_integer n)
part_value (clubs list) = clubs_value list

-- the array of a line's parts
abbrev pub parts_value : List Part → Data
parts_value parts = array (items_of (map part_value parts))
