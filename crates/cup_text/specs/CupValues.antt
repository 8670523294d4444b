-- The JSON values that stand for the lines of a cup's proof: what inner functions build, and what a
-- line's text reads as. What the text is does not rest on them.
use Rattle.std.specs.Prelude.{ℤ, List, [], ◌∷◌, ◌++◌, map, Option, None, Some}
use Rattle.serde_json.specs.Data.{Data, number, array}
use Rattle.serde_json.specs.Find.{of_integer}
use Rattle.serde_json.specs.View.{items_of}
use Rattle.cert_text.specs.Lines.{Part}
use Rattle.cert_text.specs.inside.Values.{part_value, parts_value}
use Rattle.cup_text.specs.declared.cup_line.CupKey.{CupKey}
use Rattle.cup_text.specs.declared.cup_line.CupLine.{CupLine}
use Rattle.cup_text.specs.CupLines.{cup_parts_of, cup_key_of}

-- an array of numbers
abbrev pub integers_value : List ℤ → Data
integers_value parts = array (items_of (map (λ part. number (of_integer part)) parts))

-- a key as the array of its parts
abbrev pub key_value : CupKey → Data
key_value key = integers_value key.parts

-- the array of parts with the key, if there is one, behind them
abbrev pub value_with_key : List Part → Option CupKey → Data
value_with_key parts None = parts_value parts
value_with_key parts (Some key) =
    array (items_of (map part_value parts ++ key_value key ∷ []))

-- the array of what stands in a line
abbrev pub cup_line_value : CupLine → Data
cup_line_value line = value_with_key (cup_parts_of line) (cup_key_of line)
