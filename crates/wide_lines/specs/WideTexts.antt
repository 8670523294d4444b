-- The text of each wide line, and which wide line a text has the form of: the proof lines with
-- their own forms, and two forms of leaves more.
use Rattle.std.specs.Prelude.{ℕ, Bool, true, false, List, [], ◌∷◌, map, Option, Some, None}
use Rattle.std.specs.Prelude.{option_map, option_and_then, if◌then◌else◌, codes}
use Rattle.std.specs.Str.{bytes_eq}
use Rattle.serde_json.specs.Data.{Data}
use Rattle.league_core.specs.game.Limits.{most_clubs}
use Rattle.cert_text.specs.declared.proof_line.ProofLine.{ProofLine}
use Rattle.cert_text.specs.Lines.{Part, word, whole, number_in_text, array_text, part_text}
use Rattle.cert_text.specs.Lines.{text_of_proof_line}
use Rattle.cert_text.specs.Ranges.{is_club_number, is_in_range}
use Rattle.cert_text.specs.Places.{word_at, numbered_at}
use Rattle.cert_text.specs.Forms.{if_ends_at, json_of, line_in}
use Rattle.wide_lines.specs.declared.wide_line.WideLine.{WideLine}
use Rattle.wide_lines.specs.declared.wide_line.WideLine.TheVariants.{Plain, Near, NewNear}

-- the first word of the line of a refuted leaf, marked new or not
abbrev pub leaf_word : Bool → List ℕ
leaf_word true = codes "new_leaf"
leaf_word false = codes "leaf"

-- what stands in the line of a near leaf: its rival from 1, as in each text
abbrev pub near_parts : Bool → ℕ → List Part
near_parts fresh rival =
    word (leaf_word fresh) ∷ word (codes "near") ∷ whole (number_in_text rival) ∷ []

-- the text of its line
abbrev pub text_of_near : Bool → ℕ → List ℕ
text_of_near fresh rival = array_text (map part_text (near_parts fresh rival))

-- the one text of a wide line
abbrev pub text_of_wide_line : WideLine → List ℕ
text_of_wide_line (Plain line) = text_of_proof_line line
text_of_wide_line (Near rival) = text_of_near false rival
text_of_wide_line (NewNear rival) = text_of_near true rival

-- the line's numbers are such as its form has
abbrev pub is_wide_in_range : WideLine → Bool
is_wide_in_range (Plain line) = is_in_range line
is_wide_in_range (Near rival) = is_club_number rival
is_wide_in_range (NewNear rival) = is_club_number rival

-- the line of a near leaf, marked new or not
abbrev pub near_line : Bool → ℕ → WideLine
near_line true rival = NewNear rival
near_line false rival = Near rival

-- the rival of a near leaf, if its line ends after it
abbrev pub near_rival_in : List ℕ → Data → Option ℕ
near_rival_in kind shown =
    if bytes_eq kind (codes "near") then if_ends_at 3 shown (numbered_at most_clubs 2 shown)
    else None

-- the rival of a leaf whose reason is near
abbrev pub near_leaf_in : Data → Option ℕ
near_leaf_in shown = option_and_then (λ kind. near_rival_in kind shown) (word_at 1 shown)

-- a near leaf by its first word
abbrev pub near_line_named : List ℕ → Data → Option WideLine
near_line_named name shown =
    if bytes_eq name (codes "leaf") then option_map (λ rival. Near rival) (near_leaf_in shown)
    else if bytes_eq name (codes "new_leaf")
    then option_map (λ rival. NewNear rival) (near_leaf_in shown)
    else None

-- the near leaf that a JSON value has the form of
abbrev pub near_line_of_value : Data → Option WideLine
near_line_of_value shown = option_and_then (λ name. near_line_named name shown) (word_at 0 shown)

-- the near leaf that a text has the form of
abbrev pub near_line_in : List ℕ → Option WideLine
near_line_in text = option_and_then near_line_of_value (json_of text)

-- a proof line if there is one, and otherwise this
abbrev pub plain_or : Option ProofLine → Option WideLine → Option WideLine
plain_or None other = other
plain_or (Some line) other = Some (Plain line)

-- the wide line that a text has the form of
abbrev pub wide_line_in : List ℕ → Option WideLine
wide_line_in text = plain_or (line_in text) (near_line_in text)
