-- Which lines of a cup's proof have a form: the ranges of their numbers, whatever the cup. They are
-- the greatest that a cup may have.
use Rattle.std.specs.Prelude.{ℕ, ℤ, neg_ℤ, Bool, true, not, ◌&&◌, ◌==◌, int_le, List, length}
use Rattle.std.specs.Prelude.{Option, None, Some}
use Rattle.std.specs.List.{list_all}
use Rattle.league_core.specs.game.Results.{is_score}
use Rattle.cert_text.specs.Ranges.{is_one_of, is_test_below}
use Rattle.cup_sheet.specs.CupLimits.{most_groups}
use Rattle.cup_sheet.specs.GroupQuestions.{is_of_place}
use Rattle.cup_sheet.specs.declared.question.GroupKind.{GroupKind}
use Rattle.cup_text.specs.declared.cup_line.CupKey.{CupKey}
use Rattle.cup_text.specs.declared.cup_line.CupReason.{CupReason}
use Rattle.cup_text.specs.declared.cup_line.CupReason.TheVariants.{Count, Window, Low, High, Tie}
use Rattle.cup_text.specs.declared.cup_line.CupLeaf.{CupLeaf}
use Rattle.cup_text.specs.declared.cup_line.CupLeaf.TheVariants.{Plain, In, Out, ByKey}
use Rattle.cup_text.specs.declared.cup_line.CupLine.{CupLine}
use Rattle.cup_text.specs.declared.cup_line.CupLine.TheVariants as line
use Rattle.cup_text.specs.CupForms.{most_part, is_rising}
use Rattle.cup_sheet.specs.CupLimits.{most_cup_clubs, most_cup_fixtures}

-- a club of a cup
abbrev pub is_cup_club : ℕ → Bool
is_cup_club club = is_one_of most_cup_clubs club

-- numbers that rise, each one of so many, and at least one
abbrev pub is_rising_below : ℕ → List ℕ → Bool
is_rising_below most list = is_rising list && list_all (is_one_of most) list

-- a part that a key can have
abbrev pub is_key_part : ℤ → Bool
is_key_part part = int_le (neg_ℤ most_part) part && int_le part most_part

-- seven such parts
abbrev pub is_cup_key : CupKey → Bool
is_cup_key key = (length key.parts == 7) && list_all is_key_part key.parts

-- a key stands with a kind that is not about the place alone, and with no other
abbrev pub is_key_of_kind : GroupKind → Option CupKey → Bool
is_key_of_kind kind None = is_of_place kind
is_key_of_kind kind (Some key) = not (is_of_place kind) && is_cup_key key

-- the clubs of a cut rise
abbrev pub is_cup_reason : CupReason → Bool
is_cup_reason Count = true
is_cup_reason Window = true
is_cup_reason (Low cut) = is_rising_below most_cup_clubs cut.list
is_cup_reason (High cut) = is_rising_below most_cup_clubs cut.list
is_cup_reason Tie = true

-- the reason of a leaf is such a reason
abbrev pub is_cup_leaf : CupLeaf → Bool
is_cup_leaf (Plain reason) = is_cup_reason reason
is_cup_leaf (In reason) = is_cup_reason reason
is_cup_leaf (Out reason) = is_cup_reason reason
is_cup_leaf ByKey = true

-- the numbers of a line are such as its form has; lots need not name each club
abbrev pub is_cup_line : CupLine → Bool
is_cup_line (line.Finish claim) = true
is_cup_line (line.Score fixture score) = is_one_of most_cup_fixtures fixture && is_score score
is_cup_line (line.Lots lots) = list_all is_cup_club lots.list
is_cup_line (line.Spent kind club key) = is_cup_club club && is_key_of_kind kind key
is_cup_line (line.Split test) = is_test_below most_cup_fixtures most_cup_clubs test
is_cup_line (line.NewSplit test) = is_test_below most_cup_fixtures most_cup_clubs test
is_cup_line (line.Leaf leaf) = is_cup_leaf leaf
is_cup_line (line.NewLeaf leaf) = is_cup_leaf leaf
is_cup_line line.OpenLeaf = true
is_cup_line (line.KeyLine key) = is_cup_key key
is_cup_line (line.Groups groups) = is_rising_below most_groups groups.list
is_cup_line (line.Tree kind club) = is_cup_club club
