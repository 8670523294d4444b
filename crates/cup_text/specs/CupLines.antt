-- The text of each line of a cup's proof: one JSON array without a space, of words, numbers and
-- lists. A key stands last in its line. Clubs, fixtures and groups count from 1 in texts, and from
-- 0 in types. The forms are this project's own.
use Rattle.std.specs.Prelude.{ℕ, List, [], ◌∷◌, ◌++◌, map, Option, None, Some, codes}
use Rattle.std.specs.Fmt.{signed_decimal}
use Rattle.cert_text.specs.Lines.{Part, word, whole, clubs, number_in_text, claim_word, test_parts}
use Rattle.cert_text.specs.Lines.{array_text, part_text}
use Rattle.cup_sheet.specs.declared.question.GroupKind.{GroupKind}
use Rattle.cup_sheet.specs.declared.question.GroupKind.TheVariants.{Top, Below, SecondLess}
use Rattle.cup_sheet.specs.declared.question.GroupKind.TheVariants.{SecondAtLeast, SecondMore}
use Rattle.cup_sheet.specs.declared.question.GroupKind.TheVariants.{SecondAtMost}
use Rattle.cup_text.specs.declared.cup_line.CupKey.{CupKey}
use Rattle.cup_text.specs.declared.cup_line.CupReason.{CupReason}
use Rattle.cup_text.specs.declared.cup_line.CupReason.TheVariants.{Count, Window, Low, High, Tie}
use Rattle.cup_text.specs.declared.cup_line.CupLeaf.{CupLeaf}
use Rattle.cup_text.specs.declared.cup_line.CupLeaf.TheVariants.{Plain, In, Out, ByKey}
use Rattle.cup_text.specs.declared.cup_line.CupLine.{CupLine}
use Rattle.cup_text.specs.declared.cup_line.CupLine.TheVariants as line

-- a reason says its kind, then the clubs of its cut if it has one
abbrev pub cup_reason_parts : CupReason → List Part
cup_reason_parts Count = word (codes "count") ∷ []
cup_reason_parts Window = word (codes "window") ∷ []
cup_reason_parts (Low cut) = word (codes "low") ∷ clubs cut.list ∷ []
cup_reason_parts (High cut) = word (codes "high") ∷ clubs cut.list ∷ []
cup_reason_parts Tie = word (codes "tie") ∷ []

-- a leaf says its reason, after the side on which the club ends if it is about a candidate
abbrev pub cup_leaf_parts : CupLeaf → List Part
cup_leaf_parts (Plain reason) = cup_reason_parts reason
cup_leaf_parts (In reason) = word (codes "in") ∷ cup_reason_parts reason
cup_leaf_parts (Out reason) = word (codes "out") ∷ cup_reason_parts reason
cup_leaf_parts ByKey = word (codes "key") ∷ []

-- the word of a kind
abbrev pub kind_word : GroupKind → List ℕ
kind_word Top = codes "top"
kind_word Below = codes "below"
kind_word SecondLess = codes "second_less"
kind_word SecondAtLeast = codes "second_at_least"
kind_word SecondMore = codes "second_more"
kind_word SecondAtMost = codes "second_at_most"

-- the head of a tree says its name, then the kind of its question and the club
abbrev pub head_parts : List ℕ → GroupKind → ℕ → List Part
head_parts name kind club = word name ∷ word (kind_word kind) ∷ whole (number_in_text club) ∷ []

-- what stands in each line, in its order, before its key
abbrev pub cup_parts_of : CupLine → List Part
cup_parts_of (line.Finish claim) = word (codes "finish") ∷ word (claim_word claim) ∷ []
cup_parts_of (line.Score fixture score) =
    word (codes "score") ∷ whole (number_in_text fixture) ∷ whole score.home ∷ whole score.away ∷ []
cup_parts_of (line.Lots lots) = word (codes "lots") ∷ clubs lots.list ∷ []
cup_parts_of (line.Spent kind club key) = head_parts (codes "group_spent") kind club
cup_parts_of (line.Split test) = word (codes "split") ∷ test_parts test
cup_parts_of (line.NewSplit test) = word (codes "new_split") ∷ test_parts test
cup_parts_of (line.Leaf leaf) = word (codes "leaf") ∷ cup_leaf_parts leaf
cup_parts_of (line.NewLeaf leaf) = word (codes "new_leaf") ∷ cup_leaf_parts leaf
cup_parts_of line.OpenLeaf = word (codes "open") ∷ []
cup_parts_of (line.KeyLine key) = word (codes "key") ∷ []
cup_parts_of (line.Groups groups) = word (codes "groups") ∷ clubs groups.list ∷ []
cup_parts_of (line.Tree kind club) = head_parts (codes "group_tree") kind club

-- the key of a line, if it has one
abbrev pub cup_key_of : CupLine → Option CupKey
cup_key_of (line.Finish claim) = None
cup_key_of (line.Score fixture score) = None
cup_key_of (line.Lots lots) = None
cup_key_of (line.Spent kind club key) = key
cup_key_of (line.Split test) = None
cup_key_of (line.NewSplit test) = None
cup_key_of (line.Leaf leaf) = None
cup_key_of (line.NewLeaf leaf) = None
cup_key_of line.OpenLeaf = None
cup_key_of (line.KeyLine key) = Some key
cup_key_of (line.Groups groups) = None
cup_key_of (line.Tree kind club) = None

-- a key as an array of its parts, those below 0 with a minus
abbrev pub key_text : CupKey → List ℕ
key_text key = array_text (map signed_decimal key.parts)

-- the text of parts with the key, if there is one, behind them
abbrev pub text_with_key : List Part → Option CupKey → List ℕ
text_with_key parts None = array_text (map part_text parts)
text_with_key parts (Some key) = array_text (map part_text parts ++ key_text key ∷ [])

-- the one text of a line
abbrev pub text_of_cup_line : CupLine → List ℕ
text_of_cup_line line = text_with_key (cup_parts_of line) (cup_key_of line)
