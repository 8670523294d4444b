-- The text of each proof line: one JSON array without a space, of words, numbers and lists of
-- clubs. Clubs and fixtures count from 1 in texts, and from 0 in types. The forms are this
-- project's own.
use Rattle.std.specs.Prelude.{ℕ, ◌+◌, ℤ, Bool, ◌&&◌, nat_le, nat_lt, List, [], ◌∷◌, ◌++◌, map}
use Rattle.std.specs.Prelude.{codes, decimal}
use Rattle.std.specs.List.{join_with_byte}
use Rattle.std.specs.Fmt.{signed_decimal}
use Rattle.league_core.specs.declared.question.Claim.{Claim}
use Rattle.league_core.specs.declared.question.Claim.TheVariants.{Inside, Outside}
use Rattle.league_core.specs.declared.zone.Test.{Test}
use Rattle.league_core.specs.declared.zone.Test.TheVariants.{Home, Draw, HomeMost, AwayMost, Rival}
use Rattle.league_core.specs.declared.zone.Reason.{Reason}
use Rattle.league_core.specs.declared.zone.Reason.TheVariants.{Count, Window, Low, High, Tie}
use Rattle.league_core.specs.game.ClubSets.{clubs_in}
use Rattle.cert_text.specs.declared.proof_line.ProofLine.{ProofLine}
use Rattle.cert_text.specs.declared.proof_line.ProofLine.TheVariants as line

-- what stands in a line: a word, a number, points, or a list of clubs
pub data Part : Type 0 where
  word : List ℕ → Part
  whole : ℕ → Part
  points : ℤ → Part
  clubs : List ℕ → Part

-- the number by which a club or a fixture goes in texts
abbrev pub number_in_text : ℕ → ℕ
number_in_text number = number + 1

-- the word of a claim
abbrev pub claim_word : Claim → List ℕ
claim_word Inside = codes "inside"
claim_word Outside = codes "outside"

-- a test says its kind, then its fixture or its club, then a bound on goals if it has one
abbrev pub test_parts : Test → List Part
test_parts (Home fixture) = word (codes "home") ∷ whole (number_in_text fixture) ∷ []
test_parts (Draw fixture) = word (codes "draw") ∷ whole (number_in_text fixture) ∷ []
test_parts (HomeMost fixture most) =
    word (codes "hg") ∷ whole (number_in_text fixture) ∷ whole most ∷ []
test_parts (AwayMost fixture most) =
    word (codes "ag") ∷ whole (number_in_text fixture) ∷ whole most ∷ []
test_parts (Rival club) = word (codes "rival") ∷ whole (number_in_text club) ∷ []

-- a reason says its kind, then the clubs of its set if it has one
abbrev pub reason_parts : Reason → List Part
reason_parts Count = word (codes "count") ∷ []
reason_parts Window = word (codes "window") ∷ []
reason_parts (Low set) = word (codes "low") ∷ clubs (clubs_in set) ∷ []
reason_parts (High set) = word (codes "high") ∷ clubs (clubs_in set) ∷ []
reason_parts Tie = word (codes "tie") ∷ []

-- what stands in each line, in its order
abbrev pub parts_of : ProofLine → List Part
parts_of (line.Tree claim) = word (codes "tree") ∷ word (claim_word claim) ∷ []
parts_of (line.Spent claim) = word (codes "spent") ∷ word (claim_word claim) ∷ []
parts_of (line.SpentWindow claim low high) =
    word (codes "spent") ∷ word (claim_word claim) ∷ points low ∷ points high ∷ []
parts_of (line.Split test) = word (codes "split") ∷ test_parts test
parts_of (line.NewSplit test) = word (codes "new_split") ∷ test_parts test
parts_of (line.Leaf reason) = word (codes "leaf") ∷ reason_parts reason
parts_of (line.NewLeaf reason) = word (codes "new_leaf") ∷ reason_parts reason
parts_of line.OpenLeaf = word (codes "open") ∷ []
parts_of (line.Finish claim) = word (codes "finish") ∷ word (claim_word claim) ∷ []
parts_of (line.Score fixture score) =
    word (codes "score") ∷ whole (number_in_text fixture) ∷ whole score.home ∷ whole score.away ∷ []
parts_of (line.Lots lots) = word (codes "lots") ∷ clubs lots.list ∷ []

-- an array of items that are written already: commas between them, and brackets
abbrev pub array_text : List (List ℕ) → List ℕ
array_text items = (91 ∷ join_with_byte 44 items) ++ 93 ∷ []

-- a word in quotes, a number in decimal, points below 0 with a minus, a list of clubs as an array
abbrev pub part_text : Part → List ℕ
part_text (word name) = (34 ∷ name) ++ 34 ∷ []
part_text (whole number) = decimal number
part_text (points number) = signed_decimal number
part_text (clubs list) = array_text (map (λ club. decimal (number_in_text club)) list)

-- the one text of a proof line
abbrev pub text_of_proof_line : ProofLine → List ℕ
text_of_proof_line line = array_text (map part_text (parts_of line))

-- a space or a printed character of ASCII: it ends no line, and is one character of UTF-8
abbrev pub is_printed : ℕ → Bool
is_printed byte = nat_le 32 byte && nat_lt byte 127
