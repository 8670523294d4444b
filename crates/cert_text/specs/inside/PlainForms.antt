-- Lines by their own texts, after the name that each begins with: what is read of them without a
-- reader of JSON.
use Rattle.std.specs.Prelude.{◌≡◌, ◌≤◌, ℕ, Bool, true, false, List, [], ◌∷◌, ◌++◌, Some, codes}
use Rattle.std.specs.Prelude.{decimal, IsTrue}
use Rattle.std.specs.List.{list_all}
use Rattle.league_core.specs.declared.club_set.ClubSet.{ClubSet}
use Rattle.league_core.specs.declared.zone.Test.{Test}
use Rattle.league_core.specs.declared.zone.Reason.{Reason}
use Rattle.league_core.specs.declared.tree.TreeNode.{TreeNode}
use Rattle.league_core.specs.declared.tree.TreeNode.TheVariants.{Split, Open, Lent, Refuted}
use Rattle.league_core.specs.game.Limits.{most_clubs}
use Rattle.cert_text.specs.declared.proof_line.ProofLine.TheVariants as line
use Rattle.cert_text.specs.Lines.{Part, clubs, part_text, test_parts}
use Rattle.cert_text.specs.Ranges.{is_one_of, is_test_below}
use Rattle.cert_text.specs.Places.{set_listed}
use Rattle.cert_text.specs.TreeLines.{marked_line}
use Rattle.cert_text.specs.Forms.{line_in}

-- the text of an array that begins with this name
abbrev pub text_named : List ℕ → List ℕ → List ℕ
text_named name behind = 91 ∷ 34 ∷ (name ++ 34 ∷ behind)

-- what goes on with this name, after a comma
abbrev pub next_named : List ℕ → List ℕ → List ℕ
next_named name behind = 44 ∷ 34 ∷ (name ++ 34 ∷ behind)

-- these parts, each after a comma, and the end of the array
abbrev pub text_of_rest : List Part → List ℕ
text_of_rest [] = 93 ∷ []
text_of_rest (part ∷ parts) = 44 ∷ (part_text part ++ text_of_rest parts)

-- the text goes on with a number within these bounds
abbrev pub IsNumberBefore : ℕ → ℕ → List ℕ → ℕ → List ℕ → Type 0
IsNumberBefore least most text number behind =
    (least ≤ number) × (number ≤ most) × (text ≡ 44 ∷ (decimal number ++ behind))

-- the text goes on with this list, of so many clubs, and ends
abbrev pub AreClubsAtEnd : ℕ → List ℕ → List ℕ → Type 0
AreClubsAtEnd most text list =
    IsTrue (list_all (is_one_of most) list) × (text ≡ text_of_rest (clubs list ∷ []))

-- the text goes on with a list of clubs of a league that is this set, and ends
abbrev pub IsSetAtEnd : List ℕ → ClubSet → Type 0
IsSetAtEnd text set =
    (list : List ℕ) × AreClubsAtEnd most_clubs text list × (set_listed list ≡ Some set)

-- the text goes on with the parts of the test, of one of so many fixtures or clubs, and ends
abbrev pub IsTestAtEnd : ℕ → ℕ → List ℕ → Test → Type 0
IsTestAtEnd fixtures club_count text test =
    IsTrue (is_test_below fixtures club_count test) × (text ≡ text_of_rest (test_parts test))

-- what comes before the name of a node's line: a mark, if the node is new
abbrev pub node_begun : Bool → List ℕ → List ℕ
node_begun true text = 91 ∷ 34 ∷ (codes "new_" ++ text)
node_begun false text = 91 ∷ 34 ∷ text

-- the text of an array that begins with this name of a node, new or not
abbrev pub node_named : Bool → List ℕ → List ℕ → List ℕ
node_named fresh name behind = node_begun fresh (name ++ 34 ∷ behind)

-- the text is read as the line of this node, which no worker holds
abbrev pub IsLineOfNode : List ℕ → TreeNode → Type 0
IsLineOfNode text (Split test fresh) = line_in text ≡ Some (marked_line (Split test fresh))
IsLineOfNode text Open = line_in text ≡ Some line.OpenLeaf
IsLineOfNode text (Lent number) = ⊥
IsLineOfNode text (Refuted reason fresh) = line_in text ≡ Some (marked_line (Refuted reason fresh))

-- after the name of a leaf it makes the line of this reason, new or not
pub record IsReasonAtEnd (text : List ℕ) (reason : Reason) : Type 0 where
  pub leaf : line_in (text_named (codes "leaf") text) ≡ Some (line.Leaf reason)
  pub new_leaf : line_in (text_named (codes "new_leaf") text) ≡ Some (line.NewLeaf reason)
