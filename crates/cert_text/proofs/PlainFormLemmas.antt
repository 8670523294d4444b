-- Lines by their own texts: what is read of them makes the line.
use Rattle.std.proofs.Common.{◌≡◌, ◌≤◌, ◌-◌, ℕ, Bool, true, false, ◌&&◌, List, [], ◌∷◌, ◌++◌, map}
use Rattle.std.proofs.Common.{Some}
use Rattle.std.proofs.Common.{option_map, refl, sym, ap, ◌∙◌, arith, append_assoc, codes, decimal}
use Rattle.std.specs.Prelude.{nat_le, option_and_then}
use Rattle.std.specs.List.{list_all, join_with_byte}
use Rattle.std.proofs.lemmas.Bool.{and_from, le-leb}
use Rattle.serde_json.specs.Data.{number, unsigned}
use Rattle.serde_json.specs.View.{items_of}
use Rattle.league_core.specs.declared.club_set.ClubSet.{ClubSet}
use Rattle.league_core.specs.declared.zone.Test.{Test}
use Rattle.league_core.specs.declared.zone.Reason.{Reason}
use Rattle.league_core.specs.declared.zone.Reason.TheVariants.{Low, High}
use Rattle.league_core.specs.declared.tree.TreeNode.TheVariants.{Split, Refuted}
use Rattle.league_core.specs.game.Limits.{most_clubs, most_fixtures}
use Rattle.cert_text.specs.declared.proof_line.ProofLine.{ProofLine}
use Rattle.cert_text.specs.declared.proof_line.ProofLine.TheVariants as line
use Rattle.cert_text.specs.Lines.{Part, word, whole, clubs, number_in_text, part_text, array_text}
use Rattle.cert_text.specs.Lines.{test_parts, parts_of, text_of_proof_line}
use Rattle.cert_text.specs.Ranges.{is_club_number, is_in_range, is_fixture_number}
use Rattle.cert_text.specs.Places.{set_listed, listed_clubs}
use Rattle.cert_text.specs.Forms.{line_in}
use Rattle.cert_text.specs.inside.PlainForms.{text_named, next_named, text_of_rest, AreClubsAtEnd}
use Rattle.cert_text.specs.inside.PlainForms.{IsSetAtEnd, IsTestAtEnd, IsReasonAtEnd}
use Rattle.cert_text.specs.inside.PlainForms.{IsNumberBefore, IsLineOfNode, node_named}
use Rattle.cert_text.specs.inside.Widths.{is_line_kept}
use Rattle.cert_text.proofs.FormLemmas.{clubs_back}
use Rattle.cert_text.proofs.ReadBackLemmas.{line_in-parts, line_in-written}
use Rattle.league_core.proofs.plain.TruthValues.{true_and_true}
use Rattle.league_core.proofs.plain.Numbers.{one_less_below}

-- the rest of an array that begins with a name is the array's
text_of_named : (name : List ℕ) (parts : List Part)
    → text_named name (text_of_rest parts) ≡ array_text (map part_text (word name ∷ parts))
text_of_named name parts =
    ap (λ t. 91 ∷ 34 ∷ t) (sym (append_assoc name (34 ∷ []) (text_of_rest parts)))
    ∙ ap (λ t. 91 ∷ t) (rest_joined (part_text (word name)) parts)
  where
    rest_joined : (front : List ℕ) (parts : List Part)
        → front ++ text_of_rest parts
        ≡ join_with_byte 44 (front ∷ map part_text parts) ++ 93 ∷ []
    rest_joined front [] = refl
    rest_joined front (part ∷ parts) =
        ap (λ t. front ++ 44 ∷ t) (rest_joined (part_text part) parts)
        ∙ sym (append_assoc front (44 ∷ join_with_byte 44 (map part_text (part ∷ parts)))
        (93 ∷ []))

-- the text of a line of these parts is read as that line
pub line_in-rest : (x : ProofLine) (name : List ℕ) (parts : List Part) (text : List ℕ)
    → parts_of x ≡ word name ∷ parts → is_in_range x ≡ true → is_line_kept x ≡ true
    → text ≡ text_of_rest parts → line_in (text_named name text) ≡ Some x
line_in-rest x name parts text shown within kept is =
    ap (λ t. line_in (text_named name t)) is
    ∙ ap line_in (text_of_named name parts ∙ ap (λ ps. array_text (map part_text ps)) (sym shown))
    ∙ line_in-written x within kept

pub line_in-split : (test : Test) (text : List ℕ) → IsTestAtEnd most_fixtures most_clubs text test
    → line_in (text_named (codes "split") text) ≡ Some (line.Split test)
line_in-split test text told =
    line_in-rest (line.Split test) (codes "split") (test_parts test) text refl told.0 refl told.1

pub line_in-new_split : (test : Test) (text : List ℕ)
    → IsTestAtEnd most_fixtures most_clubs text test
    → line_in (text_named (codes "new_split") text) ≡ Some (line.NewSplit test)
line_in-new_split test text told =
    line_in-rest (line.NewSplit test) (codes "new_split") (test_parts test) text refl told.0 refl
    told.1

-- the text of a line is read as that line
pub line_in-own : (x : ProofLine) (text : List ℕ) → is_in_range x ≡ true → is_line_kept x ≡ true
    → text ≡ text_of_proof_line x → line_in text ≡ Some x
line_in-own x text within kept is = ap line_in is ∙ line_in-written x within kept

-- ---- reasons

-- a reason that is one word
pub bare_at_end : (reason : Reason) (behind text : List ℕ)
    → is_in_range (line.Leaf reason) ≡ true → is_line_kept (line.Leaf reason) ≡ true
    → text_named (codes "leaf") behind ≡ text_of_proof_line (line.Leaf reason)
    → text_named (codes "new_leaf") behind ≡ text_of_proof_line (line.NewLeaf reason)
    → text ≡ behind → IsReasonAtEnd text reason
bare_at_end reason behind text within kept plain new is = record {
  leaf = line_in-own (line.Leaf reason) (text_named (codes "leaf") text) within kept
      (ap (text_named (codes "leaf")) is ∙ plain);
  new_leaf = line_in-own (line.NewLeaf reason) (text_named (codes "new_leaf") text) within kept
      (ap (text_named (codes "new_leaf")) is ∙ new);
}

-- a set that is read from a list of clubs
set_back : (list : List ℕ) (set : ClubSet) → list_all is_club_number list ≡ true
    → set_listed list ≡ Some set
    → option_and_then set_listed (listed_clubs most_clubs
    (items_of (map (λ club. number (unsigned (number_in_text club))) list))) ≡ Some set
set_back list set known is = ap (option_and_then set_listed) (clubs_back most_clubs list known) ∙ is

pub low_at_end : (text : List ℕ) (set : ClubSet) → IsSetAtEnd text set
    → IsReasonAtEnd (next_named (codes "low") text) (Low set)
low_at_end text set told =
    let list = told.0 in
    let known = told.1.0 in
    let all = true_and_true (list_all is_club_number list) known in
    let back = set_back list set known told.2 in
    record {
      leaf = ap (λ t. line_in (text_named (codes "leaf") (next_named (codes "low") t))) told.1.1
          ∙ line_in-parts (word (codes "leaf") ∷ word (codes "low") ∷ clubs list ∷ [])
          refl all
          ∙ ap (λ found. option_map (λ r. line.Leaf r) (option_map (λ s. Low s) found)) back;
      new_leaf = ap (λ t. line_in (text_named (codes "new_leaf") (next_named (codes "low") t)))
          told.1.1
          ∙ line_in-parts (word (codes "new_leaf") ∷ word (codes "low") ∷ clubs list ∷ [])
          refl all
          ∙ ap (λ found. option_map (λ r. line.NewLeaf r) (option_map (λ s. Low s) found)) back;
    }

pub high_at_end : (text : List ℕ) (set : ClubSet) → IsSetAtEnd text set
    → IsReasonAtEnd (next_named (codes "high") text) (High set)
high_at_end text set told =
    let list = told.0 in
    let known = told.1.0 in
    let all = true_and_true (list_all is_club_number list) known in
    let back = set_back list set known told.2 in
    record {
      leaf = ap (λ t. line_in (text_named (codes "leaf") (next_named (codes "high") t))) told.1.1
          ∙ line_in-parts (word (codes "leaf") ∷ word (codes "high") ∷ clubs list ∷ [])
          refl all
          ∙ ap (λ found. option_map (λ r. line.Leaf r) (option_map (λ s. High s) found)) back;
      new_leaf = ap (λ t. line_in (text_named (codes "new_leaf") (next_named (codes "high") t)))
          told.1.1
          ∙ line_in-parts (word (codes "new_leaf") ∷ word (codes "high") ∷ clubs list ∷ [])
          refl all
          ∙ ap (λ found. option_map (λ r. line.NewLeaf r) (option_map (λ s. High s) found)) back;
    }

-- ---- nodes

-- a split, new or not
pub node_split : (fresh : Bool) (test : Test) (text : List ℕ)
    → IsTestAtEnd most_fixtures most_clubs text test
    → IsLineOfNode (node_named fresh (codes "split") text) (Split test fresh)
node_split true test text told = line_in-new_split test text told
node_split false test text told = line_in-split test text told

-- a leaf, new or not
pub node_leaf : (fresh : Bool) (reason : Reason) (text : List ℕ) → IsReasonAtEnd text reason
    → IsLineOfNode (node_named fresh (codes "leaf") text) (Refuted reason fresh)
node_leaf true reason text told = told.new_leaf
node_leaf false reason text told = told.leaf

-- ---- numbers

-- a number from 1 in a text is one from 0 here
from_one : (n : ℕ) → 1 ≤ n → number_in_text (n - 1) ≡ n
from_one n some = omega arith

-- a number and the end
pub one_number : (least most n : ℕ) (text behind : List ℕ)
    → IsNumberBefore least most text n behind → behind ≡ 93 ∷ []
    → text ≡ text_of_rest (whole n ∷ [])
one_number least most n text behind told ends = told.2 ∙ ap (λ t. 44 ∷ (decimal n ++ t)) ends

-- one more at the front
pub more_numbers : (least most n : ℕ) (text behind : List ℕ) (parts : List Part)
    → IsNumberBefore least most text n behind → behind ≡ text_of_rest parts
    → text ≡ text_of_rest (whole n ∷ parts)
more_numbers least most n text behind parts told is =
    told.2 ∙ ap (λ t. 44 ∷ (decimal n ++ t)) is

-- a score
pub score_at_end : (n home away : ℕ) (text first second behind : List ℕ)
    → IsNumberBefore 1 600 text n first → IsNumberBefore 0 99 first home second
    → IsNumberBefore 0 99 second away behind → behind ≡ 93 ∷ []
    → line_in (text_named (codes "score") text)
    ≡ Some (line.Score (n - 1) (record { home = home; away = away }))
score_at_end n home away text first second behind told goals others ends =
    line_in-rest (line.Score (n - 1) (record { home = home; away = away })) (codes "score")
    (whole (number_in_text (n - 1)) ∷ whole home ∷ whole away ∷ []) text refl
    (and_from (is_fixture_number (n - 1)) (nat_le home 99 && nat_le away 99)
    (one_less_below n 600 told.0 told.1)
    (and_from (nat_le home 99) (nat_le away 99) (le-leb home 99 goals.1)
    (le-leb away 99 others.1)))
    refl
    (more_numbers 1 600 n text first (whole home ∷ whole away ∷ []) told
    (more_numbers 0 99 home first second (whole away ∷ []) goals
    (one_number 0 99 away second behind others ends))
    ∙ ap (λ k. text_of_rest (whole k ∷ whole home ∷ whole away ∷ [])) (sym (from_one n told.0)))

-- lots
pub lots_at_end : (text list : List ℕ) → AreClubsAtEnd most_clubs text list
    → line_in (text_named (codes "lots") text) ≡ Some (line.Lots (record { list = list }))
lots_at_end text list told =
    line_in-rest (line.Lots (record { list = list })) (codes "lots") (clubs list ∷ []) text refl
    told.0 refl told.1
