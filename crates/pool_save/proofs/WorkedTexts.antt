-- Saved texts worked by hand: a league of three clubs with one match left between X and Y, and the
-- trees that C cannot end first. With one rival before C, C is after; with neither, X and Y take
-- two points together, and C has none.
use Rattle.std.proofs.Common.{◌≡◌, ℕ, suc, Bool, true, false, List, [], ◌∷◌, ◌++◌, Option, Some}
use Rattle.std.proofs.Common.{None}
use Rattle.std.proofs.Common.{codes, refl}
use Rattle.league_core.specs.declared.sheet.Sheet.{Sheet}
use Rattle.league_core.specs.declared.sheet.Order.TheVariants.{HeadFirst}
use Rattle.league_core.specs.declared.question.Claim.TheVariants.{Inside, Outside}
use Rattle.league_core.specs.declared.question.Question.{Question}
use Rattle.league_core.specs.declared.zone.Test.TheVariants.{Rival}
use Rattle.league_core.specs.declared.zone.Reason.{Reason}
use Rattle.league_core.specs.declared.zone.Reason.TheVariants.{Count, Low, Tie}
use Rattle.league_core.specs.game.ClubSets as sets
use Rattle.league_core.specs.game.Questions.{full_question}
use Rattle.league_core.specs.search.Trees.{Tree, open_leaf, refuted_leaf, branch}
use Rattle.cert_text.specs.declared.proof_line.ProofLine.TheVariants as line
use Rattle.line_tokens.specs.declared.token.Token.{Token}
use Rattle.line_tokens.specs.declared.token.Token.TheVariants.{Blank, Row, Proof, Unknown}
use Rattle.std.specs.Fmt.{digits}
use Rattle.pool_save.specs.SavedTexts.{lines_of_saved}
use Rattle.pool_save.specs.SavedReadings.{SaveState, SaveStep, goes_on, whole, bad}
use Rattle.pool_save.specs.SavedReadings.{nothing_saved}
use Rattle.pool_save.specs.SavedReadings.{save_taken, with_rival}

abbrev idle : Sheet
idle = record {
  name = codes "Idle";
  clubs =
      record { name = codes "C"; rank = 1 } ∷ record { name = codes "X"; rank = 2 }
      ∷ record { name = codes "Y"; rank = 3 } ∷ [];
  fixtures = record { home = 1; away = 2 } ∷ [];
  lines = 1 ∷ [];
  goal_limit = 1;
  budget = 1;
  order = HeadFirst;
}

abbrev asked : List Question
asked =
    full_question 0 1 Inside ∷ full_question 0 1 Outside ∷ full_question 1 1 Inside
    ∷ full_question 1 1 Outside ∷ full_question 2 1 Inside ∷ full_question 2 1 Outside ∷ []

-- what lines lead to, and the number of the first bad one
data Read : Type 0 where
  read_on : SaveState → Read
  read_whole : List (Option Tree) → List Token → Read
  read_bad : ℕ → Read

abbrev by_step : ℕ → List Token → (SaveState → Read) → SaveStep → Read
by_step number rest onward (goes_on state) = onward state
by_step number rest onward (whole trees) = read_whole trees rest
by_step number rest onward bad = read_bad number

abbrev read : ℕ → List Token → SaveState → Read
read number [] state = read_on state
read number (token ∷ tokens) state =
    by_step number tokens (read (suc number) tokens) (save_taken idle asked state token)

-- the lines from the ninth on, of an input whose sheet has seven lines and whose eighth is `proofs`
abbrev reads : List Token → Read
reads tokens = read 9 tokens nothing_saved

-- the set of X and Y
abbrev both : Reason
both = Low (record { bits = 6 })

abbrev head : Token
head = Row (codes "saved" ∷ codes "1" ∷ codes "C" ∷ codes "inside" ∷ [])

abbrev end : Token
end = Row (codes "saved_end" ∷ [])

-- a text whose tree has this third and this last line
abbrev text : Token → Token → List Token
text third last =
    head ∷ Proof (line.Split (Rival 1)) ∷ Proof (line.Leaf Count) ∷ third
    ∷ Proof (line.Leaf Count) ∷ last ∷ end ∷ []

-- a tree with this last leaf
abbrev tree : Reason → Tree
tree reason =
    branch (Rival 1) false (refuted_leaf Count false)
    (branch (Rival 2) false (refuted_leaf Count false) (refuted_leaf reason false))

abbrev alone : Tree → List (Option Tree)
alone it = Some it ∷ None ∷ None ∷ None ∷ None ∷ None ∷ []

refuted_tree : reads (text (Proof (line.Split (Rival 2))) (Proof (line.Leaf both)))
    ≡ read_whole (alone (tree both)) []
unfolding sets.clubs_below digits with_rival
refuted_tree = refl

-- whether a reason holds is not asked
false_reason : reads (text (Proof (line.Split (Rival 2))) (Proof (line.Leaf Tie)))
    ≡ read_whole (alone (tree Tie)) []
unfolding sets.clubs_below digits with_rival
false_reason = refl

one_open_leaf : reads (head ∷ Proof line.OpenLeaf ∷ end ∷ []) ≡ read_whole (alone open_leaf) []
unfolding digits with_rival
one_open_leaf = refl

-- X is asked again where it is not before C
asked_again : reads (text (Proof (line.Split (Rival 1))) (Proof (line.Leaf both))) ≡ read_bad 12
unfolding sets.clubs_below digits with_rival
asked_again = refl

-- C itself; a set with C; an item twice; items in another order; a line after the tree; the end in
-- a tree; a text without an item
own_club : reads (head ∷ Proof (line.Split (Rival 0)) ∷ []) ≡ read_bad 10
unfolding digits with_rival
own_club = refl

own_set : reads (head ∷ Proof (line.Leaf (Low (record { bits = 3 }))) ∷ []) ≡ read_bad 10
unfolding sets.clubs_below digits with_rival
own_set = refl

item_twice : reads (head ∷ Proof line.OpenLeaf ∷ head ∷ []) ≡ read_bad 11
unfolding digits with_rival
item_twice = refl

other_order : reads (Row (codes "saved" ∷ codes "1" ∷ codes "X" ∷ codes "inside" ∷ [])
    ∷ Proof line.OpenLeaf ∷ head ∷ []) ≡ read_bad 11
unfolding digits with_rival
other_order = refl

line_more : reads (head ∷ Proof line.OpenLeaf ∷ Proof line.OpenLeaf ∷ []) ≡ read_bad 11
unfolding digits with_rival
line_more = refl

end_in_a_tree : reads (head ∷ Blank ∷ end ∷ []) ≡ read_bad 11
unfolding digits with_rival
end_in_a_tree = refl

no_item : reads (end ∷ Unknown ∷ []) ≡ read_whole (None ∷ None ∷ None ∷ None ∷ None ∷ None ∷ [])
    (Unknown ∷ [])
no_item = refl

-- what the trees give as a text is the text
written : lines_of_saved idle asked (alone (tree both))
    ≡ text (Proof (line.Split (Rival 2))) (Proof (line.Leaf both))
unfolding digits with_rival
written = refl
