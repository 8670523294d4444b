-- Weights worked by hand, computed when the crate is checked: three clubs, one match of theirs
-- played, two open, each with the four scores up to one goal a side.
use Rattle.std.specs.Prelude.{◌≡◌, ℕ, true, false, List, [], ◌∷◌, Some, None, map, length, refl}
use Rattle.league_core.specs.declared.sheet.Sheet.{Sheet}
use Rattle.league_core.specs.declared.sheet.Order.TheVariants.{HeadFirst}
use Rattle.league_core.specs.declared.sheet.Fixture.{Fixture}
use Rattle.league_core.specs.declared.question.Claim.TheVariants.{Inside}
use Rattle.league_core.specs.declared.question.Question.{Question}
use Rattle.league_core.specs.declared.zone.Test.{Test}
use Rattle.league_core.specs.declared.zone.Test.TheVariants.{Home, Draw, HomeMost, AwayMost, Rival}
use Rattle.league_core.specs.declared.zone.Literal.{Literal}
use Rattle.league_core.specs.game.Results.{Results}
use Rattle.league_core.specs.game.Questions.{full_question}
use Rattle.league_core.specs.search.Zones.{with_test}
use Rattle.league_core.specs.search.Trees.{Tree, zones_of, preorder, branch, open_leaf}
use Rattle.reason_laws.specs.inside.Weights.{finishes_in, unmarked_in, weight_of}

-- home against away
abbrev vs : ℕ → ℕ → Fixture
vs home away = record { home = home; away = away }

abbrev sheet : Sheet
sheet = record {
  name = [];
  clubs = map (λ rank. record { name = []; rank = rank }) (1 ∷ 2 ∷ 3 ∷ []);
  fixtures = vs 0 1 ∷ vs 1 2 ∷ vs 2 0 ∷ [];
  lines = 1 ∷ [];
  goal_limit = 1;
  budget = 9;
  order = HeadFirst;
}

abbrev season : Results
season = record {
  scores = Some (record { home = 5; away = 0 }) ∷ None ∷ None ∷ [];
  deductions = 0 ∷ 0 ∷ 0 ∷ [];
}

abbrev question : Question
question = full_question 0 1 Inside

abbrev weights : List (List Literal) → List ℕ
weights zones = map (weight_of sheet season question) zones

-- the halves of a zone by a test
abbrev halves : List Literal → Test → List (List Literal)
halves zone test = with_test zone test true ∷ with_test zone test false ∷ []

abbrev tree : Tree
tree = branch (Rival 1) true (branch (Draw 2) true open_leaf open_leaf) open_leaf

-- sixteen finishes and two rivals
finishes : finishes_in sheet season [] ≡ 16
finishes = refl

rivals : unmarked_in sheet question [] ≡ 2
rivals = refl

root : weights ([] ∷ []) ≡ 64 ∷ []
root = refl

-- of the four scores of a match two are draws, one is a home win, and one is 0:0
draw : weights (halves [] (Draw 1)) ≡ 32 ∷ 32 ∷ []
draw = refl

home : weights (halves [] (Home 1)) ≡ 16 ∷ 48 ∷ []
home = refl

goals : weights (with_test (with_test [] (HomeMost 2 0) true) (AwayMost 2 0) true ∷ []) ≡ 16 ∷ []
goals = refl

-- a rival takes half, whether it is marked before the club or after it
rival : weights (halves [] (Rival 1)) ≡ 32 ∷ 32 ∷ []
rival = refl

-- and so does the other one then; the same one once more takes nothing
both_rivals : weights (halves (with_test [] (Rival 1) true) (Rival 2)) ≡ 16 ∷ 16 ∷ []
both_rivals = refl

rival_again : weights (halves (with_test [] (Rival 1) true) (Rival 1)) ≡ 32 ∷ 32 ∷ []
rival_again = refl

-- the half of a played match that its score misses weighs nothing
played_match : weights (halves [] (Home 0)) ≡ 64 ∷ 0 ∷ []
played_match = refl

-- the leaves of a tree weigh together what its root does
leaves : weights (zones_of tree) ≡ 16 ∷ 16 ∷ 32 ∷ []
leaves = refl

nodes : length (preorder tree) ≡ 5
nodes = refl
