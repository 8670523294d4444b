-- Leaves lent under a number: how many there are, where they stand, and what a tree becomes when
-- they come back.
use Rattle.std.specs.Prelude.{ℕ, ◌+◌, true, false, ◌==◌, List, [], ◌∷◌, ◌++◌, if◌then◌else◌}
use Rattle.league_core.specs.declared.zone.Literal.{Literal}
use Rattle.league_core.specs.search.Zones.{with_test}
use Rattle.league_core.specs.search.Trees.{Tree, open_leaf, lent_leaf, refuted_leaf, branch}

-- how many leaves are lent, whatever the numbers
abbrev pub lent_count : Tree → ℕ
lent_count open_leaf = 0
lent_count (lent_leaf number) = 1
lent_count (refuted_leaf reason fresh) = 0
lent_count (branch test fresh yes_half no_half) = lent_count yes_half + lent_count no_half

-- how many leaves are lent under this number
abbrev pub times_lent : ℕ → Tree → ℕ
times_lent number open_leaf = 0
times_lent number (lent_leaf other) = if other == number then 1 else 0
times_lent number (refuted_leaf reason fresh) = 0
times_lent number (branch test fresh yes_half no_half) =
    times_lent number yes_half + times_lent number no_half

-- the zones of the leaves that are lent under this number, if the tree's root has this zone
abbrev pub lent_zones : ℕ → List Literal → Tree → List (List Literal)
lent_zones number zone open_leaf = []
lent_zones number zone (lent_leaf other) = if other == number then zone ∷ [] else []
lent_zones number zone (refuted_leaf reason fresh) = []
lent_zones number zone (branch test fresh yes_half no_half) =
    lent_zones number (with_test zone test true) yes_half
    ++ lent_zones number (with_test zone test false) no_half

-- the tree with another one in place of each leaf that is lent under this number
abbrev pub put : ℕ → Tree → Tree → Tree
put number new open_leaf = open_leaf
put number new (lent_leaf other) = if other == number then new else lent_leaf other
put number new (refuted_leaf reason fresh) = refuted_leaf reason fresh
put number new (branch test fresh yes_half no_half) =
    branch test fresh (put number new yes_half) (put number new no_half)

-- the tree with each lent leaf open again
abbrev pub all_opened : Tree → Tree
all_opened open_leaf = open_leaf
all_opened (lent_leaf number) = open_leaf
all_opened (refuted_leaf reason fresh) = refuted_leaf reason fresh
all_opened (branch test fresh yes_half no_half) =
    branch test fresh (all_opened yes_half) (all_opened no_half)
