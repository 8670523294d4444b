-- What is left of a tree after the season has changed: whatever still holds in the new season, and
-- nothing else. How a tree is carried over is this project's own choice.
use Rattle.std.specs.Prelude.{ℕ, Bool, true, false, nat_le, List, [], if◌then◌else◌}
use Rattle.league_core.specs.declared.sheet.Sheet.{Sheet}
use Rattle.league_core.specs.declared.question.Question.{Question}
use Rattle.league_core.specs.declared.zone.Test.{Test}
use Rattle.league_core.specs.declared.zone.Test.TheVariants.{Home, Draw, HomeMost, AwayMost, Rival}
use Rattle.league_core.specs.declared.zone.Literal.{Literal}
use Rattle.league_core.specs.declared.zone.Reason.{Reason}
use Rattle.league_core.specs.game.Results.{Results}
use Rattle.league_core.specs.search.Zones.{with_test}
use Rattle.league_core.specs.search.Options.{has_finish}
use Rattle.league_core.specs.search.Reasons.{has_reason}
use Rattle.league_core.specs.search.Trees.{Tree, open_leaf, lent_leaf, refuted_leaf, branch}
use Rattle.league_core.specs.search.Trees.{node_count}
use Rattle.tree_reuse.specs.declared.halves.Halves.{Halves}
use Rattle.tree_reuse.specs.declared.halves.Halves.TheVariants.{Both, YesAlone, NoAlone}

-- the most nodes of a tree that was carried over
abbrev pub most_kept : ℕ
most_kept = 100001

-- which halves stay, by whether each of them has a finish
abbrev pub halves_by : Bool → Bool → Halves
halves_by true true = Both
halves_by true false = YesAlone
halves_by false true = NoAlone
halves_by false false = NoAlone

-- which halves a split by this test keeps in the season: of a score's test those with a finish, of
-- a rival's test both. If the zone has a finish, one half has one too
abbrev pub halves_in : Sheet → Results → List Literal → Test → Halves
halves_in sheet season zone (Home fixture) =
    halves_by (has_finish sheet season (with_test zone (Home fixture) true))
    (has_finish sheet season (with_test zone (Home fixture) false))
halves_in sheet season zone (Draw fixture) =
    halves_by (has_finish sheet season (with_test zone (Draw fixture) true))
    (has_finish sheet season (with_test zone (Draw fixture) false))
halves_in sheet season zone (HomeMost fixture most) =
    halves_by (has_finish sheet season (with_test zone (HomeMost fixture most) true))
    (has_finish sheet season (with_test zone (HomeMost fixture most) false))
halves_in sheet season zone (AwayMost fixture most) =
    halves_by (has_finish sheet season (with_test zone (AwayMost fixture most) true))
    (has_finish sheet season (with_test zone (AwayMost fixture most) false))
halves_in sheet season zone (Rival club) = Both

-- a refuted leaf stays, and is not new, if its reason holds; otherwise it is open
abbrev pub leaf_kept : Bool → Reason → Tree
leaf_kept true reason = refuted_leaf reason false
leaf_kept false reason = open_leaf

-- a tree whose root has this zone, for the new season: open and lent leaves are open; a split of
-- which one half has no finish becomes the other half's tree in its place; any other split stays,
-- and is not new
abbrev pub retargeted_from : Sheet → Results → Question → List Literal → Tree → Tree
retargeted_from sheet season question zone open_leaf = open_leaf
retargeted_from sheet season question zone (lent_leaf number) = open_leaf
retargeted_from sheet season question zone (refuted_leaf reason fresh) =
    leaf_kept (has_reason sheet season question zone reason) reason
retargeted_from sheet season question zone (branch test fresh yes_half no_half) =
    elim (halves_in sheet season zone test) [
      | Both ↦ branch test false
          (retargeted_from sheet season question (with_test zone test true) yes_half)
          (retargeted_from sheet season question (with_test zone test false) no_half)
      | YesAlone ↦ retargeted_from sheet season question zone yes_half
      | NoAlone ↦ retargeted_from sheet season question zone no_half
    ]

-- one open leaf in place of a tree with too many nodes
abbrev pub within_limit : Tree → Tree
within_limit tree = if nat_le (node_count tree) most_kept then tree else open_leaf

-- the whole tree for the new season; with more than 100,001 nodes it is one open leaf
unfoldable pub retargeted : Sheet → Results → Question → Tree → Tree
retargeted sheet season question tree =
    within_limit (retargeted_from sheet season question [] tree)
