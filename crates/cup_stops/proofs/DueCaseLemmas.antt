-- Parts of a report on a cup for what a line that went on leaves due; tallies of trees, and the
-- nodes of a branch.
use Rattle.std.proofs.Common.{◌≡◌, Bool, true, false, List, [], ◌∷◌}
use Rattle.std.proofs.Common.{refl, sym, ap, subst, append_assoc, arith}
use Rattle.std.proofs.Math.Bool.{or-true, or-false}
use Rattle.league_core.specs.declared.zone.Test.{Test}
use Rattle.league_core.proofs.plain.TruthValues.{or_assoc}
use Rattle.cert_check.specs.declared.expected.Tally.{Tally}
use Rattle.cert_check.specs.ExpectedItems.{with_fresh, with_open}
use Rattle.cert_check.specs.LineGrammars.{go}
use Rattle.cert_check.specs.inside.LineParts.{AreAllParts}
use Rattle.cert_check.proofs.NextLemmas.{go-same, only_part}
use Rattle.cup_sheet.specs.declared.question.GroupReason.{GroupReason}
use Rattle.cup_sheet.specs.GroupTrees.{GroupTree, has_open_zone, open_zone, refuted_zone}
use Rattle.cup_sheet.specs.GroupTrees.{split_zone}
use Rattle.cup_grammar.specs.declared.token.CupToken.{CupToken}
use Rattle.cup_grammar.specs.PlacedGroups.{CupBasis, split_node}
use Rattle.cup_grammar.specs.CupDues.{CupDue}
use Rattle.cup_stops.specs.inside.GroupTreeCases.{nodes_in_order, nodes_of_trees}
use Rattle.cup_stops.specs.inside.GroupTreeCases.{tally_past}
use Rattle.cup_stops.specs.inside.CupCases.{cup_cases}

-- parts for what a line leaves due
abbrev pub AreCasesOf : Bool → CupBasis → List CupDue → List CupToken → Type 0
AreCasesOf proved basis dues tokens = AreAllParts cup_cases proved basis dues tokens

-- lines for what a line that went on leaves due
pub left_cases : (proved : Bool) (basis : CupBasis) (says holds : Bool) (dues more : List CupDue)
    (tokens : List CupToken) → go says dues ≡ go holds more → AreCasesOf proved basis more tokens
    → AreCasesOf proved basis dues tokens
left_cases proved basis says holds dues more tokens goes parts =
    subst (λ it. AreCasesOf proved basis it tokens) (sym (go-same says holds dues more goes).1)
    parts

-- the same for one thing that is due
pub left_case : (proved : Bool) (basis : CupBasis) (says holds : Bool) (due : CupDue)
    (more : List CupDue) (tokens : List CupToken) → go says (due ∷ []) ≡ go holds more
    → AreCasesOf proved basis more tokens → cup_cases.IsPart proved basis due tokens
left_case proved basis says holds due more tokens goes parts =
    only_part cup_cases proved basis due tokens
    (left_cases proved basis says holds (due ∷ []) more tokens goes parts)

-- ---- tallies

-- tallies with the same parts are the same
tally_of : (one other : Tally) → one.news ≡ other.news → one.some_open ≡ other.some_open
    → one ≡ other
tally_of one other news some_open = λ i. record { news = news i; some_open = some_open i }

-- the tally past a branch is that past its halves
pub tally_past-split : (tally : Tally) (test : Test) (fresh : Bool) (yes_half no_half : GroupTree)
    → tally_past (tally_past (with_fresh fresh tally) yes_half) no_half
    ≡ tally_past tally (split_zone test fresh yes_half no_half)
tally_past-split tally test true yes_half no_half =
    tally_of _ _ (omega arith)
    (or_assoc tally.some_open (has_open_zone yes_half) (has_open_zone no_half))
tally_past-split tally test false yes_half no_half =
    tally_of _ _ (omega arith)
    (or_assoc tally.some_open (has_open_zone yes_half) (has_open_zone no_half))

-- that past a refuted leaf counts it if it is new
pub tally_past-refuted : (tally : Tally) (reason : GroupReason) (fresh : Bool)
    → tally_past tally (refuted_zone reason fresh) ≡ with_fresh fresh tally
tally_past-refuted tally reason true = tally_of _ _ refl (or-false tally.some_open)
tally_past-refuted tally reason false =
    tally_of _ _ (omega arith) (or-false tally.some_open)

-- that past an open leaf has one
pub tally_past-open : (tally : Tally) → tally_past tally open_zone ≡ with_open tally
tally_past-open tally = tally_of _ _ (omega arith) (or-true tally.some_open)

-- ---- lines

-- the nodes of a branch are its own and those of its halves
pub nodes_of_trees-split : (test : Test) (fresh : Bool) (yes_half no_half : GroupTree)
    (trees : List GroupTree)
    → nodes_of_trees (split_zone test fresh yes_half no_half ∷ trees)
    ≡ split_node test fresh ∷ nodes_of_trees (yes_half ∷ no_half ∷ trees)
nodes_of_trees-split test fresh yes_half no_half trees =
    ap (λ it. split_node test fresh ∷ it)
    (append_assoc (nodes_in_order yes_half) (nodes_in_order no_half) (nodes_of_trees trees))
