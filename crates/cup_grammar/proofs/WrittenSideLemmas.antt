-- A side that is written as refuted is read as whole: the key, the list of groups, and each
-- refutation under its head.
use Rattle.std.proofs.Common.{◌≡◌, ℕ, ◌+◌, ℤ, true, false, not, ◌&&◌, ◌||◌, ◌==◌}
use Rattle.std.proofs.Common.{List, [], ◌∷◌, ◌++◌, length, map, Some, refl, sym, ap, ◌∙◌}
use Rattle.std.proofs.Common.{subst, append_assoc, nat_lt}
use Rattle.std.specs.Prelude.{slice_get}
use Rattle.std.specs.List.{flat_map, list_all, list_any}
use Rattle.std.proofs.lemmas.Bool.{and_from, eq-eqb, lt-ltb, not-true}
use Rattle.std.proofs.lemmas.Option.{slice_get_within}
use Rattle.league_core.specs.declared.question.Claim.{Claim}
use Rattle.league_core.specs.game.Results.{are_results}
use Rattle.league_core.specs.game.Seasons.{IsLeague}
use Rattle.league_core.specs.game.Sheets.{clubs_of}
use Rattle.line_tokens.specs.declared.tree_line.TreeKind.TheVariants.{Refutation}
use Rattle.cert_check.specs.LineGrammars.{go}
use Rattle.cert_check.proofs.NextLemmas.{if-go}
use Rattle.cup_sheet.specs.declared.question.GroupKind.{GroupKind}
use Rattle.cup_sheet.specs.declared.question.GroupKind.TheVariants.{Top, Below, SecondLess}
use Rattle.cup_sheet.specs.declared.question.GroupKind.TheVariants.{SecondAtLeast, SecondMore}
use Rattle.cup_sheet.specs.declared.question.GroupKind.TheVariants.{SecondAtMost}
use Rattle.cup_sheet.specs.CupAnswers.{listed_groups}
use Rattle.cup_sheet.specs.Cups.{AreSeasonsOf, IsCup}
use Rattle.cup_sheet.specs.GroupQuestions.{GroupQuestion}
use Rattle.cup_sheet.specs.JointFinishes.{GroupState, states_of}
use Rattle.cup_sheet.specs.KeyBounds.{nearer_kind, others_kind, place_kind}
use Rattle.cup_groups.specs.GroupStarts.{start_of_group}
use Rattle.cup_laws.specs.inside.CupTruths.{AreCupResults}
use Rattle.cup_text.specs.CupItems.{AreLinesOf, IsGroupTreeText, IsListedText, IsRefutedText}
use Rattle.cup_text.specs.GroupNodeLines.{lines_of_group_tree}
use Rattle.cup_text.specs.declared.cup_line.CupLine.{CupLine}
use Rattle.cup_text.specs.declared.cup_line.CupLine.TheVariants as line
use Rattle.cup_grammar.specs.PlacedGroups.{CupBasis, PlacedGroup, group_with, groups_at, own_club}
use Rattle.cup_grammar.specs.PlacedGroups.{placed_groups, with_group}
use Rattle.cup_grammar.specs.CupDues.{CupDue, after_groups_in, groups_line, is_same_kind, key_line}
use Rattle.cup_grammar.specs.CupDues.{may_be_listed, others_due, side_trees_due, tree_head}
use Rattle.cup_grammar.specs.CupDues.{whole_group_tree}
use Rattle.cup_grammar.proofs.OwnNumberLemmas.{club_back}
use Rattle.cup_grammar.proofs.ReadsOnLemmas.{ReadsOn, reads_both}
use Rattle.cup_grammar.proofs.WrittenGroupLemmas.{first_at, found_with_club, league_at, placed_at}
use Rattle.cup_grammar.proofs.WrittenGroupLemmas.{placed_by}
use Rattle.cup_grammar.proofs.WrittenTreeLemmas.{reads_tree}

-- a kind is the same as itself
same_kind-itself : (kind : GroupKind) → is_same_kind kind kind ≡ true
same_kind-itself Top = refl
same_kind-itself Below = refl
same_kind-itself SecondLess = refl
same_kind-itself SecondAtLeast = refl
same_kind-itself SecondMore = refl
same_kind-itself SecondAtMost = refl

module _ (basis : CupBasis) (is_cup : IsCup basis.cup)
    (each : AreSeasonsOf basis.cup.groups basis.seasons) (results : AreCupResults basis.seasons)
  where
    -- the group of a number is there
    abbrev pub IsThere : ℕ → GroupState → Type 0
    IsThere number group = slice_get (states_of basis.cup basis.seasons) number ≡ Some group

    -- it as a report is judged by it
    abbrev pub placed_as : ℕ → GroupState → PlacedGroup
    placed_as number group = placed_by (start_of_group basis.cup.groups number) group

    pub known_at : (number : ℕ) (group : GroupState) → IsThere number group
        → IsLeague group.sheet group.results × (are_results group.results ≡ true)
    known_at number group there =
        league_at is_cup.groups.0 is_cup.groups.1 0 basis.cup.groups basis.seasons number group
        is_cup.groups.2 each results there

    -- ---- one refutation

    tree_reads : (number : ℕ) (group : GroupState) (question : GroupQuestion)
        (lines : List CupLine) (more : List CupDue) → IsThere number group
        → IsGroupTreeText basis.cup basis.seasons number question lines
        → ReadsOn basis lines (tree_head (placed_as number group) question ∷ more) more
    tree_reads number group question lines more there text =
        let also = text.1 in
        let same : text.0 ≡ group = cc in
        let placed = placed_as number text.0 in
        let known = known_at number text.0 text.1 in
        let tree = text.2 in
        let shown = text.3 in
        let own : ℕ = placed.start.club + question.club in
        let head = line.Tree question.kind own in
        let reads : ReadsOn basis (head ∷ lines_of_group_tree false placed.start tree)
        (tree_head placed question ∷ more) more = (
          whole_group_tree Refutation placed question ∷ [],
          if-go (is_same_kind question.kind question.kind && (own == own))
              (go true (whole_group_tree Refutation placed question ∷ []))
              (and_from (is_same_kind question.kind question.kind) (own == own)
              (same_kind-itself question.kind) (eq-eqb own own refl)),
          reads_tree basis placed question known.0 known.1 Refutation tree [] []
              (record { news = 0; some_open = false }) more refl shown.refuted shown.reasons text.4
              refl,
        ) in
        let P : List CupLine → Type 0 =
        λ it. ReadsOn basis it (tree_head placed question ∷ more) more in
        subst (λ it. ReadsOn basis lines (tree_head (placed_as number it) question ∷ more) more)
        same
        (subst P (sym text.5) reads)

    -- ---- a listed group

    clubs_read : (number : ℕ) (group : GroupState) (asked : ℕ → GroupQuestion) (clubs : List ℕ)
        (lines : List CupLine) (more : List CupDue) → IsThere number group
        → AreLinesOf (λ club. IsGroupTreeText basis.cup basis.seasons number (asked club)) clubs
        lines
        → ReadsOn basis lines
        (map (λ club. tree_head (placed_as number group) (asked club)) clubs ++ more) more
    clubs_read number group asked [] lines more there text =
        subst (λ it. ReadsOn basis it more more) (sym text) refl
    clubs_read number group asked (club ∷ clubs) lines more there text =
        let later = map (λ it. tree_head (placed_as number group) (asked it)) clubs ++ more in
        let dues = tree_head (placed_as number group) (asked club) ∷ later in
        subst (λ it. ReadsOn basis it dues more) (sym text.4)
        (reads_both basis text.0 text.1 dues later more
        (tree_reads number group (asked club) text.0 later there text.2)
        (clubs_read number group asked clubs text.1 more there text.3))

    -- ---- the listed groups

    module _ (claim : Claim) (key : List ℤ) (mine : GroupState) (mine_first : ℕ)
        (first_is : mine.block.first ≡ mine_first) where
      abbrev listed_in : List ℕ → List PlacedGroup
      listed_in numbers = groups_at (placed_groups basis) numbers

      -- a listed group stands before the later ones
      listed_next : (number : ℕ) (numbers : List ℕ) (group : GroupState) → IsThere number group
          → listed_in (number ∷ numbers) ≡ placed_as number group ∷ listed_in numbers
      listed_next number numbers group there =
          ap (λ found. with_group found (listed_in numbers)) (placed_at basis number group there)

      listed_read : (numbers : List ℕ) (lines : List CupLine) (more : List CupDue)
          → AreLinesOf (IsListedText basis.cup basis.seasons claim mine key) numbers lines
          → ReadsOn basis lines (flat_map (others_due claim key) (listed_in numbers) ++ more) more
      listed_read [] lines more text = subst (λ it. ReadsOn basis it more more) (sym text) refl
      listed_read (number ∷ numbers) lines more text =
          let here = text.2 in
          let group = here.0 in
          let asked : ℕ → GroupQuestion =
          λ club. record { kind = others_kind claim; club = club; key = key } in
          let later = flat_map (others_due claim key) (listed_in numbers) in
          let own = others_due claim key (placed_as number group) in
          let reads : ReadsOn basis (text.0 ++ text.1) (own ++ (later ++ more)) more =
          reads_both basis text.0 text.1 (own ++ (later ++ more)) (later ++ more) more
          (clubs_read number group asked (clubs_of group.sheet) text.0 (later ++ more) here.1
          here.3)
          (listed_read numbers text.1 more text.3) in
          let same : flat_map (others_due claim key) (listed_in (number ∷ numbers)) ++ more
          ≡ own ++ (later ++ more) =
          ap (λ it. flat_map (others_due claim key) it ++ more)
          (listed_next number numbers group here.1)
          ∙ append_assoc own later more in
          subst (λ it. ReadsOn basis it
          (flat_map (others_due claim key) (listed_in (number ∷ numbers)) ++ more) more) (sym
          text.4)
          (subst (λ it. ReadsOn basis (text.0 ++ text.1) it more) (sym same) reads)

      -- they are groups of the cup
      listed_there : (numbers : List ℕ) (lines : List CupLine)
          → AreLinesOf (IsListedText basis.cup basis.seasons claim mine key) numbers lines
          → list_all (λ number. nat_lt number (length (placed_groups basis))) numbers ≡ true
      listed_there [] lines text = refl
      listed_there (number ∷ numbers) lines text =
          let here = text.2 in
          let within = slice_get_within (placed_groups basis) number (placed_as number here.0)
          (placed_at basis number here.0 here.1) in
          and_from (nat_lt number (length (placed_groups basis)))
          (list_all (λ it. nat_lt it (length (placed_groups basis))) numbers)
          (lt-ltb number (length (placed_groups basis)) within)
          (listed_there numbers text.1 text.3)

      -- and others
      listed_other : (numbers : List ℕ) (lines : List CupLine)
          → AreLinesOf (IsListedText basis.cup basis.seasons claim mine key) numbers lines
          → list_any (λ (it : PlacedGroup). it.start.club == mine_first) (listed_in numbers) ≡ false
      listed_other [] lines text = refl
      listed_other (number ∷ numbers) lines text =
          let here = text.2 in
          let group = here.0 in
          let differs : (group.block.first == mine.block.first) ≡ false =
          not-true (group.block.first == mine.block.first) here.2 in
          let begins : ((start_of_group basis.cup.groups number).club == mine_first) ≡ false =
          ap (λ it. it == mine_first) (sym (first_at basis number group here.1))
          ∙ ap (λ it. group.block.first == it) (sym first_is) ∙ differs in
          ap (list_any (λ (it : PlacedGroup). it.start.club == mine_first))
          (listed_next number numbers group here.1)
          ∙ ap (λ it. it || list_any (λ (other : PlacedGroup). other.start.club == mine_first)
          (listed_in numbers)) begins
          ∙ listed_other numbers text.1 text.3

    -- ---- the side

    -- all trees of a side
    trees_read : (claim : Claim) (club : ℕ) (key : List ℤ) (lines : List CupLine)
        (more : List CupDue) (text : IsRefutedText basis.cup basis.seasons claim club key lines)
        → own_club (placed_as text.number text.mine) club ≡ text.own
        → ReadsOn basis (text.by_place ++ (text.by_key ++ text.others))
        (side_trees_due claim club key (placed_as text.number text.mine)
        (groups_at (placed_groups basis) text.listed) ++ more) more
    trees_read claim club key lines more text own =
        let placed = placed_as text.number text.mine in
        let first = first_at basis text.number text.mine text.there in
        let later = flat_map (others_due claim key) (groups_at (placed_groups basis) text.listed)
        ++ more in
        let nearer : ℕ → CupDue =
        λ it. tree_head placed (record { kind = nearer_kind claim; club = it; key = key }) in
        let ends : ℕ → CupDue =
        λ it. tree_head placed (record { kind = place_kind claim; club = it; key = [] }) in
        subst (λ it. ReadsOn basis (text.by_place ++ (text.by_key ++ text.others))
        (ends it ∷ (nearer it ∷ later)) more) (sym own)
        (reads_both basis text.by_place (text.by_key ++ text.others)
        (ends text.own ∷ (nearer text.own ∷ later)) (nearer text.own ∷ later) more
        (tree_reads text.number text.mine
        (record { kind = place_kind claim; club = text.own; key = [] }) text.by_place
        (nearer text.own ∷ later) text.there text.place_tree)
        (reads_both basis text.by_key text.others (nearer text.own ∷ later) later more
        (tree_reads text.number text.mine
        (record { kind = nearer_kind claim; club = text.own; key = key }) text.by_key later
        text.there
        text.key_tree)
        (listed_read claim key text.mine placed.start.club first text.listed text.others more
        text.each)))

    -- a refuted side
    pub refuted_reads : (claim : Claim) (club : ℕ) (key : List ℤ) (lines : List CupLine)
        (more : List CupDue) → IsRefutedText basis.cup basis.seasons claim club key lines
        → ReadsOn basis lines (key_line claim club ∷ more) more
    refuted_reads claim club key lines more text =
        let placed = placed_as text.number text.mine in
        let first = first_at basis text.number text.mine text.there in
        let numbers = text.listed in
        let listed = groups_at (placed_groups basis) numbers in
        let club_is : club ≡ placed.start.club + text.own =
        text.of_club ∙ ap (λ it. it + text.own) first in
        let found : group_with (placed_groups basis) club ≡ Some placed =
        ap (group_with (placed_groups basis)) club_is
        ∙ found_with_club basis text.number text.own text.mine text.there text.own_club in
        let own : own_club placed club ≡ text.own =
        ap (own_club placed) club_is ∙ club_back placed text.own in
        let count = length numbers == listed_groups basis.cup claim in
        let all = list_all (λ number. nat_lt number (length (placed_groups basis))) numbers in
        let none = list_any (λ (it : PlacedGroup). it.start.club == placed.start.club) listed in
        let may : may_be_listed basis claim placed numbers ≡ true =
        and_from (count && all) (not none)
        (and_from count all (eq-eqb (length numbers) (listed_groups basis.cup claim) text.count)
        (listed_there claim key text.mine placed.start.club first numbers text.others text.each))
        (ap not (listed_other claim key text.mine placed.start.club first numbers text.others
        text.each)) in
        let dues = side_trees_due claim club key placed listed in
        let it = line.Groups (record { list = numbers }) in
        let goes : after_groups_in basis claim club key (group_with (placed_groups basis) club) it
        ≡ go true dues =
        ap (λ group. after_groups_in basis claim club key group it) found
        ∙ if-go (may_be_listed basis claim placed numbers) (go true dues) may in
        subst (λ all_lines. ReadsOn basis all_lines (key_line claim club ∷ more) more) (sym
        text.text) (
          groups_line claim club key ∷ [],
          refl,
          (dues, goes, trees_read claim club key lines more text own),
        )
