-- Refutations line by line: each under its head, and those of a side one after another.
use Rattle.std.proofs.Common.{◌≡◌, ℕ, ◌+◌, ℤ, Bool, true, ◌&&◌, ◌==◌}
use Rattle.std.proofs.Common.{List, [], ◌∷◌, ◌++◌, map, refl, sym, ap}
use Rattle.std.proofs.Common.{◌∙◌, subst}
use Rattle.std.specs.List.{flat_map}
use Rattle.std.proofs.lemmas.Bool.{and_parts, and_from, false≢true, eqb-true, eq-eqb}
use Rattle.league_core.specs.declared.question.Claim.{Claim}
use Rattle.league_core.specs.game.Sheets.{clubs_of}
use Rattle.line_tokens.specs.declared.tree_line.TreeKind.TheVariants.{Refutation}
use Rattle.cert_check.specs.LineGrammars.{go}
use Rattle.cert_check.proofs.NextLemmas.{bad-go, go-if, if-go, as_only_part, parts-join}
use Rattle.cert_check.proofs.NextLemmas.{parts-split, Parted}
use Rattle.cup_sheet.specs.declared.question.GroupKind.{GroupKind}
use Rattle.cup_sheet.specs.declared.question.GroupKind.TheVariants.{Top, Below, SecondLess}
use Rattle.cup_sheet.specs.declared.question.GroupKind.TheVariants.{SecondAtLeast, SecondMore}
use Rattle.cup_sheet.specs.declared.question.GroupKind.TheVariants.{SecondAtMost}
use Rattle.cup_sheet.specs.GroupQuestions.{GroupQuestion}
use Rattle.cup_sheet.specs.KeyBounds.{others_kind}
use Rattle.cup_text.specs.declared.cup_line.CupLine.{CupLine}
use Rattle.cup_text.specs.declared.cup_line.CupLine.TheVariants as line
use Rattle.cup_grammar.specs.declared.token.CupToken.{CupToken}
use Rattle.cup_grammar.specs.declared.token.CupToken.TheVariants.{Proof}
use Rattle.cup_grammar.specs.PlacedGroups.{CupBasis, PlacedGroup}
use Rattle.cup_grammar.specs.CupDues.{CupDue, after_group_head}
use Rattle.cup_grammar.specs.CupDues.{is_same_kind}
use Rattle.cup_grammar.specs.CupDues.{others_due, side_trees_due, tree_head, whole_group_tree}
use Rattle.cup_grammar.specs.CupExpected.{after_in_cup}
use Rattle.cup_stops.specs.inside.GroupTreeCases.{IsHeadedRefutation}
use Rattle.cup_stops.specs.inside.CupCases.{AreOthersRefuted, AreSideTrees}
use Rattle.cup_stops.specs.inside.CupCases.{AreTokensOf, cup_cases}
use Rattle.cup_stops.proofs.DueCaseLemmas.{AreCasesOf, left_case}

-- kinds of which the test says so are the same
same_kind-true : (kind other : GroupKind) → is_same_kind kind other ≡ true → kind ≡ other
same_kind-true Top Top is = refl
same_kind-true Below Below is = refl
same_kind-true SecondLess SecondLess is = refl
same_kind-true SecondAtLeast SecondAtLeast is = refl
same_kind-true SecondMore SecondMore is = refl
same_kind-true SecondAtMost SecondAtMost is = refl
same_kind-true _ _ is = absurd (false≢true is)

-- a kind is the same as itself
own_kind : (kind : GroupKind) → is_same_kind kind kind ≡ true
own_kind Top = refl
own_kind Below = refl
own_kind SecondLess = refl
own_kind SecondAtLeast = refl
own_kind SecondMore = refl
own_kind SecondAtMost = refl

module _ (proved : Bool) (basis : CupBasis) where
  -- ---- a refutation under its head

  pub join_headed_tree : (group : PlacedGroup) (question : GroupQuestion) (it : CupLine)
      (holds : Bool) (more : List CupDue) (tokens : List CupToken)
      → after_group_head group question it ≡ go holds more → AreCasesOf proved basis more tokens
      → IsHeadedRefutation proved group question (Proof it ∷ tokens)
  join_headed_tree group question (line.Tree kind club) holds more tokens goes parts =
      let due = whole_group_tree Refutation group question in
      let own = group.start.club + question.club in
      let fits = go-if (is_same_kind kind question.kind && (club == own)) (go true (due ∷ []))
      holds more goes in
      let same = and_parts (is_same_kind kind question.kind) (club == own) fits.0 in (
        tokens,
        left_case proved basis true holds due more tokens fits.1 parts,
        ap (λ it. Proof (line.Tree it club) ∷ tokens)
            (same_kind-true kind question.kind same.0)
            ∙ ap (λ it. Proof (line.Tree question.kind it) ∷ tokens) (eqb-true club own same.1),
      )
  join_headed_tree group question _ holds more tokens goes parts = absurd (bad-go holds more goes)

  pub part_headed_tree : (group : PlacedGroup) (question : GroupQuestion)
      (tokens : List CupToken) → IsHeadedRefutation proved group question tokens
      → Parted cup_cases proved basis (after_in_cup basis) (tree_head group question) tokens
  part_headed_tree group question tokens part =
      let due = whole_group_tree Refutation group question in
      let own : ℕ = group.start.club + question.club in (
        Proof (line.Tree question.kind own),
        part.0,
        true,
        due ∷ [],
        part.2,
        if-go (is_same_kind question.kind question.kind && (own == own)) (go true (due ∷ []))
            (and_from (is_same_kind question.kind question.kind) (own == own)
            (own_kind question.kind) (eq-eqb own own refl)),
        λ _. refl,
        refl,
        as_only_part cup_cases proved basis due part.0 part.1,
      )

  -- ---- the refutations of a side

  -- those about these clubs of a group
  clubs-refuted : (group : PlacedGroup) (asked : ℕ → GroupQuestion) (clubs : List ℕ)
      (tokens : List CupToken)
      → AreCasesOf proved basis (map (λ club. tree_head group (asked club)) clubs) tokens
      → AreTokensOf (λ club. IsHeadedRefutation proved group (asked club)) clubs tokens
  clubs-refuted group asked [] tokens parts = parts
  clubs-refuted group asked (club ∷ clubs) tokens parts =
      (parts.0, parts.1, parts.2, clubs-refuted group asked clubs parts.1 parts.3, parts.4)

  refuted-clubs : (group : PlacedGroup) (asked : ℕ → GroupQuestion) (clubs : List ℕ)
      (tokens : List CupToken)
      → AreTokensOf (λ club. IsHeadedRefutation proved group (asked club)) clubs tokens
      → AreCasesOf proved basis (map (λ club. tree_head group (asked club)) clubs) tokens
  refuted-clubs group asked [] tokens parts = parts
  refuted-clubs group asked (club ∷ clubs) tokens parts =
      (parts.0, parts.1, parts.2, refuted-clubs group asked clubs parts.1 parts.3, parts.4)

  -- those about all clubs of these groups
  groups-refuted : (claim : Claim) (key : List ℤ) (groups : List PlacedGroup)
      (tokens : List CupToken)
      → AreCasesOf proved basis (flat_map (others_due claim key) groups) tokens
      → AreTokensOf (AreOthersRefuted proved claim key) groups tokens
  groups-refuted claim key [] tokens parts = parts
  groups-refuted claim key (group ∷ groups) tokens parts =
      let asked : ℕ → GroupQuestion =
      λ club. record { kind = others_kind claim; club = club; key = key } in
      let two = parts-split cup_cases proved basis (others_due claim key group)
      (flat_map (others_due claim key) groups) tokens parts in (
        two.0,
        two.1,
        clubs-refuted group asked (clubs_of group.sheet) two.0 two.2,
        groups-refuted claim key groups two.1 two.3,
        two.4,
      )

  refuted-groups : (claim : Claim) (key : List ℤ) (groups : List PlacedGroup)
      (tokens : List CupToken) → AreTokensOf (AreOthersRefuted proved claim key) groups tokens
      → AreCasesOf proved basis (flat_map (others_due claim key) groups) tokens
  refuted-groups claim key [] tokens parts = parts
  refuted-groups claim key (group ∷ groups) tokens parts =
      let asked : ℕ → GroupQuestion =
      λ club. record { kind = others_kind claim; club = club; key = key } in
      let P : List CupToken → Type 0 =
      λ it. AreCasesOf proved basis (flat_map (others_due claim key) (group ∷ groups)) it in
      subst P (sym parts.4)
      (parts-join cup_cases proved basis (others_due claim key group)
      (flat_map (others_due claim key) groups) parts.0 parts.1
      (refuted-clubs group asked (clubs_of group.sheet) parts.0 parts.2)
      (refuted-groups claim key groups parts.1 parts.3))

  -- all of them
  pub due-trees : (claim : Claim) (club : ℕ) (key : List ℤ) (mine : PlacedGroup)
      (listed : List PlacedGroup) (tokens : List CupToken)
      → AreCasesOf proved basis (side_trees_due claim club key mine listed) tokens
      → AreSideTrees proved claim club key mine listed tokens
  due-trees claim club key mine listed tokens parts = (
    parts.0,
    parts.3.0,
    parts.3.1,
    parts.2,
    parts.3.2,
    groups-refuted claim key listed parts.3.1 parts.3.3,
    parts.4 ∙ ap (λ it. parts.0 ++ it) parts.3.4,
  )

  pub trees-due : (claim : Claim) (club : ℕ) (key : List ℤ) (mine : PlacedGroup)
      (listed : List PlacedGroup) (tokens : List CupToken)
      → AreSideTrees proved claim club key mine listed tokens
      → AreCasesOf proved basis (side_trees_due claim club key mine listed) tokens
  trees-due claim club key mine listed tokens trees = (
    trees.0,
    trees.1 ++ trees.2,
    trees.3,
    (
      trees.1,
      trees.2,
      trees.4,
      refuted-groups claim key listed trees.2 trees.5,
      refl,
    ),
    trees.6,
  )
