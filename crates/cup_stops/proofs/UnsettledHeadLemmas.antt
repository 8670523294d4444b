-- The heads of joint finishes and of trees on which the budget was spent, each with what is due
-- after it, and back.
use Rattle.std.proofs.Common.{◌≡◌, ℕ, Bool, true, List, [], ◌∷◌, ◌++◌, Option, Some, None}
use Rattle.std.proofs.Common.{refl, sym, ap, ◌∙◌, subst, append-nil}
use Rattle.std.specs.Prelude.{option_map}
use Rattle.std.proofs.lemmas.Bool.{false≢true}
use Rattle.league_core.specs.declared.question.Claim.{Claim}
use Rattle.league_core.specs.declared.question.Claim.TheVariants.{Inside, Outside}
use Rattle.line_tokens.specs.LineRanges.{same_claim}
use Rattle.line_tokens.specs.declared.tree_line.TreeKind.TheVariants.{Spent}
use Rattle.cert_check.specs.LineGrammars.{go}
use Rattle.cert_check.proofs.NextLemmas.{bad-go, go-if, if-go, as_only_part}
use Rattle.cert_check.proofs.NextLemmas.{Parted}
use Rattle.cup_sheet.specs.declared.question.GroupKind.{GroupKind}
use Rattle.cup_sheet.specs.GroupQuestions.{GroupQuestion}
use Rattle.cup_text.specs.declared.cup_line.CupKey.{CupKey}
use Rattle.cup_text.specs.declared.cup_line.CupLine.{CupLine}
use Rattle.cup_text.specs.declared.cup_line.CupLine.TheVariants as line
use Rattle.cup_grammar.specs.declared.token.CupToken.{CupToken}
use Rattle.cup_grammar.specs.declared.token.CupToken.TheVariants.{Proof}
use Rattle.cup_grammar.specs.PlacedGroups.{CupBasis, PlacedGroup, group_with, own_club}
use Rattle.cup_grammar.specs.PlacedGroups.{placed_groups}
use Rattle.cup_grammar.specs.CupDues.{CupDue, after_joint_head}
use Rattle.cup_grammar.specs.CupDues.{after_spent_in, after_spent_line, finish_head}
use Rattle.cup_grammar.specs.CupDues.{key_of_head, scores_of_groups, spent_head}
use Rattle.cup_grammar.specs.CupDues.{whole_group_tree, whole_joint_finish}
use Rattle.cup_grammar.specs.CupExpected.{after_in_cup}
use Rattle.cup_stops.specs.inside.CupCases.{IsCupCase}
use Rattle.cup_stops.specs.inside.CupCases.{IsHeadedFinish, IsHeadedSpent, cup_cases}
use Rattle.cup_stops.proofs.DueCaseLemmas.{AreCasesOf, left_case, left_cases}
use Rattle.cup_stops.proofs.JointRestLemmas.{due-rest, rest-due}

-- sides of which the test says so are the same
claim-true : (claim other : Claim) → same_claim claim other ≡ true → claim ≡ other
claim-true Inside Inside same = refl
claim-true Inside Outside same = absurd (false≢true same)
claim-true Outside Inside same = absurd (false≢true same)
claim-true Outside Outside same = refl

-- a side is the same as itself
own_claim : (claim : Claim) → same_claim claim claim ≡ true
own_claim Inside = refl
own_claim Outside = refl

module _ (proved : Bool) (basis : CupBasis) where
  -- two things due
  pub as_two_cases : (due second : CupDue) (front back : List CupToken)
      → IsCupCase proved basis due front → IsCupCase proved basis second back
      → AreCasesOf proved basis (due ∷ second ∷ []) (front ++ back)
  as_two_cases due second front back part other =
      (front, back, part, as_only_part cup_cases proved basis second back other, refl)

  -- ---- a joint finish

  -- what is due after its head is the rest of it
  pub finish_behind : (claim : Claim) (club : ℕ) (tokens : List CupToken)
      → IsCupCase proved basis (whole_joint_finish basis claim club) tokens
      → IsHeadedFinish proved basis claim club (Proof (line.Finish claim) ∷ tokens)
  finish_behind claim club tokens part = (
    tokens,
    due-rest proved basis claim club (scores_of_groups basis.seasons) [] tokens part,
    refl,
  )

  pub finish_rest : (claim : Claim) (club : ℕ) (tokens : List CupToken)
      (part : IsHeadedFinish proved basis claim club tokens)
      → IsCupCase proved basis (whole_joint_finish basis claim club) part.0
  finish_rest claim club tokens part =
      rest-due proved basis claim club (scores_of_groups basis.seasons) [] part.0 part.1

  pub join_finish_head : (claim : Claim) (club : ℕ) (it : CupLine) (holds : Bool)
      (more : List CupDue) (tokens : List CupToken)
      → after_joint_head basis claim club it ≡ go holds more → AreCasesOf proved basis more tokens
      → IsHeadedFinish proved basis claim club (Proof it ∷ tokens)
  join_finish_head claim club (line.Finish side) holds more tokens goes parts =
      let due = whole_joint_finish basis claim club in
      let fits = go-if (same_claim side claim) (go true (due ∷ [])) holds more goes in
      let P : Claim → Type 0 =
      λ it. IsHeadedFinish proved basis claim club (Proof (line.Finish it) ∷ tokens) in
      subst P (sym (claim-true side claim fits.0))
      (finish_behind claim club tokens
      (left_case proved basis true holds due more tokens fits.1 parts))
  join_finish_head claim club _ holds more tokens goes parts = absurd (bad-go holds more goes)

  -- its head leaves due what is behind it
  finish_goes : (claim : Claim) (club : ℕ)
      → after_joint_head basis claim club (line.Finish claim)
      ≡ go true (whole_joint_finish basis claim club ∷ [])
  finish_goes claim club =
      if-go (same_claim claim claim) (go true (whole_joint_finish basis claim club ∷ []))
      (own_claim claim)

  -- the first line of a joint finish, where it leaves the rest due
  pub part_finish_alone : (due : CupDue) (claim : Claim) (club : ℕ) (tokens : List CupToken)
      → after_in_cup basis due (Proof (line.Finish claim))
      ≡ after_joint_head basis claim club (line.Finish claim)
      → IsHeadedFinish proved basis claim club tokens
      → Parted cup_cases proved basis (after_in_cup basis) due tokens
  part_finish_alone due claim club tokens reads part =
      let rest = whole_joint_finish basis claim club in (
        Proof (line.Finish claim),
        part.0,
        true,
        rest ∷ [],
        part.2,
        reads ∙ finish_goes claim club,
        λ _. refl,
        refl,
        as_only_part cup_cases proved basis rest part.0 (finish_rest claim club tokens part),
      )

  pub part_finish_head : (claim : Claim) (club : ℕ) (tokens : List CupToken)
      → IsHeadedFinish proved basis claim club tokens
      → Parted cup_cases proved basis (after_in_cup basis) (finish_head claim club) tokens
  part_finish_head claim club tokens part =
      part_finish_alone (finish_head claim club) claim club tokens refl part

  -- ---- a spent tree

  -- the question of a head
  abbrev asked_by : GroupKind → ℕ → Option CupKey → PlacedGroup → GroupQuestion
  asked_by kind club key group = record {
    kind = kind;
    club = own_club group club;
    key = key_of_head (option_map (λ it. it.parts) key);
  }

  -- a spent tree, and lines for what else is due
  abbrev pub IsSpentBefore : List CupDue → List CupToken → Type 0
  IsSpentBefore extra tokens =
      (front : List CupToken) × (back : List CupToken) × IsHeadedSpent proved basis front
      × AreCasesOf proved basis extra back × (tokens ≡ front ++ back)

  spent_by : (extra : List CupDue) (kind : GroupKind) (club : ℕ) (key : Option CupKey)
      (holds : Bool) (more : List CupDue) (tokens : List CupToken) (found : Option PlacedGroup)
      → group_with (placed_groups basis) club ≡ found
      → after_spent_in basis kind club (key_of_head (option_map (λ it. it.parts) key)) found extra
      ≡ go holds more
      → AreCasesOf proved basis more tokens
      → IsSpentBefore extra (Proof (line.Spent kind club key) ∷ tokens)
  spent_by extra kind club key holds more tokens None is goes parts =
      absurd (bad-go holds more goes)
  spent_by extra kind club key holds more tokens (Some group) is goes parts =
      let due = whole_group_tree Spent group (asked_by kind club key group) in
      let two = left_cases proved basis true holds (due ∷ extra) more tokens goes parts in
      let head = Proof (line.Spent kind club key) in (
        head ∷ two.0,
        two.1,
        (kind, club, key, group, two.0, is, two.2, refl),
        two.3,
        ap (λ it. head ∷ it) two.4,
      )

  pub join_spent_before : (extra : List CupDue) (it : CupLine) (holds : Bool) (more : List CupDue)
      (tokens : List CupToken) → after_spent_line basis extra it ≡ go holds more
      → AreCasesOf proved basis more tokens → IsSpentBefore extra (Proof it ∷ tokens)
  join_spent_before extra (line.Spent kind club key) holds more tokens goes parts =
      spent_by extra kind club key holds more tokens (group_with (placed_groups basis) club) refl
      goes parts
  join_spent_before extra _ holds more tokens goes parts = absurd (bad-go holds more goes)

  pub join_spent_head : (it : CupLine) (holds : Bool) (more : List CupDue)
      (tokens : List CupToken) → after_spent_line basis [] it ≡ go holds more
      → AreCasesOf proved basis more tokens → IsHeadedSpent proved basis (Proof it ∷ tokens)
  join_spent_head it holds more tokens goes parts =
      let two = join_spent_before [] it holds more tokens goes parts in
      let all : Proof it ∷ tokens ≡ two.0 =
      two.4 ∙ ap (λ back. two.0 ++ back) two.3 ∙ append-nil two.0 in
      subst (IsHeadedSpent proved basis) (sym all) two.2

  -- the first line of a spent tree before other lines, where it leaves this due
  pub part_spent_before : (due : CupDue) (extra : List CupDue) (front back : List CupToken)
      → ((kind : GroupKind) (club : ℕ) (key : Option CupKey)
      → after_in_cup basis due (Proof (line.Spent kind club key))
      ≡ after_spent_line basis extra (line.Spent kind club key))
      → IsHeadedSpent proved basis front → AreCasesOf proved basis extra back
      → Parted cup_cases proved basis (after_in_cup basis) due (front ++ back)
  part_spent_before due extra front back reads spent parts =
      let kind = spent.0 in
      let club = spent.1 in
      let key = spent.2 in
      let group = spent.3 in
      let tree = whole_group_tree Spent group (asked_by kind club key group) in
      let parts_of_key = key_of_head (option_map (λ it. it.parts) key) in (
        Proof (line.Spent kind club key),
        spent.4 ++ back,
        true,
        tree ∷ extra,
        ap (λ it. it ++ back) spent.7,
        reads kind club key
            ∙ ap (λ found. after_spent_in basis kind club parts_of_key found extra) spent.5,
        λ _. refl,
        refl,
        (spent.4, back, spent.6, parts, refl),
      )

  -- the same with nothing behind it
  pub part_spent_alone : (due : CupDue) (tokens : List CupToken)
      → ((kind : GroupKind) (club : ℕ) (key : Option CupKey)
      → after_in_cup basis due (Proof (line.Spent kind club key))
      ≡ after_spent_line basis [] (line.Spent kind club key))
      → IsHeadedSpent proved basis tokens
      → Parted cup_cases proved basis (after_in_cup basis) due tokens
  part_spent_alone due tokens reads spent =
      subst (Parted cup_cases proved basis (after_in_cup basis) due) (append-nil tokens)
      (part_spent_before due [] tokens [] reads spent refl)

  pub part_spent_head : (tokens : List CupToken) → IsHeadedSpent proved basis tokens
      → Parted cup_cases proved basis (after_in_cup basis) spent_head tokens
  part_spent_head tokens spent =
      part_spent_alone spent_head tokens (λ kind club key. refl) spent
