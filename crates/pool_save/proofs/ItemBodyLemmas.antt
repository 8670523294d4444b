-- The lines of an item, as they are written: each of them is read as what it was.
use Rattle.std.proofs.Common.{◌≡◌, ℕ, ◌<◌, ◌≤◌, ◌^◌, true, false, not, ◌&&◌, ◌==◌}
use Rattle.std.proofs.Common.{nat_lt, List, [], ◌∷◌, ◌++◌, length, map, refl, sym, ap, ◌∙◌, subst}
use Rattle.std.proofs.Common.{arith}
use Rattle.std.specs.Prelude.{codes, decimal}
use Rattle.std.specs.List.{list_all}
use Rattle.std.proofs.lemmas.Bool.{and_parts, and_from, ltb-true, lt-ltb}
use Rattle.std.proofs.lemmas.List.{map-append}
use Rattle.csv.specs.Machine.{next_record}
use Rattle.csv.specs.Reading.{strip_bom}
use Rattle.csv.specs.Writing.{default_writer, fields_text, row_body, is_blank as csv_blank}
use Rattle.league_core.specs.declared.sheet.Sheet.{Sheet}
use Rattle.league_core.specs.declared.question.Claim.{Claim}
use Rattle.league_core.specs.declared.question.Claim.TheVariants.{Inside, Outside}
use Rattle.league_core.specs.declared.question.Question.{Question}
use Rattle.league_core.specs.declared.zone.Literal.{Literal}
use Rattle.league_core.specs.declared.zone.Reason.{Reason}
use Rattle.league_core.specs.declared.zone.Reason.TheVariants.{Count, Window, Low, High, Tie}
use Rattle.league_core.specs.declared.tree.TreeNode.{TreeNode}
use Rattle.league_core.specs.declared.tree.TreeNode.TheVariants.{Split, Open, Lent, Refuted}
use Rattle.league_core.specs.game.ClubSets.{clubs_in}
use Rattle.league_core.specs.game.Limits.{most_clubs}
use Rattle.league_core.specs.game.Questions.{IsQuestionOf}
use Rattle.league_core.specs.game.Sheets.{IsWithinLimits}
use Rattle.league_core.specs.search.Reasons.{has_member}
use Rattle.league_core.specs.search.Trees.{Tree, open_leaf, lent_leaf, refuted_leaf, branch}
use Rattle.league_core.specs.search.Trees.{NodesMeet, preorder}
use Rattle.league_core.specs.search.Zones.{with_test}
use Rattle.cert_text.specs.declared.proof_line.ProofLine.TheVariants as line
use Rattle.cert_text.specs.Lines.{claim_word}
use Rattle.cert_text.specs.Ranges.{is_club_number, is_reason_in_range}
use Rattle.cert_text.specs.TreeLines.{marked_line, marked_lines}
use Rattle.fixture_sheet.specs.Fields.{without_padding}
use Rattle.line_tokens.specs.declared.token.Token.{Token}
use Rattle.line_tokens.specs.declared.token.Token.TheVariants.{Row, Proof}
use Rattle.line_tokens.specs.LineRanges.{is_reason_for, is_set_for, name_of_club}
use Rattle.report_lines.specs.inside.WrittenLines.{IsWritable}
use Rattle.report_lines.specs.inside.WrittenReports.{are_within_line}
use Rattle.report_lines.proofs.BodyLemmas.{HasBody, HaveBodies, proof_body}
use Rattle.report_lines.proofs.KeptLemmas.{clubs-kept, kept_node, kept_reason, kept_tree}
use Rattle.report_lines.proofs.KeptLemmas.{reason-kept}
use Rattle.report_lines.proofs.RowBackLemmas.{body_within, row_back}
use Rattle.report_lines.proofs.WithinLemmas.{names_fit, number_bytes}
use Rattle.pool_save.specs.SavedTexts.{IsSavedNode, end_fields, is_node_for, saved_fields}

-- ---- rows

claim_within : (claim : Claim) → are_within_line (claim_word claim) ≡ true
claim_within Inside = refl
claim_within Outside = refl

whole_row : (number name : List ℕ) (claim : Claim)
    → without_padding (codes "saved" ∷ number ∷ name ∷ claim_word claim ∷ [])
    ≡ codes "saved" ∷ number ∷ name ∷ claim_word claim ∷ []
whole_row number name Inside = refl
whole_row number name Outside = refl

row_body_of : (number : ℕ) (name : List ℕ) (claim : Claim) → number < 2 ^ 64
    → are_within_line name ≡ true
    → HasBody (Row (codes "saved" ∷ decimal number ∷ name ∷ claim_word claim ∷ []))
unfolding csv_blank fields_text strip_bom
row_body_of number name claim small plain =
    let fields = codes "saved" ∷ decimal number ∷ name ∷ claim_word claim ∷ [] in
    let within : list_all are_within_line fields ≡ true =
    and_from (are_within_line (decimal number)) (are_within_line name
    && (are_within_line (claim_word claim) && true)) (number_bytes number small)
    (and_from (are_within_line name) (are_within_line (claim_word claim) && true) plain
    (and_from (are_within_line (claim_word claim)) true (claim_within claim) refl)) in
    record {
      body = row_body default_writer fields;
      bytes = refl;
      within = body_within fields within;
      kept = refl;
      token = row_back (codes "saved") (decimal number) (name ∷ claim_word claim ∷ []) refl refl
          within (whole_row (decimal number) name claim);
    }

-- the row of an item
pub saved_row_body : (sheet : Sheet) (question : Question) → IsWithinLimits sheet
    → IsQuestionOf sheet question → HasBody (Row (saved_fields sheet question))
saved_row_body sheet question limits asked =
    let below = asked.most_line in
    let few = limits.most_clubs in
    row_body_of question.line (name_of_club sheet question.club) question.claim
    (omega (arith, below, few)) (names_fit sheet.clubs question.club limits.clubs).within

-- the row after the items
pub end_row_body : HasBody (Row end_fields)
unfolding csv_blank fields_text strip_bom next_record
end_row_body = record {
  body = codes "saved_end";
  bytes = refl;
  within = refl;
  kept = refl;
  token = refl;
}

-- ---- nodes

-- the lines of both
pub have-append : (first second : List Token) → HaveBodies first → HaveBodies second
    → HaveBodies (first ++ second)
have-append [] second have others = others
have-append (token ∷ first) second have others = (have.0, have-append first second have.1 others)

-- a reason that a leaf may have is one without the bits past the width of its set
pub reason_for-kept : (sheet : Sheet) (question : Question) (reason : Reason)
    → is_reason_for sheet question (kept_reason reason) ≡ is_reason_for sheet question reason
reason_for-kept sheet question Count = refl
reason_for-kept sheet question Window = refl
reason_for-kept sheet question (Low set) = ap (is_set_for sheet question) (clubs-kept set)
reason_for-kept sheet question (High set) = ap (is_set_for sheet question) (clubs-kept set)
reason_for-kept sheet question Tie = refl

module _ (sheet : Sheet) (question : Question) (few : length sheet.clubs ≤ most_clubs) where
  -- rivals of the sheet are clubs of a league
  rivals_in_range : (clubs : List ℕ)
      → list_all (λ club. nat_lt club (length sheet.clubs) && not (club == question.club)) clubs
      ≡ true
      → list_all is_club_number clubs ≡ true
  rivals_in_range [] all = refl
  rivals_in_range (club ∷ clubs) all =
      let parts = and_parts (nat_lt club (length sheet.clubs) && not (club == question.club))
      (list_all (λ it. nat_lt it (length sheet.clubs) && not (it == question.club)) clubs) all in
      let below = ltb-true club (length sheet.clubs)
      (and_parts (nat_lt club (length sheet.clubs)) (not (club == question.club)) parts.0).0 in
      and_from (is_club_number club) (list_all is_club_number clubs)
      (lt-ltb club most_clubs (omega (arith, below, few))) (rivals_in_range clubs parts.1)

  set_in_range : (clubs : List ℕ) → is_set_for sheet question clubs ≡ true
      → (has_member clubs && list_all is_club_number clubs) ≡ true
  set_in_range clubs is =
      let parts = and_parts (has_member clubs)
      (list_all (λ club. nat_lt club (length sheet.clubs) && not (club == question.club)) clubs) is
      in
      and_from (has_member clubs) (list_all is_club_number clubs) parts.0
      (rivals_in_range clubs parts.1)

  -- a reason that a leaf may have is in range
  reason_range : (reason : Reason) → is_reason_for sheet question reason ≡ true
      → is_reason_in_range reason ≡ true
  reason_range Count is = refl
  reason_range Window is = refl
  reason_range (Low set) is = set_in_range (clubs_in set) is
  reason_range (High set) is = set_in_range (clubs_in set) is
  reason_range Tie is = refl

  -- the line of a node can be written
  node_writable : (node : TreeNode) → is_node_for sheet question node ≡ true
      → IsWritable (marked_line (kept_node node))
  node_writable (Split test true) may = (may, refl)
  node_writable (Split test false) may = (may, refl)
  node_writable Open may = (refl, refl)
  node_writable (Lent number) may = (refl, refl)
  node_writable (Refuted reason true) may = (
    reason_range (kept_reason reason) (reason_for-kept sheet question reason ∙ may),
    reason-kept reason,
  )
  node_writable (Refuted reason false) may = (
    reason_range (kept_reason reason) (reason_for-kept sheet question reason ∙ may),
    reason-kept reason,
  )

  -- the lines of a tree that may be saved
  pub tree_bodies : (tree : Tree) (zone : List Literal)
      → NodesMeet (IsSavedNode sheet question) zone tree
      → HaveBodies (map Proof (marked_lines (kept_tree tree)))
  tree_bodies open_leaf zone saved = (proof_body line.OpenLeaf (refl, refl), tt)
  tree_bodies (lent_leaf number) zone saved = (proof_body line.OpenLeaf (refl, refl), tt)
  tree_bodies (refuted_leaf reason fresh) zone saved = (
    proof_body (marked_line (Refuted (kept_reason reason) fresh))
        (node_writable (Refuted reason fresh) saved.1),
    tt,
  )
  tree_bodies (branch test fresh yes_half no_half) zone saved =
      let yes = marked_lines (kept_tree yes_half) in
      let no = marked_lines (kept_tree no_half) in
      let lines_are : map Proof (marked_lines (kept_tree (branch test fresh yes_half no_half)))
      ≡ Proof (marked_line (Split test fresh)) ∷ (map Proof yes ++ map Proof no) =
      ap (λ lines. Proof (marked_line (Split test fresh)) ∷ map Proof lines)
      (map-append marked_line (preorder (kept_tree yes_half)) (preorder (kept_tree no_half)))
      ∙ ap (λ tokens. Proof (marked_line (Split test fresh)) ∷ tokens)
      (map-append Proof yes no) in
      subst HaveBodies (sym lines_are) (
        proof_body (marked_line (Split test fresh))
            (node_writable (Split test fresh) saved.0.1),
        have-append (map Proof yes) (map Proof no)
            (tree_bodies yes_half (with_test zone test true) saved.1)
            (tree_bodies no_half (with_test zone test false) saved.2),
      )
