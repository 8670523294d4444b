-- What is written of a club, its row and what comes after it, is read as whole.
use Rattle.std.proofs.Common.{◌≡◌, ℕ, suc, ◌+◌, Bool, true, false, ◌||◌, List, [], ◌∷◌, ◌++◌}
use Rattle.std.proofs.Common.{length, map}
use Rattle.std.proofs.Common.{refl, sym, ap, ◌∙◌, subst, arith}
use Rattle.std.specs.Prelude.{if◌then◌else◌}
use Rattle.std.proofs.lemmas.Bool.{false≢true}
use Rattle.std.proofs.lemmas.List.{length-map}
use Rattle.league_core.specs.declared.question.Claim.{Claim}
use Rattle.league_core.specs.declared.question.Claim.TheVariants.{Inside, Outside}
use Rattle.line_tokens.specs.RowFields.{verdict_fields}
use Rattle.line_tokens.specs.declared.row_word.RowWord.{RowWord}
use Rattle.line_tokens.specs.declared.row_word.RowWord.TheVariants as word
use Rattle.cert_check.specs.LineGrammars.{by_next}
use Rattle.cert_check.specs.inside.Calls.{unsettled_in}
use Rattle.cert_check.proofs.RowLemmas.{word_in_row-of}
use Rattle.cup_sheet.specs.Cups.{AreSeasonsOf, IsCup}
use Rattle.cup_laws.specs.inside.CupTruths.{AreCupResults}
use Rattle.cup_text.specs.CupItems.{IsCupPartText, IsShownText, IsSpentText, cup_club_name}
use Rattle.cup_text.specs.declared.cup_line.CupLine.{CupLine}
use Rattle.cup_grammar.specs.declared.token.CupToken.TheVariants.{Proof, Row}
use Rattle.cup_grammar.specs.PlacedGroups.{CupBasis}
use Rattle.cup_grammar.specs.CupDues.{CupDue, both_parts, finish_head, one_part}
use Rattle.cup_grammar.specs.CupDues.{spent_head, whole_joint_finish}
use Rattle.cup_grammar.specs.CupExpected.{dues_of_cup_word, promised_of_club}
use Rattle.cup_grammar.specs.CupReports.{cup_ending_of, cup_grammar, is_unsettled_club}
use Rattle.cup_grammar.specs.inside.WrittenCupItems.{IsWrittenOfClub, WrittenCupItemsAreAccepted}
use Rattle.cup_grammar.proofs.ReadsOnLemmas.{ReadsOn, reads_both, reads_through}
use Rattle.cup_grammar.proofs.WrittenJointLemmas.{shown_reads}
use Rattle.cup_grammar.proofs.WrittenSideLemmas.{refuted_reads}
use Rattle.cup_grammar.proofs.WrittenSpentLemmas.{spent_read}

module _ (basis : CupBasis) (is_cup : IsCup basis.cup)
    (each : AreSeasonsOf basis.cup.groups basis.seasons) (results : AreCupResults basis.seasons)
    (club : ℕ) where
  -- ---- the heads of parts

  finish_reads : (claim : Claim) (lines : List CupLine) (more : List CupDue)
      → IsShownText basis.cup basis.seasons claim club lines
      → ReadsOn basis lines (finish_head claim club ∷ more) more
  finish_reads claim lines more text =
      let shown = shown_reads basis is_cup claim club lines more text in
      subst (λ it. ReadsOn basis it (finish_head claim club ∷ more) more) (sym shown.1)
      (whole_joint_finish basis claim club ∷ [], shown.2, shown.3)

  one_shown_reads : (claim : Claim) (lines : List CupLine) (more : List CupDue)
      → IsShownText basis.cup basis.seasons claim club lines
      → ReadsOn basis lines (one_part claim club ∷ more) more
  one_shown_reads claim lines more text =
      let shown = shown_reads basis is_cup claim club lines more text in
      subst (λ it. ReadsOn basis it (one_part claim club ∷ more) more) (sym shown.1)
      (whole_joint_finish basis claim club ∷ [], shown.2, shown.3)

  both_shown_reads : (lines : List CupLine) (more : List CupDue)
      → IsShownText basis.cup basis.seasons Inside club lines
      → ReadsOn basis lines (both_parts club ∷ more) (spent_head ∷ more)
  both_shown_reads lines more text =
      let shown = shown_reads basis is_cup Inside club lines (spent_head ∷ more) text in
      subst (λ it. ReadsOn basis it (both_parts club ∷ more) (spent_head ∷ more)) (sym shown.1)
      (whole_joint_finish basis Inside club ∷ spent_head ∷ [], refl, shown.3)

  spent_reads : (claim : Claim) (lines : List CupLine) (more : List CupDue)
      → IsSpentText basis.cup basis.seasons claim club lines
      → ReadsOn basis lines (spent_head ∷ more) more
  spent_reads claim lines more text =
      let read = spent_read basis claim club lines is_cup each results text in
      subst (λ it. ReadsOn basis it (spent_head ∷ more) more) (sym read.text)
      (read.due ∷ [], read.head [], read.tree more)

  one_spent_reads : (claim : Claim) (lines : List CupLine) (more : List CupDue)
      → IsSpentText basis.cup basis.seasons claim club lines
      → ReadsOn basis lines (one_part claim club ∷ more) more
  one_spent_reads claim lines more text =
      let read = spent_read basis claim club lines is_cup each results text in
      subst (λ it. ReadsOn basis it (one_part claim club ∷ more) more) (sym read.text)
      (read.due ∷ [], read.head [], read.tree more)

  both_spent_reads : (lines : List CupLine) (more : List CupDue)
      → IsSpentText basis.cup basis.seasons Inside club lines
      → ReadsOn basis lines (both_parts club ∷ more) (one_part Outside club ∷ more)
  both_spent_reads lines more text =
      let read = spent_read basis Inside club lines is_cup each results text in
      let later = one_part Outside club in
      subst (λ it. ReadsOn basis it (both_parts club ∷ more) (later ∷ more)) (sym read.text)
      (read.due ∷ later ∷ [], read.head (later ∷ []), read.tree (later ∷ more))

  -- ---- both parts

  unsettled_read : (is_inside_spent is_outside_spent : Bool) (front back lines : List CupLine)
      (more : List CupDue) → (is_inside_spent || is_outside_spent) ≡ true
      → IsCupPartText basis.cup basis.seasons Inside club is_inside_spent front
      → IsCupPartText basis.cup basis.seasons Outside club is_outside_spent back
      → ReadsOn basis (front ++ back) (both_parts club ∷ more) more
  unsettled_read false false front back lines more some inside outside = absurd (false≢true some)
  unsettled_read false true front back lines more some inside outside =
      reads_both basis front back (both_parts club ∷ more) (spent_head ∷ more) more
      (both_shown_reads front more inside) (spent_reads Outside back more outside)
  unsettled_read true false front back lines more some inside outside =
      reads_both basis front back (both_parts club ∷ more) (one_part Outside club ∷ more) more
      (both_spent_reads front more inside) (one_shown_reads Outside back more outside)
  unsettled_read true true front back lines more some inside outside =
      reads_both basis front back (both_parts club ∷ more) (one_part Outside club ∷ more) more
      (both_spent_reads front more inside) (one_spent_reads Outside back more outside)

  -- what comes after the row of a word
  word_reads : (said : RowWord) (lines : List CupLine) (dues : List CupDue)
      → IsWrittenOfClub basis club said lines
      → ReadsOn basis lines (dues_of_cup_word club said ++ dues) dues
  word_reads word.Clinched lines dues written =
      refuted_reads basis is_cup each results Outside club written.0 lines dues written.1
  word_reads word.Lost lines dues written =
      refuted_reads basis is_cup each results Inside club written.0 lines dues written.1
  word_reads word.Possible lines dues written =
      let inside = finish_head Inside club in
      let outside = finish_head Outside club in
      subst (λ it. ReadsOn basis it (inside ∷ outside ∷ dues) dues) (sym written.4)
      (reads_both basis written.0 written.1 (inside ∷ outside ∷ dues) (outside ∷ dues) dues
      (finish_reads Inside written.0 (outside ∷ dues) written.2)
      (finish_reads Outside written.1 dues written.3))
  word_reads word.Unsettled lines dues written =
      let parts = written.3 in
      subst (λ it. ReadsOn basis it (both_parts club ∷ dues) dues) (sym parts.4)
      (unsettled_read written.0 written.1 parts.0 parts.1 lines dues written.2 parts.2 parts.3)

-- the row of a club counts if its word is unsettled
counted_row : (quota : ℕ) (name : List ℕ) (said : RowWord) (unsettled : ℕ)
    → (if is_unsettled_club (Row (verdict_fields quota name said)) then unsettled + 1 else
    unsettled)
    ≡ unsettled + unsettled_in said
counted_row quota name word.Clinched unsettled = omega arith
counted_row quota name word.Lost unsettled = omega arith
counted_row quota name word.Possible unsettled = omega arith
counted_row quota name word.Unsettled unsettled = refl

-- an item is read as whole
pub item_accepted : WrittenCupItemsAreAccepted
unfolding cup_grammar
item_accepted basis club said lines rest dues at unsettled is_cup each results written =
    let name = cup_club_name basis.cup club in
    let quota = basis.cup.quota in
    let tokens = map Proof lines ++ rest in
    let count : ℕ = if is_unsettled_club (Row (verdict_fields quota name said)) then unsettled + 1
    else unsettled in
    ap (λ found. by_next (promised_of_club club found) at
    (λ more. cup_ending_of basis tokens (more ++ dues) (at + 1) count))
    (word_in_row-of quota name said)
    ∙ reads_through basis lines rest (dues_of_cup_word club said ++ dues) dues (at + 1) count
    (word_reads basis is_cup each results club said lines dues written)
    ∙ ap (λ it. cup_ending_of basis rest dues (at + 1 + length lines) it)
    (counted_row quota name said unsettled)
    ∙ ap (λ it. cup_ending_of basis rest dues it (unsettled + unsettled_in said)) (place lines)
  where
    place : (all : List CupLine) → at + 1 + length all
        ≡ at + suc (length (map Proof all))
    place all = omega (arith, length-map all Proof)
