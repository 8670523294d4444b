-- A joint finish or a spent tree, and both sides of a club that is not settled: each head with what
-- is due after it, and back.
use Rattle.std.proofs.Common.{◌≡◌, ℕ, Bool, true, List, [], ◌∷◌, ◌++◌}
use Rattle.std.proofs.Common.{refl, sym, ap, ◌∙◌, subst, inl, inr}
use Rattle.std.specs.Prelude.{◌⊎◌}
use Rattle.league_core.specs.declared.question.Claim.{Claim}
use Rattle.league_core.specs.declared.question.Claim.TheVariants.{Inside, Outside}
use Rattle.cert_check.specs.LineGrammars.{go}
use Rattle.cert_check.proofs.NextLemmas.{bad-go, only_part, as_only_part}
use Rattle.cert_check.proofs.NextLemmas.{Parted}
use Rattle.cup_text.specs.declared.cup_line.CupLine.{CupLine}
use Rattle.cup_text.specs.declared.cup_line.CupLine.TheVariants as line
use Rattle.cup_grammar.specs.declared.token.CupToken.{CupToken}
use Rattle.cup_grammar.specs.declared.token.CupToken.TheVariants.{Proof}
use Rattle.cup_grammar.specs.PlacedGroups.{CupBasis}
use Rattle.cup_grammar.specs.CupDues.{CupDue, after_cup_part, after_cup_parts}
use Rattle.cup_grammar.specs.CupDues.{both_parts}
use Rattle.cup_grammar.specs.CupDues.{one_part, spent_head}
use Rattle.cup_grammar.specs.CupDues.{whole_joint_finish}
use Rattle.cup_grammar.specs.CupExpected.{after_in_cup}
use Rattle.cup_stops.specs.inside.CupCases.{AreUnsettledSides, IsFinishOrSpent}
use Rattle.cup_stops.specs.inside.CupCases.{IsHeadedFinish, IsHeadedSpent, cup_cases}
use Rattle.cup_stops.proofs.DueCaseLemmas.{AreCasesOf, left_cases}
use Rattle.cup_stops.proofs.UnsettledHeadLemmas.{as_two_cases, finish_behind, finish_rest}
use Rattle.cup_stops.proofs.UnsettledHeadLemmas.{join_finish_head, join_spent_before}
use Rattle.cup_stops.proofs.UnsettledHeadLemmas.{join_spent_head, part_finish_alone}
use Rattle.cup_stops.proofs.UnsettledHeadLemmas.{part_spent_alone, part_spent_before}

module _ (proved : Bool) (basis : CupBasis) where
  -- ---- one of the two

  pub join_one_head : (claim : Claim) (club : ℕ) (it : CupLine) (holds : Bool)
      (more : List CupDue) (tokens : List CupToken)
      → after_cup_part basis claim club it ≡ go holds more → AreCasesOf proved basis more tokens
      → IsFinishOrSpent proved basis claim club (Proof it ∷ tokens)
  join_one_head claim club (line.Finish side) holds more tokens goes parts =
      inl (join_finish_head proved basis claim club (line.Finish side) holds more tokens goes parts)
  join_one_head claim club it holds more tokens goes parts =
      inr (join_spent_head proved basis it holds more tokens goes parts)

  pub part_one_head : (claim : Claim) (club : ℕ) (tokens : List CupToken)
      → IsFinishOrSpent proved basis claim club tokens
      → Parted cup_cases proved basis (after_in_cup basis) (one_part claim club) tokens
  part_one_head claim club tokens (inl part) =
      part_finish_alone proved basis (one_part claim club) claim club tokens refl part
  part_one_head claim club tokens (inr part) =
      part_spent_alone proved basis (one_part claim club) tokens (λ kind other key. refl) part

  -- ---- both sides

  pub join_both_heads : (club : ℕ) (it : CupLine) (holds : Bool) (more : List CupDue)
      (tokens : List CupToken) → after_cup_parts basis club it ≡ go holds more
      → AreCasesOf proved basis more tokens
      → AreUnsettledSides proved basis club (Proof it ∷ tokens)
  join_both_heads club (line.Finish Inside) holds more tokens goes parts =
      let due = whole_joint_finish basis Inside club in
      let two = left_cases proved basis true holds (due ∷ spent_head ∷ []) more tokens goes parts in
      let head = Proof (line.Finish Inside) in (
        head ∷ two.0,
        two.1,
        inl (
          finish_behind proved basis Inside club two.0 two.2,
          only_part cup_cases proved basis spent_head two.1 two.3,
        ),
        ap (λ it. head ∷ it) two.4,
      )
  join_both_heads club (line.Finish Outside) holds more tokens goes parts =
      absurd (bad-go holds more goes)
  join_both_heads club it holds more tokens goes parts =
      let two = join_spent_before proved basis (one_part Outside club ∷ []) it holds more tokens
      goes parts in (
        two.0,
        two.1,
        inr (two.2, only_part cup_cases proved basis (one_part Outside club) two.1 two.3),
        two.4,
      )

  pub part_both_heads : (club : ℕ) (tokens : List CupToken)
      → AreUnsettledSides proved basis club tokens
      → Parted cup_cases proved basis (after_in_cup basis) (both_parts club) tokens
  part_both_heads club tokens sides = by_side sides.0 sides.1 sides.2 sides.3
    where
      by_side : (front back : List CupToken)
          → (IsHeadedFinish proved basis Inside club front × IsHeadedSpent proved basis back)
          ⊎ (IsHeadedSpent proved basis front × IsFinishOrSpent proved basis Outside club back)
          → tokens ≡ front ++ back
          → Parted cup_cases proved basis (after_in_cup basis) (both_parts club) tokens
      by_side front back (inl two) lines =
          let due = whole_joint_finish basis Inside club in (
            Proof (line.Finish Inside),
            two.0.0 ++ back,
            true,
            due ∷ spent_head ∷ [],
            lines ∙ ap (λ it. it ++ back) two.0.2,
            refl,
            λ _. refl,
            refl,
            as_two_cases proved basis due spent_head two.0.0 back
                (finish_rest proved basis Inside club front two.0) two.1,
          )
      by_side front back (inr two) lines =
          subst (Parted cup_cases proved basis (after_in_cup basis) (both_parts club)) (sym lines)
          (part_spent_before proved basis (both_parts club) (one_part Outside club ∷ []) front back
          (λ kind other key. refl) two.0
          (as_only_part cup_cases proved basis (one_part Outside club) back two.1))
