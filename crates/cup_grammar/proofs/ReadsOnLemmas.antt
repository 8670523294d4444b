-- Proof lines that go on one after another: what they leave due is read next, and so is all of
-- them.
use Rattle.std.proofs.Common.{◌≡◌, ℕ, ◌+◌, true, List, [], ◌∷◌, ◌++◌, length, map, sym, ap, ◌∙◌}
use Rattle.std.proofs.Common.{subst, arith}
use Rattle.cert_check.specs.LineGrammars.{by_next, go}
use Rattle.cup_text.specs.declared.cup_line.CupLine.{CupLine}
use Rattle.cup_grammar.specs.declared.token.CupToken.{CupToken}
use Rattle.cup_grammar.specs.declared.token.CupToken.TheVariants.{Proof}
use Rattle.cup_grammar.specs.PlacedGroups.{CupBasis}
use Rattle.cup_grammar.specs.CupDues.{CupDue}
use Rattle.cup_grammar.specs.CupExpected.{after_cup_proof}
use Rattle.cup_grammar.specs.CupReports.{cup_ending_of, cup_grammar}

-- each of these lines may come and proves what it says, and this is due after them
abbrev pub ReadsOn : CupBasis → List CupLine → List CupDue → List CupDue → Type 0
ReadsOn basis [] dues left = dues ≡ left
ReadsOn basis (it ∷ lines) [] left = ⊥
ReadsOn basis (it ∷ lines) (due ∷ dues) left =
    (more : List CupDue) × (after_cup_proof basis due it ≡ go true more)
    × ReadsOn basis lines (more ++ dues) left

-- lines one after another
pub reads_both : (basis : CupBasis) (front back : List CupLine) (dues between left : List CupDue)
    → ReadsOn basis front dues between → ReadsOn basis back between left
    → ReadsOn basis (front ++ back) dues left
reads_both basis [] back dues between left first second =
    subst (λ it. ReadsOn basis back it left) (sym first) second
reads_both basis (it ∷ front) back [] between left first second = absurd first
reads_both basis (it ∷ front) back (due ∷ dues) between left first second = (
  first.0,
  first.1,
  reads_both basis front back (first.0 ++ dues) between left first.2 second,
)

-- the reading goes on behind them
pub reads_through : (basis : CupBasis) (lines : List CupLine) (rest : List CupToken)
    (dues left : List CupDue) (at unsettled : ℕ) → ReadsOn basis lines dues left
    → cup_ending_of basis (map Proof lines ++ rest) dues at unsettled
    ≡ cup_ending_of basis rest left (at + length lines) unsettled
unfolding cup_grammar
reads_through basis [] rest dues left at unsettled reads =
    ap (λ it. cup_ending_of basis rest it at unsettled) reads
    ∙ ap (λ it. cup_ending_of basis rest left it unsettled) (omega arith)
reads_through basis (it ∷ lines) rest [] left at unsettled reads = absurd reads
reads_through basis (it ∷ lines) rest (due ∷ dues) left at unsettled reads =
    ap (λ next. by_next next at
    (λ more. cup_ending_of basis (map Proof lines ++ rest) (more ++ dues) (at + 1) unsettled))
    reads.1
    ∙ reads_through basis lines rest (reads.0 ++ dues) left (at + 1) unsettled reads.2
    ∙ ap (λ place. cup_ending_of basis rest left place unsettled) (omega arith)
