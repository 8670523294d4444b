-- A whole answer on a cup is read as the part of its ask: the row of the ask, and club after club.
use Rattle.std.proofs.Common.{◌≡◌, ℕ, ◌+◌, true, List, [], ◌∷◌, ◌++◌, length, map, ap, ◌∙◌}
use Rattle.std.proofs.Common.{arith, append_assoc}
use Rattle.std.specs.List.{range_with_len}
use Rattle.std.proofs.lemmas.List.{length-append}
use Rattle.line_tokens.specs.RowFields.{ask_fields}
use Rattle.cert_check.specs.ExpectedItems.{is_ask_row}
use Rattle.cert_check.specs.LineGrammars.{by_next, go, whole_at}
use Rattle.cert_check.specs.inside.Calls.{unsettled_in}
use Rattle.cert_check.proofs.MachineLemmas.{nothing_due}
use Rattle.cert_check.proofs.NextLemmas.{if-go}
use Rattle.cert_check.proofs.RowLemmas.{ask_row-of}
use Rattle.cup_sheet.specs.Cups.{AreSeasonsOf, IsCup, clubs_together}
use Rattle.cup_laws.specs.inside.CupTruths.{AreCupResults}
use Rattle.cup_grammar.specs.declared.token.CupToken.{CupToken}
use Rattle.cup_grammar.specs.PlacedGroups.{CupBasis}
use Rattle.cup_grammar.specs.CupDues.{club_row}
use Rattle.cup_grammar.specs.CupReports.{cup_ending_of, cup_grammar}
use Rattle.cup_grammar.specs.inside.WrittenCupItems.{AreWrittenClubs, WrittenCupAnswersAreAccepted}
use Rattle.cup_grammar.specs.inside.WrittenCupItems.{item_in_cup}
use Rattle.cup_grammar.proofs.WrittenItemLemmas.{item_accepted}

module _ (basis : CupBasis) (is_cup : IsCup basis.cup)
    (each : AreSeasonsOf basis.cup.groups basis.seasons) (results : AreCupResults basis.seasons)
  where
    -- club after club
    clubs_accepted : (clubs : List ℕ) (tokens rest : List CupToken) (at before unsettled : ℕ)
        → AreWrittenClubs basis clubs tokens unsettled
        → cup_ending_of basis (tokens ++ rest) (map club_row clubs) at before
        ≡ whole_at (at + length tokens) (before + unsettled)
    clubs_accepted [] tokens rest at before unsettled written =
        nothing_due cup_grammar basis (tokens ++ rest) at before
        ∙ ap (λ it. whole_at it before) (none tokens written.0)
        ∙ ap (whole_at (at + length tokens)) (omega (arith, written.1))
      where
        none : (all : List CupToken) → all ≡ [] → at ≡ at + length all
        none all is = let long = ap length is in omega (arith, long)
    clubs_accepted (club ∷ clubs) tokens rest at before unsettled written =
        let said = written.0 in
        let lines = written.1 in
        let later = written.2 in
        let left = written.3 in
        let item = item_in_cup basis club said lines in
        let so : tokens ++ rest ≡ item ++ (later ++ rest) =
        ap (λ it. it ++ rest) written.6 ∙ append_assoc item later rest in
        let long : length tokens ≡ length item + length later =
        ap length written.6 ∙ length-append item later in
        let place : at + length item + length later ≡ at + length tokens = omega (arith, long) in
        let count : before + unsettled_in said + left ≡ before + unsettled =
        omega (arith, written.7) in
        ap (λ it. cup_ending_of basis it (map club_row (club ∷ clubs)) at before) so
        ∙ item_accepted basis club said lines (later ++ rest) (map club_row clubs) at before is_cup
        each results written.4
        ∙ clubs_accepted clubs later rest (at + length item) (before + unsettled_in said) left
        written.5
        ∙ ap (λ it. whole_at it (before + unsettled_in said + left)) place
        ∙ ap (whole_at (at + length tokens)) count

-- the whole answer
pub answer_in_cup_accepted : WrittenCupAnswersAreAccepted
unfolding cup_grammar
answer_in_cup_accepted basis tokens rest at unsettled is_cup each results written =
    let clubs = range_with_len 0 (clubs_together basis.cup.groups) in
    ap (λ next. by_next next at
    (λ more. cup_ending_of basis (tokens ++ rest) (more ++ map club_row clubs) (at + 1) 0))
    (if-go (is_ask_row basis.epoch (ask_fields basis.epoch)) (go true []) (ask_row-of basis.epoch))
    ∙ clubs_accepted basis is_cup each results clubs tokens rest (at + 1) 0 unsettled written
    ∙ ap (whole_at (at + 1 + length tokens)) (omega arith)
