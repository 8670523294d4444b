-- Reports over a grammar where what is due can be met: what is read as whole is proved, and what is
-- proved is read as whole.
use Rattle.std.proofs.Common.{◌≡◌, ◌≤◌, ℕ, ◌+◌, Bool, true, List, ◌++◌}
use Rattle.std.proofs.Common.{length, sym, ◌∙◌}
use Rattle.std.specs.Prelude.{filter}
use Rattle.std.specs.List.{list_all}
use Rattle.cert_check.specs.LineGrammars.{whole_at}
use Rattle.cert_check.specs.LineGrammars.{ending_by}
use Rattle.cert_check.specs.inside.LineParts.{PartGrammar, AreAllParts}
use Rattle.cert_check.specs.inside.LineParts.{unsettled_with}
use Rattle.cert_check.proofs.LinePartLemmas.{taken_is_proved, proved_is_taken}
use Rattle.cup_stops.proofs.FilledGrammarLemmas.{ReadsMetParts, filled, of_filled}
use Rattle.cup_stops.proofs.FilledGrammarLemmas.{reads_filled, to_filled}
use Rattle.cup_stops.proofs.MetDueLemmas.{reads_same}

module _ {Basis Line Due : Type 0} (grammar : PartGrammar Basis Line Due) (basis : Basis)
    (is_met : Due → Bool) (agrees : ReadsMetParts grammar basis is_met) where
  -- the grammar that is filled up
  abbrev whole : PartGrammar Basis Line Due
  whole = filled grammar basis is_met

  -- what is read as whole is proved
  pub met_taken : (lines : List Line) (dues : List Due) (at unsettled to found : ℕ)
      → list_all is_met dues ≡ true
      → ending_by grammar.reads basis lines dues at unsettled ≡ whole_at to found
      → (taken : List Line) × (rest : List Line) × (lines ≡ taken ++ rest)
      × (to ≡ at + length taken)
      × (found ≡ unsettled_with grammar.reads.is_unsettled unsettled taken)
      × AreAllParts grammar true basis dues (filter grammar.counts taken)
  met_taken lines dues at unsettled to found met ends =
      let it = taken_is_proved whole basis (reads_filled grammar basis is_met agrees) lines dues at
      unsettled to found
      (sym (reads_same grammar basis is_met agrees lines dues at unsettled met) ∙ ends) in (
        it.0,
        it.1,
        it.2,
        it.3,
        it.4,
        of_filled grammar basis is_met true dues (filter grammar.counts it.0) met it.5,
      )

  -- what is proved is read as whole
  pub met_read : (taken rest : List Line) (dues : List Due) (at unsettled : ℕ)
      → list_all is_met dues ≡ true
      → AreAllParts grammar true basis dues (filter grammar.counts taken)
      → (to : ℕ) × (ending_by grammar.reads basis (taken ++ rest) dues at unsettled
      ≡ whole_at to (unsettled_with grammar.reads.is_unsettled unsettled taken))
      × (to ≤ at + length taken)
      × (list_all grammar.counts taken ≡ true → to ≡ at + length taken)
  met_read taken rest dues at unsettled met parts =
      let it = proved_is_taken whole basis (reads_filled grammar basis is_met agrees) taken rest
      dues at unsettled
      (to_filled grammar basis is_met true dues (filter grammar.counts taken) met parts) in (
        it.0,
        reads_same grammar basis is_met agrees (taken ++ rest) dues at unsettled met ∙ it.1,
        it.2,
        it.3,
      )
