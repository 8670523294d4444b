-- Reports over a grammar where what is due can be met: each of the three stops, by the reading line
-- by line and by the parts.
use Rattle.std.proofs.Common.{◌≡◌, ℕ, ◌+◌, Bool, true, false, List, [], ◌∷◌, ◌++◌}
use Rattle.std.proofs.Common.{refl, sym, ap, ◌∙◌, subst}
use Rattle.std.specs.Prelude.{◌↔◌, filter}
use Rattle.std.specs.List.{list_all}
use Rattle.std.proofs.lemmas.Bool.{and_from, and_parts}
use Rattle.std.proofs.lemmas.List.Folds.{list_all-append}
use Rattle.cert_check.specs.LineGrammars.{Next, bad, go, Ending, bad_line, no_proof}
use Rattle.cert_check.specs.LineGrammars.{short, by_next, ending_by}
use Rattle.cert_check.specs.inside.LineParts.{PartGrammar, LeavesDue, Begins}
use Rattle.cert_check.specs.inside.LineParts.{IsBadLineAt, IsUnprovedAt, AreTooFew}
use Rattle.cert_check.proofs.LinePartLemmas.{bad_line_is, is_bad_line, no_proof_is, is_no_proof}
use Rattle.cert_check.proofs.LinePartLemmas.{short_is, is_short}
use Rattle.cert_check.proofs.MachineLemmas.{count_with}
use Rattle.cup_stops.proofs.FilledGrammarLemmas.{ReadsMetParts, filled, met_after, of_filled}
use Rattle.cup_stops.proofs.FilledGrammarLemmas.{reads_filled, to_filled}

module _ {Basis Line Due : Type 0} (grammar : PartGrammar Basis Line Due) (basis : Basis)
    (is_met : Due → Bool) (agrees : ReadsMetParts grammar basis is_met) where
  -- the grammar that is filled up
  abbrev pub whole : PartGrammar Basis Line Due
  whole = filled grammar basis is_met

  -- all of it can be met
  abbrev pub AreMet : List Due → Type 0
  AreMet dues = list_all is_met dues ≡ true

  -- after a line all can be met again
  next_met : (due : Due) (dues : List Due) (line : Line) (holds : Bool) (more : List Due)
      → AreMet (due ∷ dues) → grammar.reads.after basis due line ≡ go holds more
      → AreMet (more ++ dues)
  next_met due dues line holds more met goes =
      let both = and_parts (is_met due) (list_all is_met dues) met in
      list_all-append is_met more dues
      ∙ and_from (list_all is_met more) (list_all is_met dues)
      (agrees.keeps due line holds more both.0 goes) both.1

  first_met : (due : Due) (dues : List Due) → AreMet (due ∷ dues) → is_met due ≡ true
  first_met due dues met = (and_parts (is_met due) (list_all is_met dues) met).0

  -- ---- the reading is the same

  same_by : (line : Line) (due : Due) (dues : List Due) (at : ℕ)
      (rest other : List Due → Ending) → AreMet (due ∷ dues)
      → ((more : List Due) → AreMet (more ++ dues) → rest more ≡ other more)
      → (next : Next Due) → grammar.reads.after basis due line ≡ next
      → by_next next at rest ≡ by_next next at other
  same_by line due dues at rest other met later bad is = refl
  same_by line due dues at rest other met later (go false more) is = refl
  same_by line due dues at rest other met later (go true more) is =
      later more (next_met due dues line true more met is)

  pub reads_same : (lines : List Line) (dues : List Due) (at unsettled : ℕ) → AreMet dues
      → ending_by grammar.reads basis lines dues at unsettled
      ≡ ending_by whole.reads basis lines dues at unsettled
  reads_same [] [] at unsettled met = refl
  reads_same [] (due ∷ dues) at unsettled met = refl
  reads_same (line ∷ lines) [] at unsettled met = refl
  reads_same (line ∷ lines) (due ∷ dues) at unsettled met =
      let count = count_with grammar.reads unsettled line in
      let rest : List Due → Ending =
      λ more. ending_by grammar.reads basis lines (more ++ dues) (at + 1) count in
      let other : List Due → Ending =
      λ more. ending_by whole.reads basis lines (more ++ dues) (at + 1) count in
      same_by line due dues at rest other met
      (λ more next. reads_same lines (more ++ dues) (at + 1) count next)
      (grammar.reads.after basis due line) refl
      ∙ ap (λ next. by_next next at other)
      (sym (met_after grammar basis is_met due line (first_met due dues met)))

  -- ---- what lines leave due

  to_leaves : (lines : List Line) (dues left : List Due) → AreMet dues
      → LeavesDue grammar.reads basis lines dues left
      → LeavesDue whole.reads basis lines dues left
  to_leaves [] dues left met passed = passed
  to_leaves (line ∷ lines) [] left met passed = absurd passed
  to_leaves (line ∷ lines) (due ∷ dues) left met passed = (
    passed.0,
    met_after grammar basis is_met due line (first_met due dues met) ∙ passed.1,
    to_leaves lines (passed.0 ++ dues) left (next_met due dues line true passed.0 met passed.1)
        passed.2,
  )

  of_leaves : (lines : List Line) (dues left : List Due) → AreMet dues
      → LeavesDue whole.reads basis lines dues left
      → LeavesDue grammar.reads basis lines dues left × AreMet left
  of_leaves [] dues left met passed = (passed, subst AreMet passed met)
  of_leaves (line ∷ lines) [] left met passed = absurd passed
  of_leaves (line ∷ lines) (due ∷ dues) left met passed =
      let goes = sym (met_after grammar basis is_met due line (first_met due dues met)) ∙ passed.1
      in
      let later = of_leaves lines (passed.0 ++ dues) left
      (next_met due dues line true passed.0 met goes) passed.2 in
      ((passed.0, goes, later.0), later.1)

  left_met : (lines : List Line) (dues left : List Due) → AreMet dues
      → LeavesDue grammar.reads basis lines dues left → AreMet left
  left_met lines dues left met passed =
      (of_leaves lines dues left met (to_leaves lines dues left met passed)).1

  to_begins : (lines : List Line) (dues : List Due) → AreMet dues
      → Begins grammar basis dues lines → Begins whole basis dues lines
  to_begins lines dues met begins = (
    begins.0,
    to_filled grammar basis is_met false dues (filter grammar.counts lines ++ begins.0) met
        begins.1,
  )

  of_begins : (lines : List Line) (dues : List Due) → AreMet dues
      → Begins whole basis dues lines → Begins grammar basis dues lines
  of_begins lines dues met begins = (
    begins.0,
    of_filled grammar basis is_met false dues (filter grammar.counts lines ++ begins.0) met
        begins.1,
  )

  -- ---- the three stops

  pub met_bad_line : (lines : List Line) (dues : List Due) (at unsettled place : ℕ) → AreMet dues
      → (ending_by grammar.reads basis lines dues at unsettled ≡ bad_line (at + place))
      ↔ IsBadLineAt grammar basis lines dues place
  met_bad_line lines dues at unsettled place met = (
    λ ends.
        let it = bad_line_is whole basis (reads_filled grammar basis is_met agrees) lines dues at
        unsettled place (sym (reads_same lines dues at unsettled met) ∙ ends) in
        record {
          before = it.before;
          bad_one = it.bad_one;
          later = it.later;
          left = it.left;
          parts = it.parts;
          place = it.place;
          due = it.due;
          passed = (of_leaves it.before dues it.left met it.passed).0;
          begins = of_begins it.before dues met it.begins;
          ends = λ begins. it.ends (to_begins (it.before ++ it.bad_one ∷ []) dues met begins);
        },
    λ it.
        reads_same lines dues at unsettled met
        ∙ is_bad_line whole basis (reads_filled grammar basis is_met agrees) lines dues at unsettled
        place
        (record {
          before = it.before;
          bad_one = it.bad_one;
          later = it.later;
          left = it.left;
          parts = it.parts;
          place = it.place;
          due = it.due;
          passed = to_leaves it.before dues it.left met it.passed;
          begins = to_begins it.before dues met it.begins;
          ends = λ begins. it.ends (of_begins (it.before ++ it.bad_one ∷ []) dues met begins);
        }),
  )

  pub met_no_proof : (lines : List Line) (dues : List Due) (at unsettled place : ℕ) → AreMet dues
      → (ending_by grammar.reads basis lines dues at unsettled ≡ no_proof (at + place))
      ↔ IsUnprovedAt grammar basis lines dues place
  met_no_proof lines dues at unsettled place met = (
    λ ends.
        let it = no_proof_is whole basis (reads_filled grammar basis is_met agrees) lines dues at
        unsettled place (sym (reads_same lines dues at unsettled met) ∙ ends) in
        let passes = of_leaves it.before dues (it.due ∷ it.left) met it.passed in
        record {
          before = it.before;
          unproved = it.unproved;
          later = it.later;
          due = it.due;
          left = it.left;
          more = it.more;
          parts = it.parts;
          place = it.place;
          passed = passes.0;
          fails =
              sym (met_after grammar basis is_met it.due it.unproved
              (first_met it.due it.left passes.1)) ∙ it.fails;
          begins = of_begins (it.before ++ it.unproved ∷ []) dues met it.begins;
        },
    λ it.
        reads_same lines dues at unsettled met
        ∙ is_no_proof whole basis (reads_filled grammar basis is_met agrees) lines dues at unsettled
        place
        (record {
          before = it.before;
          unproved = it.unproved;
          later = it.later;
          due = it.due;
          left = it.left;
          more = it.more;
          parts = it.parts;
          place = it.place;
          passed = to_leaves it.before dues (it.due ∷ it.left) met it.passed;
          fails =
              met_after grammar basis is_met it.due it.unproved
              (first_met it.due it.left (left_met it.before dues (it.due ∷ it.left) met it.passed))
              ∙ it.fails;
          begins = to_begins (it.before ++ it.unproved ∷ []) dues met it.begins;
        }),
  )

  pub met_short : (lines : List Line) (dues : List Due) (at unsettled : ℕ) → AreMet dues
      → (ending_by grammar.reads basis lines dues at unsettled ≡ short)
      ↔ AreTooFew grammar basis lines dues
  met_short lines dues at unsettled met = (
    λ ends.
        let it = short_is whole basis (reads_filled grammar basis is_met agrees) lines dues at
        unsettled (sym (reads_same lines dues at unsettled met) ∙ ends) in
        record {
          left = it.left;
          due = it.due;
          passed = (of_leaves lines dues it.left met it.passed).0;
          begins = of_begins lines dues met it.begins;
        },
    λ it.
        reads_same lines dues at unsettled met
        ∙ is_short whole basis (reads_filled grammar basis is_met agrees) lines dues at unsettled
        (record {
          left = it.left;
          due = it.due;
          passed = to_leaves lines dues it.left met it.passed;
          begins = to_begins lines dues met it.begins;
        }),
  )
