-- Two bases by which a grammar says the same of each line in some part of a report read it alike.
use Rattle.std.proofs.Common.{◌≡◌, ℕ, ◌+◌, Bool, true, false, List, [], ◌∷◌, ◌++◌, refl, ap, ◌∙◌}
use Rattle.std.specs.List.{list_all}
use Rattle.std.proofs.lemmas.Bool.{and_parts, and_from}
use Rattle.std.proofs.lemmas.List.Folds.{list_all-append}
use Rattle.cert_check.specs.LineGrammars.{Next, bad, go, LineGrammar, Ending, by_next, ending_by}
use Rattle.cert_check.proofs.MachineLemmas.{count_with}

-- what a line leaves due is all of this kind
abbrev pub leaves_all : {Due : Type 0} → (Due → Bool) → Next Due → Bool
leaves_all kind bad = true
leaves_all kind (go holds more) = list_all kind more

-- both make the same of a line, and leave only what is of this kind
pub record Agree {Due : Type 0} (kind : Due → Bool) (one other : Next Due) : Type 0 where
  pub same : one ≡ other
  pub leaves : leaves_all kind one ≡ true

step_alike : {Due : Type 0} (kind : Due → Bool) (one other : Next Due) (at : ℕ)
    (here there : List Due → Ending) → Agree kind one other
    → ((more : List Due) → list_all kind more ≡ true → here more ≡ there more)
    → by_next one at here ≡ by_next other at there
step_alike kind bad other at here there agree rest = ap (λ it. by_next it at there) agree.same
step_alike kind (go false more) other at here there agree rest =
    ap (λ it. by_next it at there) agree.same
step_alike kind (go true more) other at here there agree rest =
    rest more agree.leaves ∙ ap (λ it. by_next it at there) agree.same

module _ {Basis Line Due : Type 0} (grammar : LineGrammar Basis Line Due) (one other : Basis)
    (kind : Due → Bool)
    (agree : (due : Due) (line : Line) → kind due ≡ true
    → Agree kind (grammar.after one due line) (grammar.after other due line)) where
  -- where only such things are due, both read alike
  pub same_where_agreed : (lines : List Line) (dues : List Due) (at unsettled : ℕ)
      → list_all kind dues ≡ true
      → ending_by grammar one lines dues at unsettled
      ≡ ending_by grammar other lines dues at unsettled
  same_where_agreed [] [] at unsettled all = refl
  same_where_agreed [] (due ∷ dues) at unsettled all = refl
  same_where_agreed (line ∷ lines) [] at unsettled all = refl
  same_where_agreed (line ∷ lines) (due ∷ dues) at unsettled all =
      let parts = and_parts (kind due) (list_all kind dues) all in
      let count = count_with grammar unsettled line in
      step_alike kind (grammar.after one due line) (grammar.after other due line) at
      (λ more. ending_by grammar one lines (more ++ dues) (at + 1) count)
      (λ more. ending_by grammar other lines (more ++ dues) (at + 1) count) (agree due line parts.0)
      (λ more are. same_where_agreed lines (more ++ dues) (at + 1) count
      (list_all-append kind more dues
      ∙ and_from (list_all kind more) (list_all kind dues) are parts.1))
