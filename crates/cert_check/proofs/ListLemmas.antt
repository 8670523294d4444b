-- The last test of a way.
use Rattle.std.proofs.Common.{◌≡◌, Bool, true, ◌∙◌, List, sym, ap, [], ◌∷◌, ◌++◌}
use Rattle.std.specs.List.{list_all}
use Rattle.std.proofs.lemmas.Bool.{and_parts, and_from}
use Rattle.std.proofs.lemmas.List.Folds.{list_all-append}
use Rattle.league_core.specs.declared.zone.Literal.{Literal}
use Rattle.league_core.specs.declared.zone.Test.{Test}

-- what is so of each test of a way is so of the last one
pub last_test : (test : Test → Bool) (old front : List Literal) (last : Literal)
    → old ≡ front ++ last ∷ [] → list_all (λ (it : Literal). test it.test) old ≡ true
    → test last.test ≡ true
last_test test old front last was all =
    let passes = λ (it : Literal). test it.test in
    let parts = and_parts (list_all passes front) (list_all passes (last ∷ []))
    (sym (list_all-append passes front (last ∷ [])) ∙ ap (list_all passes) (sym was) ∙ all) in
    (and_parts (passes last) (list_all passes []) parts.1).0

-- a way whose last literal is said the other way has the same tests
pub last_turned : (test : Test → Bool) (old front new : List Literal) (last : Literal) (said : Bool)
    → old ≡ front ++ last ∷ [] → new ≡ front ++ record { test = last.test; yes = said } ∷ []
    → list_all (λ (it : Literal). test it.test) old ≡ true
    → list_all (λ (it : Literal). test it.test) new ≡ true
last_turned test old front new last said was is all =
    let passes = λ (it : Literal). test it.test in
    let turned : Literal = record { test = last.test; yes = said } in
    let parts = and_parts (list_all passes front) (list_all passes (last ∷ []))
    (sym (list_all-append passes front (last ∷ [])) ∙ ap (list_all passes) (sym was) ∙ all) in
    ap (list_all passes) is ∙ list_all-append passes front (turned ∷ [])
    ∙ and_from (list_all passes front) (list_all passes (turned ∷ [])) parts.0 parts.1
