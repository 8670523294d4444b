-- What `==` says of literals and of tests: that they are the same.
use Rattle.std.proofs.Common.{◌≡◌, ap}
use Rattle.std.specs.Bool.{Decides}
use Rattle.std.proofs.lemmas.Bool.Decides.{Decides-eqb, Decides-and}
use mathlib.Core.Bool.{beq}
use Rattle.league_core.specs.declared.zone.Test.{Test}
use Rattle.league_core.specs.declared.zone.Test.TheVariants.{Home, Draw, HomeMost, AwayMost, Rival}
use Rattle.league_core.specs.declared.zone.Literal.{Literal}
use Rattle.league_core.specs.contracts.zone.TestPartialEq.TheImpl as test_eq
use Rattle.league_core.specs.contracts.zone.LiteralPartialEq.TheImpl as literal_eq
use Rattle.league_core.proofs.plain.TruthValues.{bools_decided}
use Rattle.league_core.proofs.plain.Numbers.{pairs_decided}

-- equal tests are the same
pub tests_decided : (a b : Test) → Decides (test_eq.eq-value.it a b) (a ≡ b)
tests_decided (Home f) (Home g) =
    (λ h. ap Home ((Decides-eqb f g).0 h), λ e. (Decides-eqb f g).1 cc)
tests_decided (Draw f) (Draw g) =
    (λ h. ap Draw ((Decides-eqb f g).0 h), λ e. (Decides-eqb f g).1 cc)
tests_decided (HomeMost f m) (HomeMost g n) =
    (λ h. let both = (pairs_decided f m g n).0 h in cc, λ e. (pairs_decided f m g n).1 ((cc), (cc)))
tests_decided (AwayMost f m) (AwayMost g n) =
    (λ h. let both = (pairs_decided f m g n).0 h in cc, λ e. (pairs_decided f m g n).1 ((cc), (cc)))
tests_decided (Rival f) (Rival g) =
    (λ h. ap Rival ((Decides-eqb f g).0 h), λ e. (Decides-eqb f g).1 cc)
tests_decided a b = (λ h. cc, λ e. cc)

-- equal literals are the same
pub literals_decided : (a b : Literal) → Decides (literal_eq.eq-value.it a b) (a ≡ b)
literals_decided a b =
    let both =
    Decides-and (test_eq.eq-value.it a.test b.test) (beq a.yes b.yes)
    (tests_decided a.test b.test) (bools_decided a.yes b.yes) in (
      λ h. λ i. record { test = (both.0 h).0 i; yes = (both.0 h).1 i },
      λ e. both.1 (ap (λ (l : Literal). l.test) e, ap (λ (l : Literal). l.yes) e),
    )
