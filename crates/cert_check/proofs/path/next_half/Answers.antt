-- The last yes, said the other way: its test is one of the way's.
use Rattle.std.proofs.Common.{◌≡◌, ◌∙◌, false, true, ap, subst, sym}
use Rattle.league_core.specs.declared.sheet.Sheet.{Sheet}
use Rattle.league_core.specs.search.Zones.{is_test_of}
use Rattle.check_bounds.specs.inside.Trails.{TrailView, farther}
use Rattle.cert_check.proofs.ListLemmas.{last_test, last_turned}
use Rattle.cert_check.proofs.path.next_half.Goals as goal

pub go-requires : goal.go-requires
go-requires c =
    let path = c.args.path.now in
    let front = c.back.new.self in
    let last = c.in-Some.last in
    let was : c.loop-last.path ≡ farther front last = c.in-Some.ensures.some in
    let same : front.sheet ≡ path.sheet =
    sym (ap (λ (place : TrailView). place.sheet) was) ∙ c.loop-last.invariant.1.sheet in
    let Of : Sheet → Type 0 = λ sheet. is_test_of sheet last.test ≡ true in
    subst Of (sym same)
    (last_test (is_test_of path.sheet) c.loop-last.path.zone front.zone last
    (ap (λ (place : TrailView). place.zone) was)
    (c.loop-last.invariant.2 (is_test_of path.sheet) c.requires))

pub returns-then-last-clause-tests : goal.returns-then-last-clause-tests
returns-then-last-clause-tests c = λ test all.
    last_turned test c.loop-last.path.zone c.back.new.self.zone c.go.new.self.zone
    c.in-Some.last false (ap (λ (place : TrailView). place.zone) c.in-Some.ensures.some)
    (ap (λ (place : TrailView). place.zone) c.in_ok-go.ensures.ok)
    (c.loop-last.invariant.2 test all)
