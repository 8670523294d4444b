use Rattle.std.proofs.Common.{◌≡◌, ◌<◌, length, true, false, get_or, None, refl, sym, ◌∙◌, arith}
use Rattle.std.proofs.lemmas.Bool.{false≢true}
use borrow.Author.Count.{below_more}
use Rattle.league_core.specs.game.Finishes.{may_end}
use Rattle.league_core.proofs.FinishLemmas.{may_all_end-each, may_all_end-length, may_end-at}
use Rattle.league_core.proofs.finish.all_may_end.Goals as goal

pub returns-then-season-finish : goal.returns-then-season-finish
returns-then-season-finish c = (
  λ h. absurd (false≢true h),
  λ all. let same = may_all_end-length c.args.limit c.args.season.now c.args.finish.now all in
      absurd (c.if-season-finish.true same),
)

pub returns-then-not-one_may_end : goal.returns-then-not-one_may_end
returns-then-not-one_may_end c =
    let season = c.args.season.now in
    let finish = c.args.finish.now in
    let fixture = c.loop-fixture.fixture in
    let below : fixture < length season = c.loop-fixture-test.true in
    let not : may_end c.args.limit (get_or season fixture None) (get_or finish fixture None)
    ≡ false = cc in (
      λ h. absurd (false≢true h),
      λ all. absurd
          (false≢true (sym not ∙ may_end-at c.args.limit season finish all fixture below)),
    )

pub loop-fixture-preserved : goal.loop-fixture-preserved
loop-fixture-preserved c =
    let here : may_end c.args.limit (get_or c.args.season.now c.loop-fixture.fixture None)
    (get_or c.args.finish.now c.loop-fixture.fixture None) ≡ true = cc in
    below_more
    (λ k. may_end c.args.limit (get_or c.args.season.now k None)
    (get_or c.args.finish.now k None) ≡ true)
    c.loop-fixture.fixture c.loop-fixture.invariant here

pub returns : goal.returns
returns c = (
  λ h. may_all_end-each c.args.limit c.args.season.now c.args.finish.now (omega arith)
      (λ k below. c.loop-fixture.invariant k (omega arith)),
  λ h. refl,
)
