use Rattle.std.proofs.Common.{length, refl, sym, ap, subst, ◌∙◌, Option, [], arith}
use Rattle.port_core.specs.Contents.{Contents}
use Rattle.port_core.specs.Readers.{contents_to_come}
use Rattle.port_core.proofs.TakingLemmas.{TakesInput-more, TakesInput-none}
use Rattle.cert_check.specs.inside.InputCalls.{EndsFeed, FeedSoFarView, IsStateOf, LeadsFeed}
use Rattle.cert_check.proofs.FeedLemmas.{state-start, leads-start}
use Rattle.cert_check.proofs.feed.read_feed.Goals as goal

pub entries-init : goal.entries-init
entries-init g c =
    let none = ap (λ (s : FeedSoFarView). length s.entries) c.requires.start in
    record {
      leads = λ contents is.
          let P : FeedSoFarView → Type 0 = λ s. LeadsFeed c.args.sheet.now contents
          (contents_to_come c.args.reader.now (g.S.Source.left c.args.source.now)) s.entries in
          let Q : Option Contents → Type 0 =
          λ known. LeadsFeed c.args.sheet.now contents known [] in
          subst P (sym c.requires.start) (subst Q (sym is) (leads-start c.args.sheet.now contents));
      state = subst (IsStateOf c.args.sheet.now) (sym c.requires.start)
          (state-start c.args.sheet.now);
      few = omega (arith, none);
      within = omega (arith, none);
      takes = TakesInput-none c.args.reader.now (g.S.Source.left c.args.source.now);
      counts = refl;
    }

pub entries-preserved : goal.entries-preserved
entries-preserved g c =
    let reads = rw c.in-Ok-None.field-0-is at c.in-Ok-None.ensures.reads in
    let moves = rw c.in-Ok-None.field-0-is at c.in-Ok-None.ensures.moves in
    record {
      leads = λ contents is. reads contents (c.entries.invariant.leads contents is);
      state = c.in-Ok-None.ensures.state;
      few = omega (arith, moves.0, c.in-Ok-None.ensures.few, c.entries.invariant.few);
      within = omega (arith, moves.0, moves.1, c.in-Ok-None.ensures.few, c.entries.invariant.few);
      takes = TakesInput-more c.args.reader.now c.entries.reader c.take_entry.new.reader _ _ _
          c.entries.invariant.takes c.take_entry.ensures.takes;
      counts = c.in-Ok-None.ensures.cause ∙ c.entries.invariant.counts;
    }

pub returns-in-Ok-Some-clause-reads : goal.returns-in-Ok-Some-clause-reads
returns-in-Ok-Some-clause-reads g c = λ contents is.
    let reads = rw c.in-Ok-Some.field-0-is at c.in-Ok-Some.ensures.reads in
    let P : FeedSoFarView → Type 0 = λ s. EndsFeed c.args.sheet.now contents
    (contents_to_come c.take_entry.new.reader (g.S.Source.left c.take_entry.new.source)) s.entries
    c.in-Ok-Some.proofs in
    subst P (sym c.feed.view_is) (reads contents (c.entries.invariant.leads contents is))

pub returns-in-Ok-Some-clause-few : goal.returns-in-Ok-Some-clause-few
returns-in-Ok-Some-clause-few g c =
    let kept = rw c.in-Ok-Some.field-0-is at c.in-Ok-Some.ensures.kept in
    let same = ap (λ (s : FeedSoFarView). length s.entries) (c.feed.view_is ∙ kept) in
    omega (arith, same, c.entries.invariant.within)

pub returns-in-Ok-Some-clause-takes : goal.returns-in-Ok-Some-clause-takes
returns-in-Ok-Some-clause-takes g c =
    TakesInput-more c.args.reader.now c.entries.reader c.take_entry.new.reader _ _ _
    c.entries.invariant.takes c.take_entry.ensures.takes

pub returns-in-Err-clause-reads : goal.returns-in-Err-clause-reads
returns-in-Err-clause-reads g c = λ contents is. (
  c.take_entry.new.feed.entries,
  c.in-Err.ensures.reads contents (c.entries.invariant.leads contents is),
)

pub returns-in-Err-clause-takes : goal.returns-in-Err-clause-takes
returns-in-Err-clause-takes g c =
    TakesInput-more c.args.reader.now c.entries.reader c.take_entry.new.reader _ _ _
    c.entries.invariant.takes c.take_entry.ensures.takes
