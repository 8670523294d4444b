use Rattle.std.proofs.Common.{◌+◌, List, length, sym, ap, ◌∙◌, subst, arith}
use Rattle.std.proofs.lemmas.List.{with_items_is}
use Rattle.reference_programs.specs.declared.reach.Reach.{Reach}
use Rattle.reference_programs.specs.inside.Walks.{number_in}
use Rattle.reference_programs.specs.inside.Reaches.{AreReachesOver, IsBefore}
use Rattle.league_core.proofs.FinishLemmas.{finish_is_played}
use Rattle.reference_programs.proofs.NumberLemmas.{number_in-lt, finish_of_sheet}
use Rattle.reference_programs.proofs.StepLemmas.{stepped, ended}
use Rattle.reference_programs.proofs.WalkLemmas.{length-spans_of, reaches_first, reaches_more}
use Rattle.reference_programs.proofs.WalkLemmas.{reaches_all}
use Rattle.reference_programs.proofs.walk.reaches.Goals as goal

pub first_reaches-requires-clause-league : goal.first_reaches-requires-clause-league
first_reaches-requires-clause-league c =
    finish_of_sheet c.args.sheet.now c.args.season.now c.in_ok-finish.finish
    c.requires.league c.in_ok-finish.ensures.is_finish

pub first_reaches-requires-clause-played : goal.first_reaches-requires-clause-played
first_reaches-requires-clause-played c =
    finish_is_played c.args.sheet.now c.args.season.now c.in_ok-finish.finish
    c.in_ok-finish.ensures.is_finish

pub finishes-init : goal.finishes-init
finishes-init c = record {
  is_finish = c.in_ok-finish.ensures.is_finish;
  reaches = reaches_first c.args.sheet.now c.args.season.now c.in_ok-finish.finish
      c.in_ok-found.found.items c.in_ok-finish.ensures c.in_ok-found.ensures;
}

pub spans-requires : goal.spans-requires
spans-requires c = record {
  league = finish_of_sheet c.args.sheet.now c.args.season.now c.next_finish.new.finish
      c.requires.league c.next_finish.ensures.is_finish;
}

pub take_finish-requires-clause-as_many : goal.take_finish-requires-clause-as_many
take_finish-requires-clause-as_many c =
    ap length c.deref.ensures.value ∙ ap length c.in_ok-spans.ensures
    ∙ length-spans_of c.args.sheet.now c.next_finish.new.finish
    ∙ sym (ap length c.deref_mut.ensures.value ∙ c.finishes.invariant.reaches.clubs)

pub take_finish-requires-clause-played : goal.take_finish-requires-clause-played
take_finish-requires-clause-played c =
    finish_is_played c.args.sheet.now c.args.season.now c.next_finish.new.finish
    c.next_finish.ensures.is_finish

pub finishes-smaller : goal.finishes-smaller
finishes-smaller c =
    let next = stepped c.args.sheet.now c.args.season.now c.finishes.finish
    c.next_finish.new.finish c.next_finish.result c.next_finish.ensures.number
    c.finishes-test.true in
    let at = next.stands in
    let low = number_in-lt c.args.sheet.now c.args.season.now c.next_finish.new.finish
    next.is_finish in
    omega arith

pub finishes-preserved : goal.finishes-preserved
finishes-preserved c =
    let sheet = c.args.sheet.now in
    let season = c.args.season.now in
    let next = stepped sheet season c.finishes.finish
    c.next_finish.new.finish c.next_finish.result c.next_finish.ensures.number
    c.finishes-test.true in
    let taken = c.in_ok-take_finish.ensures in
    let old : List Reach = c.deref_mut.result.now in
    let O : List Reach → Type 0 = λ rs.
    AreReachesOver (IsBefore sheet season (number_in sheet season c.finishes.finish + 1)) sheet
    rs in
    let new = reaches_more sheet season c.finishes.finish c.next_finish.new.finish old
    c.take_finish.new.reaches c.deref.result.now next
    (subst O (sym c.deref_mut.ensures.value) c.finishes.invariant.reaches)
    (c.deref.ensures.value ∙ c.in_ok-spans.ensures) taken in
    let N : List Reach → Type 0 = λ rs.
    AreReachesOver (IsBefore sheet season (number_in sheet season c.next_finish.new.finish + 1))
    sheet rs in
    record {
      is_finish = next.is_finish;
      reaches = subst N
          (sym (with_items_is c.finishes.found c.take_finish.new.reaches
          (omega (arith, taken.as_many, c.deref_mut.ensures.len)))) new;
    }

pub returns : goal.returns
returns c =
    let last = ended c.args.sheet.now c.args.season.now c.finishes.finish
    c.next_finish.new.finish c.next_finish.result c.next_finish.ensures.number
    c.finishes-test.false in
    reaches_all c.args.sheet.now c.args.season.now c.finishes.finish c.finishes.found.items last
    c.finishes.invariant.reaches
