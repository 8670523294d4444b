use Rattle.std.proofs.Common.{◌≡◌, ℤ, pos, ◌+ℤ◌, ap, sym, subst, ◌∙◌, arith, w32, to_z, of_z}
use Rattle.std.specs.Int.{int_max}
use Rattle.std.proofs.lemmas.Int.{ints}
use Rattle.league_core.specs.declared.question.Claim.TheVariants.{Outside}
use Rattle.qual_scores.specs.inside.Searching.{IsNarrowed}
use Rattle.qual_scores.proofs.PointRangeLemmas.{kept}
use Rattle.qual_scores.proofs.SearchLemmas.{past_reach, max_kept}
use Rattle.qual_scores.proofs.search.guaranteed_score.Goals as goal

pub overflow_add-reach : goal.overflow_add-reach
overflow_add-reach c =
    let least = c.requires.reach.least in
    let order = c.requires.reach.in_order in
    let most = c.requires.reach.most in
    let same = kept c.args.reach.high (omega (arith, ints)) (omega (arith, ints)) in
    omega (arith, ints)

pub halved-requires-clause-narrowed : goal.halved-requires-clause-narrowed
halved-requires-clause-narrowed c =
    let least = c.requires.reach.least in
    let order = c.requires.reach.in_order in
    let most = c.requires.reach.most in
    let high = c.args.reach.high in
    let next : to_z w32 (of_z w32 (to_z w32 (of_z w32 high) +ℤ pos 1)) ≡ high +ℤ pos 1 =
    ap (λ (z : ℤ). to_z w32 (of_z w32 (z +ℤ pos 1)))
    (kept high (omega (arith, ints)) (omega (arith, ints)))
    ∙ kept (high +ℤ pos 1) (omega (arith, ints)) (omega (arith, ints)) in
    let value : c.max-high.result ≡ int_max (high +ℤ pos 1) (pos 0) =
    c.max-high.ensures.value ∙ ap (λ (z : ℤ). int_max z (pos 0)) next in
    subst (λ (z : ℤ). IsNarrowed c.args.sheet.now c.args.season.now
    (record { club = c.args.club; line = c.args.line; claim = Outside })
    (record { low = pos 0; high = z }))
    (sym (max_kept (high +ℤ pos 1) c.max-high.result value (omega (arith, ints))))
    (past_reach c.args.sheet.now c.args.season.now c.args.club c.args.line c.args.reach
    c.max-high.result c.requires.reach value)
