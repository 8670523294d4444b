use Rattle.std.proofs.Common.{◌≡◌, ◌∙◌, ℤ, pos, ◌+ℤ◌, ap, sym, subst, arith, w32, to_z, of_z}
use Rattle.std.proofs.lemmas.Int.{ints}
use Rattle.qual_scores.specs.Scores.{IsLeastOf}
use Rattle.qual_scores.specs.inside.Searching.{HoldsOf, IsWindowAnswer}
use Rattle.qual_scores.proofs.PointRangeLemmas.{kept, middle_within, lower_is_less, upper_is_less}
use Rattle.qual_scores.proofs.PointRangeLemmas.{read_less, read_not_less}
use Rattle.qual_scores.proofs.WindowLemmas.{least_full}
use Rattle.qual_scores.proofs.SearchLemmas.{lower_from, upper_from, spent_halfway, one_left}
use Rattle.qual_scores.proofs.search.halved.Goals as goal

pub loop-range-smaller-in-NotAbove : goal.loop-range-smaller-in-NotAbove
loop-range-smaller-in-NotAbove c =
    let range = c.loop-range.range in
    let middle = c.middle-middle.result in
    let least = least_full c.args.sought.claim range.low c.loop-range.invariant.least in
    let most = c.loop-range.invariant.most in
    let order = c.loop-range.invariant.in_order in
    let several = read_less range.low range.high
    (kept range.low (omega (arith, ints)) (omega (arith, ints)))
    (kept range.high (omega (arith, ints)) (omega (arith, ints))) c.loop-range-test.true in
    let within = middle_within range middle several c.middle-middle.ensures in
    lower_is_less range middle (to_z w32 (of_z w32 middle)) several
    c.middle-middle.ensures (kept middle (omega (arith, ints)) (omega (arith, ints)))

pub loop-range-preserved-in-NotAbove : goal.loop-range-preserved-in-NotAbove
loop-range-preserved-in-NotAbove c =
    let range = c.loop-range.range in
    let middle = c.middle-middle.result in
    let least = least_full c.args.sought.claim range.low c.loop-range.invariant.least in
    let most = c.loop-range.invariant.most in
    let order = c.loop-range.invariant.in_order in
    let several = read_less range.low range.high
    (kept range.low (omega (arith, ints)) (omega (arith, ints)))
    (kept range.high (omega (arith, ints)) (omega (arith, ints))) c.loop-range-test.true in
    let within = middle_within range middle several c.middle-middle.ensures in
    let says = subst (λ (z : ℤ). IsWindowAnswer c.args.sheet.now c.args.season.now c.args.sought z
    c.in_ok-ask_window.field-0) (kept middle (omega (arith, ints)) (omega (arith, ints)))
    c.in_ok-ask_window.ensures in
    lower_from c.args.sheet.now c.args.season.now c.args.sought range middle
    (to_z w32 (of_z w32 middle)) _ c.loop-range.invariant several
    c.middle-middle.ensures says c.in-NotAbove.is
    (kept middle (omega (arith, ints)) (omega (arith, ints)))

pub loop-range-smaller : goal.loop-range-smaller
loop-range-smaller c =
    let range = c.loop-range.range in
    let middle = c.middle-middle.result in
    let least = least_full c.args.sought.claim range.low c.loop-range.invariant.least in
    let most = c.loop-range.invariant.most in
    let order = c.loop-range.invariant.in_order in
    let several = read_less range.low range.high
    (kept range.low (omega (arith, ints)) (omega (arith, ints)))
    (kept range.high (omega (arith, ints)) (omega (arith, ints))) c.loop-range-test.true in
    let within = middle_within range middle several c.middle-middle.ensures in
    let next : to_z w32 (of_z w32 (to_z w32 (of_z w32 middle) +ℤ pos 1)) ≡ middle +ℤ pos 1 =
    ap (λ (z : ℤ). to_z w32 (of_z w32 (z +ℤ pos 1)))
    (kept middle (omega (arith, ints)) (omega (arith, ints)))
    ∙ kept (middle +ℤ pos 1) (omega (arith, ints)) (omega (arith, ints)) in
    upper_is_less range middle (to_z w32 (of_z w32 (to_z w32 (of_z w32 middle) +ℤ pos 1)))
    several c.middle-middle.ensures next

pub loop-range-preserved : goal.loop-range-preserved
loop-range-preserved c =
    let range = c.loop-range.range in
    let middle = c.middle-middle.result in
    let least = least_full c.args.sought.claim range.low c.loop-range.invariant.least in
    let most = c.loop-range.invariant.most in
    let order = c.loop-range.invariant.in_order in
    let several = read_less range.low range.high
    (kept range.low (omega (arith, ints)) (omega (arith, ints)))
    (kept range.high (omega (arith, ints)) (omega (arith, ints))) c.loop-range-test.true in
    let within = middle_within range middle several c.middle-middle.ensures in
    let next : to_z w32 (of_z w32 (to_z w32 (of_z w32 middle) +ℤ pos 1)) ≡ middle +ℤ pos 1 =
    ap (λ (z : ℤ). to_z w32 (of_z w32 (z +ℤ pos 1)))
    (kept middle (omega (arith, ints)) (omega (arith, ints)))
    ∙ kept (middle +ℤ pos 1) (omega (arith, ints)) (omega (arith, ints)) in
    let says = subst (λ (z : ℤ). IsWindowAnswer c.args.sheet.now c.args.season.now c.args.sought z
    c.in_ok-ask_window.field-0) (kept middle (omega (arith, ints)) (omega (arith, ints)))
    c.in_ok-ask_window.ensures in
    upper_from c.args.sheet.now c.args.season.now c.args.sought range middle
    (to_z w32 (of_z w32 (to_z w32 (of_z w32 middle) +ℤ pos 1))) _ c.loop-range.invariant
    several c.middle-middle.ensures says c.in-Above.is next

pub returns-in-Spent : goal.returns-in-Spent
returns-in-Spent c =
    let range = c.loop-range.range in
    let least = least_full c.args.sought.claim range.low c.loop-range.invariant.least in
    let most = c.loop-range.invariant.most in
    let order = c.loop-range.invariant.in_order in
    let several = read_less range.low range.high
    (kept range.low (omega (arith, ints)) (omega (arith, ints)))
    (kept range.high (omega (arith, ints)) (omega (arith, ints))) c.loop-range-test.true in
    let middle = c.middle-middle.result in
    let within = middle_within range middle several c.middle-middle.ensures in
    let says = subst (λ (z : ℤ). IsWindowAnswer c.args.sheet.now c.args.season.now c.args.sought z
    c.in_ok-ask_window.field-0) (kept middle (omega (arith, ints)) (omega (arith, ints)))
    c.in_ok-ask_window.ensures in
    spent_halfway c.args.sheet.now c.args.season.now c.args.sought c.loop-range.range
    c.middle-middle.result _ c.in-Spent.spent c.between.result c.loop-range.invariant
    several c.middle-middle.ensures says c.in-Spent.is
    c.between.ensures

pub returns : goal.returns
returns c =
    let range = c.loop-range.range in
    let least = least_full c.args.sought.claim range.low c.loop-range.invariant.least in
    let most = c.loop-range.invariant.most in
    let order = c.loop-range.invariant.in_order in
    subst (λ (z : ℤ). IsLeastOf (HoldsOf c.args.sheet.now c.args.season.now c.args.sought) z)
    (sym (kept range.low (omega (arith, ints)) (omega (arith, ints))))
    (one_left c.args.sheet.now c.args.season.now c.args.sought range c.loop-range.invariant
    (read_not_less range.low range.high
    (kept range.low (omega (arith, ints)) (omega (arith, ints)))
    (kept range.high (omega (arith, ints)) (omega (arith, ints))) c.loop-range-test.false))
