use Rattle.std.proofs.Common.{ℤ, subst, arith}
use Rattle.std.proofs.lemmas.Int.{ints}
use Rattle.league_core.specs.declared.question.Claim.TheVariants.{Inside}
use Rattle.qual_scores.specs.inside.Searching.{IsWindowAnswer}
use Rattle.qual_scores.proofs.PointRangeLemmas.{kept}
use Rattle.qual_scores.proofs.SearchLemmas.{reach_narrowed, reach_none, spent_first}
use Rattle.qual_scores.proofs.search.possible_score.Goals as goal

pub ask_window-requires-clause-in_window : goal.ask_window-requires-clause-in_window
ask_window-requires-clause-in_window c =
    let least = c.requires.reach.least in
    let order = c.requires.reach.in_order in
    let most = c.requires.reach.most in
    record { least = omega (arith, ints); most = omega (arith, ints) }

pub halved-requires-clause-narrowed : goal.halved-requires-clause-narrowed
halved-requires-clause-narrowed c =
    let least = c.requires.reach.least in
    let order = c.requires.reach.in_order in
    let most = c.requires.reach.most in
    let says = subst (λ (z : ℤ). IsWindowAnswer c.args.sheet.now c.args.season.now
    (record { club = c.args.club; line = c.args.line; claim = Inside }) z
    c.in_ok-ask_window.field-0)
    (kept c.args.reach.high (omega (arith, ints)) (omega (arith, ints)))
    c.in_ok-ask_window.ensures in
    reach_narrowed c.args.sheet.now c.args.season.now c.args.club c.args.line c.args.reach _
    c.requires.reach says c.in-NotAbove.is

pub returns-in-Above : goal.returns-in-Above
returns-in-Above c =
    let least = c.requires.reach.least in
    let order = c.requires.reach.in_order in
    let most = c.requires.reach.most in
    let says = subst (λ (z : ℤ). IsWindowAnswer c.args.sheet.now c.args.season.now
    (record { club = c.args.club; line = c.args.line; claim = Inside }) z
    c.in_ok-ask_window.field-0)
    (kept c.args.reach.high (omega (arith, ints)) (omega (arith, ints)))
    c.in_ok-ask_window.ensures in
    reach_none c.args.sheet.now c.args.season.now c.args.club c.args.line c.args.reach _
    c.requires.reach says c.in-Above.is

pub returns-in-Spent : goal.returns-in-Spent
returns-in-Spent c =
    let least = c.requires.reach.least in
    let order = c.requires.reach.in_order in
    let most = c.requires.reach.most in
    let says = subst (λ (z : ℤ). IsWindowAnswer c.args.sheet.now c.args.season.now
    (record { club = c.args.club; line = c.args.line; claim = Inside }) z
    c.in_ok-ask_window.field-0)
    (kept c.args.reach.high (omega (arith, ints)) (omega (arith, ints)))
    c.in_ok-ask_window.ensures in
    spent_first c.args.sheet.now c.args.season.now c.args.club c.args.line c.args.reach _
    c.in-Spent.spent c.between.result c.requires.reach says c.in-Spent.is c.between.ensures
