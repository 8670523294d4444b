-- Four and four.
use Rattle.std.proofs.Common.{◌+◌, ◌≡◌, ℕ, subst, arith}
use Rattle.std.proofs.lemmas.Bool.{and_parts}
use Rattle.score_box.specs.inside.OpenSides.{NoneBetween}
use Rattle.score_box.proofs.OpenSideLemmas.{none_further}
use Rattle.score_box.proofs.open_matches.among.has_none_in_eight.Goals as goal

pub returns : goal.returns
returns c all =
    let sides = c.args.sides.now in
    let group = c.args.group in
    let from = c.args.from in
    let both = and_parts c.has_none_in_four.result c.has_none_in_four-2.result all in
    let end : from + 4 + 4 ≡ from + 8 = omega arith in
    none_further sides group from (from + 4) (from + 8) (c.has_none_in_four.ensures both.0)
    (subst (λ (n : ℕ). NoneBetween sides group (from + 4) n) end
    (c.has_none_in_four-2.ensures both.1))
