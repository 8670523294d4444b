-- One match after the other.
use Rattle.std.proofs.Common.{◌≡◌, ◌+◌, Bool, true, false, not, ◌&&◌, refl, sym, arith}
use Rattle.std.proofs.lemmas.Bool.{and_parts}
use Rattle.score_box.proofs.OpenSideLemmas.{none_at, none_further}
use Rattle.score_box.proofs.open_matches.among.has_none_in_four.Goals as goal

none_of : (b : Bool) → not b ≡ true → b ≡ false
none_of true is = sym is
none_of false is = refl

pub returns : goal.returns
returns c all =
    let sides = c.args.sides.now in
    let group = c.args.group in
    let from = c.args.from in
    let first = c.lies_within.result in
    let second = c.lies_within-2.result in
    let third = c.lies_within-3.result in
    let last = c.lies_within-4.result in
    let three = and_parts ((not first && not second) && not third) (not last) all in
    let two = and_parts (not first && not second) (not third) three.0 in
    let one = and_parts (not first) (not second) two.0 in
    none_further sides group from (from + 1) (from + 4)
    (none_at sides group _ from (from + 1) first (omega arith) c.lies_within.ensures
    (none_of first one.0))
    (none_further sides group (from + 1) (from + 2) (from + 4)
    (none_at sides group _ (from + 1) (from + 2) second (omega arith) c.lies_within-2.ensures
    (none_of second one.1))
    (none_further sides group (from + 2) (from + 3) (from + 4)
    (none_at sides group _ (from + 2) (from + 3) third (omega arith) c.lies_within-3.ensures
    (none_of third two.1))
    (none_at sides group _ (from + 3) (from + 4) last (omega arith) c.lies_within-4.ensures
    (none_of last three.1))))
