use Rattle.std.proofs.Common.{true, false, arith, rules, slice_index}
use Rattle.std.proofs.lemmas.List.{get_or_default}
use Rattle.league_core.proofs.KeptClubLemmas.{kept_has}
use Rattle.flow_bound.proofs.network.clubs_of.Goals as goal

-- the node of a club of the set is one of the network
pub returns : goal.returns
returns c =
    let many = c.requires.many in
    kept_has
    (λ club said has says.
    let within = c.requires.numbered.within club has in
    let node = slice_index c.args.places.now club in
    let same = get_or_default c.args.marks.now node true false (omega (arith, within, many)) in
    search rules)
    c.keep.ensures
