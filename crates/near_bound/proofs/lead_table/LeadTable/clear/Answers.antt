use Rattle.std.proofs.Common.{◌≡◌, length, rules}
use Rattle.near_bound.proofs.LeadTableLemmas.{nothing_taken}
use Rattle.near_bound.proofs.lead_table.LeadTable.clear.Goals as goal

pub returns : goal.returns
returns c =
    let long : length c.args.self.now.wrongs ≡ 32 = search rules in
    nothing_taken (record { known = c.empty-self.result; wrongs = c.args.self.now.wrongs }) long
    c.empty-self.ensures
