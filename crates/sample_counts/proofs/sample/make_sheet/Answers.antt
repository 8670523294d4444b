use Rattle.std.proofs.Common.{◌∙◌}
use Rattle.sample_counts.proofs.SampleLemmas.{sheet_of_parts}
use Rattle.sample_counts.proofs.sample.make_sheet.Goals as goal

pub returns : goal.returns
returns c =
    sheet_of_parts _ _ _ _ (c.new.ensures ∙ c.in_ok-name.ensures.ok) c.in_ok-clubs.ensures
    c.in_ok-fixtures.ensures (c.from_vec.ensures ∙ c.in_ok-lines.ensures.items)
