use Rattle.fixture_sheet.proofs.LineLemmas.{lines_are_one_record}
use Rattle.fixture_sheet.proofs.laws.a_line_is_one_record.Goals as goal

pub returns : goal.returns
returns c = lines_are_one_record
