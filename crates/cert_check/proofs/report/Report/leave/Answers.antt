-- The tests of the way stay those of the question.
use Rattle.std.proofs.Common.{◌≡◌, ◌∙◌, true, subst, sym}
use Rattle.league_core.specs.declared.sheet.Sheet.{Sheet}
use Rattle.league_core.specs.search.Zones.{is_zone_of}
use Rattle.cert_text.specs.TreeLines.{is_test_for}
use Rattle.cert_check.proofs.CallLemmas.{zone_of_path}
use Rattle.cert_check.proofs.report.Report.leave.Goals as goal

pub next_half-requires : goal.next_half-requires
next_half-requires c =
    let path = c.args.walk.now.path in
    let Of : Sheet → Type 0 = λ sheet. is_zone_of sheet path.zone ≡ true in
    subst Of (sym c.requires.path.sheet)
    (zone_of_path c.args.self.now.basis.sheet c.args.wanted.question path.zone
    c.requires.path.tests)

pub returns-then-branch-clause-path : goal.returns-then-branch-clause-path
returns-then-branch-clause-path c =
    let basis = c.args.self.now.basis in
    let next = c.in_ok-next_half.ensures in
    record {
      sheet = next.same.sheet ∙ c.requires.path.sheet;
      season = next.same.season ∙ c.requires.path.season;
      tests = next.tests (is_test_for basis.sheet c.args.wanted.question) c.requires.path.tests;
    }

pub returns-then-is_tally_whole-clause-path : goal.returns-then-is_tally_whole-clause-path
returns-then-is_tally_whole-clause-path c =
    let basis = c.args.self.now.basis in
    let next = c.in_ok-next_half.ensures in
    record {
      sheet = next.same.sheet ∙ c.requires.path.sheet;
      season = next.same.season ∙ c.requires.path.season;
      tests = next.tests (is_test_for basis.sheet c.args.wanted.question) c.requires.path.tests;
    }
