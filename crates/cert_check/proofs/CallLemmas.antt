-- What a line of a league's report makes of the reading, by what is due there.
use Rattle.std.proofs.Common.{◌≡◌, ℕ, ◌+◌, Bool, true, false, not, ◌&&◌, List, [], ◌∷◌, ◌++◌}
use Rattle.std.proofs.Common.{refl, sym, ap, ◌∙◌, drop}
use Rattle.std.proofs.lemmas.Bool.{false≢true, and_parts, and_from}
use Rattle.league_core.specs.declared.sheet.Sheet.{Sheet}
use Rattle.league_core.specs.declared.question.Question.{Question}
use Rattle.league_core.specs.declared.zone.Literal.{Literal}
use Rattle.league_core.specs.search.Zones.{is_zone_of, is_test_of, is_of_rival}
use Rattle.cert_text.specs.Ranges.{is_test_in_range}
use Rattle.cert_text.specs.TreeLines.{is_test_for}
use Rattle.wide_lines.specs.declared.wide_reason.WideReason.{WideReason}
use Rattle.wide_lines.specs.declared.wide_node.WideNode.TheVariants as node
use Rattle.wide_lines.specs.WideReasons.{has_wide_reason}
use Rattle.line_tokens.specs.declared.token.Token.{Token}
use Rattle.line_tokens.specs.declared.token.Token.TheVariants.{Blank, Row, Proof, Near, Unknown}
use Rattle.line_tokens.specs.declared.tree_line.TreeKind.{TreeKind}
use Rattle.cert_check.specs.declared.expected.Tally.{Tally}
use Rattle.cert_check.specs.ExpectedItems.{Basis, Expected, ask_row, verdict_row}
use Rattle.cert_check.specs.LineGrammars.{go, by_next}
use Rattle.cert_check.specs.ExpectedItems.{nodes}
use Rattle.cert_check.specs.ExpectedItems.{after, is_ask_row}
use Rattle.line_tokens.specs.LineRanges.{is_path_for}
use Rattle.cert_check.specs.ExpectedItems.{after_leaf, may_refute}
use Rattle.cert_check.specs.ExpectedItems.{after_node, with_fresh}
use Rattle.cert_check.specs.Machine.{with_unsettled}
use Rattle.cert_check.specs.Machine.{ending_of, report_grammar}
use Rattle.line_tokens.specs.Tokens.{counts}
use Rattle.cert_check.specs.inside.Calls.{ReportView, ending_from}
use Rattle.cert_check.proofs.NextLemmas.{go-if, bad-go, if-go}
use Rattle.cert_check.proofs.RowLemmas.{ask_row-says}

-- a line of a report is read by what is due
pub line_reads : (judged : ReportView) (at : ℕ) (token : Token)
    → drop at judged.tokens ≡ token ∷ drop (at + 1) judged.tokens
    → (due : Expected) (dues : List Expected) (unsettled : ℕ)
    → ending_from judged at (due ∷ dues) unsettled
    ≡ by_next (after judged.basis due token) at
    (λ more. ending_from judged (at + 1) (more ++ dues) (with_unsettled unsettled token))
unfolding report_grammar
line_reads judged at token there due dues unsettled =
    ap (λ lines. ending_of judged.basis lines (due ∷ dues) at unsettled) there

-- a line that does not count is passed over
pub line_passes : (judged : ReportView) (at : ℕ) (token : Token)
    → drop at judged.tokens ≡ token ∷ drop (at + 1) judged.tokens → counts token ≡ false
    → (due : Expected) (dues : List Expected) (unsettled : ℕ)
    → ending_from judged at (due ∷ dues) unsettled
    ≡ ending_from judged (at + 1) (due ∷ dues) unsettled
line_passes judged at Blank there passed = line_reads judged at Blank there
line_passes judged at (Row fields) there passed = absurd (false≢true (sym passed))
line_passes judged at (Proof shown) there passed = absurd (false≢true (sym passed))
line_passes judged at (Near rival fresh) there passed = absurd (false≢true (sym passed))
line_passes judged at Unknown there passed = absurd (false≢true (sym passed))

-- whether this is anything but the row of a line and a club
abbrev pub is_quiet : Expected → Bool
is_quiet (verdict_row line club) = false
is_quiet _ = true

-- if another thing is due, a line that goes on is no row of an unsettled club
pub quiet : (basis : Basis) (due : Expected) (token : Token) (holds : Bool) (more : List Expected)
    → is_quiet due ≡ true → after basis due token ≡ go holds more → (unsettled : ℕ)
    → with_unsettled unsettled token ≡ unsettled
quiet basis due Blank holds more is goes unsettled = refl
quiet basis due (Proof shown) holds more is goes unsettled = refl
quiet basis due (Near rival fresh) holds more is goes unsettled = refl
quiet basis due Unknown holds more is goes unsettled = refl
quiet basis ask_row (Row fields) holds more is goes unsettled =
    let fits = go-if (is_ask_row basis.epoch fields) (go true []) holds more goes in
    ap (λ it. with_unsettled unsettled (Row it)) (ask_row-says basis.epoch fields fits.0)
quiet basis (verdict_row line club) (Row fields) holds more is goes unsettled =
    absurd (false≢true is)
quiet basis _ (Row fields) holds more is goes unsettled = absurd (bad-go holds more goes)

-- ---- trees

-- a test of the question is of what the sheet has
pub test_of_question : (sheet : Sheet) (question : Question) (test : _)
    → is_test_for sheet question test ≡ true → is_test_of sheet test ≡ true
test_of_question sheet question test is =
    let said = and_parts (is_test_in_range test && is_test_of sheet test)
    (not (is_of_rival question.club test)) is in
    (and_parts (is_test_in_range test) (is_test_of sheet test) said.0).1

-- a way by tests of the question names what the sheet has
pub zone_of_path : (sheet : Sheet) (question : Question) (zone : List Literal)
    → is_path_for sheet question zone ≡ true → is_zone_of sheet zone ≡ true
zone_of_path sheet question [] path = refl
zone_of_path sheet question (literal ∷ zone) path =
    let test = literal.test in
    let parts = and_parts (is_test_for sheet question test) (is_path_for sheet question zone)
    path in
    and_from (is_test_of sheet test) (is_zone_of sheet zone)
    (test_of_question sheet question test parts.0) (zone_of_path sheet question zone parts.1)

-- a leaf that does not prove what it says leaves something due all the same
leaf_unproved : (basis : Basis) (kind : TreeKind) (question : Question)
    (zones : List (List Literal)) (tally : Tally)
    → (more : List Expected) × (after_leaf basis kind question zones tally false ≡ go false more)
leaf_unproved basis kind question [] tally = ([], refl)
leaf_unproved basis kind question (zone ∷ zones) tally =
    (nodes kind question zone zones tally ∷ [], refl)

-- a leaf whose reason does not hold
pub reason_unproved : (basis : Basis) (kind : TreeKind) (question : Question) (zone : List Literal)
    (zones : List (List Literal)) (tally : Tally) (reason : WideReason) (fresh : Bool)
    → may_refute basis.kind basis.sheet question reason ≡ true
    → has_wide_reason basis.sheet basis.season question zone reason ≡ false
    → (more : List Expected) × (after_node basis kind question zone zones tally
    (node.Refuted reason fresh) ≡ go false more)
reason_unproved basis kind question zone zones tally reason fresh fits fails =
    let unproved = leaf_unproved basis kind question zones (with_fresh fresh tally) in (
      unproved.0,
      if-go (may_refute basis.kind basis.sheet question reason)
          (after_leaf basis kind question zones (with_fresh fresh tally)
          (has_wide_reason basis.sheet basis.season question zone reason)) fits
          ∙ ap (after_leaf basis kind question zones (with_fresh fresh tally)) fails ∙ unproved.1,
    )
