-- What the calls of the checker come to, each by the reading line by line: the words of Goes at the
-- grammar of a league's reports.
use Rattle.std.specs.Prelude.{◌≡◌, ◌<◌, ◌≤◌, ℕ, ◌+◌, Bool, true, IsTrue, List, [], ◌∷◌}
use Rattle.std.specs.Prelude.{◌++◌, ◌*◌, length, take, drop, Result, Ok, Err, Option, Some}
use Rattle.std.specs.Prelude.{None, if◌then◌else◌}
use Rattle.league_core.specs.declared.question.Question.{Question}
use Rattle.league_core.specs.declared.sheet.Sheet.{Sheet}
use Rattle.league_core.specs.game.Results.{Results}
use Rattle.league_core.specs.game.Seasons.{IsLeague}
use Rattle.league_core.specs.inside.Pending.{pending_of}
use Rattle.wide_lines.specs.declared.wide_node.WideNode.{WideNode}
use Rattle.line_tokens.specs.declared.token.Token.{Token}
use Rattle.cert_check.specs.declared.stop.Accepted.{Accepted}
use Rattle.cert_check.specs.declared.stop.CheckStop.{CheckStop}
use Rattle.cert_check.specs.declared.stop.CheckStop.TheVariants as stop
use Rattle.cert_check.specs.declared.stop.CheckStopAt.{CheckStopAt}
use Rattle.line_tokens.specs.declared.row_word.RowWord.{RowWord}
use Rattle.line_tokens.specs.declared.row_word.RowWord.TheVariants.{Clinched, Lost, Possible}
use Rattle.line_tokens.specs.declared.row_word.RowWord.TheVariants.{Unsettled}
use Rattle.line_tokens.specs.Tokens.{counts, counted_lines}
use Rattle.kept_lines.specs.LineLists.{NumberedLine, line_number_at}
use Rattle.line_tokens.specs.Tokens.{tokens_of}
use Rattle.line_tokens.specs.declared.token.Token.TheVariants.{Blank, Row, Proof, Near, Unknown}
use Rattle.cert_check.specs.declared.item.PartRead.{PartRead}
use Rattle.cert_check.specs.declared.tree.TreeSpec.{TreeSpec}
use Rattle.cert_check.specs.declared.tree.Walk.{Walk}
use Rattle.cert_check.specs.LineGrammars.{Next, bad, go, Ending}
use Rattle.cert_check.specs.ExpectedItems.{Basis, Expected, verdict_row, nodes, dues_of_word}
use Rattle.cert_check.specs.ExpectedItems.{after, after_node, head_in, scores_due, finish_with}
use Rattle.cert_check.specs.declared.expected.Head.{Head}
use Rattle.league_core.specs.declared.question.Claim.{Claim}
use Rattle.league_core.specs.declared.season.Score.{Score}
use Rattle.league_core.specs.game.Questions.{holds_at}
use Rattle.league_core.specs.game.Ranking.{are_lots}
use Rattle.cert_text.specs.declared.proof_line.ProofLine.TheVariants as line
use Rattle.check_bounds.specs.inside.Trails.{TrailView, root_of}
use Rattle.line_tokens.specs.LineRanges.{is_path_for}
use Rattle.cert_check.specs.ExpectedItems.{lots_if_drawn}
use Rattle.cert_check.specs.Machine.{report_grammar, with_unsettled}
use Rattle.cert_check.specs.Machine.{part_of_ask}
use Rattle.cert_check.specs.inside.Truths.{AreTrueRows}
use Rattle.cert_check.specs.Machine.{part_ending}
use Rattle.cert_check.specs.inside.Goes.{LinesView, rest_ending, HaltsBy, GoesBy, IsNextLine}
use Rattle.cert_check.specs.inside.Goes.{FindsNextLine, GoesByFound, AllHaltBy, GoesAfterBy}
use Rattle.cert_check.specs.inside.Goes.{ChecksWhole, GoesOverBy, ReachesBy}

-- what is judged: by what, and which lines
abbrev pub ReportView : Type 0
ReportView = LinesView Basis Token

-- a sheet and a season of it, and the way to the whole of it, from which each tree begins
pub record IsJudgedFrom (sheet : Sheet) (season : Results) (root : TrailView) : Type 0 where
  pub league : IsLeague sheet season
  pub whole : root ≡ root_of sheet season

-- what the lines from a position on come to, if this is due first
abbrev pub ending_from : ReportView → ℕ → List Expected → ℕ → Ending
ending_from judged from dues unsettled = rest_ending report_grammar judged from dues unsettled

-- the reading stops so, whatever else is due
abbrev pub HaltsAt : ReportView → ℕ → Expected → CheckStopAt → Type 0
HaltsAt judged from due stop = HaltsBy report_grammar judged from due stop

-- the position from which the rest is read, if what was due is shown; or why the reading stops
abbrev pub Goes : ReportView → ℕ → Expected → Result ℕ CheckStopAt → Type 0
Goes judged from due result = GoesBy report_grammar judged from due result

-- the next line that counts
abbrev pub IsNextAt : ReportView → ℕ → ℕ → Token → Type 0
IsNextAt judged from at token =
    IsNextLine report_grammar (λ it. IsTrue (counts it)) after with_unsettled judged from at token

-- a call that looks for the next line that counts: there is none if lines are missing
abbrev pub FindsNext : ReportView → ℕ → Result (ℕ × Token) CheckStopAt → Type 0
FindsNext judged from result =
    FindsNextLine report_grammar (λ it. IsTrue (counts it)) after with_unsettled judged from result

-- ---- rows

-- what is due after the row of an ask, if it is that
abbrev pub after_ask_row_if : Bool → Next Expected
after_ask_row_if is = if is then go true [] else bad

-- a row of this word counts so many unsettled rows
abbrev pub unsettled_in : RowWord → ℕ
unsettled_in Clinched = 0
unsettled_in Lost = 0
unsettled_in Possible = 0
unsettled_in Unsettled = 1

-- the row of a line and a club leaves due what its word asks for
abbrev pub GoesByWord : ReportView → ℕ → ℕ → ℕ → Result (ℕ × RowWord) CheckStopAt → Type 0
GoesByWord judged from line club result =
    GoesByFound report_grammar judged from (verdict_row line club) (dues_of_word line club)
    unsettled_in result

-- ---- trees

-- both are places of one season
pub record IsInSeasonOf (old new : TrailView) : Type 0 where
  pub sheet : new.sheet ≡ old.sheet
  pub season : new.season ≡ old.season

-- a place of the season that is judged by, whose zone a tree for the question can have
pub record IsPathFor (basis : Basis) (question : Question) (path : TrailView) : Type 0 where
  pub sheet : path.sheet ≡ basis.sheet
  pub season : path.season ≡ basis.season
  pub tests : IsTrue (is_path_for basis.sheet question path.zone)

-- what is due when the reading of a tree stands so
abbrev pub nodes_due : TreeSpec → Walk → Expected
nodes_due wanted walk =
    nodes wanted.kind wanted.question walk.path.zone (pending_of walk.path.zone) walk.tally

-- what is due after a node when it stands so
abbrev pub after_walked : Basis → TreeSpec → Walk → WideNode → Next Expected
after_walked basis wanted walk node =
    after_node basis wanted.kind wanted.question walk.path.zone (pending_of walk.path.zone)
    walk.tally node

-- ---- heads

-- the head of a claim that a line is, if it is a proof line that is one
abbrev pub head_of_token : Claim → Token → Option Head
head_of_token claim Blank = None
head_of_token claim (Row fields) = None
head_of_token claim (Proof line) = head_in claim line
head_of_token claim (Near rival fresh) = None
head_of_token claim Unknown = None

-- ---- examples

-- what is due of an example when the fixtures before this one have ended with these scores
abbrev pub example_due : Question → ℕ → List (Option Score) → Expected
example_due question fixture scores = scores_due question (take fixture scores) (drop fixture
    scores)

-- what is due after a score, if the line is one that may come
abbrev pub after_score_if : Question → List (Option Score) → List (Option Score) → Option Score →
    Next Expected
after_score_if question ended left None = bad
after_score_if question ended left (Some ending) =
    go true (scores_due question (ended ++ Some ending ∷ []) left ∷ [])

-- what is due after lots, if the line has such
abbrev pub after_lots_if : Basis → Question → List (Option Score) → Option (List ℕ) → Next Expected
after_lots_if basis question ended None = bad
after_lots_if basis question ended (Some drawn) =
    go (holds_at basis.sheet question (finish_with basis.season ended) drawn) []

-- the lots that a line gives, if it gives some of so many clubs
abbrev pub lots_of_token : ℕ → Token → Option (List ℕ)
lots_of_token clubs Blank = None
lots_of_token clubs (Row fields) = None
lots_of_token clubs (Proof (line.Lots told)) = lots_if_drawn (are_lots clubs told.list) told.list
lots_of_token clubs (Proof _) = None
lots_of_token clubs (Near rival fresh) = None
lots_of_token clubs Unknown = None

-- a call that goes on over one fixture: the scores so far are longer by its score
abbrev pub GoesOverFixture : ReportView → ℕ → ℕ → List (Option Score) → List (Option Score)
    → Result ℕ CheckStopAt → Type 0
GoesOverFixture judged from fixture old new (Ok at) =
    (at ≤ length judged.tokens)
    × ((question : Question) (dues : List Expected) (unsettled : ℕ)
    → ending_from judged from (example_due question fixture old ∷ dues) unsettled
    ≡ ending_from judged at (example_due question (fixture + 1) new ∷ dues) unsettled)
GoesOverFixture judged from fixture old new (Err stop) =
    (question : Question) → HaltsAt judged from (example_due question fixture old) stop

-- ---- items

-- the reading stops so when all of this is due, whatever else is
abbrev pub AllHalt : ReportView → ℕ → List Expected → CheckStopAt → Type 0
AllHalt judged from wanted stop = AllHaltBy report_grammar judged from wanted stop

-- the position from which the rest is read, when all of this is shown; or why the reading stops
abbrev pub GoesAfter : ReportView → ℕ → List Expected → Result ℕ CheckStopAt → Type 0
GoesAfter judged from wanted result = GoesAfterBy report_grammar judged from wanted result

-- items are shown, with so many unsettled rows among them, or the reading stops
abbrev pub GoesOverAll : ReportView → ℕ → List Expected → Result PartRead CheckStopAt → Type 0
GoesOverAll judged from wanted result = GoesOverBy report_grammar judged from wanted result

-- one item is
abbrev pub GoesOverItem : ReportView → ℕ → ℕ → ℕ → Result PartRead CheckStopAt → Type 0
GoesOverItem judged from line club result =
    GoesOverAll judged from (verdict_row line club ∷ []) result

-- a season that has gone over one fixture: this fixture has a score, and the rest is as it was
pub record IsOver (fixture : ℕ) (old new : Results) : Type 0 where
  pub scores : length new.scores ≡ length old.scores
  pub deductions : new.deductions ≡ old.deductions

-- what is due is shown up to a position, with so many unsettled rows, and the rest is still due
abbrev pub Reaches : ReportView → ℕ → List Expected → ℕ → List Expected → ℕ → Type 0
Reaches judged from wanted at left unsettled =
    ReachesBy report_grammar judged from wanted at left unsettled

-- ---- the whole

-- the lines up to a position are the rows of an ask with what comes after each, some lines being
-- passed over, and each row is true of the season
abbrev pub SaysTruly : Basis → List NumberedLine → ℕ → ℕ → Type 0
SaysTruly basis lines from next =
    (taken : List Token) × (rest : List Token) × (drop from (tokens_of lines) ≡ taken ++ rest)
    × (next ≡ from + length taken)
    × AreTrueRows basis (part_of_ask basis.sheet) (counted_lines taken)

-- a call that checks the part of one ask: it is whole, with a row for each line and each club, and
-- tells the truth; or the reading stops at a line, whose number is returned
abbrev pub ChecksPart : Basis → List NumberedLine → ℕ → Result Accepted CheckStop → Type 0
ChecksPart basis lines from result =
    ChecksWhole (part_ending basis lines from) lines
    (length basis.sheet.lines * length basis.sheet.clubs) (SaysTruly basis lines from) result

-- a call that looks for lines after a report: there is none that counts; or the first that does is
-- returned
abbrev pub ChecksEnd : List NumberedLine → ℕ → Result (Unit {0}) CheckStop → Type 0
ChecksEnd lines from (Ok it) = counted_lines (drop from (tokens_of lines)) ≡ []
ChecksEnd lines from (Err (stop.BadLine number)) =
    (at : ℕ) × (from ≤ at) × (at < length lines) × (number ≡ line_number_at lines at)
    × (counted_lines (drop from (tokens_of lines)) ≡ counted_lines (drop at (tokens_of lines)))
    × ((token : Token) × (drop at (tokens_of lines) ≡ token ∷ drop (at + 1) (tokens_of lines))
    × IsTrue (counts token))
ChecksEnd lines from (Err (stop.NoProof number)) = ⊥
ChecksEnd lines from (Err stop.Short) = ⊥
ChecksEnd lines from (Err stop.OutOfMemory) = Unit {0}
