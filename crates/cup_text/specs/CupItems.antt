-- What an answer writes of a club of a cup: its name, in the row of its verdict, and after that row
-- lines: what refutes a side of it, or a joint finish, or a tree on which the budget was spent.
-- Clubs, fixtures and groups have the numbers of the cup.
use Rattle.std.specs.Prelude.{◌≡◌, ◌<◌, ℕ, ◌+◌, ℤ, Bool, true, false, not, ◌||◌, ◌==◌, IsTrue}
use Rattle.std.specs.Prelude.{List, [], ◌∷◌, ◌++◌, length, map, get_or, slice_get, Option, Some}
use Rattle.std.specs.Prelude.{None, if◌then◌else◌}
use Rattle.league_core.specs.declared.season.Score.{Score}
use Rattle.league_core.specs.declared.question.Claim.{Claim}
use Rattle.league_core.specs.declared.question.Claim.TheVariants.{Inside, Outside}
use Rattle.league_core.specs.game.Results.{Results}
use Rattle.league_core.specs.game.Sheets.{clubs_of}
use Rattle.league_core.specs.search.Splits.{is_proper}
use Rattle.cup_sheet.specs.declared.cup.Cup.{Cup}
use Rattle.cup_sheet.specs.declared.question.GroupKind.{GroupKind}
use Rattle.cup_sheet.specs.Cups.{clubs_of_groups}
use Rattle.cup_sheet.specs.CupLimits.{direct_places}
use Rattle.cup_sheet.specs.JointFinishes.{GroupState, number_in_cup, states_of}
use Rattle.cup_sheet.specs.GroupQuestions.{GroupQuestion, is_of_place, place_question}
use Rattle.cup_sheet.specs.GroupTrees.{GroupTree, IsGroupRefutation, ZonesMeet}
use Rattle.cup_sheet.specs.KeyBounds.{IsTurningKey, place_kind, nearer_kind, others_kind}
use Rattle.cup_sheet.specs.CupAnswers.{AreRising, IsClubOf, IsCupExample, IsCupSpent}
use Rattle.cup_sheet.specs.CupAnswers.{listed_groups}
use Rattle.cup_groups.specs.GroupStarts.{start_of_group}
use Rattle.cup_text.specs.declared.cup_line.CupKey.{CupKey}
use Rattle.cup_text.specs.declared.cup_line.CupLine.{CupLine}
use Rattle.cup_text.specs.declared.cup_line.CupLine.TheVariants as line
use Rattle.cup_text.specs.GroupNodeLines.{lines_of_group_tree}

-- the name of a club, by its number in the cup from 0
abbrev pub cup_club_name : Cup → ℕ → List ℕ
cup_club_name cup club = get_or (map (λ it. it.name) (clubs_of_groups cup.groups)) club []

-- lines one after another, some for each of these things, in their order
abbrev pub AreLinesOf : {A : Type 0} → (A → List CupLine → Type 0) → List A → List CupLine → Type 0
AreLinesOf IsPart [] lines = lines ≡ []
AreLinesOf IsPart (x ∷ xs) lines =
    (front : List CupLine) × (back : List CupLine) × IsPart x front × AreLinesOf IsPart xs back
    × (lines ≡ front ++ back)

-- ---- a side is refuted

-- each branch is by a test that is proper in its zone, and so one of the group
abbrev pub AreSplitsProper : GroupState → GroupQuestion → GroupTree → Type 0
AreSplitsProper group question tree =
    ZonesMeet (λ zone reason fresh. Unit {0})
    (λ zone test fresh. IsTrue (is_proper group.sheet group.results
    (place_question direct_places question.kind question.club) zone test)) [] tree

-- the refutation of a question about a group, by the group's number, under its head
abbrev pub IsGroupTreeText : Cup → List Results → ℕ → GroupQuestion → List CupLine → Type 0
IsGroupTreeText cup seasons number question lines =
    (group : GroupState) × (slice_get (states_of cup seasons) number ≡ Some group)
    × (tree : GroupTree)
    × IsGroupRefutation direct_places group.sheet group.results question tree
    × AreSplitsProper group question tree
    × (lines ≡ line.Tree question.kind ((start_of_group cup.groups number).club + question.club)
    ∷ lines_of_group_tree false (start_of_group cup.groups number) tree)

-- a refutation for each club of another group, in their order: none can be the candidate on the far
-- side of the key
abbrev pub IsListedText : Cup → List Results → Claim → GroupState → List ℤ → ℕ → List CupLine
    → Type 0
IsListedText cup seasons claim mine key number lines =
    (group : GroupState) × (slice_get (states_of cup seasons) number ≡ Some group)
    × IsTrue (not (group.block.first == mine.block.first))
    × AreLinesOf
    (λ club. IsGroupTreeText cup seasons number
    (record { kind = others_kind claim; club = club; key = key }))
    (clubs_of group.sheet) lines

-- a key, a list of other groups in rising order, and refutations: of what is asked of the club's
-- place, of a nearer key, and of all clubs of the listed groups
pub record IsRefutedText (cup : Cup) (seasons : List Results) (claim : Claim) (club : ℕ)
    (key : List ℤ) (lines : List CupLine) : Type 0 where
  pub number : ℕ
  pub mine : GroupState
  pub own : ℕ
  pub there : slice_get (states_of cup seasons) number ≡ Some mine
  pub own_club : own < length mine.sheet.clubs
  pub of_club : club ≡ number_in_cup mine.block own
  pub listed : List ℕ
  pub count : length listed ≡ listed_groups cup claim
  pub rising : AreRising 0 listed
  pub by_place : List CupLine
  pub place_tree : IsGroupTreeText cup seasons number
      (record { kind = place_kind claim; club = own; key = [] }) by_place
  pub by_key : List CupLine
  pub key_tree : IsGroupTreeText cup seasons number
      (record { kind = nearer_kind claim; club = own; key = key }) by_key
  pub others : List CupLine
  pub each : AreLinesOf (IsListedText cup seasons claim mine key) listed others
  pub text : lines ≡ line.KeyLine (record { parts = key })
      ∷ (line.Groups (record { list = listed }) ∷ (by_place ++ (by_key ++ others)))

-- the key is the one on which the side turns for the club
abbrev pub IsTurningKeyOf : Cup → List Results → Claim → ℕ → List ℤ → Type 0
IsTurningKeyOf cup seasons claim club key =
    (mine : GroupState) × (own : ℕ) × IsClubOf cup seasons club mine own
    × IsTurningKey direct_places mine.sheet mine.results claim own key

-- the same with that key
abbrev pub IsRefutedAtTurn : Cup → List Results → Claim → ℕ → List CupLine → Type 0
IsRefutedAtTurn cup seasons claim club lines =
    (key : List ℤ) × IsTurningKeyOf cup seasons claim club key
    × IsRefutedText cup seasons claim club key lines

-- ---- a side is shown

-- the line of a fixture: none if the season has its score already
abbrev pub cup_score_if : ℕ → Option Score → Option Score → List CupLine
cup_score_if fixture (Some played) ended = []
cup_score_if fixture None None = []
cup_score_if fixture None (Some ended) = line.Score fixture ended ∷ []

-- the lines of a group's fixtures, the first having this number in the cup
abbrev pub group_scores_from : ℕ → List (Option Score) → List (Option Score) → List CupLine
group_scores_from fixture [] finish = []
group_scores_from fixture (played ∷ season) [] = []
group_scores_from fixture (played ∷ season) (ended ∷ finish) =
    cup_score_if fixture played ended ++ group_scores_from (fixture + 1) season finish

-- the lines of all groups from one on, whose first fixture has this number
abbrev pub joint_scores_from : ℕ → List Results → List Results → List CupLine
joint_scores_from fixture [] finishes = []
joint_scores_from fixture (season ∷ seasons) [] = []
joint_scores_from fixture (season ∷ seasons) (finish ∷ finishes) =
    group_scores_from fixture season.scores finish.scores
    ++ joint_scores_from (fixture + length season.scores) seasons finishes

-- a joint finish under the head of its side: the scores of the fixtures of all groups that have
-- none yet, and then the lots
abbrev pub joint_lines : Claim → List Results → List Results → List ℕ → List CupLine
joint_lines claim seasons finishes lots =
    line.Finish claim
    ∷ (joint_scores_from 0 seasons finishes ++ line.Lots (record { list = lots }) ∷ [])

-- a joint finish that shows the side
abbrev pub IsShownText : Cup → List Results → Claim → ℕ → List CupLine → Type 0
IsShownText cup seasons claim club lines =
    (finishes : List Results) × (lots : List ℕ)
    × IsCupExample cup seasons claim club finishes lots
    × (lines ≡ joint_lines claim seasons finishes lots)

-- ---- a side is not settled

-- the key of a question, if its kind has one
abbrev pub key_of_question : GroupKind → List ℤ → Option CupKey
key_of_question kind key = if is_of_place kind then None else Some (record { parts = key })

-- a tree on which the budget was spent, under its head: the question is on the way to the side, and
-- each split and each refuted leaf is new
abbrev pub IsSpentText : Cup → List Results → Claim → ℕ → List CupLine → Type 0
IsSpentText cup seasons claim club lines =
    (number : ℕ) × (group : GroupState) × (slice_get (states_of cup seasons) number ≡ Some group)
    × (question : GroupQuestion) × (tree : GroupTree)
    × IsCupSpent cup seasons claim club group question tree
    × (lines ≡ line.Spent question.kind
    ((start_of_group cup.groups number).club + question.club)
    (key_of_question question.kind question.key)
    ∷ lines_of_group_tree true (start_of_group cup.groups number) tree)

-- what stands for a side: if the budget was spent a tree, otherwise a joint finish
abbrev pub IsCupPartText : Cup → List Results → Claim → ℕ → Bool → List CupLine → Type 0
IsCupPartText cup seasons claim club true lines = IsSpentText cup seasons claim club lines
IsCupPartText cup seasons claim club false lines = IsShownText cup seasons claim club lines

-- the part of qualifying and then that of missing, each spent or not
abbrev pub AreCupParts : Cup → List Results → ℕ → Bool → Bool → List CupLine → Type 0
AreCupParts cup seasons club is_inside_spent is_outside_spent lines =
    (front : List CupLine) × (back : List CupLine)
    × IsCupPartText cup seasons Inside club is_inside_spent front
    × IsCupPartText cup seasons Outside club is_outside_spent back
    × (lines ≡ front ++ back)

-- joint finishes of both sides
abbrev pub ArePossibleLines : Cup → List Results → ℕ → List CupLine → Type 0
ArePossibleLines cup seasons club lines = AreCupParts cup seasons club false false lines

-- both parts, of which at least one is a tree
abbrev pub AreUnsettledLines : Cup → List Results → ℕ → List CupLine → Type 0
AreUnsettledLines cup seasons club lines =
    (is_inside_spent : Bool) × (is_outside_spent : Bool)
    × IsTrue (is_inside_spent || is_outside_spent)
    × AreCupParts cup seasons club is_inside_spent is_outside_spent lines
