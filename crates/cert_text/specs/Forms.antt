-- Which proof line a text has the form of. A text is read as JSON, with the spaces that JSON
-- allows; what it then is decides, form by form. The forms are those of the lines' own texts. How
-- many fixtures and clubs a form may name is an argument; the lines are those of a league.
use Rattle.std.specs.Prelude.{ℕ, List, Option, Some, None, option_map, option_and_then}
use Rattle.std.specs.Prelude.{if◌then◌else◌, codes}
use Rattle.std.specs.Str.{bytes_eq, is_utf8}
use Rattle.serde_json.specs.Data.{Data}
use Rattle.serde_json.specs.Read.{read}
use Rattle.league_core.specs.declared.club_set.ClubSet.{ClubSet}
use Rattle.league_core.specs.declared.zone.Test.{Test}
use Rattle.league_core.specs.declared.zone.Test.TheVariants.{Home, Draw, HomeMost, AwayMost, Rival}
use Rattle.league_core.specs.declared.zone.Reason.{Reason}
use Rattle.league_core.specs.declared.zone.Reason.TheVariants.{Count, Window, Low, High, Tie}
use Rattle.league_core.specs.game.Limits.{most_clubs, most_fixtures, most_goals}
use Rattle.cert_text.specs.declared.proof_line.ProofLine.{ProofLine}
use Rattle.cert_text.specs.declared.proof_line.ProofLine.TheVariants as line
use Rattle.cert_text.specs.Ranges.{most_goal_bound}
use Rattle.cert_text.specs.Places.{is_end_at, word_at, integer_at, numbered_at, points_at}
use Rattle.cert_text.specs.Places.{claim_at, clubs_at, set_at}

-- if the array ends at the place, what it is; otherwise it has no such form
abbrev pub if_ends_at : {A : Type 0} → ℕ → Data → Option A → Option A
if_ends_at place shown found = if is_end_at place shown then found else None

-- the home side wins
abbrev pub home_test_in : ℕ → Data → Option Test
home_test_in fixtures shown =
    if_ends_at 3 shown (option_map (λ fixture. Home fixture) (numbered_at fixtures 2 shown))

-- the match is drawn
abbrev pub draw_test_in : ℕ → Data → Option Test
draw_test_in fixtures shown =
    if_ends_at 3 shown (option_map (λ fixture. Draw fixture) (numbered_at fixtures 2 shown))

-- a fixture and a bound on goals
abbrev pub bounded_test_in : ℕ → (ℕ → ℕ → Test) → Data → Option Test
bounded_test_in fixtures test shown =
    if_ends_at 4 shown
    (option_and_then
    (λ fixture. option_map (test fixture) (integer_at 3 0 most_goal_bound shown))
    (numbered_at fixtures 2 shown))

-- the home side scores at most so many goals
abbrev pub home_most_test_in : ℕ → Data → Option Test
home_most_test_in fixtures shown =
    bounded_test_in fixtures (λ fixture most. HomeMost fixture most) shown

-- the away side scores at most so many goals
abbrev pub away_most_test_in : ℕ → Data → Option Test
away_most_test_in fixtures shown =
    bounded_test_in fixtures (λ fixture most. AwayMost fixture most) shown

-- a rival ranks before the club
abbrev pub rival_test_in : ℕ → Data → Option Test
rival_test_in clubs shown =
    if_ends_at 3 shown (option_map (λ club. Rival club) (numbered_at clubs 2 shown))

-- the test of this name, of one of so many fixtures or clubs, with its numbers from the third place
-- on
abbrev pub test_named : ℕ → ℕ → List ℕ → Data → Option Test
test_named fixtures clubs name shown =
    if bytes_eq name (codes "home") then home_test_in fixtures shown
    else if bytes_eq name (codes "draw") then draw_test_in fixtures shown
    else if bytes_eq name (codes "hg") then home_most_test_in fixtures shown
    else if bytes_eq name (codes "ag") then away_most_test_in fixtures shown
    else if bytes_eq name (codes "rival") then rival_test_in clubs shown
    else None

-- the test of a line that has one
abbrev pub test_below_in : ℕ → ℕ → Data → Option Test
test_below_in fixtures clubs shown =
    option_and_then (λ name. test_named fixtures clubs name shown) (word_at 1 shown)

-- of a league
abbrev pub test_in : Data → Option Test
test_in shown = test_below_in most_fixtures most_clubs shown

-- the set of a cut, in the third place
abbrev pub cut_set_in : Data → Option ClubSet
cut_set_in shown = if_ends_at 3 shown (set_at 2 shown)

-- a reason that is one word
abbrev pub bare_reason_named : List ℕ → Data → Option Reason
bare_reason_named name shown =
    if_ends_at 2 shown
    (if bytes_eq name (codes "count") then Some Count
    else if bytes_eq name (codes "window") then Some Window
    else if bytes_eq name (codes "tie") then Some Tie
    else None)

-- the reason of this name
abbrev pub reason_named : List ℕ → Data → Option Reason
reason_named name shown =
    if bytes_eq name (codes "low") then option_map (λ set. Low set) (cut_set_in shown)
    else if bytes_eq name (codes "high") then option_map (λ set. High set) (cut_set_in shown)
    else bare_reason_named name shown

-- the reason of a line that has one
abbrev pub reason_in : Data → Option Reason
reason_in shown = option_and_then (λ name. reason_named name shown) (word_at 1 shown)

-- the head of a refutation
abbrev pub tree_head_in : Data → Option ProofLine
tree_head_in shown = if_ends_at 2 shown (option_map (λ claim. line.Tree claim) (claim_at 1 shown))

-- the head of a tree on which a budget was spent, with its window
abbrev pub window_head_in : Data → Option ProofLine
window_head_in shown =
    if_ends_at 4 shown
    (option_and_then (λ claim. option_and_then
    (λ low. option_map (λ high. line.SpentWindow claim low high) (points_at 3 shown))
    (points_at 2 shown)) (claim_at 1 shown))

-- such a head, with a window or without
abbrev pub spent_head_in : Data → Option ProofLine
spent_head_in shown =
    if is_end_at 2 shown then option_map (λ claim. line.Spent claim) (claim_at 1 shown)
    else window_head_in shown

-- the head of an example
abbrev pub finish_head_in : Data → Option ProofLine
finish_head_in shown =
    if_ends_at 2 shown (option_map (λ claim. line.Finish claim) (claim_at 1 shown))

-- a fixture's score
abbrev pub score_line_in : Data → Option ProofLine
score_line_in shown =
    if_ends_at 4 shown
    (option_and_then (λ fixture. option_and_then
    (λ home. option_map
    (λ away. line.Score fixture (record { home = home; away = away }))
    (integer_at 3 0 most_goals shown))
    (integer_at 2 0 most_goals shown)) (numbered_at most_fixtures 1 shown))

-- the lots, which need not name each club
abbrev pub lots_line_in : Data → Option ProofLine
lots_line_in shown =
    if_ends_at 2 shown
    (option_map (λ clubs. line.Lots (record { list = clubs })) (clubs_at most_clubs 1 shown))

-- a node of a tree, by the first word of its line
abbrev pub node_line_named : List ℕ → Data → Option ProofLine
node_line_named name shown =
    if bytes_eq name (codes "split") then option_map (λ test. line.Split test) (test_in shown)
    else if bytes_eq name (codes "new_split")
    then option_map (λ test. line.NewSplit test) (test_in shown)
    else if bytes_eq name (codes "leaf")
    then option_map (λ reason. line.Leaf reason) (reason_in shown)
    else if bytes_eq name (codes "new_leaf")
    then option_map (λ reason. line.NewLeaf reason) (reason_in shown)
    else if bytes_eq name (codes "open") then if_ends_at 1 shown (Some line.OpenLeaf)
    else None

-- a line by its first word
abbrev pub line_named : List ℕ → Data → Option ProofLine
line_named name shown =
    if bytes_eq name (codes "tree") then tree_head_in shown
    else if bytes_eq name (codes "spent") then spent_head_in shown
    else if bytes_eq name (codes "finish") then finish_head_in shown
    else if bytes_eq name (codes "score") then score_line_in shown
    else if bytes_eq name (codes "lots") then lots_line_in shown
    else node_line_named name shown

-- the line that a JSON value has the form of
abbrev pub line_of_value : Data → Option ProofLine
line_of_value shown = option_and_then (λ name. line_named name shown) (word_at 0 shown)

-- what a text is as JSON: nothing if it is not UTF-8, or no JSON
abbrev pub json_of : List ℕ → Option Data
json_of text = if is_utf8 text then read text else None

-- the line that a text has the form of: the text is UTF-8 and reads as JSON of that form
abbrev pub line_in : List ℕ → Option ProofLine
line_in text = option_and_then line_of_value (json_of text)
