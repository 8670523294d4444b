-- What a choice is: a split that is proper and due; and which tests split what a cell has left.
use Rattle.std.specs.Prelude.{◌≡◌, ℕ, ◌<◌, Bool, true, false, IsTrue, List, length}
use Rattle.std.specs.Prelude.{slice_index_or, []}
use Rattle.league_core.specs.declared.season.Score.{Score}
use Rattle.league_core.specs.declared.question.Question.{Question}
use Rattle.league_core.specs.declared.zone.Test.{Test}
use Rattle.league_core.specs.declared.zone.Test.TheVariants.{Home, Draw, HomeMost, AwayMost, Rival}
use Rattle.league_core.specs.search.Options.{options_in, has_one_outcome}
use Rattle.league_core.specs.search.Splits.{is_proper, is_due}
use Rattle.score_box.specs.inside.ZoneBoxViews.{ZoneBoxView}

-- the split is proper in the box's zone, and due
pub record IsDueSplit (setting : ZoneBoxView) (question : Question) (test : Test) : Type 0 where
  pub proper : IsTrue (is_proper setting.sheet setting.season question setting.zone test)
  pub due : IsTrue (is_due setting.sheet setting.season question setting.zone test)

-- the options of a fixture in the box's zone
abbrev pub options_at_fixture : ZoneBoxView → ℕ → List Score
options_at_fixture setting fixture =
    slice_index_or (options_in setting.sheet setting.season setting.zone) fixture []

-- of some scores one passes the test, and one does not
pub record IsDivided (has : Score → Bool) (test : Score → Bool) : Type 0 where
  pub one : Score
  pub has_one : has one ≡ true
  pub passed : test one ≡ true
  pub other : Score
  pub has_other : has other ≡ true
  pub failed : test other ≡ false

-- the test asks for an outcome
abbrev pub asks_outcome : Test → Bool
asks_outcome (Home fixture) = true
asks_outcome (Draw fixture) = true
asks_outcome (HomeMost fixture most) = false
asks_outcome (AwayMost fixture most) = false
asks_outcome (Rival club) = false

-- the test asks for goals
abbrev pub asks_goals : Test → Bool
asks_goals (Home fixture) = false
asks_goals (Draw fixture) = false
asks_goals (HomeMost fixture most) = true
asks_goals (AwayMost fixture most) = true
asks_goals (Rival club) = false

-- a proper split by the outcome of a fixture that has several left
pub record IsOutcomeSplit (setting : ZoneBoxView) (question : Question) (test : Test) : Type 0 where
  pub outcome : asks_outcome test ≡ true
  pub proper : IsTrue (is_proper setting.sheet setting.season question setting.zone test)
  pub fixture : ℕ
  pub in_range : fixture < length setting.season.scores
  pub several : has_one_outcome (options_at_fixture setting fixture) ≡ false

-- a proper split by the goals of a fixture
pub record IsGoalSplit (setting : ZoneBoxView) (question : Question) (test : Test) : Type 0 where
  pub goals : asks_goals test ≡ true
  pub proper : IsTrue (is_proper setting.sheet setting.season question setting.zone test)
