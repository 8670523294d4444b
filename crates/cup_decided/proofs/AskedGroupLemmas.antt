-- A question about a group of the cup holds at some end of the group, or lines refute it. So with
-- each other group: some club of it can be its candidate on the far side of a key, or lines refute
-- that of all.
use Rattle.std.proofs.Common.{◌≡◌, ◌⊎◌, ◌<◌, ℕ, ◌+◌, ℤ, true, false, not, ◌==◌, List, ◌∷◌, length}
use Rattle.std.proofs.Common.{Some, refl, inl, inr, arith}
use Rattle.std.specs.Prelude.{slice_get}
use Rattle.std.proofs.lemmas.Option.{slice_get-get_or}
use Rattle.league_core.specs.declared.question.Claim.{Claim}
use Rattle.league_core.specs.declared.question.Claim.TheVariants.{Inside, Outside}
use Rattle.league_core.specs.game.Results.{Results}
use Rattle.league_core.specs.game.Sheets.{clubs_of}
use Rattle.cup_sheet.specs.declared.cup.Cup.{Cup}
use Rattle.cup_sheet.specs.Cups.{IsCup, AreSeasonsOf}
use Rattle.cup_sheet.specs.CupAnswers.{listed_groups, shown_groups}
use Rattle.cup_sheet.specs.GroupQuestions.{GroupQuestion}
use Rattle.cup_sheet.specs.JointFinishes.{GroupState, states_of}
use Rattle.cup_sheet.specs.KeyBounds.{others_kind}
use Rattle.cup_groups.specs.GroupStarts.{start_of_group}
use Rattle.cup_laws.specs.inside.CupTruths.{AreCupResults}
use Rattle.cup_laws.specs.inside.GroupWays.{CanEndInGroup, CanHaveCandidate}
use Rattle.cup_text.specs.declared.cup_line.CupLine.{CupLine}
use Rattle.cup_text.specs.declared.cup_line.CupLine.TheVariants as line
use Rattle.cup_text.specs.GroupNodeLines.{lines_of_group_tree}
use Rattle.cup_text.specs.CupItems.{IsGroupTreeText, IsListedText}
use Rattle.cup_decided.proofs.GroupDecidedLemmas.{group_question_decided}
use Rattle.cup_decided.proofs.EitherKindLemmas.{HasRising, either_but_one, one_or_all, all_of_range}
use Rattle.cup_decided.proofs.EitherKindLemmas.{lines_of_all}
use Rattle.cup_decided.proofs.CupGroupLemmas.{IsPlayed, played_at, starts_are_apart}
use Rattle.cup_decided.proofs.CupGroupLemmas.{count_of_states}

-- as many as are to be shown and as many as are to be listed are as many as there are groups
shown_and_listed : (cup : Cup) (claim : Claim) → IsCup cup
    → shown_groups cup claim + listed_groups cup claim ≡ length cup.groups
shown_and_listed cup Outside is_cup = omega (arith, is_cup.most_quota)
shown_and_listed cup Inside is_cup = omega (arith, is_cup.most_quota)

module _ (cup : Cup) (seasons : List Results) (is_cup : IsCup cup)
    (each : AreSeasonsOf cup.groups seasons) (results : AreCupResults seasons) where
  -- the group of a number is there
  abbrev pub IsGroupThere : ℕ → GroupState → Type 0
  IsGroupThere number group = slice_get (states_of cup seasons) number ≡ Some group

  -- lines refute the question
  abbrev pub HasTreeText : ℕ → GroupQuestion → Type 0
  HasTreeText number question =
      (lines : List CupLine) × IsGroupTreeText cup seasons number question lines

  pub group_played : (number : ℕ) (group : GroupState) → IsGroupThere number group → IsPlayed group
  group_played number group there =
      played_at is_cup.groups.0 is_cup.groups.1 0 cup.groups seasons number group is_cup.groups.2
      each results there

  -- one question
  pub asked_in_cup : (number : ℕ) (group : GroupState) (question : GroupQuestion)
      → IsGroupThere number group → question.club < length group.sheet.clubs
      → CanEndInGroup group question ⊎ HasTreeText number question
  asked_in_cup number group question there club_in =
      let start = start_of_group cup.groups number in
      elim (group_question_decided group.sheet group.results question
      (group_played number group there).league.of_sheet club_in)
      as (λ _. CanEndInGroup group question ⊎ HasTreeText number question) [
        | inl found ↦ inl found
        | inr tree ↦ inr (
          line.Tree question.kind (start.club + question.club)
              ∷ lines_of_group_tree false start tree.0,
          (group, there, tree.0, tree.1, tree.2, refl),
        )
      ]

  module _ (claim : Claim) (key : List ℤ) (mine_number : ℕ) (mine : GroupState)
      (mine_there : IsGroupThere mine_number mine) where
    -- lines refute what is asked of another group
    abbrev pub HasListedText : ℕ → Type 0
    HasListedText number =
        (lines : List CupLine) × IsListedText cup seasons claim mine key number lines

    abbrev asked_of_other : ℕ → GroupQuestion
    asked_of_other other = record { kind = others_kind claim; club = other; key = key }

    -- one of its clubs can be the candidate, or none can
    other_decided : (number : ℕ) (group : GroupState) → IsGroupThere number group
        → not (group.block.first == mine.block.first) ≡ true
        → CanHaveCandidate cup seasons (others_kind claim) mine key number
        ⊎ HasListedText number
    other_decided number group there differ =
        let clubs = length group.sheet.clubs in
        elim (one_or_all (λ other. CanEndInGroup group (asked_of_other other))
        (λ other. HasTreeText number (asked_of_other other)) clubs
        (λ other within. asked_in_cup number group (asked_of_other other) there within))
        as (λ _. CanHaveCandidate cup seasons (others_kind claim) mine key number
        ⊎ HasListedText number) [
          | inl found ↦ inl (group, there, differ, found.0, found.1, found.2)
          | inr none ↦
              let lines = lines_of_all
              (λ other. IsGroupTreeText cup seasons number (asked_of_other other))
              (clubs_of group.sheet)
              (all_of_range (λ other. HasTreeText number (asked_of_other other)) clubs none) in
              inr (lines.0, (group, there, differ, lines.1))
        ]

    -- so enough groups can have a candidate there, or as many as are listed cannot
    pub far_groups_decided :
        HasRising (CanHaveCandidate cup seasons (others_kind claim) mine key) 0
        (shown_groups cup claim) ⊎ HasRising HasListedText 0 (listed_groups cup claim)
    far_groups_decided =
        let states = states_of cup seasons in
        let count = count_of_states 0 cup.groups seasons each in
        either_but_one (CanHaveCandidate cup seasons (others_kind claim) mine key) HasListedText
        (length states) (shown_groups cup claim) (listed_groups cup claim) 0 mine_number
        (omega (arith, count, shown_and_listed cup claim is_cup))
        (λ number low high different.
        let there = slice_get-get_or states number mine (omega (arith, high)) in
        other_decided number _ there
        (starts_are_apart is_cup.groups.0 is_cup.groups.1 0 cup.groups seasons number mine_number
        _ mine is_cup.groups.2 there mine_there different))
