-- Clubs of another group that are asked one after another.
use Rattle.std.proofs.Common.{◌≡◌, ◌<◌, ℕ, ◌+◌, ℤ, List, [], ◌∷◌, length, Some, None}
use Rattle.std.proofs.Common.{refl, sym, ap, ◌∙◌, subst, inl, inr, Vec, Global}
use Rattle.std.specs.Prelude.{slice_get, Option}
use Rattle.std.proofs.lemmas.List.{length-append}
use Rattle.std.proofs.lemmas.Option.{none-some, same_Some}
use Rattle.league_core.specs.declared.sheet.Sheet.{Sheet}
use Rattle.league_core.specs.declared.question.Claim.{Claim}
use Rattle.league_core.specs.game.Results.{Results}
use Rattle.league_core.proofs.plain.Slots.{at_pushed}
use Rattle.tree_arena.specs.declared.example.Example.{Example}
use Rattle.depth_search.specs.declared.kind.SearchEnd.{SearchEnd}
use Rattle.depth_search.specs.declared.kind.SearchEnd.TheVariants as ends
use Rattle.cup_sheet.specs.declared.question.GroupReason.{GroupReason}
use Rattle.cup_sheet.specs.GroupQuestions.{GroupQuestion}
use Rattle.cup_groups.specs.declared.question.KindQuestion.{KindQuestion}
use Rattle.cup_groups.specs.inside.KindQuestions.{group_question_of}
use Rattle.group_search.specs.inside.GroupTasks.{IsGroupRefutedBy, IsGroupSpentOn, IsGroupSolved}
use Rattle.runners_up.specs.declared.others.SpentQuestion.{SpentQuestion}
use Rattle.runners_up.specs.inside.GroupsAsked.{other_question}
use Rattle.runners_up.specs.inside.GroupsAsked.{IsAskedUpTo, IsClubNoted, asked_together}
use Rattle.runners_up.specs.inside.GroupsAsked.{IsGroupAsked, GroupNodes}
use Rattle.runners_up.specs.inside.JointEnds.{IsGroupEnd, HasFarCandidate}

-- no club at first
pub none_asked : (sheet : Sheet) (season : Results) (claim : Claim) (key : List ℤ)
    (trees : List GroupNodes) → trees ≡ []
    → IsAskedUpTo sheet season claim key 0 trees None
none_asked sheet season claim key trees none = (
  ap length none,
  λ club nodes there. absurd (none-some nodes (ap (λ it. slice_get it club) (sym none) ∙ there)),
)

-- a club that is found is one of the group, and it is the candidate
pub club_found : (sheet : Sheet) (season : Results) (claim : Claim) (key : List ℤ) (club : ℕ)
    (question : KindQuestion) (end : SearchEnd Example GroupReason)
    (old new : List GroupNodes) (old_spent new_spent : Option SpentQuestion)
    (example : Example) → club < length sheet.clubs
    → group_question_of question ≡ other_question claim key club
    → IsGroupSolved sheet season (group_question_of question) sheet.budget end
    → IsClubNoted question end old old_spent new new_spent (Some example)
    → IsGroupEnd sheet season example × HasFarCandidate claim key sheet example
club_found sheet season claim key club question (ends.Won won) old new old_spent new_spent example
    inside asked solved noted =
    let is = subst (λ (it : GroupQuestion). IsGroupSolved sheet season it sheet.budget
    (ends.Won won)) asked solved in
    let same = same_Some example won noted in
    subst (λ (it : Example). IsGroupEnd sheet season it × HasFarCandidate claim key sheet it)
    (sym same) (
      record { is_finish = is.is_finish; is_drawn = is.is_drawn },
      (club, inside, is.holds),
    )
club_found sheet season claim key club question (ends.Refuted nodes) old new old_spent new_spent
    example inside asked solved noted =
    absurd (none-some example (sym noted.0))
club_found sheet season claim key club question (ends.Spent nodes) old new old_spent new_spent
    example inside asked solved noted =
    absurd (none-some example (sym noted.0))

-- one club more of which none is found
pub club_noted : (sheet : Sheet) (season : Results) (claim : Claim) (key : List ℤ) (club : ℕ)
    (question : KindQuestion) (end : SearchEnd Example GroupReason)
    (old new : List GroupNodes) (old_spent new_spent : Option SpentQuestion)
    → club < length sheet.clubs
    → group_question_of question ≡ other_question claim key club
    → IsGroupSolved sheet season (group_question_of question) sheet.budget end
    → IsAskedUpTo sheet season claim key club old old_spent
    → IsClubNoted question end old old_spent new new_spent None
    → IsAskedUpTo sheet season claim key (club + 1) new new_spent
club_noted sheet season claim key club question (ends.Won won) old new old_spent new_spent inside
    asked solved before noted =
    absurd (none-some won noted)
club_noted sheet season claim key club question (ends.Refuted nodes) old new None new_spent inside
    asked solved before noted =
    let is = subst (λ (it : GroupQuestion). IsGroupRefutedBy sheet season it sheet.budget
    nodes.items) asked solved in
    subst (IsAskedUpTo sheet season claim key (club + 1) new) (sym noted.2) (
      ap length noted.1 ∙ length-append old (nodes ∷ []) ∙ ap (λ (n : ℕ). n + 1) before.0,
      λ one own there.
          let P : ℕ → GroupNodes → Type 0 = λ n it. IsGroupRefutedBy sheet season
          (other_question claim key n) sheet.budget it.items in
          elim (at_pushed old nodes one own (ap (λ it. slice_get it one) (sym noted.1) ∙ there)) as
          (λ _. P one own) [
            | inl earlier ↦ before.1 one own earlier
            | inr last ↦ subst (λ (it : GroupNodes). IsGroupRefutedBy sheet season
                (other_question claim key one) sheet.budget it.items) last.1
                (subst (λ (n : ℕ). IsGroupRefutedBy sheet season (other_question claim key n)
                sheet.budget nodes.items) (sym (last.0 ∙ before.0)) is)
          ],
    )
club_noted sheet season claim key club question (ends.Refuted nodes) old new (Some spent) new_spent
    inside asked solved before noted =
    subst (IsAskedUpTo sheet season claim key (club + 1) new) (sym noted.2) before
club_noted sheet season claim key club question (ends.Spent nodes) old new old_spent new_spent
    inside asked solved before noted =
    let is = subst (λ (it : GroupQuestion). IsGroupSpentOn sheet season it sheet.budget nodes.items)
    asked solved in
    subst (IsAskedUpTo sheet season claim key (club + 1) new) (sym noted.1)
    (record { club = club; inside = inside; question = asked; tree = is })

-- all clubs together
pub all_asked : (sheet : Sheet) (season : Results) (claim : Claim) (key : List ℤ) (count : ℕ)
    (trees : Vec GroupNodes Global) (spent : Option SpentQuestion)
    → count ≡ length sheet.clubs → IsAskedUpTo sheet season claim key count trees.items spent
    → IsGroupAsked sheet season claim key (asked_together trees spent)
all_asked sheet season claim key count trees None all asked = (asked.0 ∙ all, asked.1)
all_asked sheet season claim key count trees (Some spent) all asked = asked

-- what is no example is none
pub no_example : (found : Option Example) → ((example : Example) → found ≡ Some example → ⊥)
    → found ≡ None
no_example None none = refl
no_example (Some example) none = absurd (none example refl)
