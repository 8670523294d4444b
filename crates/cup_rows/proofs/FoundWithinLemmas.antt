-- What is found of a club of a cup has numbers that a cup can have.
use Rattle.std.proofs.Common.{◌≡◌, ◌<◌, ℕ, zero, suc, ℤ, List, [], ◌∷◌, length, take, Some}
use Rattle.std.proofs.Common.{slice_get, refl, sym, ap, ◌∙◌, subst, inl, inr, arith}
use Rattle.std.specs.Prelude.{All}
use Rattle.std.proofs.lemmas.Option.{same_Some}
use Rattle.league_core.specs.declared.sheet.Sheet.{Sheet}
use Rattle.league_core.specs.declared.question.Claim.{Claim}
use Rattle.league_core.specs.game.Results.{Results}
use Rattle.club_keys.specs.inside.KeyEnds.{key_parts}
use Rattle.depth_search.specs.declared.kind.CaseNode.{CaseNode}
use Rattle.cup_sheet.specs.declared.cup.Cup.{Cup}
use Rattle.cup_sheet.specs.declared.question.GroupReason.{GroupReason}
use Rattle.cup_sheet.specs.Cups.{IsCup, AreSeasonsOf}
use Rattle.cup_sheet.specs.CupAnswers.{listed_groups}
use Rattle.cup_sheet.specs.CupLimits.{direct_places}
use Rattle.cup_sheet.specs.GroupQuestions.{GroupQuestion}
use Rattle.cup_sheet.specs.JointFinishes.{GroupState}
use Rattle.cup_sheet.specs.KeyBounds.{IsAskedOnTheWay, IsAskedOfClub}
use Rattle.cup_groups.specs.declared.seat.ClubSeat.{ClubSeat}
use Rattle.cup_groups.specs.inside.ClubSeats.{IsSeatOf}
use Rattle.cup_groups.specs.inside.KindQuestions.{group_question_of}
use Rattle.cup_groups.specs.GroupStarts.{start_of_group}
use Rattle.cup_laws.specs.inside.CupTruths.{AreCupResults}
use Rattle.group_search.specs.inside.GroupTasks.{IsGroupRefutedBy}
use Rattle.runners_up.specs.declared.finding.SideRefutation.{SideRefutation}
use Rattle.runners_up.specs.declared.finding.ClubFinding.{ClubFinding}
use Rattle.runners_up.specs.declared.finding.ClubFinding.TheVariants.{Clinched, Lost, Possible}
use Rattle.runners_up.specs.declared.finding.ClubFinding.TheVariants.{Unsettled}
use Rattle.runners_up.specs.declared.finding.OpenSide.{OpenSide}
use Rattle.runners_up.specs.declared.finding.OpenSide.TheVariants.{Shown, Spent}
use Rattle.runners_up.specs.declared.survey.EmptyGroup.{EmptyGroup}
use Rattle.runners_up.specs.declared.survey.OpenGroup.{OpenGroup}
use Rattle.runners_up.specs.inside.ClubFindings.{IsClubFinding, IsOpenSide, IsSideRefutedBy}
use Rattle.runners_up.specs.inside.ClubFindings.{IsSideSpentBy}
use Rattle.runners_up.specs.inside.GroupsAsked.{GroupNodes, other_question}
use Rattle.runners_up.specs.inside.GroupSurveys.{IsEmptyGroup}
use Rattle.cup_rows.specs.inside.GroupTreeLines.{IsNodeWithin}
use Rattle.cup_rows.specs.inside.VerdictLines.{IsListedWithin, IsRefutationWithin}
use Rattle.cup_rows.specs.inside.VerdictLines.{IsOpenGroupWithin, IsOpenSideWithin, IsVerdictWithin}
use Rattle.cup_rows.proofs.GroupOfCupLemmas.{IsGroupOfCup, group_of_cup, group_of_state}
use Rattle.cup_rows.proofs.SeatLemmas.{one_seat}
use Rattle.cup_rows.proofs.WithinLemmas.{nodes_within}

-- ---- lists

-- what holds of each of a list holds of each of the first so many
all_taken : {X : Type 0} (P : X → Type 0) (n : ℕ) (xs : List X) → All P xs → All P (take n xs)
all_taken P zero [] all k d inside = absurd (omega (arith, inside))
all_taken P zero (x ∷ xs) all k d inside = absurd (omega (arith, inside))
all_taken P (suc n) [] all k d inside = absurd (omega (arith, inside))
all_taken P (suc n) (x ∷ xs) all zero d inside = all 0 d (omega arith)
all_taken P (suc n) (x ∷ xs) all (suc k) d inside =
    all_taken P n xs (λ i e within. all (suc i) e (omega (arith, within))) k d
    (omega (arith, inside))

-- and of each element, if it does of what stands at each place
all_from_places : {X : Type 0} (P : X → Type 0) (xs : List X)
    → ((k : ℕ) (x : X) → slice_get xs k ≡ Some x → P x) → All P xs
all_from_places P [] each k d inside = absurd (omega (arith, inside))
all_from_places P (x ∷ xs) each zero d inside = each 0 x refl
all_from_places P (x ∷ xs) each (suc k) d inside =
    all_from_places P xs (λ i e there. each (suc i) e there) k d (omega (arith, inside))

-- each of a list's elements changes its fact
all_changed : {X : Type 0} (P Q : X → Type 0) (xs : List X) → ((x : X) → P x → Q x) → All P xs
    → All Q xs
all_changed P Q [] each all k d inside = absurd (omega (arith, inside))
all_changed P Q (x ∷ xs) each all zero d inside = each x (all 0 x (omega arith))
all_changed P Q (x ∷ xs) each all (suc k) d inside =
    all_changed P Q xs each (λ i e within. all (suc i) e (omega (arith, within))) k d
    (omega (arith, inside))

-- ---- the club of a question on the way

asked_club : (claim : Claim) (sheet : Sheet) (season : Results) (own : ℕ) (turning : List ℤ)
    (question : GroupQuestion) → IsAskedOfClub sheet season claim own turning question
    → question.club ≡ own
asked_club claim sheet season own turning question (inl is) =
    ap (λ (it : GroupQuestion). it.club) is
asked_club claim sheet season own turning question (inr (inl is)) =
    ap (λ (it : GroupQuestion). it.club) is
asked_club claim sheet season own turning question (inr (inr (inl halfway))) =
    ap (λ (it : GroupQuestion). it.club) halfway.2
asked_club claim sheet season own turning question (inr (inr (inr is))) =
    ap (λ (it : GroupQuestion). it.club) is

-- it is one of the group
pub club_on_the_way : (claim : Claim) (mine : GroupState) (own : ℕ) (group : GroupState)
    (question : GroupQuestion) → own < length mine.sheet.clubs
    → IsAskedOnTheWay direct_places claim mine own group question
    → question.club < length group.sheet.clubs
club_on_the_way claim mine own group question inside way =
    elim way.2 as (λ _. question.club < length group.sheet.clubs) [
      | inl here ↦
          let club = asked_club claim mine.sheet mine.results own way.0 question here.1 in
          let same = ap (λ (it : GroupState). length it.sheet.clubs) here.0 in
          omega (arith, inside, club, same)
      | inr there ↦ there.1.0
    ]

-- the club of a refuted side is one of its group
pub own_in_group : (cup : Cup) (seasons : List Results) (claim : Claim) (club : ℕ)
    (found : SideRefutation) (is : IsSideRefutedBy cup seasons claim club found)
    → is.seat.own < length is.trees.sheet.clubs
own_in_group cup seasons claim club found is =
    let sheets = same_Some is.seated.seat_in.sheet is.trees.sheet
    (sym is.seated.seat_in.there ∙ is.trees.own.there) in
    let count = is.seated.seat_in.count ∙ ap (λ (it : Sheet). length it.clubs) sheets in
    omega (arith, is.seated.seat_in.inside, count)

module _ (cup : Cup) (seasons : List Results) (is_cup : IsCup cup)
    (of_seasons : AreSeasonsOf cup.groups seasons) (results : AreCupResults seasons) where
  -- ---- trees

  nodes_in_cup : (number : ℕ) (sheet : Sheet) (season : Results) (question : GroupQuestion)
      (budget : ℕ) (nodes : List (CaseNode GroupReason))
      → IsGroupOfCup cup seasons number sheet season
      → IsGroupRefutedBy sheet season question budget nodes
      → All (IsNodeWithin (start_of_group cup.groups number)) nodes
  nodes_in_cup number sheet season question budget nodes of_cup refuted =
      subst (All (IsNodeWithin (start_of_group cup.groups number))) refuted.listed
      (nodes_within (start_of_group cup.groups number) sheet season question [] refuted.cases
      of_cup.clubs of_cup.fixtures refuted.units)

  listed_within : (claim : Claim) (key : List ℤ) (mine : ℕ) (group : EmptyGroup)
      → IsEmptyGroup cup seasons claim key mine group → IsListedWithin cup group
  listed_within claim key mine group empty =
      let of_cup = group_of_cup cup seasons is_cup of_seasons results group.group empty.sheet
      empty.season empty.other.there empty.other.season_there in
      let count = empty.count in
      record {
        of_cup = of_cup.inside;
        clubs = omega (arith, of_cup.clubs, count);
        trees =
            all_from_places (λ (nodes : GroupNodes). All
            (IsNodeWithin (start_of_group cup.groups group.group)) nodes.items) group.trees.items
            (λ club nodes there.
            nodes_in_cup group.group empty.sheet empty.season (other_question claim key club)
            empty.sheet.budget nodes.items of_cup (empty.refuted club nodes there));
      }

  -- ---- sides

  refutation_within : (claim : Claim) (club : ℕ) (found : SideRefutation)
      (is : IsSideRefutedBy cup seasons claim club found)
      → IsRefutationWithin cup claim is.seat found
  refutation_within claim club found is =
      let own = is.trees.own in
      let seat = is.seat in
      let of_cup = group_of_cup cup seasons is_cup of_seasons results seat.group is.trees.sheet
      is.trees.season own.there own.season_there in
      let inside = own_in_group cup seasons claim club found is in
      record {
        of_cup = of_cup.inside;
        club = omega (arith, of_cup.clubs, inside);
        place =
            nodes_in_cup seat.group is.trees.sheet is.trees.season _ is.trees.sheet.budget
            found.place.items of_cup is.trees.by_place;
        nearer =
            nodes_in_cup seat.group is.trees.sheet is.trees.season _ is.trees.sheet.budget
            found.nearer.items of_cup is.trees.by_key;
        enough = is.trees.enough;
        listed =
            all_taken (IsListedWithin cup) (listed_groups cup claim) found.listed.items
            (all_changed (IsEmptyGroup cup seasons claim (key_parts found.key) seat.group)
            (IsListedWithin cup) found.listed.items
            (listed_within claim (key_parts found.key) seat.group) is.trees.empty);
      }

  spent_within : (claim : Claim) (club : ℕ) (group : OpenGroup)
      → IsSideSpentBy cup seasons claim club group → IsOpenGroupWithin cup group
  spent_within claim club group is =
      let of_cup = group_of_state cup seasons is_cup of_seasons results group.group is.state
      is.there in
      let question = group_question_of group.spent.question in
      let inside = club_on_the_way claim is.spent.mine is.spent.own is.state question
      is.spent.of_club.own_club is.spent.on_the_way in
      record {
        of_cup = of_cup.inside;
        club = omega (arith, of_cup.clubs, inside);
        nodes =
            subst (All (IsNodeWithin (start_of_group cup.groups group.group))) is.nodes
            (nodes_within (start_of_group cup.groups group.group) is.state.sheet is.state.results
            question [] is.cases of_cup.clubs of_cup.fixtures is.spent.tree_spent.units);
      }

  open_within : (claim : Claim) (club : ℕ) (side : OpenSide)
      → IsOpenSide cup seasons claim club side → IsOpenSideWithin cup seasons side
  open_within claim club (Shown joint) is = is.joint.each
  open_within claim club (Spent group) is = spent_within claim club group is

  -- all that is found, for the seat of the club
  pub found_within : (club : ℕ) (seat : ClubSeat) (found : ClubFinding) → IsSeatOf cup club seat
      → IsClubFinding cup seasons club found → IsVerdictWithin cup seasons seat found
  found_within club seat (Clinched found) at is =
      subst (λ it. IsRefutationWithin cup _ it found)
      (one_seat cup club is.1.seat seat is.1.seated at)
      (refutation_within _ club found is.1)
  found_within club seat (Lost found) at is =
      subst (λ it. IsRefutationWithin cup _ it found)
      (one_seat cup club is.1.seat seat is.1.seated at)
      (refutation_within _ club found is.1)
  found_within club seat (Possible inside outside) at is =
      (is.1.joint.each, is.2.joint.each)
  found_within club seat (Unsettled inside outside) at is =
      (open_within _ club inside is.2, open_within _ club outside is.3)
