-- What a side of a club comes to, in the words of the contract.
use Rattle.std.proofs.Common.{◌≡◌, ℕ, ◌==◌, ℤ, List, refl, sym, ◌∙◌, subst, inl, inr}
use Rattle.std.specs.Prelude.{Option, Result, Ok, Err, IfOk}
use Rattle.std.proofs.lemmas.Bool.{and_parts, eqb-true}
use Rattle.std.proofs.lemmas.Option.{same_Some, slice_get_within, get_or_from_slice_get}
use Rattle.league_core.specs.declared.sheet.Sheet.{Sheet}
use Rattle.league_core.specs.declared.memory.OutOfMemory.{OutOfMemory}
use Rattle.league_core.specs.declared.question.Claim.{Claim}
use Rattle.league_core.specs.declared.question.Claim.TheVariants.{Inside, Outside}
use Rattle.league_core.specs.game.Ranking.{place_of}
use Rattle.league_core.specs.game.Results.{Results}
use Rattle.league_core.specs.search.Keys.{key_of, is_key_from}
use Rattle.club_keys.specs.declared.club_key.ClubKey.{ClubKey}
use Rattle.club_keys.specs.inside.KeyEnds.{key_parts}
use Rattle.tree_arena.specs.declared.example.Example.{Example}
use Rattle.depth_search.specs.declared.kind.CaseNode.{CaseNode}
use Rattle.cup_sheet.specs.declared.cup.Cup.{Cup}
use Rattle.cup_sheet.specs.declared.question.GroupReason.{GroupReason}
use Rattle.cup_sheet.specs.CupAnswers.{IsCupSpent}
use Rattle.cup_sheet.specs.CupLimits.{direct_places}
use Rattle.cup_sheet.specs.Cups.{IsCup}
use Rattle.cup_sheet.specs.GroupQuestions.{GroupQuestion}
use Rattle.cup_sheet.specs.JointFinishes.{states_of}
use Rattle.cup_sheet.specs.KeyBounds.{IsTurningKey, IsAskedOfClub}
use Rattle.group_search.specs.inside.GroupLooks.{IsGroupExampleOf}
use Rattle.group_search.specs.inside.GroupTasks.{IsGroupRefutedBy, IsGroupSpentOn}
use Rattle.group_search.specs.inside.GroupTasks.{new_group_tree}
use Rattle.cup_groups.specs.inside.KindQuestions.{group_question_of}
use Rattle.turning_keys.specs.declared.turning.KeyEnd.{KeyEnd}
use Rattle.turning_keys.specs.inside.KeyEndings.{IsKeyEnd, IsFoundKey, IsSpentKey}
use Rattle.turning_keys.specs.inside.TurningQuestions.{halving_question}
use Rattle.turning_keys.proofs.TurningKeyLemmas.{turning_key_exists}
use Rattle.runners_up.specs.declared.others.SpentQuestion.{SpentQuestion}
use Rattle.cup_groups.specs.declared.seat.ClubSeat.{ClubSeat}
use Rattle.runners_up.specs.declared.side.SideAtKey.{SideAtKey}
use Rattle.runners_up.specs.declared.side.SideAtKey.TheVariants.{Shown, Refuted, Spent}
use Rattle.runners_up.specs.declared.survey.OpenGroup.{OpenGroup}
use Rattle.cup_groups.specs.inside.ClubSeats.{IsSeatOf}
use Rattle.runners_up.specs.inside.GroupsAsked.{GroupNodes, other_question}
use Rattle.runners_up.specs.inside.GroupSurveys.{IsOpenGroup}
use Rattle.cup_groups.specs.GroupStarts.{clubs_before}
use Rattle.runners_up.specs.inside.SideLaws.{IsSideRefuted}
use Rattle.runners_up.specs.inside.SidesAtKeys.{IsOwnEnd, IsSideAtKey}
use Rattle.runners_up.specs.inside.SidesByPlace.{IsOwnGroup, asked_of_place}
use Rattle.runners_up.proofs.JointDrawnLemmas.{not_one_start}
use Rattle.runners_up.proofs.JointShownLemmas.{starts_differ}
use Rattle.runners_up.proofs.SideByPlaceLemmas.{own_inside}
use Rattle.runners_up.proofs.SideLawLemmas.{state_in, state_of_number, club_of, sides_are_refuted}
use Rattle.cup_sides.specs.inside.CupSides.{IsCupSide, IsSideOfSeat}
use Rattle.runners_up.specs.inside.ClubFindings.{IsSideSpentBy}
use Rattle.cup_sides.specs.inside.CupSides.{whole_side}
use Rattle.cup_sides.specs.inside.KeysOfSeats.{IsKeyOfSeat, IsPlaceRefuted}

-- ---- the club's own group

-- the example of a turning key is an end of the group with just this key
pub own_end : (cup : Cup) (seasons : List Results) (seat : ClubSeat) (claim : Claim)
    (key : List ℤ) (sheet : Sheet) (season : Results) (end : Example)
    → IsOwnGroup cup seasons seat sheet season
    → IsGroupExampleOf sheet season (halving_question claim seat.own key) end
    → key_of sheet end.finish seat.own ≡ key → IsOwnEnd cup seasons seat key end
own_end cup seasons seat claim key sheet season end own example with_key = record {
  sheet = sheet;
  season = season;
  there = own.there;
  season_there = own.season_there;
  is_end = record { is_finish = example.is_finish; is_drawn = example.is_drawn };
  candidate = second claim example;
  with_key = with_key;
}
  where
    second : (claim : Claim)
        → IsGroupExampleOf sheet season (halving_question claim seat.own key) end
        → place_of sheet end.finish end.lots seat.own ≡ 2
    second Outside example =
        eqb-true (place_of sheet end.finish end.lots seat.own) 2
        (and_parts (place_of sheet end.finish end.lots seat.own == 2)
        (is_key_from (key_of sheet end.finish seat.own) key) example.holds).0
    second Inside example =
        eqb-true (place_of sheet end.finish end.lots seat.own) 2
        (and_parts (place_of sheet end.finish end.lots seat.own == 2)
        (is_key_from key (key_of sheet end.finish seat.own)) example.holds).0

module _ (cup : Cup) (seasons : List Results) (claim : Claim) (club : ℕ) (seat : ClubSeat)
    (sheet : Sheet) (season : Results) (at : IsSeatOf cup club seat)
    (own : IsOwnGroup cup seasons seat sheet season) where
  -- a question about the club itself
  own_spent : (key : List ℤ) (spent : SpentQuestion)
      → IsTurningKey direct_places sheet season claim seat.own key
      → IsAskedOfClub sheet season claim seat.own key (group_question_of spent.question)
      → IsGroupSpentOn sheet season (group_question_of spent.question) sheet.budget
      spent.nodes.items
      → IsSideSpentBy cup seasons claim club (record { group = seat.group; spent = spent })
  own_spent key spent turning asked tree =
      let mine = state_in (clubs_before cup.groups seat.group) sheet season in
      let there = state_of_number cup seasons seat.group sheet season own.there
      own.season_there in
      record {
        state = mine;
        there = there;
        cases = tree.cases;
        nodes = tree.listed;
        spent = record {
          mine = mine;
          own = seat.own;
          of_club = club_of cup seasons club seat sheet season at own;
          group_of = (
            seat.group,
            slice_get_within (states_of cup seasons) seat.group mine there,
            get_or_from_slice_get (states_of cup seasons) seat.group mine mine there,
          );
          on_the_way = (key, turning, inl (refl, asked));
          tree_spent = tree.tree_spent;
          all_new = tree.all_new;
        };
      }

  -- that about its place
  pub place_spent : (spent : SpentQuestion)
      → group_question_of spent.question ≡ asked_of_place claim seat.own
      → IsGroupSpentOn sheet season (asked_of_place claim seat.own) sheet.budget
      spent.nodes.items
      → IsSideSpentBy cup seasons claim club (record { group = seat.group; spent = spent })
  place_spent spent is tree =
      let some = turning_key_exists sheet season seat.own
      (own_inside cup seasons seat sheet season at.seat_in own) claim in
      own_spent some.0 spent some.1 (inl is)
      (subst (λ (it : GroupQuestion). IsGroupSpentOn sheet season it sheet.budget
      spent.nodes.items) (sym is) tree)

  -- one on the way to the key
  pub key_spent : (spent : SpentQuestion)
      → IsSpentKey sheet season claim seat.own spent.question spent.nodes.items
      → IsSideSpentBy cup seasons claim club (record { group = seat.group; spent = spent })
  key_spent spent is = own_spent is.key spent is.turning is.asked is.tree

  -- a question about a club of another group
  other_spent : (key : List ℤ) (group : OpenGroup) → IsCup cup
      → IsTurningKey direct_places sheet season claim seat.own key
      → IsOpenGroup cup seasons claim key seat.group group
      → IsSideSpentBy cup seasons claim club group
  other_spent key group is_cup turning is =
      let number : ℕ = group.group in
      let mine = state_in (clubs_before cup.groups seat.group) sheet season in
      let state = state_in (clubs_before cup.groups number) is.sheet is.season in
      let there = state_of_number cup seasons number is.sheet is.season is.other.there
      is.other.season_there in
      let tree = new_group_tree is.spent.tree.cases in
      let spent : IsCupSpent cup seasons claim club state (other_question claim key is.spent.club)
      tree = record {
        mine = mine;
        own = seat.own;
        of_club = club_of cup seasons club seat sheet season at own;
        group_of = (
          number,
          slice_get_within (states_of cup seasons) number state there,
          get_or_from_slice_get (states_of cup seasons) number state state there,
        );
        on_the_way = (
          key,
          turning,
          inr (
            starts_differ (clubs_before cup.groups number) (clubs_before cup.groups seat.group)
                (λ same. not_one_start cup number seat.group is.sheet sheet is_cup is.other.there
                own.there is.other.differ same),
            (is.spent.inside, refl, refl),
          ),
        );
        tree_spent = is.spent.tree.tree_spent;
        all_new = is.spent.tree.all_new;
      } in
      record {
        state = state;
        there = there;
        cases = is.spent.tree.cases;
        nodes = is.spent.tree.listed;
        spent = subst (λ (it : GroupQuestion). IsCupSpent cup seasons claim club state it tree)
            (sym is.spent.question) spent;
      }

  -- ---- all together

  pub whole_is : (key : ClubKey) (example : Option Example) (place nearer : GroupNodes) → IsCup cup
      → IsGroupRefutedBy sheet season (asked_of_place claim seat.own) sheet.budget place.items
      → IsFoundKey sheet season claim seat.own (key_parts key) example nearer.items
      → (side : SideAtKey) → IsSideAtKey cup seasons seat claim (key_parts key) side
      → IsCupSide cup seasons claim club (whole_side side key place nearer)
  whole_is key example place nearer is_cup by_place found (Shown joint) is = is club at
  whole_is key example place nearer is_cup by_place found (Refuted listed) is =
      let trees : IsSideRefuted cup seasons claim seat (key_parts key) place.items nearer.items
      listed.items = record {
        sheet = sheet;
        season = season;
        own = own;
        by_place = by_place;
        by_key = found.refuted;
        enough = is.0;
        rising = is.1;
        empty = is.2;
      } in
      record {
        seat = seat;
        seated = at;
        trees = trees;
        turning = found.turning;
        refuted = sides_are_refuted cup seasons claim club seat (key_parts key) place.items
            nearer.items listed.items is_cup at trees;
      }
  whole_is key example place nearer is_cup by_place found (Spent group) is =
      other_spent (key_parts key) group is_cup found.turning is

-- ---- the search for the key

-- in the club's group
pub key_of_own : (cup : Cup) (seasons : List Results) (seat : ClubSeat) (claim : Claim)
    (sheet : Sheet) (season : Results) → IsOwnGroup cup seasons seat sheet season
    → (end : Result KeyEnd OutOfMemory) → IfOk end (IsKeyEnd sheet season claim seat.own)
    → IfOk end (IsKeyOfSeat cup seasons seat claim)
key_of_own cup seasons seat claim sheet season own (Ok end) is = (sheet, season, own, is)
key_of_own cup seasons seat claim sheet season own (Err stop) is = is

-- ---- the side at the key

-- the question about the club's place, of the group that is known
place_at : (cup : Cup) (seasons : List Results) (seat : ClubSeat) (claim : Claim) (sheet : Sheet)
    (season : Results) (nodes : List (CaseNode GroupReason))
    → IsOwnGroup cup seasons seat sheet season → IsPlaceRefuted cup seasons seat claim nodes
    → IsGroupRefutedBy sheet season (asked_of_place claim seat.own) sheet.budget nodes
place_at cup seasons seat claim sheet season nodes own is =
    let same = same_Some is.0 sheet (sym is.2.there ∙ own.there) in
    let same_season = same_Some is.1 season (sym is.2.season_there ∙ own.season_there) in
    subst (λ (it : Results). IsGroupRefutedBy sheet it (asked_of_place claim seat.own)
    sheet.budget nodes) same_season
    (subst (λ (it : Sheet). IsGroupRefutedBy it is.1 (asked_of_place claim seat.own) it.budget
    nodes) same is.3)

-- with the trees about the club itself
pub found_side : (cup : Cup) (seasons : List Results) (claim : Claim) (seat : ClubSeat)
    (key : ClubKey) (example : Option Example) (place nearer : GroupNodes) (sheet : Sheet)
    (season : Results) → IsCup cup → IsOwnGroup cup seasons seat sheet season
    → IsPlaceRefuted cup seasons seat claim place.items
    → IsFoundKey sheet season claim seat.own (key_parts key) example nearer.items
    → (side : SideAtKey) → IsSideAtKey cup seasons seat claim (key_parts key) side
    → IsSideOfSeat cup seasons claim seat (whole_side side key place nearer)
found_side cup seasons claim seat key example place nearer sheet season is_cup own by_place found
    side is club at =
    whole_is cup seasons claim club seat sheet season at own key example place nearer is_cup
    (place_at cup seasons seat claim sheet season place.items own by_place) found side is
