-- Ends of groups that are picked one by one: some end of each group, and other ends put in the
-- place of some of these.
use Rattle.std.proofs.Common.{◌≡◌, ◌≢◌, ◌<◌, inl, inr, ℕ, zero, suc, ◌+◌, true}
use Rattle.std.proofs.Common.{◌==◌, List, [], ◌∷◌, ◌++◌, length, map, None, Some, refl, sym}
use Rattle.std.proofs.Common.{ap, ◌∙◌}
use Rattle.std.proofs.Common.{subst, arith}
use Rattle.std.specs.Prelude.{slice_get, slice_set, All, unwrap_or}
use Rattle.std.proofs.lemmas.Bool.{false≢true, or_cases, eqb-true}
use Rattle.league_core.specs.declared.sheet.Sheet.{Sheet}
use Rattle.league_core.specs.game.Results.{Results}
use Rattle.league_core.specs.game.Finishes.{IsFinishOf}
use Rattle.league_core.specs.game.Sums.{has_club}
use Rattle.league_core.specs.game.Ranking.{are_lots}
use Rattle.league_core.specs.search.Zones.{others_of}
use Rattle.league_core.proofs.FinishLemmas.{ended_of, may_all_end-ended}
use Rattle.league_core.proofs.LotsLemmas.{first_lots-are_lots}
use Rattle.league_core.proofs.RankingLemmas.{lots_have}
use Rattle.cup_sheet.specs.CupLimits.{direct_places}
use Rattle.cup_sheet.specs.Cups.{IsGroup, AreSeasonsOf}
use Rattle.cup_sheet.specs.JointFinishes.{GroupState, states_from}
use Rattle.cup_sheet.specs.GroupQuestions.{GroupQuestion, holds_in_group}
use Rattle.cup_sheet.specs.LotLaws.{own_lots}
use Rattle.cup_laws.specs.inside.GroupWays.{CanEndInGroup}
use Rattle.cup_laws.specs.inside.ChosenEnds.{ChosenEnd, AreChosen}

-- the end is one of the group
pub record IsGroupEnd (group : GroupState) (end : ChosenEnd) : Type 0 where
  pub block : end.lots.block ≡ group.block
  pub is_finish : IsFinishOf group.sheet group.results end.finish
  pub drawn : are_lots group.block.count (own_lots end.lots) ≡ true

-- ---- some end of each group

-- what is not played ends without goals, and the first club is first in the lots
abbrev pub plain_end : ℕ → Sheet → Results → ChosenEnd
plain_end first group season = record {
  finish = record { scores = map ended_of season.scores; deductions = season.deductions };
  lots = record {
    block = record { first = first; count = length group.clubs };
    earlier = [];
    candidate = 0;
    later = others_of (length group.clubs) 0;
  };
}

abbrev pub plain_ends : ℕ → List Sheet → List Results → List ChosenEnd
plain_ends first [] seasons = []
plain_ends first (group ∷ groups) [] = []
plain_ends first (group ∷ groups) (season ∷ seasons) =
    plain_end first group season ∷ plain_ends (first + length group.clubs) groups seasons

pub plain_chosen : (first goal_limit budget : ℕ) (groups : List Sheet) (seasons : List Results)
    → All (IsGroup goal_limit budget) groups → AreSeasonsOf groups seasons
    → AreChosen first groups seasons (plain_ends first groups seasons)
plain_chosen first goal_limit budget [] [] all of_groups = tt
plain_chosen first goal_limit budget [] (season ∷ seasons) all of_groups = absurd of_groups
plain_chosen first goal_limit budget (group ∷ groups) [] all of_groups = absurd of_groups
plain_chosen first goal_limit budget (group ∷ groups) (season ∷ seasons) all of_groups =
    let is = all 0 group (omega arith) in (
      refl,
      record {
        deductions = refl;
        scores = may_all_end-ended group.goal_limit season.scores;
      },
      first_lots-are_lots (length group.clubs) 0 (omega (arith, is.least_clubs)),
      plain_chosen (first + length group.clubs) goal_limit budget groups seasons
          (λ k d below. all (suc k) d (omega (arith, below))) of_groups.1,
    )

-- ---- another end in the place of one

pub end_put : (first : ℕ) (groups : List Sheet) (seasons : List Results) (ends : List ChosenEnd)
    (k : ℕ) (group : GroupState) (new : ChosenEnd) → AreChosen first groups seasons ends
    → slice_get (states_from first groups seasons) k ≡ Some group → IsGroupEnd group new
    → AreChosen first groups seasons (slice_set ends k new)
end_put first [] seasons ends k group new chosen there is =
    absurd (let c : None ≡ Some group = there in cc)
end_put first (sheet ∷ groups) [] ends k group new chosen there is = absurd chosen
end_put first (sheet ∷ groups) (season ∷ seasons) [] k group new chosen there is = absurd chosen
end_put first (sheet ∷ groups) (season ∷ seasons) (end ∷ ends) zero group new chosen there is =
    let head : GroupState = record {
      block = record { first = first; count = length sheet.clubs };
      sheet = sheet;
      results = season;
    } in
    let own = subst (λ it. IsGroupEnd it new) (sym (ap (λ found. unwrap_or found head) there)) is in
    (own.block, own.is_finish, own.drawn, chosen.3)
end_put first (sheet ∷ groups) (season ∷ seasons) (end ∷ ends) (suc k) group new chosen there is = (
  chosen.0,
  chosen.1,
  chosen.2,
  end_put (first + length sheet.clubs) groups seasons ends k group new chosen.3 there is,
)

-- there are as many ends as groups
pub ends_are_all : (first : ℕ) (groups : List Sheet) (seasons : List Results)
    (ends : List ChosenEnd) → AreChosen first groups seasons ends
    → length ends ≡ length (states_from first groups seasons)
ends_are_all first [] [] [] chosen = refl
ends_are_all first [] [] (end ∷ ends) chosen = absurd chosen
ends_are_all first [] (season ∷ seasons) ends chosen = absurd chosen
ends_are_all first (group ∷ groups) [] ends chosen = absurd chosen
ends_are_all first (group ∷ groups) (season ∷ seasons) [] chosen = absurd chosen
ends_are_all first (group ∷ groups) (season ∷ seasons) (end ∷ ends) chosen =
    let rest = ends_are_all (first + length group.clubs) groups seasons ends chosen.3 in
    omega (arith, rest)

pub put_there : {X : Type 0} (xs : List X) (k : ℕ) (x : X) → k < length xs
    → slice_get (slice_set xs k x) k ≡ Some x
put_there [] k x below = absurd (omega (arith, below))
put_there (first ∷ xs) zero x below = refl
put_there (first ∷ xs) (suc k) x below = put_there xs k x (omega (arith, below))

pub put_elsewhere : {X : Type 0} (xs : List X) (k j : ℕ) (x : X) → k ≢ j
    → slice_get (slice_set xs k x) j ≡ slice_get xs j
put_elsewhere [] zero zero x other = refl
put_elsewhere [] zero (suc j) x other = refl
put_elsewhere [] (suc k) zero x other = refl
put_elsewhere [] (suc k) (suc j) x other = refl
put_elsewhere (first ∷ xs) zero zero x other = absurd (other refl)
put_elsewhere (first ∷ xs) zero (suc j) x other = refl
put_elsewhere (first ∷ xs) (suc k) zero x other = refl
put_elsewhere (first ∷ xs) (suc k) (suc j) x other =
    put_elsewhere xs k j x (λ same. other (ap (λ n. suc n) same))

-- ---- an example as an end

-- a list cut at an element of it
cut_at : (clubs : List ℕ) (club : ℕ) → has_club clubs club ≡ true
    → (earlier : List ℕ) × (later : List ℕ) × (clubs ≡ earlier ++ club ∷ later)
cut_at [] club has = absurd (false≢true has)
cut_at (first ∷ clubs) club has =
    elim (or_cases (first == club) (has_club clubs club) has) as
    (λ _. (earlier : List ℕ) × (later : List ℕ) × (first ∷ clubs ≡ earlier ++ club ∷ later)) [
      | inl same ↦ ([], clubs, ap (λ (it : ℕ). it ∷ clubs) (eqb-true first club same))
      | inr further ↦ let rest = cut_at clubs club further in
          (first ∷ rest.0, rest.1, ap (λ it. first ∷ it) rest.2)
    ]

-- an example of a question is an end at whose candidate it holds
pub example_end : (group : GroupState) (question : GroupQuestion)
    → group.block.count ≡ length group.sheet.clubs → question.club < length group.sheet.clubs
    → CanEndInGroup group question
    → (end : ChosenEnd) × IsGroupEnd group end × (end.lots.candidate ≡ question.club)
    × (holds_in_group direct_places group.sheet question end.finish (own_lots end.lots) ≡ true)
example_end group question count inside can =
    let finish = can.0 in
    let lots = can.1 in
    let cut = cut_at lots question.club
    (lots_have (length group.sheet.clubs) lots question.club can.2.is_drawn inside) in (
      record {
        finish = finish;
        lots = record {
          block = group.block;
          earlier = cut.0;
          candidate = question.club;
          later = cut.1;
        };
      },
      record {
        block = refl;
        is_finish = can.2.is_finish;
        drawn = ap (λ n. are_lots n (cut.0 ++ question.club ∷ cut.1)) count
            ∙ ap (are_lots (length group.sheet.clubs)) (sym cut.2)
            ∙ can.2.is_drawn;
      },
      refl,
      ap (holds_in_group direct_places group.sheet question finish) (sym cut.2) ∙ can.2.holds,
    )
