-- What a club does at a joint finish that was made, and steps on the way.
use Rattle.std.proofs.Common.{◌≡◌, ◌≤◌, ℕ, Bool, true}
use Rattle.std.proofs.Common.{false, ◌&&◌, ◌||◌, ◌==◌, List}
use Rattle.std.proofs.Common.{nat_le, nat_lt, Some, refl, sym, ap, ◌∙◌, arith}
use Rattle.std.proofs.Common.{Less, Equal, Greater}
use Rattle.std.specs.Prelude.{slice_get}
use Rattle.std.specs.declared.cmp.Ordering.{Ordering}
use Rattle.std.specs.Ordering.{ordering_then, is_lt, is_le}
use Rattle.std.proofs.lemmas.Bool.{false≢true}
use Rattle.std.proofs.lemmas.Bool.Decides.{nat_tests}
use Rattle.league_core.specs.game.Results.{Results}
use Rattle.cup_sheet.specs.declared.cup.Cup.{Cup}
use Rattle.cup_sheet.specs.CupLimits.{direct_places}
use Rattle.cup_sheet.specs.Cups.{IsCup, clubs_together}
use Rattle.cup_sheet.specs.JointFinishes.{GroupState}
use Rattle.cup_sheet.specs.JointFinishes.{states_of, IsJointFinish}
use Rattle.cup_sheet.specs.Qualifying.{qualifies_in, qualifies_at}
use Rattle.cup_sheet.specs.CupAnswers.{IsClubOf}
use Rattle.cup_laws.specs.inside.CupTruths.{AreCupResults}
use Rattle.cup_laws.proofs.GroupEndLemmas.{ended, one_group}
use Rattle.cup_laws.proofs.CupTruthLemmas.{have_ends, in_own_block}
use Rattle.cup_laws.proofs.WayLemmas.{own_side}
use Rattle.league_core.specs.declared.question.Claim.TheVariants.{Outside}
use Rattle.cup_laws.proofs.MadeFinishLemmas.{end_is}

-- what comes first or level, and is earlier in the lots, comes first
pub le_then_less : (order lots : Ordering) → is_le order ≡ true → lots ≡ Less
    → is_lt (ordering_then order lots) ≡ true
le_then_less Less lots le is = refl
le_then_less Equal lots le is = ap is_lt is
le_then_less Greater lots le is = absurd (false≢true le)

-- what comes first although it is later in the lots comes first without them
pub less_without : (order lots : Ordering) → is_lt (ordering_then order lots) ≡ true
    → lots ≡ Greater → is_lt order ≡ true
less_without Less lots first is = refl
less_without Equal lots first is = absurd (false≢true (sym (ap is_lt is) ∙ first))
less_without Greater lots first is = absurd (false≢true first)

pub both_fail : (a b c : Bool) → a ≡ false → (b && c) ≡ false → (a || (b && c)) ≡ false
both_fail true b c fails other = absurd (false≢true (sym fails))
both_fail false b c fails other = other

pub right_fails : (b c : Bool) → c ≡ false → (b && c) ≡ false
right_fails true c is = is
right_fails false c is = refl

pub left_fails : (b c : Bool) → b ≡ false → (b && c) ≡ false
left_fails true c is = absurd (false≢true (sym is))
left_fails false c is = refl

pub not_direct : (place : ℕ) → (place == 2) ≡ true → nat_le place 1 ≡ false
not_direct place second = grind (arith, nat_tests, second)

pub past_direct_place : (place : ℕ) → nat_lt 2 place ≡ true → nat_le place 1 ≡ false
past_direct_place place past = grind (arith, nat_tests, past)

pub past_second : (place : ℕ) → nat_lt 2 place ≡ true → (place == 2) ≡ false
past_second place past = grind (arith, nat_tests, past)

pub not_below : (front quota : ℕ) → quota ≤ front → nat_lt front quota ≡ false
not_below front quota most = grind (arith, nat_tests, most)

-- at a finish that was made, a club qualifies exactly if it does in its group
pub same_answer : (cup : Cup) (seasons : List Results) (club : ℕ) (mine : GroupState) (own : ℕ)
    → IsCup cup → AreCupResults seasons → IsClubOf cup seasons club mine own
    → (finishes : List Results) (lots : List ℕ) → IsJointFinish cup seasons finishes lots
    → (finish : Results) (k : ℕ) → slice_get (states_of cup seasons) k ≡ Some mine
    → slice_get (states_of cup finishes) k ≡ Some (ended mine finish)
    → qualifies_at cup finishes lots club
    ≡ qualifies_in direct_places cup.quota lots (states_of cup finishes) (ended mine finish) own
same_answer cup seasons club mine own is_cup results of_club finishes lots joint finish k there at =
    let clubs = clubs_together cup.groups in
    let known = own_side cup seasons Outside club mine own is_cup results of_club finishes lots
    joint (qualifies_at cup finishes lots club) refl in
    let is = end_is cup seasons finishes mine finish k
    (have_ends cup seasons finishes lots is_cup results joint) there at in
    let inside = (in_own_block clubs mine finish club own is of_club.own_club of_club.number).0 in
    let one = one_group 0 club cup.groups finishes known.1 k (ended mine known.0)
    (ended mine finish) known.2 at inside inside in
    sym known.4
    ∙ ap (λ it. qualifies_in direct_places cup.quota lots (states_of cup finishes) it own) one
