-- Refutations in a group: a reason that holds leaves the question no member of the zone, and so a
-- tree of such reasons leaves it no example.
use Rattle.std.proofs.Common.{◌≡◌, ◌<◌, ℕ, ◌+◌, ℤ, Bool, true, false, not, ◌||◌, ◌==◌}
use Rattle.std.proofs.Common.{List, [], length, nat_le, nat_lt, refl, sym, ap, ◌∙◌, inl, inr, arith}
use Rattle.std.specs.List.{list_all}
use Rattle.std.proofs.lemmas.Bool.{false≢true, and_parts, and_from}
use Rattle.std.proofs.lemmas.Bool.Decides.{nat_tests}
use Rattle.league_core.specs.declared.sheet.Sheet.{Sheet}
use Rattle.league_core.specs.declared.question.Claim.{Claim}
use Rattle.league_core.specs.declared.question.Claim.TheVariants.{Inside, Outside}
use Rattle.league_core.specs.declared.zone.Literal.{Literal}
use Rattle.league_core.specs.declared.zone.Reason.{Reason}
use Rattle.league_core.specs.game.Results.{Results, are_results}
use Rattle.league_core.specs.game.Sheets.{IsWithinLimits}
use Rattle.league_core.specs.game.Questions.{full_question, is_on_side, is_in_window}
use Rattle.league_core.specs.game.Sums.{points_of}
use Rattle.league_core.specs.game.Ranking.{place_of}
use Rattle.league_core.specs.search.Zones.{IsMember, with_test}
use Rattle.league_core.specs.search.Options.{has_finish}
use Rattle.league_core.specs.search.Keys.{key_of, is_key_from, low_key, high_key}
use Rattle.league_core.specs.search.Reasons.{has_reason}
use Rattle.league_core.proofs.PointsLemmas.{points_in_full_window, results-deductions}
use Rattle.reason_laws.proofs.TieLemmas.{reason_says}
use Rattle.reason_laws.proofs.SplitLemmas.{either_half}
use Rattle.reason_laws.proofs.KeyLemmas.{key_between}
use Rattle.club_keys.proofs.KeyOrderLemmas.{from_lesser}
use Rattle.cup_sheet.specs.declared.question.GroupKind.{GroupKind}
use Rattle.cup_sheet.specs.declared.question.GroupKind.TheVariants.{Top, Below, SecondLess}
use Rattle.cup_sheet.specs.declared.question.GroupKind.TheVariants.{SecondAtLeast, SecondMore}
use Rattle.cup_sheet.specs.declared.question.GroupKind.TheVariants.{SecondAtMost}
use Rattle.cup_sheet.specs.declared.question.GroupReason.{GroupReason}
use Rattle.cup_sheet.specs.declared.question.GroupReason.TheVariants.{Plain, In, Out, ByKey}
use Rattle.cup_sheet.specs.GroupQuestions.{GroupQuestion, is_key_on_side, is_place_asked}
use Rattle.cup_sheet.specs.GroupQuestions.{holds_in_group, is_key_refuted}
use Rattle.cup_sheet.specs.GroupQuestions.{is_of_place, has_group_reason}
use Rattle.cup_sheet.specs.GroupTrees.{GroupTree, open_zone, refuted_zone, split_zone}
use Rattle.cup_sheet.specs.GroupTrees.{has_open_zone, ZonesMeet}
use Rattle.cup_laws.specs.inside.CupTruths.{GroupRefutationsAreSound}

-- no test both passes and fails
pub both_said : (b : Bool) → b ≡ true → not b ≡ true → ⊥
both_said true passes fails = false≢true fails
both_said false passes fails = false≢true passes

-- neither side of an `or` that fails
pub neither_side : (a b : Bool) → (a || b) ≡ false → (a ≡ false) × (b ≡ false)
neither_side true b fails = absurd (false≢true (sym fails))
neither_side false b fails = (refl, fails)

-- a kind about a candidate asks for its place alone
candidate_place : (direct : ℕ) (kind : GroupKind) (place : ℕ) → not (is_of_place kind) ≡ true
    → is_place_asked direct kind place ≡ true → (place == direct + 1) ≡ true
candidate_place direct Top place kinds asked = absurd (false≢true kinds)
candidate_place direct Below place kinds asked = absurd (false≢true kinds)
candidate_place direct SecondLess place kinds asked = asked
candidate_place direct SecondAtLeast place kinds asked = asked
candidate_place direct SecondMore place kinds asked = asked
candidate_place direct SecondAtMost place kinds asked = asked

-- a key between the two of a zone is not on the side that they refute
key_says : (kind : GroupKind) (bound low key high : List ℤ) → is_key_from low key ≡ true
    → is_key_from key high ≡ true → is_key_refuted kind bound low high ≡ true
    → is_key_on_side kind bound key ≡ true → ⊥
key_says Top bound low key high above below refuted on_side = false≢true refuted
key_says Below bound low key high above below refuted on_side = false≢true refuted
key_says SecondLess bound low key high above below refuted on_side =
    both_said (is_key_from bound key) (from_lesser bound low key refuted above) on_side
key_says SecondAtLeast bound low key high above below refuted on_side =
    both_said (is_key_from bound high) (from_lesser bound key high on_side below) refuted
key_says SecondMore bound low key high above below refuted on_side =
    both_said (is_key_from key bound) (from_lesser key high bound below refuted) on_side
key_says SecondAtMost bound low key high above below refuted on_side =
    both_said (is_key_from low bound) (from_lesser low key bound above on_side) refuted

-- a reason of a table's question about a place leaves it no member of the zone
place_says : (sheet : Sheet) (season : Results) (club line : ℕ) (claim : Claim)
    (zone : List Literal) (reason : Reason) (finish : Results) (lots : List ℕ)
    → IsWithinLimits sheet → are_results season ≡ true → club < length sheet.clubs
    → IsMember sheet season club zone finish lots
    → has_reason sheet season (full_question club line claim) zone reason ≡ true
    → is_on_side (nat_le (place_of sheet finish lots club) line) claim ≡ true → ⊥
place_says sheet season club line claim zone reason finish lots limits results club_in member holds
    on_side =
    let deductions : list_all (λ points. nat_le points 99) finish.deductions ≡ true =
    ap (list_all (λ points. nat_le points 99)) member.is_finish.deductions
    ∙ results-deductions season results in
    let within = points_in_full_window sheet finish club line claim limits deductions in
    reason_says sheet season (full_question club line claim) zone reason finish lots club_in holds
    member
    (and_from (is_in_window (full_question club line claim) (points_of sheet finish club))
    (is_on_side (nat_le (place_of sheet finish lots club) line) claim) within on_side)

not_above : (line place : ℕ) → nat_lt line place ≡ true → not (nat_le place line) ≡ true
not_above line place beyond = grind (arith, nat_tests, beyond)

up_to_candidate : (direct place : ℕ) → (place == direct + 1) ≡ true
    → nat_le place (direct + 1) ≡ true
up_to_candidate direct place is = grind (arith, nat_tests, is)

past_direct : (direct place : ℕ) → (place == direct + 1) ≡ true → not (nat_le place direct) ≡ true
past_direct direct place is = grind (arith, nat_tests, is)

-- if a reason holds in a zone, the question holds at no member of it
group_reason_says : (direct : ℕ) (sheet : Sheet) (season : Results) (kind : GroupKind) (club : ℕ)
    (bound : List ℤ) (zone : List Literal) (reason : GroupReason) (finish : Results)
    (lots : List ℕ)
    → IsWithinLimits sheet → are_results season ≡ true → club < length sheet.clubs
    → has_group_reason direct sheet season (record { kind = kind; club = club; key = bound }) zone
    reason ≡ true
    → IsMember sheet season club zone finish lots
    → holds_in_group direct sheet (record { kind = kind; club = club; key = bound }) finish lots
    ≡ true → ⊥
unfolding has_group_reason
group_reason_says direct sheet season Top club bound zone (Plain reason) finish lots limits results
    club_in says member holds =
    place_says sheet season club direct Inside zone reason finish lots limits results club_in member
    says (and_parts (nat_le (place_of sheet finish lots club) direct) true holds).0
group_reason_says direct sheet season Below club bound zone (Plain reason) finish lots limits
    results club_in says member holds =
    place_says sheet season club (direct + 1) Outside zone reason finish lots limits results club_in
    member says
    (not_above (direct + 1) (place_of sheet finish lots club)
    (and_parts (nat_lt (direct + 1) (place_of sheet finish lots club)) true holds).0)
group_reason_says direct sheet season SecondLess club bound zone (Plain reason) finish lots limits
    results club_in says member holds = false≢true says
group_reason_says direct sheet season SecondAtLeast club bound zone (Plain reason) finish lots
    limits results club_in says member holds = false≢true says
group_reason_says direct sheet season SecondMore club bound zone (Plain reason) finish lots limits
    results club_in says member holds = false≢true says
group_reason_says direct sheet season SecondAtMost club bound zone (Plain reason) finish lots
    limits results club_in says member holds = false≢true says
group_reason_says direct sheet season kind club bound zone (In reason) finish lots limits results
    club_in says member holds =
    let place = place_of sheet finish lots club in
    let both = and_parts (not (is_of_place kind))
    (has_reason sheet season (full_question club (direct + 1) Inside) zone reason) says in
    let asked = and_parts (is_place_asked direct kind place)
    (is_key_on_side kind bound (key_of sheet finish club)) holds in
    place_says sheet season club (direct + 1) Inside zone reason finish lots limits results club_in
    member both.1 (up_to_candidate direct place (candidate_place direct kind place both.0 asked.0))
group_reason_says direct sheet season kind club bound zone (Out reason) finish lots limits results
    club_in says member holds =
    let place = place_of sheet finish lots club in
    let both = and_parts (not (is_of_place kind))
    (has_reason sheet season (full_question club direct Outside) zone reason) says in
    let asked = and_parts (is_place_asked direct kind place)
    (is_key_on_side kind bound (key_of sheet finish club)) holds in
    place_says sheet season club direct Outside zone reason finish lots limits results club_in
    member both.1 (past_direct direct place (candidate_place direct kind place both.0 asked.0))
group_reason_says direct sheet season kind club bound zone ByKey finish lots limits results club_in
    says member holds =
    let low = low_key sheet season zone club in
    let high = high_key sheet season zone club in
    let key = key_of sheet finish club in
    let both = and_parts (has_finish sheet season zone) (is_key_refuted kind bound low high) says in
    let asked = and_parts (is_place_asked direct kind (place_of sheet finish lots club))
    (is_key_on_side kind bound key) holds in
    let between = key_between sheet season club zone finish lots club member in
    key_says kind bound low key high between.0 between.1 both.1 asked.1

-- below a zone, a tree with a reason at each leaf leaves the question no member there
group_tree_says : (direct : ℕ) (sheet : Sheet) (season : Results) (question : GroupQuestion)
    (tree : GroupTree) (zone : List Literal) → IsWithinLimits sheet → are_results season ≡ true
    → question.club < length sheet.clubs → has_open_zone tree ≡ false
    → ZonesMeet
    (λ zone reason fresh. has_group_reason direct sheet season question zone reason ≡ true)
    (λ zone test fresh. Unit {0}) zone tree
    → (finish : Results) (lots : List ℕ) → IsMember sheet season question.club zone finish lots
    → holds_in_group direct sheet question finish lots ≡ true → ⊥
group_tree_says direct sheet season question open_zone zone limits results club_in refuted reasons
    finish lots member holds = false≢true (sym refuted)
group_tree_says direct sheet season question (refuted_zone reason fresh) zone limits results
    club_in refuted reasons finish lots member holds =
    group_reason_says direct sheet season question.kind question.club question.key zone reason
    finish lots limits results club_in reasons member holds
group_tree_says direct sheet season question (split_zone test fresh yes_half no_half) zone limits
    results club_in refuted reasons finish lots member holds =
    let both = neither_side (has_open_zone yes_half) (has_open_zone no_half) refuted in
    elim (either_half sheet season question.club zone test finish lots member) as (λ _. ⊥) [
      | inl within ↦ group_tree_says direct sheet season question yes_half
          (with_test zone test true) limits results club_in both.0 reasons.1 finish lots within
          holds
      | inr within ↦ group_tree_says direct sheet season question no_half
          (with_test zone test false) limits results club_in both.1 reasons.2 finish lots within
          holds
    ]

pub group_refuted : GroupRefutationsAreSound
group_refuted direct sheet season question tree limits results club_in is example =
    group_tree_says direct sheet season question tree [] limits results club_in is.refuted
    is.reasons example.0 example.1
    (record {
      is_finish = example.2.is_finish;
      is_drawn = example.2.is_drawn;
      literals = refl;
    })
    example.2.holds
