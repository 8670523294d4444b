-- The step from one finish to the next, fixture by fixture.
use Rattle.std.proofs.Common.{◌≡◌, ℕ, ◌+◌, ◌*◌, ◌<◌, ◌≤◌, Bool, true, false, cond, nat_le, length}
use Rattle.std.proofs.Common.{get_or, set, Option, Some, None, is_some, refl, sym, ap, ◌∙◌, subst}
use Rattle.std.proofs.Common.{arith}
use Rattle.std.proofs.lemmas.Bool.{false≢true, and_parts, and_from, le-leb, leb-true}
use Rattle.std.proofs.lemmas.List.{take_all}
use Rattle.league_core.specs.declared.sheet.Sheet.{Sheet}
use Rattle.league_core.specs.declared.season.Score.{Score}
use Rattle.league_core.specs.game.Results.{Results, is_score}
use Rattle.league_core.specs.game.Finishes.{may_end, IsFinishOf}
use Rattle.league_core.specs.inside.FinishList.{ways_to_end, ways_to_finish, end_number, number_of}
use Rattle.reference_programs.specs.inside.Walks.{count_of_finishes, number_in, IsNumbered}
use Rattle.reference_programs.specs.inside.Walks.{ways_before}
use Rattle.reference_programs.specs.inside.Walks.{Turns, GoesOn}
use Rattle.reference_programs.proofs.WaysLemmas.{ways_to_finish-take_more}
use Rattle.reference_programs.proofs.NumberLemmas.{may_all_end-set, number_of-set, number_in-lt}

-- a played fixture may end in one way
pub ways_to_end-played : (limit : ℕ) (played : Option Score) → is_some played ≡ true
    → ways_to_end limit played ≡ 1
ways_to_end-played limit None some = absurd (false≢true some)
ways_to_end-played limit (Some score) some = refl

-- what is not some is none
pub is_none : (played : Option Score) → is_some played ≡ false → played ≡ None
is_none None none = refl
is_none (Some score) none = absurd (false≢true (sym none))

-- an end that may be within the limits is a score that a season may take
pub is_score_within : (limit : ℕ) (score : Score) → limit ≤ 20
    → may_end limit None (Some score) ≡ true → is_score score ≡ true
is_score_within limit score small may =
    let parts = and_parts (nat_le score.home limit) (nat_le score.away limit) may in
    let home = leb-true score.home limit parts.0 in
    let away = leb-true score.away limit parts.1 in
    and_from (nat_le score.home 99) (nat_le score.away 99) (le-leb score.home 99 (omega arith))
    (le-leb score.away 99 (omega arith))

-- the wheel of a played fixture has one mark
pub turns-played : (sheet : Sheet) (season finish : Results) (fixture : ℕ)
    → fixture < length season.scores → is_some (get_or season.scores fixture None) ≡ true
    → Turns sheet season fixture finish finish true
turns-played sheet season finish fixture within some =
    let more = ways_to_finish-take_more sheet.goal_limit season.scores fixture within in
    let one = ways_to_end-played sheet.goal_limit (get_or season.scores fixture None) some in
    let scaled = ap (λ n. ways_before sheet season fixture * n) one in
    omega arith

-- a finish in which an open fixture ends otherwise
pub finish_with : (sheet : Sheet) (season finish new : Results) (fixture : ℕ)
    (ended : Option Score) → IsFinishOf sheet season finish
    → get_or season.scores fixture None ≡ None → may_end sheet.goal_limit None ended ≡ true
    → new ≡ record finish { scores = set finish.scores fixture ended }
    → IsFinishOf sheet season new
finish_with sheet season finish new fixture ended is_finish unplayed may is =
    let P : Results → Type 0 = λ r. IsFinishOf sheet season r in
    let Q : Option Score → Type 0 = λ o. may_end sheet.goal_limit o ended ≡ true in
    subst P (sym is) (record {
      deductions = is_finish.deductions;
      scores = may_all_end-set sheet.goal_limit season.scores finish.scores fixture ended
          is_finish.scores (subst Q (sym unplayed) may);
    })

-- the numbers of a turn, as products of the ways before the fixture
turned : (before limit old new mark next : ℕ) (round : Bool)
    → new + mark * before ≡ old + next * before
    → next + cond round (ways_to_end limit None) 0 ≡ mark + 1
    → (round ≡ true → new + before * ways_to_end limit None ≡ old + before)
    × (round ≡ false → new ≡ old + before)
turned before limit old new mark next true moved is = (
  λ _.
      let scaled = ap (λ n. n * before) is in
      omega arith,
  λ out. absurd (false≢true (sym out)),
)
turned before limit old new mark next false moved is = (
  λ out. absurd (false≢true out),
  λ _.
      let scaled = ap (λ n. n * before) is in
      omega arith,
)

-- the wheel of an open fixture turns by one mark
pub turns-open : (sheet : Sheet) (season finish new : Results) (fixture : ℕ)
    (ended next : Option Score) (round : Bool) → IsFinishOf sheet season finish
    → fixture < length season.scores → get_or season.scores fixture None ≡ None
    → ended ≡ get_or finish.scores fixture None
    → end_number sheet.goal_limit None next + cond round (ways_to_end sheet.goal_limit None) 0
    ≡ end_number sheet.goal_limit None ended + 1
    → new ≡ record finish { scores = set finish.scores fixture next }
    → Turns sheet season fixture finish new round
turns-open sheet season finish new fixture ended next round is_finish within unplayed ended_is
    number is =
    let limit = sheet.goal_limit in
    let before = ways_before sheet season fixture in
    let set_number = number_of-set limit season.scores finish.scores fixture next is_finish.scores
    within in
    let N : Option Score → Type 0 = λ o.
    number_of limit season.scores (set finish.scores fixture next)
    + end_number limit o (get_or finish.scores fixture None) * before
    ≡ number_of limit season.scores finish.scores + end_number limit o next * before in
    let E : Option Score → Type 0 = λ o.
    number_of limit season.scores (set finish.scores fixture next)
    + end_number limit None o * before
    ≡ number_of limit season.scores finish.scores + end_number limit None next * before in
    let R : Results → Type 0 = λ r.
    number_in sheet season r + end_number limit None ended * before
    ≡ number_in sheet season finish + end_number limit None next * before in
    let moved = subst R (sym is) (subst E (sym ended_is) (subst N unplayed set_number)) in
    let more = ways_to_finish-take_more limit season.scores fixture within in
    let W : Option Score → Type 0 = λ o. ways_before sheet season (fixture + 1) ≡ before *
    ways_to_end limit o in
    let ways = subst W unplayed more in
    let both = turned before limit (number_in sheet season finish) (number_in sheet season new)
    (end_number limit None ended) (end_number limit None next) round moved number in
    by_round round both.0 both.1 ways
  where
    by_round : (round : Bool)
        → (round ≡ true → number_in sheet season new
        + ways_before sheet season fixture * ways_to_end sheet.goal_limit None
        ≡ number_in sheet season finish + ways_before sheet season fixture)
        → (round ≡ false → number_in sheet season new
        ≡ number_in sheet season finish + ways_before sheet season fixture)
        → ways_before sheet season (fixture + 1)
        ≡ ways_before sheet season fixture * ways_to_end sheet.goal_limit None
        → Turns sheet season fixture finish new round
    by_round true at_round on ways =
        ap (λ n. number_in sheet season new + n) ways ∙ at_round refl
    by_round false at_round on ways = on refl

-- a finish whose first wheels are all round, where one more step moves the next wheel
pub record IsTurning (sheet : Sheet) (season old : Results) (fixture : ℕ) (finish : Results) : Type
    0 where
  pub is_finish : IsFinishOf sheet season finish
  pub number : number_in sheet season finish + ways_before sheet season fixture ≡ number_in sheet
      season old + 1

-- a wheel that has not come round ends the step
pub goes_on : (sheet : Sheet) (season old finish new : Results) (fixture : ℕ) (round : Bool)
    → IsTurning sheet season old fixture finish → IsFinishOf sheet season new
    → Turns sheet season fixture finish new round → round ≡ false
    → GoesOn sheet season old new true
goes_on sheet season old finish new fixture round turning is_finish turns is =
    let P : Bool → Type 0 = λ b. Turns sheet season fixture finish new b in
    let on : number_in sheet season new
    ≡ number_in sheet season finish + ways_before sheet season fixture = subst P is turns in
    record { is_finish = is_finish; stands = on ∙ turning.number }

-- if all wheels are round the finish was the last
pub goes_round : (sheet : Sheet) (season old finish : Results) (fixture : ℕ)
    → IsFinishOf sheet season old → IsTurning sheet season old fixture finish
    → length season.scores ≤ fixture → GoesOn sheet season old finish false
goes_round sheet season old finish fixture old_is turning past =
    let all : ways_before sheet season fixture ≡ count_of_finishes sheet season =
    ap (ways_to_finish sheet.goal_limit) (take_all fixture season.scores past) in
    let low = number_in-lt sheet season old old_is in
    let number = turning.number in
    (omega arith, record { is_finish = turning.is_finish; stands = omega arith })

-- the answer true means that the next finish stands there
pub stepped : (sheet : Sheet) (season old new : Results) (on : Bool)
    → GoesOn sheet season old new on → on ≡ true
    → IsNumbered sheet season (number_in sheet season old + 1) new
stepped sheet season old new on goes is =
    let P : Bool → Type 0 = λ b. GoesOn sheet season old new b in subst P is goes

-- and the answer false that there was none
pub ended : (sheet : Sheet) (season old new : Results) (on : Bool)
    → GoesOn sheet season old new on → on ≡ false
    → number_in sheet season old + 1 ≡ count_of_finishes sheet season
ended sheet season old new on goes is =
    let P : Bool → Type 0 = λ b. GoesOn sheet season old new b in
    let both : (number_in sheet season old + 1 ≡ count_of_finishes sheet season)
    × IsNumbered sheet season 0 new = subst P is goes in
    both.0
