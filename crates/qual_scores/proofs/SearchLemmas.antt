-- The range of a search: how it begins, what an answer makes of it, and what is known at its end.
use Rattle.std.proofs.Common.{◌≡◌, ℕ, ℤ, pos, negsuc, ◌+ℤ◌, ◌≤ℤ◌, ◌<ℤ◌, [], ◌∷◌, refl, sym, ap, ◌∙◌}
use Rattle.std.proofs.Common.{subst, arith, inl, inr, int_le, false, Vec, Global, w32, to_z, of_z}
use Rattle.std.proofs.lemmas.Bool.{cases_Bool}
use Rattle.std.specs.Int.{int_max}
use Rattle.std.proofs.lemmas.Int.{ints, clamps}
use Rattle.league_core.specs.declared.sheet.Sheet.{Sheet}
use Rattle.league_core.specs.declared.question.Claim.{Claim}
use Rattle.league_core.specs.declared.question.Claim.TheVariants.{Inside, Outside}
use Rattle.league_core.specs.game.Results.{Results}
use Rattle.league_core.specs.search.PointRanges.{least_points_of, most_points_of}
use Rattle.qual_scores.specs.declared.point_range.PointRange.{PointRange}
use Rattle.qual_scores.specs.declared.window.ScoreQuery.{ScoreQuery}
use Rattle.qual_scores.specs.Scores.{question_between, CanBeInsideWith, IsInsideFrom, IsLeastOf}
use Rattle.qual_scores.specs.Scores.{HasNoPossibleScore}
use Rattle.qual_scores.specs.Bisections.{HoldsOfPoints, IsNotAbove, IsOnTheWay, at_first}
use Rattle.qual_scores.specs.Bisections.{to_lower_half, to_upper_half, IsMiddleOf, first_range}
use Rattle.qual_scores.specs.Bisections.{IsAskedHalfway, ShowsRange}
use Rattle.qual_scores.specs.Bounds.{IsRightBound}
use Rattle.qual_scores.specs.inside.Searching.{HoldsOf, IsNarrowed, IsFirstReach, IsWindowAnswer}
use Rattle.cert_text.specs.declared.proof_line.ProofLine.{ProofLine}
use Rattle.answer_rows.specs.declared.bound.Bound.{Bound}
use Rattle.answer_rows.specs.declared.bound.Bound.TheVariants.{Between}
use Rattle.qual_scores.specs.declared.window.WindowAnswer.{WindowAnswer}
use Rattle.qual_scores.specs.declared.window.WindowAnswer.TheVariants.{NotAbove, Above, Spent}
use Rattle.qual_scores.proofs.PointLemmas.{points_in_window, points_in_reach}
use Rattle.qual_scores.proofs.PointRangeLemmas.{middle_within, kept}
use Rattle.league_core.proofs.plain.Numbers.{int_le-to}

-- ---- the first ranges

-- nothing below the first range
pub first_below : (sheet : Sheet) (season : Results) (club line : ℕ) (claim : Claim) (points : ℤ)
    → HoldsOfPoints sheet season club line claim points
    → (first_range sheet season club claim).low ≤ℤ points
first_below sheet season club line Inside points (finish, lots, example) =
    let exact = question_between club line Inside points points in
    let own = points_in_window sheet season exact finish lots example in
    let reach = points_in_reach sheet season exact finish lots example in
    omega (arith, ints)
first_below sheet season club line Outside points (from, none) = from

-- a club is inside with no more points than it can reach
pub possible_most : (sheet : Sheet) (season : Results) (club line : ℕ) (points : ℤ)
    → CanBeInsideWith sheet season club line points
    → points ≤ℤ most_points_of sheet season [] (club ∷ [])
possible_most sheet season club line points (finish, lots, example) =
    let exact = question_between club line Inside points points in
    let own = points_in_window sheet season exact finish lots example in
    let reach = points_in_reach sheet season exact finish lots example in
    omega (arith, ints)

-- with more points than it can reach it is never outside
pub none_past_reach : (sheet : Sheet) (season : Results) (club line : ℕ) (high : ℤ) → pos 0 ≤ℤ high
    → (most_points_of sheet season [] (club ∷ []) +ℤ pos 1) ≤ℤ high
    → IsNotAbove (IsInsideFrom sheet season club line) high
none_past_reach sheet season club line high from past = (
  high,
  (
    from,
    λ finish lots example.
        let asked = question_between club line Outside high (pos 1800) in
        let own = points_in_window sheet season asked finish lots example in
        let reach = points_in_reach sheet season asked finish lots example in
        absurd (omega (arith, ints)),
  ),
  omega (arith, ints),
)

-- the first range of the possible score, once the window at its upper end has an example
pub first_possible : (sheet : Sheet) (season : Results) (club line : ℕ)
    → negsuc 98 ≤ℤ least_points_of sheet season [] (club ∷ [])
    → least_points_of sheet season [] (club ∷ []) ≤ℤ most_points_of sheet season [] (club ∷ [])
    → most_points_of sheet season [] (club ∷ []) ≤ℤ pos 1800
    → IsNotAbove (CanBeInsideWith sheet season club line)
    (most_points_of sheet season [] (club ∷ []))
    → IsNarrowed sheet season (record { club = club; line = line; claim = Inside })
    (first_range sheet season club Inside)
first_possible sheet season club line least in_order most found = record {
  on_the_way = at_first;
  not_above = found;
  none_below = first_below sheet season club line Inside;
  in_order = in_order;
  least = least;
  most = omega (arith, ints);
}

-- the first range of the guaranteed score
pub first_guaranteed : (sheet : Sheet) (season : Results) (club line : ℕ) (high : ℤ)
    → high ≡ int_max (pos 0) (most_points_of sheet season [] (club ∷ []) +ℤ pos 1)
    → pos 0 ≤ℤ high → (most_points_of sheet season [] (club ∷ []) +ℤ pos 1) ≤ℤ high
    → high ≤ℤ pos 1801
    → IsNarrowed sheet season (record { club = club; line = line; claim = Outside })
    (record { low = pos 0; high = high })
first_guaranteed sheet season club line high is from past most = record {
  on_the_way = subst (λ (h : ℤ). IsOnTheWay (IsInsideFrom sheet season club line)
      (first_range sheet season club Outside) (record { low = pos 0; high = h })) (sym is) at_first;
  not_above = none_past_reach sheet season club line high from past;
  none_below = first_below sheet season club line Outside;
  in_order = from;
  least = omega (arith, ints);
  most = most;
}

-- if the window at the upper end of the first range has no example there is no possible score
pub no_possible : (sheet : Sheet) (season : Results) (club line : ℕ)
    → ¬ IsNotAbove (CanBeInsideWith sheet season club line)
    (most_points_of sheet season [] (club ∷ []))
    → HasNoPossibleScore sheet season club line
no_possible sheet season club line above points can =
    above (points, can, possible_most sheet season club line points can)

-- ---- halving

pub lower_half : (sheet : Sheet) (season : Results) (sought : ScoreQuery) (range : PointRange)
    (middle : ℤ) → IsNarrowed sheet season sought range → range.low <ℤ range.high
    → IsMiddleOf range middle → IsNotAbove (HoldsOf sheet season sought) middle
    → IsNarrowed sheet season sought (record { low = range.low; high = middle })
lower_half sheet season sought range middle narrowed several is found =
    let within = middle_within range middle several is in
    let most = narrowed.most in
    record {
      on_the_way = to_lower_half range middle narrowed.on_the_way several is found;
      not_above = found;
      none_below = narrowed.none_below;
      in_order = within.least;
      least = narrowed.least;
      most = omega (arith, ints);
    }

pub upper_half : (sheet : Sheet) (season : Results) (sought : ScoreQuery) (range : PointRange)
    (middle : ℤ) → IsNarrowed sheet season sought range → range.low <ℤ range.high
    → IsMiddleOf range middle → ¬ IsNotAbove (HoldsOf sheet season sought) middle
    → IsNarrowed sheet season sought (record { low = middle +ℤ pos 1; high = range.high })
upper_half sheet season sought range middle narrowed several is above =
    let within = middle_within range middle several is in
    let least = narrowed.least in
    record {
      on_the_way = to_upper_half range middle narrowed.on_the_way several is above;
      not_above = narrowed.not_above;
      none_below = λ points holds.
          behind points middle (λ below. above (points, holds, below));
      in_order = omega (arith, ints);
      least = omega (arith, ints);
      most = narrowed.most;
    }
  where
    past : (a b : ℤ) → int_le a b ≡ false → (b +ℤ pos 1) ≤ℤ a
    past a b more = grind (arith, ints)

    behind : (a b : ℤ) → ¬ (a ≤ℤ b) → (b +ℤ pos 1) ≤ℤ a
    behind a b h =
        elim (cases_Bool (int_le a b)) as (λ _. (b +ℤ pos 1) ≤ℤ a) [
          | inl le ↦ absurd (h (int_le-to a b le))
          | inr more ↦ past a b more
        ]

-- ---- the end

-- a range of one number has the number
pub one_left : (sheet : Sheet) (season : Results) (sought : ScoreQuery) (range : PointRange)
    → IsNarrowed sheet season sought range → range.high ≤ℤ range.low
    → IsLeastOf (HoldsOf sheet season sought) range.low
one_left sheet season sought range narrowed one =
    let points = narrowed.not_above.0 in
    let most = narrowed.not_above.2 in
    let least = narrowed.none_below points narrowed.not_above.1 in
    let same : points ≡ range.low = omega (arith, ints) in
    record {
      holds = subst (λ (p : ℤ). HoldsOf sheet season sought p) same narrowed.not_above.1;
      least = narrowed.none_below;
    }

-- the number lies in a range on the way
pub lies_in : (sheet : Sheet) (season : Results) (sought : ScoreQuery) (range : PointRange)
    → IsNarrowed sheet season sought range → (number : ℤ)
    → IsLeastOf (HoldsOf sheet season sought) number
    → (range.low ≤ℤ number) × (number ≤ℤ range.high)
lies_in sheet season sought range narrowed number is =
    let below = is.least narrowed.not_above.0 narrowed.not_above.1 in
    let most = narrowed.not_above.2 in
    (narrowed.none_below number is.holds, omega (arith, ints))

-- and in the first range of the possible score
pub lies_in_first : (sheet : Sheet) (season : Results) (club line : ℕ) (number : ℤ)
    → IsLeastOf (CanBeInsideWith sheet season club line) number
    → (least_points_of sheet season [] (club ∷ []) ≤ℤ number)
    × (number ≤ℤ most_points_of sheet season [] (club ∷ []))
lies_in_first sheet season club line number is = (
  first_below sheet season club line Inside number is.holds,
  possible_most sheet season club line number is.holds,
)

-- a window question at the middle of a range on the way shows this range
pub shows_halfway : (sheet : Sheet) (season : Results) (sought : ScoreQuery) (range : PointRange)
    (middle : ℤ) → IsNarrowed sheet season sought range → range.low <ℤ range.high
    → IsMiddleOf range middle
    → ShowsRange sheet season sought.club sought.line sought.claim range middle
shows_halfway sheet season sought range middle narrowed several is =
    by_claim sought.claim
    (record { on_the_way = narrowed.on_the_way; several = several; middle = is })
  where
    by_claim : (claim : Claim)
        → IsAskedHalfway (HoldsOfPoints sheet season sought.club sought.line claim)
        (first_range sheet season sought.club claim) range middle
        → ShowsRange sheet season sought.club sought.line claim range middle
    by_claim Inside asked = inl asked
    by_claim Outside asked = asked

-- ---- with what was said

-- the lower half, if the number was said not to be above the middle
pub lower_from : (sheet : Sheet) (season : Results) (sought : ScoreQuery) (range : PointRange)
    (middle high : ℤ) (said : WindowAnswer) → IsNarrowed sheet season sought range
    → range.low <ℤ range.high → IsMiddleOf range middle
    → IsWindowAnswer sheet season sought middle said
    → said ≡ NotAbove → high ≡ middle
    → IsNarrowed sheet season sought (record { low = range.low; high = high })
lower_from sheet season sought range middle high said narrowed several is says not_above same =
    let found = subst (λ (s : WindowAnswer). IsWindowAnswer sheet season sought middle s) not_above
    says in
    subst (λ (h : ℤ). IsNarrowed sheet season sought (record { low = range.low; high = h }))
    (sym same) (lower_half sheet season sought range middle narrowed several is found)

-- the upper half, if it was said to be above
pub upper_from : (sheet : Sheet) (season : Results) (sought : ScoreQuery) (range : PointRange)
    (middle low : ℤ) (said : WindowAnswer) → IsNarrowed sheet season sought range
    → range.low <ℤ range.high → IsMiddleOf range middle
    → IsWindowAnswer sheet season sought middle said
    → said ≡ Above → low ≡ middle +ℤ pos 1
    → IsNarrowed sheet season sought (record { low = low; high = range.high })
upper_from sheet season sought range middle low said narrowed several is says is_above same =
    let above = subst (λ (s : WindowAnswer). IsWindowAnswer sheet season sought middle s) is_above
    says in
    subst (λ (l : ℤ). IsNarrowed sheet season sought (record { low = l; high = range.high }))
    (sym same) (upper_half sheet season sought range middle narrowed several is above)

-- the range that is left, if a budget was spent halfway
pub spent_halfway : (sheet : Sheet) (season : Results) (sought : ScoreQuery) (range : PointRange)
    (middle : ℤ) (said : WindowAnswer) (lines : Vec ProofLine Global) (bound : Bound)
    → IsNarrowed sheet season sought range → range.low <ℤ range.high → IsMiddleOf range middle
    → IsWindowAnswer sheet season sought middle said → said ≡ Spent lines
    → bound ≡ Between range.low range.high lines
    → IsRightBound sheet season sought.club sought.line sought.claim bound
spent_halfway sheet season sought range middle said lines bound narrowed several is says spent
    same =
    let shown = subst (λ (s : WindowAnswer). IsWindowAnswer sheet season sought middle s) spent says
    in
    subst (λ (b : Bound). IsRightBound sheet season sought.club sought.line sought.claim b)
    (sym same) (record {
      asked = middle;
      shows = shows_halfway sheet season sought range middle narrowed several is;
      spent = shown.0;
      in_range = shown.1;
      lies_there = lies_in sheet season sought range narrowed;
    })

-- or at the upper end of the first range
pub spent_first : (sheet : Sheet) (season : Results) (club line : ℕ) (reach : PointRange)
    (said : WindowAnswer) (lines : Vec ProofLine Global) (bound : Bound)
    → IsFirstReach sheet season club reach
    → IsWindowAnswer sheet season (record { club = club; line = line; claim = Inside }) reach.high
    said
    → said ≡ Spent lines → bound ≡ Between reach.low reach.high lines
    → IsRightBound sheet season club line Inside bound
spent_first sheet season club line reach said lines bound of_club says spent same =
    let sought : ScoreQuery = record { club = club; line = line; claim = Inside } in
    let shown = subst (λ (s : WindowAnswer). IsWindowAnswer sheet season sought reach.high s) spent
    says in
    subst (λ (b : Bound). IsRightBound sheet season club line Inside b) (sym same) (record {
      asked = reach.high;
      shows = inr (record { is_first = of_club.is; at_high = refl });
      spent = shown.0;
      in_range = shown.1;
      lies_there = λ number is.
          subst (λ (range : PointRange). (range.low ≤ℤ number) × (number ≤ℤ range.high))
          (sym of_club.is) (lies_in_first sheet season club line number is);
    })

-- the first range of the possible score, once the window at its upper end was said to hold
pub reach_narrowed : (sheet : Sheet) (season : Results) (club line : ℕ) (reach : PointRange)
    (said : WindowAnswer) → IsFirstReach sheet season club reach
    → IsWindowAnswer sheet season (record { club = club; line = line; claim = Inside }) reach.high
    said
    → said ≡ NotAbove
    → IsNarrowed sheet season (record { club = club; line = line; claim = Inside }) reach
reach_narrowed sheet season club line reach said of_club says not_above =
    let sought : ScoreQuery = record { club = club; line = line; claim = Inside } in
    let found = subst (λ (s : WindowAnswer). IsWindowAnswer sheet season sought reach.high s)
    not_above says in
    let first = first_range sheet season club Inside in
    let least = ap (λ (range : PointRange). range.low) of_club.is in
    let most = ap (λ (range : PointRange). range.high) of_club.is in
    let from = of_club.least in
    let upto = of_club.most in
    let order = of_club.in_order in
    subst (λ (range : PointRange). IsNarrowed sheet season sought range) (sym of_club.is)
    (first_possible sheet season club line (omega (arith, ints)) (omega (arith, ints))
    (omega (arith, ints))
    (subst (λ (range : PointRange).
    IsNotAbove (CanBeInsideWith sheet season club line) range.high) of_club.is found))

-- there is no possible score, if it was said to be above this
pub reach_none : (sheet : Sheet) (season : Results) (club line : ℕ) (reach : PointRange)
    (said : WindowAnswer) → IsFirstReach sheet season club reach
    → IsWindowAnswer sheet season (record { club = club; line = line; claim = Inside }) reach.high
    said
    → said ≡ Above → HasNoPossibleScore sheet season club line
reach_none sheet season club line reach said of_club says is_above =
    let sought : ScoreQuery = record { club = club; line = line; claim = Inside } in
    let above = subst (λ (s : WindowAnswer). IsWindowAnswer sheet season sought reach.high s)
    is_above says in
    no_possible sheet season club line
    (subst (λ (range : PointRange).
    ¬ IsNotAbove (CanBeInsideWith sheet season club line) range.high) of_club.is above)

above_nothing : (z h : ℤ) → h ≡ int_max z (pos 0) → pos 0 ≤ℤ h
above_nothing z h same = omega (arith, ints, clamps)

at_most : (z h : ℤ) → h ≡ int_max z (pos 0) → z ≤ℤ pos 1801 → h ≤ℤ pos 1801
at_most z h same bound = omega (arith, ints, clamps)

-- one point more than can be reached, and 0 at least, is read back as it is written
pub max_kept : (z h : ℤ) → h ≡ int_max z (pos 0) → z ≤ℤ pos 1801 → to_z w32 (of_z w32 h) ≡ h
max_kept z h same bound =
    let least = above_nothing z h same in
    let most = at_most z h same bound in
    kept h (omega (arith, ints)) (omega (arith, ints))

-- the first range of the guaranteed score
pub past_reach : (sheet : Sheet) (season : Results) (club line : ℕ) (reach : PointRange) (high : ℤ)
    → IsFirstReach sheet season club reach → high ≡ int_max (reach.high +ℤ pos 1) (pos 0)
    → IsNarrowed sheet season (record { club = club; line = line; claim = Outside })
    (record { low = pos 0; high = high })
past_reach sheet season club line reach high of_club is =
    let most = ap (λ (range : PointRange). range.high) of_club.is in
    let upto = of_club.most in
    let turned = turn (reach.high +ℤ pos 1) in
    let from : pos 0 ≤ℤ high = above_nothing (reach.high +ℤ pos 1) high is in
    let past : (reach.high +ℤ pos 1) ≤ℤ high = above_reach (reach.high +ℤ pos 1) high is in
    let few : high ≤ℤ pos 1801 =
    at_most (reach.high +ℤ pos 1) high is (omega (arith, ints)) in
    first_guaranteed sheet season club line high
    (is ∙ turned ∙ ap (λ (z : ℤ). int_max (pos 0) (z +ℤ pos 1)) most) from
    (omega (arith, ints)) few
  where
    turn : (z : ℤ) → int_max z (pos 0) ≡ int_max (pos 0) z
    turn z = omega (arith, ints, clamps)

    above_reach : (z h : ℤ) → h ≡ int_max z (pos 0) → z ≤ℤ h
    above_reach z h same = omega (arith, ints, clamps)
