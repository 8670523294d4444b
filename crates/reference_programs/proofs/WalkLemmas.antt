-- What a walk knows of the clubs' reaches, finish by finish.
use Rattle.std.proofs.Common.{◌≡◌, inl, inr, ℕ, ◌+◌, ◌<◌, List, [], ◌∷◌, ◌++◌, length, get_or}
use Rattle.std.proofs.Common.{sym, ap, ◌∙◌, subst, arith}
use Rattle.std.proofs.lemmas.Bool.{cases_lt}
use Rattle.std.proofs.lemmas.List.{length-map, get_or-map}
use Rattle.std.proofs.lemmas.List.FromFn.{length-map-range_with_len, get_or-map-range_with_len}
use Rattle.league_core.specs.declared.sheet.Sheet.{Sheet}
use Rattle.league_core.specs.game.Results.{Results}
use Rattle.league_core.specs.game.Finishes.{IsFinishOf}
use Rattle.reference_programs.specs.declared.reach.Reach.{Reach}
use Rattle.final_rank.specs.declared.span.PlaceRange.{PlaceRange}
use Rattle.reference_programs.specs.inside.Walks.{count_of_finishes, number_in, IsNumbered}
use Rattle.final_rank.specs.inside.Spans.{span_of, spans_of}
use Rattle.reference_programs.specs.inside.Reaches.{IsReachOver, AreReachesOver, AreReaches}
use Rattle.reference_programs.specs.inside.Reaches.{IsBefore}
use Rattle.reference_programs.specs.inside.Reaches.{reach_at, first_reaches_of, with_finish}
use Rattle.reference_programs.specs.inside.Reaches.{TakesFinish}
use Rattle.reference_programs.proofs.NumberLemmas.{number_in-lt, number_in-same}
use Rattle.reference_programs.proofs.OneMoreLemmas.{reach_of_one, IsOneMore, reach_more}

-- the finishes before a number, and the one of that number
one_more : (sheet : Sheet) (season finish : Results) (number : ℕ)
    → IsNumbered sheet season number finish
    → IsOneMore (IsBefore sheet season number) (IsBefore sheet season (number + 1)) finish
one_more sheet season finish number is = record {
  old = λ other before.
      let low = before.number in
      record { is_finish = before.is_finish; number = omega arith };
  new = let at = is.stands in record { is_finish = is.is_finish; number = omega arith };
  split = λ other before. elim (cases_lt (number_in sheet season other) number) [
    | inl low ↦ inl (record { is_finish = before.is_finish; number = low })
    | inr high ↦
        let at = is.stands in
        let low = before.number in
        inr (number_in-same sheet season other finish before.is_finish is.is_finish (omega arith))
  ];
}

get_or-spans_of : (sheet : Sheet) (finish : Results) (club : ℕ) (blank : PlaceRange)
    → club < length sheet.clubs
    → get_or (spans_of sheet finish) club blank ≡ span_of sheet finish club
get_or-spans_of sheet finish club blank below =
    get_or-map-range_with_len (span_of sheet finish) 0 (length sheet.clubs) club club blank
    (omega arith) (omega arith)

pub length-spans_of : (sheet : Sheet) (finish : Results)
    → length (spans_of sheet finish) ≡ length sheet.clubs
length-spans_of sheet finish =
    length-map-range_with_len (span_of sheet finish) 0 (length sheet.clubs)

-- at the first finish the reaches are those over it alone
pub reaches_first : (sheet : Sheet) (season finish : Results) (reaches : List Reach)
    → IsNumbered sheet season 0 finish → reaches ≡ first_reaches_of sheet finish
    → AreReachesOver (IsBefore sheet season (number_in sheet season finish + 1)) sheet reaches
reaches_first sheet season finish reaches is are =
    let Passes = IsBefore sheet season (number_in sheet season finish + 1) in
    let P : List Reach → Type 0 = λ rs. AreReachesOver Passes sheet rs in
    let at : PlaceRange → Reach = λ span. reach_at span finish in
    let many = length-spans_of sheet finish in
    subst P (sym are) (record {
      clubs = length-map (spans_of sheet finish) at ∙ many;
      each = λ club none below.
          let within : club < length (spans_of sheet finish) =
          omega (arith, length-map (spans_of sheet finish) at) in
          let blank : PlaceRange = record { best = 0; worst = 0 } in
          let read = get_or-map at (spans_of sheet finish) club blank none within
          ∙ ap at (get_or-spans_of sheet finish club blank (omega arith)) in
          let R : Reach → Type 0 = λ r. IsReachOver Passes sheet club r in
          subst R (sym read)
          (reach_of_one Passes sheet club finish
          (record { is_finish = is.is_finish; number = omega arith })
          (λ other before.
          let low = before.number in
          let first = is.stands in
          number_in-same sheet season other finish before.is_finish is.is_finish (omega arith)));
    })

-- each finish more is taken into them
pub reaches_more : (sheet : Sheet) (season finish next : Results) (old new : List Reach)
    (spans : List PlaceRange) → IsNumbered sheet season (number_in sheet season finish + 1) next
    → AreReachesOver (IsBefore sheet season (number_in sheet season finish + 1)) sheet old
    → spans ≡ spans_of sheet next → TakesFinish old new spans next
    → AreReachesOver (IsBefore sheet season (number_in sheet season next + 1)) sheet new
reaches_more sheet season finish next old new spans is are spans_are takes =
    let bound = number_in sheet season finish + 1 in
    let N : ℕ → Type 0 = λ n. AreReachesOver (IsBefore sheet season (n + 1)) sheet new in
    subst N (sym is.stands) (record {
      clubs = takes.as_many ∙ are.clubs;
      each = λ club none below.
          let many = takes.as_many in
          let all = are.clubs in
          let blank : PlaceRange = record { best = 0; worst = 0 } in
          let reach = get_or old club none in
          let taken = takes.each club none blank (omega arith)
          ∙ ap (λ xs. with_finish reach (get_or xs club blank) next) spans_are
          ∙ ap (λ span. with_finish reach span next)
          (get_or-spans_of sheet next club blank (omega arith)) in
          let R : Reach → Type 0 = λ r. IsReachOver (IsBefore sheet season (bound + 1)) sheet club
          r in
          subst R (sym taken)
          (reach_more (IsBefore sheet season bound) (IsBefore sheet season (bound + 1)) sheet club
          next
          reach (one_more sheet season next bound is) (are.each club none (omega arith)));
    })

-- after the last finish they are the reaches over all
pub reaches_all : (sheet : Sheet) (season finish : Results) (reaches : List Reach)
    → number_in sheet season finish + 1 ≡ count_of_finishes sheet season
    → AreReachesOver (IsBefore sheet season (number_in sheet season finish + 1)) sheet reaches
    → AreReaches sheet season reaches
reaches_all sheet season finish reaches last are = record {
  clubs = are.clubs;
  each = λ club none below.
      let is = are.each club none below in
      record {
        best_passes = is.best_passes.is_finish;
        best = is.best;
        none_better = λ other passes. is.none_better other (before other passes);
        worst_passes = is.worst_passes.is_finish;
        worst = is.worst;
        none_worse = λ other passes. is.none_worse other (before other passes);
      };
}
  where
    before : (other : Results) → IsFinishOf sheet season other
        → IsBefore sheet season (number_in sheet season finish + 1) other
    before other passes =
        let low = number_in-lt sheet season other passes in
        record { is_finish = passes; number = omega arith }
