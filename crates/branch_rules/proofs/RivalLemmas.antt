-- If no rival is left unmarked, all are marked.
use Rattle.std.proofs.Common.{◌≡◌, ℕ, Bool, true, false, not, ◌&&◌, ◌||◌, ◌==◌, nat_lt, List, []}
use Rattle.std.proofs.Common.{length, refl, sym, ap, ◌∙◌, arith}
use Rattle.std.specs.List.{range_with_len}
use Rattle.std.proofs.lemmas.Bool.{false≢true, true≢false, lt-ltb}
use Rattle.league_core.specs.declared.sheet.Sheet.{Sheet}
use Rattle.league_core.specs.declared.question.Question.{Question}
use Rattle.league_core.specs.declared.zone.Literal.{Literal}
use Rattle.league_core.specs.game.Sums.{has_club}
use Rattle.league_core.specs.search.Zones.{is_marked}
use Rattle.league_core.specs.search.Splits.{are_all_marked}
use Rattle.league_core.proofs.plain.Runs.{all_in_range}
use Rattle.league_core.proofs.plain.Filters.{list_all-filter}

-- a rival that is a club and not unmarked is marked
marked_of : (a b c : Bool) → (a && b && not c) ≡ false → a ≡ true → (not b || c) ≡ true
marked_of true true true not_all is = refl
marked_of true true false not_all is = absurd (true≢false not_all)
marked_of true false c not_all is = refl
marked_of false b c not_all is = absurd (false≢true is)

pub all_are_marked : (sheet : Sheet) (question : Question) (zone : List Literal) (found : List ℕ)
    → ((rival : ℕ) → has_club found rival
    ≡ (nat_lt rival (length sheet.clubs) && not (rival == question.club)
    && not (is_marked zone rival)))
    → found ≡ [] → are_all_marked sheet question zone ≡ true
all_are_marked sheet question zone found are none =
    list_all-filter (is_marked zone) (λ x. not (x == question.club)) (range_with_len 0 (length
    sheet.clubs))
    (all_in_range (λ x. not (not (x == question.club)) || is_marked zone x) 0 (length sheet.clubs)
    (λ x low high.
    marked_of (nat_lt x (length sheet.clubs)) (not (x == question.club)) (is_marked zone x)
    (sym (are x) ∙ ap (λ xs. has_club xs x) none) (lt-ltb x (length sheet.clubs) (omega arith))))
