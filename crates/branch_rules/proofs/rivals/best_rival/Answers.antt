use Rattle.std.proofs.Common.{◌≡◌, ◌⊎◌, inl, inr, ℕ, true, not, ◌&&◌, List, sym, ap, ◌∙◌}
use Rattle.std.proofs.lemmas.Bool.{and_parts}
use Rattle.league_core.specs.game.Sums.{has_club}
use Rattle.league_core.specs.game.ClubSets.{clubs_in}
use Rattle.league_core.proofs.ClubCountLemmas.{member_below}
use Rattle.league_core.proofs.WalkLemmas.{comes_to}
use Rattle.branch_rules.specs.declared.rivals.Ranked.{Ranked}
use Rattle.branch_rules.proofs.rivals.best_rival.Goals as goal

-- what is in a set without some clubs is in the set
in_whole : (whole single rest : List ℕ)
    → ((x : ℕ) → has_club rest x ≡ (has_club whole x && not (has_club single x)))
    → (x : ℕ) → has_club rest x ≡ true → has_club whole x ≡ true
in_whole whole single rest is x has =
    (and_parts (has_club whole x) (not (has_club single x)) (sym (is x) ∙ has)).0

-- the higher of two rivals is a rival
one_of : (set : List ℕ) (best other result : Ranked) → (result ≡ best) ⊎ (result ≡ other)
    → has_club set best.club ≡ true → has_club set other.club ≡ true
    → has_club set result.club ≡ true
one_of set best other result (inl is) first second =
    ap (λ (r : Ranked). has_club set r.club) is ∙ first
one_of set best other result (inr is) first second =
    ap (λ (r : Ranked). has_club set r.club) is ∙ second

pub ranked-best-requires-clause-in_range : goal.ranked-best-requires-clause-in_range
ranked-best-requires-clause-in_range c =
    c.requires.in_range c.first_club-first.result c.first_club-first.ensures.member

pub single-requires : goal.single-requires
single-requires c =
    member_below c.args.rivals c.first_club-first.result c.first_club-first.ensures.member

pub loop-rival-init : goal.loop-rival-init
loop-rival-init c =
    ap (has_club (clubs_in c.args.rivals)) c.ranked-best.ensures
    ∙ c.first_club-first.ensures.member

pub ranked-requires-clause-in_range : goal.ranked-requires-clause-in_range
ranked-requires-clause-in_range c =
    let met = comes_to c.without.result c.loop-rival.yielded c.in-Some.rival
    (c.into_iter-rival-iterator.ensures.into_iter_gives ∙ c.clubs-rival-items.ensures.all)
    c.loop-rival.yielded_by c.in-Some.ensures.steps in
    c.requires.in_range c.in-Some.rival
    (in_whole (clubs_in c.args.rivals) (clubs_in c.single.result) (clubs_in c.without.result)
    c.without.ensures c.in-Some.rival met.among)

pub loop-rival-preserved : goal.loop-rival-preserved
loop-rival-preserved c =
    let met = comes_to c.without.result c.loop-rival.yielded c.in-Some.rival
    (c.into_iter-rival-iterator.ensures.into_iter_gives ∙ c.clubs-rival-items.ensures.all)
    c.loop-rival.yielded_by c.in-Some.ensures.steps in
    one_of (clubs_in c.args.rivals) c.loop-rival.best c.ranked.result
    c.higher-best.result c.higher-best.ensures c.loop-rival.invariant
    (ap (has_club (clubs_in c.args.rivals)) c.ranked.ensures
    ∙ in_whole (clubs_in c.args.rivals) (clubs_in c.single.result) (clubs_in c.without.result)
    c.without.ensures c.in-Some.rival met.among)
