use Rattle.std.proofs.Common.{rules, ◌≡◌, ℕ, ◌+◌, ℤ, FitsSigned, to_z, of_z, w32, slice_set, sym}
use Rattle.std.proofs.Common.{subst, ◌∙◌}
use Rattle.std.proofs.lemmas.Bool.{false≢true}
use Rattle.std.proofs.lemmas.Int.{to_z-of_z}
use Rattle.club_keys.specs.inside.KeyEnds.{key_parts}
use Rattle.turning_keys.specs.inside.TurningSearches.{range_spanned, IsKnownTo, IsReachedWithin}
use Rattle.turning_keys.proofs.FindLemmas.{one_left, not_several}
use Rattle.turning_keys.proofs.narrow.narrow.Goals as goal

pub returns : goal.returns
returns c =
    let sheet = c.args.sheet.now in
    let season = c.args.season.now in
    let claim = c.args.sought.claim in
    let club = c.args.sought.club in
    let reached = c.loop-alloc.reached in
    let range = c.loop-alloc.range in
    let fits : FitsSigned w32 c.first.result = search rules in
    let part = to_z w32 (of_z w32 c.first.result) in
    let is : part ≡ range.least = to_z-of_z w32 c.first.result fits ∙ c.first.ensures in
    let one = not_several range.least range.greatest
    (λ several. false≢true (sym c.loop-alloc-test.false ∙ c.has_several.ensures.1 several)) in
    let left = one_left sheet season claim club c.requires.league.limits
    c.scores-scores.ensures.within c.requires.in_range reached (range_spanned range)
    c.loop-alloc.invariant.0 one in
    let key : ℤ → _ = λ (it : ℤ). slice_set (key_parts reached.key) reached.known it in (
      c.loop-alloc.invariant.1,
      subst (λ (n : ℕ). IsKnownTo sheet season claim club (n + 1) (key part))
          c.loop-alloc.invariant.1
          (subst (λ (it : ℤ). IsKnownTo sheet season claim club (reached.known + 1) (key it))
          (sym is) left.0),
      subst (λ (it : ℤ). IsReachedWithin sheet season claim club (key it) reached.example) (sym is)
          left.1,
    )
