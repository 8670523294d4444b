-- Equal codes mean equal scores, since both seasons have scores that may be.
use Rattle.std.proofs.Common.{◌≡◌, ◌∙◌, sym, ap, map}
use Rattle.league_core.specs.game.Results.{Results}
use Rattle.league_core.specs.inside.ScoreCodes.{score_code}
use Rattle.league_core.proofs.ScoreCodeLemmas.{codes_name_results}
use Rattle.league_core.proofs.season.Season.equals.Goals as goal

pub returns-then-same_codes : goal.returns-then-same_codes
returns-then-same_codes c =
    let season : Results = record {
      scores = c.self.inside.scores.items;
      deductions = c.self.inside.deductions.items;
    } in
    let other : Results = record {
      scores = c.other.inside.scores.items;
      deductions = c.other.inside.deductions.items;
    } in
    let codes : map score_code season.scores ≡ map score_code other.scores =
    sym c.self.invariant.1
    ∙ sym c.as_slice.ensures.value
    ∙ c.same_codes.ensures.0 c.if-same_codes.true
    ∙ c.as_slice-2.ensures.value
    ∙ c.other.invariant.1 in
    let this : c.args.self.now ≡ season = sym c.self.view_is in
    let that : c.args.other.now ≡ other = sym c.other.view_is in
    let points = c.same_points.ensures in
    let one = c.as_slice-then-same_codes.ensures.value in
    let two = c.as_slice-then-same_codes-2.ensures.value in (
      λ same.
          this
          ∙ codes_name_results season other c.self.invariant.0 c.other.invariant.0 codes
          (sym one ∙ points.0 same ∙ two)
          ∙ sym that,
      λ same. points.1
          (one ∙ ap (λ (s : Results). s.deductions) (sym this ∙ same ∙ that) ∙ sym two),
    )
