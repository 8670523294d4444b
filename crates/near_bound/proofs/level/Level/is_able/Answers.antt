use Rattle.std.proofs.Common.{◌&&◌, length, ap, ◌∙◌}
use Rattle.std.proofs.lemmas.Bool.{lt-ltb}
use Rattle.near_bound.specs.inside.AbleRivals.{is_able_in}
use Rattle.near_bound.proofs.level.Level.is_able.Goals as goal

pub returns : goal.returns
returns c = λ zone is.
    let tie = c.args.self.now.tie in
    c.has.ensures ∙ c.requires.level.able zone is c.args.club
    ∙ ap (λ b. b && is_able_in tie zone c.args.club)
    (lt-ltb c.args.club (length tie.left.now.sheet.now.clubs) c.requires.in_range)
