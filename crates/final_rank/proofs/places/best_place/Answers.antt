use Rattle.std.proofs.Common.{ap}
use Rattle.final_rank.proofs.PlaceLemmas.{best_is}
use Rattle.final_rank.proofs.places.best_place.Goals as goal

pub returns : goal.returns
returns c =
    let sheet = c.args.sheet.now in
    let season = c.args.season.now in
    let club = c.args.club in
    let span = c.span.ensures sheet season club c.requires.league.limits c.requires.in_range
    c.in_ok-around.ensures in
    best_is sheet season club c.span.result.best c.requires.in_range (ap (λ s. s.best) span)
