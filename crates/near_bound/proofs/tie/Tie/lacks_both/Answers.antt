use Rattle.std.proofs.Common.{◌∷◌, [], not, get_or, ap}
use Rattle.near_bound.specs.inside.Ties.{fits_of}
use Rattle.near_bound.proofs.TieLemmas.{joined_left}
use Rattle.near_bound.proofs.tie.Tie.lacks_both.Goals as goal

pub returns : goal.returns
returns c = λ zone is.
    let tie = c.args.self.now in
    let clubs = c.args.club ∷ c.args.rival ∷ [] in
    ap not (c.has_score.ensures (get_or (fits_of tie zone clubs) c.args.fixture [])
    (joined_left tie.left.now zone tie.points c.args.club c.args.fixture (c.args.rival ∷ [])
    (record { home = 0; away = 0 }) c.fit.result c.fit-2.result c.shared-shared.result
    c.requires.tie.left is.stands c.requires.of_sheet
    (c.fit.ensures zone is) (c.fit-2.ensures zone is) c.shared-shared.ensures))
