use Rattle.std.proofs.Common.{◌∷◌, []}
use Rattle.near_bound.proofs.EachFitLemmas.{nothing_left, one_fits_each}
use Rattle.near_bound.proofs.IdleLemmas.{first_alone, second_alone}
use Rattle.near_bound.proofs.TieLemmas.{joined_left}
use Rattle.near_bound.proofs.tie.Tie.fit_both.Goals as goal

pub returns-then-has_one_at_most : goal.returns-then-has_one_at_most
returns-then-has_one_at_most c =
    one_fits_each c.args.self.now (c.args.front ∷ c.args.back ∷ []) c.args.fixture nothing_left
    c.requires.tie c.requires.of_sheet (c.has_one_at_most.ensures c.if-has_one_at_most.true)

pub returns-then-stays_out : goal.returns-then-stays_out
returns-then-stays_out c = λ zone is have.
    second_alone c.args.self.now zone c.args.front c.args.back c.args.fixture c.fit.result
    c.requires.tie is c.requires.front c.requires.of_sheet
    (c.stays_out.ensures c.if-stays_out.true) (c.fit.ensures zone is)

pub returns-then-stays_out-2 : goal.returns-then-stays_out-2
returns-then-stays_out-2 c = λ zone is have.
    first_alone c.args.self.now zone c.args.front c.args.back c.args.fixture
    c.fit-of_front.result c.requires.tie is c.requires.back c.requires.of_sheet
    (c.stays_out-2.ensures c.if-stays_out-2.true) (c.fit-of_front.ensures zone is)

pub returns : goal.returns
returns c = λ zone is have.
    let tie = c.args.self.now in
    joined_left tie.left.now zone tie.points c.args.front c.args.fixture (c.args.back ∷ [])
    (record { home = 0; away = 0 }) c.fit-of_front.result c.fit-of_back.result c.shared.result
    c.requires.tie.left is.stands c.requires.of_sheet (c.fit-of_front.ensures zone is)
    (c.fit-of_back.ensures zone is) c.shared.ensures
