-- Each club's numbers move by what the two cells leave its side.
use Rattle.std.proofs.Common.{◌≡◌, pos, ◌+ℤ◌, true, eqb, sym, ap, ◌∙◌}
use Rattle.std.proofs.lemmas.Bool.{eqb-true}
use Rattle.score_box.specs.inside.Ends.{end_at}
use Rattle.score_box.proofs.EndLemmas.{alone_is, two_moved}
use Rattle.score_box.proofs.ends.move_ranges.Goals as goal

pub returns : goal.returns
returns c was now was_worth now_worth club before after was_is now_is =
    let match = c.args.fixture in
    let old = c.args.before in
    let new = c.args.after in
    let apart = c.requires.fixture.apart in
    let h = eqb match.home club in
    let a = eqb match.away club in
    let not_both = λ (home : h ≡ true) (away : a ≡ true).
    apart (eqb-true match.home club home ∙ sym (eqb-true match.away club away)) in
    let left = alone_is club match was before old.home old.away apart was_is was_worth.home
    was_worth.away in
    let right = alone_is club match now after new.home new.away apart now_is now_worth.home
    now_worth.away in (
      ap (λ n. end_at c.move_one-2.new.numbers club +ℤ n) left.0
          ∙ two_moved h a (end_at c.args.lows.now club) (end_at c.move_one.new.numbers club)
          (end_at c.move_one-2.new.numbers club) (pos old.home.least) (pos new.home.least)
          (pos old.away.least) (pos new.away.least) not_both (c.move_one.ensures club)
          (c.move_one-2.ensures club)
          ∙ ap (λ n. end_at c.args.lows.now club +ℤ n) (sym right.0),
      ap (λ n. end_at c.move_one-4.new.numbers club +ℤ n) left.1
          ∙ two_moved h a (end_at c.args.highs.now club)
          (end_at c.move_one-3.new.numbers club)
          (end_at c.move_one-4.new.numbers club) (pos old.home.most) (pos new.home.most)
          (pos old.away.most) (pos new.away.most) not_both (c.move_one-3.ensures club)
          (c.move_one-4.ensures club)
          ∙ ap (λ n. end_at c.args.highs.now club +ℤ n) (sym right.1),
    )
