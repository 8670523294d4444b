use Rattle.std.proofs.Common.{cond, [], ◌∷◌, ◌++◌, is_ok, sym, ap, ◌∙◌, filter}
use Rattle.std.specs.List.{range_with_len}
use Rattle.std.proofs.lemmas.List.{append_assoc, append-nil}
use Rattle.group_search.specs.inside.SecondLots.{is_neither}
use Rattle.group_search.proofs.SecondLotsLemmas.{rest_of-suc}
use Rattle.group_search.proofs.second.push_rest.Goals as goal
use Rattle.group_search.proofs.second.push_rest.Goals.{then-is_neither+in_ok-push, else-is_neither}

pub loop-other-preserved : goal.loop-other-preserved
loop-other-preserved c =
    let before = c.args.order.now.items in
    let so_far = filter (is_neither c.args.first c.args.club)
    (range_with_len 0 c.loop-other.other) in
    let more = rest_of-suc c.loop-other.other c.args.first c.args.club in
    elim c.if-is_neither.branch [
      | then-is_neither+in_ok-push w ↦
          let passes = sym c.is_neither.ensures ∙ w.if-is_neither.true in
          ap (λ v. v.items) w.order-is
          ∙ w.push.ensures.items
          ∙ ap (λ r. cond (is_ok r) (c.loop-other.order.items ++ c.loop-other.other ∷ [])
          c.loop-other.order.items) w.in_ok-push.was
          ∙ ap (λ xs. xs ++ c.loop-other.other ∷ []) c.loop-other.invariant
          ∙ append_assoc before so_far (c.loop-other.other ∷ [])
          ∙ ap (λ b. before ++ (so_far ++ cond b (c.loop-other.other ∷ []) [])) (sym passes)
          ∙ ap (λ xs. before ++ xs) (sym more)
      | else-is_neither w ↦
          let fails = sym c.is_neither.ensures ∙ w.if-is_neither.false in
          ap (λ v. v.items) w.order-is
          ∙ c.loop-other.invariant
          ∙ ap (λ xs. before ++ xs) (sym (append-nil so_far))
          ∙ ap (λ b. before ++ (so_far ++ cond b (c.loop-other.other ∷ []) [])) (sym fails)
          ∙ ap (λ xs. before ++ xs) (sym more)
    ]
