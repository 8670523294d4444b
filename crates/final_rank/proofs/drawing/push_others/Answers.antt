use Rattle.std.proofs.Common.{not, cond, [], ◌∷◌, ◌++◌, is_ok, sym, ap, ◌∙◌}
use Rattle.std.proofs.lemmas.Bool.{ne_eqb, eq-eqb}
use Rattle.std.proofs.lemmas.List.{append_assoc, append-nil}
use Rattle.league_core.specs.search.Zones.{others_of}
use Rattle.final_rank.proofs.TableLemmas.{others_of-suc}
use Rattle.final_rank.proofs.drawing.push_others.Goals as goal
use Rattle.final_rank.proofs.drawing.push_others.Goals.{then-other-club+in_ok-push, else-other-club}

pub loop-other-preserved : goal.loop-other-preserved
loop-other-preserved c =
    let before = c.args.order.now.items in
    let so_far = others_of c.loop-other.other c.args.club in
    let others = others_of-suc c.loop-other.other c.args.club in
    elim c.if-other-club.branch [
      | then-other-club+in_ok-push w ↦
          let another = ne_eqb c.loop-other.other c.args.club w.if-other-club.true in
          ap (λ v. v.items) w.order-is
          ∙ w.push.ensures.items
          ∙ ap (λ r. cond (is_ok r) (c.loop-other.order.items ++ c.loop-other.other ∷ [])
          c.loop-other.order.items) w.in_ok-push.was
          ∙ ap (λ xs. xs ++ c.loop-other.other ∷ []) c.loop-other.invariant
          ∙ append_assoc before so_far (c.loop-other.other ∷ [])
          ∙ ap (λ b. before ++ (so_far ++ cond (not b) (c.loop-other.other ∷ []) [])) (sym another)
          ∙ ap (λ xs. before ++ xs) (sym others)
      | else-other-club w ↦
          let itself = eq-eqb c.loop-other.other c.args.club w.if-other-club.false in
          ap (λ v. v.items) w.order-is
          ∙ c.loop-other.invariant
          ∙ ap (λ xs. before ++ xs) (sym (append-nil so_far))
          ∙ ap (λ b. before ++ (so_far ++ cond (not b) (c.loop-other.other ∷ []) [])) (sym itself)
          ∙ ap (λ xs. before ++ xs) (sym others)
    ]
