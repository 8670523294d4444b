use Rattle.std.proofs.Common.{◌≡◌, ◌<◌, ◌++◌, ◌∷◌, [], length, map, take, sym, ap, ◌∙◌, arith}
use Rattle.std.proofs.lemmas.List.{take_all}
use Rattle.csv.specs.Writing.{default_writer, next_sep, row_body}
use Rattle.cert_text.proofs.PlainRowLemmas.{plain-step, plain-whole}
use Rattle.cert_text.proofs.plain_row.plain_row.Goals as goal

pub loop-place-preserved : goal.loop-place-preserved
loop-place-preserved c =
    let fields = c.args.fields.now in
    let place = c.loop-place.place in
    let inside : place < length fields = omega (arith, c.loop-place-test.true) in
    c.in_ok-push_field.ensures
    ∙ ap (λ front. front ++ (next_sep default_writer place ++ c.as_slice.result.now))
    c.loop-place.invariant
    ∙ ap (λ last. row_body default_writer (map (λ field. field.items) (take place fields))
    ++ (next_sep default_writer place ++ last))
    (c.as_slice.ensures.value ∙ ap (λ field. field.items) c.index-fields-place.is)
    ∙ sym (plain-step (λ field. field.items) fields place c.index-fields-place.result inside
    c.requires.plain)

pub returns : goal.returns
returns c =
    let fields = c.args.fields.now in
    let place = c.loop-place.place in
    let all : take place fields ≡ fields = take_all _ _ (omega (arith, c.loop-place-test.false)) in
    c.in_ok-push.ensures.items
    ∙ ap (λ front. front ++ 10 ∷ [])
    (c.loop-place.invariant
    ∙ ap (λ shown. row_body default_writer (map (λ field. field.items) shown)) all)
    ∙ plain-whole (λ field. field.items) fields c.requires.some
