use Rattle.std.proofs.Common.{◌≡◌, ◌+◌, ◌/◌, ◌%◌, [], ◌∷◌, ◌++◌, ap, ◌∙◌, arith}
use Rattle.std.specs.Prelude.{encode_utf8}
use Rattle.sample_counts.specs.Samples.{sample_club, sample_name}
use Rattle.sample_counts.proofs.sample.club_of.Goals as goal

pub returns : goal.returns
unfolding sample_club
returns c =
    let number = c.args.club + 1 in
    let tens : encode_utf8 (48 + number / 10) ≡ (48 + number / 10) ∷ [] =
    c.in_ok-push.ensures.ascii (omega arith) in
    let ones : encode_utf8 (48 + number % 10) ≡ (48 + number % 10) ∷ [] =
    c.in_ok-push-2.ensures.ascii (omega arith) in
    let named : c.new.result ≡ sample_name c.args.club =
    c.new.ensures ∙ c.in_ok-push-2.ensures.bytes
    ∙ ap (λ t. t ++ encode_utf8 (48 + number % 10)) (c.in_ok-push.ensures.bytes
    ∙ ap (λ t. t ++ encode_utf8 (48 + number / 10)) c.in_ok-name.ensures.ok)
    ∙ ap (λ t. (84 ∷ [] ++ t) ++ encode_utf8 (48 + number % 10)) tens
    ∙ ap (λ t. 84 ∷ (48 + number / 10) ∷ t) ones in
    ap (λ name. record { name = name; rank = c.from.result }) named
    ∙ ap (λ rank. record { name = sample_name c.args.club; rank = rank }) c.from.ensures
