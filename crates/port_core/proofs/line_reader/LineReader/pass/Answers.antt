-- The line is passed over, or its content is given.
use Rattle.std.proofs.Common.{◌≡◌, ◌≤◌, ◌∙◌, ℕ, Bool, true, false, if◌then◌else◌, List, Option}
use Rattle.std.proofs.Common.{None, Some, refl, ap, sym, subst, drop, take, arith, length-take}
use Rattle.std.proofs.lemmas.Slice.{between_is}
use Rattle.port_core.specs.declared.line.Line.{Line}
use Rattle.port_core.specs.declared.line.Line.TheVariants.{Text}
use Rattle.port_core.specs.Contents.{content_at, is_skipped, number_at, position_after}
use Rattle.port_core.specs.Readers.{LineReaderView}
use Rattle.port_core.specs.inside.Buffers.{BufferView, part}
use Rattle.port_core.specs.inside.ReaderCalls.{PassesLine}
use Rattle.port_core.proofs.PieceLemmas.{part-take}
use Rattle.port_core.proofs.line_reader.LineReader.pass.Goals as goal

-- a line whose content is passed over
over : (old new : LineReaderView) (end behind : ℕ) (content : List ℕ)
    → content ≡ content_at old.position (take end old.held) → true ≡ is_skipped content
    → new ≡ record {
      held = drop behind old.held;
      text = old.text;
      position = position_after old.position behind;
    } → PassesLine old new end behind None
over old new end behind content is skipped same =
    let whole = content_at old.position (take end old.held) in
    let line : Option Line = Some (Text (number_at old.position)) in
    let none : Option Line = None in
    let P : Bool → Type 0 = λ b. (none ≡ (if b then none else line)) × (new ≡ record {
      held = drop behind old.held;
      text = if b then old.text else whole;
      position = position_after old.position behind;
    }) in
    subst P (skipped ∙ ap is_skipped is) (refl, same)

-- a line whose content is given
given : (old new : LineReaderView) (end behind : ℕ) (content : List ℕ)
    → content ≡ content_at old.position (take end old.held) → false ≡ is_skipped content
    → new ≡ record {
      held = drop behind old.held;
      text = content;
      position = position_after old.position behind;
    } → PassesLine old new end behind (Some (Text (number_at old.position)))
given old new end behind content is kept same =
    let whole = content_at old.position (take end old.held) in
    let line : Option Line = Some (Text (number_at old.position)) in
    let none : Option Line = None in
    let after : List ℕ → LineReaderView = λ t. record {
      held = drop behind old.held;
      text = t;
      position = position_after old.position behind;
    } in
    let P : Bool → Type 0 = λ b. (line ≡ (if b then none else line))
    × (new ≡ after (if b then old.text else whole)) in
    subst P (kept ∙ ap is_skipped is) (refl, same ∙ ap after is)

pub returns-then-skipped : goal.returns-then-skipped
returns-then-skipped c =
    let w = c.self.inside in
    let end = c.args.end in
    let place = c.content_of-from.result in
    let text = take end c.bytes.result.now in
    let reader : LineReaderView = record {
      held = w.buffer.held;
      text = w.buffer.text;
      position = record { lines = w.lines; bytes = w.bytes };
    } in
    let after : BufferView → LineReaderView = λ b. record {
      held = b.held;
      text = b.text;
      position = position_after reader.position c.args.after;
    } in
    let P : LineReaderView → Type 0 = λ r.
    PassesLine r (after c.drop_prefix.new.self) end c.args.after None in
    subst P c.self.view_is (over reader (after c.drop_prefix.new.self) end c.args.after
    (part place.0 place.1 text) (c.content_of-from.ensures.value
    ∙ ap (λ l. content_at reader.position (take end l)) c.bytes.ensures.value)
    (sym c.if-skipped.true ∙ c.is_skipped-skipped.ensures
    ∙ ap is_skipped (between_is text place.0 place.1))
    (ap after c.drop_prefix.ensures))

pub returns : goal.returns
returns c =
    let w = c.self.inside in
    let end = c.args.end in
    let place = c.content_of-from.result in
    let text = take end c.bytes.result.now in
    let reader : LineReaderView = record {
      held = w.buffer.held;
      text = w.buffer.text;
      position = record { lines = w.lines; bytes = w.bytes };
    } in
    let after : BufferView → LineReaderView = λ b. record {
      held = b.held;
      text = b.text;
      position = position_after reader.position c.args.after;
    } in
    let P : LineReaderView → Type 0 = λ r. PassesLine r (after c.give_prefix.new.self) end
    c.args.after (Some (Text (number_at reader.position))) in
    let short : place.1 ≤ end =
    omega (arith, c.content_of-from.ensures.within, length-take end c.bytes.result.now) in
    let here : part place.0 place.1 text ≡ part place.0 place.1 w.buffer.held =
    part-take c.bytes.result.now end place.0 place.1 short
    ∙ ap (part place.0 place.1) c.bytes.ensures.value in
    subst P c.self.view_is (given reader (after c.give_prefix.new.self) end c.args.after
    (part place.0 place.1 w.buffer.held) (sym here ∙ c.content_of-from.ensures.value
    ∙ ap (λ l. content_at reader.position (take end l)) c.bytes.ensures.value)
    (sym c.if-skipped.false ∙ c.is_skipped-skipped.ensures
    ∙ ap is_skipped (between_is text place.0 place.1 ∙ here))
    (ap after c.give_prefix.ensures))
