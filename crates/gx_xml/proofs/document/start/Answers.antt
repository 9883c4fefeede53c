use Rattle.gx_xml.specs.Characters.{spelled}
use Rattle.gx_xml.proofs.DocumentLemmas.{start_read, declared_start, plain_start}
use Rattle.gx_xml.proofs.ValueLemmas.{not_both}
use Rattle.gx_xml.proofs.document.start.Goals as goal

pub returns-then-is_declaration : goal.returns-then-is_declaration
returns-then-is_declaration c = λ w after h.
    start_read (spelled c.maybe_run.result) c.maybe_choice-mark.result w c.args.reader.now c.maybe_run.new.self c.maybe_choice-mark.new.self after c.maybe_run.ensures.read c.maybe_choice-mark.ensures.read
    (declared_start c.maybe_choice-mark.result c.declaration.new.reader w c.maybe_choice-mark.new.self after (c.is_declaration.ensures.0 c.if-is_declaration.true) c.declaration.ensures.read h)

pub returns-else-is_declaration : goal.returns-else-is_declaration
returns-else-is_declaration c = λ w after h.
    start_read (spelled c.maybe_run.result) c.maybe_choice-mark.result w c.args.reader.now c.maybe_run.new.self c.maybe_choice-mark.new.self after c.maybe_run.ensures.read c.maybe_choice-mark.ensures.read
    (plain_start c.maybe_choice-mark.result w c.maybe_choice-mark.new.self after (λ e. not_both c.is_declaration.result (c.is_declaration.ensures.1 e) c.if-is_declaration.false) h)
