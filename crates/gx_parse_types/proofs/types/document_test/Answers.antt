use Rattle.std.proofs.Common.{ap, ◌∙◌}
use Rattle.gx_grammar.specs.Value.{nothing}
use Rattle.gx_parse_grammar.specs.Grammar.{place_in}
use Rattle.gx_parse_tokens.specs.Reading.{read_in}
use Rattle.gx_parse_grammar.specs.Types.{content_made, document_test, named, tested_made}
use Rattle.gx_parse_types.proofs.TypesPhrases.{element_read, schema_read}
use Rattle.gx_parse_types.proofs.types.document_test.Goals as goal
use Rattle.gx_parse_parts.proofs.Phrases.{gave_none}

pub returns-in_default : goal.returns-in_default
returns-in_default c = λ n.
    let done = rw c.in_default.is at (c.tested.ensures n) in
    gave_none content_made _ c.args.reader.now c.tested.new.reader (read_in c.args.source.now n (document_test (place_in c.args.source.now))) done.0
    (element_read c.args.source.now n c.place-place.result _ nothing c.looks_at-is_element.result c.args.reader.now c.looks_at-is_element.new.self c.lexeme.new.reader c.tested.new.reader (c.place-place.ensures ∙ ap (place_in c.args.source.now) c.left.ensures) c.if-is_element.true c.looks_at-is_element.ensures (c.lexeme.ensures c.args.source.now n) (done.1 nothing))

pub returns-then-is_element : goal.returns-then-is_element
returns-then-is_element c = λ n.
    element_read c.args.source.now n c.place-place.result _ (tested_made c.in-Some.tested) c.looks_at-is_element.result c.args.reader.now c.looks_at-is_element.new.self c.lexeme.new.reader c.tested.new.reader (c.place-place.ensures ∙ ap (place_in c.args.source.now) c.left.ensures) c.if-is_element.true c.looks_at-is_element.ensures (c.lexeme.ensures c.args.source.now n) (c.in-Some.ensures n)

pub returns-in_default-declared : goal.returns-in_default-declared
returns-in_default-declared c = λ n.
    let done = rw c.in_default-declared.is at (c.declared.ensures n) in
    gave_none content_made _ c.args.reader.now c.declared.new.reader (read_in c.args.source.now n (document_test (place_in c.args.source.now))) done.0
    (schema_read c.args.source.now n c.place-place.result _ nothing c.looks_at-is_element.result c.args.reader.now c.looks_at-is_element.new.self c.lexeme-2.new.reader c.declared.new.reader (c.place-place.ensures ∙ ap (place_in c.args.source.now) c.left.ensures) c.if-is_element.false c.looks_at-is_element.ensures (c.lexeme-2.ensures c.args.source.now n) (done.1 nothing))

pub returns : goal.returns
returns c = λ n.
    schema_read c.args.source.now n c.place-place.result _ (named c.in-Some-declared.name) c.looks_at-is_element.result c.args.reader.now c.looks_at-is_element.new.self c.lexeme-2.new.reader c.declared.new.reader (c.place-place.ensures ∙ ap (place_in c.args.source.now) c.left.ensures) c.if-is_element.false c.looks_at-is_element.ensures (c.lexeme-2.ensures c.args.source.now n) (c.in-Some-declared.ensures n)
