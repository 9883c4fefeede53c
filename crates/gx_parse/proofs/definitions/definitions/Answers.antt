use Rattle.std.proofs.Common.{◌-◌, ◌∷◌, [], sym, subst, arith}
use Rattle.gx_grammar.specs.Value.{no_item}
use Rattle.gx_parse_grammar.specs.Grammar.{place_in, at_tokens}
use Rattle.gx_parse_prolog.proofs.PrologPhrases.{definitions_are}
use Rattle.gx_parse_parts.proofs.Repeated.{Begun, all_listed, many_begin, many_full, many_more, many_end}
use Rattle.gx_parse_parts.specs.Repeated.{listed_before}
use Rattle.gx_parse_prolog.specs.PrologParts.{closed_definition, definition_item}
use Rattle.gx_parse_grammar.specs.Tokens.{definer_words}
use Rattle.gx_parse.proofs.definitions.definitions.Goals as goal

pub loop-reader-init : goal.loop-reader-init
loop-reader-init c = subst (λ us. Begun c.args.source.now 40 (at_tokens (definer_words ∷ [])) (closed_definition (place_in c.args.source.now)) definition_item [] us c.left-left.result c.args.reader.now c.args.reader.now) (sym c.new-list.ensures.items) (many_begin c.args.source.now 40 (at_tokens (definer_words ∷ [])) (closed_definition (place_in c.args.source.now)) definition_item [] c.left-left.result c.args.reader.now c.left-left.ensures)

pub returns-then-left-eq0 : goal.returns-then-left-eq0
returns-then-left-eq0 c = definitions_are c.args.source.now 40 (listed_before definition_item c.closed_definition-list.result.items no_item) c.args.reader.now c.closed_definition-list.new.reader (all_listed c.args.source.now 40 (at_tokens (definer_words ∷ [])) (closed_definition (place_in c.args.source.now)) definition_item c.closed_definition-list.result.items c.args.reader.now c.closed_definition-list.new.reader (many_full c.args.source.now 40 (at_tokens (definer_words ∷ [])) (closed_definition (place_in c.args.source.now)) definition_item [] c.loop-reader.list.items c.closed_definition-list.result.items c.loop-reader.left c.looks_at_leading.result c.args.reader.now c.loop-reader.reader c.looks_at_leading.new.self c.closed_definition-list.new.reader c.loop-reader.invariant c.if-left-eq0.true c.loop-reader-test.true c.looks_at_leading.ensures c.closed_definition-list.ensures))

pub loop-reader-preserved : goal.loop-reader-preserved
loop-reader-preserved c =
    many_more c.args.source.now 40 (at_tokens (definer_words ∷ [])) (closed_definition (place_in c.args.source.now)) definition_item [] c.loop-reader.list.items c.closed_definition-list.result.items c.loop-reader.left (c.loop-reader.left - 1) c.looks_at_leading.result c.args.reader.now c.loop-reader.reader c.looks_at_leading.new.self c.closed_definition-list.new.reader c.loop-reader.invariant (omega (arith, c.if-left-eq0.false)) c.loop-reader-test.true c.looks_at_leading.ensures c.closed_definition-list.ensures

pub returns : goal.returns
returns c = definitions_are c.args.source.now 40 (listed_before definition_item c.loop-reader.list.items no_item) c.args.reader.now c.looks_at_leading.new.self (all_listed c.args.source.now 40 (at_tokens (definer_words ∷ [])) (closed_definition (place_in c.args.source.now)) definition_item c.loop-reader.list.items c.args.reader.now c.looks_at_leading.new.self (many_end c.args.source.now 40 (at_tokens (definer_words ∷ [])) (closed_definition (place_in c.args.source.now)) definition_item [] c.loop-reader.list.items c.loop-reader.left c.looks_at_leading.result c.args.reader.now c.loop-reader.reader c.looks_at_leading.new.self c.loop-reader.invariant c.loop-reader-test.false c.looks_at_leading.ensures))
