use Rattle.std.proofs.Common.{◌-◌}
use Rattle.gx_grammar.specs.Value.{nothing}
use Rattle.gx_parse_grammar.specs.Grammar.{place_in, lexeme, word_of}
use Rattle.gx_parse_tokens.specs.Reading.{read_in}
use Rattle.gx_parse_grammar.specs.declared.word.Word.TheVariants as word
use Rattle.gx_parse_prolog.proofs.PrologPhrases.{closed_definition_read, still}
use Rattle.gx_parse_prolog.specs.PrologParts.{closed_definition, definition_item, definition_made, gapped}
use Rattle.gx_parse.proofs.definitions.closed_definition.Goals as goal
use Rattle.gx_parse_parts.proofs.Lists.{one_grown, none_grown}

pub returns-in_default : goal.returns-in_default
returns-in_default c =
    let done = rw c.in_default.is at c.definition.ensures in
    none_grown definition_item c.args.definitions.items _ c.args.reader.now c.definition.new.reader (read_in c.args.source.now 40 (closed_definition (place_in c.args.source.now))) done.0
    (closed_definition_read c.args.source.now 40 nothing c.args.reader.now c.definition.new.reader c.definition.new.reader (done.1 nothing) (still c.args.source.now 40 (lexeme (word_of word.Semicolon)) (gapped word.Semicolon) c.definition.new.reader done.0))

pub returns : goal.returns
returns c =
    one_grown definition_item c.args.definitions.items (c.with_item.result).items c.in-Some.next c.args.reader.now c.symbol.new.reader c.with_item.new.reader (read_in c.args.source.now 40 (closed_definition (place_in c.args.source.now)))
    (closed_definition_read c.args.source.now 40 (definition_made c.in-Some.next) c.args.reader.now c.definition.new.reader c.symbol.new.reader c.in-Some.ensures (c.symbol.ensures c.args.source.now 40)) c.with_item.ensures
