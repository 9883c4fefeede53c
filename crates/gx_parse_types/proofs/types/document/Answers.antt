use Rattle.gx_grammar.specs.Value.{nothing}
use Rattle.gx_parse_grammar.specs.Grammar.{place_in}
use Rattle.gx_parse_tokens.specs.Reading.{read_in}
use Rattle.gx_parse_grammar.specs.Types.{content_made, document}
use Rattle.gx_parse_types.proofs.TypesPhrases.{any_document, document_read, idle}
use Rattle.gx_parse_grammar.specs.declared.word.Word.TheVariants as word
use Rattle.gx_parse_grammar.specs.Grammar.{lexeme, word_of}
use Rattle.gx_parse_types.proofs.types.document.Goals as goal
use Rattle.gx_parse_parts.proofs.Phrases.{gave_none}

pub returns-then-starts_with : goal.returns-then-starts_with
returns-then-starts_with c = λ n.
    any_document c.args.source.now n _ c.lexeme-then-starts_with.result c.starts_with.result c.args.reader.now c.lexeme.new.reader c.starts_with.new.self c.lexeme-then-starts_with.new.reader (c.lexeme.ensures c.args.source.now n) c.if-starts_with.true c.starts_with.ensures (c.lexeme-then-starts_with.ensures c.args.source.now n)

pub returns-in_default : goal.returns-in_default
returns-in_default c = λ n.
    let done = rw c.in_default.is at (c.document_test.ensures n) in
    gave_none content_made _ c.args.reader.now c.document_test.new.reader (read_in c.args.source.now n (document (place_in c.args.source.now))) done.0
    (document_read c.args.source.now n _ nothing nothing c.starts_with.result c.args.reader.now c.lexeme.new.reader c.starts_with.new.self c.document_test.new.reader c.document_test.new.reader (c.lexeme.ensures c.args.source.now n) c.if-starts_with.false c.starts_with.ensures (done.1 nothing)
    (idle c.args.source.now n (lexeme (word_of word.Close)) nothing c.document_test.new.reader done.0))

pub returns : goal.returns
returns c = λ n.
    document_read c.args.source.now n _ (content_made c.in-Some.test) _ c.starts_with.result c.args.reader.now c.lexeme.new.reader c.starts_with.new.self c.document_test.new.reader c.lexeme-2.new.reader (c.lexeme.ensures c.args.source.now n) c.if-starts_with.false c.starts_with.ensures (c.in-Some.ensures n) (c.lexeme-2.ensures c.args.source.now n)
