use Rattle.gx_grammar.specs.Value.{nothing}
use Rattle.gx_parse_grammar.specs.Grammar.{place_in}
use Rattle.gx_parse_tokens.specs.Reading.{read_in}
use Rattle.gx_parse_grammar.specs.Types.{declared, named}
use Rattle.gx_parse_types.proofs.TypesPhrases.{declared_read, idle}
use Rattle.gx_parse_grammar.specs.declared.word.Word.TheVariants as word
use Rattle.gx_parse_grammar.specs.Grammar.{lexeme, word_of}
use Rattle.gx_parse_types.proofs.types.declared.Goals as goal
use Rattle.gx_parse_parts.proofs.Phrases.{gave_none}

pub returns-in_default : goal.returns-in_default
returns-in_default c = λ n.
    let done = rw c.in_default.is at (c.written_name.ensures n) in
    gave_none named nothing c.args.reader.now c.written_name.new.reader (read_in c.args.source.now n (declared (place_in c.args.source.now))) done.0
    (declared_read c.args.source.now n _ nothing nothing c.args.reader.now c.lexeme.new.reader c.written_name.new.reader c.written_name.new.reader (c.lexeme.ensures c.args.source.now n) (done.1 nothing) (idle c.args.source.now n (lexeme (word_of word.Close)) nothing c.written_name.new.reader done.0))

pub returns : goal.returns
returns c = λ n. declared_read c.args.source.now n _ (named c.in-Some.name) _ c.args.reader.now c.lexeme.new.reader c.written_name.new.reader c.lexeme-2.new.reader (c.lexeme.ensures c.args.source.now n) (c.in-Some.ensures n) (c.lexeme-2.ensures c.args.source.now n)
