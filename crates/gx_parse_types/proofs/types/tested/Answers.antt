use Rattle.gx_grammar.specs.Value.{nothing}
use Rattle.gx_parse_grammar.specs.Grammar.{place_in}
use Rattle.gx_parse_tokens.specs.Reading.{read_in}
use Rattle.gx_parse_grammar.specs.Types.{behind_comma, maybe_named, tested, tested_made}
use Rattle.gx_parse_types.proofs.TypesPhrases.{idle, tested_read, untested}
use Rattle.gx_parse_grammar.specs.declared.word.Word.TheVariants as word
use Rattle.gx_parse_grammar.specs.Grammar.{lexeme, word_of}
use Rattle.gx_parse_types.proofs.types.tested.Goals as goal
use Rattle.gx_parse_parts.proofs.Phrases.{gave_none}

pub returns-then-starts_with : goal.returns-then-starts_with
returns-then-starts_with c = λ n.
    untested c.args.source.now n _ c.lexeme-then-starts_with.result c.starts_with.result c.args.reader.now c.lexeme.new.reader c.starts_with.new.self c.lexeme-then-starts_with.new.reader (c.lexeme.ensures c.args.source.now n) c.if-starts_with.true c.starts_with.ensures (c.lexeme-then-starts_with.ensures c.args.source.now n)

pub returns-in_default : goal.returns-in_default
returns-in_default c = λ n.
    let done = rw c.in_default.is at (c.tested_name.ensures n) in
    gave_none tested_made _ c.args.reader.now c.tested_name.new.reader (read_in c.args.source.now n (tested (place_in c.args.source.now))) done.0
    (tested_read c.args.source.now n _ nothing nothing nothing c.starts_with.result c.args.reader.now c.lexeme.new.reader c.starts_with.new.self c.tested_name.new.reader c.tested_name.new.reader c.tested_name.new.reader (c.lexeme.ensures c.args.source.now n) c.if-starts_with.false c.starts_with.ensures (done.1 nothing)
    (idle c.args.source.now n (behind_comma (place_in c.args.source.now)) nothing c.tested_name.new.reader done.0) (idle c.args.source.now n (lexeme (word_of word.Close)) nothing c.tested_name.new.reader done.0))

pub returns-in_default-behind_comma : goal.returns-in_default-behind_comma
returns-in_default-behind_comma c = λ n.
    let done = rw c.in_default-behind_comma.is at (c.behind_comma.ensures n) in
    gave_none tested_made _ c.args.reader.now c.behind_comma.new.reader (read_in c.args.source.now n (tested (place_in c.args.source.now))) done.0
    (tested_read c.args.source.now n _ (maybe_named c.in-Some.name) nothing nothing c.starts_with.result c.args.reader.now c.lexeme.new.reader c.starts_with.new.self c.tested_name.new.reader c.behind_comma.new.reader c.behind_comma.new.reader (c.lexeme.ensures c.args.source.now n) c.if-starts_with.false c.starts_with.ensures (c.in-Some.ensures n)
    (done.1 nothing) (idle c.args.source.now n (lexeme (word_of word.Close)) nothing c.behind_comma.new.reader done.0))

pub returns : goal.returns
returns c = λ n.
    tested_read c.args.source.now n _ (maybe_named c.in-Some.name) (maybe_named c.in-Some-behind_comma.kind) _ c.starts_with.result c.args.reader.now c.lexeme.new.reader c.starts_with.new.self c.tested_name.new.reader c.behind_comma.new.reader c.lexeme-2.new.reader (c.lexeme.ensures c.args.source.now n) c.if-starts_with.false c.starts_with.ensures
    (c.in-Some.ensures n) (c.in-Some-behind_comma.ensures n) (c.lexeme-2.ensures c.args.source.now n)
