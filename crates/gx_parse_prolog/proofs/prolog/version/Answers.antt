use Rattle.std.proofs.Common.{◌∙◌, ◌-◌, ap}
use Rattle.gx_grammar.specs.Value.{nothing, node}
use Rattle.gx_parse_grammar.specs.Grammar.{place_in, lexeme, word_of}
use Rattle.gx_parse_tokens.specs.Reading.{read_in}
use Rattle.gx_parse_grammar.specs.Nodes.{Found}
use Rattle.gx_parse_grammar.specs.declared.word.Word.TheVariants as word
use Rattle.gx_parse_prolog.proofs.PrologPhrases.{version_read, still}
use Rattle.gx_parse_grammar.specs.Prolog.{version}
use Rattle.gx_parse_prolog.specs.PrologParts.{encoding_made, gapped, version_made}
use Rattle.gx_parse_prolog.proofs.prolog.version.Goals as goal
use Rattle.gx_parse_parts.proofs.Phrases.{gave_none}

pub returns-in_default : goal.returns-in_default
returns-in_default c = λ n.
    let done = rw c.in_default.is at (c.encoding.ensures n) in
    gave_none version_made _ c.args.reader.now c.encoding.new.reader (read_in c.args.source.now n (version (place_in c.args.source.now))) done.0
    (version_read c.args.source.now n c.place-place.result (node (Found c.leading.result)) (gapped c.lexeme.result) nothing (gapped word.Semicolon) c.args.reader.now c.leading.new.self c.gap.new.self c.lexeme.new.reader c.encoding.new.reader c.encoding.new.reader (c.place-place.ensures ∙ ap (place_in c.args.source.now) c.left.ensures)
    c.leading.ensures c.gap.ensures (c.lexeme.ensures c.args.source.now n) (done.1 nothing) (still c.args.source.now n (lexeme (word_of word.Semicolon)) (gapped word.Semicolon) c.encoding.new.reader done.0))

pub returns : goal.returns
returns c = λ n.
    version_read c.args.source.now n c.place-place.result (node (Found c.leading.result)) (gapped c.lexeme.result) (encoding_made c.in-Some.encoding) (gapped word.Semicolon) c.args.reader.now c.leading.new.self c.gap.new.self c.lexeme.new.reader c.encoding.new.reader c.symbol.new.reader (c.place-place.ensures ∙ ap (place_in c.args.source.now) c.left.ensures)
    c.leading.ensures c.gap.ensures (c.lexeme.ensures c.args.source.now n) (c.in-Some.ensures n) (c.symbol.ensures c.args.source.now n)
