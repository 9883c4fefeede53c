use Rattle.std.proofs.Common.{◌∙◌, ◌-◌, ap}
use Rattle.gx_grammar.specs.Value.{nothing, pair, characters}
use Rattle.gx_parse_grammar.specs.Grammar.{place_in, lexeme, word_of}
use Rattle.gx_parse_tokens.specs.Reading.{read_in, read_one}
use Rattle.gx_parse_grammar.specs.declared.word.Word.TheVariants as word
use Rattle.gx_parse_prolog.proofs.PrologPhrases.{prefix_read, still}
use Rattle.gx_parse_grammar.specs.Prolog.{prefix, prefix_value}
use Rattle.gx_parse_prolog.specs.PrologParts.{gapped, prefix_made}
use Rattle.gx_grammar.proofs.PublicLaws.{ran_idle}
use Rattle.gx_parse_grammar.specs.Tokens.{gap}
use Rattle.gx_parse_prolog.proofs.prolog.prefix.Goals as goal
use Rattle.gx_parse_parts.proofs.Phrases.{gave_none}

pub returns-in_default : goal.returns-in_default
returns-in_default c = λ n.
    let done = rw c.in_default.is at c.ncname.ensures in
    gave_none prefix_made (prefix_value c.place-place.result (pair (pair nothing nothing) (gapped word.Equals))) c.args.reader.now c.ncname.new.self (read_in c.args.source.now n (prefix (place_in c.args.source.now))) done.0
    (prefix_read c.args.source.now n c.place-place.result nothing c.args.reader.now c.ncname.new.self c.ncname.new.self c.ncname.new.self (c.place-place.ensures ∙ ap (place_in c.args.source.now) c.left.ensures) (done.1 nothing) (ran_idle nothing c.ncname.new.self (read_one gap) done.0)
    (still c.args.source.now n (lexeme (word_of word.Equals)) (gapped word.Equals) c.ncname.new.self done.0))

pub returns : goal.returns
returns c = λ n.
    prefix_read c.args.source.now n c.place-place.result (characters c.in-Some.name) c.args.reader.now c.ncname.new.self c.gap.new.self c.symbol.new.reader (c.place-place.ensures ∙ ap (place_in c.args.source.now) c.left.ensures) c.in-Some.ensures c.gap.ensures (c.symbol.ensures c.args.source.now n)
