use Rattle.gx_grammar.specs.Value.{nothing}
use Rattle.gx_parse_grammar.specs.Grammar.{place_in}
use Rattle.gx_parse_tokens.specs.Reading.{read_in}
use Rattle.gx_parse_grammar.specs.declared.word.Word.TheVariants as word
use Rattle.gx_parse_grammar.specs.Grammar.{lexeme, word_of}
use Rattle.gx_parse_grammar.specs.Bound.{bound_made, case_variable, position_made}
use Rattle.gx_parse_types.proofs.TypesPhrases.{idle}
use Rattle.gx_parse_types.proofs.BoundPhrases.{a_case, no_case}
use Rattle.gx_parse_types.proofs.bound.case_variable.Goals as goal
use Rattle.gx_parse_parts.proofs.Phrases.{gave_none}

pub returns-then-not-starts_with : goal.returns-then-not-starts_with
returns-then-not-starts_with c = λ n. no_case c.args.source.now n c.starts_with.result c.args.reader.now c.starts_with.new.self c.if-not-starts_with.true c.starts_with.ensures

pub returns-in_default : goal.returns-in_default
returns-in_default c = λ n.
    let done = rw c.in_default.is at (c.bound.ensures n) in
    gave_none position_made nothing c.args.reader.now c.bound.new.reader (read_in c.args.source.now n (case_variable (place_in c.args.source.now))) done.0
    (a_case c.args.source.now n nothing nothing c.starts_with.result c.args.reader.now c.starts_with.new.self c.bound.new.reader c.bound.new.reader c.if-not-starts_with.false c.starts_with.ensures (done.1 nothing) (idle c.args.source.now n (lexeme (word_of word.As)) nothing c.bound.new.reader done.0))

pub returns : goal.returns
returns c = λ n. a_case c.args.source.now n (bound_made c.in-Some.variable) _ c.starts_with.result c.args.reader.now c.starts_with.new.self c.bound.new.reader c.lexeme.new.reader c.if-not-starts_with.false c.starts_with.ensures (c.in-Some.ensures n) (c.lexeme.ensures c.args.source.now n)
