use Rattle.std.proofs.Common.{◌∙◌, ◌-◌, sym, subst}
use Rattle.gx_grammar.specs.Value.{nothing}
use Rattle.gx_grammar.specs.Ran.{Ran}
use Rattle.gx_parse_grammar.specs.Grammar.{place_in, lexeme, word_of, expression}
use Rattle.gx_parse_tokens.specs.Reading.{read_in}
use Rattle.gx_parse_grammar.specs.Types.{named}
use Rattle.gx_parse_grammar.specs.Nodes.{tree}
use Rattle.gx_parse_grammar.specs.Bound.{bound_type, kind_made}
use Rattle.gx_parse_grammar.specs.declared.word.Word.TheVariants as word
use Rattle.gx_parse_prolog.proofs.PrologPhrases.{function_is, parameters_are, still}
use Rattle.gx_parse_grammar.specs.Prolog.{function_definer, parameters}
use Rattle.gx_parse_prolog.specs.PrologParts.{gapped, gives_made, parameters_made}
use Rattle.gx_ast.specs.declared.query.DefinitionNode.TheVariants as defines
use Rattle.gx_parse.proofs.definitions.function_definer.Goals as goal
use Rattle.gx_parse_parts.proofs.Phrases.{gave_none}

pub returns-in_default : goal.returns-in_default
returns-in_default c =
    let done = rw c.in_default.is at (c.written_name.ensures 40) in
    gave_none gives_made _ c.args.reader.now c.written_name.new.reader (read_in c.args.source.now 40 (function_definer (place_in c.args.source.now))) done.0
    (function_is c.args.source.now 40 nothing nothing nothing nothing nothing nothing nothing c.args.reader.now c.written_name.new.reader c.written_name.new.reader c.written_name.new.reader c.written_name.new.reader c.written_name.new.reader c.written_name.new.reader c.written_name.new.reader (done.1 nothing)
    (still c.args.source.now 40 (lexeme (word_of word.Open)) nothing c.written_name.new.reader done.0) (still c.args.source.now 40 (parameters (place_in c.args.source.now)) nothing c.written_name.new.reader done.0) (still c.args.source.now 40 (bound_type (place_in c.args.source.now)) nothing c.written_name.new.reader done.0)
    (still c.args.source.now 40 (lexeme (word_of word.BraceOpen)) nothing c.written_name.new.reader done.0) (still c.args.source.now 40 (expression (place_in c.args.source.now) 40) nothing c.written_name.new.reader done.0) (still c.args.source.now 40 (lexeme (word_of word.CloseBrace)) nothing c.written_name.new.reader done.0))

pub returns : goal.returns
returns c =
    subst (λ ps. Ran (gives_made (defines.Function c.in-Some.name ps c.kind_of-kind.result c.expression-body.result)) c.args.reader.now c.symbol-3.new.reader (read_in c.args.source.now 40 (function_definer (place_in c.args.source.now)))) (parameters_are c.parameters-list.result.items ∙ sym c.from_vec-parameters.ensures)
    (function_is c.args.source.now 40 (named c.in-Some.name) (gapped word.Open) (parameters_made c.parameters-list.result.items) (kind_made c.kind_of-kind.result) (gapped word.BraceOpen) (tree c.expression-body.result) (gapped word.CloseBrace)
    c.args.reader.now c.written_name.new.reader c.symbol.new.reader c.parameters-list.new.reader c.kind_of-kind.new.reader c.symbol-2.new.reader c.expression-body.new.reader c.symbol-3.new.reader
    (c.in-Some.ensures 40) (c.symbol.ensures c.args.source.now 40) (c.parameters-list.ensures 40) (c.kind_of-kind.ensures 40) (c.symbol-2.ensures c.args.source.now 40) c.expression-body.ensures (c.symbol-3.ensures c.args.source.now 40))
