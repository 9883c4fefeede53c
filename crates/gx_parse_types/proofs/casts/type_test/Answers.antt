use Rattle.std.proofs.Common.{ap}
use Rattle.gx_ast.specs.SyntaxTree.{at}
use Rattle.gx_grammar.specs.Value.{nothing, node, pair}
use Rattle.gx_parse_grammar.specs.declared.word.Word.TheVariants as word
use Rattle.gx_parse_grammar.specs.declared.word.WordSet.TheVariants as set
use Rattle.gx_parse_grammar.specs.Nodes.{Found, Operator, tree}
use Rattle.gx_parse_grammar.specs.Grammar.{place_in}
use Rattle.gx_parse_tokens.specs.Reading.{read_in}
use Rattle.gx_parse_grammar.specs.Types.{type_made}
use Rattle.gx_parse_grammar.specs.Casts.{type_test, test_form}
use Rattle.gx_parse_types.proofs.CastsPhrases.{no_test, test_read}
use Rattle.gx_parse_parts.proofs.Chains.{ran_any, ran_keeps}
use Rattle.gx_parse_types.proofs.casts.type_test.Goals as goal

pub returns-then-not-looks_at : goal.returns-then-not-looks_at
returns-then-not-looks_at c = λ n before a h. no_test c.args.source.now n c.args.test before (set.Only c.word.result) c.args.operand c.looks_at.result a c.args.reader.now c.looks_at.new.self (ap set.Only c.word.ensures) h c.if-not-looks_at.true c.looks_at.ensures

pub returns-in_default : goal.returns-in_default
returns-in_default c = λ n before a h.
    let done = rw c.in_default.is at (c.sequence_type.ensures n) in
    ran_any _ (tree c.args.operand) a c.sequence_type.new.reader (read_in c.args.source.now n (type_test (place_in c.args.source.now) c.args.test before)) done.0
    (test_read c.args.source.now n c.args.test before (set.Only c.word.result) (set.Only c.second.result) c.args.operand (node (Operator c.operator-word.result.0 c.operator-word.result.1)) (pair (node (Found c.lexeme.result)) nothing) nothing c.looks_at.result a c.args.reader.now c.looks_at.new.self c.operator-word.new.reader c.lexeme.new.reader c.sequence_type.new.reader
    (ap set.Only c.word.ensures) (ap set.Only c.second.ensures) h c.if-not-looks_at.false c.looks_at.ensures (c.operator-word.ensures n) (c.lexeme.ensures c.args.source.now n) (done.1 nothing))

pub returns : goal.returns
returns c = λ n before a h.
    ran_keeps c.keep.result (at c.operator-word.result.0 (test_form c.args.test c.args.operand c.in-Some.kind)) c.tested-made.result a c.sequence_type.new.reader c.keep.new.reader (read_in c.args.source.now n (type_test (place_in c.args.source.now) c.args.test before))
    (test_read c.args.source.now n c.args.test before (set.Only c.word.result) (set.Only c.second.result) c.args.operand (node (Operator c.operator-word.result.0 c.operator-word.result.1)) (pair (node (Found c.lexeme.result)) nothing) (type_made c.in-Some.kind) c.looks_at.result a c.args.reader.now c.looks_at.new.self c.operator-word.new.reader c.lexeme.new.reader c.sequence_type.new.reader
    (ap set.Only c.word.ensures) (ap set.Only c.second.ensures) h c.if-not-looks_at.false c.looks_at.ensures (c.operator-word.ensures n) (c.lexeme.ensures c.args.source.now n) (c.in-Some.ensures n))
    c.tested-made.ensures c.keep.ensures
