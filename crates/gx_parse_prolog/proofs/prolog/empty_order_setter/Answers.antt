use Rattle.std.proofs.Common.{◌-◌, sym, subst}
use Rattle.gx_grammar.specs.Ran.{Ran}
use Rattle.gx_parse_tokens.specs.Reading.{read_in}
use Rattle.gx_parse_prolog.proofs.PrologPhrases.{empty_order_read}
use Rattle.gx_parse_grammar.specs.Prolog.{empty_order_setter}
use Rattle.gx_parse_prolog.specs.PrologParts.{gapped, says_made}
use Rattle.gx_ast.specs.declared.query.SettingNode.TheVariants as sets
use Rattle.gx_parse_prolog.proofs.prolog.empty_order_setter.Goals as goal

pub returns : goal.returns
returns c = λ n.
    subst (λ o. Ran (says_made (sets.EmptyOrder o)) c.args.reader.now c.lexeme-word.new.reader (read_in c.args.source.now n empty_order_setter)) (sym c.order_of.ensures)
    (empty_order_read c.args.source.now n (gapped c.lexeme-word.result) c.args.reader.now c.symbol.new.reader c.symbol-2.new.reader c.lexeme-word.new.reader (c.symbol.ensures c.args.source.now n) (c.symbol-2.ensures c.args.source.now n) (c.lexeme-word.ensures c.args.source.now n))
