use Rattle.std.proofs.Common.{◌-◌}
use Rattle.gx_parse_tokens.specs.Reading.{read_in}
use Rattle.gx_parse_prolog.proofs.PrologPhrases.{default_element, default_order}
use Rattle.gx_parse_grammar.specs.Prolog.{default_namespace, default_setter}
use Rattle.gx_parse_prolog.specs.PrologParts.{says_made}
use Rattle.gx_parse_prolog.proofs.prolog.default_setter.Goals as goal
use Rattle.gx_parse_parts.proofs.Phrases.{gave_same}

pub returns-then-looks_at : goal.returns-then-looks_at
returns-then-looks_at c = λ n. gave_same says_made c.default_namespace.result c.args.reader.now c.looks_at.new.self c.default_namespace.new.reader (read_in c.args.source.now n default_namespace) (read_in c.args.source.now n default_setter) (default_element c.args.source.now n c.looks_at.result c.args.reader.now c.looks_at.new.self c.default_namespace.new.reader c.if-looks_at.true c.looks_at.ensures) (c.default_namespace.ensures n)

pub returns : goal.returns
returns c = λ n. default_order c.args.source.now n (says_made c.empty_order_setter.result) c.looks_at.result c.args.reader.now c.looks_at.new.self c.empty_order_setter.new.reader c.if-looks_at.false c.looks_at.ensures (c.empty_order_setter.ensures n)
