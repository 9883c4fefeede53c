use Rattle.std.proofs.Common.{◌-◌, sym, subst}
use Rattle.gx_parse_grammar.specs.Grammar.{place_in}
use Rattle.gx_parse_tokens.specs.Reading.{read_in}
use Rattle.gx_parse_grammar.specs.Types.{Gave}
use Rattle.gx_parse_grammar.specs.Prolog.{definer}
use Rattle.gx_parse_prolog.specs.PrologParts.{gives_made}
use Rattle.gx_parse.proofs.definitions.definer.Goals as goal

pub returns-in-Variable : goal.returns-in-Variable
unfolding definer
returns-in-Variable c = subst (λ s. Gave gives_made c.variable_definer.result c.args.reader.now c.variable_definer.new.reader (read_in c.args.source.now 40 (definer (place_in c.args.source.now) s))) (sym c.in-Variable.is) c.variable_definer.ensures

pub returns-in-Function : goal.returns-in-Function
unfolding definer
returns-in-Function c = subst (λ s. Gave gives_made c.function_definer.result c.args.reader.now c.function_definer.new.reader (read_in c.args.source.now 40 (definer (place_in c.args.source.now) s))) (sym c.in-Function.is) c.function_definer.ensures
