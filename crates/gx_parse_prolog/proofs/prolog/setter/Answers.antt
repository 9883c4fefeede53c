use Rattle.std.proofs.Common.{◌-◌, sym, subst}
use Rattle.gx_grammar.specs.Ran.{Ran}
use Rattle.gx_parse_grammar.specs.Grammar.{place_in}
use Rattle.gx_parse_tokens.specs.Reading.{read_in}
use Rattle.gx_parse_grammar.specs.Types.{Gave}
use Rattle.gx_parse_grammar.specs.Prolog.{setter}
use Rattle.gx_parse_prolog.specs.PrologParts.{says_made}
use Rattle.gx_parse_prolog.proofs.prolog.setter.Goals as goal

pub returns-in-Namespace : goal.returns-in-Namespace
unfolding setter
returns-in-Namespace c = λ n. subst (λ s. Gave says_made c.namespace_setter.result c.args.reader.now c.namespace_setter.new.reader (read_in c.args.source.now n (setter (place_in c.args.source.now) s))) (sym c.in-Namespace.is) (c.namespace_setter.ensures n)

pub returns-in-Default : goal.returns-in-Default
unfolding setter
returns-in-Default c = λ n. subst (λ s. Gave says_made c.default_setter.result c.args.reader.now c.default_setter.new.reader (read_in c.args.source.now n (setter (place_in c.args.source.now) s))) (sym c.in-Default.is) (c.default_setter.ensures n)

pub returns-in-BoundarySpace : goal.returns-in-BoundarySpace
unfolding setter
returns-in-BoundarySpace c = λ n. subst (λ s. Ran (says_made c.boundary_space_setter.result) c.args.reader.now c.boundary_space_setter.new.reader (read_in c.args.source.now n (setter (place_in c.args.source.now) s))) (sym c.in-BoundarySpace.is) (c.boundary_space_setter.ensures n)

pub returns-in-Construction : goal.returns-in-Construction
unfolding setter
returns-in-Construction c = λ n. subst (λ s. Ran (says_made c.construction_setter.result) c.args.reader.now c.construction_setter.new.reader (read_in c.args.source.now n (setter (place_in c.args.source.now) s))) (sym c.in-Construction.is) (c.construction_setter.ensures n)

pub returns-in-Ordering : goal.returns-in-Ordering
unfolding setter
returns-in-Ordering c = λ n. subst (λ s. Ran (says_made c.ordering_setter.result) c.args.reader.now c.ordering_setter.new.reader (read_in c.args.source.now n (setter (place_in c.args.source.now) s))) (sym c.in-Ordering.is) (c.ordering_setter.ensures n)

pub returns-in-CopyNamespaces : goal.returns-in-CopyNamespaces
unfolding setter
returns-in-CopyNamespaces c = λ n. subst (λ s. Ran (says_made c.copy_setter.result) c.args.reader.now c.copy_setter.new.reader (read_in c.args.source.now n (setter (place_in c.args.source.now) s))) (sym c.in-CopyNamespaces.is) (c.copy_setter.ensures n)
