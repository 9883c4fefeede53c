use Rattle.std.proofs.Common.{List, subst}
use Rattle.gx_tree.specs.Binding.{Binding}
use Rattle.gx_grammar.specs.Grammar.{rule}
use Rattle.gx_xml.specs.Grammar.{element}
use Rattle.gx_xml.specs.Nodes.{rooted}
use Rattle.gx_xml.specs.Standings.{Did}
use Rattle.gx_xml.proofs.DocumentLemmas.{whole_read}
use Rattle.gx_xml.proofs.document.read_text.Goals as goal

pub returns : goal.returns
returns c =
    whole_read c.in_ok-root.root c.args.reader.now c.start.new.reader c.before_root.new.reader c.element.new.reader c.behind_root.new.reader c.start.ensures c.before_root.ensures
    (subst (λ (s : List Binding). Did (rooted c.in_ok-root.root) c.before_root.new.reader c.element.new.reader (rule (element 200 s))) c.in_ok-bindings.ensures c.in_ok-root.ensures.read) c.behind_root.ensures
