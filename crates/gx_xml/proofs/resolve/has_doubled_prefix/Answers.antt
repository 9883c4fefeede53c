use Rattle.std.proofs.Common.{sym, ◌∙◌}
use Rattle.gx_base.specs.Text.{text_cmp}
use Rattle.std.specs.Prelude.{bytes_eq}
use Rattle.gx_xml.specs.declared.source.Declaration.{Declaration}
use Rattle.gx_xml.proofs.DoubleLemmas.{searched_hit, searched_next, texts_agree}
use Rattle.gx_xml.proofs.resolve.has_doubled_prefix.Goals as goal

pub returns-then-contains : goal.returns-then-contains
returns-then-contains c =
    sym (searched_hit text_cmp bytes_eq texts_agree (λ (d : Declaration). d.prefix) c.args.declarations.now c.loop-declaration.declaration-index c.declaration-item.result c.loop-declaration.seen c.loop-declaration-test.true c.declaration-item.is (sym c.contains.ensures ∙ c.if-contains.true) c.loop-declaration.invariant)

pub loop-declaration-preserved : goal.loop-declaration-preserved
loop-declaration-preserved c =
    searched_next text_cmp bytes_eq texts_agree (λ (d : Declaration). d.prefix) c.args.declarations.now c.loop-declaration.declaration-index c.declaration-item.result c.in_ok-clone.field-0 c.loop-declaration.seen c.insert.new.self
    c.loop-declaration-test.true c.declaration-item.is c.in_ok-clone.ensures.cases (sym c.contains.ensures ∙ c.if-contains.false) c.in_ok-insert.ensures.updates c.loop-declaration.invariant
