use Rattle.gx_base.specs.Text.{text_cmp}
use Rattle.std.specs.Prelude.{bytes_eq}
use Rattle.gx_xml.specs.declared.source.Declaration.{Declaration}
use Rattle.gx_xml.proofs.DoubleLemmas.{Searched, texts_agree}
use Rattle.gx_xml.proofs.resolve.has_doubled_prefix.Given as goal

abbrev pub invariant-loop-declaration : goal.invariant-loop-declaration
invariant-loop-declaration l = Searched text_cmp bytes_eq texts_agree (λ (d : Declaration). d.prefix) l.declarations l.declaration-index l.seen
