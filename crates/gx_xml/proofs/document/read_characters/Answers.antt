use Rattle.std.proofs.Common.{ap, refl, sym, subst, ◌∙◌, inl, inr}
use Rattle.std.specs.Prelude.{None, Some}
use Rattle.std.specs.Str.{chars}
use Rattle.gx_grammar.specs.Ran.{Going}
use Rattle.gx_grammar.specs.Reading.{start}
use Rattle.gx_xml.specs.Reading.{IsDocumentRefusal}
use Rattle.gx_xml.proofs.DocumentLemmas.{told, refused, encodes_own, bytes_refused}
use Rattle.gx_xml.proofs.document.read_characters.Goals as goal

pub returns-in-None : goal.returns-in-None
returns-in-None c =
    let text = chars c.args.text.now in (
      text,
      encodes_own c.args.text.now c.args.text.now c.utf8.text refl,
      told text c.in-Ok.root c.new-reader.result c.read_text.new.reader None (c.new-reader.ensures ∙ ap (λ t. Going (start t)) c.new.ensures) c.in-Ok.ensures c.in-None.ensures,
    )

pub returns-in-Some : goal.returns-in-Some
returns-in-Some c =
    let text = chars c.args.text.now in
    let here = told text c.in-Ok.root c.new-reader.result c.read_text.new.reader (Some c.in-Some.end) (c.new-reader.ensures ∙ ap (λ t. Going (start t)) c.new.ensures) c.in-Ok.ensures c.in-Some.ensures in
    elim (c.refusal_of.ensures text (encodes_own c.args.text.now c.as_bytes.result.now c.utf8.text c.as_bytes.ensures.value)) [
      | inl e ↦ subst (IsDocumentRefusal c.args.text.now) (sym e) tt
      | inr r ↦ bytes_refused c.args.text.now text (encodes_own c.args.text.now c.args.text.now c.utf8.text refl) c.refusal_of.result (refused text c.in-Ok.root c.in-Some.end c.refusal_of.result here r)
    ]
