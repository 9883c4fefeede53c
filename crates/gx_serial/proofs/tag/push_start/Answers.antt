use Rattle.std.proofs.Common.{◌≡◌, ◌++◌, refl, ap, ◌∙◌}
use Rattle.std.specs.Prelude.{codes}
use Rattle.gx_serial.specs.Markup.{spelled_name, spelled_attributes}
use Rattle.gx_serial.specs.Marked.{Begun, begun, prefixes_of, after_attributes, written_attributes, scope_within}
use Rattle.gx_serial.specs.View.{begun_by_name, Declares}
use Rattle.gx_serial.proofs.TagLemmas.{Declares-trans, Declares-from, start_text, kept_in_front}
use Rattle.gx_serial.proofs.tag.push_start.Goals as goal

pub returns : goal.returns
returns c =
    let name = c.args.name.now in
    let attributes = c.args.attributes.now in
    let used = prefixes_of name attributes in
    let before = c.args.scope.now in
    let front = (c.args.out.now ++ codes "<") ++ spelled_name name.prefix name.local in
    let opened : c.push_name.new.out ≡ front =
    c.in_ok-push_name.ensures ∙ ap (λ o. o ++ spelled_name name.prefix name.local) c.in_ok-push.ensures.ok in
    let first : begun_by_name name c.declare.new.scope ≡ begun before name = ap (begun_by_name name) c.in_ok-declare.ensures.scope in
    let within : c.push_attributes.new.scope ≡ scope_within before name attributes =
    c.in_ok-push_attributes.ensures.scope ∙ ap (λ (s : Begun). (after_attributes used s attributes).scope) first in
    let text = c.in_ok-push_attributes.ensures.text in
    let declares : Declares before c.push_attributes.new.scope front text.0 =
    Declares-from before c.push_attributes.new.scope c.push_name.new.out front text.0 opened
    (Declares-trans before c.declare.new.scope c.push_attributes.new.scope c.push_name.new.out c.declare.new.out text.0 c.in_ok-declare.ensures.declares text.1) in
    record {
      scope = within;
      kept = kept_in_front before c.push_attributes.new.scope front text.0 declares;
      text = text.2 ∙ start_text before c.push_attributes.new.scope c.args.out.now front text.0 _ name attributes refl declares within
          (ap (λ (s : Begun). spelled_attributes (written_attributes used s attributes)) first);
    }
