use Rattle.std.proofs.Common.{◌≡◌, ◌≤◌, ◌++◌, length, ap, ◌∙◌, sym}
use Rattle.gx_serial.specs.Markup.{spelled_attribute, spelled_attributes}
use Rattle.gx_serial.specs.Marked.{Begun, prefixes_of, after_attribute, after_attributes, written_prefix, written_attributes}
use Rattle.gx_serial.specs.View.{TagPrefixes, begun_of, begun_by_name}
use Rattle.gx_serial.proofs.TagLemmas.{Declares-none, Declares-trans, state_next, text_next, state_end, text_end}
use Rattle.gx_serial.proofs.tag.push_attributes.Goals as goal

pub loop-attribute-init : goal.loop-attribute-init
loop-attribute-init c =
    let attributes = c.args.attributes.now in
    let used = prefixes_of c.args.name.now attributes in
    let first : begun_of c.in_ok-prefixes.prefixes c.args.scope.now ≡ begun_by_name c.args.name.now c.args.scope.now =
    ap (λ (p : TagPrefixes). begun_of p c.args.scope.now) c.in_ok-prefixes.ensures in
    record {
      kept = ap (λ (p : TagPrefixes). p.used) c.in_ok-prefixes.ensures;
      state = ap (λ (s : Begun). after_attributes used s attributes) first;
      text = rw c.new-written.ensures (ap (λ (s : Begun). spelled_attributes (written_attributes used s attributes)) first);
      declares = Declares-none c.args.scope.now c.args.out.now;
    }

pub loop-attribute-preserved : goal.loop-attribute-preserved
loop-attribute-preserved c =
    let attributes = c.args.attributes.now in
    let used = prefixes_of c.args.name.now attributes in
    let old = begun_of c.loop-attribute.prefixes c.loop-attribute.scope in
    let new = begun_of c.push_next.new.prefixes c.push_next.new.scope in
    let i = c.loop-attribute.attribute-index in
    let a = c.attribute-item.result in
    let state : new ≡ after_attribute used old a =
    c.in_ok-push_next.ensures.state ∙ ap (λ ps. after_attribute ps old a) c.loop-attribute.invariant.kept in
    let written : c.push_next.new.written
    ≡ c.loop-attribute.written ++ spelled_attribute (record { prefix = written_prefix used old a; local = a.name.local; written_value = a.value }) =
    c.in_ok-push_next.ensures.written
    ∙ ap (λ ps. c.loop-attribute.written ++ spelled_attribute (record { prefix = written_prefix ps old a; local = a.name.local; written_value = a.value }))
    c.loop-attribute.invariant.kept in
    record {
      kept = c.in_ok-push_next.ensures.used ∙ c.loop-attribute.invariant.kept;
      state = state_next used old new attributes i a c.loop-attribute-test.true c.attribute-item.is state ∙ c.loop-attribute.invariant.state;
      text = text_next used old new c.loop-attribute.written c.push_next.new.written attributes i a c.loop-attribute-test.true c.attribute-item.is
          state written
          ∙ c.loop-attribute.invariant.text;
      declares = Declares-trans c.args.scope.now c.loop-attribute.scope c.push_next.new.scope c.args.out.now c.loop-attribute.out c.push_next.new.out
          c.loop-attribute.invariant.declares c.in_ok-push_next.ensures.declares;
    }

pub returns : goal.returns
returns c =
    let attributes = c.args.attributes.now in
    let used = prefixes_of c.args.name.now attributes in
    let last = begun_of c.loop-attribute.prefixes c.loop-attribute.scope in
    let i = c.loop-attribute.attribute-index in
    let past : length attributes ≤ i = c.loop-attribute-test.false in
    let listed : c.loop-attribute.written ≡ spelled_attributes (written_attributes used (begun_by_name c.args.name.now c.args.scope.now) attributes) =
    sym (text_end used last c.loop-attribute.written attributes i past) ∙ c.loop-attribute.invariant.text in
    record {
      scope = ap (λ (s : Begun). s.scope) (sym (state_end used last attributes i past) ∙ c.loop-attribute.invariant.state);
      text = (
        c.loop-attribute.out,
        c.loop-attribute.invariant.declares,
        c.in_ok-append.ensures.ok ∙ ap (λ t. c.loop-attribute.out ++ t) listed,
      );
    }
