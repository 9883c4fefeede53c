use Rattle.std.proofs.Common.{◌≡◌, ◌++◌, map, rules, sym, ap, ◌∙◌, subst, refl, arith, List}
use Rattle.gx_tree.specs.Binding.{Binding}
use Rattle.gx_xml.specs.Characters.{spelled}
use Rattle.gx_xml.specs.SourceView.{contents_of}
use Rattle.gx_xml.specs.Tags.{declared_binding, expanded_attribute}
use Rattle.gx_xml.specs.Gathered.{ReadItem}
use Rattle.gx_grammar.specs.Grammar.{rule}
use Rattle.gx_xml.specs.Grammar.{inside}
use Rattle.gx_xml.specs.Nodes.{rooted}
use Rattle.gx_xml.specs.Standings.{Did, code_of_fault}
use Rattle.gx_xml.proofs.Steps.{did_idle}
use Rattle.gx_xml.proofs.ValueLemmas.{not_both}
use Rattle.gx_xml.proofs.ContentLemmas.{if_ok, content_ends, content_goes_on, ends_content, item_comment, item_instruction, item_section, item_reference, item_element, no_content_behind, content_behind, tag_read, begun_is, element_read}
use Rattle.gx_xml.proofs.element.+element.Goals as goal
use Rattle.gx_xml.proofs.element.+element.Goals.{children-then-room-eq0-via-then-room-eq0, children-then-room-eq0-via-else-room-eq0+then-not-is_open, content-then-has_ended-via-then-has_ended, content-then-has_ended-via-else-has_ended+then-not-is_item}

pub children-returns-then-room-eq0-clause-read : goal.children-returns-then-room-eq0-clause-read
children-returns-then-room-eq0-clause-read t c = λ u rooms scopes prefixes locals.
    elim c.then-room-eq0.branch [
      | children-then-room-eq0-via-then-room-eq0 w ↦ did_idle _ _ c.args.reader.now (c.requires w.if-room-eq0.true)
      | children-then-room-eq0-via-else-room-eq0+then-not-is_open w ↦
          no_content_behind u c.args.mark (contents_of c.new.result.items) c.args.reader.now (λ e. not_both w.is_open.result (w.is_open.ensures.1 e) w.if-not-is_open.true) (ap contents_of c.new.ensures.items)
    ]

pub children-returns-clause-read : goal.children-returns-clause-read
children-returns-clause-read t c =
    content_behind c.args.room c.args.bindings.now (spelled c.args.name.prefix) (spelled c.args.name.local) c.args.mark (contents_of c.in_ok-children.children.items) c.space.result
    c.args.reader.now c.content.new.reader c.end_name.new.reader c.space.new.reader c.symbol.new.self (c.is_open.ensures.0 c.if-not-is_open.false)
    c.in_ok-children.ensures.read c.end_name.ensures.read c.space.ensures.read c.symbol.ensures.read

pub content-returns-then-has_ended-clause-read : goal.content-returns-then-has_ended-clause-read
content-returns-then-has_ended-clause-read t c =
    if_ok c.finish.result c.finish.ensures (λ v e.
    content_ends c.args.room c.args.bindings.now c.loop-children.children c.push_text.new.self (spelled c.maybe_run-run.result) c.choice-mark.result c.args.reader.now c.loop-children.reader c.maybe_run-run.new.self c.choice-mark.new.self
    c.loop-children.invariant.read c.maybe_run-run.ensures.read c.in_ok-push_text.ensures c.choice-mark.ensures.read (contents_of v.items)
    (elim c.then-has_ended.branch [
      | content-then-has_ended-via-then-has_ended w ↦ did_idle _ _ c.choice-mark.new.self (c.has_ended.ensures.0 w.if-has_ended.true)
      | content-then-has_ended-via-else-has_ended+then-not-is_item w ↦ ends_content c.args.room c.args.bindings.now c.choice-mark.result c.choice-mark.new.self (sym w.is_item.ensures ∙ w.if-not-is_item.true)
    ]) e)

pub content-loop-children-preserved : goal.content-loop-children-preserved
content-loop-children-preserved t c = record {
  read = content_goes_on c.args.room c.args.bindings.now c.loop-children.children c.push_text.new.self (spelled c.maybe_run-run.result) c.choice-mark.result c.args.reader.now c.loop-children.reader c.maybe_run-run.new.self c.choice-mark.new.self
      c.loop-children.invariant.read c.maybe_run-run.ensures.read c.in_ok-push_text.ensures c.choice-mark.ensures.read c.item.new.children c.item.new.reader
      (subst (λ (s : List Binding). ReadItem c.args.room s c.choice-mark.result c.push_text.new.self c.item.new.children c.choice-mark.new.self c.item.new.reader) c.loop-children.invariant.kept c.in_ok-item.ensures.read);
  kept = c.in_ok-item.ensures.kept ∙ c.loop-children.invariant.kept;
  shrinks = omega arith;
}

pub declared-children-requires : goal.declared-children-requires
declared-children-requires t c = (search rules, λ e. c.tag_end-mark.ensures.faulty (c.in_ok-fault.ensures.deep e))

pub declared-returns-clause-read : goal.declared-returns-clause-read
declared-returns-clause-read t c = λ scope e.
    tag_read c.args.room scope c.args.bindings.now c.args.tag (spelled c.args.name.prefix) (spelled c.args.name.local) c.tag_end-mark.result (code_of_fault c.in_ok-fault.fault) c.in_ok-name_of.name_of c.in_ok-attributes.attributes.items (contents_of c.in_ok-children.children.items)
    c.args.reader.now c.tag_end-mark.new.self c.children.new.reader e (c.in_ok-fault.ensures.fault scope e) c.requires.prefix c.requires.local c.in_ok-name_of.ensures
    (c.in_ok-attributes.ensures ∙ ap (map (expanded_attribute c.args.bindings.now)) c.deref.ensures.value) c.tag_end-mark.ensures.read c.in_ok-children.ensures.read

pub element-declared-requires : goal.element-declared-requires
element-declared-requires t c = (search rules, (c.in_ok-attributes.ensures.prefix ∙ c.in_ok-tag.ensures.prefix, c.in_ok-attributes.ensures.local ∙ c.in_ok-tag.ensures.local))

pub element-returns-clause-read : goal.element-returns-clause-read
element-returns-clause-read t c =
    let scope = c.args.bindings.now in
    let declared_at : c.declare.new.bindings ≡ scope ++ map declared_binding c.attributes.new.tag.declarations.items = c.in_ok-declare.ensures ∙ ap (λ ds. scope ++ map declared_binding ds) c.deref.ensures.value in
    element_read c.args.room scope (spelled c.run-first.result) (spelled c.element_name-name.result.prefix) (spelled c.element_name-name.result.local) (rooted c.in_ok-element.element)
    c.args.reader.now c.run-first.new.self c.element_name-name.new.reader c.declared.new.reader c.run-first.ensures.read c.element_name-name.ensures.read
    (subst (λ u. Did (rooted c.in_ok-element.element) c.element_name-name.new.reader c.declared.new.reader (rule (inside u)))
    (begun_is c.args.room scope c.in_ok-tag.tag (spelled c.element_name-name.result.prefix) (spelled c.element_name-name.result.local) c.in_ok-tag.ensures.prefix c.in_ok-tag.ensures.local c.in_ok-tag.ensures.declarations c.in_ok-tag.ensures.attributes)
    (c.in_ok-attributes.ensures.read c.args.room scope (rooted c.in_ok-element.element) c.declared.new.reader (c.in_ok-element.ensures.read scope declared_at)))

pub item-returns-in-Comment-clause-read : goal.item-returns-in-Comment-clause-read
item-returns-in-Comment-clause-read t c = item_comment c.args.room c.args.bindings.now c.args.mark c.args.children.now c.args.children.now c.args.reader.now c.comment.new.reader c.in-Comment.is c.comment.ensures.read refl

pub item-returns-in-Instruction-clause-read : goal.item-returns-in-Instruction-clause-read
item-returns-in-Instruction-clause-read t c = item_instruction c.args.room c.args.bindings.now c.args.mark c.args.children.now c.args.children.now c.args.reader.now c.instruction.new.reader c.in-Instruction.is c.instruction.ensures.read refl

pub item-returns-in_ok-push_section-in-CData-clause-read : goal.item-returns-in_ok-push_section-in-CData-clause-read
item-returns-in_ok-push_section-in-CData-clause-read t c = item_section c.args.room c.args.bindings.now c.args.mark c.args.children.now c.push_section.new.self c.args.reader.now (spelled c.run-run.result) c.run-run.new.self c.symbol.new.self c.in-CData.is c.run-run.ensures.read c.symbol.ensures.read c.in_ok-push_section-in-CData.ensures

pub item-returns-in_ok-push_character-in-Reference-clause-read : goal.item-returns-in_ok-push_character-in-Reference-clause-read
item-returns-in_ok-push_character-in-Reference-clause-read t c = item_reference c.args.room c.args.bindings.now c.args.mark c.args.children.now c.push_character.new.self c.args.reader.now c.reference-character.result c.reference-character.new.reader c.in-Reference.is c.reference-character.ensures.read c.in_ok-push_character-in-Reference.ensures

pub item-returns-in_ok-push_element-in-StartTag-clause-read : goal.item-returns-in_ok-push_element-in-StartTag-clause-read
item-returns-in_ok-push_element-in-StartTag-clause-read t c = item_element c.args.room c.args.bindings.now c.args.mark c.args.children.now c.push_element.new.self c.args.reader.now c.in_ok-child-in-StartTag.child c.element.new.reader c.in-StartTag.is c.in_ok-child-in-StartTag.ensures.read c.in_ok-push_element-in-StartTag.ensures
