use Rattle.std.proofs.Common.{◌≡◌, true, false, [], map, sym, ap, ◌∙◌}
use Rattle.std.specs.Prelude.{◌||◌, bytes_eq, is_none}
use Rattle.std.specs.List.{list_any}
use Rattle.gx_base.specs.Name.{same_name}
use Rattle.gx_tree.specs.Binding.{uri_read, attribute_uri_read}
use Rattle.gx_xml.specs.declared.source.Declaration.{Declaration}
use Rattle.gx_xml.specs.declared.source.SourceAttribute.{SourceAttribute}
use Rattle.gx_xml.specs.declared.tag.TagAttribute.{TagAttribute}
use Rattle.gx_xml.specs.Tags.{fault_by_room, fault_in, repeats_behind}
use Rattle.gx_xml.proofs.TagLemmas.{room_left, tag_fault_is}
use Rattle.gx_xml.proofs.element.fault.Goals as goal

pub returns-then-room-eq0-clause-fault : goal.returns-then-room-eq0-clause-fault
returns-then-room-eq0-clause-fault c = λ scope e.
    ap (λ n. fault_by_room n (fault_in (is_none (uri_read c.args.bindings.now c.args.tag.now.prefix) || list_any (λ (a : TagAttribute). is_none (attribute_uri_read c.args.bindings.now a.prefix)) c.args.tag.now.attributes.items) (repeats_behind bytes_eq [] (map (λ (d : Declaration). d.prefix) c.args.tag.now.declarations.items) || repeats_behind same_name [] (map (λ (a : SourceAttribute). a.name) c.args.expanded.now)))) (sym c.if-room-eq0.true) ∙ tag_fault_is c.args.room scope c.args.bindings.now c.args.tag.now c.args.expanded.now e c.requires

pub returns-then-has_unbound-clause-fault : goal.returns-then-has_unbound-clause-fault
returns-then-has_unbound-clause-fault c = λ scope e.
    let unbound : (is_none (uri_read c.args.bindings.now c.args.tag.now.prefix) || list_any (λ (a : TagAttribute). is_none (attribute_uri_read c.args.bindings.now a.prefix)) c.args.tag.now.attributes.items) ≡ true = sym c.has_unbound.ensures ∙ c.if-has_unbound.true in
    ap (λ u. fault_in u (repeats_behind bytes_eq [] (map (λ (d : Declaration). d.prefix) c.args.tag.now.declarations.items) || repeats_behind same_name [] (map (λ (a : SourceAttribute). a.name) c.args.expanded.now))) (sym unbound) ∙ sym (room_left c.args.room (fault_in (is_none (uri_read c.args.bindings.now c.args.tag.now.prefix) || list_any (λ (a : TagAttribute). is_none (attribute_uri_read c.args.bindings.now a.prefix)) c.args.tag.now.attributes.items) (repeats_behind bytes_eq [] (map (λ (d : Declaration). d.prefix) c.args.tag.now.declarations.items) || repeats_behind same_name [] (map (λ (a : SourceAttribute). a.name) c.args.expanded.now))) c.if-room-eq0.false) ∙ tag_fault_is c.args.room scope c.args.bindings.now c.args.tag.now c.args.expanded.now e c.requires

pub returns-then-branch-clause-fault : goal.returns-then-branch-clause-fault
returns-then-branch-clause-fault c = λ scope e.
    let unbound : (is_none (uri_read c.args.bindings.now c.args.tag.now.prefix) || list_any (λ (a : TagAttribute). is_none (attribute_uri_read c.args.bindings.now a.prefix)) c.args.tag.now.attributes.items) ≡ false = sym c.has_unbound.ensures ∙ c.if-has_unbound.false in
    let doubled : (repeats_behind bytes_eq [] (map (λ (d : Declaration). d.prefix) c.args.tag.now.declarations.items) || repeats_behind same_name [] (map (λ (a : SourceAttribute). a.name) c.args.expanded.now)) ≡ true = ap (λ ds. repeats_behind bytes_eq [] (map (λ (d : Declaration). d.prefix) ds) || repeats_behind same_name [] (map (λ (a : SourceAttribute). a.name) c.args.expanded.now)) (sym c.deref.ensures.value) ∙ sym c.in_ok-has_doubled.ensures ∙ c.if-branch.true in
    ap (λ d. fault_in false d) (sym doubled) ∙ ap (λ u. fault_in u (repeats_behind bytes_eq [] (map (λ (d : Declaration). d.prefix) c.args.tag.now.declarations.items) || repeats_behind same_name [] (map (λ (a : SourceAttribute). a.name) c.args.expanded.now))) (sym unbound) ∙ sym (room_left c.args.room (fault_in (is_none (uri_read c.args.bindings.now c.args.tag.now.prefix) || list_any (λ (a : TagAttribute). is_none (attribute_uri_read c.args.bindings.now a.prefix)) c.args.tag.now.attributes.items) (repeats_behind bytes_eq [] (map (λ (d : Declaration). d.prefix) c.args.tag.now.declarations.items) || repeats_behind same_name [] (map (λ (a : SourceAttribute). a.name) c.args.expanded.now))) c.if-room-eq0.false) ∙ tag_fault_is c.args.room scope c.args.bindings.now c.args.tag.now c.args.expanded.now e c.requires

pub returns-clause-fault : goal.returns-clause-fault
returns-clause-fault c = λ scope e.
    let unbound : (is_none (uri_read c.args.bindings.now c.args.tag.now.prefix) || list_any (λ (a : TagAttribute). is_none (attribute_uri_read c.args.bindings.now a.prefix)) c.args.tag.now.attributes.items) ≡ false = sym c.has_unbound.ensures ∙ c.if-has_unbound.false in
    let doubled : (repeats_behind bytes_eq [] (map (λ (d : Declaration). d.prefix) c.args.tag.now.declarations.items) || repeats_behind same_name [] (map (λ (a : SourceAttribute). a.name) c.args.expanded.now)) ≡ false = ap (λ ds. repeats_behind bytes_eq [] (map (λ (d : Declaration). d.prefix) ds) || repeats_behind same_name [] (map (λ (a : SourceAttribute). a.name) c.args.expanded.now)) (sym c.deref.ensures.value) ∙ sym c.in_ok-has_doubled.ensures ∙ c.if-branch.false in
    ap (λ d. fault_in false d) (sym doubled) ∙ ap (λ u. fault_in u (repeats_behind bytes_eq [] (map (λ (d : Declaration). d.prefix) c.args.tag.now.declarations.items) || repeats_behind same_name [] (map (λ (a : SourceAttribute). a.name) c.args.expanded.now))) (sym unbound) ∙ sym (room_left c.args.room (fault_in (is_none (uri_read c.args.bindings.now c.args.tag.now.prefix) || list_any (λ (a : TagAttribute). is_none (attribute_uri_read c.args.bindings.now a.prefix)) c.args.tag.now.attributes.items) (repeats_behind bytes_eq [] (map (λ (d : Declaration). d.prefix) c.args.tag.now.declarations.items) || repeats_behind same_name [] (map (λ (a : SourceAttribute). a.name) c.args.expanded.now))) c.if-room-eq0.false) ∙ tag_fault_is c.args.room scope c.args.bindings.now c.args.tag.now c.args.expanded.now e c.requires
