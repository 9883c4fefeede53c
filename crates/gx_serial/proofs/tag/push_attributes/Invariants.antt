use Rattle.std.proofs.Common.{◌≡◌, ◌++◌, drop}
use Rattle.gx_serial.specs.Markup.{spelled_attributes}
use Rattle.gx_serial.specs.Marked.{prefixes_of, after_attributes, written_attributes}
use Rattle.gx_serial.specs.View.{begun_of, begun_by_name, Declares}
use Rattle.gx_serial.proofs.tag.push_attributes.Given as goal

-- the attributes that are left end in the tag and the text of all
abbrev pub invariant-loop-attribute : goal.invariant-loop-attribute
invariant-loop-attribute l =
    let used = prefixes_of l.fn.name l.fn.attributes in
    record {
      kept : l.prefixes.used ≡ used;
      state : after_attributes used (begun_of l.prefixes l.scope) (drop l.attribute-index l.attributes)
          ≡ after_attributes used (begun_by_name l.fn.name l.fn.scope) l.fn.attributes;
      text : l.written ++ spelled_attributes (written_attributes used (begun_of l.prefixes l.scope) (drop l.attribute-index l.attributes))
          ≡ spelled_attributes (written_attributes used (begun_by_name l.fn.name l.fn.scope) l.fn.attributes);
      declares : Declares l.fn.scope l.scope l.fn.out l.out;
    }
