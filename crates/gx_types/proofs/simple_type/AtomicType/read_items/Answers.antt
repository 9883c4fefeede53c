use Rattle.std.proofs.Common.{◌∙◌}
use Rattle.gx_facets.proofs.Texts.{text_of, chars_of}
use Rattle.gx_types.specs.SimpleView.{atomic_view}
use Rattle.gx_types.proofs.ListItems.{all_is_left}
use Rattle.gx_types.proofs.simple_type.AtomicType.read_items.Goals as goal

pub loop-c-init : goal.loop-c-init
loop-c-init c =
    let bytes = c.chars-rest.ensures.rest ∙ c.as_str.ensures.bytes in
    record {
      text = text_of c.args.text.now _ c.as_str.ensures.characters bytes;
      same =
          rw (c.new-values.ensures.items, c.new-word.ensures, chars_of c.args.text.now _ c.as_str.ensures.characters bytes)
          (all_is_left (atomic_view c.args.self.now) c.args.text.now);
    }
