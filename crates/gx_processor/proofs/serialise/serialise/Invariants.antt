use Rattle.std.proofs.Common.{◌≡◌, drop}
use Rattle.std.specs.Prelude.{map}
use Rattle.gx_serial.specs.Answer.{answer_text, text_with}
use Rattle.gx_store.specs.Items.{items_in}
use Rattle.gx_processor.specs.Serialisation.{serial_item}
use Rattle.gx_processor.proofs.serialise.serialise.Given as goal

abbrev pub invariant-loop-item : goal.invariant-loop-item
invariant-loop-item l =
    text_with l.answer (map (serial_item l.store) (items_in l.store (drop l.item-index l.value))) ≡ answer_text (map (serial_item l.store) (items_in l.store l.value))
