use Rattle.std.proofs.Common.{◌≡◌, drop}
use Rattle.gx_serial.specs.Answer.{answer_text, text_with}
use Rattle.gx_serial.proofs.item.answer_text.Given as goal

abbrev pub invariant-loop-item : goal.invariant-loop-item
invariant-loop-item l = text_with l.answer (drop l.item-index l.items) ≡ answer_text l.items
