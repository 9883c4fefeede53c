use Rattle.std.proofs.Common.{sym, ◌∙◌, ap, arith}
use Rattle.std.proofs.lemmas.List.{take_all}
use Rattle.std.proofs.lemmas.List.Sums.{count_by_more_yes, count_by_more_no}
use Rattle.std.specs.List.{count_by}
use Rattle.gx_xml.specs.Beginnings.{begins_character}
use Rattle.gx_xml.proofs.BeginningLemmas.{beginnings_counted}
use Rattle.gx_xml.proofs.characters.count_of.Goals as goal
use Rattle.gx_xml.proofs.characters.count_of.Goals.{then-begins_character, else-begins_character}

pub loop-byte-preserved : goal.loop-byte-preserved
loop-byte-preserved c =
    let bytes = c.as_bytes-bytes.result.now in
    let before = c.loop-byte.invariant in
    elim c.if-begins_character.branch [
      | then-begins_character w ↦
          let more = count_by_more_yes begins_character bytes c.loop-byte.byte-index 0 c.loop-byte-test.true (sym c.begins_character.ensures ∙ w.if-begins_character.true) in
          record { counted = omega (arith, w.count-is, before.counted, more); few = omega (arith, w.count-is, before.few) }
      | else-begins_character w ↦
          let same = count_by_more_no begins_character bytes c.loop-byte.byte-index 0 c.loop-byte-test.true (sym c.begins_character.ensures ∙ w.if-begins_character.false) in
          record { counted = w.count-is ∙ before.counted ∙ sym same; few = omega (arith, w.count-is, before.few) }
    ]

pub returns : goal.returns
returns c =
    c.loop-byte.invariant.counted ∙ ap (count_by begins_character) (take_all c.loop-byte.byte-index c.as_bytes-bytes.result.now c.loop-byte-test.false) ∙ ap (count_by begins_character) c.as_bytes-bytes.ensures.value
    ∙ beginnings_counted c.args.text.now c.utf8.text
