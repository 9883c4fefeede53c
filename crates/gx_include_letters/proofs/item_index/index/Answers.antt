use Rattle.std.proofs.Common.{◌∙◌, refl, sym, ap}
use Rattle.std.specs.Prelude.{option_copied}
use Rattle.gx_include_letters.proofs.Listed.{unnamed_more, named_more, index_is}
use Rattle.gx_include_letters.proofs.item_index.index.Goals as goal
use Rattle.gx_include_letters.proofs.item_index.index.Goals.{in-Some+in_ok-add_asking-in-Some, in-None+in_ok-push-in-None}

pub loop-number-preserved : goal.loop-number-preserved
loop-number-preserved c = elim c.match-name_asked.branch [
  | in-Some+in_ok-add_asking-in-Some w ↦
      rw (w.names-is, w.asking-is, w.unnamed-is)
      (named_more c.args.items.now c.loop-number.names.keys w.add_asking.new.names.keys c.loop-number.asking.items w.add_asking.new.asking.items c.loop-number.unnamed.items c.loop-number.number
      c.index-items-number.result w.in-Some.name.now c.index-items-number.is (sym c.name_asked.ensures ∙ ap option_copied w.in-Some.is) w.in_ok-add_asking-in-Some.ensures.names
      w.in_ok-add_asking-in-Some.ensures.asking c.loop-number.invariant)
  | in-None+in_ok-push-in-None w ↦
      rw (w.names-is, w.asking-is, w.unnamed-is)
      (unnamed_more c.args.items.now c.loop-number.names.keys c.loop-number.asking.items c.loop-number.unnamed.items w.push.new.self.items c.loop-number.number c.index-items-number.result
      c.index-items-number.is (sym c.name_asked.ensures ∙ ap option_copied w.in-None.is) w.in_ok-push-in-None.ensures.items c.loop-number.invariant)
]

pub returns : goal.returns
returns c =
    index_is c.args.items.now c.args.items.now c.loop-number.names.keys c.loop-number.asking.items c.loop-number.unnamed.items c.loop-number.number refl c.loop-number-test.false c.loop-number.invariant
