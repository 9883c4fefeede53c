use Rattle.std.proofs.Common.{rules, ◌∙◌, ap, arith, List}
use Rattle.std.proofs.lemmas.List.{take_all}
use Rattle.gx_types.specs.declared.item_type.ItemType.{ItemType}
use Rattle.gx_include_derivations.specs.Asked.{is_asked_at}
use Rattle.gx_include_derivations.proofs.Asked.{none_asked, asked_more}
use Rattle.gx_include_derivations.proofs.derivations.Derivations.flags_asked.Goals as goal

pub loop-item-init : goal.loop-item-init
loop-item-init c = record {
  count = search rules;
  are = λ n h. none_asked c.len.result n c.in_ok-flags.flags.items (search rules);
}

pub loop-item-preserved : goal.loop-item-preserved
loop-item-preserved c = record {
  count = c.mark_asked.ensures.count ∙ c.loop-item.invariant.count;
  are = λ n h.
      asked_more c.args.self.now c.args.items.now c.loop-item.item-index c.item-item.result n _ _ c.loop-item-test.true c.item-item.is (c.loop-item.invariant.are n h)
      (c.mark_asked.ensures.flags n (omega (arith, h, c.loop-item.invariant.count)));
}

pub returns : goal.returns
returns c = λ n h.
    c.loop-item.invariant.are n h ∙ ap (λ (kinds : List ItemType). is_asked_at c.args.self.now kinds n) (take_all c.loop-item.item-index c.args.items.now c.loop-item-test.false)
