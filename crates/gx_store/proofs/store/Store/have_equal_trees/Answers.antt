use Rattle.std.proofs.Common.{sym, ◌∙◌, arith}
use Rattle.gx_store.proofs.AgreeingLemmas.{trees_from, agree_stops, agree_goes_on, alike_where_agree}
use Rattle.gx_store.proofs.store.Store.have_equal_trees.Goals as goal

pub loop-one-init : goal.loop-one-init
loop-one-init c = record {
  beside = omega arith;
  left = trees_from c.args.self.now c.args.a c.args.b c.after-end.result c.requires.a c.requires.b c.after-end.ensures.next;
}

pub returns-then-not-rows_agree : goal.returns-then-not-rows_agree
returns-then-not-rows_agree c =
    agree_stops c.args.self.now c.args.a c.args.b c.after-end.result c.loop-one.one c.loop-one.other _ c.rows_agree.result c.loop-one.invariant.beside c.loop-one-test.true c.rows_agree.ensures c.if-not-rows_agree.true
    c.loop-one.invariant.left

pub after_attributes-other-requires : goal.after_attributes-other-requires
after_attributes-other-requires c = (alike_where_agree c.args.self.now c.loop-one.one c.loop-one.other (sym c.rows_agree.ensures ∙ c.if-not-rows_agree.false)).second

pub loop-one-preserved : goal.loop-one-preserved
loop-one-preserved c =
    let alike = alike_where_agree c.args.self.now c.loop-one.one c.loop-one.other (sym c.rows_agree.ensures ∙ c.if-not-rows_agree.false) in
    let here = c.loop-one in
    record {
      beside = omega (arith, alike.attributes, here.invariant.beside, c.after_attributes-one.ensures.next, c.after_attributes-other.ensures.next);
      left = agree_goes_on c.args.self.now c.args.a c.args.b c.after-end.result here.one here.other c.after_attributes-one.result _ c.rows_agree.result here.invariant.beside c.loop-one-test.true c.rows_agree.ensures
          c.if-not-rows_agree.false c.after_attributes-one.ensures.next here.invariant.left;
    }
