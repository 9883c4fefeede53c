use Rattle.std.proofs.Common.{◌≡◌, rules, sym, ◌∙◌, ap, Some, List, slice_get, length, arith}
use Rattle.std.proofs.lemmas.Option.{slice_get-get_or}
use Rattle.gx_types.specs.declared.declaration.Declared.{Declared}
use Rattle.gx_include_derivations.proofs.Derived.{bases_more}
use Rattle.gx_include_derivations.proofs.derivations.bases_of.Goals as goal

pub loop-declared-preserved : goal.loop-declared-preserved
loop-declared-preserved c =
    let s = c.args.schemas.now in
    let d = c.declared-item.result in
    let types = c.types-declared-items.result.now in
    let index = c.loop-declared.declared-index in
    let here : slice_get s.types index ≡ Some d =
    ap (λ (ts : List Declared). slice_get ts index) (sym c.types-declared-items.ensures.value) ∙ slice_get-get_or types index d c.loop-declared-test.true ∙ ap (λ (x : Declared). Some x) (sym c.declared-item.is) in
    record {
      count = search rules;
      are =
          bases_more s c.args.numbers.now c.loop-declared.bases.items c.push.new.self.items c.number_of_base.result d index c.requires c.number_of_base.ensures c.in_ok-push.ensures.items
          c.loop-declared.invariant.count here c.loop-declared.invariant.are;
    }

pub returns : goal.returns
returns c = record {
  count_is =
      omega (arith, c.loop-declared.invariant.count, c.loop-declared-test.false, c.loop-declared.auto.declared-index-end, ap length c.types-declared-items.ensures.value);
  are = c.loop-declared.invariant.are;
}
