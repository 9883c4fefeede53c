use Rattle.std.proofs.Common.{◌≡◌, ◌≤◌, rules, sym, ◌∙◌, ap, subst, Some, List, slice_get, length}
use Rattle.std.proofs.lemmas.Option.{slice_get-get_or}
use Rattle.gx_types.specs.declared.declaration.Declared.{Declared}
use Rattle.gx_include_derivations.proofs.Derived.{numbers_more, numbered_more, all_numbered}
use Rattle.gx_include_derivations.proofs.derivations.numbers_of.Goals as goal

pub loop-number-preserved : goal.loop-number-preserved
loop-number-preserved c =
    let s = c.args.schemas.now in
    let d = c.declared-item.result in
    let types = c.types-declared-items.result.now in
    let number = c.loop-number.number in
    let here : slice_get s.types number ≡ Some d =
    ap (λ (ts : List Declared). slice_get ts number) (sym c.types-declared-items.ensures.value) ∙ slice_get-get_or types number d c.loop-number-test.true ∙ ap (λ (x : Declared). Some x) (sym c.declared-item.is) in
    record {
      are = numbers_more s c.loop-number.numbers c.insert.new.self d number here c.loop-number.invariant.are (λ other. search rules);
      all = numbered_more s c.loop-number.numbers c.insert.new.self d number here c.loop-number.invariant.all (λ other. search rules);
    }

pub returns-clause-all : goal.returns-clause-all
returns-clause-all c =
    all_numbered c.args.schemas.now c.loop-number.numbers c.loop-number.number
    (subst (λ (ts : List Declared). length ts ≤ c.loop-number.number) c.types-declared-items.ensures.value c.loop-number-test.false) c.loop-number.invariant.all
