use Rattle.std.proofs.Common.{◌≡◌, ◌-◌, ◌<◌, suc, rules, arith, sym, subst, length, drop}
use Rattle.indexmap.specs.IndexMap.{get}
use Rattle.gx_base.specs.declared.type_name.TypeName.{TypeName}
use Rattle.gx_types.specs.SchemaSet.{declaration_among}
use Rattle.gx_types.specs.TypeIndex.{equal_kinds, numbered_type}
use Rattle.gx_types.proofs.TypeIndexes.{index_more}
use Rattle.gx_types.proofs.declared_types.numbers_of.Goals as goal

pub loop-number-preserved : goal.loop-number-preserved
loop-number-preserved c =
    let types = c.args.types.now in
    let number = c.loop-number.number - 1 in
    let below : number < length types = search rules in
    let next : suc number ≡ c.loop-number.number = omega arith in
    index_more types c.loop-number.numbers c.insert.new.self c.index-types-number.result number below c.index-types-number.is (λ other. search rules)
    (subst (λ n. (t : TypeName) → numbered_type types (get equal_kinds c.loop-number.numbers t) ≡ declaration_among (drop n types) t) (sym next) c.loop-number.invariant)
