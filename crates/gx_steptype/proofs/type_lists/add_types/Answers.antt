use Rattle.std.proofs.Common.{◌≡◌, ◌+◌, suc, List, [], ◌∷◌, ◌++◌, drop, filter, drop-cons, add-one, arith, sym, ◌∙◌, ap}
use Rattle.std.proofs.lemmas.Grind.{common_steps}
use Rattle.gx_types.specs.declared.declaration.Declared.{Declared}
use Rattle.gx_types.specs.SchemaSet.{names_declared}
use Rattle.gx_types.specs.Derivation.{is_derived}
use Rattle.gx_steptype.specs.ListedTypes.{types_listed}
use Rattle.gx_steptype.proofs.ListedTypes.{one_type_more, no_type_more}
use Rattle.gx_steptype.proofs.type_lists.add_types.Goals as goal

pub loop-declared-preserved : goal.loop-declared-preserved
loop-declared-preserved c = λ kind found f.
    let s = c.args.schemas.now in
    let types = c.types-types.result.now in
    let at = c.loop-declared.declared-index in
    let declared = c.declared-item.result in
    let listed = types_listed c.loop-declared.lists kind in
    let rest : drop at types ≡ declared ∷ drop (at + 1) types =
    drop-cons types at declared (omega arith) ∙ ap (λ (d : Declared). d ∷ drop (suc at) types) (sym c.declared-item.is) ∙ ap (λ n. declared ∷ drop n types) (sym (add-one at)) in
    one_type_more s declared (drop (at + 1) types) kind listed (types_listed c.add_to_bases.new.lists kind) (c.in_ok-left.ensures (omega arith) kind found f)
    ∙ ap (λ (ds : List Declared). listed ++ filter (λ t. is_derived s t kind) (names_declared ds)) (sym rest) ∙ c.loop-declared.invariant kind found f

pub returns : goal.returns
returns c = λ all kind found f.
    let types = c.types-types.result.now in
    let none : drop c.loop-declared.declared-index types ≡ [] = grind (arith, common_steps) in
    no_type_more c.args.schemas.now kind (types_listed c.loop-declared.lists kind) (types_listed c.args.lists.now kind) types (drop c.loop-declared.declared-index types) none c.types-types.ensures.value
    (c.loop-declared.invariant kind found f)
