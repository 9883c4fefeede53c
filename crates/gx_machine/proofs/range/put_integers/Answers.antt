use Rattle.std.proofs.Common.{◌≡◌, ◌<◌, ◌^◌, ◌++◌, ◌+◌, ℕ, ℤ, arith, ap, sym, subst, ◌∙◌}
use Rattle.std.specs.Prelude.{◌+ℤ◌, pos, FitsSigned}
use Rattle.std.specs.Int.{w128, cast_signed, cast_unsigned}
use Rattle.std.proofs.lemmas.Int.{to_z-of_z}
use Rattle.gx_num.specs.declared.Number.TheVariants.{Int}
use Rattle.gx_model.specs.Item.{atoms}
use Rattle.gx_funcs.specs.Numbers.{number_atom}
use Rattle.gx_core.specs.Ranging.{integers_from}
use Rattle.gx_store.specs.Items.{items_in}
use Rattle.gx_machine.proofs.Ranges.{integers_pushed}
use Rattle.gx_machine.proofs.range.put_integers.Goals as goal

-- a sum that fits, as its bits say it
sum_back : (first : ℤ) (n : ℕ) → FitsSigned w128 first → n < 2 ^ 32 → FitsSigned w128 (first +ℤ pos n)
    → cast_signed w128 (cast_unsigned w128 (cast_signed w128 (cast_unsigned w128 first) +ℤ cast_signed w128 (cast_unsigned w128 (pos n)))) ≡ first +ℤ pos n
sum_back first n f h fits =
    let wide : FitsSigned w128 (pos n) = record { sfits = omega arith } in
    ap (λ (z : ℤ). cast_signed w128 (cast_unsigned w128 (z +ℤ cast_signed w128 (cast_unsigned w128 (pos n))))) (to_z-of_z w128 first f)
    ∙ ap (λ (z : ℤ). cast_signed w128 (cast_unsigned w128 (first +ℤ z))) (to_z-of_z w128 (pos n) wide)
    ∙ to_z-of_z w128 (first +ℤ pos n) fits

pub loop-offset-preserved : goal.loop-offset-preserved
loop-offset-preserved c = λ later.
    let same = to_z-of_z w128 c.args.first c.ranges.first in
    let before : items_in later c.loop-offset.values.items ≡ items_in later c.args.values.now.items ++ atoms (integers_from c.args.first c.loop-offset.offset) =
    subst (λ (z : ℤ). items_in later c.loop-offset.values.items ≡ items_in later c.args.values.now.items ++ atoms (integers_from z c.loop-offset.offset)) same (c.loop-offset.invariant later) in
    let widened : c.from.result ≡ pos c.loop-offset.offset = c.from.ensures in
    let small : c.loop-offset.offset < 2 ^ 32 = omega arith in
    let fits : FitsSigned w128 (c.args.first +ℤ pos c.loop-offset.offset) = c.requires c.loop-offset.offset c.loop-offset-test.true in
    let sum : cast_signed w128 (cast_unsigned w128 (cast_signed w128 (cast_unsigned w128 c.args.first) +ℤ cast_signed w128 (cast_unsigned w128 c.from.result))) ≡ c.args.first +ℤ pos c.loop-offset.offset =
    ap (λ (z : ℤ). cast_signed w128 (cast_unsigned w128 (cast_signed w128 (cast_unsigned w128 c.args.first) +ℤ cast_signed w128 (cast_unsigned w128 z)))) widened ∙ sum_back c.args.first c.loop-offset.offset c.ranges.first small fits in
    let made : c.number_atom.result ≡ number_atom (Int (c.args.first +ℤ pos c.loop-offset.offset)) =
    c.number_atom.ensures ∙ ap number_atom c.int.ensures ∙ ap (λ (z : ℤ). number_atom (Int z)) sum in
    subst (λ (z : ℤ). items_in later c.push_atom.new.values.items ≡ items_in later c.args.values.now.items ++ atoms (integers_from z (c.loop-offset.offset + 1))) (sym same)
    (c.in_ok-push_atom.ensures later
    ∙ integers_pushed (items_in later c.loop-offset.values.items) (items_in later c.args.values.now.items) c.args.first c.loop-offset.offset c.number_atom.result before made)

pub returns : goal.returns
returns c = λ later.
    let same = to_z-of_z w128 c.args.first c.ranges.first in
    let ended : c.loop-offset.offset ≡ c.args.count = omega arith in
    subst (λ (n : ℕ). items_in later c.loop-offset.values.items ≡ items_in later c.args.values.now.items ++ atoms (integers_from c.args.first n)) ended
    (subst (λ (z : ℤ). items_in later c.loop-offset.values.items ≡ items_in later c.args.values.now.items ++ atoms (integers_from z c.loop-offset.offset)) same (c.loop-offset.invariant later))
