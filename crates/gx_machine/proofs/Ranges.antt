-- Ranges of integers.
use Rattle.std.proofs.Common.{◌≡◌, ◌+◌, ◌++◌, append_assoc, [], ◌∷◌, Option, Some, ◌<◌, ◌≤◌, ℕ, ℤ, Bool, true, sym, ◌∙◌, ap, arith, if◌then◌else◌}
use Rattle.std.specs.Prelude.{◌+ℤ◌, pos, nat_le, FitsSigned}
use Rattle.std.specs.Int.{w128, cast_signed, cast_unsigned}
use Rattle.std.proofs.lemmas.Int.{to_z-of_z}
use Rattle.std.proofs.lemmas.List.FromFn.{map-range_with_len_more}
use Rattle.std.proofs.lemmas.Bool.{le-leb, lt-leb}
use Rattle.std.proofs.lemmas.List.{map-append}
use Rattle.gx_base.specs.declared.code.Code.TheVariants.{GLXD0002}
use Rattle.gx_base.specs.declared.limits.TheConstants.{RANGE_ITEMS}
use Rattle.gx_num.specs.declared.Number.TheVariants.{Int}
use Rattle.gx_facets.specs.declared.Atomic.{Atomic}
use Rattle.gx_model.specs.Forest.{Forest}
use Rattle.gx_model.specs.Item.{Item, atom, Items, atoms}
use Rattle.gx_core.specs.Outcome.{gives, raises, given}
use Rattle.gx_funcs.specs.Numbers.{number_atom}
use Rattle.gx_core.specs.Ranging.{integer_of_item, range_of_items, integers_from, range_length, range_between}

pub few_between : (first last : ℤ) (n : ℕ) (forest : Forest) → n ≡ range_length first last → n ≤ RANGE_ITEMS → range_between first last forest ≡ gives (atoms (integers_from first n)) forest
few_between first last n forest e h =
    let few : nat_le (range_length first last) RANGE_ITEMS ≡ true = le-leb (range_length first last) RANGE_ITEMS (omega (arith, e, h)) in
    ap (λ (test : Bool). if test then gives (atoms (integers_from first (range_length first last))) forest else raises GLXD0002) few
    ∙ ap (λ (k : ℕ). gives (atoms (integers_from first k)) forest) (sym e)

pub many_between : (first last : ℤ) (forest : Forest) → RANGE_ITEMS < range_length first last → range_between first last forest ≡ raises GLXD0002
many_between first last forest h =
    ap (λ (test : Bool). if test then gives (atoms (integers_from first (range_length first last))) forest else raises GLXD0002) (lt-leb (range_length first last) RANGE_ITEMS h)

-- what two items make that are integers, as their bits say them
pub range_is : (x y : Item) (first last : ℤ) (forest : Forest) → FitsSigned w128 first → FitsSigned w128 last → integer_of_item x ≡ Some first → integer_of_item y ≡ Some last
    → range_between (cast_signed w128 (cast_unsigned w128 first)) (cast_signed w128 (cast_unsigned w128 last)) forest ≡ range_of_items x y forest
range_is x y first last forest f g p q =
    ap (λ (z : ℤ). range_between z (cast_signed w128 (cast_unsigned w128 last)) forest) (to_z-of_z w128 first f)
    ∙ ap (λ (z : ℤ). range_between first z forest) (to_z-of_z w128 last g)
    ∙ ap (λ (o : Option ℤ). given o (λ last. range_between first last forest)) (sym q)
    ∙ ap (λ (o : Option ℤ). given o (λ first. given (integer_of_item y) (λ last. range_between first last forest))) (sym p)

-- one integer more
integers_more : (first : ℤ) (n : ℕ) → integers_from first (n + 1) ≡ integers_from first n ++ (number_atom (Int (first +ℤ pos n)) ∷ [])
integers_more first n = map-range_with_len_more (λ k. number_atom (Int (first +ℤ pos k))) 0 n n (omega arith)

pub integers_pushed : (before values : Items) (first : ℤ) (n : ℕ) (a : Atomic) → before ≡ values ++ atoms (integers_from first n) → a ≡ number_atom (Int (first +ℤ pos n)) → before ++ (atom a ∷ []) ≡ values ++ atoms (integers_from first (n + 1))
integers_pushed before values first n a e f =
    ap (λ (v : Items). v ++ (atom a ∷ [])) e ∙ append_assoc values (atoms (integers_from first n)) (atom a ∷ []) ∙ ap (λ (x : Atomic). values ++ (atoms (integers_from first n) ++ (atom x ∷ []))) f
    ∙ ap (λ (v : Items). values ++ v) (sym (map-append atom (integers_from first n) (number_atom (Int (first +ℤ pos n)) ∷ [])) ∙ ap atoms (sym (integers_more first n)))
