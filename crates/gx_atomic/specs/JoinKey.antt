-- Keys of atomic values: when two are equal, and what is hashed of one.
use Rattle.std.specs.Prelude.{◌≡◌, Bool, IsTrue, true, encode_utf8_all}
use Rattle.std.specs.Cmp.{IsEquivalence, on_equiv}
use Rattle.std.specs.Hash as fed
use Rattle.std.specs.Hash.{HashWrites}
use Rattle.std.specs.Ordering.{on}
use Rattle.std.proofs.Common.{ap}
use Rattle.gx_num.specs.Number.{units_of}
use Rattle.gx_facets.specs.declared.Atomic.{Atomic}
use Rattle.gx_facets.specs.declared.AtomValue.{AtomValue}
use Rattle.gx_facets.specs.declared.AtomValue.TheVariants.{Untyped, Str, Truth, Num}
use Rattle.gx_atomic.specs.declared.join_key.JoinKey.{JoinKey}
use Rattle.gx_atomic.specs.Comparison.{are_equal}
use Rattle.gx_atomic.specs.WrittenNumber.{written_number}
use Rattle.gx_atomic.specs.EqualValues.{values_are_equivalent, equal_units, equal_texts, equal_truths}

abbrev pub join_key_of : Atomic → JoinKey
join_key_of a = record { value = a.value }

-- keys are equal where their values are
abbrev pub same_key : JoinKey → JoinKey → Bool
same_key = on (λ k. k.value) are_equal

abbrev pub written_value : AtomValue → HashWrites
written_value (Untyped t) = fed.str (encode_utf8_all t)
written_value (Str t) = fed.str (encode_utf8_all t)
written_value (Truth b) = fed.bool b
written_value (Num n) = written_number (units_of n)

abbrev pub written_key : JoinKey → HashWrites
written_key k = written_value k.value

pub keys_are_equivalent : IsEquivalence same_key
keys_are_equivalent = on_equiv (λ (k : JoinKey). k.value) values_are_equivalent

written_alike : (a b : AtomValue) → are_equal a b ≡ true → written_value a ≡ written_value b
written_alike (Untyped s) (Untyped t) e = ap (λ cs. fed.str (encode_utf8_all cs)) (equal_texts s t e)
written_alike (Untyped s) (Str t) e = ap (λ cs. fed.str (encode_utf8_all cs)) (equal_texts s t e)
written_alike (Untyped s) (Truth q) e = absurd (cc)
written_alike (Untyped s) (Num n) e = absurd (cc)
written_alike (Str s) (Untyped t) e = ap (λ cs. fed.str (encode_utf8_all cs)) (equal_texts s t e)
written_alike (Str s) (Str t) e = ap (λ cs. fed.str (encode_utf8_all cs)) (equal_texts s t e)
written_alike (Str s) (Truth q) e = absurd (cc)
written_alike (Str s) (Num n) e = absurd (cc)
written_alike (Truth p) (Untyped t) e = absurd (cc)
written_alike (Truth p) (Str t) e = absurd (cc)
written_alike (Truth p) (Truth q) e = ap (λ b. fed.bool b) (equal_truths p q e)
written_alike (Truth p) (Num n) e = absurd (cc)
written_alike (Num m) (Untyped t) e = absurd (cc)
written_alike (Num m) (Str t) e = absurd (cc)
written_alike (Num m) (Truth q) e = absurd (cc)
written_alike (Num m) (Num n) e = ap written_number (equal_units (units_of m) (units_of n) e)

-- equal keys have one hash
pub keys_are_written_alike : (a b : JoinKey) → IsTrue (same_key a b) → written_key a ≡ written_key b
keys_are_written_alike a b h = written_alike a.value b.value h
