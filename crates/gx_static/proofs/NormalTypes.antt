-- The rules that make types of types make such in which `none` and the empty sequence stand by themselves alone.
use Rattle.std.proofs.Common.{List}
use Rattle.gx_types.specs.SchemaInvariant.{HoldsOfEach}
use Rattle.gx_types.specs.SchemaSet.{SchemaSet}
use Rattle.gx_types.specs.Occurs.{Occurs}
use Rattle.gx_types.specs.SequenceType.{SequenceType, never, nothing, item, both, either, optional, star, plus}
use Rattle.gx_types.specs.Indicator.{optional_of, star_of, plus_of}
use Rattle.gx_types.specs.Choice.{choice_among}
use Rattle.gx_types.specs.Prime.{prime_of}
use Rattle.gx_types.specs.TypeRules.{factored, limited, joined_types, sequence_of, choice_of, times_of}
use Rattle.gx_type_laws.specs.Kept.{IsSomething, RulesKeep, HoldsOfParts}
use Rattle.gx_type_laws.proofs.Kept as kept
use Rattle.gx_static.specs.NormalTypes.{IsMadeOfItems, IsNormalType}

made_is_normal : (s : SchemaSet) (t : SequenceType) → IsMadeOfItems s t → IsNormalType s t
made_is_normal s never m = tt
made_is_normal s nothing m = tt
made_is_normal s (item kind) m = m
made_is_normal s (both a b) m = m
made_is_normal s (either a b) m = m
made_is_normal s (optional a) m = m
made_is_normal s (star a) m = m
made_is_normal s (plus a) m = m

normal_is_made : (s : SchemaSet) (t : SequenceType) → IsSomething t → IsNormalType s t → IsMadeOfItems s t
normal_is_made s never is n = is
normal_is_made s nothing is n = is
normal_is_made s (item kind) is n = n
normal_is_made s (both a b) is n = n
normal_is_made s (either a b) is n = n
normal_is_made s (optional a) is n = n
normal_is_made s (star a) is n = n
normal_is_made s (plus a) is n = n

are_kept : (s : SchemaSet) → RulesKeep (IsNormalType s) (IsMadeOfItems s)
are_kept s =
    record {
      of_none = tt;
      of_empty = tt;
      of_whole = made_is_normal s;
      of_part = normal_is_made s;
      in_both = λ a b m n. (m, n);
      in_either = λ a b m n. (m, n);
      in_optional = λ a m. m;
      in_star = λ a m. m;
      in_plus = λ a m. m;
      optional_as_star = λ a m. m;
      plus_as_star = λ a m. m;
      of_alternatives = λ a b m. m;
    }

parts_are_made : (s : SchemaSet) → HoldsOfParts (IsMadeOfItems s)
parts_are_made s = record { of_both = λ a b m. m; of_either = λ a b m. m; of_optional = λ a m. m; of_star = λ a m. m; of_plus = λ a m. m }

pub joined_is_normal : (s : SchemaSet) (t u : SequenceType) → IsNormalType s t → IsNormalType s u → IsNormalType s (joined_types t u)
joined_is_normal s = kept.joined_keeps (are_kept s)

pub optional_is_normal : (s : SchemaSet) (t : SequenceType) → IsNormalType s t → IsNormalType s (optional_of t)
optional_is_normal s = kept.optional_keeps (are_kept s)

pub star_is_normal : (s : SchemaSet) (t : SequenceType) → IsNormalType s t → IsNormalType s (star_of t)
star_is_normal s = kept.star_keeps (are_kept s)

pub plus_is_normal : (s : SchemaSet) (t : SequenceType) → IsNormalType s t → IsNormalType s (plus_of t)
plus_is_normal s = kept.plus_keeps (are_kept s)

pub choice_of_normal : (s : SchemaSet) (ts : List SequenceType) → HoldsOfEach (IsNormalType s) ts → IsNormalType s (choice_among ts)
choice_of_normal s = kept.choice_keeps (are_kept s)

pub prime_is_normal : (s : SchemaSet) (t : SequenceType) → IsNormalType s t → IsNormalType s (prime_of t)
prime_is_normal s = kept.prime_keeps (are_kept s) (parts_are_made s)

pub factored_is_normal : (s : SchemaSet) (t : SequenceType) → IsNormalType s t → IsNormalType s (factored t)
factored_is_normal s = kept.factored_keeps (are_kept s) (parts_are_made s)

pub limited_is_normal : (s : SchemaSet) (t : SequenceType) → IsNormalType s t → IsNormalType s (limited t)
limited_is_normal s = kept.limited_keeps (are_kept s) (parts_are_made s)

pub sequence_is_normal : (s : SchemaSet) (t u : SequenceType) → IsNormalType s t → IsNormalType s u → IsNormalType s (sequence_of t u)
sequence_is_normal s = kept.sequence_keeps (are_kept s) (parts_are_made s)

pub choice_of_two_is_normal : (s : SchemaSet) (t u : SequenceType) → IsNormalType s t → IsNormalType s u → IsNormalType s (choice_of t u)
choice_of_two_is_normal s = kept.choice_of_two_keeps (are_kept s) (parts_are_made s)

pub times_is_normal : (s : SchemaSet) (t : SequenceType) (o : Occurs) → IsNormalType s t → IsNormalType s (times_of t o)
times_is_normal s = kept.times_keeps (are_kept s) (parts_are_made s)
