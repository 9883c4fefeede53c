-- The public laws as terms, for the proofs of the crates above.
use Rattle.gx_types.specs.Laws.{OccurrenceBoundsLength, JoinedTypesAreASequence, SequenceTakesParts, SequenceTakesNoMore, ChoiceTakesSome, ChoiceKeepsItsMembers, ChoiceTakesNewMembers, ChoiceTakesMembers, ChoiceTakesNoMore, MembersAreDistinct, ChoiceIsFromAlternatives, PrimeIsFromItems, IndicatorsAreExact, RepeatedTakesJoined, RepeatedTakesNoMore, TimesTakesJoined, TimesTakesNoMore, PrimeIsAChoiceOfItems, ItemsTakeEachShape, FactoredTakesType, PrimeTakesType, LimitedTakesType, ShortTypesStay, EqualTypesTakeTheSame}
use Rattle.gx_types.specs.DerivationLaws.{DerivationIsAPreorder, DerivationIsLinear, DerivationLooksAtNoPrefix, EqualTypesHaveOneBase, AllTypesAreDerivedFromAnyType, EqualityIsAnEquivalence}
use Rattle.gx_types.specs.EqualNames.{builtins_are_one, type_names_are_equivalent, item_types_are_equivalent}
use Rattle.gx_types.proofs.EqualTypes as equal
use Rattle.gx_types.specs.TypeEquality.{types_are_equivalent}
use Rattle.gx_types.proofs.TakesLemmas as takes
use Rattle.gx_types.proofs.TimesTakes as times
use Rattle.gx_types.proofs.Distinct.{all_members_are_distinct}
use Rattle.gx_types.proofs.Alternatives as alternatives
use Rattle.gx_types.proofs.DerivationOrder as order

pub occurrence_bounds_length : OccurrenceBoundsLength
occurrence_bounds_length = takes.takes_within

pub joined_types_are_a_sequence : JoinedTypesAreASequence
joined_types_are_a_sequence = takes.joined_types_are_a_sequence

pub sequence_takes_parts : SequenceTakesParts
sequence_takes_parts = takes.sequence_takes

pub sequence_takes_no_more : SequenceTakesNoMore
sequence_takes_no_more = takes.sequence_takes_no_more

pub choice_takes_some : ChoiceTakesSome
choice_takes_some = takes.choice_takes_some

pub choice_keeps_its_members : ChoiceKeepsItsMembers
choice_keeps_its_members = takes.members_first

pub choice_takes_new_members : ChoiceTakesNewMembers
choice_takes_new_members = takes.members_second

pub choice_takes_members : ChoiceTakesMembers
choice_takes_members = takes.choice_takes

pub choice_takes_no_more : ChoiceTakesNoMore
choice_takes_no_more = takes.choice_takes_no_more

pub members_are_distinct : MembersAreDistinct
members_are_distinct = all_members_are_distinct

pub choice_is_from_alternatives : ChoiceIsFromAlternatives
choice_is_from_alternatives = alternatives.gathered_from

pub prime_is_from_items : PrimeIsFromItems
prime_is_from_items = alternatives.prime_from

pub indicators_are_exact : IndicatorsAreExact
indicators_are_exact = times.indicators_are_exact

pub repeated_takes_joined : RepeatedTakesJoined
repeated_takes_joined = times.repeated_takes_joined

pub repeated_takes_no_more : RepeatedTakesNoMore
repeated_takes_no_more = times.repeated_takes_nothing_else

pub times_takes_joined : TimesTakesJoined
times_takes_joined = takes.times_takes_joined

pub times_takes_no_more : TimesTakesNoMore
times_takes_no_more = times.times_takes_no_more

pub prime_is_a_choice_of_items : PrimeIsAChoiceOfItems
prime_is_a_choice_of_items = takes.prime_is_a_choice_of_items

pub items_take_each_shape : ItemsTakeEachShape
items_take_each_shape = takes.items_take_each_shape

pub factored_takes_type : FactoredTakesType
factored_takes_type = takes.factored_takes

pub prime_takes_type : PrimeTakesType
prime_takes_type = takes.prime_takes_type

pub limited_takes_type : LimitedTakesType
limited_takes_type = takes.limited_takes

pub short_types_stay : ShortTypesStay
short_types_stay = takes.short_is_kept

pub equal_types_take_the_same : EqualTypesTakeTheSame
equal_types_take_the_same = equal.equal_takes

pub derivation_is_a_preorder : DerivationIsAPreorder
derivation_is_a_preorder = order.derivation_is_a_preorder

pub derivation_is_linear : DerivationIsLinear
derivation_is_linear = order.derivation_is_linear

pub derivation_looks_at_no_prefix : DerivationLooksAtNoPrefix
derivation_looks_at_no_prefix = order.derivation_looks_at_no_prefix

pub equal_types_have_one_base : EqualTypesHaveOneBase
equal_types_have_one_base = order.bases_agree

pub all_types_are_derived_from_any_type : AllTypesAreDerivedFromAnyType
all_types_are_derived_from_any_type = order.all_types_are_derived_from_any_type

pub equality_is_an_equivalence : EqualityIsAnEquivalence
equality_is_an_equivalence =
    record { builtins_are_one = builtins_are_one; type_names = type_names_are_equivalent; item_types = item_types_are_equivalent; types = types_are_equivalent }
