-- The public laws as terms, for the proofs of the crates above.
use Rattle.gx_atomic.specs.Laws.{ValuesAreEqualToThemselves, KeysAreEqualAsValues, EmptyListsCompareFalse, FirstPairDecides, ComparableByFamilies, ComparisonsFailInOneWay, CastsFitTheirTarget, CastsFailWithCodes}
use Rattle.gx_atomic.proofs.Comparing.{equal_to_themselves, keys_equal, empty_lists, comparable}
use Rattle.gx_atomic.proofs.Deciding as deciding
use Rattle.gx_atomic.proofs.FailingComparisons.{fails_in_one_way}
use Rattle.gx_atomic.proofs.Fitting.{casts_fit}
use Rattle.gx_atomic.proofs.FailingCasts.{fail_with_codes}

pub values_are_equal_to_themselves : ValuesAreEqualToThemselves
values_are_equal_to_themselves = equal_to_themselves

pub keys_are_equal_as_values : KeysAreEqualAsValues
keys_are_equal_as_values = keys_equal

pub empty_lists_compare_false : EmptyListsCompareFalse
empty_lists_compare_false = empty_lists

pub first_pair_decides : FirstPairDecides
first_pair_decides = deciding.first_pair_decides

pub values_are_comparable_by_families : ComparableByFamilies
values_are_comparable_by_families = comparable

pub comparisons_fail_in_one_way : ComparisonsFailInOneWay
comparisons_fail_in_one_way = fails_in_one_way

pub casts_fit_their_target : CastsFitTheirTarget
casts_fit_their_target = casts_fit

pub casts_fail_with_codes : CastsFailWithCodes
casts_fail_with_codes = fail_with_codes
