-- Values that facets admit.
use Rattle.std.proofs.Common.{◌≡◌, true, false, List, Ok, Err, refl}
use Rattle.std.specs.List.{list_all}
use Rattle.gx_facets.specs.declared.Atomic.{Atomic}
use Rattle.gx_facets.specs.declared.ValueRead.TheVariants.{NotLexical}
use Rattle.gx_types.specs.SimpleType.{SimpleMeaning}
use Rattle.gx_types.specs.SimpleValue.{admits_values, admitted_values}

pub admitted : (meaning : SimpleMeaning) (values : List Atomic) → list_all (λ f. admits_values meaning.variety f values) meaning.facets ≡ true → admitted_values meaning (Ok values) ≡ Ok values
admitted meaning values e = rw e refl

pub refused : (meaning : SimpleMeaning) (values : List Atomic) → list_all (λ f. admits_values meaning.variety f values) meaning.facets ≡ false → admitted_values meaning (Ok values) ≡ Err NotLexical
refused meaning values e = rw e refl
