-- The code of a sequence type as stored data, which tells types apart.
use Rattle.std.specs.Prelude.{◌≡◌, refl}
use Rattle.std.proofs.Common.{◌∙◌, ap}
use base.Stored.{Gv, gnum, gcons, Coded}
use Rattle.gx_types.specs.contracts.item_type.ItemType.{the_row}
use Rattle.gx_types.specs.SequenceType.{SequenceType, never, nothing, item, both, either, optional, star, plus}

abbrev pub store_type : SequenceType → Gv
store_type never = gnum 0
store_type nothing = gnum 1
store_type (item kind) = gcons (gnum 0) (the_row.coded.code kind)
store_type (both a b) = gcons (gnum 1) (gcons (store_type a) (store_type b))
store_type (either a b) = gcons (gnum 2) (gcons (store_type a) (store_type b))
store_type (optional a) = gcons (gnum 3) (store_type a)
store_type (star a) = gcons (gnum 4) (store_type a)
store_type (plus a) = gcons (gnum 5) (store_type a)

-- the part behind a code's number, and the two halves of a pair
abbrev behind : Gv → Gv
behind (gcons a b) = b
behind a = a

abbrev before : Gv → Gv
before (gcons a b) = a
before a = a

pub stored_once : (x y : SequenceType) → store_type x ≡ store_type y → x ≡ y
stored_once never never p = refl
stored_once nothing nothing p = refl
stored_once (item k) (item l) p = ap item (the_row.coded.inj k l (ap behind p))
stored_once (both a b) (both c d) p = ap (λ x. both x b) (stored_once a c (ap (λ g. before (behind g)) p)) ∙ ap (both c) (stored_once b d (ap (λ g. behind (behind g)) p))
stored_once (either a b) (either c d) p = ap (λ x. either x b) (stored_once a c (ap (λ g. before (behind g)) p)) ∙ ap (either c) (stored_once b d (ap (λ g. behind (behind g)) p))
stored_once (optional a) (optional b) p = ap optional (stored_once a b (ap behind p))
stored_once (star a) (star b) p = ap star (stored_once a b (ap behind p))
stored_once (plus a) (plus b) p = ap plus (stored_once a b (ap behind p))
stored_once _ _ p = absurd (cc)

abbrev pub type_code : Coded SequenceType
type_code = record { code = store_type; inj = stored_once }
