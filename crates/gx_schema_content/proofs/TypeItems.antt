-- What holds of the items of types holds of those that are made of them.
use Rattle.std.proofs.Common.{ℕ, zero, suc, true, Option, None, Some}
use Rattle.std.specs.Prelude.{◌-◌}
use Rattle.gx_types.specs.SequenceType.{SequenceType, never, nothing, item, both, either, optional, star, plus}
use Rattle.gx_types.specs.TypeRules.{joined_types}
use Rattle.gx_types.specs.declared.item_type.ItemType.{ItemType}
use Rattle.gx_types.specs.declared.item_type.ItemType.TheVariants as items
use Rattle.gx_type_laws.specs.Kept.{HoldsOfItems}
use Rattle.gx_type_laws.proofs.Kept.{joined_keeps, optional_keeps, star_keeps}
use Rattle.gx_type_laws.proofs.Items.{items_are_kept}
use Rattle.gx_schema_components.specs.declared.component.Bounds.{Bounds}
use Rattle.gx_schema_content.specs.MixedContents.{maybe_text, model_of, with_texts}
use Rattle.gx_schema_content.specs.Occurrences.{bounded, copies, further_copies, least_copies, optional_copies}

-- ---- occurrences

items_copies : (P : ItemType → Type 0) (count : ℕ) (t : SequenceType) → HoldsOfItems P t → HoldsOfItems P (copies count t)
items_copies P zero t h = tt
items_copies P (suc count) t h = joined_keeps (items_are_kept P) (copies count t) t (items_copies P count t h) h

items_optional_copies : (P : ItemType → Type 0) (count : ℕ) (t : SequenceType) → HoldsOfItems P t → HoldsOfItems P (optional_copies count t)
items_optional_copies P zero t h = tt
items_optional_copies P (suc count) t h = optional_keeps (items_are_kept P) (joined_types t (optional_copies count t)) (joined_keeps (items_are_kept P) t (optional_copies count t) h (items_optional_copies P count t h))

items_further : (P : ItemType → Type 0) (least : ℕ) (greatest : Option ℕ) (t : SequenceType) → HoldsOfItems P t → HoldsOfItems P (further_copies least greatest t)
items_further P least None t h = star_keeps (items_are_kept P) t h
items_further P least (Some greatest) t h = items_optional_copies P (greatest - least) t h

pub items_bounded : (P : ItemType → Type 0) (bounds : Bounds) (t : SequenceType) → HoldsOfItems P t → HoldsOfItems P (bounded bounds t)
items_bounded P bounds t h =
    joined_keeps (items_are_kept P) (copies (least_copies bounds.least bounds.greatest) t) (further_copies bounds.least bounds.greatest t)
    (items_copies P (least_copies bounds.least bounds.greatest) t h) (items_further P bounds.least bounds.greatest t h)

-- ---- texts

items_with_texts : (P : ItemType → Type 0) → P items.Text → (t : SequenceType) → HoldsOfItems P t → HoldsOfItems P (with_texts t)
items_with_texts P text never h = tt
items_with_texts P text nothing h = tt
items_with_texts P text (item kind) h = (h, text)
items_with_texts P text (both first second) h = (items_with_texts P text first h.0, items_with_texts P text second h.1)
items_with_texts P text (either first second) h = (items_with_texts P text first h.0, items_with_texts P text second h.1)
items_with_texts P text (optional part) h = items_with_texts P text part h
items_with_texts P text (star part) h = items_with_texts P text part h
items_with_texts P text (plus part) h = items_with_texts P text part h

pub items_mixed : (P : ItemType → Type 0) → P items.Text → (t : SequenceType) → HoldsOfItems P t → HoldsOfItems P (model_of true t)
items_mixed P text t h = joined_keeps (items_are_kept P) maybe_text (with_texts t) text (items_with_texts P text t h)
