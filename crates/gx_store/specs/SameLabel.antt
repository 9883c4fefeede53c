-- When two labels are the same in all parts, prefixes among them.
use Rattle.std.specs.Prelude.{ℕ, Bool, ◌&&◌, List, []}
use Rattle.std.specs.Cmp.{IsEquivalence, and_equiv, on_equiv}
use Rattle.std.specs.Cmp.Lexicographic.{on_texts_equal}
use Rattle.gx_base.specs.Text.{same_text}
use Rattle.gx_base.specs.Name.{same_name}
use Rattle.gx_base.specs.declared.name.Name.{Name}
use Rattle.gx_base.specs.declared.type_name.TypeName.{TypeName}
use Rattle.gx_base.specs.declared.type_name.TypeName.TheVariants.{Builtin, Named, Anonymous}
use Rattle.gx_types.specs.SameItemType.{same_type_name}
use Rattle.gx_types.proofs.EqualNames.{names_are_equivalent, type_names_are_equivalent}
use Rattle.gx_store.specs.declared.labels.Label.{Label}

abbrev pub same_name_and_prefix : Name → Name → Bool
same_name_and_prefix a b = same_name a b && same_text a.prefix b.prefix

abbrev pub type_prefix : TypeName → List ℕ
type_prefix (Builtin builtin) = []
type_prefix (Named name) = name.prefix
type_prefix (Anonymous number) = []

abbrev pub same_type_and_prefix : TypeName → TypeName → Bool
same_type_and_prefix a b = same_type_name a b && same_text (type_prefix a) (type_prefix b)

abbrev pub same_label : Label → Label → Bool
same_label a b = same_name_and_prefix a.name b.name && same_type_and_prefix a.kind b.kind

pub labels_are_equivalent : IsEquivalence same_label
labels_are_equivalent =
    and_equiv
    (and_equiv (on_equiv (λ (l : Label). l.name) names_are_equivalent) (on_texts_equal (λ (l : Label). l.name.prefix)))
    (and_equiv (on_equiv (λ (l : Label). l.kind) type_names_are_equivalent) (on_texts_equal (λ (l : Label). type_prefix l.kind)))
