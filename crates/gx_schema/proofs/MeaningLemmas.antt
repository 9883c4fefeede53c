-- Tables of what types mean, where they say what there is.
use mathlib.Core.Path.{fun_ext}
use Rattle.std.proofs.Common.{◌≡◌, ◌∙◌, ℕ, List, ap}
use Rattle.gx_types.specs.declared.declaration.AttributeUse.{AttributeUse}
use Rattle.gx_schema_content.specs.declared.effective.Effective.{Effective}
use Rattle.gx_schema_simple.specs.declared.variety.TypeVariety.{TypeVariety}
use Rattle.gx_schema.specs.MeaningsView.{SameMeanings}
use Rattle.gx_schema.specs.SchemaTypes.{TypeMeanings}

meanings_of : (ℕ → TypeVariety) → (ℕ → Effective) → (ℕ → List AttributeUse) → TypeMeanings
meanings_of variety content uses = record { variety = variety; content = content; uses = uses }

pub meanings_are : (one other : TypeMeanings) → SameMeanings one other → one ≡ other
unfolding meanings_of
meanings_are one other same =
    ap (λ (f : ℕ → TypeVariety). meanings_of f one.content one.uses) (fun_ext same.variety)
    ∙ ap (λ (f : ℕ → Effective). meanings_of other.variety f one.uses) (fun_ext same.content)
    ∙ ap (λ (f : ℕ → List AttributeUse). meanings_of other.variety other.content f) (fun_ext same.uses)
