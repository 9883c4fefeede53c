-- What marks hide is what stands on circles.
use mathlib.Core.Path.{fun_ext}
use Rattle.std.proofs.Common.{◌≡◌, ◌∙◌, ℕ, Bool, List, ap}
use Rattle.gx_schema_components.specs.declared.component.AttributeGroup.{AttributeGroup}
use Rattle.gx_schema_components.specs.declared.component.ModelGroup.{ModelGroup}
use Rattle.gx_schema_components.specs.declared.component.TypeComponent.{TypeComponent}
use Rattle.gx_schema.specs.declared.seen_components.CircleMarks.{CircleMarks}
use Rattle.gx_schema.specs.SeenComponents.{Circles, attribute_groups, circles_among}
use Rattle.gx_schema.specs.SeenView.{AreCircles, circles_view}

circles_with : (ℕ → Bool) → (ℕ → Bool) → (ℕ → Bool) → Circles
circles_with types groups attribute_groups = record { types = types; groups = groups; attribute_groups = attribute_groups }

marks_are_circles : (components : List TypeComponent) (groups : List ModelGroup) (others : List AttributeGroup) (marks : CircleMarks) → AreCircles components groups others marks → circles_view marks ≡ circles_among components groups others
unfolding circles_with
marks_are_circles components groups others marks are =
    let all = circles_among components groups others in
    ap (λ (f : ℕ → Bool). circles_with f (circles_view marks).groups (circles_view marks).attribute_groups) (fun_ext are.types)
    ∙ ap (λ (f : ℕ → Bool). circles_with all.types f (circles_view marks).attribute_groups) (fun_ext are.groups)
    ∙ ap (λ (f : ℕ → Bool). circles_with all.types all.groups f) (fun_ext are.attribute_groups)
