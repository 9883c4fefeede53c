-- The text behind a start tag.
use Rattle.std.proofs.Common.{◌≡◌, ℕ, List, [], ◌∷◌, ◌++◌, length, false, ap, ◌∙◌, append_assoc, nat_eq}
use Rattle.std.specs.Prelude.{codes}
use Rattle.gx_tree.specs.PlainTree.{PlainTree, trees_of}
use Rattle.gx_serial.specs.Binding.{Binding}
use Rattle.gx_serial.specs.Markup.{spelled_content, spelled_end, all_spelled}
use Rattle.gx_serial.specs.Marked.{all_marked}

-- an element that has children
pub content_text : (ts : List PlainTree) (scope : List Binding) (prefix local out opened held closed : List ℕ) → nat_eq (length ts) 0 ≡ false
    → opened ≡ out ++ codes ">" → held ≡ opened ++ all_spelled (all_marked scope (trees_of ts)) → closed ≡ held ++ spelled_end prefix local
    → closed ≡ out ++ spelled_content prefix local (all_marked scope (trees_of ts))
content_text [] scope prefix local out opened held closed some p q r = absurd (cc)
content_text (t ∷ ts) scope prefix local out opened held closed some p q r =
    let content = all_spelled (all_marked scope (trees_of (t ∷ ts))) in
    r ∙ ap (λ x. x ++ spelled_end prefix local) (q ∙ ap (λ x. x ++ content) p) ∙ (simp append_assoc)
