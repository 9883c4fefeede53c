-- The string value as the texts of the descendants.
use Rattle.std.proofs.Common.{◌≡◌, ℕ, List, [], ◌∷◌, ◌++◌, refl, sym, ap, ◌∙◌, append_assoc, append-nil}
use Rattle.gx_tree.specs.PlainTree.{PlainTree, PlainTrees, document, element, attribute, text, no_trees, a_tree, AreContent, IsContent}
use Rattle.gx_tree.specs.StringValue.{string_value, string_values, self_and_descendants, all_descendants, text_contents, texts_joined}

text_contents-append : (xs ys : List PlainTree) → text_contents (xs ++ ys) ≡ text_contents xs ++ text_contents ys
text_contents-append [] ys = refl
text_contents-append (document ts ∷ xs) ys = text_contents-append xs ys
text_contents-append (element name kind l ts ∷ xs) ys = text_contents-append xs ys
text_contents-append (attribute a ∷ xs) ys = text_contents-append xs ys
text_contents-append (text t ∷ xs) ys = ap (λ zs. t ∷ zs) (text_contents-append xs ys)

texts_joined-append : (xs ys : List (List ℕ)) → texts_joined (xs ++ ys) ≡ texts_joined xs ++ texts_joined ys
texts_joined-append [] ys = refl
texts_joined-append (x ∷ xs) ys = ap (λ z. x ++ z) (texts_joined-append xs ys) ∙ sym (append_assoc x (texts_joined xs) (texts_joined ys))

mutual
  pub string_values-joined : (ts : PlainTrees) → AreContent ts → string_values ts ≡ texts_joined (text_contents (all_descendants ts))
  string_values-joined no_trees c = refl
  string_values-joined (a_tree t ts) c =
      ap (λ z. z ++ string_values ts) (string_value-joined t c.0)
      ∙ ap (λ z. texts_joined (text_contents (self_and_descendants t)) ++ z) (string_values-joined ts c.1)
      ∙ sym (ap texts_joined (text_contents-append (self_and_descendants t) (all_descendants ts)) ∙ texts_joined-append (text_contents (self_and_descendants t)) (text_contents (all_descendants ts)))

  string_value-joined : (t : PlainTree) → IsContent t → string_value t ≡ texts_joined (text_contents (self_and_descendants t))
  string_value-joined (document ts) c = absurd c
  string_value-joined (element name kind l ts) c = string_values-joined ts c
  string_value-joined (attribute a) c = absurd c
  string_value-joined (text t) c = sym (append-nil t)
