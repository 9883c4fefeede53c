-- Names whose local parts have other lengths.
use Rattle.std.proofs.Common.{◌≡◌, ℕ, Bool, true, false, List, length, refl, sym, ap, ◌∙◌, nat_eq, rules}
use Rattle.std.specs.Prelude.{IsTrue, ◌&&◌, encode_utf8_all}
use Rattle.std.specs.Cmp.Lexicographic.{bytes_decides}
use Rattle.gx_base.specs.Name.{same_name}
use Rattle.gx_base.specs.Text.{same_text}
use Rattle.gx_base.specs.declared.name.Name.{Name}

not_both : (a : Bool) → (a && false) ≡ false
not_both true = refl
not_both false = refl

pub lengths_tell : (a b : Name) (x y : List ℕ) → x ≡ encode_utf8_all a.local → y ≡ encode_utf8_all b.local → (length x ≡ length y → ⊥) → false ≡ same_name a b
lengths_tell a b x y e f apart = by_test (same_text a.local b.local) refl
  where
    by_test : (t : Bool) → same_text a.local b.local ≡ t → false ≡ same_name a b
    by_test false h = sym (ap (λ t. same_text a.uri b.uri && t) h ∙ not_both (same_text a.uri b.uri))
    by_test true h =
        let one : a.local ≡ b.local = (bytes_decides a.local b.local).0 (search (rules, h)) in
        absurd (apart (ap length (e ∙ ap encode_utf8_all one ∙ sym f)))
