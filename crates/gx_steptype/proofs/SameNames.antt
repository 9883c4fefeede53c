-- Tests of names tell equal names alike.
use Rattle.std.proofs.Common.{◌≡◌, ℕ, Bool, true, false, ◌&&◌, List, refl, sym, ◌∙◌, ap}
use Rattle.std.proofs.lemmas.Bool.{true≢false}
use Rattle.std.specs.Cmp.Lexicographic as texts
use Rattle.gx_base.specs.Name.{same_name}
use Rattle.gx_base.specs.Text.{same_text}
use Rattle.gx_base.specs.declared.name.Name.{Name}

first_of : (a b : Bool) → (a && b) ≡ true → a ≡ true
first_of true b e = refl
first_of false b e = e

second_of : (a b : Bool) → (a && b) ≡ true → b ≡ true
second_of true b e = e
second_of false b e = absurd (true≢false (sym e))

same_uri : (m n : Name) → same_name m n ≡ true → m.uri ≡ n.uri
same_uri m n h = texts.same_text m.uri n.uri (sym (first_of (same_text m.uri n.uri) (same_text m.local n.local) h))

same_local : (m n : Name) → same_name m n ≡ true → m.local ≡ n.local
same_local m n h = texts.same_text m.local n.local (sym (second_of (same_text m.uri n.uri) (same_text m.local n.local) h))

pub uris_agree : (uri : List ℕ) (m n : Name) → same_name m n ≡ true → same_text uri m.uri ≡ same_text uri n.uri
uris_agree uri m n h = ap (same_text uri) (same_uri m n h)

pub locals_agree : (local : List ℕ) (m n : Name) → same_name m n ≡ true → same_text local m.local ≡ same_text local n.local
locals_agree local m n h = ap (same_text local) (same_local m n h)

pub names_agree : (w m n : Name) → same_name m n ≡ true → same_name w m ≡ same_name w n
names_agree w m n h =
    ap (λ b. b && same_text w.local m.local) (uris_agree w.uri m n h) ∙ ap (λ b. same_text w.uri n.uri && b) (locals_agree w.local m n h)
