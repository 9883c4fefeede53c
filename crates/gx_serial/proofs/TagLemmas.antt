-- A tag that is written attribute by attribute.
use Rattle.std.proofs.Common.{◌≡◌, ℕ, zero, suc, ◌+◌, ◌<◌, ◌≤◌, List, [], ◌∷◌, ◌++◌, length, get_or, drop, take, Bool, true, false, not, refl, sym, ap, ◌∙◌, arith, add-one, append_assoc, append-nil}
use Rattle.std.specs.Prelude.{codes}
use Rattle.std.proofs.Math.Seq.{drop-append_seam, take-append_seam}
use Rattle.std.proofs.lemmas.List.{at_drop_all}
use Rattle.gx_base.specs.declared.name.Name.{Name}
use Rattle.gx_tree.specs.declared.attribute.Attribute.{Attribute}
use Rattle.gx_serial.specs.Binding.{Binding}
use Rattle.gx_serial.specs.Markup.{WrittenAttribute, spelled_name, spelled_declaration, spelled_declarations, spelled_attribute, spelled_attributes, spelled_start}
use Rattle.gx_serial.specs.Marked.{Begun, begun, prefixes_of, written_prefix, after_attribute, after_attributes, written_attributes, scope_within, tag_of}
use Rattle.gx_serial.specs.View.{Declares}

pub not_true : (b : Bool) → not b ≡ true → b ≡ false
not_true true e = sym e
not_true false e = refl

spelled_declarations-append : (bs cs : List Binding) → spelled_declarations (bs ++ cs) ≡ spelled_declarations bs ++ spelled_declarations cs
spelled_declarations-append [] cs = refl
spelled_declarations-append (b ∷ bs) cs =
    ap (λ t. spelled_declaration b ++ t) (spelled_declarations-append bs cs)
    ∙ sym (append_assoc (spelled_declaration b) (spelled_declarations bs) (spelled_declarations cs))

-- nothing is declared yet
pub Declares-none : (s : List Binding) (x : List ℕ) → Declares s s x x
Declares-none s x = ([], sym (append-nil s), sym (append-nil x))

-- two steps declare what each declared
pub Declares-trans : (s t u : List Binding) (x y z : List ℕ) → Declares s t x y → Declares t u y z → Declares s u x z
Declares-trans s t u x y z p q = (
  p.0 ++ q.0,
  q.1 ∙ ap (λ bs. bs ++ q.0) p.1 ∙ append_assoc s p.0 q.0,
  q.2 ∙ ap (λ w. w ++ spelled_declarations q.0) p.2 ∙ append_assoc x (spelled_declarations p.0) (spelled_declarations q.0)
      ∙ ap (λ w. x ++ w) (sym (spelled_declarations-append p.0 q.0)),
)

-- what was written before, under another name
pub Declares-from : (s t : List Binding) (x w y : List ℕ) → x ≡ w → Declares s t x y → Declares s t w y
Declares-from s t x w y e d = (d.0, d.1, d.2 ∙ ap (λ z. z ++ spelled_declarations d.0) e)

-- the tag after one more attribute
pub state_next : (used : List (List ℕ)) (s t : Begun) (attributes : List Attribute) (i : ℕ) (a : Attribute)
    → i < length attributes → a ≡ get_or attributes i a → t ≡ after_attribute used s a
    → after_attributes used t (drop (i + 1) attributes) ≡ after_attributes used s (drop i attributes)
state_next used s t [] i a below here e = absurd (omega arith)
state_next used s t (b ∷ bs) zero a below here e = ap (λ v. after_attributes used v bs) (e ∙ ap (after_attribute used s) here)
state_next used s t (b ∷ bs) (suc i) a below here e = rw add-one (rw add-one at (state_next used s t bs i a (omega arith) here e))

-- the text of its attributes after one more
pub text_next : (used : List (List ℕ)) (s t : Begun) (w v : List ℕ) (attributes : List Attribute) (i : ℕ) (a : Attribute)
    → i < length attributes → a ≡ get_or attributes i a → t ≡ after_attribute used s a
    → v ≡ w ++ spelled_attribute (record { prefix = written_prefix used s a; local = a.name.local; written_value = a.value })
    → v ++ spelled_attributes (written_attributes used t (drop (i + 1) attributes)) ≡ w ++ spelled_attributes (written_attributes used s (drop i attributes))
text_next used s t w v [] i a below here e f = absurd (omega arith)
text_next used s t w v (b ∷ bs) zero a below here e f =
    let one : WrittenAttribute = record { prefix = written_prefix used s a; local = a.name.local; written_value = a.value } in
    let rest = λ (u : Begun). spelled_attributes (written_attributes used u bs) in
    ap (λ x. x ++ rest t) f
    ∙ append_assoc w (spelled_attribute one) (rest t)
    ∙ ap (λ u. w ++ (spelled_attribute one ++ rest u)) e
    ∙ ap (λ (c : Attribute). w ++ (spelled_attribute (record { prefix = written_prefix used s c; local = c.name.local; written_value = c.value }) ++ rest (after_attribute used s c))) here
text_next used s t w v (b ∷ bs) (suc i) a below here e f =
    rw add-one (rw add-one at (text_next used s t w v bs i a (omega arith) here e f))

pub state_end : (used : List (List ℕ)) (s : Begun) (attributes : List Attribute) (i : ℕ) → length attributes ≤ i → after_attributes used s (drop i attributes) ≡ s
state_end used s attributes i past = at_drop_all (λ l. after_attributes used s l) attributes i past

pub text_end : (used : List (List ℕ)) (s : Begun) (w : List ℕ) (attributes : List Attribute) (i : ℕ) → length attributes ≤ i
    → w ++ spelled_attributes (written_attributes used s (drop i attributes)) ≡ w
text_end used s w attributes i past =
    at_drop_all (λ l. w ++ spelled_attributes (written_attributes used s l)) attributes i past ∙ append-nil w

-- the whole start tag
pub start_text : (before after : List Binding) (out named declared written : List ℕ) (name : Name) (attributes : List Attribute)
    → named ≡ (out ++ codes "<") ++ spelled_name name.prefix name.local
    → Declares before after named declared
    → after ≡ scope_within before name attributes
    → written ≡ spelled_attributes (written_attributes (prefixes_of name attributes) (begun before name) attributes)
    → declared ++ written ≡ out ++ spelled_start (tag_of before name attributes)
start_text before after out named declared written name attributes n d s w =
    let own = spelled_name name.prefix name.local in
    let listed = spelled_attributes (written_attributes (prefixes_of name attributes) (begun before name) attributes) in
    let added : d.0 ≡ drop (length before) (scope_within before name attributes) =
    sym (ap (drop (length before)) (sym s ∙ d.1) ∙ drop-append_seam before d.0) in
    let spelled_markup = λ (bs : List Binding). out ++ (((codes "<" ++ own) ++ spelled_declarations bs) ++ listed) in
    let joined : declared ++ written ≡ ((((out ++ codes "<") ++ own) ++ spelled_declarations d.0) ++ listed) =
    ap (λ x. x ++ written) (d.2 ∙ ap (λ x. x ++ spelled_declarations d.0) n) ∙ ap (λ x. (((out ++ codes "<") ++ own) ++ spelled_declarations d.0) ++ x) w in
    joined ∙ (simp append_assoc) ∙ ap spelled_markup added

-- the bindings from before stand in front
pub kept_in_front : (before after : List Binding) (x y : List ℕ) → Declares before after x y → take (length before) after ≡ before
kept_in_front before after x y d = ap (take (length before)) d.1 ∙ take-append_seam before d.0
