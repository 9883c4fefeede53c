-- Where bindings stand: what is there is what is bound.
use Rattle.std.proofs.Common.{◌≡◌, ℕ, suc, zero, ◌<◌, Bool, true, false, List, [], ◌∷◌, ◌++◌, Option, Some}
use Rattle.std.proofs.Common.{None, refl, sym, ◌∙◌, ap, nat_eq, if◌then◌else◌, length, reverse, arith}
use Rattle.std.specs.Prelude.{get_or}
use Rattle.std.proofs.lemmas.List.{length-reverse, reverse-reverse, reverse-append, get_or_append_left}
use Rattle.std.proofs.lemmas.Bool.{eq-eqb}
use Rattle.std.proofs.Math.Seq.{get_or-append_seam}
use Rattle.gx_core.specs.declared.scope.Binding.{Binding}
use Rattle.gx_core.specs.Bindings.{look_up}
use Rattle.gx_core.specs.Slots.{bound_pairs, innermost_slot, HasSlots}

-- a slot that is kept stands in the list of slots
pub within : {T : Type 0} (l : List (Option T)) (v : ℕ) (x : T) → get_or l v None ≡ Some x → v < length l
within [] v x e = absurd (cc)
within (y ∷ l) zero x e = omega arith
within (y ∷ l) (suc v) x e = let h : v < length l = within l v x e in omega (arith, h)

-- what is bound to a variable stands at its innermost slot
pub record StandsAt {T : Type 0} (bindings : List (Binding T)) (variable slot : ℕ) (d : Binding T) : Type 0 where
  pub there : slot < length bindings
  pub bound : look_up (bound_pairs bindings) variable ≡ Some ((get_or (reverse bindings) slot d).bound)

module _ {T : Type 0} where
  pub stands : (bindings : List (Binding T)) (variable slot : ℕ) (d : Binding T) → innermost_slot bindings variable ≡ Some slot
      → StandsAt bindings variable slot d
  stands [] variable slot d e = absurd (cc)
  stands (b ∷ outer) variable slot d e = by (stands outer variable slot d) (nat_eq b.variable variable) refl
    where
      turned : reverse (b ∷ outer) ≡ reverse outer ++ (b ∷ [])
      turned = reverse-append (b ∷ []) outer

      by : (innermost_slot outer variable ≡ Some slot → StandsAt outer variable slot d) → (same : Bool) → nat_eq b.variable variable ≡ same
          → StandsAt (b ∷ outer) variable slot d
      by outside true s =
          let here : slot ≡ length outer = cc in
          let b_there : get_or (reverse (b ∷ outer)) slot d ≡ b =
          ap (λ l. get_or l slot d) turned ∙ ap (λ n. get_or (reverse outer ++ (b ∷ [])) n d) (here ∙ sym (length-reverse outer))
          ∙ get_or-append_seam (reverse outer) b [] d in
          record {
            there = omega (arith, here);
            bound =
                ap (λ (c : Bool). if c then Some b.bound else look_up (bound_pairs outer) variable) s
                ∙ ap (λ (x : Binding T). Some x.bound) (sym b_there);
          }
      by outside false s =
          let rest : StandsAt outer variable slot d =
          outside (sym (ap (λ (c : Bool). if c then Some (length outer) else innermost_slot outer variable) s) ∙ e) in
          let rest_there : get_or (reverse (b ∷ outer)) slot d ≡ get_or (reverse outer) slot d =
          ap (λ l. get_or l slot d) turned ∙ get_or_append_left (reverse outer) (b ∷ []) d slot
          (omega (arith, rest.there, length-reverse outer)) in
          record {
            there = omega (arith, rest.there);
            bound =
                ap (λ (c : Bool). if c then Some b.bound else look_up (bound_pairs outer) variable) s ∙ rest.bound
                ∙ ap (λ (x : Binding T). Some x.bound) (sym rest_there);
          }

  pub is_not_bound : (bindings : List (Binding T)) (variable : ℕ) → innermost_slot bindings variable ≡ None
      → look_up (bound_pairs bindings) variable ≡ None
  is_not_bound [] variable e = refl
  is_not_bound (b ∷ outer) variable e = by (is_not_bound outer variable) (nat_eq b.variable variable) refl
    where
      by : (innermost_slot outer variable ≡ None → look_up (bound_pairs outer) variable ≡ None) → (same : Bool)
          → nat_eq b.variable variable ≡ same → look_up (bound_pairs (b ∷ outer)) variable ≡ None
      by outside true s = absurd (cc)
      by outside false s =
          ap (λ (c : Bool). if c then Some b.bound else look_up (bound_pairs outer) variable) s
          ∙ outside (sym (ap (λ (c : Bool). if c then Some (length outer) else innermost_slot outer variable) s) ∙ e)

  -- the variable that is bound last has its slot
  pub last_is_within : (slots : List (Option ℕ)) (bindings outer : List (Binding T)) (b : Binding T) → HasSlots slots (reverse bindings)
      → bindings ≡ outer ++ (b ∷ []) → b.variable < length slots
  last_is_within slots bindings outer b h e = within slots b.variable (length (reverse outer))
      (h.found b.variable ∙ ap (λ l. innermost_slot l b.variable) (ap reverse e ∙ reverse-append outer (b ∷ []))
      ∙ ap (λ (c : Bool). if c then Some (length (reverse outer)) else innermost_slot (reverse outer) b.variable)
      (eq-eqb b.variable b.variable refl))

  pub is_there : (bindings : List (Binding T)) (variable slot : ℕ) → innermost_slot (reverse bindings) variable ≡ Some slot
      → slot < length bindings
  is_there bindings variable slot e = by (reverse bindings) bindings (length-reverse bindings) e
    where
      by : (turned bindings : List (Binding T)) → length turned ≡ length bindings → innermost_slot turned variable ≡ Some slot
          → slot < length bindings
      by [] bindings same e = absurd (cc)
      by (b ∷ outer) bindings same e = let h : StandsAt (b ∷ outer) variable slot b =
          stands (b ∷ outer) variable slot b e in omega (arith, h.there, same)

  pub is_bound_there : (bindings : List (Binding T)) (variable slot : ℕ) (d : Binding T)
      → innermost_slot (reverse bindings) variable ≡ Some slot
      → look_up (bound_pairs (reverse bindings)) variable ≡ Some ((get_or bindings slot d).bound)
  is_bound_there bindings variable slot d e =
      (stands (reverse bindings) variable slot d e).bound ∙ ap (λ l. Some ((get_or l slot d).bound)) (reverse-reverse bindings)
