use Rattle.std.proofs.Common.{◌≡◌, ℕ, ◌≤◌, true, List, ◌++◌, ◌∙◌, length, encode_utf8_all, take, drop, take-append-drop, length-take-le, sym, ap, subst, arith}
use Rattle.std.specs.Str.{all_scalars, IsUtf8, IsValidUpTo, chars}
use Rattle.std.proofs.lemmas.Str.{encodes-chars, scalars-chars, length-le-encodes}
use Rattle.gx_base.specs.declared.place.Place.{Place}
use Rattle.gx_grammar.specs.Places.{place_at}
use Rattle.gx_grammar.specs.Decoding.{IsUnreadableAt}

-- the characters of a text
pub spelled : (bs cs : List ℕ) → IsUtf8 bs → cs ≡ chars bs → (encode_utf8_all cs ≡ bs) × (all_scalars cs ≡ true)
spelled bs cs u e = (ap encode_utf8_all e ∙ encodes-chars bs u, ap all_scalars e ∙ scalars-chars bs u)

-- there are no more of them than bytes
pub no_more : (bs cs : List ℕ) → IsUtf8 bs → cs ≡ chars bs → length cs ≤ length bs
no_more bs cs u e = subst (λ n. length cs ≤ n) (ap length (spelled bs cs u e).0) (length-le-encodes cs)

pub unreadable_at : (bytes front : List ℕ) (n : ℕ) (place : Place) → IsValidUpTo bytes n → front ≡ chars (take n bytes) → place ≡ place_at front (length front) → IsUnreadableAt bytes place
unreadable_at bytes front n place h e p =
    let s = spelled (take n bytes) front h.front e in
    record {
      front = front;
      rest = drop n bytes;
      characters = s.1;
      whole = sym (take-append-drop n bytes) ∙ ap (λ w. w ++ drop n bytes) (sym s.0);
      longest = subst (λ k. IsValidUpTo bytes k) (sym (ap length s.0 ∙ length-take-le n bytes (let k = h.short in omega arith))) h;
      behind = p;
    }
