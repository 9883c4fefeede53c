-- The attributes at the front of content.
use Rattle.std.proofs.Common.{◌≡◌, ℕ, zero, suc, ◌+◌, ◌<◌, List, [], ◌∷◌, ◌++◌, take, drop, length, get_or, refl, sym, ap, ◌∙◌, arith}
use Rattle.std.specs.List.{prefix_len}
use Rattle.gx_tree.specs.PlainTree.{PlainTree, document, element, attribute, text}
use Rattle.gx_nodes.specs.Rows.{attributes_among}
use Rattle.gx_core.specs.Constructing.{leading_attributes, behind_attributes, is_attribute}

pub leading_are : (ts : List PlainTree) → attributes_among (take (prefix_len is_attribute ts) ts) ≡ leading_attributes ts
leading_are [] = refl
leading_are (document us ∷ ts) = refl
leading_are (element name kind l us ∷ ts) = refl
leading_are (attribute a ∷ ts) =
    let next : 1 + prefix_len is_attribute ts ≡ suc (prefix_len is_attribute ts) = omega arith in
    ap (λ (n : ℕ). attributes_among (take n (attribute a ∷ ts))) next ∙ ap (λ l. a ∷ l) (leading_are ts)
leading_are (text x ∷ ts) = refl

pub behind_are : (ts : List PlainTree) → drop (prefix_len is_attribute ts) ts ≡ behind_attributes ts
behind_are [] = refl
behind_are (document us ∷ ts) = refl
behind_are (element name kind l us ∷ ts) = refl
behind_are (attribute a ∷ ts) =
    let next : 1 + prefix_len is_attribute ts ≡ suc (prefix_len is_attribute ts) = omega arith in
    ap (λ (n : ℕ). drop n (attribute a ∷ ts)) next ∙ behind_are ts
behind_are (text x ∷ ts) = refl

pub among_more : (ts us : List PlainTree) → attributes_among (ts ++ us) ≡ attributes_among ts ++ attributes_among us
among_more [] us = refl
among_more (document vs ∷ ts) us = among_more ts us
among_more (element name kind l vs ∷ ts) us = among_more ts us
among_more (attribute a ∷ ts) us = ap (λ l. a ∷ l) (among_more ts us)
among_more (text x ∷ ts) us = among_more ts us

pub taken : {A : Type 0} (xs : List A) (i : ℕ) (x : A) → i < length xs → x ≡ get_or xs i x → take (i + 1) xs ≡ take i xs ++ x ∷ []
taken [] i x h e = absurd (omega (arith, h))
taken (y ∷ xs) zero x h e = ap (λ z. z ∷ []) (sym e)
taken (y ∷ xs) (suc i) x h e =
    let next : suc i + 1 ≡ suc (i + 1) = omega arith in
    ap (λ (k : ℕ). take k (y ∷ xs)) next ∙ ap (λ l. y ∷ l) (taken xs i x (omega (arith, h)) e)

pub count_front : (read content : List PlainTree) (n : ℕ) → n ≡ prefix_len is_attribute read → read ≡ content → n ≡ prefix_len is_attribute content
count_front read content n e h = e ∙ ap (prefix_len is_attribute) h
