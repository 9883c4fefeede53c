-- The earliest of two lists of references one after another.
use Rattle.std.proofs.Common.{◌≡◌, ◌∙◌, ℕ, Bool, true, false, not, nat_lt, List, [], ◌∷◌, ◌++◌, filter, Option, None, Some, refl, sym, ap, arith, if◌then◌else◌}
use Rattle.std.proofs.lemmas.Bool.Decides.{nat_tests}
use Rattle.std.proofs.lemmas.List.Elements.{filter-append}
use Rattle.gx_qnames.specs.declared.reference.Reference.{Reference}
use Rattle.gx_schema_components.specs.declared.mention.ComponentKind.{ComponentKind}
use Rattle.gx_schema_components.specs.declared.mention.Mention.{Mention}
use Rattle.gx_schema_components.specs.Mentions.{mentioned}
use Rattle.gx_schema_components.specs.Unknown.{Numbering, earlier_mention, earliest, earliest_unknown, is_later, refers, with_unknown}

among_three : (a b c : Mention) (p q r : Bool) → nat_lt b.place a.place ≡ p → nat_lt c.place b.place ≡ q → nat_lt c.place a.place ≡ r
    → earlier_mention (earlier_mention (Some a) (Some b)) (Some c) ≡ earlier_mention (Some a) (earlier_mention (Some b) (Some c))
among_three a b c true true true e f g = simp (e, f, g)
among_three a b c true true false e f g = absurd (grind (arith, nat_tests, e, f, g))
among_three a b c true false r e f g = simp (e, f)
among_three a b c false true r e f g = simp (e, f)
among_three a b c false false true e f g = absurd (grind (arith, nat_tests, e, f, g))
among_three a b c false false false e f g = simp (e, f, g)

earlier_mention-earlier_mention : (a b c : Option Mention) → earlier_mention (earlier_mention a b) c ≡ earlier_mention a (earlier_mention b c)
earlier_mention-earlier_mention None b c = refl
earlier_mention-earlier_mention (Some a) None c = refl
earlier_mention-earlier_mention (Some a) (Some b) None = elim (nat_lt b.place a.place) as (λ t. earlier_mention (if t then Some b else Some a) None ≡ (if t then Some b else Some a)) [ true ↦ refl | false ↦ refl ]
earlier_mention-earlier_mention (Some a) (Some b) (Some c) = among_three a b c (nat_lt b.place a.place) (nat_lt c.place b.place) (nat_lt c.place a.place) refl refl refl

earliest-append : (ms ns : List Mention) → earliest (ms ++ ns) ≡ earlier_mention (earliest ms) (earliest ns)
earliest-append [] ns = refl
earliest-append (m ∷ ms) ns = ap (earlier_mention (Some m)) (earliest-append ms ns) ∙ sym (earlier_mention-earlier_mention (Some m) (earliest ms) (earliest ns))

pub with_unknown-none : (numbers : Numbering) (found : Option Mention) → with_unknown numbers found [] ≡ found
unfolding with_unknown earliest_unknown
with_unknown-none numbers None = refl
with_unknown-none numbers (Some m) = refl

pub with_unknown-append : (numbers : Numbering) (found : Option Mention) (ms ns : List Mention) → with_unknown numbers found (ms ++ ns) ≡ with_unknown numbers (with_unknown numbers found ms) ns
unfolding with_unknown earliest_unknown
with_unknown-append numbers found ms ns =
    sym (earlier_mention-earlier_mention found (earliest_unknown numbers ms) (earliest_unknown numbers ns)
    ∙ ap (earlier_mention found) (sym (earliest-append (filter (λ (m : Mention). not (refers numbers m.kind m.reference)) ms) (filter (λ (m : Mention). not (refers numbers m.kind m.reference)) ns)))
    ∙ ap (λ (all : List Mention). earlier_mention found (earliest all)) (sym (filter-append (λ (m : Mention). not (refers numbers m.kind m.reference)) ms ns)))

-- as it computes at one reference before others
pub with_unknown-cons : (numbers : Numbering) (found : Option Mention) (m : Mention) (ms : List Mention) → with_unknown numbers found (m ∷ ms) ≡ with_unknown numbers (with_unknown numbers found (m ∷ [])) ms
with_unknown-cons numbers found m ms = with_unknown-append numbers found (m ∷ []) ms

pub with_unknown-known : (numbers : Numbering) (found : Option Mention) (kind : ComponentKind) (place : ℕ) (reference : Reference) → refers numbers kind reference ≡ true
    → with_unknown numbers found (mentioned kind place reference) ≡ found
unfolding with_unknown earliest_unknown
with_unknown-known numbers found kind place reference e = rw e (with_unknown-none numbers found)

pub with_unknown-later : (numbers : Numbering) (found : Option Mention) (kind : ComponentKind) (place : ℕ) (reference : Reference) → is_later found place ≡ false
    → with_unknown numbers found (mentioned kind place reference) ≡ found
unfolding with_unknown earliest_unknown
with_unknown-later numbers None kind place reference e = absurd (cc)
with_unknown-later numbers (Some m) kind place reference e =
    let added : Mention = record { place = place; kind = kind; reference = reference } in
    elim (refers numbers kind reference) as (λ t. earlier_mention (Some m) (earliest (if not t then added ∷ [] else [])) ≡ Some m) [ true ↦ refl | false ↦ rw e refl ]

pub with_unknown-new : (numbers : Numbering) (found : Option Mention) (kind : ComponentKind) (place : ℕ) (reference : Reference) → is_later found place ≡ true → refers numbers kind reference ≡ false
    → with_unknown numbers found (mentioned kind place reference) ≡ Some (record { place = place; kind = kind; reference = reference })
unfolding with_unknown earliest_unknown
with_unknown-new numbers None kind place reference e f = rw f refl
with_unknown-new numbers (Some m) kind place reference e f = rw f (rw e refl)

pub ruleset local_steps = (with_unknown-none, with_unknown-cons)

pub ruleset noted_steps = (with_unknown-known, with_unknown-later, with_unknown-new)

pub earliest_unknown-append : (numbers : Numbering) (ms ns : List Mention) → earliest_unknown numbers (ms ++ ns) ≡ with_unknown numbers (with_unknown numbers None ms) ns
unfolding with_unknown
earliest_unknown-append numbers ms ns = with_unknown-append numbers None ms ns

pub ruleset unknown_steps = (with_unknown-none, with_unknown-append, earliest_unknown-append)
