use Rattle.std.proofs.Common.{◌≡◌, ℕ, zero, suc, ◌+◌, ◌<◌, ◌≤◌, Bool, true, false, ◌&&◌, ◌||◌, List, ◌⊎◌, inl, inr, length, refl, ap, Ok, Err, IfOk, arith, length-append, Option, Some, None, min}
use Rattle.gx_grammar.specs.Value.{pair, no_item, an_item}
use Rattle.gx_grammar.specs.Grammar.{Guard, token, empty, ◌&◌, keyed, choose, many, rule, made}
use Rattle.gx_grammar.specs.Language.{Language, Part, Made}
use Rattle.gx_grammar.specs.Derivation.{Derives, of_token, of_empty, of_both, of_keyed, of_left, of_right, of_none, of_item, of_rule, of_made}
use Rattle.gx_grammar.specs.Reading.{State, Unfit, Faulty, TooDeep, Reading, go_on, notes, taken, unless_fault, read_token, repeat, read_with, reads, start}
use Rattle.gx_grammar.specs.Decision.{Texts, Until, BeforeCut, Decides}
use Rattle.gx_grammar.specs.Laws.{LawfulTokens}
use Rattle.gx_grammar.specs.Levels.{Takings, takes_some, HasRanksBelow, IsShielded, AreTakings, IsLevelled, IsNotTooDeep}
use Rattle.gx_grammar.specs.Text.{AllDecide, AtEnd, Nowhere, IsReadable}
use Rattle.gx_grammar.proofs.Derived.{suffix}
use Rattle.gx_grammar.proofs.Readings.{by_test}
use Rattle.gx_grammar.proofs.Exact.{exact_token, token_derives}
use Rattle.gx_grammar.proofs.Read.{exact_with, exact_reads}

or_is : (a b : Bool) → (a || b) ≡ true → (a ≡ true) ⊎ (b ≡ true)
or_is true b e = inl refl
or_is false b e = inr e

and_is : (a b : Bool) → (a && b) ≡ true → (a ≡ true) × (b ≡ true)
and_is true b e = (refl, e)
and_is false b e = absurd (cc)

-- a step behind another, where the first leaves what P says
not_too_deep : {X Y : Type 0} (r : Reading X) (f : X → State → Reading Y) (P : X → State → Type 0) → IsNotTooDeep r → IfOk r (λ o. P o.0 o.1) → ((v : X) (t : State) → P v t → IsNotTooDeep (f v t)) → IsNotTooDeep (go_on r f)
not_too_deep (Ok o) f P n h next = next o.0 o.1 h
not_too_deep (Err (Unfit far)) f P n h next = tt
not_too_deep (Err (Faulty code left)) f P n h next = tt
not_too_deep (Err TooDeep) f P n h next = absurd n

if_ok : {X : Type 0} (r : Reading X) (P Q : X × State → Type 0) → ((o : X × State) → P o → Q o) → IfOk r P → IfOk r Q
if_ok (Ok o) P Q f h = f o h
if_ok (Err e) P Q f h = tt

-- a last step that keeps the state
last : {X Y : Type 0} (r : Reading X) (f : X → Y) → IsNotTooDeep r → IsNotTooDeep (go_on r (λ v t. Ok (f v, t)))
last (Ok o) f n = tt
last (Err (Unfit far)) f n = tt
last (Err (Faulty code left)) f n = tt
last (Err TooDeep) f n = absurd n

token_fine : (L : Language) (t : L.Token) (s : State) → IsNotTooDeep (read_token L t s)
token_fine L t s = go (L.faults t s.rest) (L.scan t s.rest)
  where
    go : (fault : Option ℕ) (q : Option (Made L × List ℕ)) → IsNotTooDeep (unless_fault fault (length s.rest) (taken q (min s.far (L.seen t s.rest))))
    go None (Some r) = tt
    go None None = tt
    go (Some code) q = tt

module _ (L : Language) (lawful : LawfulTokens L) (k : Takings L) (taken : AreTakings L k) where
  shorter_or_same : {A : Part L} {v : Made L} {x y : List ℕ} → Derives L A v x y → length y ≤ length x
  shorter_or_same {x = x} {y = y} d = let a = suffix L lawful d in omega (arith, ap length a.1, length-append a.0 y)

  -- what takes some characters leaves fewer
  pub takes_off : {A : Part L} {v : Made L} {x y : List ℕ} → Derives L A v x y → takes_some L k A ≡ true → length y < length x
  takes_off (of_token {t = t} {v = v} {x = x} {y = y} d) e = taken.tokens t v x y e d
  takes_off of_empty e = absurd (cc)
  takes_off (of_both {A = A} {B = B} {x = x} {y = y} {z = z} d f) e = elim (or_is (takes_some L k A) (takes_some L k B) e) [
    | inl q ↦ (let a = takes_off d q in let b = shorter_or_same f in omega (arith, a, b))
    | inr q ↦ (let a = shorter_or_same d in let b = takes_off f q in omega (arith, a, b))
  ]
  takes_off (of_keyed {t = t} {v = v} {x = x} {y = y} d f) e = let a = taken.tokens t v x y e d in let b = shorter_or_same f in omega (arith, a, b)
  takes_off (of_left {A = A} {B = B} d) e = takes_off d (and_is (takes_some L k A) (takes_some L k B) e).0
  takes_off (of_right {A = A} {B = B} d) e = takes_off d (and_is (takes_some L k A) (takes_some L k B) e).1
  takes_off of_none e = absurd (cc)
  takes_off (of_item d f) e = absurd (cc)
  takes_off (of_rule {p = p} d) e = takes_off d (taken.productions p e)
  takes_off (of_made d) e = takes_off d e

  module _ (rank : L.Production → ℕ) (decided : AllDecide L) (levels : ℕ) (calls : (p : L.Production) (s : State) → rank p + length s.rest < levels → IsNotTooDeep (reads L levels p s)) where
    abbrev reader : Part L → State → Reading (Made L)
    reader A = read_with L (reads L levels) A

    derived : (A : Part L) (K C : Texts) → Decides L A K C → (s : State) → IfOk (reader A s) (λ o. Derives L A o.0 s.rest o.1.rest)
    derived A K C d s = (exact_with L lawful (reads L levels) (exact_reads L lawful decided levels) A K C d).sound s

    leaves : (A : Part L) (K C : Texts) → Decides L A K C → (s : State) → IfOk (reader A s) (λ o. length o.1.rest ≤ length s.rest)
    leaves A K C d s = if_ok (reader A s) _ _ (λ o e. shorter_or_same e) (derived A K C d s)

    leaves_less : (A : Part L) (K C : Texts) → Decides L A K C → takes_some L k A ≡ true → (s : State) → IfOk (reader A s) (λ o. length o.1.rest < length s.rest)
    leaves_less A K C d t s = if_ok (reader A s) _ _ (λ o e. takes_off e t) (derived A K C d s)

    key_leaves : (t : L.Token) (s : State) → IfOk (read_token L t s) (λ o. length o.1.rest ≤ length s.rest)
    key_leaves t s = if_ok (read_token L t s) _ _ (λ o e. shorter_or_same e) ((exact_token L lawful t AtEnd Nowhere).sound s)

    key_leaves_less : (t : L.Token) (s : State) → k.token_takes t ≡ true → IfOk (read_token L t s) (λ o. length o.1.rest < length s.rest)
    key_leaves_less t s q = if_ok (read_token L t s) _ _ (λ o e. taken.tokens t o.0 s.rest o.1.rest q (token_derives L lawful t e)) ((exact_token L lawful t AtEnd Nowhere).sound s)

    -- items that leave no more than stood there
    items : (g : Guard) (item : State → Reading (Made L)) (n : ℕ) → ((s : State) → n + length s.rest ≤ levels → IsNotTooDeep (item s)) → ((s : State) → IfOk (item s) (λ o. length o.1.rest ≤ length s.rest))
        → (count : ℕ) (s : State) → n + length s.rest ≤ levels → IsNotTooDeep (repeat g item count s)
    items g item n fine less zero s h = tt
    items g item n fine less (suc count) s h =
        by_test (g.takes s.rest) (go_on (item (notes s (g.seen s.rest))) (λ v t. go_on (repeat g item count t) (λ w u. Ok (an_item v w, u)))) (Ok (no_item, notes s (g.seen s.rest))) (λ r. IsNotTooDeep r)
        (λ _. not_too_deep (item (notes s (g.seen s.rest))) (λ v t. go_on (repeat g item count t) (λ w u. Ok (an_item v w, u))) (λ v t. length t.rest ≤ length s.rest) (fine (notes s (g.seen s.rest)) h) (less (notes s (g.seen s.rest)))
        (λ v t e. last (repeat g item count t) (λ w. an_item v w) (items g item n fine less count t (omega arith))))
        (λ _. tt)

    -- where the ranks with the text are low enough, any grammar
    short : (n : ℕ) (A : Part L) (K C : Texts) → Decides L A K C → HasRanksBelow L rank n A → (s : State) → n + length s.rest ≤ levels → IsNotTooDeep (reader A s)
    short n (token t) K C d r s h = token_fine L t s
    short n empty K C d r s h = tt
    short n (A & B) K C d r s h =
        not_too_deep (reader A s) (λ v t. go_on (reader B t) (λ w u. Ok (pair v w, u))) (λ v t. length t.rest ≤ length s.rest) (short n A (Until L B K) (BeforeCut L B C) d.0 r.0 s h) (leaves A (Until L B K) (BeforeCut L B C) d.0 s)
        (λ v t e. last (reader B t) (λ w. pair v w) (short n B K C d.1 r.1 t (omega arith)))
    short n (keyed t f) K C d r s h =
        not_too_deep (read_token L t s) (λ v u. go_on (reader (f v) u) (λ w r. Ok (pair v w, r))) (λ v u. length u.rest ≤ length s.rest) (token_fine L t s) (key_leaves t s)
        (λ v u e. last (reader (f v) u) (λ w. pair v w) (short n (f v) K C (d v) (r v) u (omega arith)))
    short n (choose g A B) K C d r s h = by_test (g.takes s.rest) (reader A (notes s (g.seen s.rest))) (reader B (notes s (g.seen s.rest))) (λ r. IsNotTooDeep r)
        (λ _. short n A K C d.1 r.0 (notes s (g.seen s.rest)) h) (λ _. short n B K C d.2 r.1 (notes s (g.seen s.rest)) h)
    short n (many g A) K C d r s h = items g (reader A) n (λ t e. short n A (Until L (many g A) K) (BeforeCut L (many g A) C) d.2 r t e) (leaves A (Until L (many g A) K) (BeforeCut L (many g A) C) d.2) (suc (length s.rest)) s h
    short n (rule p) K C d r s h = calls p s (omega (arith, r))
    short n (made f A) K C d r s h = last (reader A s) (f (length s.rest)) (short n A K C d r s h)

    -- behind a character a production may have one more rank
    shielded : (n : ℕ) (A : Part L) (K C : Texts) → Decides L A K C → IsShielded L k rank n A → (s : State) → n + length s.rest ≤ levels → IsNotTooDeep (reader A s)
    shielded n (token t) K C d i s h = token_fine L t s
    shielded n empty K C d i s h = tt
    shielded n (A & B) K C d i s h = elim i.1 [
      | inl e ↦ not_too_deep (reader A s) (λ v t. go_on (reader B t) (λ w u. Ok (pair v w, u))) (λ v t. length t.rest < length s.rest) (shielded n A (Until L B K) (BeforeCut L B C) d.0 i.0 s h) (leaves_less A (Until L B K) (BeforeCut L B C) d.0 e.0 s)
          (λ v t q. last (reader B t) (λ w. pair v w) (short (suc n) B K C d.1 e.1 t (omega arith)))
      | inr j ↦ not_too_deep (reader A s) (λ v t. go_on (reader B t) (λ w u. Ok (pair v w, u))) (λ v t. length t.rest ≤ length s.rest) (shielded n A (Until L B K) (BeforeCut L B C) d.0 i.0 s h) (leaves A (Until L B K) (BeforeCut L B C) d.0 s)
          (λ v t e. last (reader B t) (λ w. pair v w) (shielded n B K C d.1 j t (omega arith)))
    ]
    shielded n (keyed t f) K C d (inl q) s h =
        not_too_deep (read_token L t s) (λ v u. go_on (reader (f v) u) (λ w r. Ok (pair v w, r))) (λ v u. length u.rest < length s.rest) (token_fine L t s) (key_leaves_less t s q.0)
        (λ v u e. last (reader (f v) u) (λ w. pair v w) (short (suc n) (f v) K C (d v) (q.1 v) u (omega arith)))
    shielded n (keyed t f) K C d (inr q) s h =
        not_too_deep (read_token L t s) (λ v u. go_on (reader (f v) u) (λ w r. Ok (pair v w, r))) (λ v u. length u.rest ≤ length s.rest) (token_fine L t s) (key_leaves t s)
        (λ v u e. last (reader (f v) u) (λ w. pair v w) (shielded n (f v) K C (d v) (q v) u (omega arith)))
    shielded n (choose g A B) K C d i s h = by_test (g.takes s.rest) (reader A (notes s (g.seen s.rest))) (reader B (notes s (g.seen s.rest))) (λ r. IsNotTooDeep r)
        (λ _. shielded n A K C d.1 i.0 (notes s (g.seen s.rest)) h) (λ _. shielded n B K C d.2 i.1 (notes s (g.seen s.rest)) h)
    shielded n (many g A) K C d i s h = items g (reader A) n (λ t e. shielded n A (Until L (many g A) K) (BeforeCut L (many g A) C) d.2 i t e) (leaves A (Until L (many g A) K) (BeforeCut L (many g A) C) d.2) (suc (length s.rest)) s h
    shielded n (rule p) K C d i s h = calls p s (omega (arith, i))
    shielded n (made f A) K C d i s h = last (reader A s) (f (length s.rest)) (shielded n A K C d i s h)

  -- More levels than the rank with the length of the text suffice.
  pub enough : (rank : L.Production → ℕ) → AllDecide L → ((p : L.Production) → IsShielded L k rank (rank p) (L.rules p)) → (levels : ℕ) (p : L.Production) (s : State) → rank p + length s.rest < levels → IsNotTooDeep (reads L levels p s)
  enough rank decided shields zero p s h = absurd (omega arith)
  enough rank decided shields (suc levels) p s h = shielded rank decided levels (enough rank decided shields levels) (rank p) (L.rules p) (L.follows p) (L.follows_cut p) (decided p) (shields p) s (omega arith)

-- where all ranks are low, nothing needs to stand behind a character
pub below_shields : (L : Language) (k : Takings L) (rank : L.Production → ℕ) (n : ℕ) (A : Part L) → HasRanksBelow L rank n A → IsShielded L k rank n A
below_shields L k rank n (token t) h = tt
below_shields L k rank n empty h = tt
below_shields L k rank n (A & B) h = (below_shields L k rank n A h.0, inr (below_shields L k rank n B h.1))
below_shields L k rank n (keyed t f) h = inr (λ v. below_shields L k rank n (f v) (h v))
below_shields L k rank n (choose g A B) h = (below_shields L k rank n A h.0, below_shields L k rank n B h.1)
below_shields L k rank n (many g A) h = below_shields L k rank n A h
below_shields L k rank n (rule p) h = h
below_shields L k rank n (made f A) h = below_shields L k rank n A h

pub never_too_deep : (L : Language) (A : Part L) → IsReadable L A → (k : Takings L) (levelled : IsLevelled L k) (bound : ℕ) → HasRanksBelow L levelled.rank bound A
    → (levels : ℕ) (text : List ℕ) → bound + length text ≤ levels → IsNotTooDeep (read_with L (reads L levels) A (start text))
never_too_deep L A readable k levelled bound ranks levels text h =
    short L readable.tokens k levelled.takings levelled.rank readable.productions levels
    (enough L readable.tokens k levelled.takings levelled.rank readable.productions levelled.shielded levels) bound A AtEnd Nowhere readable.top ranks (start text) h
