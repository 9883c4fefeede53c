use Rattle.std.proofs.Common.{◌≡◌, ℕ, true, List, [], ◌++◌, inl, inr, length, ap, arith}
use Rattle.gx_grammar.specs.Grammar.{token, empty, ◌&◌, keyed, choose, many, rule, made}
use Rattle.gx_grammar.specs.Language.{Language, Part}
use Rattle.gx_grammar.specs.Decision.{Texts, Before, Until, BeforeCut, Shortens, Decides}
use Rattle.gx_grammar.specs.Laws.{LawfulTokens}
use Rattle.gx_grammar.specs.Levels.{takes_some}
use Rattle.gx_grammar.specs.Text.{AtEnd, Nowhere, IsReadable}
use Rattle.gx_grammar.specs.First.{IsIn, EndsOrStarts, BeginsWith, Fronts, first_of, first_behind, AreFronts, IsSorted}
use Rattle.gx_grammar.proofs.Levels.{takes_off}
use Rattle.gx_grammar.proofs.First.{all_in, ends_in, begins_in, until_starts, before_begins}

module _ (L : Language) where
  before_less : (A : Part L) (K M : Texts) → ((y : List ℕ) → M y → K y) → (y : List ℕ) → Before L A M y → Before L A K y
  before_less A K M k y b = record { value = b.value; rest = b.rest; derived = b.derived; behind = k b.rest b.behind }

  pub until_less : (A : Part L) (K M : Texts) → ((y : List ℕ) → M y → K y) → (y : List ℕ) → Until L A M y → Until L A K y
  until_less A K M k y (inl b) = inl (before_less A K M k y b)
  until_less A K M k y (inr h) = inr h

  pub before_cut_less : (A : Part L) (C D : Texts) → ((y : List ℕ) → D y → C y) → (y : List ℕ) → BeforeCut L A D y → BeforeCut L A C y
  before_cut_less A C D c y (inl o) = inl o
  before_cut_less A C D c y (inr b) = inr (before_less A C D c y b)

  -- Where less may follow, the guards decide all the more.
  pub decides_less : (A : Part L) (K C M D : Texts) → ((y : List ℕ) → M y → K y) → ((y : List ℕ) → D y → C y) → Decides L A K C → Decides L A M D
  decides_less (token t) K C M D k c d = tt
  decides_less empty K C M D k c d = tt
  decides_less (A & B) K C M D k c d = (decides_less A (Until L B K) (BeforeCut L B C) (Until L B M) (BeforeCut L B D) (until_less B K M k) (before_cut_less B C D c) d.0, decides_less B K C M D k c d.1)
  decides_less (keyed t f) K C M D k c d = λ v. decides_less (f v) K C M D k c (d v)
  decides_less (choose g A B) K C M D k c d = (
    record {
      sees = d.0.sees;
      left = λ v x y e m. d.0.left v x y e (k y m);
      right = λ v x y e m. d.0.right v x y e (k y m);
      left_halts = d.0.left_halts;
      right_halts = d.0.right_halts;
      left_cut = d.0.left_cut;
      right_cut = d.0.right_cut;
      left_before = λ v x y z e f n m. d.0.left_before v x y z e f n (c y m);
      right_before = λ v x y z e f n m. d.0.right_before v x y z e f n (c y m);
    },
    decides_less A K C M D k c d.1,
    decides_less B K C M D k c d.2,
  )
  decides_less (many g A) K C M D k c d = (
    record {
      sees = d.0.sees;
      item = λ v x y e m. d.0.item v x y e (until_less (many g A) K M k y m);
      item_halts = d.0.item_halts;
      stop = λ x m. d.0.stop x (k x m);
      item_cut = d.0.item_cut;
      item_before = λ v x y z e f n m. d.0.item_before v x y z e f n (before_cut_less (many g A) C D c y m);
      stop_before = λ x z e n m. d.0.stop_before x z e n (c x m);
    },
    d.1,
    decides_less A (Until L (many g A) K) (BeforeCut L (many g A) C) (Until L (many g A) M) (BeforeCut L (many g A) D) (until_less (many g A) K M k) (before_cut_less (many g A) C D c) d.2,
  )
  decides_less (rule p) K C M D k c d = ((λ y m. d.0 y (k y m)), (λ y m. d.1 y (c y m)))
  decides_less (made f A) K C M D k c d = decides_less A K C M D k c d

  module _ (lawful : LawfulTokens L) (f : Fronts L) (right : AreFronts L f) where
    pub shortens : (A : Part L) → takes_some L f.takings A ≡ true → Shortens L A
    shortens A e = λ v x y d h. (let k = takes_off L lawful f.takings right.taken d e in let q : length x ≡ length y = ap length h in absurd (omega (arith, k, q)))

    -- Guards that decide by the first tokens decide.
    pub sorted_decides : (A : Part L) (ts : List L.Token) → IsSorted L f A ts → Decides L A (EndsOrStarts L.derives L.faults ts) (BeginsWith L.derives L.opens ts)
    sorted_decides (token t) ts s = tt
    sorted_decides empty ts s = tt
    sorted_decides (A & B) ts s = (
      decides_less A (EndsOrStarts L.derives L.faults (first_behind L f B ts)) (BeginsWith L.derives L.opens (first_behind L f B ts)) (Until L B (EndsOrStarts L.derives L.faults ts)) (BeforeCut L B (BeginsWith L.derives L.opens ts))
          (until_starts L f right B ts) (before_begins L f right B ts) (sorted_decides A (first_behind L f B ts) s.0),
      sorted_decides B ts s.1,
    )
    sorted_decides (keyed t g) ts s = λ v. sorted_decides (g v) ts (s v)
    sorted_decides (choose g A B) ts s = (s.0, sorted_decides A ts s.1, sorted_decides B ts s.2)
    sorted_decides (many g A) ts s = (
      s.0,
      shortens A s.1,
      decides_less A (EndsOrStarts L.derives L.faults (first_of L f A ++ ts)) (BeginsWith L.derives L.opens (first_of L f A ++ ts)) (Until L (many g A) (EndsOrStarts L.derives L.faults ts)) (BeforeCut L (many g A) (BeginsWith L.derives L.opens ts))
          (until_starts L f right (many g A) ts) (before_begins L f right (many g A) ts) (sorted_decides A (first_of L f A ++ ts) s.2),
    )
    sorted_decides (rule p) ts s = (
      (λ y k. (right.follows p y).1 (ends_in L.derives L.faults ts (f.next p) y (λ u i. all_in (IsIn (f.next p)) ts s u i) k)),
      (λ y c. (right.follows_cut p y).1 (begins_in L.derives L.opens ts (f.next p) y (λ u i. all_in (IsIn (f.next p)) ts s u i) c)),
    )
    sorted_decides (made h A) ts s = sorted_decides A ts s

    -- What an instance owes, where all of its guards decide by first tokens or first characters.
    pub sorted_readable : (A : Part L) → ((p : L.Production) → IsSorted L f (L.rules p) (f.next p)) → IsSorted L f A [] → IsReadable L A
    sorted_readable A sorted top = record {
      tokens = lawful;
      productions = λ p. decides_less (L.rules p) (EndsOrStarts L.derives L.faults (f.next p)) (BeginsWith L.derives L.opens (f.next p)) (L.follows p) (L.follows_cut p) (λ y k. (right.follows p y).0 k) (λ y c. (right.follows_cut p y).0 c) (sorted_decides (L.rules p) (f.next p) (sorted p));
      top = decides_less A (EndsOrStarts L.derives L.faults []) (BeginsWith L.derives L.opens []) AtEnd Nowhere (λ y k. inl k) (λ y c. absurd c) (sorted_decides A [] top);
    }
