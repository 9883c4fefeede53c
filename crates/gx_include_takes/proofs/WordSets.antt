-- Sets of numbers as bits.
use Rattle.std.proofs.Common.{◌≡◌, ◌≢◌, ℕ, zero, suc, ◌+◌, ◌<◌, ◌≤◌, ◌/◌, ◌%◌, ◌^◌, Bool, true, false, ◌&&◌, ◌||◌, ◌==◌, List, inl, inr, refl, sym, ◌∙◌, ap, subst, get_or, length, arith, max, min, bit_and, bit_or}
use Rattle.std.specs.Prelude.{slice_set}
use Rattle.std.specs.Int.{bit_at}
use Rattle.std.proofs.Math.ListN.{replicate}
use Rattle.std.proofs.Math.Bool.{or-false, or_comm}
use Rattle.std.proofs.lemmas.Bool.{cases_lt, eqb-true, eq-eqb, ne_eqb}
use Rattle.std.proofs.lemmas.List.{get_or-set_same, get_or-set_other, get_or_past, length-set, length-replicate}
use Rattle.std.proofs.lemmas.Nat.Bits.{bit_at_or, bit_at_and, bit_at-zero, bit_at-lt, bit_at-pow_same, bit_at-pow_other}
use Rattle.gx_include_takes.specs.Bits.{has_bit}

-- one bit

or_bit : (m n : ℕ) → m < 2 → n < 2 → (max m n == 1) ≡ (m == 1) || (n == 1)
or_bit zero zero h k = refl
or_bit zero (suc zero) h k = refl
or_bit (suc zero) zero h k = refl
or_bit (suc zero) (suc zero) h k = refl
or_bit (suc (suc m)) n h k = absurd (omega arith)
or_bit zero (suc (suc n)) h k = absurd (omega arith)
or_bit (suc zero) (suc (suc n)) h k = absurd (omega arith)

and_bit : (m n : ℕ) → m < 2 → n < 2 → (min m n == 1) ≡ (m == 1) && (n == 1)
and_bit zero zero h k = refl
and_bit zero (suc zero) h k = refl
and_bit (suc zero) zero h k = refl
and_bit (suc zero) (suc zero) h k = refl
and_bit (suc (suc m)) n h k = absurd (omega arith)
and_bit zero (suc (suc n)) h k = absurd (omega arith)
and_bit (suc zero) (suc (suc n)) h k = absurd (omega arith)

bit_either : (m n i : ℕ) → (bit_at (bit_or m n) i == 1) ≡ (bit_at m i == 1) || (bit_at n i == 1)
bit_either m n i = ap (λ b. b == 1) (bit_at_or m n i) ∙ or_bit (bit_at m i) (bit_at n i) (bit_at-lt m i) (bit_at-lt n i)

bit_both : (m n i : ℕ) → (bit_at (bit_and m n) i == 1) ≡ (bit_at m i == 1) && (bit_at n i == 1)
bit_both m n i = ap (λ b. b == 1) (bit_at_and m n i) ∙ and_bit (bit_at m i) (bit_at n i) (bit_at-lt m i) (bit_at-lt n i)

no_bit : (i : ℕ) → (bit_at 0 i == 1) ≡ false
no_bit i = ap (λ b. b == 1) (bit_at-zero i)

-- no number is in words without bits
pub no_member : (count number : ℕ) → has_bit (replicate count 0) number ≡ false
no_member count number = ap (λ w. bit_at w (number % 64) == 1) (zeros count (number / 64)) ∙ no_bit (number % 64)
  where
    zeros : (count n : ℕ) → get_or (replicate count zero) n zero ≡ zero
    zeros zero n = refl
    zeros (suc count) zero = refl
    zeros (suc count) (suc n) = zeros count n

-- a number has its word
pub word_within : (set : List ℕ) (number : ℕ) → has_bit set number ≡ true → number / 64 < length set
word_within set number h =
    elim (cases_lt (number / 64) (length set)) [
      | inl l ↦ l
      | inr l ↦
          let none : has_bit set number ≡ false = ap (λ w. bit_at w (number % 64) == 1) (get_or_past set (number / 64) 0 l) ∙ no_bit (number % 64) in
          absurd (cc)
    ]

-- a word of a set is written

word_set : (set : List ℕ) (k word number : ℕ) → k < length set → number / 64 ≡ k → has_bit (slice_set set k word) number ≡ (bit_at word (number % 64) == 1)
word_set set k word number h e = ap (λ w. bit_at w (number % 64) == 1) (ap (λ i. get_or (slice_set set k word) i 0) e ∙ get_or-set_same set k word 0 h)

other_set : (set : List ℕ) (k word number : ℕ) → number / 64 ≢ k → has_bit (slice_set set k word) number ≡ has_bit set number
other_set set k word number f = ap (λ w. bit_at w (number % 64) == 1) (get_or-set_other set k (number / 64) word 0 f)

-- one number more

pub put_in : (set after : List ℕ) (number bit old : ℕ) → number / 64 < length set → bit ≡ 2 ^ (number % 64) → old ≡ get_or set (number / 64) 0 → after ≡ slice_set set (number / 64) (bit_or old bit)
    → (other : ℕ) → has_bit after other ≡ (other == number) || has_bit set other
put_in set after number bit old within e o f other =
    ap (λ ws. has_bit ws other) f
    ∙ ap (λ b. has_bit (slice_set set (number / 64) (bit_or old b)) other) e ∙ ap (λ w. has_bit (slice_set set (number / 64) (bit_or w (2 ^ (number % 64)))) other) o ∙ by (other / 64 == number / 64) refl
  where
    bit_is : other / 64 ≡ number / 64 → (bit_at (2 ^ (number % 64)) (other % 64) == 1) ≡ (other == number)
    bit_is w = inner (other % 64 == number % 64) refl
      where
        inner : (b : Bool) → (other % 64 == number % 64) ≡ b → (bit_at (2 ^ (number % 64)) (other % 64) == 1) ≡ (other == number)
        inner true h =
            let r = eqb-true (other % 64) (number % 64) h in
            ap (λ i. bit_at (2 ^ (number % 64)) i == 1) r ∙ ap (λ b. b == 1) (bit_at-pow_same (number % 64)) ∙ sym (eq-eqb other number (omega (arith, w, r)))
        inner false h =
            ap (λ b. b == 1) (bit_at-pow_other (number % 64) (other % 64) (λ r. let g = eq-eqb (other % 64) (number % 64) r in absurd (cc)))
            ∙ sym (ne_eqb other number (λ q. let g = eq-eqb (other % 64) (number % 64) (ap (λ i. i % 64) q) in absurd (cc)))

    by : (b : Bool) → (other / 64 == number / 64) ≡ b → has_bit (slice_set set (number / 64) (bit_or (get_or set (number / 64) 0) (2 ^ (number % 64)))) other ≡ (other == number) || has_bit set other
    by true h =
        let w = eqb-true (other / 64) (number / 64) h in
        word_set set (number / 64) (bit_or (get_or set (number / 64) 0) (2 ^ (number % 64))) other within w ∙ bit_either (get_or set (number / 64) 0) (2 ^ (number % 64)) (other % 64)
        ∙ ap (λ i. (bit_at (get_or set i 0) (other % 64) == 1) || (bit_at (2 ^ (number % 64)) (other % 64) == 1)) (sym w)
        ∙ ap (λ b. has_bit set other || b) (bit_is w) ∙ or_comm (has_bit set other) (other == number)
    by false h =
        other_set set (number / 64) (bit_or (get_or set (number / 64) 0) (2 ^ (number % 64))) other (λ w. let g = eq-eqb (other / 64) (number / 64) w in absurd (cc))
        ∙ ap (λ b. b || has_bit set other) (sym (ne_eqb other number (λ q. let g = eq-eqb (other / 64) (number / 64) (ap (λ i. i / 64) q) in absurd (cc))))

-- words are met in turn: those below a bound are, and the others stayed

pub record AreMetBelow (old other set : List ℕ) (bound : ℕ) : Type 0 where
  pub room : length set ≡ length old
  pub done : (number : ℕ) → number / 64 < bound → has_bit set number ≡ has_bit old number && has_bit other number
  pub left : (number : ℕ) → bound ≤ number / 64 → get_or set (number / 64) 0 ≡ get_or old (number / 64) 0

pub none_met : (old other : List ℕ) → AreMetBelow old other old 0
none_met old other = record { room = refl; done = λ n h. absurd (omega arith); left = λ n h. refl }

pub one_met : (old other set after : List ℕ) (k one two : ℕ) → k < length set → one ≡ get_or set k 0 → two ≡ get_or other k 0 → after ≡ slice_set set k (bit_and one two)
    → AreMetBelow old other set k → AreMetBelow old other after (k + 1)
one_met old other set after k one two within o p e is =
    subst (λ ws. AreMetBelow old other ws (k + 1)) (sym e) (record {
      room = length-set set k (bit_and one two) ∙ is.room;
      done = done;
      left = λ n h. get_or-set_other set k (n / 64) (bit_and one two) 0 (λ g. omega arith) ∙ is.left n (omega arith);
    })
  where
    done : (n : ℕ) → n / 64 < k + 1 → has_bit (slice_set set k (bit_and one two)) n ≡ has_bit old n && has_bit other n
    done n below =
        elim (cases_lt (n / 64) k) [
          | inl l ↦ other_set set k (bit_and one two) n (λ g. omega arith) ∙ is.done n l
          | inr l ↦
              let last : n / 64 ≡ k = omega arith in
              word_set set k (bit_and one two) n within last ∙ bit_both one two (n % 64)
              ∙ ap (λ w. (bit_at w (n % 64) == 1) && (bit_at two (n % 64) == 1)) (o ∙ ap (λ i. get_or set i 0) (sym last) ∙ is.left n l)
              ∙ ap (λ w. has_bit old n && (bit_at w (n % 64) == 1)) (p ∙ ap (λ i. get_or other i 0) (sym last))
        ]

not_past : (set : List ℕ) (n : ℕ) → length set ≤ n / 64 → has_bit set n ≡ false
not_past set n h = ap (λ w. bit_at w (n % 64) == 1) (get_or_past set (n / 64) 0 h) ∙ no_bit (n % 64)

pub all_met : (old other set : List ℕ) (k : ℕ) → length old ≤ k → AreMetBelow old other set k → (n : ℕ) → has_bit set n ≡ has_bit old n && has_bit other n
all_met old other set k past is n =
    elim (cases_lt (n / 64) k) [
      | inl l ↦ is.done n l
      | inr l ↦
          let none = not_past old n (omega arith) in
          ap (λ w. bit_at w (n % 64) == 1) (is.left n l) ∙ none ∙ ap (λ b. b && has_bit other n) (sym none)
    ]

-- words are united in turn: those below a bound are, and the others stayed

pub record AreUnitedBelow (old other set : List ℕ) (bound : ℕ) : Type 0 where
  pub room : length set ≡ length old
  pub done : (number : ℕ) → number / 64 < bound → has_bit set number ≡ has_bit old number || has_bit other number
  pub left : (number : ℕ) → bound ≤ number / 64 → get_or set (number / 64) 0 ≡ get_or old (number / 64) 0

pub one_united : (old other set after : List ℕ) (k one two : ℕ) → k < length set → one ≡ get_or set k 0 → two ≡ get_or other k 0 → after ≡ slice_set set k (bit_or one two)
    → AreUnitedBelow old other set k → AreUnitedBelow old other after (k + 1)
one_united old other set after k one two within o p e is =
    subst (λ ws. AreUnitedBelow old other ws (k + 1)) (sym e) (record {
      room = length-set set k (bit_or one two) ∙ is.room;
      done = done;
      left = λ n h. get_or-set_other set k (n / 64) (bit_or one two) 0 (λ g. omega arith) ∙ is.left n (omega arith);
    })
  where
    done : (n : ℕ) → n / 64 < k + 1 → has_bit (slice_set set k (bit_or one two)) n ≡ has_bit old n || has_bit other n
    done n below =
        elim (cases_lt (n / 64) k) [
          | inl l ↦ other_set set k (bit_or one two) n (λ g. omega arith) ∙ is.done n l
          | inr l ↦
              let last : n / 64 ≡ k = omega arith in
              word_set set k (bit_or one two) n within last ∙ bit_either one two (n % 64)
              ∙ ap (λ w. (bit_at w (n % 64) == 1) || (bit_at two (n % 64) == 1)) (o ∙ ap (λ i. get_or set i 0) (sym last) ∙ is.left n l)
              ∙ ap (λ w. has_bit old n || (bit_at w (n % 64) == 1)) (p ∙ ap (λ i. get_or other i 0) (sym last))
        ]

-- flags are packed in turn

pub record ArePackedBelow (flags : List Bool) (set : List ℕ) (bound : ℕ) : Type 0 where
  pub room : length set ≡ length flags / 64 + 1
  pub done : (n : ℕ) → n < bound → has_bit set n ≡ get_or flags n false
  pub left : (n : ℕ) → bound ≤ n → has_bit set n ≡ false

pub none_packed : (flags : List Bool) (set : List ℕ) (count : ℕ) → set ≡ replicate count 0 → count ≡ length flags / 64 + 1 → ArePackedBelow flags set 0
none_packed flags set count e f = record {
  room = ap length e ∙ length-replicate count 0 ∙ f;
  done = λ n h. absurd (omega arith);
  left = λ n h. ap (λ ws. has_bit ws n) e ∙ no_member count n;
}

pub one_packed : (flags : List Bool) (set after : List ℕ) (k : ℕ) (flag : Bool) → flag ≡ get_or flags k false → length after ≡ length set
    → ((n : ℕ) → has_bit after n ≡ ((n == k) && flag) || has_bit set n) → ArePackedBelow flags set k → ArePackedBelow flags after (k + 1)
one_packed flags set after k flag f room bits is = record {
  room = room ∙ is.room;
  done = λ n h. elim (cases_lt n k) [
    | inl l ↦ others n (λ g. omega arith) ∙ is.done n l
    | inr l ↦
        let last : n ≡ k = omega arith in
        bits n ∙ ap (λ b. (b && flag) || has_bit set n) (eq-eqb n k last) ∙ ap (λ b. flag || b) (is.left n l) ∙ or-false flag ∙ f ∙ ap (λ i. get_or flags i false) (sym last)
  ];
  left = λ n h. others n (λ g. omega arith) ∙ is.left n (omega arith);
}
  where
    others : (n : ℕ) → n ≢ k → has_bit after n ≡ has_bit set n
    others n g = bits n ∙ ap (λ b. (b && flag) || has_bit set n) (ne_eqb n k g)

pub all_packed : (flags : List Bool) (set : List ℕ) (k : ℕ) → length flags ≤ k → ArePackedBelow flags set k → (n : ℕ) → has_bit set n ≡ get_or flags n false
all_packed flags set k past is n =
    elim (cases_lt n k) [
      | inl l ↦ is.done n l
      | inr l ↦ is.left n l ∙ sym (get_or_past flags n false (omega arith))
    ]
