-- Sets of positions of a type, and what they read.
use Rattle.std.proofs.Common.{◌≡◌, ◌≢◌, ℕ, zero, suc, ◌+◌, ◌-◌, ◌*◌, ◌<◌, ◌≤◌, ◌/◌, ◌%◌, ◌^◌, ◌==◌, Bool, true, false, ◌&&◌, ◌||◌, List, [], ◌∷◌, ◌++◌, ◌⊎◌, inl, inr, Option, Some, refl, sym, ◌∙◌, ap, subst, ◌↔◌, get_or, length, slice_get, length-append, pow_mono, arith}
use Rattle.std.specs.Prelude.{Vec}
use Rattle.std.specs.Bool.{IsTrue}
use Rattle.std.specs.Int.{bit_at}
use Rattle.std.proofs.Math.Bool.{and-false}
use Rattle.std.proofs.lemmas.Bool.{cases_lt, cases_eq, or_cases, or_left, or_right, and_from, and_parts, eq-eqb, eqb-true}
use Rattle.std.proofs.lemmas.Nat.{shr-shr}
use Rattle.std.proofs.lemmas.Nat.Bits.{bit_at_above, bit_at_cat_low, bit_at_cat_high}
use Rattle.std.proofs.lemmas.Option.{slice_get_cases, slice_get_within}
use Rattle.gx_types.specs.declared.item_type.ItemType.{ItemType}
use Rattle.gx_types.specs.declared.shape.Shape.{Shape}
use Rattle.gx_types.specs.SchemaSet.{SchemaSet}
use Rattle.gx_types.specs.SequenceType.{SequenceType}
use Rattle.gx_types.specs.Takes.{Takes}
use Rattle.gx_types.specs.TypeRules.{positions_of}
use Rattle.gx_include_takes.specs.Bits.{has_bit}
use Rattle.gx_include_takes.specs.Following.{AreFollowing, FollowsOne, has_place, members_in, follows_block, FollowsMember, IsMask, AreComing, AreOfType, AreBehind}
use Rattle.gx_include_positions.specs.Positions.{both_set}
use Rattle.gx_include_positions.specs.Step.{single, all_next, all_tests, step_over, is_end}
use Rattle.gx_include_positions.specs.Test.{is_taken, IsDecided}
use Rattle.gx_include_positions.proofs.Lists.{set_within}
use Rattle.gx_include_positions.proofs.SetReads.{Reads, length_tests, single_has, reads_forward, reads_back, end_reads, reads_end, larger_reads, single_within, member_reads, start_reads, reads_start}
use Rattle.gx_include_takes.proofs.WordSets.{word_within}

get_both : (xs ys : List Bool) (i : ℕ) → get_or (both_set xs ys) i false ≡ (get_or xs i false && get_or ys i false)
get_both [] ys i = refl
get_both (x ∷ xs) [] i = sym (and-false (get_or (x ∷ xs) i false))
get_both (x ∷ xs) (y ∷ ys) zero = refl
get_both (x ∷ xs) (y ∷ ys) (suc i) = get_both xs ys i

-- what some places read

abbrev pub ReadsOne : SchemaSet → SequenceType → List ℕ → List Shape → Type 0
ReadsOne s t places list = (place : ℕ) × (has_bit places place ≡ true) × Reads s t (single place) list

-- a set of the start alone
abbrev pub IsStart : List ℕ → Type 0
IsStart places = (place : ℕ) → has_bit places place ≡ get_or (single 0) place false

pub places_start : (s : SchemaSet) (t : SequenceType) (places : List ℕ) (list : List Shape) → IsStart places → ReadsOne s t places list ↔ Takes s t list
places_start s t places list is = (
  λ q. reads_start s t list (subst (λ n. Reads s t (single n) list) (single_has 0 q.0 (sym (is q.0) ∙ q.1)) q.2),
  λ h. (0, is 0, start_reads s t list h),
)

pub start_within : (t : SequenceType) (places : List ℕ) → IsStart places → AreOfType t places
start_within t places is place h = let e = single_has 0 place (sym (is place) ∙ h) in omega arith

pub places_go_on : {Taken : Type 0} (s : SchemaSet) (t : SequenceType) (places after : List ℕ) (list others : List Shape) (x : Shape) → list ≡ x ∷ others
    → AreBehind t (is_taken s x) places after → IsDecided s x t → ReadsOne s t places list ↔ Taken → ReadsOne s t after others ↔ Taken
places_go_on s t places after list others x front behind d w = (
  λ q.
      let r = (behind q.0).0 q.1 in
      let larger = larger_reads s t (single q.0) (step_over t (is_taken s x) (single r.0)) (single_within q.0 (step_over t (is_taken s x) (single r.0)) r.2) others q.2 in
      w.0 (r.0, r.1, subst (λ xs. Reads s t (single r.0) xs) (sym front) (reads_forward s x t (single r.0) others d larger)),
  λ h.
      let q = w.1 h in
      let m = member_reads s t (step_over t (is_taken s x) (single q.0)) others (reads_back s x t (single q.0) others d (subst (λ xs. Reads s t (single q.0) xs) front q.2)) in
      (m.0, (behind m.0).1 (q.0, q.1, m.1), m.2),
)

pub places_end : {Taken : Type 0} (s : SchemaSet) (t : SequenceType) (places : List ℕ) (list : List Shape) (answer : Bool) → list ≡ []
    → IsTrue answer ↔ ((place : ℕ) × (has_bit places place ≡ true) × (is_end t (single place) ≡ true)) → ReadsOne s t places list ↔ Taken → IsTrue answer ↔ Taken
places_end s t places list answer none ends w = (
  λ h. let q = ends.0 h in w.0 (q.0, q.1, subst (λ xs. Reads s t (single q.0) xs) (sym none) (end_reads s t (single q.0) q.2)),
  λ h. let q = w.1 h in ends.1 (q.0, q.1, reads_end s t (single q.0) (subst (λ xs. Reads s t (single q.0) xs) none q.2)),
)

-- rows

-- a number with one bit more, above its others
with_bit : (bit members : ℕ) → members < 2 ^ bit → bit_at (2 ^ bit + members) bit ≡ 1
with_bit bit members within =
    let one : 2 ^ bit + members ≡ 1 * 2 ^ bit + members = omega arith in
    let none : bit - bit ≡ 0 = omega arith in
    ap (λ n. bit_at n bit) one ∙ bit_at_cat_high 1 bit members bit within (omega arith) ∙ ap (λ i. bit_at 1 i) none

other_bit : (bit members other : ℕ) → members < 2 ^ bit → other ≢ bit → bit_at (2 ^ bit + members) other ≡ bit_at members other
other_bit bit members other within apart =
    let one : 2 ^ bit + members ≡ 1 * 2 ^ bit + members = omega arith in
    ap (λ n. bit_at n other) one
    ∙ elim (cases_lt other bit) [
      | inl l ↦ bit_at_cat_low 1 bit members other l
      | inr l ↦ bit_at_cat_high 1 bit members other within l ∙ bit_at_above 1 1 (other - bit) (omega arith) (omega arith) ∙ sym (bit_at_above members bit other within l)
    ]

module _ {A : Type 0} where
  at_push : (rows : List (Vec ℕ A)) (row : Vec ℕ A) (i : ℕ) (other : Vec ℕ A) → slice_get (rows ++ row ∷ []) i ≡ Some other → (slice_get rows i ≡ Some other) ⊎ ((i ≡ length rows) × (row ≡ other))
  at_push [] row zero other h = inr (refl, cc)
  at_push [] row (suc i) other h = absurd (cc)
  at_push (r ∷ rows) row zero other h = inl h
  at_push (r ∷ rows) row (suc i) other h = elim (at_push rows row i other h) [ inl k ↦ inl k | inr e ↦ inr (omega (arith, e.0), e.1) ]

  -- one row more, that of its number
  row_more : (t : SequenceType) (count : ℕ) (rows after : List (Vec ℕ A)) (row : Vec ℕ A) → after ≡ rows ++ row ∷ []
      → ((place : ℕ) → (has_bit row.items place ≡ true) ↔ FollowsOne t (count / 16) (count % 16) place) → AreFollowing t count rows → AreFollowing t (count + 1) after
  row_more t count rows after row e is all =
      subst (λ rs. AreFollowing t (count + 1) rs) (sym e) (record {
        count_is = length-append rows (row ∷ []) ∙ omega (arith, all.count_is);
        are = λ index other at place. elim (at_push rows row index other at) [
          | inl h ↦ all.are index other h place
          | inr p ↦
              subst (λ (r : Vec ℕ A). (has_bit r.items place ≡ true) ↔ FollowsOne t (index / 16) (index % 16) place) p.1
              (subst (λ n. (has_bit row.items place ≡ true) ↔ FollowsOne t (n / 16) (n % 16) place) (sym (p.0 ∙ all.count_is)) (is place))
        ];
      })

  -- the row of a block and members, at its number
  row_at : (t : SequenceType) (count block members : ℕ) (rows after : List (Vec ℕ A)) (row : Vec ℕ A) → members < 16 → count ≡ block * 16 + members → after ≡ rows ++ row ∷ []
      → ((place : ℕ) → (has_bit row.items place ≡ true) ↔ FollowsOne t block members place) → AreFollowing t count rows → AreFollowing t (count + 1) after
  row_at t count block members rows after row low at e is =
      let b : block ≡ count / 16 = omega arith in
      let m : members ≡ count % 16 = omega arith in
      row_more t count rows after row e (subst (λ k. (place : ℕ) → (has_bit row.items place ≡ true) ↔ FollowsOne t (count / 16) k place) m
      (subst (λ k. (place : ℕ) → (has_bit row.items place ≡ true) ↔ FollowsOne t k members place) b is))

  -- the row of some places and one behind them
  pub further_row : (t : SequenceType) (block bit members : ℕ) (rows after : List (Vec ℕ A)) (old row : Vec ℕ A) (last : List ℕ) → bit < 4 → members < 2 ^ bit
      → slice_get rows (block * 16 + members) ≡ Some old → ((place : ℕ) → has_bit last place ≡ get_or (all_next t (single (block * 4 + bit))) place false)
      → ((place : ℕ) → has_bit row.items place ≡ has_bit old.items place || has_bit last place) → after ≡ rows ++ row ∷ [] → AreFollowing t (block * 16 + 2 ^ bit + members) rows
      → AreFollowing t (block * 16 + 2 ^ bit + members + 1) after
  further_row t block bit members rows after old row last low within at next joined e are =
      row_at t (block * 16 + 2 ^ bit + members) block (2 ^ bit + members) rows after row (omega (arith, room)) (omega arith) e (λ place. (forth place, back place)) are
    where
      room : 2 ^ bit ≤ 8
      room = let p : bit ≤ 3 = omega arith in pow_mono p

      before : (place : ℕ) → (has_bit old.items place ≡ true) ↔ FollowsOne t block members place
      before place =
          let b : (block * 16 + members) / 16 ≡ block = omega (arith, room) in
          let m : (block * 16 + members) % 16 ≡ members = omega (arith, room) in
          subst (λ k. (has_bit old.items place ≡ true) ↔ FollowsOne t block k place) m
          (subst (λ k. (has_bit old.items place ≡ true) ↔ FollowsOne t k ((block * 16 + members) % 16) place) b (are.are (block * 16 + members) old at place))

      forth : (place : ℕ) → has_bit row.items place ≡ true → FollowsOne t block (2 ^ bit + members) place
      forth place h =
          elim (or_cases (has_bit old.items place) (has_bit last place) (sym (joined place) ∙ h)) [
            | inl o ↦
                let q = (before place).0 o in
                let apart : q.0 ≢ bit = λ same. absurd (let f : bit_at members q.0 ≡ 0 = bit_at_above members bit q.0 within (omega arith) in omega (arith, q.2)) in
                (q.0, q.1, other_bit bit members q.0 within apart ∙ q.2, q.3)
            | inr l ↦ (bit, low, with_bit bit members within, sym (next place) ∙ l)
          ]

      back : (place : ℕ) → FollowsOne t block (2 ^ bit + members) place → has_bit row.items place ≡ true
      back place q =
          joined place
          ∙ elim (cases_eq q.0 bit) [
            | inl same ↦ or_right (has_bit old.items place) (has_bit last place) (next place ∙ ap (λ i. get_or (all_next t (single (block * 4 + i))) place false) (sym same) ∙ q.3)
            | inr apart ↦ or_left (has_bit old.items place) (has_bit last place) ((before place).1 (q.0, q.1, sym (other_bit bit members q.0 within apart) ∙ q.2, q.3))
          ]

  pub no_row : (t : SequenceType) (rows : List (Vec ℕ A)) → rows ≡ [] → AreFollowing t 0 rows
  no_row t rows e = subst (λ rs. AreFollowing t 0 rs) (sym e) (record { count_is = refl; are = λ origin row at. absurd (cc) })

-- ends

-- none of the places below a bound is an end
abbrev pub NoneEnds : SequenceType → List ℕ → ℕ → Type 0
NoneEnds t places bound = (place : ℕ) → place < bound → (has_bit places place && is_end t (single place)) ≡ false

pub no_end_more : (t : SequenceType) (places : List ℕ) (k : ℕ) → NoneEnds t places k → (has_bit places k && is_end t (single k)) ≡ false → NoneEnds t places (k + 1)
no_end_more t places k none here place h =
    elim (cases_lt place k) [
      | inl l ↦ none place l
      | inr l ↦ let last : place ≡ k = omega arith in ap (λ n. has_bit places n && is_end t (single n)) last ∙ here
    ]

pub no_end : (t : SequenceType) (places : List ℕ) (count k : ℕ) (answer : Bool) → count ≤ k → answer ≡ false → ((place : ℕ) → has_bit places place ≡ true → place < count) → NoneEnds t places k
    → IsTrue answer ↔ ((place : ℕ) × (has_bit places place ≡ true) × (is_end t (single place) ≡ true))
no_end t places count k answer past e within none = (
  λ h. absurd (cc),
  λ q.
      let below : q.0 < k = let l = within q.0 q.1 in omega arith in
      let f = none q.0 below in
      let g = and_from (has_bit places q.0) (is_end t (single q.0)) q.1 q.2 in absurd (cc),
)

pub an_end : (t : SequenceType) (places : List ℕ) (k : ℕ) (answer : Bool) → answer ≡ true → (has_bit places k && is_end t (single k)) ≡ true
    → IsTrue answer ↔ ((place : ℕ) × (has_bit places place ≡ true) × (is_end t (single place) ≡ true))
an_end t places k answer e here = let p = and_parts (has_bit places k) (is_end t (single k)) here in (λ h. (k, p.0, p.1), λ q. e)

-- blocks of four places

members_low : (set : List ℕ) (block : ℕ) → members_in set block < 16
members_low set block = omega arith

bit_of_part : (word k bit : ℕ) → bit < 4 → bit_at word (k + bit) ≡ bit_at (word / 2 ^ k % 16) bit
bit_of_part word k bit low =
    let parts : word / 2 ^ k ≡ word / 2 ^ k / 16 * 2 ^ 4 + word / 2 ^ k % 16 = omega arith in
    ap (λ n. n % 2) (sym (shr-shr word k bit)) ∙ ap (λ n. bit_at n bit) parts ∙ bit_at_cat_low (word / 2 ^ k / 16) 4 (word / 2 ^ k % 16) bit low

in_block : (set : List ℕ) (block bit : ℕ) → bit < 4 → has_bit set (block * 4 + bit) ≡ (bit_at (members_in set block) bit == 1)
in_block set block bit low =
    let word : (block * 4 + bit) / 64 ≡ block / 16 = omega arith in
    let at : (block * 4 + bit) % 64 ≡ block % 16 * 4 + bit = omega arith in
    ap (λ i. bit_at (get_or set i 0) ((block * 4 + bit) % 64) == 1) word ∙ ap (λ i. bit_at (get_or set (block / 16) 0) i == 1) at
    ∙ ap (λ b. b == 1) (bit_of_part (get_or set (block / 16) 0) (block % 16 * 4) bit low)

-- what some places come to

module _ {A : Type 0} where
  -- a place may come next behind a member of a set in a block below a bound
  abbrev FollowsBelow : List (Vec ℕ A) → (set : List ℕ) → (bound place : ℕ) → Type 0
  FollowsBelow rows set bound place = (block : ℕ) × (block < bound) × (follows_block rows set block place ≡ true)

  -- a set has the places that may come next behind the members of another one in so many blocks, as far as it has room
  pub record AreLedTo (rows : List (Vec ℕ A)) (set : List ℕ) (room : ℕ) (after : List ℕ) (count : ℕ) : Type 0 where
    pub room_is : length after ≡ room
    pub bits : (place : ℕ) → place / 64 < room → (has_bit after place ≡ true) ↔ FollowsBelow rows set count place

  pub led_more : (rows : List (Vec ℕ A)) (set after more : List ℕ) (room k : ℕ) → length more ≡ length after
      → ((place : ℕ) → place / 64 < length after → has_bit more place ≡ has_bit after place || follows_block rows set k place) → AreLedTo rows set room after k
      → AreLedTo rows set room more (k + 1)
  led_more rows set after more room k e adds are = record {
    room_is = e ∙ are.room_is;
    bits = λ place h.
        let step = adds place (omega (arith, are.room_is)) in (
          λ f. elim (or_cases (has_bit after place) (follows_block rows set k place) (sym step ∙ f)) [
            | inl o ↦ let q = (are.bits place h).0 o in (q.0, omega (arith, q.1), q.2)
            | inr l ↦ (k, omega arith, l)
          ],
          λ q. step ∙ elim (cases_lt q.0 k) [
            | inl l ↦ or_left (has_bit after place) (follows_block rows set k place) ((are.bits place h).1 (q.0, l, q.2))
            | inr l ↦
                let last : k ≡ q.0 = omega (arith, q.1) in
                or_right (has_bit after place) (follows_block rows set k place) (ap (λ n. follows_block rows set n place) last ∙ q.2)
          ],
        );
  }

  block_within : (rows : List (Vec ℕ A)) (set : List ℕ) (block place : ℕ) → follows_block rows set block place ≡ true → block * 16 < length rows
  block_within rows set block place h =
      elim (slice_get_cases rows (block * 16 + members_in set block)).1 [
        | inl q ↦ omega (arith, slice_get_within rows (block * 16 + members_in set block) q.0 q.2)
        | inr q ↦ let f = ap (λ (o : Option (Vec ℕ A)). has_place o place) q.1 in absurd (cc)
      ]

  -- all blocks were looked at, and the set is met with a mask
  pub all_led : (rows : List (Vec ℕ A)) (set mask after met : List ℕ) (k : ℕ) → length rows / 16 + 1 ≤ k → ((place : ℕ) → has_bit met place ≡ has_bit after place && has_bit mask place)
      → AreLedTo rows set (length mask) after k → (place : ℕ) → (has_bit met place ≡ true) ↔ (FollowsMember rows set place × (has_bit mask place ≡ true))
  all_led rows set mask after met k past bits are place = (
    λ h.
        let p = and_parts (has_bit after place) (has_bit mask place) (sym (bits place) ∙ h) in
        let q = (are.bits place (word_within mask place p.1)).0 p.0 in ((q.0, q.2), p.1),
    λ q.
        let o = q.0 in
        let l = block_within rows set o.0 place o.1 in
        bits place
        ∙ and_from (has_bit after place) (has_bit mask place)
        ((are.bits place (word_within mask place q.1)).1 (o.0, omega (arith, l), o.1)) q.1,
  )

  pub coming_of_mask : (t : SequenceType) (test : ItemType → Bool) (rows : List (Vec ℕ A)) (mask before after : List ℕ) → IsMask t test mask
      → ((place : ℕ) → (has_bit after place ≡ true) ↔ (FollowsMember rows before place × (has_bit mask place ≡ true))) → AreComing t rows test before after
  coming_of_mask t test rows mask before after is led place = (
    λ h. let p = (led place).0 h in (p.0, sym (is place) ∙ p.1),
    λ q. (led place).1 (q.0, is place ∙ q.1),
  )

  follows_next : (t : SequenceType) (rows : List (Vec ℕ A)) (set : List ℕ) (count block place : ℕ) → AreFollowing t count rows → follows_block rows set block place ≡ true
      → (origin : ℕ) × (has_bit set origin ≡ true) × (get_or (all_next t (single origin)) place false ≡ true)
  follows_next t rows set count block place are h =
      elim (slice_get_cases rows (block * 16 + members_in set block)).1 [
        | inl q ↦
            let b : block ≡ (block * 16 + members_in set block) / 16 = omega (arith, members_low set block) in
            let m : members_in set block ≡ (block * 16 + members_in set block) % 16 = omega (arith, members_low set block) in
            let f = (are.are (block * 16 + members_in set block) q.0 q.2 place).0 (sym (ap (λ o. has_place o place) q.2) ∙ h) in (
              block * 4 + f.0,
              in_block set block f.0 f.1 ∙ eq-eqb (bit_at (members_in set block) f.0) 1 (ap (λ n. bit_at n f.0) m ∙ f.2),
              ap (λ n. get_or (all_next t (single (n * 4 + f.0))) place false) b ∙ f.3,
            )
        | inr q ↦ let f = ap (λ (o : Option (Vec ℕ A)). has_place o place) q.1 in absurd (cc)
      ]

  next_follows : (t : SequenceType) (rows : List (Vec ℕ A)) (set : List ℕ) (count origin place : ℕ) → AreFollowing t count rows → origin / 4 * 16 + 16 ≤ count → has_bit set origin ≡ true
      → get_or (all_next t (single origin)) place false ≡ true → FollowsMember rows set place
  next_follows t rows set count origin place are within member h = (
    block,
    elim (slice_get_cases rows (block * 16 + members_in set block)).1 [
      | inl q ↦
          let b : block ≡ (block * 16 + members_in set block) / 16 = omega (arith, members_low set block) in
          let m : members_in set block ≡ (block * 16 + members_in set block) % 16 = omega (arith, members_low set block) in
          ap (λ o. has_place o place) q.2
          ∙ (are.are (block * 16 + members_in set block) q.0 q.2 place).1 (
            origin % 4,
            low,
            ap (λ n. bit_at n (origin % 4)) (sym m) ∙ eqb-true (bit_at (members_in set block) (origin % 4)) 1 (sym (in_block set block (origin % 4) low) ∙ ap (λ n. has_bit set n) at ∙ member),
            ap (λ n. get_or (all_next t (single (n * 4 + origin % 4))) place false) (sym b) ∙ ap (λ n. get_or (all_next t (single n)) place false) at ∙ h,
          )
      | inr q ↦ absurd (omega (arith, q.0, are.count_is, members_low set block))
    ],
  )
    where
      block : ℕ
      block = origin / 4

      low : origin % 4 < 4
      low = omega arith

      at : origin / 4 * 4 + origin % 4 ≡ origin
      at = omega arith

  pub behind_are : (t : SequenceType) (test : ItemType → Bool) (rows : List (Vec ℕ A)) (before after : List ℕ) → AreFollowing t (((positions_of t + 1) / 4 + 1) * 16) rows → AreOfType t before
      → AreComing t rows test before after → AreBehind t test before after
  behind_are t test rows before after are within coming place = (
    λ h.
        let p = (coming place).0 h in
        let o = follows_next t rows before (((positions_of t + 1) / 4 + 1) * 16) p.0.0 place are p.0.1 in (
          o.0,
          o.1,
          get_both (all_next t (single o.0)) (all_tests t test) place
              ∙ and_from (get_or (all_next t (single o.0)) place false) (get_or (all_tests t test) place false) o.2 p.1,
        ),
    λ q.
        let p = and_parts (get_or (all_next t (single q.0)) place false) (get_or (all_tests t test) place false) (sym (get_both (all_next t (single q.0)) (all_tests t test) place) ∙ q.2) in
        let l = within q.0 q.1 in
        (coming place).1 (next_follows t rows before (((positions_of t + 1) / 4 + 1) * 16) q.0 place are (omega arith) q.1 p.0, p.1),
  )

  pub behind_within : (t : SequenceType) (test : ItemType → Bool) (rows : List (Vec ℕ A)) (before after : List ℕ) → AreComing t rows test before after → AreOfType t after
  behind_within t test rows before after coming place h =
      let p = (coming place).0 h in
      let k = set_within (all_tests t test) place p.1 in
      omega (arith, k, length_tests t test)
