-- A search among finitely many states settles within as many steps as there are states.
use Rattle.std.proofs.Common.{◌≡◌, ℕ, zero, suc, ◌+◌, ◌-◌, ◌<◌, ◌≤◌, Bool, true, false, ◌||◌, List, [], ◌∷◌, ◌⊎◌, inl, inr, refl, ◌∙◌, ap, subst, length, arith, if◌then◌else◌}
use Rattle.std.specs.List.{list_any}
use Rattle.std.proofs.lemmas.Bool.{or_cases}
use Rattle.gx_include.specs.Decision.{leads_to_bad}
use Rattle.gx_include_positions.proofs.Lists.{In}
use Rattle.gx_include_positions.proofs.MarksTake.{or_left, or_right}

any_same : {S : Type 0} (f g : S → Bool) (xs : List S) → ((x : S) → In x xs → f x ≡ g x) → list_any f xs ≡ list_any g xs
any_same f g [] h = refl
any_same f g (x ∷ xs) h = ap (λ b. b || list_any f xs) (h x (inl refl)) ∙ ap (λ b. g x || b) (any_same f g xs (λ y k. h y (inr k)))

any_more : {S : Type 0} (f g : S → Bool) (xs : List S) → ((x : S) → f x ≡ true → g x ≡ true) → list_any f xs ≡ true → list_any g xs ≡ true
any_more f g [] h k = k
any_more f g (x ∷ xs) h k =
    elim (or_cases (f x) (list_any f xs) k) [ inl l ↦ or_left (g x) (list_any g xs) (h x l) | inr l ↦ or_right (g x) (list_any g xs) (any_more f g xs h l) ]

pub any_has : {S : Type 0} (f : S → Bool) (x : S) (xs : List S) → In x xs → f x ≡ true → list_any f xs ≡ true
any_has f x [] h k = absurd h
any_has f x (y ∷ ys) (inl e) k = or_left (f y) (list_any f ys) (ap f e ∙ k)
any_has f x (y ∷ ys) (inr h) k = or_right (f y) (list_any f ys) (any_has f x ys h k)

pub any_of : {S : Type 0} (f : S → Bool) (xs : List S) → list_any f xs ≡ true → (x : S) × In x xs × (f x ≡ true)
any_of f [] h = absurd (cc)
any_of f (x ∷ xs) h =
    elim (or_cases (f x) (list_any f xs) h) [ inl k ↦ (x, inl refl, k) | inr k ↦ let q = any_of f xs k in (q.0, inr q.1, q.2) ]

-- ---- how many members pass a test

one_if : Bool → ℕ
one_if b = if b then 1 else 0

how_many : {S : Type 0} → (S → Bool) → List S → ℕ
how_many f [] = 0
how_many f (x ∷ xs) = one_if (f x) + how_many f xs

one_at_most : (b : Bool) → one_if b ≤ 1
unfolding one_if
one_at_most true = omega arith
one_at_most false = omega arith

at_most_all : {S : Type 0} (f : S → Bool) (xs : List S) → how_many f xs ≤ length xs
unfolding how_many
at_most_all f [] = omega arith
at_most_all f (x ∷ xs) = omega (arith, one_at_most (f x), at_most_all f xs)

same_many : {S : Type 0} (f g : S → Bool) (xs : List S) → ((x : S) → In x xs → f x ≡ g x) → how_many f xs ≡ how_many g xs
unfolding how_many
same_many f g [] h = refl
same_many f g (x ∷ xs) h = ap (λ b. one_if b + how_many f xs) (h x (inl refl)) ∙ ap (λ n. one_if (g x) + n) (same_many f g xs (λ y k. h y (inr k)))

one_or_same : (b c : Bool) → (b ≡ true → c ≡ true) → (one_if b < one_if c) ⊎ ((one_if b ≡ one_if c) × (b ≡ c))
unfolding one_if
one_or_same true true h = inr (refl, refl)
one_or_same true false h = absurd (let e : false ≡ true = h refl in cc)
one_or_same false true h = inl (omega arith)
one_or_same false false h = inr (refl, refl)

-- a test that passes no less passes more, or the same members
rises : {S : Type 0} (f g : S → Bool) (xs : List S) → ((x : S) → f x ≡ true → g x ≡ true) → (how_many f xs < how_many g xs) ⊎ ((x : S) → In x xs → f x ≡ g x)
unfolding how_many
rises f g [] h = inr (λ x k. absurd k)
rises f g (x ∷ xs) h =
    elim (rises f g xs h) [
      | inl l ↦ elim (one_or_same (f x) (g x) (h x)) [ inl m ↦ inl (omega (arith, l, m)) | inr m ↦ inl (omega (arith, l, m.0)) ]
      | inr same ↦ elim (one_or_same (f x) (g x) (h x)) [
        | inl m ↦ inl (omega (arith, m, same_many f g xs same))
        | inr m ↦ inr (λ y k. elim k [ inl e ↦ subst (λ z. f z ≡ g z) e m.1 | inr l ↦ same y l ])
      ]
    ]

-- ---- the search

more_by : ℕ → ℕ → ℕ
more_by zero n = n
more_by (suc j) n = suc (more_by j n)

more_by_is : (j n : ℕ) → more_by j n ≡ j + n
unfolding more_by
more_by_is zero n = omega arith
more_by_is (suc j) n = omega (arith, more_by_is j n)

module _ {S : Type 0} (bad : S → Bool) (next : S → List S) where
  abbrev within : ℕ → S → Bool
  within = leads_to_bad bad next

  more : (n : ℕ) (s : S) → within n s ≡ true → within (suc n) s ≡ true
  more zero s h = or_left (bad s) (list_any (within zero) (next s)) h
  more (suc n) s h =
      elim (or_cases (bad s) (list_any (within n) (next s)) h) [
        | inl k ↦ or_left (bad s) (list_any (within (suc n)) (next s)) k
        | inr k ↦ or_right (bad s) (list_any (within (suc n)) (next s)) (any_more (within n) (within (suc n)) (next s) (more n) k)
      ]

  up : (j n : ℕ) (s : S) → within n s ≡ true → within (more_by j n) s ≡ true
  unfolding more_by
  up zero n s h = h
  up (suc j) n s h = more (more_by j n) s (up j n s h)

  module _ (all : List S) (closed : (s t : S) → In s all → In t (next s) → In t all) where
    abbrev Settled : ℕ → Type 0
    Settled n = (s : S) → In s all → within n s ≡ within (suc n) s

    settled_next : (n : ℕ) → Settled n → Settled (suc n)
    settled_next n h s k = ap (λ b. bad s || b) (any_same (within n) (within (suc n)) (next s) (λ t m. h t (closed s t k m)))

    settled_later : (j n : ℕ) → Settled n → Settled (more_by j n)
    unfolding more_by
    settled_later zero n h = h
    settled_later (suc j) n h = settled_next (more_by j n) (settled_later j n h)

    same_later : (j n : ℕ) → Settled n → (s : S) → In s all → within n s ≡ within (more_by j n) s
    unfolding more_by
    same_later zero n h s k = refl
    same_later (suc j) n h s k = same_later j n h s k ∙ settled_later j n h s k

    settled_or_many : (n : ℕ) → ((m : ℕ) × (m ≤ n) × Settled m) ⊎ (n ≤ how_many (within n) all)
    settled_or_many zero = inr (omega arith)
    settled_or_many (suc n) =
        elim (settled_or_many n) [
          | inl q ↦ inl (q.0, omega (arith, q.1), q.2)
          | inr many ↦ elim (rises (within n) (within (suc n)) all (more n)) [
            | inl l ↦ inr (omega (arith, many, l))
            | inr same ↦ inl (n, omega arith, same)
          ]
        ]

    settles : (m : ℕ) × (m ≤ suc (length all)) × Settled m
    settles =
        elim (settled_or_many (suc (length all))) [
          | inl q ↦ q
          | inr many ↦ absurd (omega (arith, many, at_most_all (within (suc (length all))) all))
        ]

    -- what is found at all is found within so many steps
    pub found_in_time : (n : ℕ) (s : S) → In s all → within n s ≡ true → within (suc (length all)) s ≡ true
    found_in_time n s k h =
        let q = settles in
        let swap : more_by q.0 n ≡ more_by n q.0 = omega (arith, more_by_is q.0 n, more_by_is n q.0) in
        let late : within (more_by n q.0) s ≡ true = subst (λ i. within i s ≡ true) swap (up q.0 n s h) in
        let early : within q.0 s ≡ true = same_later n q.0 q.2 s k ∙ late in
        let last : more_by (suc (length all) - q.0) q.0 ≡ suc (length all) = omega (arith, more_by_is (suc (length all) - q.0) q.0, q.1) in
        subst (λ i. within i s ≡ true) last (up (suc (length all) - q.0) q.0 s early)
