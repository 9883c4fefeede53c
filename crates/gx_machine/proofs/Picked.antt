-- One of several values is kept where it stands.
use Rattle.std.proofs.Common.{◌≡◌, ◌≤◌, ◌<◌, ◌+◌, ◌-◌, ℕ, zero, suc, List, [], ◌∷◌, ◌++◌, length, take, drop, reverse, map, refl, sym, ◌∙◌, ap, append_assoc, arith}
use Rattle.std.proofs.lemmas.List.{length-reverse, length-append, length-map, reverse-append, drop_all, drop-map, take-map, map-append}
use Rattle.gx_model.specs.Forest.{Forest}
use Rattle.gx_model.specs.Item.{Items}
use Rattle.gx_core.specs.Filtering.{item_numbered}
use Rattle.gx_store.specs.declared.item.Item.{Item}
use Rattle.gx_store.specs.Items.{item_in, items_in}

-- ---- an item of a list by its place

taken_at : {A : Type 0} (front : List A) (x : A) (behind : List A) → take 1 (drop (length front) (front ++ x ∷ behind)) ≡ x ∷ []
taken_at [] x behind = refl
taken_at (y ∷ front) x behind = taken_at front x behind

record SplitAt {A : Type 0} (n : ℕ) (xs : List A) : Type 0 where
  front : List A
  x : A
  behind : List A
  joined : xs ≡ front ++ x ∷ behind
  counted : length front ≡ n

split_there : {A : Type 0} (n : ℕ) (xs : List A) → n < length xs → SplitAt n xs
split_there n [] h = absurd (omega (arith, h))
split_there zero (y ∷ xs) h = record { front = []; x = y; behind = xs; joined = refl; counted = refl }
split_there (suc n) (y ∷ xs) h =
    let s = split_there n xs (omega (arith, h)) in
    record { front = y ∷ s.front; x = s.x; behind = s.behind; joined = ap (λ l. y ∷ l) s.joined; counted = ap suc s.counted }

taken_there : {A : Type 0} (n : ℕ) (xs : List A) (s : SplitAt n xs) → take 1 (drop n xs) ≡ s.x ∷ []
taken_there n xs s =
    ap (λ l. take 1 (drop n l)) s.joined ∙ ap (λ (m : ℕ). take 1 (drop m (s.front ++ s.x ∷ s.behind))) (sym s.counted) ∙ taken_at s.front s.x s.behind

turned : {A : Type 0} (front : List A) (x : A) (behind : List A) → reverse (front ++ x ∷ behind) ≡ reverse behind ++ x ∷ reverse front
turned front x behind =
    reverse-append front (x ∷ behind) ∙ ap (λ l. l ++ reverse front) (reverse-append (x ∷ []) behind) ∙ append_assoc (reverse behind) (x ∷ []) (reverse front)

-- from the end
pub numbered_from_end : (n : ℕ) (xs : Items) → 1 ≤ n → n ≤ length xs → item_numbered n (reverse xs) ≡ take 1 (drop (length xs - n) xs)
numbered_from_end zero xs h k = absurd (omega (arith, h))
numbered_from_end (suc m) xs h k =
    let s = split_there (length xs - suc m) xs (omega (arith, k)) in
    let all : length xs ≡ length s.front + suc (length s.behind) = ap (λ (l : Items). length l) s.joined ∙ length-append s.front (s.x ∷ s.behind) in
    let first = s.counted in
    let same = length-reverse s.behind in
    let count : m ≡ length (reverse s.behind) = omega (arith, all, first, same, k) in
    ap (λ (l : Items). take 1 (drop m l)) (ap (λ (l : Items). reverse l) s.joined ∙ turned s.front s.x s.behind)
    ∙ ap (λ (n : ℕ). take 1 (drop n (reverse s.behind ++ s.x ∷ reverse s.front))) count
    ∙ taken_at (reverse s.behind) s.x (reverse s.front)
    ∙ sym (taken_there (length xs - suc m) xs s)

pub numbered_beyond : (n : ℕ) (xs : Items) → length xs < n → item_numbered n xs ≡ []
numbered_beyond zero xs h = refl
numbered_beyond (suc m) xs h = ap (λ (l : Items). take 1 l) (drop_all m xs (omega (arith, h)))

-- ---- a value that is kept

last_taken : {A : Type 0} (index : ℕ) (old rest : List A) (item : A) → index < length old → take (suc index) old ≡ rest ++ item ∷ [] → item ∷ [] ≡ take 1 (drop index old)
last_taken index [] rest item h e = absurd (omega (arith, h))
last_taken zero (x ∷ old) [] item h e = sym e
last_taken zero (x ∷ old) (r ∷ []) item h e = absurd (cc)
last_taken zero (x ∷ old) (r ∷ q ∷ rest) item h e = absurd (cc)
last_taken (suc index) (x ∷ []) rest item h e = absurd (omega (arith, h))
last_taken (suc index) (x ∷ y ∷ old) [] item h e = absurd (cc)
last_taken (suc index) (x ∷ y ∷ old) (r ∷ rest) item h e =
    let t : take (suc index) (y ∷ old) ≡ rest ++ item ∷ [] = cc in last_taken index (y ∷ old) rest item (omega (arith, h)) t

nothing_behind : (A : Type 0) (n : ℕ) (none : List A) → none ≡ [] → length (drop n none) ≡ 0
nothing_behind A zero [] e = refl
nothing_behind A (suc n) [] e = refl
nothing_behind A n (x ∷ none) e = absurd (cc)

kept : (A : Type 0) (first index count : ℕ) (old rest : List A) (item : A) → count ≡ first + index → index < length (drop first old) → take (suc count) old ≡ rest ++ item ∷ []
    → take first rest ++ item ∷ [] ≡ take first old ++ take 1 (drop index (drop first old))
kept A zero index count old rest item n h e = let same : index ≡ count = omega (arith, n) in last_taken index old rest item h (ap (λ (m : ℕ). take (suc m) old) same ∙ e)
kept A (suc first) index zero old rest item n h e = absurd (omega (arith, n))
kept A (suc first) index (suc count) [] rest item n h e = absurd (omega (arith, h))
kept A (suc first) index (suc count) (x ∷ []) rest item n h e = let none = nothing_behind A first [] refl in absurd (omega (arith, h, none))
kept A (suc first) index (suc count) (x ∷ y ∷ old) [] item n h e = absurd (cc)
kept A (suc first) index (suc count) (x ∷ y ∷ old) (r ∷ rest) item n h e =
    let t : take (suc count) (y ∷ old) ≡ rest ++ item ∷ [] = cc in
    let same : r ≡ x = cc in
    ap (λ z. z ∷ (take first rest ++ item ∷ [])) same ∙ ap (λ l. x ∷ l) (kept A first index count (y ∷ old) rest item (omega (arith, n)) h t)

pub one_is_kept : (A B : Type 0) (f : A → B) (first index : ℕ) (old rest : List A) (item : A) → index < length (drop first old) → take (first + index + 1) old ≡ rest ++ item ∷ []
    → map f (take first rest ++ item ∷ []) ≡ take first (map f old) ++ take 1 (drop index (drop first (map f old)))
one_is_kept A B f first index old rest item h e =
    let next : suc (first + index) ≡ first + index + 1 = omega arith in
    ap (map f) (kept A first index (first + index) old rest item refl h (ap (λ (n : ℕ). take n old) next ∙ e))
    ∙ map-append f (take first old) (take 1 (drop index (drop first old)))
    ∙ ap (λ l. l ++ map f (take 1 (drop index (drop first old)))) (sym (take-map f first old))
    ∙ ap (λ l. take first (map f old) ++ l)
    (sym (take-map f 1 (drop index (drop first old))) ∙ ap (λ l. take 1 l) (sym (drop-map f index (drop first old)) ∙ ap (λ l. drop index l) (sym (drop-map f first old))))

-- ---- how many values are counted

pub counted_in : (later : Forest) (first : ℕ) (values rest : List Item) → items_in later rest ≡ drop first (items_in later values) → length (drop first (items_in later values)) ≡ length rest
counted_in later first values rest e = sym (ap (λ (xs : Items). length xs) e) ∙ length-map rest (item_in later)

pub counted_there : (later : Forest) (first : ℕ) (values rest : List Item) → items_in later rest ≡ drop first (items_in later values) → length rest ≡ length (drop first values)
counted_there later first values rest e =
    sym (counted_in later first values rest e) ∙ ap (λ (xs : Items). length xs) (drop-map (item_in later) first values) ∙ length-map (drop first values) (item_in later)
