use Rattle.std.proofs.Common.{◌≡◌, ◌≢◌, ℕ, ◌≤◌, Bool, true, false, cond, List, [], ◌∷◌, ◌⊎◌, inl, inr, length, min, refl, sym, subst, Ok, Err, IfOk, arith}
use Rattle.gx_grammar.specs.Reading.{State, Unfit, Faulty, TooDeep, Reading, go_on}
use Rattle.gx_grammar.specs.Laws.{Within, Meets, Agrees, Stops}

-- a list is empty or not
pub is_empty : (y : List ℕ) → (y ≡ []) ⊎ (y ≢ [])
is_empty [] = inl refl
is_empty (c ∷ y) = inr (λ e. absurd (cc))

pub by_test : {X : Type 0} (b : Bool) (x y : X) (P : X → Type 0) → (b ≡ true → P x) → (b ≡ false → P y) → P (cond b x y)
by_test true x y P f g = f refl
by_test false x y P f g = g refl

pub min_is : (a b : ℕ) → (min a b ≡ a) ⊎ (min a b ≡ b)
min_is a b = grind arith

module _ {X Y : Type 0} where
  pub within_go_on : (r : Reading X) (f : X → State → Reading Y) (n : ℕ) → Within r n → ((v : X) (t : State) → t.far ≤ n → Within (f v t) n) → Within (go_on r f) n
  within_go_on (Ok o) f n h next = next o.0 o.1 h
  within_go_on (Err (Unfit far)) f n h next = h
  within_go_on (Err (Faulty code left)) f n h next = tt
  within_go_on (Err TooDeep) f n h next = tt

  pub sound_go_on : (r : Reading X) (f : X → State → Reading Y) (P : X → State → Type 0) (Q : Y × State → Type 0) → IfOk r (λ o. P o.0 o.1) → ((v : X) (t : State) → P v t → IfOk (f v t) Q) → IfOk (go_on r f) Q
  sound_go_on (Ok o) f P Q h next = next o.0 o.1 h
  sound_go_on (Err e) f P Q h next = tt

  pub agrees_go_on : (r : Reading X) (f : X → State → Reading Y) (v : X) (m : List ℕ) (u : Y) (y : List ℕ) → Agrees r v m → ((t : State) → t.rest ≡ m → Agrees (f v t) u y) → Agrees (go_on r f) u y
  agrees_go_on (Ok o) f v m u y h next = subst (λ w. Agrees (f w o.1) u y) (sym h.0) (next o.1 h.1)
  agrees_go_on (Err (Unfit far)) f v m u y h next = h
  agrees_go_on (Err (Faulty code left)) f v m u y h next = h
  agrees_go_on (Err TooDeep) f v m u y h next = tt

  pub within_meets : (r : Reading X) (f : X → State → Reading Y) (m : List ℕ) (n : ℕ) → Meets r m n → IfOk r (λ o. o.1.far ≤ length o.1.rest)
      → ((v : X) (t : State) → t.rest ≡ m → t.far ≤ length t.rest → Within (f v t) n)
      → ((v : X) (t : State) → t.far ≤ n → Within (f v t) n) → Within (go_on r f) n
  within_meets (Ok o) f m n (inl e) h next past = next o.0 o.1 e h
  within_meets (Ok o) f m n (inr e) h next past = past o.0 o.1 e
  within_meets (Err (Unfit far)) f m n e h next past = e
  within_meets (Err (Faulty code left)) f m n e h next past = tt
  within_meets (Err TooDeep) f m n e h next past = tt

  pub meets_meets : (r : Reading X) (f : X → State → Reading Y) (m y : List ℕ) (n : ℕ) → Meets r m n → IfOk r (λ o. o.1.far ≤ length o.1.rest)
      → ((v : X) (t : State) → t.rest ≡ m → t.far ≤ length t.rest → Meets (f v t) y n)
      → ((v : X) (t : State) → t.far ≤ n → Meets (f v t) y n) → Meets (go_on r f) y n
  meets_meets (Ok o) f m y n (inl e) h next past = next o.0 o.1 e h
  meets_meets (Ok o) f m y n (inr e) h next past = past o.0 o.1 e
  meets_meets (Err (Unfit far)) f m y n e h next past = e
  meets_meets (Err (Faulty code left)) f m y n e h next past = tt
  meets_meets (Err TooDeep) f m y n e h next past = tt

pub meets_within : {X : Type 0} (r : Reading X) (y : List ℕ) (n : ℕ) → Within r n → Meets r y n
meets_within (Ok o) y n h = inr h
meets_within (Err (Unfit far)) y n h = h
meets_within (Err (Faulty code left)) y n h = tt
meets_within (Err TooDeep) y n h = tt

-- a last step that keeps the state
pub meets_map : {X Y : Type 0} (r : Reading X) (f : X → Y) (y : List ℕ) (n : ℕ) → Meets r y n → Meets (go_on r (λ v t. Ok (f v, t))) y n
meets_map (Ok o) f y n h = h
meets_map (Err (Unfit far)) f y n h = h
meets_map (Err (Faulty code left)) f y n h = tt
meets_map (Err TooDeep) f y n h = tt

module _ {X Y : Type 0} where
  pub within_agrees : (r : Reading X) (f : X → State → Reading Y) (v : X) (m : List ℕ) (n : ℕ) → Agrees r v m → IfOk r (λ o. o.1.far ≤ length o.1.rest)
      → ((t : State) → t.rest ≡ m → t.far ≤ length t.rest → Within (f v t) n) → Within (go_on r f) n
  within_agrees (Ok o) f v m n h a next = subst (λ w. Within (f w o.1) n) (sym h.0) (next o.1 h.1 a)
  within_agrees (Err (Unfit far)) f v m n h a next = absurd h
  within_agrees (Err (Faulty code left)) f v m n h a next = absurd h
  within_agrees (Err TooDeep) f v m n h a next = tt

  pub meets_agrees : (r : Reading X) (f : X → State → Reading Y) (v : X) (m y : List ℕ) (n : ℕ) → Agrees r v m → IfOk r (λ o. o.1.far ≤ length o.1.rest)
      → ((t : State) → t.rest ≡ m → t.far ≤ length t.rest → Meets (f v t) y n) → Meets (go_on r f) y n
  meets_agrees (Ok o) f v m y n h a next = subst (λ w. Meets (f w o.1) y n) (sym h.0) (next o.1 h.1 a)
  meets_agrees (Err (Unfit far)) f v m y n h a next = absurd h
  meets_agrees (Err (Faulty code left)) f v m y n h a next = absurd h
  meets_agrees (Err TooDeep) f v m y n h a next = tt

  pub stops_agrees : (r : Reading X) (f : X → State → Reading Y) (v : X) (m : List ℕ) (code left : ℕ) → Agrees r v m → ((t : State) → t.rest ≡ m → Stops (f v t) code left) → Stops (go_on r f) code left
  stops_agrees (Ok o) f v m code left h next = subst (λ w. Stops (f w o.1) code left) (sym h.0) (next o.1 h.1)
  stops_agrees (Err (Unfit far)) f v m code left h next = h
  stops_agrees (Err (Faulty here there)) f v m code left h next = absurd h
  stops_agrees (Err TooDeep) f v m code left h next = tt

  -- no step follows a fault
  pub stops_go_on : (r : Reading X) (f : X → State → Reading Y) (code left : ℕ) → Stops r code left → Stops (go_on r f) code left
  stops_go_on (Ok o) f code left h = absurd h
  stops_go_on (Err (Unfit far)) f code left h = h
  stops_go_on (Err (Faulty here there)) f code left h = h
  stops_go_on (Err TooDeep) f code left h = tt
