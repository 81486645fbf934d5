-- A key wrapped in its destination, and a wrapped key unwrapped in a room: out of the parts that the code makes.
-- Assumes nothing.
use mathlib.Core.Path.{◌≡◌, sym, ap, ap₂, ◌∙◌}
use mathlib.Core.Bool.{Bool}
use mathlib.Core.List.{List, ◌++◌, append-nil}
use Prim.Native.Nat.{ℕ, ◌+◌, ◌-◌, ◌%◌, ◌≤◌}
use native.Mathlib.Omega.{arith}
use lib.ListN.{length, take, drop, length-append, length-drop, take-append-drop, drop_of_length-le}
use lib.Seq.{take_at, drop_at, take_all, length-take-le}
use Rattle.forms.specs.Refusals.{outcome}
use Rattle.forms.specs.Strings.{same}
use Rattle.modes.specs.KeyWrap.{W, W⁻¹, ICV1, wrapped, unwrapped, authentic}
use Rattle.strings.proofs.Laying.{laid_whole, copy_front}
use Rattle.modes.proofs.KeyWrap.{length_ICV1}
use Rattle.key_wrap_steps.specs.Steps.{steps_refusal}
use Rattle.key_wrap_steps.proofs.Refusals.{steps_made}

-- from byte 8 to the end
back_part : (d : List ℕ) → take (length d - 8) (drop 8 d) ≡ drop 8 d
back_part d = take_all (length d - 8) (drop 8 d) (omega (arith, length-drop 8 d))

-- that part comes back as y
module _ (d y : List ℕ) (h : 8 ≤ length d) (l : length y ≡ length (take (length d - 8) (drop 8 d))) where
  length_back : length y ≡ length d - 8
  length_back = l ∙ ap length (back_part d) ∙ length-drop 8 d

  after_back : take 8 d ++ (y ++ drop (length d - 8) (drop 8 d)) ≡ take 8 d ++ y
  after_back = ap (λ (x : List ℕ). take 8 d ++ x) (ap (λ (x : List ℕ). y ++ x) (drop_of_length-le (drop 8 d) {i = length d - 8} (omega (arith, length-drop 8 d))) ∙ append-nil y)

  length_after : length (take 8 d ++ (y ++ drop (length d - 8) (drop 8 d))) ≡ length d
  length_after = ap length after_back ∙ length-append (take 8 d) y ∙ omega (arith, length-take-le 8 d h, length_back)

  drop_after : drop 8 (take 8 d ++ (y ++ drop (length d - 8) (drop 8 d))) ≡ y
  drop_after = ap (drop 8) after_back ∙ drop_at (take 8 d) y 8 (length-take-le 8 d h)

-- the key laid behind the check value's place, the steps, and A laid before
pub wrap_made : (e : List ℕ → List ℕ) (p d d₁ d₂ a r : List ℕ) {i y d₃ : List ℕ} {k : ℕ} → length p % 8 ≡ 0 → length p ≤ 128 → length d ≡ length p + 8 → i ≡ ICV1
    → length y ≡ length (take (length d - 8) (drop 8 d))
    → y ≡ take (length (take (length d - 8) (drop 8 d))) p ++ drop (length p) (take (length d - 8) (drop 8 d))
    → d₁ ≡ take 8 d ++ (y ++ drop (length d - 8) (drop 8 d))
    → length a ≡ length i → length r ≡ length (take (length d₁ - 8) (drop 8 d₁)) → k ≡ steps_refusal (length i) (length (take (length d₁ - 8) (drop 8 d₁)))
    → a ++ r ≡ outcome k (W e (i ++ take (length d₁ - 8) (drop 8 d₁))) (i ++ take (length d₁ - 8) (drop 8 d₁))
    → d₂ ≡ take 8 d₁ ++ (r ++ drop (length d₁ - 8) (drop 8 d₁))
    → d₃ ≡ take (length d₂) a ++ drop (length a) d₂ → d₃ ≡ wrapped e p
unfolding wrapped
wrap_made e p d d₁ d₂ a r {i} {y} {d₃} w top n ei ly ey e₁ li lr ek em e₂ e₃ =
    let eight : length i ≡ 8 = ap length ei ∙ length_ICV1 in
    let la : length a ≡ 8 = li ∙ eight in
    let h : 8 ≤ length d = omega arith in
    let part : length p ≡ length (take (length d - 8) (drop 8 d)) = sym (ap length (back_part d) ∙ length-drop 8 d ∙ omega arith) in
    let key : y ≡ p = ey ∙ laid_whole p (take (length d - 8) (drop 8 d)) part in
    let n₁ : length d₁ ≡ length d = ap length e₁ ∙ length_after d y h ly in
    let h₁ : 8 ≤ length d₁ = omega arith in
    let rest : take (length d₁ - 8) (drop 8 d₁) ≡ p = back_part d₁ ∙ ap (drop 8) e₁ ∙ drop_after d y h ly ∙ key in
    let ew : a ++ r ≡ W e (i ++ take (length d₁ - 8) (drop 8 d₁)) = steps_made _ _ _ _ eight (ap (λ (x : List ℕ). length x % 8) rest ∙ w) (omega (arith, ap length rest)) ek em in
    let n₂ : length d₂ ≡ length d₁ = ap length e₂ ∙ length_after d₁ r h₁ lr in
    let back : drop (length a) d₂ ≡ r = ap₂ (λ (k : ℕ) (x : List ℕ). drop k x) la e₂ ∙ drop_after d₁ r h₁ lr in
    e₃ ∙ ap₂ ◌++◌ (take_all (length d₂) a (omega arith)) back ∙ ew ∙ ap₂ (λ (x z : List ℕ). W e (x ++ z)) ei rest

-- A and a room that begins with the rest: they hold a source c, for a destination d
pub record Ready (c d a r : List ℕ) : Type 0 where
  pub first : a ≡ take 8 c
  pub eight : length a ≡ 8
  pub behind : take (length d) r ≡ drop 8 c
  pub size : length (take (length d) r) ≡ length d

pub ready : (c d z r₀ : List ℕ) {a r : List ℕ} → length c ≡ length d + 8 → length c ≤ 136 → length z ≡ 8 → a ≡ take (length z) c ++ drop (length c) z → 128 ≡ length r₀
    → r ≡ take (length r₀) (take (length c - 8) (drop 8 c)) ++ drop (length (take (length c - 8) (drop 8 c))) r₀ → Ready c d a r
ready c d z r₀ {a} {r} n top lz ea l₀ er =
    let size : length (drop 8 c) ≡ length d = length-drop 8 c ∙ omega arith in
    let first : a ≡ take 8 c =
    ea ∙ ap₂ (λ (k : ℕ) (x : List ℕ). take k c ++ x) lz (drop_of_length-le z {i = length c} (omega arith)) ∙ append-nil (take 8 c) in
    let behind : take (length d) r ≡ drop 8 c =
    ap (λ (k : ℕ). take k r) (sym size)
    ∙ copy_front r₀ (drop 8 c) (er ∙ ap (λ (x : List ℕ). take (length r₀) x ++ drop (length x) r₀) (back_part c)) (omega arith) in
    record { first = first; eight = ap length first ∙ length-take-le 8 c (omega arith); behind = behind; size = ap length behind ∙ size }

-- what the steps make of both
module _ (u : List ℕ → List ℕ) (c d a₁ r₁ : List ℕ) (k : Ready c d a₁ r₁) (a r : List ℕ) (la : length a ≡ length a₁) (lr : length r ≡ length (take (length d) r₁))
    (ew : a ++ r ≡ W⁻¹ u (a₁ ++ take (length d) r₁)) where
  made : a ++ r ≡ W⁻¹ u c
  made = ew ∙ ap (W⁻¹ u) (ap₂ ◌++◌ k.first k.behind ∙ take-append-drop 8 c)

  pub checked : {yes : Bool} {i : List ℕ} → i ≡ ICV1 → yes ≡ same a i → yes ≡ authentic u c
  unfolding authentic
  checked ei p = p ∙ ap₂ same (sym (take_at a r 8 (la ∙ k.eight)) ∙ ap (take 8) made) ei

  pub front_part : take (length d) (r ++ drop (length d) r₁) ≡ r
  front_part = take_at r (drop (length d) r₁) (length d) (lr ∙ k.size)

  pub unwrap_made : {d' : List ℕ} → d' ≡ take (length d) (take (length d) (r ++ drop (length d) r₁)) ++ drop (length (take (length d) (r ++ drop (length d) r₁))) d
      → d' ≡ unwrapped u c
  unfolding unwrapped
  unwrap_made p =
      p ∙ ap (λ (x : List ℕ). take (length d) x ++ drop (length x) d) front_part ∙ laid_whole r d (lr ∙ k.size)
      ∙ sym (drop_at a r 8 (la ∙ k.eight)) ∙ ap (drop 8) made
