-- Laws of key wrapping over any block map with its inverse: what it keeps, that the steps undo each other both ways, that a wrapped key
-- unwraps to the key, and that what unwrapping accepts is just what wrapping produces.
-- Assumes nothing.
use mathlib.Core.Path.{◌≡◌, refl, sym, ap, ap₂, ◌∙◌, fun_ext}
use mathlib.Core.Bool.{true}
use mathlib.Core.Logic.{◌↔◌}
use mathlib.Core.List.{List, [], ◌∷◌, ◌++◌, append_assoc}
use Prim.Native.Nat.{ℕ, zero, suc, ◌+◌, ◌-◌, ◌≤◌}
use native.Mathlib.Omega.{arith}
use lib.ListN.{length, take, drop, length-append, length-drop, take-append-drop}
use lib.Seq.{take_at, drop_at, take-take, length-take-le}
use Rattle.forms.specs.Lists.{tabulate}
use Rattle.forms.specs.Words.{byte}
use Rattle.forms.proofs.Bytes.{Bytes, take_bytes, drop_bytes, append_bytes}
use Rattle.forms.specs.Strings.{xor_bytes, string, same}
use Rattle.modes.specs.KeyWrap.{MSB64, steps, wrap_step, wrap_steps, W, unwrap_step, unwrap_steps, W⁻¹, ICV1, wrapped, authentic, unwrapped}
use Rattle.forms.proofs.Strings.{length_xor_bytes, bytes_xor_bytes, xor_bytes_undo, length_string, bytes_string, same_refl, same_eq}
use Rattle.modes.proofs.Maps.{Keeps, Undone}

-- ---- block maps that agree

module _ (e f : List ℕ → List ℕ) (h : (b : List ℕ) → e b ≡ f b) where
  pub wrapped_cong : (p : List ℕ) → wrapped e p ≡ wrapped f p
  wrapped_cong p = ap (λ (g : List ℕ → List ℕ). wrapped g p) (fun_ext h)

  pub authentic_cong : (c : List ℕ) → authentic e c ≡ authentic f c
  authentic_cong c = ap (λ (g : List ℕ → List ℕ). authentic g c) (fun_ext h)

  pub unwrapped_cong : (c : List ℕ) → unwrapped e c ≡ unwrapped f c
  unwrapped_cong c = ap (λ (g : List ℕ → List ℕ). unwrapped g c) (fun_ext h)

-- ---- a step on a string in its parts

-- the XOR of a semiblock with the step's number
counted_length : (a : List ℕ) (t : ℕ) → length a ≡ 8 → length (xor_bytes a (string 8 t)) ≡ 8
counted_length a t l = length_xor_bytes a (string 8 t) (omega (arith, length_string 8 t)) ∙ l

counted_again : (a : List ℕ) (t : ℕ) → length a ≡ 8 → xor_bytes (xor_bytes a (string 8 t)) (string 8 t) ≡ a
counted_again a t l = xor_bytes_undo a (string 8 t) (omega (arith, length_string 8 t))

-- a block b = A || R_2, and the rest m
pub wrap_step_parts : (e : List ℕ → List ℕ) (t : ℕ) (b m : List ℕ) → length b ≡ 16 → wrap_step e t (b ++ m) ≡ xor_bytes (take 8 (e b)) (string 8 t) ++ (m ++ drop 8 (e b))
unfolding wrap_step
wrap_step_parts e t b m l = ap₂ (λ (x y : List ℕ). xor_bytes (take 8 (e x)) (string 8 t) ++ (y ++ drop 8 (e x))) (take_at b m 16 l) (drop_at b m 16 l)

-- A, the middle m and R_n
pub unwrap_step_parts : (u : List ℕ → List ℕ) (t : ℕ) (a m r : List ℕ) → length a ≡ 8 → length r ≡ 8 → unwrap_step u t (a ++ (m ++ r)) ≡ u (xor_bytes a (string 8 t) ++ r) ++ m
unfolding unwrap_step
unwrap_step_parts u t a m r la lr =
    let x : List ℕ = a ++ (m ++ r) in
    let i : ℕ = length x - 8 in
    let li : length (a ++ m) ≡ i = length-append a m ∙ omega (arith, length-append a (m ++ r), length-append m r) in
    let q : List ℕ = u (xor_bytes a (string 8 t) ++ r) in
    let front : take i x ≡ a ++ m = ap (take i) (sym (append_assoc a m r)) ∙ take_at (a ++ m) r i li in
    let back : drop i x ≡ r = ap (drop i) (sym (append_assoc a m r)) ∙ drop_at (a ++ m) r i li in
    ap₂ (λ (y z : List ℕ). let b = u (xor_bytes (take 8 x) (string 8 t) ++ y) in take 8 b ++ (drop 8 b ++ drop 8 z)) back front
    ∙ ap₂ (λ (y z : List ℕ). let b = u (xor_bytes y (string 8 t) ++ r) in take 8 b ++ (drop 8 b ++ z)) (take_at a (m ++ r) 8 la) (drop_at a m 8 la)
    ∙ sym (append_assoc (take 8 q) (drop 8 q) m)
    ∙ ap (λ (y : List ℕ). y ++ m) (take-append-drop 8 q)

-- a string of two semiblocks or more as A, the middle and R_n
pub split_ends : (x : List ℕ) → 16 ≤ length x → x ≡ take 8 x ++ (drop 8 (take (length x - 8) x) ++ drop (length x - 8) x)
split_ends x h =
    let i : ℕ = length x - 8 in
    sym (take-append-drop i x)
    ∙ ap (λ (y : List ℕ). y ++ drop i x) (sym (take-append-drop 8 (take i x)))
    ∙ append_assoc (take 8 (take i x)) (drop 8 (take i x)) (drop i x)
    ∙ ap (λ (y : List ℕ). y ++ (drop 8 (take i x) ++ drop i x)) (take-take 8 i x (omega arith))

length_last : (x : List ℕ) → 16 ≤ length x → length (drop (length x - 8) x) ≡ 8
length_last x h = length-drop (length x - 8) x ∙ omega arith

-- the block that unwrapping maps
length_mixed : (a r : List ℕ) (t : ℕ) → length a ≡ 8 → length r ≡ 8 → length (xor_bytes a (string 8 t) ++ r) ≡ 16
length_mixed a r t la lr = length-append (xor_bytes a (string 8 t)) r ∙ omega (arith, counted_length a t la)

-- ---- what a step keeps

module _ (e : List ℕ → List ℕ) (k : Keeps 16 e) where
  pub length_wrap_step : (t : ℕ) (x : List ℕ) → 16 ≤ length x → length (wrap_step e t x) ≡ length x
  unfolding wrap_step
  length_wrap_step t x h =
      let b : List ℕ = e (take 16 x) in
      let l : length b ≡ 16 = k.len (take 16 x) in
      let f : length (take 8 b) ≡ 8 = length-take-le 8 b (omega arith) in
      length-append (xor_bytes (take 8 b) (string 8 t)) (drop 16 x ++ drop 8 b)
      ∙ omega (arith, counted_length (take 8 b) t f, length-append (drop 16 x) (drop 8 b), length-drop 16 x, length-drop 8 b)

  pub bytes_wrap_step : (t : ℕ) (x : List ℕ) → Bytes x → Bytes (wrap_step e t x)
  unfolding wrap_step
  bytes_wrap_step t x h =
      let b : List ℕ = e (take 16 x) in
      let hb : Bytes b = k.bytes (take 16 x) in
      append_bytes (xor_bytes (take 8 b) (string 8 t)) (drop 16 x ++ drop 8 b) (bytes_xor_bytes (take 8 b) (string 8 t) (take_bytes 8 b hb) (bytes_string 8 t))
      (append_bytes (drop 16 x) (drop 8 b) (drop_bytes 16 x h) (drop_bytes 8 b hb))

  pub length_wrap_steps : (t : ℕ) (x : List ℕ) → 16 ≤ length x → length (wrap_steps e t x) ≡ length x
  unfolding wrap_steps
  length_wrap_steps zero x h = refl
  length_wrap_steps (suc t) x h = let l : length (wrap_steps e t x) ≡ length x = length_wrap_steps t x h in length_wrap_step (suc t) (wrap_steps e t x) (omega arith) ∙ l

  pub bytes_wrap_steps : (t : ℕ) (x : List ℕ) → Bytes x → Bytes (wrap_steps e t x)
  unfolding wrap_steps
  bytes_wrap_steps zero x h = h
  bytes_wrap_steps (suc t) x h = bytes_wrap_step (suc t) (wrap_steps e t x) (bytes_wrap_steps t x h)

module _ (u : List ℕ → List ℕ) (k : Keeps 16 u) where
  -- a step, on the parts of any string of two semiblocks or more
  unwrapped_parts : (t : ℕ) (x : List ℕ) → 16 ≤ length x
      → unwrap_step u t x ≡ u (xor_bytes (take 8 x) (string 8 t) ++ drop (length x - 8) x) ++ drop 8 (take (length x - 8) x)
  unwrapped_parts t x h =
      let i : ℕ = length x - 8 in
      ap (unwrap_step u t) (split_ends x h)
      ∙ unwrap_step_parts u t (take 8 x) (drop 8 (take i x)) (drop i x) (length-take-le 8 x (omega arith)) (length_last x h)

  pub length_unwrap_step : (t : ℕ) (x : List ℕ) → 16 ≤ length x → length (unwrap_step u t x) ≡ length x
  length_unwrap_step t x h =
      let i : ℕ = length x - 8 in
      let b : List ℕ = xor_bytes (take 8 x) (string 8 t) ++ drop i x in
      ap length (unwrapped_parts t x h) ∙ length-append (u b) (drop 8 (take i x))
      ∙ omega (arith, k.len b, length-drop 8 (take i x), length-take-le i x (omega arith))

  pub bytes_unwrap_step : (t : ℕ) (x : List ℕ) → Bytes x → Bytes (unwrap_step u t x)
  unfolding unwrap_step
  bytes_unwrap_step t x h =
      let i : ℕ = length x - 8 in
      let b : List ℕ = u (xor_bytes (take 8 x) (string 8 t) ++ drop i x) in
      let hb : Bytes b = k.bytes (xor_bytes (take 8 x) (string 8 t) ++ drop i x) in
      append_bytes (take 8 b) (drop 8 b ++ drop 8 (take i x)) (take_bytes 8 b hb)
      (append_bytes (drop 8 b) (drop 8 (take i x)) (drop_bytes 8 b hb) (drop_bytes 8 (take i x) (take_bytes i x h)))

  pub length_unwrap_steps : (t : ℕ) (x : List ℕ) → 16 ≤ length x → length (unwrap_steps u t x) ≡ length x
  unfolding unwrap_steps
  length_unwrap_steps zero x h = refl
  length_unwrap_steps (suc t) x h =
      let l : length (unwrap_step u (suc t) x) ≡ length x = length_unwrap_step (suc t) x h in
      length_unwrap_steps t (unwrap_step u (suc t) x) (omega arith) ∙ l

  pub bytes_unwrap_steps : (t : ℕ) (x : List ℕ) → Bytes x → Bytes (unwrap_steps u t x)
  unfolding unwrap_steps
  bytes_unwrap_steps zero x h = h
  bytes_unwrap_steps (suc t) x h = bytes_unwrap_steps t (unwrap_step u (suc t) x) (bytes_unwrap_step (suc t) x h)

-- ---- there and back

module _ (e u : List ℕ → List ℕ) where
  pub unwrap_wrap_step : Keeps 16 e → Undone 16 e u → (t : ℕ) (x : List ℕ) → 16 ≤ length x → Bytes x → unwrap_step u t (wrap_step e t x) ≡ x
  unfolding wrap_step
  unwrap_wrap_step k o t x h hx =
      let b : List ℕ = e (take 16 x) in
      let lb : length b ≡ 16 = k.len (take 16 x) in
      let f : length (take 8 b) ≡ 8 = length-take-le 8 b (omega arith) in
      unwrap_step_parts u t (xor_bytes (take 8 b) (string 8 t)) (drop 16 x) (drop 8 b) (counted_length (take 8 b) t f) (length-drop 8 b ∙ omega arith)
      ∙ ap (λ (y : List ℕ). u (y ++ drop 8 b) ++ drop 16 x) (counted_again (take 8 b) t f)
      ∙ ap (λ (y : List ℕ). u y ++ drop 16 x) (take-append-drop 8 b)
      ∙ ap (λ (y : List ℕ). y ++ drop 16 x) (o.back (take 16 x) (length-take-le 16 x h) (take_bytes 16 x hx))
      ∙ take-append-drop 16 x

  pub wrap_unwrap_step : Keeps 16 u → Undone 16 u e → (t : ℕ) (x : List ℕ) → 16 ≤ length x → Bytes x → wrap_step e t (unwrap_step u t x) ≡ x
  wrap_unwrap_step k o t x h hx =
      let i : ℕ = length x - 8 in
      let a : List ℕ = take 8 x in
      let r : List ℕ = drop i x in
      let m : List ℕ = drop 8 (take i x) in
      let b : List ℕ = xor_bytes a (string 8 t) ++ r in
      let la : length a ≡ 8 = length-take-le 8 x (omega arith) in
      let lr : length r ≡ 8 = length_last x h in
      let undo : e (u b) ≡ b = o.back b (length_mixed a r t la lr) (append_bytes (xor_bytes a (string 8 t)) r (bytes_xor_bytes a (string 8 t) (take_bytes 8 x hx) (bytes_string 8 t)) (drop_bytes i x hx)) in
      ap (wrap_step e t) (unwrapped_parts u k t x h)
      ∙ wrap_step_parts e t (u b) m (k.len b)
      ∙ ap (λ (y : List ℕ). xor_bytes (take 8 y) (string 8 t) ++ (m ++ drop 8 y)) undo
      ∙ ap₂ (λ (y z : List ℕ). xor_bytes y (string 8 t) ++ (m ++ z)) (take_at (xor_bytes a (string 8 t)) r 8 (counted_length a t la)) (drop_at (xor_bytes a (string 8 t)) r 8 (counted_length a t la))
      ∙ ap (λ (y : List ℕ). y ++ (m ++ r)) (counted_again a t la)
      ∙ sym (split_ends x h)

  pub unwrap_wrap_steps : Keeps 16 e → Undone 16 e u → (t : ℕ) (x : List ℕ) → 16 ≤ length x → Bytes x → unwrap_steps u t (wrap_steps e t x) ≡ x
  unfolding wrap_steps unwrap_steps
  unwrap_wrap_steps k o zero x h hx = refl
  unwrap_wrap_steps k o (suc t) x h hx =
      ap (unwrap_steps u t) (unwrap_wrap_step k o (suc t) (wrap_steps e t x) (omega (arith, length_wrap_steps e k t x h)) (bytes_wrap_steps e k t x hx))
      ∙ unwrap_wrap_steps k o t x h hx

  pub wrap_unwrap_steps : Keeps 16 u → Undone 16 u e → (t : ℕ) (x : List ℕ) → 16 ≤ length x → Bytes x → wrap_steps e t (unwrap_steps u t x) ≡ x
  unfolding wrap_steps unwrap_steps
  wrap_unwrap_steps k o zero x h hx = refl
  wrap_unwrap_steps k o (suc t) x h hx =
      ap (wrap_step e (suc t)) (wrap_unwrap_steps k o t (unwrap_step u (suc t) x) (omega (arith, length_unwrap_step u k (suc t) x h)) (bytes_unwrap_step u k (suc t) x hx))
      ∙ wrap_unwrap_step k o (suc t) x h hx

  -- W and W⁻¹ undo each other, on every string of two semiblocks or more
  pub W⁻¹_W : Keeps 16 e → Undone 16 e u → (x : List ℕ) → 16 ≤ length x → Bytes x → W⁻¹ u (W e x) ≡ x
  unfolding W W⁻¹ steps
  W⁻¹_W k o x h hx =
      ap (λ (n : ℕ). unwrap_steps u n (W e x)) (same_steps (W e x) x (length_wrap_steps e k (steps x) x h))
      ∙ unwrap_wrap_steps k o (steps x) x h hx
    where
      same_steps : (x y : List ℕ) → length x ≡ length y → steps x ≡ steps y
      same_steps x y l = rw l

  pub W_W⁻¹ : Keeps 16 u → Undone 16 u e → (c : List ℕ) → 16 ≤ length c → Bytes c → W e (W⁻¹ u c) ≡ c
  unfolding W W⁻¹ steps
  W_W⁻¹ k o c h hc =
      ap (λ (n : ℕ). wrap_steps e n (W⁻¹ u c)) (same_steps (W⁻¹ u c) c (length_unwrap_steps u k (steps c) c h))
      ∙ wrap_unwrap_steps k o (steps c) c h hc
    where
      same_steps : (x y : List ℕ) → length x ≡ length y → steps x ≡ steps y
      same_steps x y l = rw l

-- ---- keys

-- the check in plain terms
pub authentic_iff : (u : List ℕ → List ℕ) (c : List ℕ) → (authentic u c ≡ true) ↔ (MSB64 (W⁻¹ u c) ≡ ICV1)
unfolding authentic
authentic_iff u c = (same_eq (MSB64 (W⁻¹ u c)) ICV1, λ e. ap (λ (s : List ℕ). same s ICV1) e ∙ same_refl ICV1)

pub length_ICV1 : length ICV1 ≡ 8
unfolding ICV1
length_ICV1 = length_string 8 _

pub bytes_ICV1 : Bytes ICV1
unfolding ICV1
bytes_ICV1 = bytes_string 8 _

module _ (p : List ℕ) where
  length_checked : length (ICV1 ++ p) ≡ 8 + length p
  length_checked = length-append ICV1 p ∙ omega (arith, length_ICV1)

  bytes_checked : Bytes p → Bytes (ICV1 ++ p)
  bytes_checked h = append_bytes ICV1 p bytes_ICV1 h

-- a wrapped key is eight bytes longer, an unwrapped one eight shorter
module _ (e : List ℕ → List ℕ) (k : Keeps 16 e) (p : List ℕ) where
  pub length_wrapped : 8 ≤ length p → length (wrapped e p) ≡ length p + 8
  unfolding wrapped W
  length_wrapped h = length_wrap_steps e k (steps (ICV1 ++ p)) (ICV1 ++ p) (omega (arith, length_checked p)) ∙ omega (arith, length_checked p)

  pub bytes_wrapped : Bytes p → Bytes (wrapped e p)
  unfolding wrapped W
  bytes_wrapped h = bytes_wrap_steps e k (steps (ICV1 ++ p)) (ICV1 ++ p) (bytes_checked p h)

module _ (u : List ℕ → List ℕ) (k : Keeps 16 u) (c : List ℕ) where
  pub length_W⁻¹ : 16 ≤ length c → length (W⁻¹ u c) ≡ length c
  unfolding W⁻¹
  length_W⁻¹ h = length_unwrap_steps u k (steps c) c h

  pub length_unwrapped : 16 ≤ length c → length (unwrapped u c) ≡ length c - 8
  unfolding unwrapped
  length_unwrapped h = length-drop 8 (W⁻¹ u c) ∙ omega (arith, length_W⁻¹ h)

  pub bytes_unwrapped : Bytes c → Bytes (unwrapped u c)
  unfolding unwrapped W⁻¹
  bytes_unwrapped h = drop_bytes 8 (W⁻¹ u c) (bytes_unwrap_steps u k (steps c) c h)

module _ (e u : List ℕ → List ℕ) (ke : Keeps 16 e) (oe : Undone 16 e u) (p : List ℕ) (h : 8 ≤ length p) (hp : Bytes p) where
  undone : W⁻¹ u (wrapped e p) ≡ ICV1 ++ p
  unfolding wrapped
  undone = W⁻¹_W e u ke oe (ICV1 ++ p) (omega (arith, length_checked p)) (bytes_checked p hp)

  -- what was wrapped is authentic, and unwraps to the key
  pub wrapped_authentic : authentic u (wrapped e p) ≡ true
  unfolding authentic
  wrapped_authentic = ap (λ (s : List ℕ). same (take 8 s) ICV1) undone ∙ ap (λ (s : List ℕ). same s ICV1) (take_at ICV1 p 8 length_ICV1) ∙ same_refl ICV1

  pub unwrapped_wrapped : unwrapped u (wrapped e p) ≡ p
  unfolding unwrapped
  unwrapped_wrapped = ap (drop 8) undone ∙ drop_at ICV1 p 8 length_ICV1

-- what is authentic is what wrapping makes of the result
pub wrapped_unwrapped : (e u : List ℕ → List ℕ) → Keeps 16 u → Undone 16 u e → (c : List ℕ) → 16 ≤ length c → Bytes c → authentic u c ≡ true
    → wrapped e (unwrapped u c) ≡ c
unfolding authentic wrapped unwrapped
wrapped_unwrapped e u k o c h hc y =
    ap (λ (s : List ℕ). W e (s ++ drop 8 (W⁻¹ u c))) (sym (same_eq (take 8 (W⁻¹ u c)) ICV1 y))
    ∙ ap (W e) (take-append-drop 8 (W⁻¹ u c))
    ∙ W_W⁻¹ e u k o c h hc

-- so two different strings are never unwrapped to one key
pub unwrapped_once : (e u : List ℕ → List ℕ) → Keeps 16 u → Undone 16 u e → (c d : List ℕ) → 16 ≤ length c → 16 ≤ length d → Bytes c → Bytes d
    → authentic u c ≡ true → authentic u d ≡ true → unwrapped u c ≡ unwrapped u d → c ≡ d
unwrapped_once e u k o c d hc hd bc bd yc yd q =
    sym (wrapped_unwrapped e u k o c hc bc yc) ∙ ap (wrapped e) q ∙ wrapped_unwrapped e u k o d hd bd yd

-- a key of so many bytes that wraps to c
pub record Wraps (e : List ℕ → List ℕ) (c : List ℕ) : Type 0 where
  pub key : List ℕ
  pub long : 8 ≤ length key
  pub small : Bytes key
  pub made : c ≡ wrapped e key

-- what unwrapping accepts is just what wrapping produces
pub wraps_iff : (e u : List ℕ → List ℕ) → Keeps 16 e → Keeps 16 u → Undone 16 e u → Undone 16 u e → (c : List ℕ) → 16 ≤ length c → Bytes c
    → (authentic u c ≡ true) ↔ Wraps e c
wraps_iff e u ke ku oe ou c h hc = (
  λ y. record {
    key = unwrapped u c;
    long = omega (arith, length_unwrapped u ku c h);
    small = bytes_unwrapped u ku c hc;
    made = sym (wrapped_unwrapped e u ku ou c h hc y);
  },
  λ w. ap (authentic u) w.made ∙ wrapped_authentic e u ke oe w.key w.long w.small,
)

-- ---- worked values, which the laws above don't settle: the number of rounds, the check value, where the step's number goes and how it is read

-- a block map that turns a block by five bytes; the values are of a program that has the standard's steps in place, as RFC 3394 writes them
abbrev pub fifth : List ℕ → List ℕ
fifth b = drop 5 b ++ take 5 b

-- a key of two semiblocks: the string that W starts from, those after its first and second step, and the last
abbrev worked_key : List ℕ
worked_key = 0x01 ∷ 0x02 ∷ 0x03 ∷ 0x04 ∷ 0x05 ∷ 0x06 ∷ 0x07 ∷ 0x08 ∷ 0x09 ∷ 0x0A ∷ 0x0B ∷ 0x0C ∷ 0x0D ∷ 0x0E ∷ 0x0F ∷ 0x10 ∷ []

pub first_step :
    wrap_steps fifth 1 (ICV1 ++ worked_key)
    ≡ 0xA6 ∷ 0xA6 ∷ 0xA6 ∷ 0x01 ∷ 0x02 ∷ 0x03 ∷ 0x04 ∷ 0x04 ∷ 0x09 ∷ 0x0A ∷ 0x0B ∷ 0x0C ∷ 0x0D ∷ 0x0E ∷ 0x0F ∷ 0x10 ∷ 0x06 ∷ 0x07 ∷ 0x08 ∷ 0xA6 ∷ 0xA6 ∷ 0xA6 ∷ 0xA6 ∷ 0xA6 ∷ []
unfolding wrap_steps wrap_step ICV1 string tabulate byte xor_bytes
first_step = refl

pub second_step :
    wrap_steps fifth 2 (ICV1 ++ worked_key)
    ≡ 0x03 ∷ 0x04 ∷ 0x04 ∷ 0x09 ∷ 0x0A ∷ 0x0B ∷ 0x0C ∷ 0x0F ∷ 0x06 ∷ 0x07 ∷ 0x08 ∷ 0xA6 ∷ 0xA6 ∷ 0xA6 ∷ 0xA6 ∷ 0xA6 ∷ 0x0E ∷ 0x0F ∷ 0x10 ∷ 0xA6 ∷ 0xA6 ∷ 0xA6 ∷ 0x01 ∷ 0x02 ∷ []
unfolding wrap_steps wrap_step ICV1 string tabulate byte xor_bytes
second_step = refl

pub worked :
    wrapped fifth worked_key
    ≡ 0x01 ∷ 0x0A ∷ 0x03 ∷ 0x0A ∷ 0x04 ∷ 0x09 ∷ 0x07 ∷ 0x1C ∷ 0xA1 ∷ 0x0F ∷ 0x06 ∷ 0x0F ∷ 0xA6 ∷ 0x0A ∷ 0xA2 ∷ 0xA6 ∷ 0xAE ∷ 0xA5 ∷ 0x0E ∷ 0xA6 ∷ 0x02 ∷ 0x01 ∷ 0x01 ∷ 0xA6 ∷ []
unfolding wrapped W steps wrap_steps wrap_step ICV1 string tabulate byte xor_bytes
worked = refl
