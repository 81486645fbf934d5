-- Laws of the carry, as the loops that add and double hand it up.
-- Assumes nothing.
use mathlib.Core.Path.{◌≡◌, sym, ap, ap₂, ◌∙◌}
use mathlib.Core.List.{List, [], ◌∷◌, ◌++◌, append_assoc}
use Prim.Native.Nat.{ℕ, suc, ◌+◌, ◌-◌, ◌*◌, ◌/◌, ◌%◌, ◌≤◌, ◌<◌}
use native.Mathlib.Nat.{add-zero, one-mul, mul-add, mul_assoc}
use native.Mathlib.Omega.{arith}
use lib.ListN.{length, get_or, take, drop, set, length-set, take-append-drop}
use lib.Seq.{take-suc, drop-cons, drop-set-lt, take-set-le, take-take, get_or-set_same, length-take-le}
use Rattle.forms.specs.Lists.{tabulate}
use Rattle.forms.specs.Strings.{number, string}
use Rattle.forms.proofs.Bytes.{Bytes, take_bytes}
use Rattle.forms.proofs.Strings.{number_snoc, string_suc, string_number}

-- what is to become of c, k times itself and more, where the carry stands before its byte i
abbrev pub scaled : ℕ → List ℕ → ℕ → ℕ → List ℕ
scaled k c i carry = string i (k * number (take i c) + carry) ++ drop i c

-- a turn: byte j takes the sum's low byte, and the rest is the next carry
turn : (k : ℕ) (c : List ℕ) (j carry : ℕ) {x next : ℕ} → j < length c → x ≡ (k * get_or c j 0 + carry) % 256 → next ≡ (k * get_or c j 0 + carry) / 256
    → scaled k (set c j x) j next ≡ scaled k c (suc j) carry
turn k c j carry {x} {next} h e f =
    let y = get_or c j 0 in
    let p = number (take j c) in
    let up : k * number (take (suc j) c) ≡ k * p * 256 + k * y =
    ap (λ (n : ℕ). k * n) (ap number (take-suc c j 0 h) ∙ number_snoc (take j c) y) ∙ mul-add k (p * 256) y ∙ ap (λ (n : ℕ). n + k * y) (sym (mul_assoc k p 256)) in
    let q : (k * number (take (suc j) c) + carry) / 256 ≡ k * p + next = omega arith in
    let r : (k * number (take (suc j) c) + carry) % 256 ≡ x = omega arith in
    let l : j < length (set c j x) = rw length-set h in
    let here : drop j (set c j x) ≡ x ∷ drop (suc j) c = drop-cons (set c j x) j 0 l ∙ ap₂ ◌∷◌ (get_or-set_same c j x 0 h) (drop-set-lt (suc j) c j x (omega arith)) in
    ap₂ (λ (a b : List ℕ). string j (k * number a + next) ++ b) (take-set-le j c j x (omega arith)) here
    ∙ sym (append_assoc (string j (k * p + next)) (x ∷ []) (drop (suc j) c))
    ∙ ap₂ (λ (a b : ℕ). (string j a ++ (b ∷ [])) ++ drop (suc j) c) (sym q) (sym r)
    ∙ ap (λ (a : List ℕ). a ++ drop (suc j) c) (sym (string_suc j (k * number (take (suc j) c) + carry)))

pub scaled_next : (k : ℕ) (c : List ℕ) (i carry : ℕ) {x next : ℕ} → 0 < i → i ≤ length c → x ≡ (k * get_or c (i - 1) 0 + carry) % 256
    → next ≡ (k * get_or c (i - 1) 0 + carry) / 256 → scaled k (set c (i - 1) x) (i - 1) next ≡ scaled k c i carry
scaled_next k c i carry p h e f = turn k c (i - 1) carry (omega arith) e f ∙ ap (λ (j : ℕ). scaled k c j carry) (omega arith)

-- no byte is left
pub scaled_all : (k : ℕ) (c : List ℕ) (i carry : ℕ) → i ≡ 0 → scaled k c i carry ≡ c
unfolding string tabulate
scaled_all k c i carry e = ap (λ (j : ℕ). scaled k c j carry) e

-- ---- adding: once c

abbrev pub added : List ℕ → ℕ → ℕ → List ℕ
added = scaled 1

-- byte i - 1 takes the carry's low byte
pub added_next : (c : List ℕ) (i carry : ℕ) {x : ℕ} → 0 < i → i ≤ length c → x ≡ (get_or c (i - 1) 0 + carry % 256) % 256
    → added (set c (i - 1) x) (i - 1) (carry / 256 + (get_or c (i - 1) 0 + carry % 256) / 256) ≡ added c i carry
added_next c i carry p h e = scaled_next 1 c i carry p h (omega arith) (omega arith)

-- the bytes before i are the first ones
pub before_next : (c d : List ℕ) (i x : ℕ) → take i c ≡ take i d → take (i - 1) (set c (i - 1) x) ≡ take (i - 1) d
before_next c d i x e =
    let h : i - 1 ≤ i = omega arith in
    take-set-le (i - 1) c (i - 1) x (omega arith) ∙ sym (take-take (i - 1) i c h) ∙ ap (take (i - 1)) e ∙ take-take (i - 1) i d h

-- no carry is left: they stay
pub added_none : (c d : List ℕ) (i : ℕ) {carry : ℕ} → Bytes d → take i c ≡ take i d → i ≤ length d → carry ≡ 0 → added c i carry ≡ c
added_none c d i h p l e =
    ap₂ (λ (a : List ℕ) (b : ℕ). string i (1 * number a + b) ++ drop i c) p e
    ∙ ap (λ (v : ℕ). string i v ++ drop i c) (add-zero (1 * number (take i d)) ∙ one-mul (number (take i d)))
    ∙ ap (λ (x : List ℕ). x ++ drop i c) (string_number i (take i d) (length-take-le i d l) (take_bytes i d h) ∙ sym p)
    ∙ take-append-drop i c
