-- Laws of CMAC over any block map: what it keeps, the chain in pieces, the chain as the last block of CBC, and that a tag is valid exactly
-- when it is the one that is made.
-- Assumes nothing.
use mathlib.Core.Path.{◌≡◌, refl, sym, ap, ap₂, ◌∙◌, fun_ext}
use mathlib.Core.Bool.{Bool, true, false}
use mathlib.Core.Logic.{◌↔◌}
use mathlib.Core.List.{List, ◌∷◌, ◌++◌}
use Prim.Native.Nat.{ℕ, zero, suc, ◌+◌, ◌-◌, ◌*◌, ◌/◌, ◌^◌, ◌≤◌, ◌<◌}
use native.Mathlib.Nat.{zero-add, suc-add}
use native.Mathlib.Omega.{arith}
use borrow.Author.Tests.{eq-eqb, ne_eqb, eqb-true, eqb-false}
use lib.Dec.{eqb, ltb}
use lib.ListN.{length, take, drop, set, replicate, length-append, length-drop, length-replicate, replicate-append-replicate}
use lib.Seq.{set_at, take_all, drop_at, take-append-le, drop-append-le, length-take-le}
use Rattle.forms.specs.Lists.{when}
use Rattle.forms.specs.Strings.{xor_bytes, number, string, same}
use Rattle.forms.specs.Mapped.{chain_last}
use Rattle.forms.proofs.Bytes.{Bytes}
use Rattle.forms.proofs.Strings.{length_xor_bytes, length_shorter, take_xor_bytes, xor_bytes_comm, bytes_xor_bytes, length_string, bytes_string, no_block, length_rest, first_within, same_refl, same_eq}
use Rattle.modes.specs.Ctr.{blocks}
use Rattle.modes.specs.Cbc.{seal_blocks, before}
use Rattle.modes.specs.Cmac.{doubled, K1, K2, block_count, pad, last_block, chain, mac, tag, valid}
use Rattle.modes.proofs.Maps.{Keeps}
use Rattle.modes.proofs.Cbc.{before_next}

-- ---- block maps that agree

module _ (e f : List ℕ → List ℕ) (h : (b : List ℕ) → e b ≡ f b) where
  pub tag_cong : (t : ℕ) (m : List ℕ) → tag e t m ≡ tag f t m
  tag_cong t m = ap (λ (g : List ℕ → List ℕ). tag g t m) (fun_ext h)

  pub valid_cong : (m given : List ℕ) → valid e m given ≡ valid f m given
  valid_cong m given = ap (λ (g : List ℕ → List ℕ). valid g m given) (fun_ext h)

-- ---- lengths

-- a doubled block is a block, whatever is XORed into it
module _ (v c : ℕ) where
  length_either : (b : Bool) → length (when b (string 16 v) (xor_bytes (string 16 v) (string 16 c))) ≡ 16
  length_either true = length_string 16 v
  length_either false = length_xor_bytes (string 16 v) (string 16 c) (omega (arith, length_string 16 v, length_string 16 c)) ∙ length_string 16 v

  bytes_either : (b : Bool) → Bytes (when b (string 16 v) (xor_bytes (string 16 v) (string 16 c)))
  bytes_either true = bytes_string 16 v
  bytes_either false = bytes_xor_bytes (string 16 v) (string 16 c) (bytes_string 16 v) (bytes_string 16 c)

pub length_doubled : (x : List ℕ) → length (doubled x) ≡ 16
unfolding doubled
length_doubled x = length_either (2 * number x) _ (ltb (number x) (2 ^ 127))

pub bytes_doubled : (x : List ℕ) → Bytes (doubled x)
unfolding doubled
bytes_doubled x = bytes_either (2 * number x) _ (ltb (number x) (2 ^ 127))

pub length_pad : (last : List ℕ) → length last < 16 → length (pad last) ≡ 16
unfolding pad
length_pad last h = length-append last (0x80 ∷ replicate (15 - length last) 0) ∙ omega (arith, length-replicate {A = ℕ} (15 - length last) 0)

pub length_last_block : (k1 k2 last : List ℕ) → length k1 ≡ 16 → length k2 ≡ 16 → length last ≤ 16 → length (last_block k1 k2 last) ≡ 16
unfolding last_block
length_last_block k1 k2 last p q h = either (eqb (length last) 16) (eqb-true (length last) 16) (eqb-false (length last) 16)
  where
    either : (b : Bool) → (b ≡ true → length last ≡ 16) → (b ≡ false → length last ≡ 16 → ⊥) → length (when b (xor_bytes k1 last) (xor_bytes k2 (pad last))) ≡ 16
    either true e n = length_xor_bytes k1 last (omega (arith, e refl)) ∙ p
    either false e n =
        let l : length (pad last) ≡ 16 = length_pad last (omega (arith, n refl)) in
        length_xor_bytes k2 (pad last) (omega arith) ∙ q

-- a block's worth of the padded last part: it, a byte 80 and zeros, or a whole block as it is
pub pad_short : (last : List ℕ) {r : List ℕ} → length last < 16 → r ≡ last ++ drop (length last) (replicate 16 0) → set r (length last) 0x80 ≡ take 16 (pad last)
unfolding pad
pad_short last {r} h e =
    let j : ℕ = 15 - length last in
    let zeros : drop {A = ℕ} (length last) (replicate 16 0) ≡ replicate (suc j) 0 = drop_replicate (length last) (suc j) (omega arith) in
    ap (λ (x : List ℕ). set x (length last) 0x80) (e ∙ ap (λ (x : List ℕ). last ++ x) zeros)
    ∙ set_at last 0 (replicate j 0) 0x80 (length last) refl
    ∙ sym (take_all 16 (last ++ 0x80 ∷ replicate j 0) (omega (arith, length-append last (0x80 ∷ replicate j 0), length-replicate {A = ℕ} j 0)))
  where
    drop_replicate : (m k : ℕ) → m + k ≡ 16 → drop {A = ℕ} m (replicate 16 0) ≡ replicate k 0
    drop_replicate m k p =
        ap (λ (x : ℕ). drop {A = ℕ} m (replicate x 0)) (sym p) ∙ ap (drop {A = ℕ} m) (sym (replicate-append-replicate m k 0))
        ∙ drop_at {A = ℕ} (replicate m 0) (replicate k 0) m (length-replicate m 0)

pub pad_long : (last : List ℕ) → 16 ≤ length last → take 16 last ≡ take 16 (pad last)
unfolding pad
pad_long last h = sym (take-append-le 16 last (0x80 ∷ replicate (15 - length last) 0) h)

pub length_padded : (last : List ℕ) → length (take 16 (pad last)) ≡ 16
unfolding pad
length_padded last =
    length-take-le 16 (pad last) (omega (arith, length-append last (0x80 ∷ replicate (15 - length last) 0), length-replicate {A = ℕ} (15 - length last) 0))

-- the last block is the XOR of a mask with that
module _ (k1 k2 last : List ℕ) where
  pub last_whole : length last ≡ 16 → xor_bytes k1 (take 16 (pad last)) ≡ last_block k1 k2 last
  unfolding last_block
  last_whole e = rw (eq-eqb (length last) 16 e) (ap (xor_bytes k1) (sym (pad_long last (omega arith)) ∙ take_all 16 last (omega arith)))

  pub last_short : length k2 ≡ 16 → (length last ≡ 16 → ⊥) → xor_bytes k2 (take 16 (pad last)) ≡ last_block k1 k2 last
  unfolding last_block
  last_short l n =
      rw (ne_eqb (length last) 16 n)
      (ap (λ (x : List ℕ). xor_bytes x (take 16 (pad last))) (sym (take_all 16 k2 (omega arith))) ∙ sym (take_xor_bytes 16 k2 (pad last))
      ∙ take_all 16 (xor_bytes k2 (pad last)) (omega (arith, length_shorter k2 (pad last))))

-- how many bytes stand before the last block, and how many in it
pub front_all : (k : ℕ) → 16 * (block_count k - 1) ≤ k
unfolding block_count blocks
front_all zero = omega arith
front_all (suc k) = omega arith

pub last_fits : (k : ℕ) → k - 16 * (block_count k - 1) ≤ 16
unfolding block_count blocks
last_fits zero = omega arith
last_fits (suc k) = omega arith

pub some_block : (k : ℕ) → block_count k ≡ (block_count k - 1) + 1
unfolding block_count blocks
some_block zero = refl
some_block (suc k) = omega arith

-- as the code finds them
pub front_none : (k : ℕ) → k ≡ 0 → 0 ≡ 16 * (block_count k - 1)
unfolding block_count
front_none k e = rw e

pub front_some : (k : ℕ) → (k ≡ 0 → ⊥) → (k - 1) / 16 * 16 ≡ 16 * (block_count k - 1)
unfolding block_count blocks
front_some zero h = absurd (h refl)
front_some (suc k) h = omega arith

-- ---- the chain

module _ (e : List ℕ → List ℕ) where
  -- its last block as any mode's chain has it, with the XOR's operands the other way round
  pub chain_last_lem : (m : ℕ) (c p : List ℕ) → chain_last e 16 m c p ≡ chain e m c p
  unfolding chain chain_last
  chain_last_lem zero c p = refl
  chain_last_lem (suc m) c p =
      ap (λ (x : List ℕ). chain_last e 16 m (e x) (drop 16 p)) (xor_bytes_comm (take 16 p) c) ∙ chain_last_lem m (e (xor_bytes c (take 16 p))) (drop 16 p)

  pub chain_append : (m n : ℕ) (c p q : List ℕ) → length p ≡ m * 16 → chain e (m + n) c (p ++ q) ≡ chain e n (chain e m c p) q
  unfolding chain
  chain_append zero n c p q l = ap₂ (λ (j : ℕ) (x : List ℕ). chain e j c (x ++ q)) (zero-add n) (no_block 16 p l)
  chain_append (suc m) n c p q l =
      ap (λ (j : ℕ). chain e j c (p ++ q)) (suc-add m n)
      ∙ ap₂ (λ (x y : List ℕ). chain e (m + n) (e (xor_bytes c x)) y)
      (take-append-le 16 p q (first_within 16 m p (omega arith))) (drop-append-le 16 p q (first_within 16 m p (omega arith)))
      ∙ chain_append m n (e (xor_bytes c (take 16 p))) (drop 16 p) q (length_rest 16 m p l)

  -- a whole message: the blocks before the last, and the last by itself
  pub mac_steps : (m : List ℕ)
      → let front = 16 * (block_count (length m) - 1) in
      mac e m ≡ e (xor_bytes (chain e (block_count (length m) - 1) (replicate 16 0) (take front m)) (last_block (K1 e) (K2 e) (drop front m)))
  unfolding mac chain K1 K2
  mac_steps m =
      let n = block_count (length m) - 1 in
      let front = 16 * n in
      let last = last_block (K1 e) (K2 e) (drop front m) in
      let rest : length (drop front m) ≤ 16 = omega (arith, length-drop front m, last_fits (length m)) in
      let whole : length last ≤ 16 = omega (arith, length_last_block (K1 e) (K2 e) (drop front m) (length_doubled _) (length_doubled _) rest) in
      ap (λ (j : ℕ). chain e j (replicate 16 0) (take front m ++ last)) (some_block (length m))
      ∙ chain_append n 1 (replicate 16 0) (take front m) last (length-take-le front m (front_all (length m)) ∙ omega arith)
      ∙ ap (λ (x : List ℕ). e (xor_bytes (chain e n (replicate 16 0) (take front m)) x)) (take_all 16 last whole)

  -- the chain is the last block that CBC seals
  pub chain_seal : Keeps 16 e → (m : ℕ) (c p : List ℕ) → chain e m c p ≡ before 16 c (seal_blocks e 16 m c p) m
  unfolding chain seal_blocks before
  chain_seal k zero c p = refl
  chain_seal k (suc m) c p =
      let d : List ℕ = e (xor_bytes (take 16 p) c) in
      ap (λ (x : List ℕ). chain e m (e x) (drop 16 p)) (xor_bytes_comm c (take 16 p))
      ∙ chain_seal k m d (drop 16 p)
      ∙ sym (before_next 16 d (seal_blocks e 16 m d (drop 16 p)) (k.len (xor_bytes (take 16 p) c)) c m)

-- ---- tags

module _ (e : List ℕ → List ℕ) (k : Keeps 16 e) where
  pub length_mac : (m : List ℕ) → length (mac e m) ≡ 16
  length_mac m = ap length (mac_steps e m) ∙ k.len _

  pub bytes_mac : (m : List ℕ) → Bytes (mac e m)
  bytes_mac m i = rw (mac_steps e m) (k.bytes _ i)

  pub length_tag : (t : ℕ) (m : List ℕ) → t ≤ 16 → length (tag e t m) ≡ t
  unfolding tag
  length_tag t m h = length-take-le t (mac e m) (omega (arith, length_mac m))

  -- verifying says yes to every tag that is made
  pub made_valid : (t : ℕ) (m : List ℕ) → t ≤ 16 → valid e m (tag e t m) ≡ true
  unfolding valid
  made_valid t m h = ap (λ (n : ℕ). same (tag e n m) (tag e t m)) (length_tag t m h) ∙ same_refl (tag e t m)

-- and to no other
pub valid_made : (e : List ℕ → List ℕ) (m given : List ℕ) → valid e m given ≡ true → given ≡ tag e (length given) m
unfolding valid
valid_made e m given h = sym (same_eq (tag e (length given) m) given h)

pub valid_iff : (e : List ℕ → List ℕ) → Keeps 16 e → (m given : List ℕ) → length given ≤ 16 → (valid e m given ≡ true) ↔ (given ≡ tag e (length given) m)
valid_iff e k m given h = (valid_made e m given, λ p. ap (valid e m) p ∙ made_valid e k (length given) m h)
