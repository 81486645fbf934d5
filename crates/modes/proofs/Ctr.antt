-- Laws of counter mode over any block map: what it keeps, that it undoes itself, each single block, and a run in pieces.
-- Assumes nothing.
use mathlib.Core.Path.{◌≡◌, refl, sym, ap, ap₂, ◌∙◌, fun_ext}
use mathlib.Core.List.{List, ◌++◌, append_assoc, append-nil}
use Prim.Native.Nat.{ℕ, zero, suc, ◌+◌, ◌-◌, ◌*◌, ◌/◌, ◌≤◌, ◌<◌, min}
use native.Mathlib.Nat.{suc-mul, zero-mul, suc-add, zero-add, add-zero, add_assoc, div-add-mod', mod-lt}
use native.Mathlib.Omega.{arith, min_cases}
use lib.Arith.{digits_div}
use lib.ListN.{length, replicate, length-append}
use lib.Seq.{take_at, drop_at}
use Rattle.forms.specs.Lists.{tabulate}
use Rattle.forms.specs.Words.{byte, join}
use Rattle.forms.specs.Strings.{xor_bytes, number, string, block}
use Rattle.forms.proofs.Bytes.{Bytes, append_bytes}
use Rattle.forms.proofs.Strings.{length_xor_bytes, bytes_xor_bytes, xor_bytes_undo, xor_bytes_append, length_string, bytes_string, string_number, string_add, blocks_more, block_first, block_next, block_xor_bytes}
use Rattle.modes.specs.Ctr.{counter, key_stream, blocks, ctr}
use Rattle.modes.proofs.Maps.{Keeps}

-- ---- block maps that agree

pub ctr_cong : (e f : List ℕ → List ℕ) → ((b : List ℕ) → e b ≡ f b) → (z : ℕ) (start : List ℕ) (q : ℕ) (p : List ℕ) → ctr e z start q p ≡ ctr f z start q p
ctr_cong e f h z start q p = ap (λ (g : List ℕ → List ℕ). ctr g z start q p) (fun_ext h)

-- ---- the counter block

pub length_counter : (z : ℕ) (start : List ℕ) (v : ℕ) → length (counter z start v) ≡ z
unfolding counter
length_counter z start v = length_string z (number start + v)

pub bytes_counter : (z : ℕ) (start : List ℕ) (v : ℕ) → Bytes (counter z start v)
unfolding counter
bytes_counter z start v = bytes_string z (number start + v)

-- the first is the start block
pub counter_zero : (z : ℕ) (start : List ℕ) → length start ≡ z → Bytes start → counter z start 0 ≡ start
unfolding counter
counter_zero z start e h = ap (string z) (add-zero (number start)) ∙ string_number z start e h

-- a counter block as the start block
pub counter_add : (z : ℕ) (start : List ℕ) (q v : ℕ) → counter z (counter z start q) v ≡ counter z start (q + v)
unfolding counter
counter_add z start q v = string_add z (number start + q) v ∙ ap (string z) (add_assoc (number start) q v)

-- document 01's starred value: after all FF comes all 00
pub counter_wraps : counter 16 (replicate 16 255) 1 ≡ replicate 16 0
unfolding counter string number tabulate byte join
counter_wraps = refl

-- ---- blocks, a last short one counted

-- they hold all the bytes
pub blocks_enough : (z k : ℕ) → 0 < z → k ≤ blocks z k * z
unfolding blocks
blocks_enough z k h = omega (arith, div-add-mod' (k + z - 1) z, mod-lt (k + z - 1) h)

pub blocks_add : (z m k : ℕ) → 0 < z → blocks z (m * z + k) ≡ m + blocks z k
unfolding blocks
blocks_add z m k h = let e : m * z + k + z - 1 ≡ m * z + (k + z - 1) = omega arith in ap (λ (x : ℕ). x / z) e ∙ blocks_more z m (k + z - 1) h

pub blocks_whole : (z m : ℕ) → 0 < z → blocks z (m * z) ≡ m
unfolding blocks
blocks_whole z m h =
    let e : m * z + z - 1 ≡ m * z + (z - 1) = omega arith in
    ap (λ (x : ℕ). x / z) e ∙ digits_div m (omega arith)

-- the first, a short one too, and those of the rest
pub blocks_first : (z k : ℕ) → 0 < z → 0 < k → blocks z k ≡ suc (blocks z (k - z))
unfolding blocks
blocks_first z k pos h = min_cases k z (blocks z k ≡ suc (blocks z (k - z))) short long
  where
    short : k ≤ z → min k z ≡ k → blocks z k ≡ suc (blocks z (k - z))
    short l r =
        let a : k + z - 1 ≡ 1 * z + (k - 1) = omega arith in
        let b : k - z + z - 1 ≡ 0 * z + (z - 1) = omega arith in
        ap (λ (x : ℕ). x / z) a ∙ digits_div 1 (omega arith) ∙ ap suc (sym (ap (λ (x : ℕ). x / z) b ∙ digits_div 0 (omega arith)))

    long : z ≤ k → min k z ≡ z → blocks z k ≡ suc (blocks z (k - z))
    long l r = let a : k ≡ 1 * z + (k - z) = omega arith in ap (blocks z) a ∙ blocks_add z 1 (k - z) pos ∙ omega arith

-- ---- the key stream

-- m blocks, and n more
pub key_stream_append : (e : List ℕ → List ℕ) (z : ℕ) (start : List ℕ) (v m n : ℕ) → key_stream e z start v (m + n) ≡ key_stream e z start v m ++ key_stream e z start (v + m) n
unfolding key_stream
key_stream_append e z start v zero n = ap₂ (key_stream e z start) (sym (add-zero v)) (zero-add n)
key_stream_append e z start v (suc m) n =
    ap (key_stream e z start v) (suc-add m n)
    ∙ ap (λ (x : List ℕ). e (counter z start v) ++ x) (key_stream_append e z start (v + 1) m n)
    ∙ sym (append_assoc (e (counter z start v)) (key_stream e z start (v + 1) m) (key_stream e z start (v + 1 + m) n))
    ∙ ap (λ (x : ℕ). (e (counter z start v) ++ key_stream e z start (v + 1) m) ++ key_stream e z start x n) (omega arith)

module _ (e : List ℕ → List ℕ) (z : ℕ) (keeps : Keeps z e) (start : List ℕ) where
  pub length_key_stream : (v m : ℕ) → length (key_stream e z start v m) ≡ m * z
  unfolding key_stream
  length_key_stream v zero = sym (zero-mul z)
  length_key_stream v (suc m) =
      length-append (e (counter z start v)) (key_stream e z start (v + 1) m)
      ∙ omega (arith, keeps.len (counter z start v), length_key_stream (v + 1) m, suc-mul m z)

  pub bytes_key_stream : (v m : ℕ) → Bytes (key_stream e z start v m)
  unfolding key_stream
  bytes_key_stream v zero i = omega arith
  bytes_key_stream v (suc m) i = append_bytes (e (counter z start v)) (key_stream e z start (v + 1) m) (keeps.bytes (counter z start v)) (bytes_key_stream (v + 1) m) i

  -- O_i is e of T_i
  pub key_stream_block : (v m i : ℕ) → i < m → block z i (key_stream e z start v m) ≡ e (counter z start (v + i))
  unfolding key_stream
  key_stream_block v zero i h = let w : ⊥ = omega arith in absurd w
  key_stream_block v (suc m) zero h =
      block_first z (e (counter z start v)) (key_stream e z start (v + 1) m) (keeps.len (counter z start v)) ∙ ap (λ (x : ℕ). e (counter z start x)) (sym (add-zero v))
  key_stream_block v (suc m) (suc i) h =
      block_next z (e (counter z start v)) (key_stream e z start (v + 1) m) (keeps.len (counter z start v)) i
      ∙ key_stream_block (v + 1) m i (omega arith)
      ∙ ap (λ (x : ℕ). e (counter z start x)) (omega arith)

  -- ---- the run

  module _ (pos : 0 < z) (q : ℕ) where
    stream_enough : (p : List ℕ) → length p ≤ length (key_stream e z start q (blocks z (length p)))
    stream_enough p = omega (arith, blocks_enough z (length p) pos, length_key_stream q (blocks z (length p)))

    pub length_ctr : (p : List ℕ) → length (ctr e z start q p) ≡ length p
    unfolding ctr
    length_ctr p = length_xor_bytes p (key_stream e z start q (blocks z (length p))) (stream_enough p)

    -- twice is nothing: opening is sealing
    pub ctr_ctr : (p : List ℕ) → ctr e z start q (ctr e z start q p) ≡ p
    unfolding ctr
    ctr_ctr p =
        ap (λ (k : ℕ). xor_bytes (ctr e z start q p) (key_stream e z start q (blocks z k))) (length_ctr p)
        ∙ xor_bytes_undo p (key_stream e z start q (blocks z (length p))) (stream_enough p)

    -- a run in pieces: the counter goes on
    pub ctr_append : (m : ℕ) (a b : List ℕ) → length a ≡ m * z → ctr e z start q (a ++ b) ≡ ctr e z start q a ++ ctr e z start (q + m) b
    unfolding ctr
    ctr_append m a b l =
        let front : List ℕ = key_stream e z start q m in
        let back : List ℕ = key_stream e z start (q + m) (blocks z (length b)) in
        let lf : length a ≡ length front = l ∙ sym (length_key_stream q m) in
        ap (λ (k : ℕ). xor_bytes (a ++ b) (key_stream e z start q k)) (ap (blocks z) (length-append a b ∙ ap (λ (x : ℕ). x + length b) l) ∙ blocks_add z m (length b) pos)
        ∙ ap (xor_bytes (a ++ b)) (key_stream_append e z start q m (blocks z (length b)))
        ∙ xor_bytes_append (a ++ b) front back
        ∙ ap₂ (λ (x y : List ℕ). xor_bytes x front ++ xor_bytes y back) (take_at a b (length front) lf) (drop_at a b (length front) lf)
        ∙ ap (λ (k : ℕ). xor_bytes a (key_stream e z start q k) ++ xor_bytes b back) (sym (ap (blocks z) l ∙ blocks_whole z m pos))

  pub bytes_ctr : (q : ℕ) (p : List ℕ) → Bytes p → Bytes (ctr e z start q p)
  unfolding ctr
  bytes_ctr q p h = bytes_xor_bytes p (key_stream e z start q (blocks z (length p))) h (bytes_key_stream q (blocks z (length p)))

  -- C_i is P_i XOR O_i, a last short block too
  pub ctr_block : (q : ℕ) (p : List ℕ) (i : ℕ) → i < blocks z (length p) → block z i (ctr e z start q p) ≡ xor_bytes (block z i p) (e (counter z start (q + i)))
  unfolding ctr
  ctr_block q p i h =
      block_xor_bytes z i p (key_stream e z start q (blocks z (length p)))
      ∙ ap (xor_bytes (block z i p)) (key_stream_block q (blocks z (length p)) i h)

-- ---- a run from its counter block on, and one of one block

module _ (e : List ℕ → List ℕ) (z : ℕ) where
  -- the key stream from a counter block on
  pub stream_counter : (start : List ℕ) (q v m : ℕ) → key_stream e z (counter z start q) v m ≡ key_stream e z start (q + v) m
  unfolding key_stream
  stream_counter start q v zero = refl
  stream_counter start q v (suc m) =
      ap₂ (λ (a r : List ℕ). e a ++ r) (counter_add z start q v) (stream_counter start q (v + 1) m ∙ ap (λ (x : ℕ). key_stream e z start x m) (sym (add_assoc q v 1)))

  -- a run from a counter block on is one from its number on
  pub ctr_counter : (start : List ℕ) (q : ℕ) (p : List ℕ) → ctr e z (counter z start q) 0 p ≡ ctr e z start q p
  unfolding ctr
  ctr_counter start q p =
      ap (xor_bytes p) (stream_counter start q 0 (blocks z (length p)) ∙ ap (λ (x : ℕ). key_stream e z start x (blocks z (length p))) (add-zero q))

  -- of one block, perhaps a short one
  pub ctr_one : 0 < z → (start : List ℕ) (q : ℕ) (p : List ℕ) → 0 < length p → length p ≤ z → ctr e z start q p ≡ xor_bytes p (e (counter z start q))
  unfolding ctr key_stream
  ctr_one pos start q p h l =
      let none : length p - z ≡ 0 * z = omega (arith, zero-mul z) in
      ap (λ (k : ℕ). xor_bytes p (key_stream e z start q k)) (blocks_first z (length p) pos h ∙ ap (λ (k : ℕ). suc (blocks z k)) none ∙ ap suc (blocks_whole z 0 pos))
      ∙ ap (xor_bytes p) (append-nil (e (counter z start q)))
