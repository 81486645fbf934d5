-- Eight words from 64 bytes, and to them with a mask.
-- Assumes nothing.
use mathlib.Core.Path.{◌≡◌, sym, ap, ap₂, ◌∙◌}
use mathlib.Core.List.{List, ◌++◌, append-nil}
use Prim.Native.Nat.{ℕ, ◌+◌, ◌*◌, ◌/◌, ◌%◌, ◌<◌}
use native.Mathlib.Omega.{arith}
use lib.Bits.{bit_xor}
use lib.ListN.{length, get_or, take, drop, drop_of_length-le}
use lib.Seq.{take_all}
use Rattle.forms.specs.Words.{byte, join, words, bytes}
use Rattle.forms.specs.Strings.{xor_bytes}
use Rattle.forms.proofs.Lists.{Replaced, replaced_all}
use Rattle.forms.proofs.Words.{byte_xor}
use Rattle.forms.proofs.Bytes.{Bytes, length_bytes, get_or_bytes}
use Rattle.forms.proofs.Strings.{length_xor_bytes, get_or_xor_bytes}
use Rattle.buffers.specs.Words.{word_at, with_word}
use Rattle.strings.proofs.Laying.{lay_word, byte_word_at}

-- word j of a string
abbrev pub word_in : List ℕ → ℕ → ℕ
word_in s j = join 8 (λ b. get_or s (8 * j + b) 0)

-- all eight are there
pub words_taken : (s old : List ℕ) {i : ℕ} {x : List ℕ} → length old ≡ 8 → i ≡ 8 → Replaced (word_in s) old i x → x ≡ words 8 s
unfolding words
words_taken s old e p r = replaced_all (word_in s) old p e r

module _ (x mask d₀ : List ℕ) (bm : Bytes mask) (lm : length mask ≡ 64) (ld : length d₀ ≡ 64) where
  masked_length : length (xor_bytes (bytes 8 x) mask) ≡ 64
  masked_length = length_xor_bytes (bytes 8 x) mask (omega (arith, length_bytes 8 x)) ∙ length_bytes 8 x

  -- a word more
  pub put_more : (i : ℕ) {d : List ℕ} {w : ℕ} → i < 8 → length d ≡ 64 → d ≡ take (8 * i) (xor_bytes (bytes 8 x) mask) ++ drop (8 * i) d₀
      → w ≡ bit_xor (get_or x i 0) (word_at mask (8 * i)) → with_word (8 * i) w d ≡ take (8 * (i + 1)) (xor_bytes (bytes 8 x) mask) ++ drop (8 * (i + 1)) d₀
  put_more i {d} {w} l e p q =
      ap (λ (v : ℕ). with_word (8 * i) v d) q
      ∙ lay_word (xor_bytes (bytes 8 x) mask) d₀ (8 * i) (bit_xor (get_or x i 0) (word_at mask (8 * i))) (omega (arith, masked_length)) (omega arith) (e ∙ sym ld) p at
      ∙ ap (λ (k : ℕ). take k (xor_bytes (bytes 8 x) mask) ++ drop k d₀) next
    where
      next : 8 * i + 8 ≡ 8 * (i + 1)
      next = omega arith

      at : (k : ℕ) → k < 8 → get_or (xor_bytes (bytes 8 x) mask) (8 * i + k) 0 ≡ byte (bit_xor (get_or x i 0) (word_at mask (8 * i))) k
      at k m =
          let a : (8 * i + k) / 8 ≡ i = omega arith in
          let b : (8 * i + k) % 8 ≡ k = omega arith in
          get_or_xor_bytes (bytes 8 x) mask (8 * i + k) (omega (arith, length_bytes 8 x)) (omega arith)
          ∙ ap₂ bit_xor (get_or_bytes 8 x (8 * i + k) (omega arith) ∙ ap₂ (λ (j h : ℕ). byte (get_or x j 0) h) a b) (sym (byte_word_at mask (8 * i) bm (omega arith) k m))
          ∙ sym (byte_xor k (get_or x i 0) (word_at mask (8 * i)))

  -- all eight are put
  pub put_all : {i : ℕ} {d : List ℕ} → i ≡ 8 → d ≡ take (8 * i) (xor_bytes (bytes 8 x) mask) ++ drop (8 * i) d₀ → d ≡ xor_bytes (bytes 8 x) mask
  put_all {i} h p =
      p ∙ ap (λ (k : ℕ). take (8 * k) (xor_bytes (bytes 8 x) mask) ++ drop (8 * k) d₀) h
      ∙ ap₂ ◌++◌ (take_all 64 (xor_bytes (bytes 8 x) mask) (omega (arith, masked_length))) (drop_of_length-le d₀ {i = 64} (omega arith)) ∙ append-nil _
