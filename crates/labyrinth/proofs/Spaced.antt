-- A substitution spaced out: the eight words that are read for a word's bytes are together the word substituted, and IT and FT by it are IT and FT.
-- Assumes nothing.
use mathlib.Core.Path.{◌≡◌, refl, ap, sym, ◌∙◌}
use mathlib.Core.Bool.{Bool}
use mathlib.Core.List.{List}
use mathlib.Core.Logic.{◌≢◌}
use Prim.Native.Nat.{ℕ, ◌+◌, ◌-◌, ◌*◌, ◌/◌, ◌%◌, ◌^◌, ◌<◌}
use native.Mathlib.Omega.{arith}
use borrow.Author.Tests.{ne_eqb}
use lib.Dec.{eqb}
use lib.ListN.{get_or}
use Rattle.forms.specs.Lists.{tabulate, pick, xor_sum}
use Rattle.forms.specs.Words.{byte, join, each_byte}
use Rattle.forms.proofs.Lists.{get_d_tabulate}
use Rattle.forms.proofs.Sums.{xor_sum_only, xor_sum_lt, additive_xor_sum, pick_lt}
use Rattle.forms.proofs.Words.{byte_xor, byte_join, byte_lt, join_lt, word_ext, each_lt, byte_each}
use Rattle.forms.proofs.Bytes.{Bytes, tabulate_small}
use Rattle.field.specs.Substitution.{sub}
use Rattle.labyrinth.specs.Blocks.{Block}
use Rattle.labyrinth.specs.Cipher.{IMix, IT, FT}
use Rattle.labyrinth.specs.Groups.{spaced, spaced_sub, enter_by, leave_by}
use Rattle.labyrinth.proofs.Blocks.{length_zip}
use Rattle.labyrinth.proofs.Rounds.{Sized}

-- ---- the spaced substitution at a word

-- away from 7 nothing is picked
off : (m v : ℕ) → m ≢ 7 → pick (eqb m 7) v ≡ 0
unfolding pick
off m v n = ap (λ (t : Bool). pick t v) (ne_eqb m 7 n)

-- byte i
abbrev entry : List ℕ → ℕ → ℕ
entry s i = pick (eqb (i % 8) 7) (get_or s (i / 8) 0)

module _ (s : List ℕ) (small : Bytes s) where
  spaced_bytes : Bytes (spaced s)
  unfolding spaced
  spaced_bytes = tabulate_small 2056 (entry s) (2 ^ 8) (omega arith) (λ i. pick_lt (eqb (i % 8) 7) (get_or s (i / 8) 0) (small (i / 8)))

  at_seven : (x k : ℕ) → k < 8 → x < 2 ^ 8 → get_or (spaced s) (8 * x + 7 - k + k) 0 ≡ sub s x
  unfolding spaced sub pick
  at_seven x k h l =
      let e : 8 * x + 7 - k + k ≡ 8 * x + 7 = omega arith in
      let m : (8 * x + 7) % 8 ≡ 7 = omega arith in
      let d : (8 * x + 7) / 8 ≡ x = omega arith in
      ap (λ (i : ℕ). get_or (tabulate 2056 (entry s)) i 0) e ∙ get_d_tabulate 2056 (entry s) 0 (8 * x + 7) (omega arith) ∙ rw (m, d) refl

  elsewhere : (x k b : ℕ) → k < 8 → b < 8 → k ≢ b → x < 2 ^ 8 → get_or (spaced s) (8 * x + 7 - k + b) 0 ≡ 0
  unfolding spaced
  elsewhere x k b h g n l =
      let i : ℕ = 8 * x + 7 - k + b in
      let m : i % 8 ≢ 7 = λ e. n (omega arith) in
      get_d_tabulate 2056 (entry s) 0 i (omega arith) ∙ off (i % 8) (get_or s (i / 8) 0) m

  pub spaced_each : (w : ℕ) → spaced_sub (spaced s) w ≡ each_byte (sub s) w
  unfolding spaced_sub sub
  spaced_each w =
      word_ext (xor_sum 8 word) (each_byte (sub s) w) (xor_sum_lt 64 8 word (λ k h. join_lt 8 (read k) (λ b. spaced_bytes (8 * byte w k + 7 - k + b))))
      (each_lt (sub s) on_bytes w)
      (λ i h. additive_xor_sum (λ x. byte x i) (byte_xor i) 8 word
      ∙ xor_sum_only 8 (λ k. byte (word k) i) i h (λ k l n. at k i h ∙ elsewhere (byte w k) k i l h n (byte_lt w k))
      ∙ at i i h ∙ at_seven (byte w i) i h (byte_lt w i)
      ∙ sym (byte_each (sub s) on_bytes w i h))
    where
      read : ℕ → ℕ → ℕ
      read k b = get_or (spaced s) (8 * byte w k + 7 - k + b) 0

      word : ℕ → ℕ
      word k = join 8 (read k)

      at : (k i : ℕ) → i < 8 → byte (word k) i ≡ read k i
      at k i h = byte_join 8 (read k) (λ b. spaced_bytes (8 * byte w k + 7 - k + b)) i h

      on_bytes : (x : ℕ) → x < 2 ^ 8 → sub s x < 2 ^ 8
      on_bytes x l = small x

-- ---- IT and FT by it

pub enter_is_IT : (S : ℕ → ℕ) (n : ℕ) (k p : Block) → enter_by (each_byte S) n k p ≡ IT S n k p
unfolding enter_by IT
enter_is_IT S n k p = refl

pub leave_is_FT : (S : ℕ → ℕ) (n : ℕ) (k s : Block) → leave_by (each_byte S) n k s ≡ FT S n k s
unfolding leave_by FT
leave_is_FT S n k s = refl

pub enter_sized : (W : ℕ → ℕ) (n : ℕ) (k p : Block) → Sized n (enter_by W n k p)
unfolding enter_by IMix
enter_sized W n k p = record { left = length_zip n _ _ _; right = length_zip n _ _ _ }

pub leave_sized : (W : ℕ → ℕ) (n : ℕ) (k s : Block) → Sized n (leave_by W n k s)
unfolding leave_by
leave_sized W n k s = record { left = length_zip n _ _ _; right = length_zip n _ _ _ }
