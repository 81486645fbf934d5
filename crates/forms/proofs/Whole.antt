-- Strings read whole, the bytes of words one after another, and a buffer of a record's length, or another.
-- Assumes nothing.
use mathlib.Core.Path.{◌≡◌, refl, sym, ap, ap₂, ◌∙◌}
use mathlib.Core.List.{List, ◌++◌, append-nil}
use Prim.Native.Nat.{ℕ, suc, ◌+◌, ◌*◌, ◌/◌, ◌%◌}
use native.Mathlib.Nat.{zero-add}
use native.Mathlib.Omega.{arith}
use borrow.Author.Tests.{eq-eqb, ne_eqb}
use lib.Dec.{eqb}
use lib.ListN.{length, get_or, drop}
use lib.Seq.{get_or-drop}
use Rattle.forms.specs.Lists.{tabulate, when, words_from}
use Rattle.forms.specs.Words.{byte, bytes}
use Rattle.forms.proofs.Lists.{tabulate_cong, tabulated, tabulate_add}

-- a string read whole
pub read_whole : (b : List ℕ) (n : ℕ) → length b ≡ n → words_from n 0 b ≡ b
unfolding words_from
read_whole b n h = sym (tabulated n (λ i. get_or b (0 + i) 0) 0 b h (λ i l. ap (λ (k : ℕ). get_or b k 0) (sym (zero-add i))))

-- the bytes of a first word, and of those behind it
pub bytes_first : (m : ℕ) (xs : List ℕ) → bytes (suc m) xs ≡ tabulate 8 (byte (get_or xs 0 0)) ++ bytes m (drop 1 xs)
unfolding bytes
bytes_first m xs =
    let f : ℕ → ℕ = λ i. byte (get_or xs (i / 8) 0) (i % 8) in
    let e : 8 * suc m ≡ 8 + 8 * m = omega arith in
    ap (λ (k : ℕ). tabulate k f) e ∙ tabulate_add 8 (8 * m) f
    ∙ ap₂ ◌++◌
    (tabulate_cong 8 f (byte (get_or xs 0 0)) (λ i h. let a : i / 8 ≡ 0 = omega arith in let b : i % 8 ≡ i = omega arith in ap₂ (λ (u v : ℕ). byte (get_or xs u 0) v) a b))
    (tabulate_cong (8 * m) (λ i. f (8 + i)) (λ i. byte (get_or (drop 1 xs) (i / 8) 0) (i % 8))
    (λ i h. let a : (8 + i) / 8 ≡ 1 + i / 8 = omega arith in let b : (8 + i) % 8 ≡ i % 8 = omega arith in
    ap₂ (λ (u v : ℕ). byte (get_or xs u 0) v) a b ∙ ap (λ (w : ℕ). byte w (i % 8)) (sym (get_or-drop 1 xs (i / 8) 0))))

pub bytes_two : (xs : List ℕ) → bytes 2 xs ≡ tabulate 8 (byte (get_or xs 0 0)) ++ tabulate 8 (byte (get_or xs 1 0))
unfolding bytes tabulate
bytes_two xs =
    bytes_first 1 xs
    ∙ ap (λ (x : List ℕ). tabulate 8 (byte (get_or xs 0 0)) ++ x)
    (bytes_first 0 (drop 1 xs) ∙ append-nil _ ∙ ap (λ (w : ℕ). tabulate 8 (byte w)) (get_or-drop 1 xs 0 0))

-- ---- a buffer of the record's length, or another

pub not_written : (d x : List ℕ) (size : ℕ) → (length d ≡ size → ⊥) → d ≡ when (eqb (length d) size) x d
not_written d x size h = rw (ne_eqb (length d) size h)

pub written : (d x : List ℕ) (size : ℕ) {e : List ℕ} → length d ≡ size → e ≡ x → e ≡ when (eqb (length d) size) x d
written d x size h p = rw (eq-eqb (length d) size h) p

pub as_written : (d x : List ℕ) (size : ℕ) {e : List ℕ} → length d ≡ size → e ≡ when (eqb (length d) size) x d → e ≡ x
as_written d x size h p = p ∙ rw (eq-eqb (length d) size h) refl
