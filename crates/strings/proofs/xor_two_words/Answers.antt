-- One word is laid behind the other.
-- Assumes nothing.
use mathlib.Core.Path.{◌≡◌, refl, ap₂, ◌∙◌}
use mathlib.Core.List.{◌++◌}
use Prim.Native.Nat.{ℕ, ◌+◌, ◌≤◌, ◌<◌}
use native.Mathlib.Omega.{arith}
use lib.Bits.{bit_xor}
use lib.ListN.{get_or, take, drop}
use Rattle.forms.specs.Words.{byte}
use Rattle.forms.specs.Strings.{xor_bytes}
use Rattle.forms.proofs.Strings.{length_shorter}
use Rattle.buffers.specs.Words.{word_at, with_word}
use Rattle.strings.proofs.Laying.{lay_word, xor_word}
use Rattle.strings.proofs.xor_two_words.Goals as goal

pub returns : goal.returns
returns c =
    let g = c.args in
    let a = g.a.now in
    let b = g.b.now in
    let xs = xor_bytes a b in
    let both : (i : ℕ) → i + 8 ≤ 16 → (k : ℕ) → k < 8 → get_or xs (i + k) 0 ≡ byte (bit_xor (word_at a i) (word_at b i)) k =
    λ i h. xor_word a b i (λ j. (c.type_inv.a j).fits) (λ j. (c.type_inv.b j).fits) (omega arith) (omega arith) in
    let low : c.store_word.new.d ≡ take 8 xs ++ drop 8 g.d.now =
    c.store_word.ensures ∙ ap₂ (λ (y z : ℕ). with_word 0 (bit_xor y z) g.d.now) c.load_word.ensures c.load_word-2.ensures
    ∙ lay_word xs g.d.now 0 (bit_xor (word_at a 0) (word_at b 0)) (omega (arith, length_shorter a b)) (omega arith) refl refl (both 0 (omega arith)) in
    c.store_word-2.ensures ∙ ap₂ (λ (y z : ℕ). with_word 8 (bit_xor y z) c.store_word.new.d) c.load_word-3.ensures c.load_word-4.ensures
    ∙ lay_word xs g.d.now 8 (bit_xor (word_at a 8) (word_at b 8)) (omega (arith, length_shorter a b)) (omega arith) c.store_word.auto.d low (both 8 (omega arith))
